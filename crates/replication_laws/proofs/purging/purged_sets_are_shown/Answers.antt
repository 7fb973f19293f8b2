use Rattle.replication_laws.proofs.Entries.{shown-first, shown-only, shown-purged, shown-unlogged, shown-without}
use Rattle.replication_laws.proofs.purging.purged_sets_are_shown.Goals as goal

pub returns : goal.returns
returns c = record {
  first = λ w n seen s shows at. shown-first w n seen s shows at;
  has = λ w n seen s placed shows at on logs k t e there lies less. shown-purged w n seen s shows at placed on logs k t e there lies less;
  only = λ w n seen s placed shows at logs u m h. shown-only w n seen s shows at placed logs u m h;
  without_gtids = shown-without;
  without_log = λ w n seen s placed shows at off. shown-unlogged w n seen s shows at placed off;
}
