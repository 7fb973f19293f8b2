use Rattle.recovery_laws.proofs.Ringed.{fresh-own, kept-own, shown-own, forgotten-own}
use Rattle.recovery_laws.proofs.rings.rings_stay_own.Goals as goal

pub returns : goal.returns
returns c = record {
  empty = fresh-own;
  kept = kept-own;
  shown = shown-own;
  forgotten = forgotten-own;
}
