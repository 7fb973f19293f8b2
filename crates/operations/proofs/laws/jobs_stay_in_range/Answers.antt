use Rattle.operations.proofs.Named.{id-after, named-after, range-after}
use Rattle.operations.proofs.laws.jobs_stay_in_range.Goals as goal

pub returns : goal.returns
returns c = record {
  number = id-after;
  named = named-after;
  range = range-after;
}
