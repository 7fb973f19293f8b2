use Rattle.gtid_sets.proofs.Count.{pairs_length, pairs_rise, pairs_held}
use Rattle.gtid_sets.proofs.set.count_is_pairs.Goals as goal

pub returns : goal.returns
returns c = record {
  count = λ xs set. pairs_length xs;
  rises = pairs_rise;
  held = pairs_held;
}
