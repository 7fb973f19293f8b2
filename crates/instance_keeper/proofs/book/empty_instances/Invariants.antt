use Rattle.std.proofs.Common.{◌≡◌, None, length, replicate}
use Rattle.instance_keeper.proofs.Prelude.{CountsUp, values}
use Rattle.instance_keeper.proofs.book.empty_instances.Given as goal

abbrev pub invariant-loop-no : goal.invariant-loop-no
invariant-loop-no l = record {
  keys : CountsUp 0 l.instances.entries;
  len : length l.instances.entries ≡ l.no;
  values : values l.instances ≡ replicate l.no None;
}
