use Rattle.std.proofs.Common.{◌≡◌, take, length}
use Rattle.orch_base.proofs.same.same_values.Given as goal

abbrev pub invariant-loop-n : goal.invariant-loop-n
invariant-loop-n g l = (take l.n l.values ≡ take l.n l.others) × (length l.values ≡ length l.others)
