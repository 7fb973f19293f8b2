use Rattle.std.proofs.Common.{◌≡◌, ◌≤◌, take, count_by}
use Rattle.scenarios.proofs.Prelude.{is_rotate}
use Rattle.scenarios.proofs.room.rotations.Given as goal

abbrev pub invariant-loop-t : goal.invariant-loop-t
invariant-loop-t l = (l.count ≡ count_by is_rotate (take l.t-index l.turns)) × (l.count ≤ l.t-index)
