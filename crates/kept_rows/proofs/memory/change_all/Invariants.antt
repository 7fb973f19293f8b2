use Rattle.std.proofs.Common.{◌≡◌, ◌+◌, ◌≤◌, length, vec_len, vec_capacity}
use Rattle.kept_rows.proofs.Prelude.{IsRising, changed}
use Rattle.kept_rows.proofs.memory.change_all.Given as goal

abbrev pub invariant-changes : goal.invariant-changes
invariant-changes l = record {
  items : l.rows.items ≡ changed l.initial.rows.items l.yielded;
  rising : IsRising l.rows.items;
  len : vec_len l.rows ≤ vec_len l.initial.rows + length l.yielded;
  capacity : vec_capacity l.initial.rows ≤ vec_capacity l.rows;
}
