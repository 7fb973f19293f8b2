use Rattle.std.proofs.Common.{◌≡◌, take, length, vec_len, vec_capacity, ◌≤◌}
use Rattle.kept_rows.proofs.memory.copy_rows.Given as goal

abbrev pub invariant-loop-row : goal.invariant-loop-row
invariant-loop-row l = record {
  items : l.copies.items ≡ take l.row-index l.rows;
  len : vec_len l.copies ≡ l.row-index;
  capacity : length l.rows ≤ vec_capacity l.copies;
}
