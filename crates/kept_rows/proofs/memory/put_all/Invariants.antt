use Rattle.std.proofs.Common.{◌≡◌, ◌+◌, ◌≤◌, length, vec_len, vec_capacity, fold}
use Rattle.kept_rows.proofs.Prelude.{IsRising, put}
use Rattle.kept_rows.proofs.memory.put_all.Given as goal

abbrev pub invariant-rows : goal.invariant-rows
invariant-rows l = record {
  items : l.rows.items ≡ fold put l.initial.rows.items l.yielded;
  rising : IsRising l.rows.items;
  len : vec_len l.rows ≤ vec_len l.initial.rows + length l.yielded;
  capacity : vec_capacity l.initial.rows ≤ vec_capacity l.rows;
}
