-- A log with the limit 200 after two transactions of 100 bytes, by computation.
use Rattle.std.proofs.Common.{◌≡◌, ℕ, refl, Some, None}
use Rattle.binlog_coords.proofs.Prelude.{Coord, Log, coord_after, end_of, next_after, opened, place, push}
use Rattle.binlog_coords.proofs.Prelude.next

abbrev two : Log
two = push (push (opened 200) 100) 100

abbrev at : ℕ → ℕ → Coord
at file pos = record { file = file; pos = pos }

-- the second transaction reached the limit, so the log ends at the head of the second file
two-end : end_of two ≡ at 2 4
two-end = refl

-- the end of the first file and the head of the second are one place
two-place_end : place two (at 1 204) ≡ Some 2
two-place_end = refl

two-place_head : place two (at 2 4) ≡ Some 2
two-place_head = refl

-- within a transaction there is no place
two-place_within : place two (at 1 150) ≡ None
two-place_within = refl

two-after_end : next_after two (at 1 204) ≡ next.Rotate (at 2 4)
two-after_end = refl

two-after_head : next_after two (at 2 4) ≡ next.End
two-after_head = refl

-- the first transaction, and the end of each of the two
two-after_start : next_after two (at 1 4) ≡ next.Entry 0 (at 1 104)
two-after_start = refl

two-coord_after : coord_after two 2 ≡ at 1 204
two-coord_after = refl
