use Rattle.std.proofs.Common.{length, ◌-◌, ◌<◌, ◌≤◌}
use Rattle.kept_rows.proofs.Prelude.{AllWithin, at, sort_key_of}
use Rattle.kept_rows.proofs.memory.first_from.Given as goal

abbrev pub invariant-halves : goal.invariant-halves
invariant-halves l = record {
  rises : l.from ≤ l.to;
  within : l.to ≤ length l.rows;
  below : AllWithin (λ r. sort_key_of r < at l.sort_key) l.rows 0 l.from;
  above : AllWithin (λ r. at l.sort_key ≤ sort_key_of r) l.rows l.to (length l.rows);
}

abbrev pub decreases-halves : goal.decreases-halves
decreases-halves l = l.to - l.from
