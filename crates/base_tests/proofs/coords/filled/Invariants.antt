use Rattle.std.proofs.Common.{◌≡◌, ◌-◌, ◌≤◌, length}
use Rattle.base_tests.proofs.coords.filled.Given as goal

-- the room stays
abbrev pub invariant-pushes : goal.invariant-pushes
invariant-pushes l = (l.log.room ≡ 1000000) × (length l.log.log.entries ≤ 1000000)

abbrev pub decreases-pushes : goal.decreases-pushes
decreases-pushes l = 1000000 - length l.log.log.entries
