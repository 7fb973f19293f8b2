use Rattle.std.proofs.Common.{◌≡◌, true, eqb, subst, arith, ◌&&◌}
use Rattle.gtid_sets.proofs.Prelude.{Decides, Interval, nat_tests, slice_eq-Decides}
use Rattle.gtid_sets.proofs.set.GtidSet.is_same.Goals as goal

same_parts : (a b : Interval) → (eqb a.uuid b.uuid && (eqb a.first b.first && eqb a.last b.last)) ≡ true → a ≡ b
same_parts a b e = grind (arith, nat_tests)

itself : (a : Interval) → (eqb a.uuid a.uuid && (eqb a.first a.first && eqb a.last a.last)) ≡ true
itself a = grind (arith, nat_tests)

decided : (a b : Interval) → Decides (eqb a.uuid b.uuid && (eqb a.first b.first && eqb a.last b.last)) (a ≡ b)
decided a b = (same_parts a b, λ e. subst (λ c. (eqb a.uuid c.uuid && (eqb a.first c.first && eqb a.last c.last)) ≡ true) e (itself a))

pub returns : goal.returns
returns c = rw (← c.list.ensures.list, ← c.list-2.ensures.list) (slice_eq-Decides decided c.list.result.now c.list-2.result.now c.eq.result c.eq.ensures)
