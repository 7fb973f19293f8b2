use Rattle.std.proofs.Common.{◌≡◌, ℕ, ◌==◌, ◌&&◌, ◌∙◌, List, ap, filter, sym, subst}
use Rattle.gtid_sets.proofs.Prelude.{Interval, IsSet, holds}
use Rattle.gtid_sets.proofs.Parts.{part_is_set, part_holds}
use Rattle.gtid_sets.proofs.set.GtidSet.of_uuid.Goals as goal

pub invariant_of-of : goal.invariant_of-of
invariant_of-of c =
    let part : c.in_ok-intervals.intervals.items ≡ filter (λ s. s.uuid == c.args.uuid) c.args.self.now =
    c.in_ok-intervals.ensures ∙ ap (λ (xs : List Interval). filter (λ s. s.uuid == c.args.uuid) xs) c.list.ensures.list in
    subst IsSet (sym part) (part_is_set c.args.uuid c.args.self.now c.list.ensures.set)

pub returns-clause-has : goal.returns-clause-has
returns-clause-has c =
    let part : c.in_ok-part.part ≡ filter (λ s. s.uuid == c.args.uuid) c.args.self.now =
    c.in_ok-part.ensures ∙ (c.in_ok-intervals.ensures ∙ ap (λ (xs : List Interval). filter (λ s. s.uuid == c.args.uuid) xs) c.list.ensures.list) in
    let P : List Interval → Type 0 = λ xs. (u n : ℕ) → holds xs u n ≡ ((u == c.args.uuid) && holds c.args.self.now u n) in
    subst P (sym part) (part_holds c.args.uuid c.args.self.now)
