use Rattle.std.proofs.Common.{◌≡◌, ◌∙◌, ◌∷◌, [], List, length, refl, sym, ap, rules, arith}
use Rattle.std.specs.Vec.Iter.{into_iter_items}
use Rattle.knowledge.specs.KnowingBy.{known}
use Rattle.knowledge.proofs.Remaining.{Remains-next, all-begun, next-can, next-fits, next-room, next-spare}
use Rattle.knowledge.proofs.knowledge.Knowledge.join_all.Goals as goal

nothing-left : {X : Type 0} (xs : List X) → length xs ≡ 0 → xs ≡ []
nothing-left [] h = refl
nothing-left (x ∷ xs) h = absurd (omega (arith, h))

pub join_recovery-requires : goal.join_recovery-requires
join_recovery-requires c =
    let at = c.loop-begun in
    let steps : into_iter_items at.begun-iterator ≡ c.in-Some.begun ∷ into_iter_items c.next.new.self = c.in-Some.ensures.steps.0 in
    record {
      can =
          next-can _ _ (into_iter_items at.begun-iterator) c.in-Some.begun (into_iter_items c.next.new.self) steps (known at.self) _ _ _ at.invariant.left;
      id =
          next-fits _ _ (into_iter_items at.begun-iterator) c.in-Some.begun (into_iter_items c.next.new.self) steps (known at.self) _ _ _ at.invariant.left;
      room =
          next-room _ _ (into_iter_items at.begun-iterator) c.in-Some.begun (into_iter_items c.next.new.self) steps (known at.self) _ _ _ at.invariant.left;
      spare =
          next-spare _ _ (into_iter_items at.begun-iterator) c.in-Some.begun (into_iter_items c.next.new.self) steps (known at.self) _ _ _ at.invariant.left;
    }

pub loop-begun-preserved : goal.loop-begun-preserved
loop-begun-preserved c =
    let at = c.loop-begun in
    let steps : into_iter_items at.begun-iterator ≡ c.in-Some.begun ∷ into_iter_items c.next.new.self = c.in-Some.ensures.steps.0 in
    let len = at.invariant.count in
    let gone = c.in-Some.ensures.steps.1 in
    let short = ap length steps in
    let made = c.join_recovery.ensures in
    record {
      goes = search rules;
      finite = search rules;
      count = omega (arith, len, gone, short);
      left = Remains-next _ _ (into_iter_items at.begun-iterator) c.in-Some.begun (into_iter_items c.next.new.self) steps (known at.self) _ _ _ at.invariant.left
          (known c.join_recovery.new.self) _ _ _ made.known made.spare made.length made.capacity;
    }

pub returns : goal.returns
returns c =
    let at = c.loop-begun in
    let none : into_iter_items at.begun-iterator ≡ [] = nothing-left (into_iter_items at.begun-iterator) (sym at.invariant.count ∙ c.in-None.ensures.steps.0) in
    all-begun _ _ (into_iter_items at.begun-iterator) none (known at.self) _ _ _ at.invariant.left
