-- Texts on their way to sinks.
use Rattle.std.proofs.Common.{◌≡◌, ◌∙◌, ℕ, ◌+◌, ◌≤◌, List, [], ◌++◌, true, false, sym, ap, subst, arith, append_assoc, Option, Result, Ok, Err, Bool, OnOk, OnErr, is_err}
use Rattle.tasks.proofs.Prelude.{Appends, AppendsFront, Carries, End, FailsIn, HasCause, IsHanded, IsOnTheWay, Pieces, Rose, Taken, Takes, TakesFront}
use Rattle.tasks.proofs.Prelude.{append-nil, between}
pub use Rattle.scenario_dump.proofs.Sends.{front_more, front_of_longer, takes_more, takes_nothing, whole_is_front}

-- ---- what sinks take

-- and nothing is one of each text
pub nothing_is_front : (before after : Option (List ℕ)) (bytes : List ℕ) → Appends before after [] → AppendsFront before after bytes
nothing_is_front before after bytes took = (0, omega arith, took)

pub rose_later : (before mid after : ℕ) → before ≤ mid → Rose mid after → Rose before after
rose_later before mid after later rose = omega (arith, later, rose)

-- ---- texts in pieces

-- the sink got what was waiting
handed_over : {T F : Type 0} (r : Result T F) (from old new : Taken) (held held' text : List ℕ) → held' ≡ [] → OnOk r (Appends old.bytes new.bytes held) → OnErr r (AppendsFront old.bytes new.bytes held)
    → HasCause old.faults new.faults r → IsHanded (between from old) held text → IsOnTheWay (between from new) held' text (is_err r)
handed_over (Ok x) from old new held held' text empty ok err cause h = record {
  front = h.front ++ held;
  took = takes_more from.bytes old.bytes new.bytes h.front held h.took ok;
  is = h.is ∙ (sym (append-nil (h.front ++ held)) ∙ ap (λ (v : List ℕ). h.front ++ held ++ v) (sym empty));
  later = omega (arith, h.later, cause.later);
}
handed_over (Err e) from old new held held' text empty ok err cause h = record {
  failed = rose_later from.faults old.faults new.faults h.later cause.failed;
  front = subst (λ (v : List ℕ). AppendsFront from.bytes new.bytes v) (sym h.is) (front_more from.bytes old.bytes new.bytes h.front held h.took err);
}

pub carried : {T F : Type 0} (r : Result T F) (from old new : Taken) (p : Pieces) (lent held' text : List ℕ) (failed : Bool) → p.failed ≡ false → failed ≡ is_err r → lent ≡ p.held.items → held' ≡ []
    → OnOk r (Appends old.bytes new.bytes lent) → OnErr r (AppendsFront old.bytes new.bytes lent) → HasCause old.faults new.faults r → Carries (between from old) p text → IsOnTheWay (between from new) held' text failed
carried r from old new p lent held' text failed unfailed is same empty ok err cause carries =
    subst (IsOnTheWay (between from new) held' text) (sym is)
    (handed_over r from old new lent held' text empty ok err cause
    (subst (λ (v : List ℕ). IsHanded (between from old) v text) (sym same) (subst (IsOnTheWay (between from old) p.held.items text) unfailed carries)))

-- more was waiting
pub held_more : (e : End) (held held' more text : List ℕ) (failed : Bool) → held' ≡ held ++ more → IsOnTheWay e held text failed → IsOnTheWay e held' (text ++ more) failed
held_more e held held' more text false is h = record {
  front = h.front;
  took = h.took;
  is = ap (λ (v : List ℕ). v ++ more) h.is ∙ (append_assoc h.front held more ∙ ap (λ (v : List ℕ). h.front ++ v) (sym is));
  later = h.later;
}
held_more e held held' more text true is h = record { failed = h.failed; front = front_of_longer e.old.bytes e.new.bytes text more h.front }

-- what the sink took is a prefix of the text
pub front_taken : (e : End) (held text : List ℕ) (failed : Bool) → IsOnTheWay e held text failed → TakesFront e text
front_taken e held text false h = subst (λ (v : List ℕ). AppendsFront e.old.bytes e.new.bytes v) (sym h.is) (front_of_longer e.old.bytes e.new.bytes h.front held (whole_is_front e.old.bytes e.new.bytes h.front h.took))
front_taken e held text true h = h.front

-- it failed
pub sink_failed : (e : End) (held text : List ℕ) (failed : Bool) → failed ≡ true → IsOnTheWay e held text failed → FailsIn e text
sink_failed e held text failed is h = subst (IsOnTheWay e held text) is h

-- it took all of the text, and nothing is waiting
pub all_taken : (e : End) (held text : List ℕ) (failed : Bool) → failed ≡ false → held ≡ [] → IsOnTheWay e held text failed → Takes e text
all_taken e held text failed is empty h =
    let handed : IsHanded e held text = subst (IsOnTheWay e held text) is h in
    let same : text ≡ handed.front = handed.is ∙ (ap (λ (v : List ℕ). handed.front ++ v) empty ∙ append-nil handed.front) in
    subst (λ (v : List ℕ). Takes e v) (sym same) handed.took

-- the same, if only what is waiting changed
pub held_on : (e : End) (p p' : Pieces) (more text : List ℕ) → p'.failed ≡ p.failed → p'.held.items ≡ p.held.items ++ more → Carries e p text → Carries e p' (text ++ more)
held_on e p p' more text same is h = subst (IsOnTheWay e p'.held.items (text ++ more)) (sym same) (held_more e p.held.items p'.held.items more text p.failed is h)
