-- Texts on their way to sinks.
use Rattle.std.proofs.Common.{◌≡◌, ◌∙◌, ℕ, ◌+◌, ◌≤◌, List, [], ◌++◌, length, take, sym, ap, subst, arith, append_assoc, Option, Some, None, Result, Ok, Err, OnOk, OnErr}
use Rattle.scenario_generator.proofs.Prelude.{Appends, AppendsFront, IsHanded, Joins, JoinsFront, Stays, StaysFront, append-nil, length-append}
use Rattle.scenario_generator.proofs.Prelude.{take-append-add, take-append-le, take-length}

-- ---- what sinks take

-- nothing was taken
pub takes_nothing : (known : Option (List ℕ)) → Appends known known []
takes_nothing None = tt
takes_nothing (Some xs) = sym (append-nil xs)

-- one text and then another
pub takes_more : (before mid after : Option (List ℕ)) (xs ys : List ℕ) → Appends before mid xs → Appends mid after ys → Appends before after (xs ++ ys)
takes_more None mid after xs ys first second = tt
takes_more (Some b) None after xs ys first second = absurd first
takes_more (Some b) (Some m) None xs ys first second = absurd second
takes_more (Some b) (Some m) (Some a) xs ys first second = second ∙ (ap (λ (v : List ℕ). v ++ ys) first ∙ append_assoc b xs ys)

-- a text and then a prefix of another are a prefix of both
pub front_more : (before mid after : Option (List ℕ)) (xs ys : List ℕ) → Appends before mid xs → AppendsFront mid after ys → AppendsFront before after (xs ++ ys)
front_more before mid after xs ys first second =
    let n = second.0 in
    let few : n ≤ length ys = second.1 in
    let within : length xs + n ≤ length (xs ++ ys) = omega (arith, few, length-append xs ys) in
    (length xs + n, within, subst (λ (v : List ℕ). Appends before after v) (sym (take-append-add xs ys n)) (takes_more before mid after xs (take n ys) first second.2))

-- a prefix of a text is one of a longer text
pub front_of_longer : (before after : Option (List ℕ)) (xs ys : List ℕ) → AppendsFront before after xs → AppendsFront before after (xs ++ ys)
front_of_longer before after xs ys took =
    let n = took.0 in
    let few : n ≤ length xs = took.1 in
    let within : n ≤ length (xs ++ ys) = omega (arith, few, length-append xs ys) in
    (n, within, subst (λ (v : List ℕ). Appends before after v) (sym (take-append-le n xs ys few)) took.2)

-- the whole is a prefix
pub whole_is_front : (before after : Option (List ℕ)) (bytes : List ℕ) → Appends before after bytes → AppendsFront before after bytes
whole_is_front before after bytes took =
    let within : length bytes ≤ length bytes = omega arith in
    (length bytes, within, subst (λ (v : List ℕ). Appends before after v) (sym (take-length bytes)) took)

-- ---- texts in pieces

-- the sink got what was waiting
pub handed_over : {T F : Type 0} (r : Result T F) (old new : Option (List ℕ)) (held lent held' : List ℕ) → lent ≡ held → held' ≡ [] → OnOk r (Appends old new lent) → OnOk r (Stays old held new held')
handed_over (Ok x) old new held lent held' same empty took = λ before text h. record {
  front = h.front ++ held;
  took = takes_more before old new h.front held h.took (subst (λ (v : List ℕ). Appends old new v) same took);
  is = h.is ∙ (sym (append-nil (h.front ++ held)) ∙ ap (λ (v : List ℕ). h.front ++ held ++ v) (sym empty));
}
handed_over (Err e) old new held lent held' same empty took = took

-- it took a prefix of what was waiting
pub handed_front : {T F : Type 0} (r : Result T F) (old new : Option (List ℕ)) (held lent : List ℕ) → lent ≡ held → OnErr r (AppendsFront old new lent) → OnErr r (StaysFront old held new)
handed_front (Ok x) old new held lent same took = took
handed_front (Err e) old new held lent same took = λ before text h.
    subst (λ (v : List ℕ). AppendsFront before new v) (sym h.is) (front_more before old new h.front held h.took (subst (λ (v : List ℕ). AppendsFront old new v) same took))

-- ---- texts that join others

-- what was taken is a prefix of the text, and of a longer one
pub handed_is_front : (before now : Option (List ℕ)) (held text more : List ℕ) → IsHanded before now held text → AppendsFront before now (text ++ more)
handed_is_front before now held text more h =
    front_of_longer before now text more
    (subst (λ (v : List ℕ). AppendsFront before now v) (sym h.is) (front_of_longer before now h.front held (whole_is_front before now h.front h.took)))

-- nothing joins
pub joins_nothing : (old : Option (List ℕ)) (held first : List ℕ) → first ≡ [] → Joins first old held old held
joins_nothing old held first empty = λ before text h. subst (λ (v : List ℕ). IsHanded before old held v) (sym (ap (λ (v : List ℕ). text ++ v) empty ∙ append-nil text)) h

-- more is waiting
pub joins_more : (old new : Option (List ℕ)) (held held' held'' first more both : List ℕ) → Joins first old held new held' → held'' ≡ held' ++ more → both ≡ first ++ more → Joins both old held new held''
joins_more old new held held' held'' first more both joins added is = λ before text h.
    let mid = joins before text h in
    record {
      front = mid.front;
      took = mid.took;
      is = ap (λ (v : List ℕ). text ++ v) is ∙ (sym (append_assoc text first more)
          ∙ (ap (λ (v : List ℕ). v ++ more) mid.is ∙ (append_assoc mid.front held' more ∙ ap (λ (v : List ℕ). mid.front ++ v) (sym added))));
    }

-- the sink took a prefix of what was to join
pub joins_front : (old new : Option (List ℕ)) (held held' first more whole : List ℕ) → Joins first old held new held' → whole ≡ first ++ more → JoinsFront whole old held new
joins_front old new held held' first more whole joins is = λ before text h.
    subst (λ (v : List ℕ). AppendsFront before new v) (append_assoc text first more ∙ ap (λ (v : List ℕ). text ++ v) (sym is)) (handed_is_front before new held' (text ++ first) more (joins before text h))

-- the same, if it failed
pub stays_front : (old mid new : Option (List ℕ)) (held held' first more whole : List ℕ) → Joins first old held mid held' → StaysFront mid held' new → whole ≡ first ++ more → JoinsFront whole old held new
stays_front old mid new held held' first more whole joins stays is = λ before text h.
    subst (λ (v : List ℕ). AppendsFront before new v) (append_assoc text first more ∙ ap (λ (v : List ℕ). text ++ v) (sym is))
    (front_of_longer before new (text ++ first) more (stays before (text ++ first) (joins before text h)))

-- what is known without the answer
pub on_err : {T E : Type 0} (P : Type 0) (r : Result T E) → P → OnErr r P
on_err P (Ok x) p = tt
on_err P (Err e) p = p
