-- A way doesn't come back: a server that goes up to another one doesn't pass itself.
use Rattle.std.proofs.Common.{◌≡◌, ℕ, ◌<◌, Bool, true, false, List, [], ◌∷◌, length, refl, sym, ◌∙◌, ap, subst, Option, Some, None, arith, zero, suc, ◌==◌, All, IfSome, option_map, if◌then◌else◌}
use Rattle.move_laws.proofs.Prelude.{All-cons, All-nil, All-weaker, BookState, ServerNo, eqb-true, is_given, parent_at, passed-of, passed_in, path_of}
use Rattle.move_laws.proofs.Prelude.{same_Some, source_of, way_above, way_in, way_on, way_up}

-- both are there only if they are equal
abbrev Agree : Option (List ServerNo) → Option (List ServerNo) → Type 0
Agree None o = Unit {0}
Agree (Some xs) None = Unit {0}
Agree (Some xs) (Some ys) = xs ≡ ys

with-none : (o : Option (List ServerNo)) → Agree o None
with-none None = tt
with-none (Some xs) = tt

agreed : (a o : Option (List ServerNo)) (xs ys : List ServerNo) → Agree a o → a ≡ Some xs → o ≡ Some ys → xs ≡ ys
agreed None o xs ys h ea eo = cc
agreed (Some x) None xs ys h ea eo = cc
agreed (Some x) (Some y) xs ys h ea eo = sym (same_Some x xs ea) ∙ h ∙ same_Some y ys eo

one-step : (p : ServerNo) (t : Bool) (a o : Option (List ServerNo)) → Agree a o
    → Agree (if t then Some [] else option_map (λ r. p ∷ r) a) (if t then Some [] else option_map (λ r. p ∷ r) o)
one-step p true a o h = refl
one-step p false None o h = tt
one-step p false (Some xs) None h = tt
one-step p false (Some xs) (Some ys) h = ap (λ (l : List ServerNo). p ∷ l) h

module _ (up : ServerNo → Option ServerNo) (to : ServerNo) where
  -- a way is the same in however many steps
  one-way : (n m : ℕ) (i : ServerNo) → Agree (way_in up to n i) (way_in up to m i)
  one-way zero m i = tt
  one-way (suc n) zero i = with-none (way_in up to (suc n) i)
  one-way (suc n) (suc m) i = go (up i) (λ p. one-way n m p)
    where
      go : (o : Option ServerNo) → ((p : ServerNo) → Agree (way_in up to n p) (way_in up to m p))
          → Agree (way_on (way_in up to n) to o) (way_on (way_in up to m) to o)
      go None rest = tt
      go (Some p) rest = one-step p (p.0 == to.0) (way_in up to n p) (way_in up to m p) (rest p)

  -- the way from a server is shorter than this
  record Shorter (count : ℕ) (x : ServerNo) : Type 0 where
    steps : ℕ
    rest : List ServerNo
    way : way_in up to steps x ≡ Some rest
    shorter : length rest < count

  abbrev AllShorter : List ServerNo → Type 0
  AllShorter xs = All (Shorter (length xs)) xs

  longer : (p : ServerNo) (ys : List ServerNo) → AllShorter ys → All (Shorter (length (p ∷ ys))) ys
  longer p ys h =
      All-weaker (Shorter (length ys)) (Shorter (length (p ∷ ys)))
      (λ x s. let less : length s.rest < length ys = s.shorter in record { steps = s.steps; rest = s.rest; way = s.way; shorter = omega arith }) ys h

  passing : (m : ℕ) (p : ServerNo) (t : Bool) (o : Option (List ServerNo)) → way_in up to m p ≡ o → IfSome o AllShorter
      → IfSome (if t then Some [] else option_map (λ r. p ∷ r) o) AllShorter
  passing m p true o e h = All-nil (Shorter 0)
  passing m p false None e h = tt
  passing m p false (Some ys) e h =
      All-cons (Shorter (length (p ∷ ys))) p ys (record { steps = m; rest = ys; way = e; shorter = omega arith }) (longer p ys h)

  -- from each server that is passed the way is shorter
  each-shorter : (m : ℕ) (i : ServerNo) → IfSome (way_in up to m i) AllShorter
  each-shorter zero i = tt
  each-shorter (suc m) i = go (up i) (λ p. each-shorter m p)
    where
      go : (o : Option ServerNo) → ((p : ServerNo) → IfSome (way_in up to m p) AllShorter) → IfSome (way_on (way_in up to m) to o) AllShorter
      go None rest = tt
      go (Some p) rest = passing m p (p.0 == to.0) (way_in up to m p) refl (rest p)

  not-itself : (n : ℕ) (i : ServerNo) (xs : List ServerNo) → way_in up to n i ≡ Some xs → (x : ServerNo) → Shorter (length xs) x → (i.0 == x.0) ≡ false
  not-itself n i xs e x s = go (i.0 == x.0) refl
    where
      go : (c : Bool) → (i.0 == x.0) ≡ c → c ≡ false
      go false at = refl
      go true at =
          let same : i.0 ≡ x.0 = eqb-true i.0 x.0 at in
          let here : way_in up to s.steps i ≡ Some s.rest = ap (λ (k : ℕ). way_in up to s.steps (record { 0 = k })) same ∙ s.way in
          let equal : xs ≡ s.rest = agreed (way_in up to n i) (way_in up to s.steps i) xs s.rest (one-way n s.steps i) e here in
          let lengths : length xs ≡ length s.rest = ap length equal in
          let less : length s.rest < length xs = s.shorter in
          absurd (omega arith)

  pub apart : (n : ℕ) (i : ServerNo) (xs : List ServerNo) → way_in up to n i ≡ Some xs → All (λ x. (i.0 == x.0) ≡ false) xs
  apart n i xs e = All-weaker (Shorter (length xs)) (λ (x : ServerNo). (i.0 == x.0) ≡ false) (not-itself n i xs e) xs (there (way_in up to n i) (each-shorter n i) e)
    where
      there : (o : Option (List ServerNo)) → IfSome o AllShorter → o ≡ Some xs → AllShorter xs
      there None h e = cc
      there (Some ys) h e = subst AllShorter (same_Some ys xs e) h

pub way-apart : (b : BookState) (n to : ServerNo) (passed : List ServerNo) → way_up b n to ≡ Some passed → All (λ x. (n.0 == x.0) ≡ false) passed
way-apart b n to passed e = by_source (is_given to (source_of b n)) e
  where
    Apart : List ServerNo → Type 0
    Apart xs = All (λ x. (n.0 == x.0) ≡ false) xs

    by_source : (t : Bool) → (if t then Some [] else way_above b n to) ≡ Some passed → Apart passed
    by_source true e = subst Apart (same_Some [] passed e) (All-nil (λ (x : ServerNo). (n.0 == x.0) ≡ false))
    by_source false e = apart (parent_at b) to (length b.names) n passed e

pub path-apart : (b : BookState) (n d : ServerNo) → All (λ x. (n.0 == x.0) ≡ false) (passed_in (path_of b n d))
path-apart b n d =
    passed-of (All (λ (x : ServerNo). (n.0 == x.0) ≡ false)) b n (All-nil (λ (x : ServerNo). (n.0 == x.0) ≡ false)) (way-apart b n) d
