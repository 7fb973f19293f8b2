-- If no number comes back to itself, each chain ends.
use Rattle.std.proofs.Common.{◌≡◌, ℕ, ◌<◌, ◌≤◌, true, false, List, [], ◌∷◌, length, refl, sym, ◌∙◌, ap, subst, inl, inr, ◌⊎◌, Option, Some, None, arith, zero, suc, ◌||◌, eqb, ◌==◌}
use Rattle.openings.proofs.Prelude.{Grounded, IsDistinct, Root, Under, eq-eqb, eqb-true, follow_on, is_reached, is_reached_on}
use Rattle.openings.proofs.Prelude.{length-le_from_distinct_below, list_any, ne_eqb, or_cases, or_left, or_right, reached_from}
use Rattle.binlog_coords.proofs.OrchBase.Lists.{all-apart}

-- the numbers that a walk of so many steps meets
abbrev walk_on : (ℕ → List ℕ) → Option ℕ → List ℕ
walk_on go None = []
walk_on go (Some m) = go m

abbrev walk : (ℕ → Option ℕ) → ℕ → ℕ → List ℕ
walk up zero n = n ∷ []
walk up (suc steps) n = n ∷ walk_on (λ m. walk up steps m) (up n)

-- who is met after the start is reached
met-reached : (up : ℕ → Option ℕ) (q k n : ℕ) → list_any (eqb q) (walk up k n) ≡ true → (n == q || is_reached up k q n) ≡ true
met-reached up q zero n h =
    elim (or_cases (eqb q n) false h) [ inl same ↦ or_left (n == q) false (eq-eqb n q (sym (eqb-true q n same))) | inr more ↦ cc ]
met-reached up q (suc k) n h =
    elim (or_cases (eqb q n) _ h) [
      | inl same ↦ or_left (n == q) _ (eq-eqb n q (sym (eqb-true q n same)))
      | inr more ↦ or_right (n == q) _ (go (up n) more (λ m. met-reached up q k m))
    ]
  where
    go : (o : Option ℕ) → list_any (eqb q) (walk_on (λ m. walk up k m) o) ≡ true → ((m : ℕ) → list_any (eqb q) (walk up k m) ≡ true → (m == q || is_reached up k q m) ≡ true)
        → is_reached_on (λ m. m == q || is_reached up k q m) o ≡ true
    go None more further = cc
    go (Some m) more further = further m more

-- more steps reach no less
reached-more : (up : ℕ → Option ℕ) (q k l n : ℕ) → k ≤ l → is_reached up k q n ≡ true → is_reached up l q n ≡ true
reached-more up q zero l n le h = cc
reached-more up q (suc k) zero n le h = absurd (omega arith)
reached-more up q (suc k) (suc l) n le h = go (up n) h (λ m. reached-more up q k l m (omega arith))
  where
    go : (o : Option ℕ) → is_reached_on (λ m. m == q || is_reached up k q m) o ≡ true → ((m : ℕ) → is_reached up k q m ≡ true → is_reached up l q m ≡ true)
        → is_reached_on (λ m. m == q || is_reached up l q m) o ≡ true
    go None h further = cc
    go (Some m) h further =
        elim (or_cases (m == q) _ h) [ inl same ↦ or_left (m == q) _ same | inr more ↦ or_right (m == q) _ (further m more) ]

-- up leads from numbers below a bound, and to them; none comes back to itself within so many steps
pub record IsLoopless (up : ℕ → Option ℕ) (bound : ℕ) : Type 0 where
  pub from : (n m : ℕ) → up n ≡ Some m → m < bound
  pub never : (n : ℕ) → is_reached up bound n n ≡ false

module _ (up : ℕ → Option ℕ) (bound : ℕ) (loopless : IsLoopless up bound) where
  walk-distinct : (k n : ℕ) → k ≤ bound → IsDistinct eqb (walk up k n)
  unfolding IsDistinct
  walk-distinct zero n le = (tt, tt)
  walk-distinct (suc k) n le = (all-apart n (walk_on (λ m. walk up k m) (up n)) apart, go (up n) (λ m. walk-distinct k m (omega arith)))
    where
      back : (o : Option ℕ) (q : ℕ) → list_any (eqb q) (walk_on (λ m. walk up k m) o) ≡ true → is_reached_on (λ m. m == q || is_reached up k q m) o ≡ true
      back None q h = cc
      back (Some m) q h = met-reached up q k m h

      apart : (q : ℕ) → list_any (eqb q) (walk_on (λ m. walk up k m) (up n)) ≡ true → eqb n q ≡ false
      apart q h =
          ne_eqb n q (λ same.
          let again : is_reached up (suc k) n n ≡ true = subst (λ (y : ℕ). is_reached up (suc k) y n ≡ true) (sym same) (back (up n) q h) in
          let none : true ≡ false = sym (reached-more up n (suc k) bound n le again) ∙ loopless.never n in
          cc)

      go : (o : Option ℕ) → ((m : ℕ) → IsDistinct eqb (walk up k m)) → IsDistinct eqb (walk_on (λ m. walk up k m) o)
      go None further = tt
      go (Some m) further = further m

  walk-below : (q k n : ℕ) → n < bound → list_any (eqb q) (walk up k n) ≡ true → q < bound
  walk-below q zero n lt h =
      elim (or_cases (eqb q n) false h) [ inl same ↦ let e : q ≡ n = eqb-true q n same in omega arith | inr more ↦ cc ]
  walk-below q (suc k) n lt h =
      elim (or_cases (eqb q n) _ h) [
        | inl same ↦ let e : q ≡ n = eqb-true q n same in omega arith
        | inr more ↦ go (up n) refl more (λ m. walk-below q k m)
      ]
    where
      go : (o : Option ℕ) → up n ≡ o → list_any (eqb q) (walk_on (λ m. walk up k m) o) ≡ true → ((m : ℕ) → m < bound → list_any (eqb q) (walk up k m) ≡ true → q < bound) → q < bound
      go None e more further = cc
      go (Some m) e more further = further m (loopless.from n m e) more

  -- a walk ends, or each step meets one number more
  ends-or-long : (k n : ℕ) → (up (reached_from up k n) ≡ None) ⊎ (length (walk up k n) ≡ suc k)
  ends-or-long zero n = inr refl
  ends-or-long (suc k) n = go (up n) refl (λ m. ends-or-long k m)
    where
      go : (o : Option ℕ) → up n ≡ o → ((m : ℕ) → (up (reached_from up k m) ≡ None) ⊎ (length (walk up k m) ≡ suc k))
          → (up (follow_on (λ m. reached_from up k m) n o) ≡ None) ⊎ (length (n ∷ walk_on (λ m. walk up k m) o) ≡ suc (suc k))
      go None e further = inl e
      go (Some m) e further = elim (further m) [ inl ends ↦ inl ends | inr long ↦ inr (ap suc long) ]

  -- so a walk of as many steps as the bound ends
  pub walk-ends : (n : ℕ) → n < bound → up (reached_from up bound n) ≡ None
  walk-ends n lt =
      elim (ends-or-long bound n) [
        | inl ends ↦ ends
        | inr long ↦
            let few : length (walk up bound n) ≤ bound = length-le_from_distinct_below (walk up bound n) bound (walk-distinct bound n (omega arith)) (λ q h. walk-below q bound n lt h) in
            absurd (omega arith)
      ]

-- a walk that ends grounds
pub Grounded-walk : (up : ℕ → Option ℕ) (k n : ℕ) → up (reached_from up k n) ≡ None → Grounded up n
Grounded-walk up zero n ends = Root n ends
Grounded-walk up (suc k) n ends = go (up n) refl ends (λ m. Grounded-walk up k m)
  where
    go : (o : Option ℕ) → up n ≡ o → up (follow_on (λ m. reached_from up k m) n o) ≡ None → ((m : ℕ) → up (reached_from up k m) ≡ None → Grounded up m) → Grounded up n
    go None e ends further = Root n e
    go (Some m) e ends further = Under n m e (further m ends)

-- and one more step doesn't lead on
walk-stays : (up : ℕ → Option ℕ) (k n : ℕ) → up (reached_from up k n) ≡ None → reached_from up (suc k) n ≡ reached_from up k n
walk-stays up zero n ends = ap (follow_on (λ m. m) n) ends
walk-stays up (suc k) n ends = go (up n) ends (λ m. walk-stays up k m)
  where
    go : (o : Option ℕ) → up (follow_on (λ m. reached_from up k m) n o) ≡ None → ((m : ℕ) → up (reached_from up k m) ≡ None → reached_from up (suc k) m ≡ reached_from up k m)
        → follow_on (λ m. reached_from up (suc k) m) n o ≡ follow_on (λ m. reached_from up k m) n o
    go None ends further = refl
    go (Some m) ends further = further m ends

-- a walk from one above ends at the server at which the walk from below it does
pub same-end : (up : ℕ → Option ℕ) (bound : ℕ) → IsLoopless up bound → (n m : ℕ) → n < bound → up n ≡ Some m → reached_from up bound n ≡ reached_from up bound m
same-end up zero loopless n m lt e = absurd (omega arith)
same-end up (suc k) loopless n m lt e =
    let here : reached_from up (suc k) n ≡ reached_from up k m = ap (follow_on (λ y. reached_from up k y) n) e in
    let ends : up (reached_from up k m) ≡ None = sym (ap up here) ∙ walk-ends up (suc k) loopless n lt in
    here ∙ sym (walk-stays up k m ends)
