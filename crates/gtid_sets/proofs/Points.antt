-- Pairs by their points.
use Rattle.std.proofs.Common.{◌≡◌, ℕ, ◌+◌, ◌^◌, ◌<◌, ◌≤◌, inl, inr, Bool, true, false, eqb, leb, List, [], ◌∷◌, length, get_or, take, refl, sym, ap, ◌∙◌, subst, arith, ◌&&◌, ◌||◌}
use Rattle.gtid_sets.proofs.Prelude.{All, All-head, All-tail, AllWithin, Interval, IsInterval, IsSet, between, cases_lt, get_or_default, high, holds}
use Rattle.gtid_sets.proofs.Prelude.{list_any_more, low, nat_tests, on_line, point}
use Rattle.gtid_sets.proofs.Line.{spans_line, spans_past, low_high}

pub holds_line : (xs : List Interval) (u n : ℕ) → All IsInterval xs → n < 2 ^ 64 → holds xs u n ≡ on_line xs (point u n)
holds_line [] u n all fits = refl
holds_line (s ∷ xs) u n all fits =
    rw (spans_line u n s (All-head IsInterval s xs all) fits, holds_line xs u n (All-tail IsInterval s xs all) fits) refl

pub holds_past : (xs : List Interval) (u n : ℕ) → All IsInterval xs → 2 ^ 64 ≤ n → holds xs u n ≡ false
holds_past [] u n all past = refl
holds_past (s ∷ xs) u n all past =
    rw (spans_past u n s (All-head IsInterval s xs all) past, holds_past xs u n (All-tail IsInterval s xs all) past) refl

pub union_holds : (xs ys zs : List Interval) → IsSet xs → IsSet ys → IsSet zs → ((x : ℕ) → on_line zs x ≡ (on_line xs x || on_line ys x))
    → (u n : ℕ) → holds zs u n ≡ (holds xs u n || holds ys u n)
union_holds xs ys zs ix iy iz same u n =
    elim (cases_lt n (2 ^ 64)) [
      | inl fits ↦ rw (holds_line zs u n iz.each fits, holds_line xs u n ix.each fits, holds_line ys u n iy.each fits) (same (point u n))
      | inr past ↦ rw (holds_past zs u n iz.each past, holds_past xs u n ix.each past, holds_past ys u n iy.each past) refl
    ]

-- the intervals of a set rise
pub rises : (xs : List Interval) (i : ℕ) (d : Interval) → IsSet xs → i < length xs → AllWithin (λ t. low (get_or xs i d) ≤ low t) xs i (length xs)
rises xs i d is h k e l r =
    let same : get_or xs k d ≡ get_or xs k e = get_or_default xs k d e r in
    subst (λ (t : Interval). low (get_or xs i d) ≤ low t) same
    (elim (cases_lt i k) [
      | inl less ↦
          let gap = is.apart i k d less r in
          let up = low_high (get_or xs i d) (is.each i d h) in
          omega arith
      | inr more ↦
          let here : k ≡ i = omega arith in
          subst (λ (j : ℕ). low (get_or xs i d) ≤ low (get_or xs j d)) (sym here) (omega arith)
    ])

pub rise_highs : (xs : List Interval) (i j : ℕ) (d : Interval) → IsSet xs → i ≤ j → j < length xs → high (get_or xs i d) ≤ high (get_or xs j d)
rise_highs xs i j d is l h = elim (cases_lt i j) [
  | inl less ↦
      let gap = is.apart i j d less h in
      let up = low_high (get_or xs j d) (is.each j d h) in
      omega arith
  | inr more ↦
      let here : j ≡ i = omega arith in
      subst (λ (k : ℕ). high (get_or xs i d) ≤ high (get_or xs k d)) (sym here) (omega arith)
]

-- what follows in one list, if the next of the other comes first
pub rises_past : (ys : List Interval) (j : ℕ) (d s : Interval) → IsSet ys → (j < length ys → low s ≤ low (get_or ys j d)) → AllWithin (λ t. low s ≤ low t) ys j (length ys)
rises_past ys j d s is h k e l r =
    let first = h (omega arith) in
    let up = rises ys j d is (omega arith) k e l r in
    omega arith

or_past : (a b p : Bool) → ((a || b) || p) ≡ ((a || p) || b)
or_past false true true = refl
or_past false false true = refl
or_past _ _ _ = refl

or_more : (a b p : Bool) → ((a || b) || p) ≡ (a || (b || p))
or_more true b p = refl
or_more false b p = refl

-- one more interval of the one list, and of the other
pub first_more : (xs ys old new : List Interval) (i j : ℕ) (d : Interval) → i < length xs
    → ((x : ℕ) → on_line old x ≡ (on_line (take i xs) x || on_line (take j ys) x)) → ((x : ℕ) → on_line new x ≡ (on_line old x || between x (get_or xs i d)))
    → (x : ℕ) → on_line new x ≡ (on_line (take (i + 1) xs) x || on_line (take j ys) x)
first_more xs ys old new i j d h has more x =
    rw (more x, has x, list_any_more (between x) xs i d h) (or_past (on_line (take i xs) x) (on_line (take j ys) x) (between x (get_or xs i d)))

pub second_more : (xs ys old new : List Interval) (i j : ℕ) (d : Interval) → j < length ys
    → ((x : ℕ) → on_line old x ≡ (on_line (take i xs) x || on_line (take j ys) x)) → ((x : ℕ) → on_line new x ≡ (on_line old x || between x (get_or ys j d)))
    → (x : ℕ) → on_line new x ≡ (on_line (take i xs) x || on_line (take (j + 1) ys) x)
second_more xs ys old new i j d h has more x =
    rw (more x, has x, list_any_more (between x) ys j d h) (or_more (on_line (take i xs) x) (on_line (take j ys) x) (between x (get_or ys j d)))

-- what begins nowhere before the last one
pub order_more : (zs new : List Interval) (k : ℕ) (s : Interval) → ((bound : ℕ) → low s ≤ bound → All (λ t. low t ≤ bound) new)
    → AllWithin (λ t. low s ≤ low t) zs k (length zs)
    → AllWithin (λ t. All (λ s. low s ≤ low t) new) zs k (length zs)
order_more zs new k s order up i d l r = order (low (get_or zs i d)) (up i d l r)

one_pair : (uuid n u m : ℕ) → ((eqb uuid u && leb n m && leb m n) || false) ≡ (eqb u uuid && eqb m n)
one_pair uuid n u m = grind (arith, nat_tests)

pub add_holds : (xs zs : List Interval) (uuid n : ℕ) → ((u m : ℕ) → holds zs u m ≡ (holds xs u m || holds (record { uuid = uuid; first = n; last = n } ∷ []) u m))
    → (u m : ℕ) → holds zs u m ≡ (holds xs u m || (eqb u uuid && eqb m n))
add_holds xs zs uuid n both u m = both u m ∙ ap (λ b. holds xs u m || b) (one_pair uuid n u m)

pub gathered_holds : (xs zs : List Interval) → All IsInterval xs → IsSet zs → ((x : ℕ) → on_line zs x ≡ on_line xs x) → (u n : ℕ) → holds zs u n ≡ holds xs u n
gathered_holds xs zs each iz same u n =
    elim (cases_lt n (2 ^ 64)) [
      | inl fits ↦ rw (holds_line zs u n iz.each fits, holds_line xs u n each fits) (same (point u n))
      | inr past ↦ rw (holds_past zs u n iz.each past, holds_past xs u n each past) refl
    ]
