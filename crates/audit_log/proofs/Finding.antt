-- Recoveries are looked up.
use Rattle.std.proofs.Common.{◌≡◌, ℕ, ◌+◌, ◌-◌, ◌<◌, ◌≤◌, Bool, true, false, cond, List, [], ◌∷◌, length, get_or, refl, sym, ◌∙◌, ap, subst, Option, Some, None, Result, Ok, Err, inl, inr, ◌⊎◌, arith, ◌==◌, All, AllPairs, find, reverse}
use Rattle.audit_log.proofs.Prelude.{All-cons, All-nil, All-weaker, AllWithin, Equal, Greater, IsBinarySearchResult}
use Rattle.audit_log.proofs.Prelude.{IsSearchInRange, IsSortedBy, Less, Recovery, StandsAt, cases_lt, find-append, get_or-reverse, is_lt}
use Rattle.audit_log.proofs.Prelude.{length-reverse, nat_cmp, nat_cmp_total, nat_tests, ne_eqb, option_or, pairs_head, pairs_tail, ranked, result_ok}
use Rattle.audit_log.proofs.Prelude.{same_Some, searchable_from_sorted}
use mathlib.Core.List.{reverse-cons}
pub use Rattle.kept_rows.proofs.OrchBase.Found.{All-found, found-passes, none-found, none-passes}

-- ---- what holds of a list holds of it from its end on

pub All-reverse : {X : Type 0} (P : X → Type 0) (xs : List X) → All P xs → All P (reverse xs)
All-reverse P xs all k d within =
    let short : k < length xs = omega (arith, within, length-reverse xs) in
    subst P (sym (get_or-reverse xs k d short)) (all (length xs - 1 - k) d (omega (arith, short)))

pub All-reversed : {X : Type 0} (P : X → Type 0) (xs : List X) → All P (reverse xs) → All P xs
All-reversed P xs all k d within =
    let back : length xs - 1 - k < length xs = omega (arith, within) in
    let index : length xs - 1 - (length xs - 1 - k) ≡ k = omega (arith, within) in
    subst P (get_or-reverse xs (length xs - 1 - k) d back ∙ ap (λ i. get_or xs i d) index) (all (length xs - 1 - k) d (omega (arith, back, length-reverse xs)))

-- after the last one that passes none does
module _ (p : Recovery → Bool) where
  abbrev FailsBehind : Recovery → Recovery → Type 0
  FailsBehind r y = r.id < y.id → p y ≡ false

  pub last-found : (xs : List Recovery) (r : Recovery) → AllPairs (λ (x y : Recovery). x.id < y.id) xs → find p (reverse xs) ≡ Some r → All (FailsBehind r) xs
  last-found [] r rising e = All-nil (FailsBehind r)
  last-found (x ∷ xs) r rising e = go (last-found xs r (pairs_tail (λ (x y : Recovery). x.id < y.id) x xs rising)) (find p (reverse xs)) refl (sym (find-append p (reverse xs) (x ∷ [])) ∙ (ap (find p) (sym (reverse-cons x xs)) ∙ e))
    where
      before : find p (reverse xs) ≡ Some r → x.id < r.id
      before found = All-found p (λ (y : Recovery). x.id < y.id) (reverse xs) r (All-reverse (λ (y : Recovery). x.id < y.id) xs (pairs_head (λ (x y : Recovery). x.id < y.id) x xs rising)) found

      alone : (b : Bool) → cond b (Some x) None ≡ Some r → p x ≡ b → r.id < x.id → p x ≡ false
      alone true h is later = let same = ap (λ (y : Recovery). y.id) (same_Some x r h) in absurd (omega (arith, same, later))
      alone false h is later = is

      go : (find p (reverse xs) ≡ Some r → All (FailsBehind r) xs) → (o : Option Recovery) → find p (reverse xs) ≡ o → option_or o (cond (p x) (Some x) None) ≡ Some r → All (FailsBehind r) (x ∷ xs)
      go rest (Some y) found h =
          let is : find p (reverse xs) ≡ Some r = found ∙ h in
          let first = before is in
          All-cons (FailsBehind r) x xs (λ later. absurd (omega (arith, later, first))) (rest is)
      go rest None found h =
          All-cons (FailsBehind r) x xs (alone (p x) h refl)
          (All-weaker (λ y. p y ≡ false) (FailsBehind r) (λ y fails later. fails) xs (All-reversed (λ y. p y ≡ false) xs (none-passes p (reverse xs) found)))

-- ---- by halves

rising-sorted : (xs : List Recovery) → AllPairs (λ (x y : Recovery). x.id < y.id) xs → IsSortedBy (λ (a b : Recovery). is_lt (nat_cmp a.id b.id)) xs
rising-sorted xs rising k d low within = later (get_or xs k d).id (get_or xs (k + 1) d).id (rising k (k + 1) d (omega arith) within)
  where
    later : (m n : ℕ) → m < n → is_lt (nat_cmp n m) ≡ false
    later m n less = grind (arith, nat_tests)

-- by the index at which the search ended, none has the id
none-there : (id : ℕ) (xs : List Recovery) (i k : ℕ) (d : Recovery) → k < length xs → (k < i) ⊎ (i ≤ k)
    → AllWithin (λ (y : Recovery). nat_cmp y.id id ≡ Less) xs 0 i → AllWithin (λ (y : Recovery). nat_cmp y.id id ≡ Greater) xs i (length xs) → ((get_or xs k d).id == id) ≡ false
none-there id xs i k d short (inl before) less greater =
    ne_eqb (get_or xs k d).id id (λ e. let h = ranked (get_or xs k d).id id Less (sym (less k d (omega arith) before)) in absurd (omega (arith, h, e)))
none-there id xs i k d short (inr behind) less greater =
    ne_eqb (get_or xs k d).id id (λ e. let h = ranked (get_or xs k d).id id Greater (sym (greater k d behind short)) in absurd (omega (arith, h, e)))

pub stands : (id : ℕ) (xs : List Recovery) (r : Result ℕ ℕ) → AllPairs (λ (x y : Recovery). x.id < y.id) xs → IsSearchInRange r (length xs)
    → IsBinarySearchResult (λ (y : Recovery). nat_cmp y.id id) xs r → StandsAt id xs (result_ok r)
stands id xs (Ok i) rising within is = (within, λ d. ranked (get_or xs i d).id id Equal (sym (is d)))
stands id xs (Err i) rising within is =
    let parts = is (searchable_from_sorted nat_cmp_total (λ (y : Recovery). y.id) xs id (rising-sorted xs rising)) in
    λ k d short. none-there id xs i k d short (cases_lt k i) parts.0 parts.1
