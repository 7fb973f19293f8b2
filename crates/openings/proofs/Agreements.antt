-- When histories agree: link by link, and both ways.
use Rattle.std.proofs.Common.{◌≡◌, ℕ, ◌<◌, Bool, true, List, [], ◌∷◌, refl, sym, ◌∙◌, ap, inl, inr, Option, Some, None, arith, ◌&&◌, ◌||◌, zero, suc, ◌==◌, slice_get, not}
use Rattle.openings.proofs.Prelude.{Txn, all_below, and_from, and_parts, cases_order, histories_agree, links, links_agree, list_all, nat_tests}
use Rattle.openings.proofs.Prelude.{same_before, same_Some, same_txn}

-- a test that holds at each element, element by element
pub list_all-get : {X : Type 0} (test : X → Bool) (xs : List X) (i : ℕ) (x : X) → list_all test xs ≡ true → slice_get xs i ≡ Some x → test x ≡ true
list_all-get test [] i x all h = cc
list_all-get test (y ∷ ys) zero x all h = ap test (sym (same_Some y x h)) ∙ (and_parts (test y) (list_all test ys) all).0
list_all-get test (y ∷ ys) (suc i) x all h = list_all-get test ys i x (and_parts (test y) (list_all test ys) all).1 h

pub list_all-from_get : {X : Type 0} (test : X → Bool) (xs : List X) → ((i : ℕ) (x : X) → slice_get xs i ≡ Some x → test x ≡ true) → list_all test xs ≡ true
list_all-from_get test [] each = refl
list_all-from_get test (y ∷ ys) each = and_from (test y) (list_all test ys) (each 0 y refl) (list_all-from_get test ys (λ i x h. each (suc i) x h))

-- a test that holds at each number below one, number by number
pub all_below-at : (test : ℕ → Bool) (n m : ℕ) → all_below test n ≡ true → m < n → test m ≡ true
all_below-at test zero m all lt = absurd (omega arith)
all_below-at test (suc n) m all lt =
    elim (cases_order m n) [
      | inl same ↦ ap test same ∙ (and_parts (all_below test n) (test n) all).1
      | inr apart ↦ elim apart [ inl below ↦ all_below-at test n m (and_parts (all_below test n) (test n) all).0 below | inr above ↦ absurd (omega arith) ]
    ]

-- the links of two histories agree one by one
pub agree-get : (a b : List Txn) (i j : ℕ) (k l : Option Txn × Txn) → histories_agree a b ≡ true → slice_get (links a) i ≡ Some k → slice_get (links b) j ≡ Some l → links_agree k l ≡ true
agree-get a b i j k l agree at_a at_b =
    let row : list_all (λ k. links_agree k l) (links a) ≡ true = list_all-get (λ l. list_all (λ k. links_agree k l) (links a)) (links b) j l agree at_b in
    list_all-get (λ k. links_agree k l) (links a) i k row at_a

agree-from_get : (a b : List Txn) → ((i j : ℕ) (k l : Option Txn × Txn) → slice_get (links a) i ≡ Some k → slice_get (links b) j ≡ Some l → links_agree k l ≡ true) → histories_agree a b ≡ true
agree-from_get a b each =
    list_all-from_get (λ l. list_all (λ k. links_agree k l) (links a)) (links b)
    (λ j l at_b. list_all-from_get (λ k. links_agree k l) (links a) (λ i k at_a. each i j k l at_a at_b))

pub eqb-swap : (a b : ℕ) → (a == b) ≡ (b == a)
eqb-swap a b = grind (arith, nat_tests)

pub same_txn-swap : (x y : Txn) → same_txn x y ≡ same_txn y x
same_txn-swap x y = rw (eqb-swap x.origin.0 y.origin.0, eqb-swap x.seq y.seq)

same_before-swap : (x y : Option Txn) → same_before x y ≡ same_before y x
same_before-swap None None = refl
same_before-swap None (Some y) = refl
same_before-swap (Some x) None = refl
same_before-swap (Some x) (Some y) = same_txn-swap x y

links_agree-swap : (k l : Option Txn × Txn) → links_agree k l ≡ links_agree l k
links_agree-swap k l =
    ap (λ b. not b || (same_before k.0 l.0 && k.1.size == l.1.size)) (same_txn-swap k.1 l.1)
    ∙ ap (λ b. not (same_txn l.1 k.1) || (b && k.1.size == l.1.size)) (same_before-swap k.0 l.0)
    ∙ ap (λ b. not (same_txn l.1 k.1) || (same_before l.0 k.0 && b)) (eqb-swap k.1.size l.1.size)

-- agreement goes both ways
pub agree-swap : (a b : List Txn) → histories_agree a b ≡ true → histories_agree b a ≡ true
agree-swap a b agree = agree-from_get b a (λ i j k l at_b at_a. links_agree-swap k l ∙ agree-get a b j i l k agree at_a at_b)
