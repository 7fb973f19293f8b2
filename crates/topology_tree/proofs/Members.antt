-- nodes among entries, and numbers in lists
use Rattle.std.proofs.Common.{◌≡◌, ℕ, ◌<◌, Bool, true, false, List, [], ◌∷◌, ◌++◌, filter, map, refl, sym, ◌∙◌, ap, subst, inl, inr, ◌⊎◌, arith, zero, suc, eqb}
use Rattle.topology_tree.proofs.Prelude.{AllByRecursion, Contains, Contains-append_cases, Contains-append_left, Contains-append_right, Contains-push}
use Rattle.topology_tree.proofs.Prelude.{Contains-push_cases, IsDistinct, cases_Bool, cases_eq, cond-false, cond-true, flat_map, ne_eqb, node_of}
use Rattle.topology_tree.proofs.Prelude.{nodes_below}

-- a number is in a list
abbrev pub Mem : ℕ → List ℕ → Type 0
Mem n [] = ⊥
Mem n (x ∷ xs) = (x ≡ n) ⊎ Mem n xs

-- a node is among entries
abbrev pub In : ℕ → List (ℕ × ℕ) → Type 0
In n [] = ⊥
In n (x ∷ xs) = (x.0 ≡ n) ⊎ In n xs

-- no number is in a list twice
abbrev pub Differ : List ℕ → Type 0
Differ [] = Unit {0}
Differ (x ∷ xs) = (Mem x xs → ⊥) × Differ xs

-- no node is among entries twice
abbrev pub Apart : List (ℕ × ℕ) → Type 0
Apart [] = Unit {0}
Apart (x ∷ xs) = (In x.0 xs → ⊥) × Apart xs

pub Mem-append_left : (n : ℕ) (xs ys : List ℕ) → Mem n xs → Mem n (xs ++ ys)
Mem-append_left n [] ys h = absurd h
Mem-append_left n (x ∷ xs) ys (inl same) = inl same
Mem-append_left n (x ∷ xs) ys (inr more) = inr (Mem-append_left n xs ys more)

pub Mem-append_right : (n : ℕ) (xs ys : List ℕ) → Mem n ys → Mem n (xs ++ ys)
Mem-append_right n [] ys h = h
Mem-append_right n (x ∷ xs) ys h = inr (Mem-append_right n xs ys h)

pub Mem-append_cases : (n : ℕ) (xs ys : List ℕ) → Mem n (xs ++ ys) → Mem n xs ⊎ Mem n ys
Mem-append_cases n [] ys h = inr h
Mem-append_cases n (x ∷ xs) ys (inl same) = inl (inl same)
Mem-append_cases n (x ∷ xs) ys (inr more) = elim (Mem-append_cases n xs ys more) [ inl left ↦ inl (inr left) | inr right ↦ inr right ]

pub In-append_left : (n : ℕ) (xs ys : List (ℕ × ℕ)) → In n xs → In n (xs ++ ys)
In-append_left n [] ys h = absurd h
In-append_left n (x ∷ xs) ys (inl same) = inl same
In-append_left n (x ∷ xs) ys (inr more) = inr (In-append_left n xs ys more)

pub In-append_right : (n : ℕ) (xs ys : List (ℕ × ℕ)) → In n ys → In n (xs ++ ys)
In-append_right n [] ys h = h
In-append_right n (x ∷ xs) ys h = inr (In-append_right n xs ys h)

pub In-append_cases : (n : ℕ) (xs ys : List (ℕ × ℕ)) → In n (xs ++ ys) → In n xs ⊎ In n ys
In-append_cases n [] ys h = inr h
In-append_cases n (x ∷ xs) ys (inl same) = inl (inl same)
In-append_cases n (x ∷ xs) ys (inr more) = elim (In-append_cases n xs ys more) [ inl left ↦ inl (inr left) | inr right ↦ inr right ]

pub Mem-filter : (t : ℕ → Bool) (n : ℕ) (xs : List ℕ) → Mem n (filter t xs) → Mem n xs × (t n ≡ true)
Mem-filter t n [] h = absurd h
Mem-filter t n (x ∷ xs) h =
    elim (cases_Bool (t x)) [
      | inl passes ↦ elim (subst (Mem n) (cond-true (t x) (x ∷ filter t xs) (filter t xs) passes) h) as (λ _. Mem n (x ∷ xs) × (t n ≡ true)) [
        | inl same ↦ (inl same, ap t (sym same) ∙ passes)
        | inr more ↦ (inr ((Mem-filter t n xs more).0), (Mem-filter t n xs more).1)
      ]
      | inr fails ↦
          let more : Mem n xs × (t n ≡ true) = Mem-filter t n xs (subst (Mem n) (cond-false (t x) (x ∷ filter t xs) (filter t xs) fails) h) in
          (inr more.0, more.1)
    ]

pub filter-Mem : (t : ℕ → Bool) (n : ℕ) (xs : List ℕ) → Mem n xs → t n ≡ true → Mem n (filter t xs)
filter-Mem t n [] h passes = absurd h
filter-Mem t n (x ∷ xs) (inl same) passes =
    subst (Mem n) (sym (cond-true (t x) (x ∷ filter t xs) (filter t xs) (ap t same ∙ passes))) (inl same)
filter-Mem t n (x ∷ xs) (inr more) passes =
    elim (cases_Bool (t x)) [
      | inl here ↦ subst (Mem n) (sym (cond-true (t x) (x ∷ filter t xs) (filter t xs) here)) (inr (filter-Mem t n xs more passes))
      | inr fails ↦ subst (Mem n) (sym (cond-false (t x) (x ∷ filter t xs) (filter t xs) fails)) (filter-Mem t n xs more passes)
    ]

pub Differ-filter : (t : ℕ → Bool) (xs : List ℕ) → Differ xs → Differ (filter t xs)
Differ-filter t [] d = tt
Differ-filter t (x ∷ xs) d =
    elim (cases_Bool (t x)) [
      | inl passes ↦ subst Differ (sym (cond-true (t x) (x ∷ filter t xs) (filter t xs) passes)) (λ h. d.0 ((Mem-filter t x xs h).0), Differ-filter t xs d.1)
      | inr fails ↦ subst Differ (sym (cond-false (t x) (x ∷ filter t xs) (filter t xs) fails)) (Differ-filter t xs d.1)
    ]

pub Differ-push : (xs : List ℕ) (x : ℕ) → Differ xs → (Mem x xs → ⊥) → Differ (xs ++ x ∷ [])
Differ-push [] x d new = (λ h. h, tt)
Differ-push (y ∷ ys) x d new = (
  λ h. elim (Mem-append_cases y ys (x ∷ []) h) [ inl there ↦ d.0 there | inr last ↦ elim last [ inl same ↦ new (inl (sym same)) | inr none ↦ none ] ],
  Differ-push ys x d.1 (λ h. new (inr h)),
)

pub nodes-below : (n k : ℕ) → Mem k (nodes_below n) → k < n
nodes-below zero k h = absurd h
nodes-below (suc n) k h =
    elim (Mem-append_cases k (nodes_below n) (n ∷ []) h) [
      | inl there ↦ omega (arith, nodes-below n k there)
      | inr last ↦ elim last [ inl same ↦ omega (arith, same) | inr none ↦ absurd none ]
    ]

pub below-nodes : (n k : ℕ) → k < n → Mem k (nodes_below n)
below-nodes zero k lt = absurd (omega (arith, lt))
below-nodes (suc n) k lt =
    elim (cases_eq n k) [
      | inl same ↦ Mem-append_right k (nodes_below n) (n ∷ []) (inl same)
      | inr other ↦ Mem-append_left k (nodes_below n) (n ∷ []) (below-nodes n k (omega (arith, lt, other)))
    ]

pub Differ-nodes : (n : ℕ) → Differ (nodes_below n)
Differ-nodes zero = tt
Differ-nodes (suc n) = Differ-push (nodes_below n) n (Differ-nodes n) (λ h. let lt : n < n = nodes-below n n h in omega (arith, lt))

pub In-flat_map : (g : ℕ → List (ℕ × ℕ)) (n : ℕ) (cs : List ℕ) → In n (flat_map g cs) → (c : ℕ) × Mem c cs × In n (g c)
In-flat_map g n [] h = absurd h
In-flat_map g n (c ∷ cs) h =
    elim (In-append_cases n (g c) (flat_map g cs) h) [
      | inl here ↦ (c, inl refl, here)
      | inr there ↦ let found : (d : ℕ) × Mem d cs × In n (g d) = In-flat_map g n cs there in (found.0, inr found.1, found.2)
    ]

pub flat_map-In : (g : ℕ → List (ℕ × ℕ)) (n c : ℕ) (cs : List ℕ) → Mem c cs → In n (g c) → In n (flat_map g cs)
flat_map-In g n c [] m h = absurd m
flat_map-In g n c (d ∷ cs) (inl same) h = In-append_left n (g d) (flat_map g cs) (subst (λ y. In n (g y)) (sym same) h)
flat_map-In g n c (d ∷ cs) (inr more) h = In-append_right n (g d) (flat_map g cs) (flat_map-In g n c cs more h)

pub Apart-append : (xs ys : List (ℕ × ℕ)) → Apart xs → Apart ys → ((n : ℕ) → In n xs → In n ys → ⊥) → Apart (xs ++ ys)
Apart-append [] ys a b apart = b
Apart-append (x ∷ xs) ys a b apart = (
  λ h. elim (In-append_cases x.0 xs ys h) [ inl left ↦ a.0 left | inr right ↦ apart x.0 (inl refl) right ],
  Apart-append xs ys a.1 b (λ n l r. apart n (inr l) r),
)

pub Contains-In : (n : ℕ) (xs : List (ℕ × ℕ)) → Contains (map node_of xs) n → In n xs
Contains-In n [] h = omega (arith, h.1)
Contains-In n (x ∷ xs) h =
    elim (Contains-append_cases (x.0 ∷ []) (map node_of xs) n h) [
      | inl here ↦ elim (Contains-push_cases [] x.0 n here) [ inl none ↦ absurd (omega (arith, none.1)) | inr same ↦ inl same ]
      | inr there ↦ inr (Contains-In n xs there)
    ]

pub In-Contains : (n : ℕ) (xs : List (ℕ × ℕ)) → In n xs → Contains (map node_of xs) n
In-Contains n [] h = absurd h
In-Contains n (x ∷ xs) (inl same) = Contains-append_left (x.0 ∷ []) (map node_of xs) n (subst (Contains (x.0 ∷ [])) same (Contains-push [] x.0))
In-Contains n (x ∷ xs) (inr more) = Contains-append_right (x.0 ∷ []) (map node_of xs) n (In-Contains n xs more)

unequal : (n : ℕ) (xs : List (ℕ × ℕ)) → (In n xs → ⊥) → AllByRecursion (λ y. eqb n y ≡ false) (map node_of xs)
unequal n [] out = tt
unequal n (x ∷ xs) out = (ne_eqb n x.0 (λ same. out (inl (sym same))), unequal n xs (λ h. out (inr h)))

pub Apart-distinct : (xs : List (ℕ × ℕ)) → Apart xs → IsDistinct eqb (map node_of xs)
unfolding IsDistinct
Apart-distinct [] a = tt
Apart-distinct (x ∷ xs) a = (unequal x.0 xs a.0, Apart-distinct xs a.1)
