-- children as lists of siblings
use Rattle.std.proofs.Common.{◌≡◌, ℕ, ◌+◌, ◌<◌, ◌≤◌, Bool, true, false, List, [], ◌∷◌, ◌++◌, length, filter, reverse, refl, sym, ◌∙◌, ap, subst, inl, inr, Option, Some, None, arith, zero, suc, add-one, get_or}
use Rattle.topology_tree.proofs.Prelude.{IsLinked, above, append-nil, cases_Bool, children_of, cond-false, cond-true, eq-eqb, eqb-true, filter-append}
use Rattle.topology_tree.proofs.Prelude.{is_child, is_node, last_below, nodes_below, reverse-append}
use Rattle.topology_tree.proofs.Chains.{read_above, above-within}

-- the children of p among so many first nodes
abbrev pub children_below : List (Option ℕ) → ℕ → ℕ → List ℕ
children_below forest p n = filter (is_child forest p) (nodes_below n)

-- the first node after the one that is given, or 0
abbrev pub end_of : Option ℕ → ℕ
end_of None = 0
end_of (Some n) = n + 1

-- none, or a child of p
abbrev pub IsLast : List (Option ℕ) → ℕ → Option ℕ → Type 0
IsLast forest p None = Unit {0}
IsLast forest p (Some n) = above forest n ≡ Some p

child_is : (p : ℕ) (o : Option ℕ) → is_node p o ≡ true → o ≡ Some p
child_is p None h = cc
child_is p (Some q) h = ap Some (eqb-true q p h)

pub is_child-true : (forest : List (Option ℕ)) (p n : ℕ) → is_child forest p n ≡ true → above forest n ≡ Some p
is_child-true forest p n h = child_is p (above forest n) h

pub child-is_child : (forest : List (Option ℕ)) (p n : ℕ) → above forest n ≡ Some p → is_child forest p n ≡ true
child-is_child forest p n e = ap (is_node p) e ∙ eq-eqb p p refl

filter-one : (t : ℕ → Bool) (n : ℕ) → t n ≡ true → filter t (n ∷ []) ≡ n ∷ []
filter-one t n h = rw h refl

filter-none : (t : ℕ → Bool) (n : ℕ) → t n ≡ false → filter t (n ∷ []) ≡ []
filter-none t n h = rw h refl

-- the last child among some, then those before it
pub falling : (forest : List (Option ℕ)) (p n : ℕ) → reverse (children_below forest p (n + 1)) ≡ reverse (filter (is_child forest p) (n ∷ [])) ++ reverse (children_below forest p n)
falling forest p n =
    let grown : children_below forest p (suc n) ≡ children_below forest p n ++ filter (is_child forest p) (n ∷ []) =
    filter-append (is_child forest p) (nodes_below n) (n ∷ [])
    in
    rw add-one (ap reverse grown ∙ reverse-append (children_below forest p n) (filter (is_child forest p) (n ∷ [])))

pub falling-child : (forest : List (Option ℕ)) (p n : ℕ) → above forest n ≡ Some p → reverse (children_below forest p (n + 1)) ≡ n ∷ reverse (children_below forest p n)
falling-child forest p n e =
    falling forest p n ∙ ap (λ xs. reverse xs ++ reverse (children_below forest p n)) (filter-one (is_child forest p) n (child-is_child forest p n e))

pub below-skip : (forest : List (Option ℕ)) (p n : ℕ) → is_child forest p n ≡ false → children_below forest p (suc n) ≡ children_below forest p n
below-skip forest p n other =
    filter-append (is_child forest p) (nodes_below n) (n ∷ []) ∙ ap (λ xs. children_below forest p n ++ xs) (filter-none (is_child forest p) n other) ∙ append-nil (children_below forest p n)

-- those before the last child are all
pub to_last : (forest : List (Option ℕ)) (p n : ℕ) → children_below forest p (end_of (last_below forest p n)) ≡ children_below forest p n
to_last forest p zero = refl
to_last forest p (suc n) =
    elim (cases_Bool (is_child forest p n)) [
      | inl child ↦ ap (λ o. children_below forest p (end_of o)) (cond-true (is_child forest p n) (Some n) (last_below forest p n) child) ∙ rw add-one refl
      | inr other ↦ ap (λ o. children_below forest p (end_of o)) (cond-false (is_child forest p n) (Some n) (last_below forest p n) other) ∙ to_last forest p n
          ∙ sym (below-skip forest p n other)
    ]

pub last-is_last : (forest : List (Option ℕ)) (p n : ℕ) → IsLast forest p (last_below forest p n)
last-is_last forest p zero = tt
last-is_last forest p (suc n) =
    elim (cases_Bool (is_child forest p n)) [
      | inl child ↦ subst (IsLast forest p) (sym (cond-true (is_child forest p n) (Some n) (last_below forest p n) child)) (is_child-true forest p n child)
      | inr other ↦ subst (IsLast forest p) (sym (cond-false (is_child forest p n) (Some n) (last_below forest p n) other)) (last-is_last forest p n)
    ]

pub last-before : (forest : List (Option ℕ)) (p n : ℕ) → end_of (last_below forest p n) ≤ n
last-before forest p zero = omega arith
last-before forest p (suc n) =
    elim (cases_Bool (is_child forest p n)) [
      | inl child ↦ rw (cond-true (is_child forest p n) (Some n) (last_below forest p n) child) (omega arith)
      | inr other ↦ rw (cond-false (is_child forest p n) (Some n) (last_below forest p n) other) (omega (arith, last-before forest p n))
    ]

-- before the last child of p, the children are those up to the one before it
pub falling-step : (forest : List (Option ℕ)) (p n : ℕ) (before : Option ℕ) → above forest n ≡ Some p → before ≡ last_below forest p n
    → reverse (children_below forest p (n + 1)) ≡ n ∷ reverse (children_below forest p (end_of before))
falling-step forest p n before e is =
    falling-child forest p n e ∙ ap (λ xs. n ∷ reverse xs) (sym (to_last forest p n) ∙ ap (λ o. children_below forest p (end_of o)) (sym is))

pub end-falls : (forest : List (Option ℕ)) (p n : ℕ) (before : Option ℕ) → before ≡ last_below forest p n → end_of before < n + 1
end-falls forest p n before is = omega (arith, last-before forest p n, ap end_of is)

pub IsLast-from : (forest : List (Option ℕ)) (p n : ℕ) (before : Option ℕ) → before ≡ last_below forest p n → IsLast forest p before
IsLast-from forest p n before is = subst (IsLast forest p) (sym is) (last-is_last forest p n)

-- all children are those up to the last
pub all_children : (forest : List (Option ℕ)) (p : ℕ) (last : Option ℕ) → last ≡ last_below forest p (length forest)
    → reverse (children_below forest p (end_of last)) ≡ reverse (children_of forest p)
all_children forest p last is = ap reverse (ap (λ o. children_below forest p (end_of o)) is ∙ to_last forest p (length forest))

pub IsLast-at : (forest : List (Option ℕ)) (p n : ℕ) (o : Option ℕ) → o ≡ Some n → IsLast forest p o → above forest n ≡ Some p
IsLast-at forest p n o is last = subst (IsLast forest p) is last

-- what is in the tables
pub last-read : (forest last earlier : List (Option ℕ)) (p : ℕ) (o : Option ℕ) → IsLinked forest last earlier → p < length forest → o ≡ get_or last p o
    → o ≡ last_below forest p (length forest)
last-read forest last earlier p o linked lt e =
    sym (read_above last p o (omega (arith, linked.last_len)) e) ∙ linked.last_of p lt

pub earlier-read : (forest last earlier : List (Option ℕ)) (p n : ℕ) (o : Option ℕ) → IsLinked forest last earlier → above forest n ≡ Some p → o ≡ get_or earlier n o
    → o ≡ last_below forest p n
earlier-read forest last earlier p n o linked child e =
    sym (read_above earlier n o (omega (arith, linked.earlier_len, above-within forest n p child)) e) ∙ linked.earlier_of n p child

pub one_more_item : {A : Type 0} (xs : List A) (x : A) (ys : List A) → (xs ++ x ∷ []) ++ ys ≡ xs ++ x ∷ ys
one_more_item [] x ys = refl
one_more_item (z ∷ xs) x ys = ap (λ zs. z ∷ zs) (one_more_item xs x ys)
