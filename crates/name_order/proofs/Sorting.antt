-- Sorting by a total order in which only equal elements compare as equal gives one list.
use Rattle.std.proofs.Common.{Bool, true, zero, ◌≡◌, ℕ, ◌+◌, ◌<◌, false, cond, List, [], ◌∷◌, get_or, refl, sym, ap, subst, suc, arith, All}
use Rattle.name_order.proofs.Prelude.{All-cons, All-head, All-nil, All-permutation, All-tail, All-weaker, Equal, Greater, IsPermutation}
use Rattle.name_order.proofs.Prelude.{IsPermutation-cons, IsPermutation-middle, IsPermutation-refl, IsPermutation-sym, IsPermutation-trans}
use Rattle.name_order.proofs.Prelude.{IsSortedBy, IsStrictWeakOrder, IsTotalOrder, Less, Ordering, false≢true, insert_by, is_eq, is_gt, is_lt}
use Rattle.name_order.proofs.Prelude.{ordering_reverse, ranks_by, sort_by, sorted_far, sum_by, sum_by-cons, sum_by-IsPermutation, tied_itself}

-- elements that compare as equal are equal
abbrev pub IsTight : {X : Type 0} → (X → X → Ordering) → Type 0
IsTight {X} R = (x y : X) → R x y ≡ Equal → x ≡ y

-- no element is before the first
abbrev pub IsFirst : {X : Type 0} → (X → X → Ordering) → X → List X → Type 0
IsFirst R x xs = All (λ y. is_lt (R y x) ≡ false) xs

module _ {X : Type 0} (R : X → X → Ordering) (o : IsTotalOrder R) where
  weak : IsStrictWeakOrder (λ x y. is_lt (R x y))
  weak = ranks_by o (λ (x : X). x)

  pub first_of_sorted : (x : X) (xs : List X) → IsSortedBy (λ x y. is_lt (R x y)) (x ∷ xs) → IsFirst R x (x ∷ xs)
  first_of_sorted x xs up k d within = sorted_far (λ x y. is_lt (R x y)) weak (x ∷ xs) up 0 k d (omega arith) within

  pub rest_of_sorted : (x : X) (xs : List X) → IsSortedBy (λ x y. is_lt (R x y)) (x ∷ xs) → IsSortedBy (λ x y. is_lt (R x y)) xs
  rest_of_sorted x xs up k d low within =
      let next : suc k + 1 ≡ suc (k + 1) = omega arith in
      subst (λ (i : ℕ). is_lt (R (get_or (x ∷ xs) i d) (get_or xs k d)) ≡ false) next (up (suc k) d (omega arith) (omega (arith, within)))

  module _ (tight : IsTight R) where
    among_case : (P : X → Type 0) (z y : X) (rest : ℕ) (b : Ordering) → R z y ≡ b → 0 < cond (is_eq b) 1 0 + rest → P z → (0 < rest → P y) → P y
    among_case P z y rest Less e some here further = further (omega (arith, some))
    among_case P z y rest Equal e some here further = subst P (tight z y e) here
    among_case P z y rest Greater e some here further = further (omega (arith, some))

    -- what holds for each element holds for one that is there
    among : (P : X → Type 0) (y : X) (xs : List X) → 0 < sum_by (λ z. cond (is_eq (R z y)) 1 0) xs → All P xs → P y
    among P y [] some all = absurd (omega (arith, some))
    among P y (z ∷ zs) some all =
        among_case P z y (sum_by (λ w. cond (is_eq (R w y)) 1 0) zs) (R z y) refl
        (subst (λ n. 0 < n) (sum_by-cons (λ w. cond (is_eq (R w y)) 1 0) z zs) some)
        (All-head P z zs all) (λ more. among P y zs more (All-tail P z zs all))

    stands : (y : X) (ys : List X) → 0 < sum_by (λ z. cond (is_eq (R z y)) 1 0) (y ∷ ys)
    stands y ys = rw (sum_by-cons (λ z. cond (is_eq (R z y)) 1 0) y ys, tied_itself o y) (omega arith)

    level : (r s : Ordering) → r ≡ ordering_reverse s → is_lt r ≡ false → is_lt s ≡ false → r ≡ Equal
    level Less s e a b = absurd (false≢true (sym a))
    level Equal s e a b = refl
    level Greater Less e a b = absurd (false≢true (sym b))
    level Greater Equal e a b = e
    level Greater Greater e a b = absurd (false≢true (ap is_gt (sym e)))

    firsts : (x y : X) → is_lt (R x y) ≡ false → is_lt (R y x) ≡ false → x ≡ y
    firsts x y a b = tight x y (level (R x y) (R y x) (o.antisymm x y) a b)

    -- two sorted lists that have each element equally often
    pub one_sorted : (xs ys : List X) → ((f : X → ℕ) → sum_by f ys ≡ sum_by f xs) → IsSortedBy (λ x y. is_lt (R x y)) xs → IsSortedBy (λ x y. is_lt (R x y)) ys → ys ≡ xs
    one_sorted [] [] same up down = refl
    one_sorted [] (y ∷ ys) same up down =
        absurd (omega (arith, same (λ (z : X). 1), sum_by-cons (λ (z : X). 1) y ys))
    one_sorted (x ∷ xs) [] same up down =
        absurd (omega (arith, same (λ (z : X). 1), sum_by-cons (λ (z : X). 1) x xs))
    one_sorted (x ∷ xs) (y ∷ ys) same up down =
        let y_stands : 0 < sum_by (λ z. cond (is_eq (R z y)) 1 0) (x ∷ xs) = subst (λ n. 0 < n) (same (λ z. cond (is_eq (R z y)) 1 0)) (stands y ys) in
        let x_stands : 0 < sum_by (λ z. cond (is_eq (R z x)) 1 0) (y ∷ ys) = subst (λ n. 0 < n) (sym (same (λ z. cond (is_eq (R z x)) 1 0))) (stands x xs) in
        let one : y ≡ x = firsts y x (among (λ w. is_lt (R w x) ≡ false) y (x ∷ xs) y_stands (first_of_sorted x xs up)) (among (λ w. is_lt (R w y) ≡ false) x (y ∷ ys) x_stands (first_of_sorted y ys down)) in
        let rest : ys ≡ xs = one_sorted xs ys (λ f. tails f x y xs ys one (same f)) (rest_of_sorted x xs up) (rest_of_sorted y ys down) in
        λ i. one i ∷ rest i
      where
        tails : (f : X → ℕ) (x y : X) (xs ys : List X) → y ≡ x → sum_by f (y ∷ ys) ≡ sum_by f (x ∷ xs) → sum_by f ys ≡ sum_by f xs
        tails f x y xs ys one same = omega (arith, same, ap f one, sum_by-cons f x xs, sum_by-cons f y ys)

    pub sorted_permutations : (xs ys : List X) → IsPermutation xs ys → IsSortedBy (λ x y. is_lt (R x y)) xs → IsSortedBy (λ x y. is_lt (R x y)) ys → ys ≡ xs
    sorted_permutations xs ys moved = one_sorted xs ys (λ f. sum_by-IsPermutation f xs ys moved)

-- ---- sorting by inserting

exchanged : {X : Type 0} (x y : X) (xs : List X) → IsPermutation (x ∷ y ∷ xs) (y ∷ x ∷ xs)
exchanged x y xs = IsPermutation-middle (x ∷ []) y xs

module _ {X : Type 0} (R : X → X → Ordering) where
  inserted_case : (x y : X) (ys : List X) (first : Bool) → IsPermutation (x ∷ ys) (insert_by R x ys)
      → IsPermutation (x ∷ y ∷ ys) (cond first (x ∷ y ∷ ys) (y ∷ insert_by R x ys))
  inserted_case x y ys true rest = IsPermutation-refl (x ∷ y ∷ ys)
  inserted_case x y ys false rest =
      IsPermutation-trans (x ∷ y ∷ ys) (y ∷ x ∷ ys) (y ∷ insert_by R x ys) (exchanged x y ys) (IsPermutation-cons y (x ∷ ys) (insert_by R x ys) rest)

  pub inserted : (x : X) (ys : List X) → IsPermutation (x ∷ ys) (insert_by R x ys)
  inserted x [] = IsPermutation-refl (x ∷ [])
  inserted x (y ∷ ys) = inserted_case x y ys (is_lt (R x y)) (inserted x ys)

  pub sorted_permutes : (xs : List X) → IsPermutation xs (sort_by R xs)
  sorted_permutes [] = IsPermutation-refl []
  sorted_permutes (x ∷ xs) =
      IsPermutation-trans (x ∷ xs) (x ∷ sort_by R xs) (insert_by R x (sort_by R xs))
      (IsPermutation-cons x xs (sort_by R xs) (sorted_permutes xs)) (inserted x (sort_by R xs))

  sorted_cons : (x : X) (xs : List X) → IsFirst R x xs → IsSortedBy (λ x y. is_lt (R x y)) xs → IsSortedBy (λ x y. is_lt (R x y)) (x ∷ xs)
  sorted_cons x xs first up zero d low within = first 0 d (omega (arith, within))
  sorted_cons x xs first up (suc k) d low within =
      let next : suc k + 1 ≡ suc (k + 1) = omega arith in
      subst (λ (i : ℕ). is_lt (R (get_or (x ∷ xs) i d) (get_or xs k d)) ≡ false) (sym next) (up k d (omega arith) (omega (arith, within)))

  module _ (o : IsTotalOrder R) where
    placed_case : (x y : X) (ys : List X) (first : Bool) → is_lt (R x y) ≡ first → IsSortedBy (λ x y. is_lt (R x y)) (y ∷ ys) → IsSortedBy (λ x y. is_lt (R x y)) (insert_by R x ys)
        → IsSortedBy (λ x y. is_lt (R x y)) (cond first (x ∷ y ∷ ys) (y ∷ insert_by R x ys))
    placed_case x y ys true e up rest =
        sorted_cons x (y ∷ ys)
        (All-weaker (λ z. is_lt (R z y) ≡ false) (λ z. is_lt (R z x) ≡ false) (λ z h. (weak R o).chain z y x h ((weak R o).one_way x y e)) (y ∷ ys) (first_of_sorted R o y ys up)) up
    placed_case x y ys false e up rest =
        sorted_cons y (insert_by R x ys)
        (All-permutation (λ z. is_lt (R z y) ≡ false) (x ∷ ys) (insert_by R x ys) (inserted x ys)
        (All-cons (λ z. is_lt (R z y) ≡ false) x ys e (All-tail (λ z. is_lt (R z y) ≡ false) y ys (first_of_sorted R o y ys up)))) rest

    placed : (x : X) (ys : List X) → IsSortedBy (λ x y. is_lt (R x y)) ys → IsSortedBy (λ x y. is_lt (R x y)) (insert_by R x ys)
    placed x [] up = sorted_cons x [] (All-nil (λ z. is_lt (R z x) ≡ false)) up
    placed x (y ∷ ys) up = placed_case x y ys (is_lt (R x y)) refl up (placed x ys (rest_of_sorted R o y ys up))

    pub sorted_is_sorted : (xs : List X) → IsSortedBy (λ x y. is_lt (R x y)) (sort_by R xs)
    sorted_is_sorted [] = λ k d low within. absurd (omega (arith, within))
    sorted_is_sorted (x ∷ xs) = placed x (sort_by R xs) (sorted_is_sorted xs)

    -- what is sorted and has the same elements is the sorted list
    pub sorted_is_sort_by : (xs ys : List X) → IsTight R → IsPermutation xs ys → IsSortedBy (λ x y. is_lt (R x y)) ys → ys ≡ sort_by R xs
    sorted_is_sort_by xs ys tight moved up =
        sorted_permutations R o tight (sort_by R xs) ys
        (IsPermutation-trans (sort_by R xs) xs ys (IsPermutation-sym xs (sort_by R xs) (sorted_permutes xs)) moved) (sorted_is_sorted xs) up
