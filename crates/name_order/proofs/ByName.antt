-- What the order of servers by name is.
use Rattle.std.proofs.Common.{◌≡◌, ℕ, ◌+◌, ◌<◌, Bool, true, false, cond, List, [], ◌∷◌, ◌++◌, map, length, get_or, refl, sym, ap, ◌∙◌, subst, zero, suc, arith, All, AllPairs}
use Rattle.name_order.proofs.Prelude.{All-cons, All-head, All-nil, All-permutation, All-tail, All-weaker, Equal, Greater, HostPort, IsOrder}
use Rattle.name_order.proofs.Prelude.{IsPermutation, IsPermutation-map, IsRising, IsTotalOrder, Less, Ordering, ServerNo, by_name, enumerate_from}
use Rattle.name_order.proofs.Prelude.{false≢true, get_or-enumerate_from, get_or-map, get_or_default, insert_by, is_eq, is_lt, length-enumerate_from}
use Rattle.name_order.proofs.Prelude.{length-map, length_permutation, name_cmp, named, nat_cmp, nat_cmp_total, on_texts, on_total, order_of}
use Rattle.name_order.proofs.Prelude.{ordering_reverse, ordering_then, range_with_len, ranked, same_text, server_of, slice_cmp, sort_by, texts_ties}
use Rattle.name_order.proofs.Prelude.{then_total}
use Rattle.name_order.proofs.Sorting.{IsTight, inserted, sorted_permutes}

name_total : IsTotalOrder name_cmp
name_total = then_total (on_texts (λ (name : HostPort). name.host)) (on_total (λ (name : HostPort). name.port) nat_cmp_total)

pub order_total : IsTotalOrder order_of
order_total = then_total (on_total (λ (server : ℕ × HostPort). server.1) name_total) (on_total (λ (server : ℕ × HostPort). server.0) nat_cmp_total)

both_equal : (r s : Ordering) → ordering_then r s ≡ Equal → (r ≡ Equal) × (s ≡ Equal)
both_equal Less s e = absurd (false≢true (ap is_eq e))
both_equal Equal s e = (refl, e)
both_equal Greater s e = absurd (false≢true (ap is_eq e))

numbers_equal : (x y : ℕ) (r : Ordering) → r ≡ nat_cmp x y → r ≡ Equal → x ≡ y
numbers_equal x y Less e h = absurd (false≢true (ap is_eq h))
numbers_equal x y Equal e h = ranked x y Equal e
numbers_equal x y Greater e h = absurd (false≢true (ap is_eq h))

names_equal : (a b : HostPort) → name_cmp a b ≡ Equal → a ≡ b
names_equal a b e =
    let parts = both_equal (slice_cmp nat_cmp a.host b.host) (nat_cmp a.port b.port) e in
    let hosts = same_text a.host b.host (sym (texts_ties a.host b.host ∙ ap is_eq parts.0)) in
    let ports = numbers_equal a.port b.port (nat_cmp a.port b.port) refl parts.1 in
    λ i. record { host = hosts i; port = ports i }

pub order_tight : IsTight order_of
order_tight a b e =
    let parts = both_equal (name_cmp a.1 b.1) (nat_cmp a.0 b.0) e in
    let name = names_equal a.1 b.1 parts.0 in
    let number = numbers_equal a.0 b.0 (nat_cmp a.0 b.0) refl parts.1 in
    λ i. (number i, name i)

abbrev Precedes : ℕ × HostPort → ℕ × HostPort → Type 0
Precedes one other = order_of one other ≡ Less

-- pairs of a list, from its first element on
pairs_cons : {X : Type 0} (R : X → X → Type 0) (x : X) (xs : List X) → All (R x) xs → AllPairs R xs → AllPairs R (x ∷ xs)
pairs_cons R x xs first rest zero zero d below within = absurd (omega arith)
pairs_cons R x xs first rest zero (suc j) d below within = first j d (omega arith)
pairs_cons R x xs first rest (suc i) zero d below within = absurd (omega arith)
pairs_cons R x xs first rest (suc i) (suc j) d below within = rest i j d (omega arith) (omega arith)

pairs_first : {X : Type 0} (R : X → X → Type 0) (x : X) (xs : List X) → AllPairs R (x ∷ xs) → All (R x) xs
pairs_first R x xs pairs k d within = pairs 0 (suc k) d (omega arith) (omega arith)

pairs_rest : {X : Type 0} (R : X → X → Type 0) (x : X) (xs : List X) → AllPairs R (x ∷ xs) → AllPairs R xs
pairs_rest R x xs pairs i j d below within = pairs (suc i) (suc j) d (omega arith) (omega arith)

turned : (x y : ℕ × HostPort) (r s : Ordering) → order_of x y ≡ r → r ≡ ordering_reverse s → is_lt r ≡ false → x.0 < y.0 → s ≡ Less
turned x y Less s e t notless below = absurd (false≢true (sym notless))
turned x y Equal s e t notless below =
    let same = ap (λ (server : ℕ × HostPort). server.0) (order_tight x y e) in
    absurd (omega (arith, below, same))
turned x y Greater Less e t notless below = refl
turned x y Greater Equal e t notless below = absurd (false≢true (ap is_eq t))
turned x y Greater Greater e t notless below = absurd (false≢true (ap is_lt t))

placed_case : (x y : ℕ × HostPort) (ys : List (ℕ × HostPort)) (first : Bool) → is_lt (order_of x y) ≡ first → All (λ z. x.0 < z.0) (y ∷ ys)
    → AllPairs Precedes (y ∷ ys) → AllPairs Precedes (insert_by order_of x ys) → AllPairs Precedes (cond first (x ∷ y ∷ ys) (y ∷ insert_by order_of x ys))
placed_case x y ys true e lower up rest =
    let less : Precedes x y = is_less (order_of x y) e in
    pairs_cons Precedes x (y ∷ ys)
    (All-cons (Precedes x) y ys less (All-weaker (Precedes y) (Precedes x) (λ z h. order_total.trans x y z less h) ys (pairs_first Precedes y ys up))) up
  where
    is_less : (r : Ordering) → is_lt r ≡ true → r ≡ Less
    is_less Less h = refl
    is_less Equal h = absurd (false≢true h)
    is_less Greater h = absurd (false≢true h)
placed_case x y ys false e lower up rest =
    let here : Precedes y x = turned x y (order_of x y) (order_of y x) refl (order_total.antisymm x y) e (All-head (λ z. x.0 < z.0) y ys lower) in
    pairs_cons Precedes y (insert_by order_of x ys)
    (All-permutation (Precedes y) (x ∷ ys) (insert_by order_of x ys) (inserted order_of x ys) (All-cons (Precedes y) x ys here (pairs_first Precedes y ys up))) rest

placed : (x : ℕ × HostPort) (ys : List (ℕ × HostPort)) → All (λ z. x.0 < z.0) ys → AllPairs Precedes ys → AllPairs Precedes (insert_by order_of x ys)
placed x [] lower up = pairs_cons Precedes x [] (All-nil (Precedes x)) up
placed x (y ∷ ys) lower up =
    placed_case x y ys (is_lt (order_of x y)) refl lower up (placed x ys (All-tail (λ z. x.0 < z.0) y ys lower) (pairs_rest Precedes y ys up))

later_numbers : (n m : ℕ) (names : List HostPort) → n < m → All (λ z. n < z.0) (enumerate_from m names)
later_numbers n m [] below = All-nil (λ (z : ℕ × HostPort). n < z.0)
later_numbers n m (x ∷ xs) below = All-cons (λ (z : ℕ × HostPort). n < z.0) (m, x) (enumerate_from (m + 1) xs) below (later_numbers n (m + 1) xs (omega (arith, below)))

pub sorted_rises : (n : ℕ) (names : List HostPort) → AllPairs Precedes (sort_by order_of (enumerate_from n names))
sorted_rises n [] = λ i j d below within. absurd (omega (arith, within))
sorted_rises n (x ∷ xs) =
    placed (n, x) (sort_by order_of (enumerate_from (n + 1) xs))
    (All-permutation (λ (z : ℕ × HostPort). n < z.0) (enumerate_from (n + 1) xs) (sort_by order_of (enumerate_from (n + 1) xs)) (sorted_permutes order_of (enumerate_from (n + 1) xs)) (later_numbers n (n + 1) xs (omega arith)))
    (sorted_rises (n + 1) xs)

-- one more name, after all others
pub enumerated_more : (n : ℕ) (xs : List HostPort) (y : HostPort) → enumerate_from n (xs ++ y ∷ []) ≡ enumerate_from n xs ++ (n + length xs, y) ∷ []
enumerated_more n [] y =
    let index : n ≡ n + 0 = omega arith in
    ap (λ (i : ℕ). (i, y) ∷ []) index
enumerated_more n (x ∷ xs) y =
    let index : (n + 1) + length xs ≡ n + length (x ∷ xs) = omega arith in
    ap (λ (rest : List (ℕ × HostPort)). (n, x) ∷ rest) (enumerated_more (n + 1) xs y ∙ ap (λ (i : ℕ). enumerate_from (n + 1) xs ++ (i, y) ∷ []) index)

numbers : (n : ℕ) (names : List HostPort) → map (λ (server : ℕ × HostPort). server.0) (enumerate_from n names) ≡ range_with_len n (length names)
numbers n [] = refl
numbers n (x ∷ xs) = ap (λ (ns : List ℕ). n ∷ ns) (numbers (n + 1) xs)

pub length-by_name : (names : List HostPort) → length (by_name names) ≡ length names
unfolding by_name
length-by_name names =
    length-map (sort_by order_of (enumerate_from 0 names)) server_of
    ∙ length_permutation (enumerate_from 0 names) (sort_by order_of (enumerate_from 0 names)) (sorted_permutes order_of (enumerate_from 0 names))
    ∙ length-enumerate_from 0 names

server_numbers : (xs : List (ℕ × HostPort)) → map (λ (server : ServerNo). server.0) (map server_of xs) ≡ map (λ (server : ℕ × HostPort). server.0) xs
server_numbers [] = refl
server_numbers (x ∷ xs) = ap (λ (ns : List ℕ). x.0 ∷ ns) (server_numbers xs)

pub IsOrder-by_name : (names : List HostPort) → IsOrder (by_name names)
unfolding by_name
IsOrder-by_name names =
    let xs = enumerate_from 0 names in
    subst (λ (n : ℕ). IsPermutation (range_with_len 0 n) (map (λ (server : ServerNo). server.0) (by_name names))) (sym (length-by_name names))
    (subst (λ (ns : List ℕ). IsPermutation (range_with_len 0 (length names)) ns) (sym (server_numbers (sort_by order_of xs)))
    (subst (λ (ns : List ℕ). IsPermutation ns (map (λ (server : ℕ × HostPort). server.0) (sort_by order_of xs))) (numbers 0 names)
    (IsPermutation-map (λ (server : ℕ × HostPort). server.0) xs (sort_by order_of xs) (sorted_permutes order_of xs))))

numbered_names : (names : List HostPort) → All (λ (server : ℕ × HostPort). named names (server_of server) ≡ server) (enumerate_from 0 names)
numbered_names names k d within =
    let short : k < length names = omega (arith, within, length-enumerate_from 0 names) in
    let at = get_or-enumerate_from 0 names k d short in
    let index : k ≡ 0 + k = omega arith in
    subst (λ (server : ℕ × HostPort). named names (server_of server) ≡ server) (sym at)
    (λ i. (0 + k, (ap (λ (j : ℕ). get_or names j (record { host = []; port = 0 })) (sym index) ∙ get_or_default names k (record { host = []; port = 0 }) d.1 short) i))

pub IsRising-by_name : (names : List HostPort) → IsRising names (by_name names)
unfolding by_name
IsRising-by_name names i j d below within =
    let xs = sort_by order_of (enumerate_from 0 names) in
    let e : ℕ × HostPort = (0, record { host = []; port = 0 }) in
    let many : j < length xs = subst (λ (n : ℕ). j < n) (length-map xs server_of) within in
    let fewer : i < length xs = omega (arith, below, many) in
    let each = All-permutation (λ (server : ℕ × HostPort). named names (server_of server) ≡ server) (enumerate_from 0 names) xs (sorted_permutes order_of (enumerate_from 0 names)) (numbered_names names) in
    let one : named names (get_or (map server_of xs) i d) ≡ get_or xs i e = ap (named names) (get_or-map server_of xs i e d fewer) ∙ each i e fewer in
    let other : named names (get_or (map server_of xs) j d) ≡ get_or xs j e = ap (named names) (get_or-map server_of xs j e d many) ∙ each j e many in
    (λ k. order_of (one k) (other k)) ∙ sorted_rises 0 names i j e below many
