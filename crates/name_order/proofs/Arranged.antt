-- What std's sort gives is the order of servers by name.
use Rattle.std.proofs.Common.{sym, get_or, ◌≡◌, ℕ, ◌+◌, ◌<◌, List, [], ◌∷◌, ◌++◌, take, Bor, Bool, map, length, ap, ◌∙◌, subst, refl, arith, All}
use Rattle.name_order.proofs.Prelude.{HostPort, IsPermutation, IsPermutation-map, IsSortedBy, IsStrictWeakOrder, ServerNo, by_name, enumerate_from}
use Rattle.name_order.proofs.Prelude.{get_or-map, is_lt, length-map, length-take, map-append, order_of, ranks_by, server_of, take_more}
use Rattle.name_order.proofs.ByName.{length-by_name, IsOrder-by_name, enumerated_more, order_total, order_tight}
use Rattle.name_order.proofs.Placing.{number_below}
use Rattle.name_order.proofs.Sorting.{sorted_is_sort_by}

-- a server as it is sorted, by number and name
abbrev pub seen : ℕ × Bor HostPort → ℕ × HostPort
seen server = (server.0, server.1.now)

abbrev pub less : ℕ × Bor HostPort → ℕ × Bor HostPort → Bool
less one other = is_lt (order_of (seen one) (seen other))

pub less_weak : IsStrictWeakOrder less
less_weak = ranks_by order_total seen

seen_sorted : (xs : List (ℕ × Bor HostPort)) → IsSortedBy less xs → IsSortedBy (λ one other. is_lt (order_of one other)) (map seen xs)
seen_sorted [] up k d low within = absurd (omega (arith, within))
seen_sorted (x ∷ xs) up k d low within =
    let short : k + 1 < length (x ∷ xs) = subst (λ (n : ℕ). k + 1 < n) (length-map (x ∷ xs) seen) within in
    let here = get_or-map seen (x ∷ xs) k x d (omega (arith, short)) in
    let next = get_or-map seen (x ∷ xs) (k + 1) x d short in
    (λ i. is_lt (order_of (next i) (here i))) ∙ up k x low short

server_numbers : (xs : List (ℕ × Bor HostPort)) → map (λ (s : ℕ × Bor HostPort). record { 0 = s.0 }) xs ≡ map server_of (map seen xs)
server_numbers [] = refl
server_numbers (x ∷ xs) = ap (λ (rest : List ServerNo). server_of (seen x) ∷ rest) (server_numbers xs)

pub sorted_is_by_name : (names : List HostPort) (xs ys : List (ℕ × Bor HostPort)) → map seen xs ≡ enumerate_from 0 names → IsPermutation xs ys → IsSortedBy less ys
    → map (λ (s : ℕ × Bor HostPort). record { 0 = s.0 }) ys ≡ by_name names
unfolding by_name
sorted_is_by_name names xs ys each moved up =
    let all = enumerate_from 0 names in
    let seen_moved : IsPermutation all (map seen ys) = subst (λ (zs : List (ℕ × HostPort)). IsPermutation zs (map seen ys)) each (IsPermutation-map seen xs ys moved) in
    server_numbers ys ∙ ap (map server_of) (sorted_is_sort_by order_of order_total all (map seen ys) order_tight seen_moved (seen_sorted ys up))

-- one more server, with the next name
pub seen_more : (names : List HostPort) (xs : List (ℕ × Bor HostPort)) (place : ℕ) (name : Bor HostPort) → name.now ≡ get_or names place name.now → place < length names
    → map seen xs ≡ enumerate_from 0 (take place names) → map seen (xs ++ (place, name) ∷ []) ≡ enumerate_from 0 (take (place + 1) names)
seen_more names xs place name at short so_far =
    let index : 0 + length (take place names) ≡ place = omega (arith, length-take place names, short) in
    map-append seen xs ((place, name) ∷ [])
    ∙ ap (λ (zs : List (ℕ × HostPort)). zs ++ (place, name.now) ∷ []) so_far
    ∙ ap (λ (i : ℕ). enumerate_from 0 (take place names) ++ (i, name.now) ∷ []) (sym index)
    ∙ sym (enumerated_more 0 (take place names) name.now)
    ∙ ap (λ (n : HostPort). enumerate_from 0 (take place names ++ n ∷ [])) at
    ∙ ap (enumerate_from 0) (sym (take_more names place name.now short))

pub by_name-within : (names : List HostPort) → All (λ (server : ServerNo). server.0 < length names) (by_name names)
by_name-within names k d short =
    let below = number_below (by_name names) (IsOrder-by_name names) k d short in
    omega (arith, below, length-by_name names)
