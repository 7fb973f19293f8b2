-- Labels in the order of their bytes.
use Rattle.std.proofs.Common.{◌≡◌, ℕ, ◌+◌, ◌<◌, Bool, List, [], ◌∷◌, Bor, map, length, sym, ap, ◌∙◌, subst, arith}
use Rattle.std.specs.List.Sorted.{IsPermutation, IsSortedBy}
use Rattle.std.specs.Cmp.{IsStrictWeakOrder}
use Rattle.std.specs.Cmp.Lexicographic.{slice_cmp, same_text, texts_ties}
use Rattle.std.specs.Ordering.{is_lt, is_eq, nat_cmp}
use Rattle.std.proofs.lemmas.Cmp.{nat_list_cmp_total}
use Rattle.std.proofs.lemmas.List.{get_or-map, length-map}
use Rattle.std.proofs.lemmas.List.Sorted.{IsPermutation-map, ranks_by}
use Rattle.instance_keeper.specs.NameOrder.Sorts.{sort_by}
use Rattle.instance_keeper.proofs.NameOrder.Sorting.{IsTight, sorted_is_sort_by}

abbrev pub seen : Bor (List ℕ) → List ℕ
seen label = label.now

abbrev pub less : Bor (List ℕ) → Bor (List ℕ) → Bool
less one other = is_lt (slice_cmp nat_cmp one.now other.now)

pub less_weak : IsStrictWeakOrder less
less_weak = ranks_by nat_list_cmp_total seen

bytes_tight : IsTight (slice_cmp nat_cmp)
bytes_tight a b e = same_text a b (sym (texts_ties a b ∙ ap is_eq e))

seen_sorted : (xs : List (Bor (List ℕ))) → IsSortedBy less xs → IsSortedBy (λ one other. is_lt (slice_cmp nat_cmp one other)) (map seen xs)
seen_sorted [] up k d low within = absurd (omega (arith, within))
seen_sorted (x ∷ xs) up k d low within =
    let short : k + 1 < length (x ∷ xs) = subst (λ (n : ℕ). k + 1 < n) (length-map (x ∷ xs) seen) within in
    let here = get_or-map seen (x ∷ xs) k x d (omega (arith, short)) in
    let next = get_or-map seen (x ∷ xs) (k + 1) x d short in
    (λ i. is_lt (slice_cmp nat_cmp (next i) (here i))) ∙ up k x low short

pub sorted_labels : (xs ys : List (Bor (List ℕ))) (labels : List (List ℕ)) → map seen xs ≡ labels → IsPermutation xs ys → IsSortedBy less ys → map seen ys ≡ sort_by (slice_cmp nat_cmp) labels
sorted_labels xs ys labels each moved up =
    sorted_is_sort_by (slice_cmp nat_cmp) nat_list_cmp_total labels (map seen ys) bytes_tight
    (subst (λ (zs : List (List ℕ)). IsPermutation zs (map seen ys)) each (IsPermutation-map seen xs ys moved)) (seen_sorted ys up)
