-- One entry for each instance, in name order.
use Rattle.std.proofs.Common.{◌≡◌, ℕ, ◌+◌, ◌<◌, cond, List, [], ◌∷◌, ◌++◌, length, map, get_or, take, suc, refl, sym, ◌∙◌, ap, Option, None, Some, arith, zero-add, count_by, filter, filter_map, is_some}
use Rattle.failure_analysis.proofs.Prelude.{BookState, Entry, Instance, IsBook, IsOrder-by_name, ServerNo, Tally, add-zero, and-true, append-nil}
use Rattle.failure_analysis.proofs.Prelude.{by_name, code_of, cons_option, count_of, counts_by, entry_at, entry_of, filter_map-append, instance_at}
use Rattle.failure_analysis.proofs.Prelude.{is_any, is_attached_to, is_instance, is_replica_of, is_replica_that, length-by_name, length-filter}
use Rattle.failure_analysis.proofs.Prelude.{option_map, option_to_list, range_with_len, replicas_of, seen_source, sum_by, sum_by-cons}
use Rattle.failure_analysis.proofs.Prelude.{sum_by-IsPermutation, take_more, tally_of}

entries-more : (b : BookState) (order : List ServerNo) (i : ℕ) (d : ServerNo) (e : Option Entry) → i < length order → entry_at b (get_or order i d) ≡ e
    → filter_map (entry_at b) (take (i + 1) order) ≡ filter_map (entry_at b) (take i order) ++ option_to_list e
entries-more b order i d e within is =
    ap (filter_map (entry_at b)) (take_more order i d within)
    ∙ filter_map-append (entry_at b) (take i order) (get_or order i d ∷ [])
    ∙ ap (λ xs. filter_map (entry_at b) (take i order) ++ xs) (go (entry_at b (get_or order i d)) e is)
  where
    go : (f g : Option Entry) → f ≡ g → filter_map (λ (x : ServerNo). f) (get_or order i d ∷ []) ≡ option_to_list g
    go None g h = ap option_to_list h
    go (Some x) g h = ap option_to_list h

-- a server that is an instance
pub entries-pushed : (b : BookState) (order : List ServerNo) (i : ℕ) (d : ServerNo) (x : Instance) (t : Tally) (e : Entry) → i < length order
    → instance_at b (get_or order i d) ≡ Some x → t ≡ tally_of b.instances (get_or order i d) → e.no ≡ get_or order i d → e.counts ≡ counts_by x t → e.code ≡ code_of e.counts
    → filter_map (entry_at b) (take i order) ++ e ∷ [] ≡ filter_map (entry_at b) (take (i + 1) order)
entries-pushed b order i d x t e within at tally named counts code =
    sym (entries-more b order i d (Some e) within (ap (option_map (entry_of b (get_or order i d))) at ∙ ap Some (sym is)))
  where
    counted : e.counts ≡ counts_by x (tally_of b.instances (get_or order i d))
    counted = counts ∙ ap (counts_by x) tally

    is : e ≡ entry_of b (get_or order i d) x
    is = λ j. record { no = named j; code = (code ∙ ap code_of counted) j; counts = counted j }

-- one that isn't
pub entries-passed : (b : BookState) (order : List ServerNo) (i : ℕ) (d : ServerNo) → i < length order → instance_at b (get_or order i d) ≡ None
    → filter_map (entry_at b) (take i order) ≡ filter_map (entry_at b) (take (i + 1) order)
entries-passed b order i d within none =
    sym (entries-more b order i d None within (ap (option_map (entry_of b (get_or order i d))) none) ∙ append-nil (filter_map (entry_at b) (take i order)))

-- ---- laws

-- the entries' servers are the instances, in the order that they are taken in
pub entries-servers : (b : BookState) (order : List ServerNo) → map (λ (e : Entry). e.no) (filter_map (entry_at b) order) ≡ filter (is_instance b) order
entries-servers b [] = refl
entries-servers b (n ∷ ns) = go (instance_at b n) (entries-servers b ns)
  where
    go : (o : Option Instance) → map (λ (e : Entry). e.no) (filter_map (entry_at b) ns) ≡ filter (is_instance b) ns
        → map (λ (e : Entry). e.no) (cons_option (option_map (entry_of b n) o) (filter_map (entry_at b) ns)) ≡ cond (is_some o) (n ∷ filter (is_instance b) ns) (filter (is_instance b) ns)
    go None rest = rest
    go (Some i) rest = ap (λ xs. n ∷ xs) rest

-- a sum over a list is one over its indices
sum-by-index : {X : Type 0} (g : X → ℕ) (xs : List X) (d : X) (a : ℕ) (f : ℕ → X) → ((i : ℕ) → i < length xs → f (a + i) ≡ get_or xs i d)
    → sum_by (λ k. g (f k)) (range_with_len a (length xs)) ≡ sum_by g xs
sum-by-index g [] d a f at = refl
sum-by-index {X} g (x ∷ xs) d a f at =
    let first : f a ≡ x = ap f (sym (add-zero a)) ∙ at 0 (omega arith) in
    let rest = sum-by-index g xs d (a + 1) f (λ i within. ap f (shift i) ∙ at (suc i) (omega (arith, within))) in
    sum_by-cons (λ k. g (f k)) a (range_with_len (a + 1) (length xs)) ∙ (λ j. g (first j) + rest j) ∙ sym (sum_by-cons g x xs)
  where
    shift : (i : ℕ) → (a + 1) + i ≡ a + suc i
    shift i = omega arith

sum-along : {X Y : Type 0} (g : Y → ℕ) (h : X → Y) (xs : List X) → sum_by g (map h xs) ≡ sum_by (λ x. g (h x)) xs
sum-along g h [] = refl
sum-along g h (x ∷ xs) = sum_by-cons g (h x) (map h xs) ∙ ap (λ s. g (h x) + s) (sum-along g h xs) ∙ sym (sum_by-cons (λ y. g (h y)) x xs)

-- the count of replicas is the length of their list
pub count-is-length : (b : BookState) (n : ServerNo) → IsBook b → count_of is_any b.instances n ≡ length (replicas_of b n)
count-is-length b n is =
    let order = by_name b.names in
    let over : sum_by (λ k. tick (get_or b.instances k None)) (range_with_len 0 (length order)) ≡ sum_by tick b.instances =
    ap (λ m. sum_by (λ k. tick (get_or b.instances k None)) (range_with_len 0 m)) (length-by_name b.names ∙ sym is.instances)
    ∙ sum-by-index tick b.instances None 0 (λ k. get_or b.instances k None) (λ i within. ap (λ k. get_or b.instances k None) (zero-add i)) in
    sym (
    length-filter (is_replica_of b n) order
    ∙ counts order
    ∙ sym (sum-along (λ k. tick (get_or b.instances k None)) (λ (s : ServerNo). s.0) order)
    ∙ sum_by-IsPermutation (λ k. tick (get_or b.instances k None)) (range_with_len 0 (length order)) (map (λ (s : ServerNo). s.0) order) (IsOrder-by_name b.names)
    ∙ over
    )
  where
    tick : Option Instance → ℕ
    tick x = cond (is_replica_that is_any n x) 1 0

    same : (x : Option Instance) → cond (is_attached_to n (seen_source x)) 1 0 ≡ tick x
    same None = refl
    same (Some i) = ap (λ y. cond y 1 0) (sym (and-true (is_attached_to n i.seen.source)))

    counts : (order : List ServerNo) → count_by (is_replica_of b n) order ≡ sum_by (λ (s : ServerNo). tick (get_or b.instances s.0 None)) order
    counts order = λ j. sum_by (λ (s : ServerNo). same (instance_at b s) j) order
