-- The replicas of each server are grouped one after another.
use Rattle.std.proofs.Common.{◌≡◌, ℕ, ◌+◌, ◌<◌, Bool, true, false, cond, List, [], ◌∷◌, ◌++◌, length, get_or, set, take, refl, sym, ◌∙◌, ap, arith, ◌==◌, filter, replicate, slice_index_or}
use Rattle.recovery_core.proofs.Prelude.{Attached, BookState, Detached, ServerNo, SourceState, Without, append-nil, eq-eqb, eqb-true, false≢true}
use Rattle.recovery_core.proofs.Prelude.{filter_more, get_or-replicate, get_or-set_other, get_or-set_same, instance_at, is_attached_to, is_replica_of}
use Rattle.recovery_core.proofs.Prelude.{joined, length-replicate, length-set, seen_source}

pub length-joined : (groups : List (List ServerNo)) (s : SourceState) (n : ServerNo) → length (joined groups s n) ≡ length groups
length-joined groups Without n = refl
length-joined groups (Attached m) n = length-set groups m.0 (slice_index_or groups m.0 [] ++ n ∷ [])
length-joined groups (Detached m) n = refl

-- what joins a server's group
abbrev member : ServerNo → SourceState → ServerNo → List ServerNo
member k s n = cond (is_attached_to k s) (n ∷ []) []

joined-at : (groups : List (List ServerNo)) (s : SourceState) (n k : ServerNo) → k.0 < length groups → get_or (joined groups s n) k.0 [] ≡ get_or groups k.0 [] ++ member k s n
joined-at groups Without n k within = sym (append-nil (get_or groups k.0 []))
joined-at groups (Attached m) n k within = go (m.0 == k.0) refl
  where
    go : (b : Bool) → (m.0 == k.0) ≡ b → get_or (set groups m.0 (get_or groups m.0 [] ++ n ∷ [])) k.0 [] ≡ get_or groups k.0 [] ++ cond b (n ∷ []) []
    go true e =
        let same : m.0 ≡ k.0 = eqb-true m.0 k.0 e in
        ap (λ i. get_or (set groups m.0 (get_or groups m.0 [] ++ n ∷ [])) i []) (sym same)
        ∙ get_or-set_same groups m.0 (get_or groups m.0 [] ++ n ∷ []) [] (omega (arith, same, within))
        ∙ ap (λ i. get_or groups i [] ++ n ∷ []) same
    go false e =
        get_or-set_other groups m.0 k.0 (get_or groups m.0 [] ++ n ∷ []) [] (λ same. false≢true (sym e ∙ eq-eqb m.0 k.0 (sym same)))
        ∙ sym (append-nil (get_or groups k.0 []))
joined-at groups (Detached m) n k within = sym (append-nil (get_or groups k.0 []))

-- the groups of the first servers of an order
pub record AreGrouped (b : BookState) (order : List ServerNo) (i : ℕ) (groups : List (List ServerNo)) : Type 0 where
  pub count : length groups ≡ length b.names
  pub members : (k : ServerNo) → k.0 < length b.names → get_or groups k.0 [] ≡ filter (is_replica_of b k) (take i order)

pub none-grouped : (b : BookState) (order : List ServerNo) (count : ℕ) → count ≡ length b.names → AreGrouped b order 0 (replicate count [])
none-grouped b order count is = record {
  count = length-replicate count [] ∙ is;
  members = λ k within. get_or-replicate count k.0 [] [] (omega (arith, within, is));
}

pub more-grouped : (b : BookState) (order : List ServerNo) (i : ℕ) (d : ServerNo) (s : SourceState) (groups new : List (List ServerNo)) → i < length order
    → s ≡ seen_source (instance_at b (get_or order i d)) → new ≡ joined groups s (get_or order i d) → AreGrouped b order i groups → AreGrouped b order (i + 1) new
more-grouped b order i d s groups new within seen is so_far = record {
  count = ap length is ∙ length-joined groups s n ∙ so_far.count;
  members = λ k short.
      ap (λ xs. get_or xs k.0 []) is
      ∙ joined-at groups s n k (omega (arith, short, so_far.count))
      ∙ ap (λ xs. xs ++ member k s n) (so_far.members k short)
      ∙ ap (λ x. filter (is_replica_of b k) (take i order) ++ member k x n) seen
      ∙ sym (filter_more (is_replica_of b k) order i d within);
}
  where
    n : ServerNo
    n = get_or order i d
