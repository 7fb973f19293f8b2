-- The nodes of sources.
use Rattle.std.proofs.Common.{◌≡◌, ℕ, ◌<◌, Bool, true, false, cond, length, get_or, map, None, Some, sym, ap, ◌∙◌, subst, inl, inr, arith, option_and_then}
use Rattle.book_views.proofs.Prelude.{Attached, BookState, Detached, IsBook, IsClosed, IsOrder-by_name, ServerNo, SourceState, Without, are_known}
use Rattle.book_views.proofs.Prelude.{book_forest, by_name, by_name-within, cases_lt, forest_of, get_or-map, get_or_past, instance_at, is_instance}
use Rattle.book_views.proofs.Prelude.{length-by_name, length-map, length-map-range_with_len, node_at, node_of, place-of_number, rank-of_place}
use Rattle.book_views.proofs.Prelude.{rank_of, same_Some, seen_source, source_in, source_node, source_nodes, source_servers}
use Rattle.book_views.proofs.Prelude.making
use Rattle.book_views.proofs.Reading.{known-below, source-known}

pub length-nodes : (b : BookState) → length (source_nodes b) ≡ length b.names
unfolding source_nodes
length-nodes b = length-map (by_name b.names) (source_node b) ∙ length-by_name b.names

pub rank-below : (b : BookState) (s : ServerNo) → s.0 < length b.names → node_at b s < length b.names
rank-below b s below =
    let order = by_name b.names in
    let at = place-of_number order (IsOrder-by_name b.names) s.0 (omega (arith, below, length-by_name b.names)) in
    let d : ServerNo = record { 0 = 0 } in
    let same : (get_or order at.0 d).0 ≡ s.0 = at.2 d in
    let rank : rank_of order s.0 ≡ at.0 = ap (rank_of order) (sym same) ∙ rank-of_place order (IsOrder-by_name b.names) at.0 d at.1 in
    omega (arith, rank, at.1, length-by_name b.names)

placed-below : (b : BookState) (s : ServerNo) (m : ℕ) → s.0 < length b.names → node_of b s ≡ Some m → m < length b.names
placed-below b s m below is = by_test (is_instance b s) is
  where
    by_test : (known : Bool) → cond known (Some (node_at b s)) None ≡ Some m → m < length b.names
    by_test true e = subst (λ (k : ℕ). k < length b.names) (same_Some (node_at b s) m e) (rank-below b s below)
    by_test false e = cc

by_source : (b : BookState) (source : SourceState) (m : ℕ) → are_known (length b.names) (source_servers source) ≡ true → option_and_then (node_of b) (source_in source) ≡ Some m → m < length b.names
by_source b Without m known e = cc
by_source b (Attached s) m known e = placed-below b s m (known-below (length b.names) s.0 known) e
by_source b (Detached s) m known e = placed-below b s m (known-below (length b.names) s.0 known) e

pub nodes-closed : (b : BookState) → IsBook b → IsClosed (source_nodes b)
unfolding source_nodes
nodes-closed b is n m at = elim (cases_lt n (length (by_name b.names))) [
  | inl within ↦
      (let d : ServerNo = record { 0 = 0 } in
      let server = get_or (by_name b.names) n d in
      let here : source_node b server ≡ Some m = sym (get_or-map (source_node b) (by_name b.names) n d None within) ∙ at in
      let below = by_source b (seen_source (instance_at b server)) m (source-known b server is (by_name-within b.names n d within)) here in
      omega (arith, below, length-nodes b))
  | inr past ↦
      (let none : None ≡ Some m = sym (get_or_past (map (source_node b) (by_name b.names)) n None (omega (arith, past, length-map (by_name b.names) (source_node b)))) ∙ at in cc)
]

pub length-forest : (b : BookState) → length (book_forest b) ≡ length b.names
unfolding book_forest forest_of
length-forest b = length-map-range_with_len (making.parent_of (source_nodes b)) 0 (length (source_nodes b)) ∙ length-nodes b
