-- There is a way up exactly if the book's forest has one server above another.
pub use Rattle.recovery_core.proofs.RecoveryPlans.Choices.{same-no as same-server}
use Rattle.std.proofs.Common.{◌≡◌, ℕ, ◌<◌, Bool, true, false, List, [], ◌∷◌, length, get_or, refl, sym, ◌∙◌, ap, subst, Option, Some, None, arith, inl, inr, zero, suc, ◌||◌, ◌==◌, ◌&&◌, is_some, nat_lt, option_and_then, option_map, if◌then◌else◌}
use Rattle.move_laws.proofs.Prelude.{Attached, BookState, Detached, IsBook, IsForestOf, IsForestOf-computed, IsOrder-by_name, Path, ServerNo, SourceState}
use Rattle.move_laws.proofs.Prelude.{Without, above, are_known, attached_in, attached_of, book_forest, by_name, by_name-within, eq-eqb, eqb-true, false≢true}
use Rattle.move_laws.proofs.Prelude.{forest_of, get_or-map, instance_at, is_below, is_given, is_instance, is_on_way, is_reached, is_reached_on, is_under}
use Rattle.move_laws.proofs.Prelude.{is_under_in, known-below, length-by_name, length-forest, length-nodes, nat_tests, node_at, node_of, nodes-closed}
use Rattle.move_laws.proofs.Prelude.{option_or, parent_at, parent_of, path_beside, path_by, path_of, place-of_number, rank-of_place, rank_of, same_Some}
use Rattle.move_laws.proofs.Prelude.{seen_source, slice_get-get_or, source-known, source_in, source_node, source_nodes, source_of, source_servers, way_above}
use Rattle.move_laws.proofs.Prelude.{way_in, way_on, way_up}
use Rattle.recovery_core.specs.BookViews.Forests.{server_at}

zeroth : ServerNo
zeroth = record { 0 = 0 }

sourced-in : (b : BookState) (s : SourceState) (m : ServerNo) → are_known (length b.names) (source_servers s) ≡ true → source_in s ≡ Some m → m.0 < length b.names
sourced-in b Without m known e = cc
sourced-in b (Attached k) m known e = subst (λ (s : ServerNo). s.0 < length b.names) (same_Some k m e) (known-below (length b.names) k.0 known)
sourced-in b (Detached k) m known e = subst (λ (s : ServerNo). s.0 < length b.names) (same_Some k m e) (known-below (length b.names) k.0 known)

module _ (b : BookState) where
  -- the server at a server's node has its number
  number-at : (s : ServerNo) → s.0 < length b.names → (get_or (by_name b.names) (node_at b s) zeroth).0 ≡ s.0
  number-at s below =
      let order = by_name b.names in
      let at = place-of_number order (IsOrder-by_name b.names) s.0 (omega (arith, below, length-by_name b.names)) in
      let same : (get_or order at.0 zeroth).0 ≡ s.0 = at.2 zeroth in
      let rank : rank_of order s.0 ≡ at.0 = ap (rank_of order) (sym same) ∙ rank-of_place order (IsOrder-by_name b.names) at.0 zeroth at.1 in
      ap (λ (k : ℕ). (get_or order k zeroth).0) rank ∙ same

  -- servers with one node are one
  same-node : (s t : ServerNo) → s.0 < length b.names → t.0 < length b.names → (s.0 == t.0) ≡ (node_at b s == node_at b t)
  same-node s t at_s at_t = go (s.0 == t.0) (node_at b s == node_at b t) refl refl
    where
      go : (x y : Bool) → (s.0 == t.0) ≡ x → (node_at b s == node_at b t) ≡ y → x ≡ y
      go true true ex ey = refl
      go false false ex ey = refl
      go true false ex ey =
          let same : node_at b s ≡ node_at b t = ap (rank_of (by_name b.names)) (eqb-true s.0 t.0 ex) in
          absurd (false≢true (sym ey ∙ eq-eqb (node_at b s) (node_at b t) same))
      go false true ex ey =
          let nodes : node_at b s ≡ node_at b t = eqb-true (node_at b s) (node_at b t) ey in
          let same : s.0 ≡ t.0 = sym (number-at s at_s) ∙ ap (λ (k : ℕ). (get_or (by_name b.names) k zeroth).0) nodes ∙ number-at t at_t in
          absurd (false≢true (sym ex ∙ eq-eqb s.0 t.0 same))

  -- each node has its server
  record At (m : ℕ) : Type 0 where
    server : ServerNo
    here : server_at b m ≡ Some server
    within : server.0 < length b.names
    node : node_at b server ≡ m

  placed : (m : ℕ) → m < length b.names → At m
  placed m below =
      let order = by_name b.names in
      let short : m < length order = omega (arith, below, length-by_name b.names) in
      record {
        server = get_or order m zeroth;
        here = slice_get-get_or order m zeroth short;
        within = by_name-within b.names m zeroth short;
        node = rank-of_place order (IsOrder-by_name b.names) m zeroth short;
      }

  parent-there : (n : ServerNo) → n.0 < length b.names → parent_at b n ≡ parent_of b n
  parent-there n below = by_test (nat_lt n.0 (length b.names)) (grind (arith, nat_tests))
    where
      by_test : (t : Bool) → t ≡ true → (if t then parent_of b n else None) ≡ parent_of b n
      by_test true e = refl
      by_test false e = absurd (false≢true e)

  node-in : (n : ServerNo) → n.0 < length b.names → node_at b n < length b.names
  node-in n below =
      let order = by_name b.names in
      let at = place-of_number order (IsOrder-by_name b.names) n.0 (omega (arith, below, length-by_name b.names)) in
      let same : (get_or order at.0 zeroth).0 ≡ n.0 = at.2 zeroth in
      let rank : rank_of order n.0 ≡ at.0 = ap (rank_of order) (sym same) ∙ rank-of_place order (IsOrder-by_name b.names) at.0 zeroth at.1 in
      omega (arith, rank, at.1, length-by_name b.names)

  module _ (is : IsBook b) where
    -- a parent is a node
    closed : (n m : ℕ) → n < length b.names → above (book_forest b) n ≡ Some m → m < length b.names
    unfolding book_forest
    closed n m below e =
        let forest : IsForestOf (source_nodes b) (forest_of (source_nodes b)) = IsForestOf-computed (source_nodes b) (nodes-closed b is) in
        elim (forest.parent n (omega (arith, below, length-nodes b))) [
          | inl gone ↦ (let none : None ≡ Some m = sym gone.1 ∙ e in cc)
          | inr own ↦ (let at : above (source_nodes b) n ≡ Some m = sym own.1 ∙ e in omega (arith, nodes-closed b is n m at, length-nodes b))
        ]

    -- the node of a server's source
    source-here : (n : ServerNo) (m : ℕ) → n.0 < length b.names → above (book_forest b) (node_at b n) ≡ Some m → source_node b n ≡ Some m
    unfolding book_forest source_nodes
    source-here n m n_in e =
        let order = by_name b.names in
        let k = node_at b n in
        let short : k < length order = omega (arith, node-in n n_in, length-by_name b.names) in
        let forest : IsForestOf (source_nodes b) (forest_of (source_nodes b)) = IsForestOf-computed (source_nodes b) (nodes-closed b is) in
        elim (forest.parent k (omega (arith, node-in n n_in, length-nodes b))) [
          | inl gone ↦ (let none : None ≡ Some m = sym gone.1 ∙ e in cc)
          | inr own ↦
              (let at : above (source_nodes b) k ≡ Some m = sym own.1 ∙ e in
              ap (source_node b) (sym (same-server (get_or order k zeroth) n (number-at n n_in)))
              ∙ sym (get_or-map (source_node b) order k zeroth None short) ∙ at)
        ]

    -- the parent is the source
    pub parent-source : (n p : ServerNo) → n.0 < length b.names → parent_at b n ≡ Some p → source_of b n ≡ Some p
    parent-source n p n_in e = by_node (above (book_forest b) (node_at b n)) refl (sym (parent-there n n_in) ∙ e)
      where
        by_known : (s : ServerNo) (m : ℕ) → s.0 < length b.names → (t : Bool) → (if t then Some (node_at b s) else None) ≡ Some m → server_at b m ≡ Some p → s ≡ p
        by_known s m s_in true at here =
            let order = by_name b.names in
            let short : node_at b s < length order = omega (arith, node-in s s_in, length-by_name b.names) in
            let there : server_at b m ≡ Some (get_or order (node_at b s) zeroth) =
            ap (server_at b) (sym (same_Some (node_at b s) m at)) ∙ slice_get-get_or order (node_at b s) zeroth short in
            sym (same-server (get_or order (node_at b s) zeroth) s (number-at s s_in)) ∙ same_Some (get_or order (node_at b s) zeroth) p (sym there ∙ here)
        by_known s m s_in false at here = cc

        by_source : (o : Option ServerNo) (m : ℕ) → source_of b n ≡ o → option_and_then (node_of b) o ≡ Some m → server_at b m ≡ Some p → source_of b n ≡ Some p
        by_source None m seen at here = cc
        by_source (Some s) m seen at here =
            seen ∙ ap (λ (k : ServerNo). Some k) (by_known s m (sourced-in b (seen_source (instance_at b n)) s (source-known b n is n_in) seen) (is_instance b s) at here)

        by_node : (o : Option ℕ) → above (book_forest b) (node_at b n) ≡ o → option_and_then (server_at b) o ≡ Some p → source_of b n ≡ Some p
        by_node None at e = cc
        by_node (Some m) at e = by_source (source_of b n) m refl (source-here n m n_in at) e

    module _ (to : ServerNo) (to_in : to.0 < length b.names) where
      abbrev reached : ℕ → ℕ → Bool
      reached k n = is_reached (above (book_forest b)) k (node_at b to) n

      either : (t : Bool) (p : ServerNo) (o : Option (List ServerNo)) → is_some (if t then Some [] else option_map (λ passed. p ∷ passed) o) ≡ (t || is_some o)
      either true p o = refl
      either false p None = refl
      either false p (Some xs) = refl

      -- from a node's parent on
      from-parent : (k : ℕ) → ((s : ServerNo) → s.0 < length b.names → is_some (way_in (parent_at b) to k s) ≡ reached k (node_at b s)) → (o : Option ℕ)
          → ((m : ℕ) → o ≡ Some m → m < length b.names)
          → is_some (way_on (way_in (parent_at b) to k) to (option_and_then (server_at b) o)) ≡ is_reached_on (λ m. m == node_at b to || reached k m) o
      from-parent k rest None below = refl
      from-parent k rest (Some m) below =
          let at = placed m (below m refl) in
          ap (λ (s : Option ServerNo). is_some (way_on (way_in (parent_at b) to k) to s)) at.here
          ∙ either (at.server.0 == to.0) at.server (way_in (parent_at b) to k at.server)
          ∙ ap (λ (t : Bool). t || is_some (way_in (parent_at b) to k at.server)) (same-node at.server to at.within to_in)
          ∙ ap (λ (t : Bool). node_at b at.server == node_at b to || t) (rest at.server at.within)
          ∙ ap (λ (n : ℕ). n == node_at b to || reached k n) at.node

      goes : (k : ℕ) (n : ServerNo) → n.0 < length b.names → is_some (way_in (parent_at b) to k n) ≡ reached k (node_at b n)
      goes zero n below = refl
      goes (suc k) n below =
          ap (λ (o : Option ServerNo). is_some (way_on (way_in (parent_at b) to k) to o)) (parent-there n below)
          ∙ from-parent k (λ s at_s. goes k s at_s) (above (book_forest b) (node_at b n)) (λ m e. closed (node_at b n) m (node-in n below) e)

both-in : (x y r : Bool) → x ≡ true → y ≡ true → r ≡ (x && y && r)
both-in true true r ex ey = refl
both-in false y r ex ey = absurd (false≢true ex)
both-in true false r ex ey = absurd (false≢true ey)

above-goes : (b : BookState) (n to : ServerNo) → IsBook b → n.0 < length b.names → to.0 < length b.names → is_some (way_above b n to) ≡ is_below b n to
above-goes b n to is n_in to_in =
    goes b is to to_in (length b.names) n n_in
    ∙ ap (λ (k : ℕ). is_reached (above (book_forest b)) k (node_at b to) (node_at b n)) (sym (length-forest b))
    ∙ both-in (nat_lt n.0 (length b.names)) (nat_lt to.0 (length b.names))
    (is_reached (above (book_forest b)) (length (book_forest b)) (node_at b to) (node_at b n)) (grind (arith, nat_tests)) (grind (arith, nat_tests))

here-or : (t : Bool) (o : Option (List ServerNo)) → is_some (if t then Some [] else o) ≡ (t || is_some o)
here-or true o = refl
here-or false o = refl

pub way-goes : (b : BookState) (n to : ServerNo) → IsBook b → n.0 < length b.names → to.0 < length b.names → is_some (way_up b n to) ≡ is_under b n to
way-goes b n to is n_in to_in =
    here-or (is_given to (source_of b n)) (way_above b n to)
    ∙ ap (λ (t : Bool). is_given to (source_of b n) || t) (above-goes b n to is n_in to_in)

by-way : (under : Option ServerNo) (o : Option (List ServerNo)) → is_some (path_by under o) ≡ is_some o
by-way under None = refl
by-way under (Some xs) = refl

one-or-other : (x y : Option Path) → is_some (option_or x y) ≡ (is_some x || is_some y)
one-or-other None y = refl
one-or-other (Some x) y = refl

attached-in : (b : BookState) (s : SourceState) (m : ServerNo) → are_known (length b.names) (source_servers s) ≡ true → attached_in s ≡ Some m → m.0 < length b.names
attached-in b Without m known e = cc
attached-in b (Attached k) m known e = subst (λ (s : ServerNo). s.0 < length b.names) (same_Some k m e) (known-below (length b.names) k.0 known)
attached-in b (Detached k) m known e = cc

pub path-goes : (b : BookState) (n d : ServerNo) → IsBook b → n.0 < length b.names → d.0 < length b.names → is_some (path_of b n d) ≡ is_on_way b n d
path-goes b n d is n_in d_in =
    one-or-other (path_by None (way_up b n d)) (path_beside b n (attached_of b d))
    ∙ ap (λ (t : Bool). t || is_some (path_beside b n (attached_of b d))) (by-way None (way_up b n d) ∙ way-goes b n d is n_in d_in)
    ∙ ap (λ (t : Bool). is_under b n d || t) (beside (attached_of b d) (λ m e. attached-in b (seen_source (instance_at b d)) m (source-known b d is d_in) e))
  where
    beside : (o : Option ServerNo) → ((m : ServerNo) → o ≡ Some m → m.0 < length b.names) → is_some (path_beside b n o) ≡ is_under_in b n o
    beside None known = refl
    beside (Some s) known = by-way (Some s) (way_up b n s) ∙ way-goes b n s is n_in (known s refl)
