-- walks
use Rattle.std.proofs.Common.{◌≡◌, ℕ, ◌+◌, ◌-◌, ◌<◌, ◌≤◌, true, List, [], ◌∷◌, ◌++◌, length, map, reverse, refl, sym, ◌∙◌, ap, subst, inl, inr, Option, Some, None, arith, zero, suc, append_assoc, Vec, ◌^◌, slice_get}
use Rattle.topology_tree.proofs.Prelude.{All, All-cons, All-head, All-map, All-nil, All-push, All-tail, All-weaker, Direct, Ending, Follows, Further}
use Rattle.topology_tree.proofs.Prelude.{IsClosed, IsForest, IsForestOf, IsLinked, IsParent, Settles, above, append-nil, cases_lt, children_of}
use Rattle.topology_tree.proofs.Prelude.{edges_of, enumerate_from, ext_get_or, filter_passes, flat_map, is_child, map-append, nodes_below}
use Rattle.topology_tree.proofs.Prelude.{reverse-append, walk_at, with_items, with_items_is}
use Rattle.topology_tree.proofs.Chains.{above-within, above-past, Grounded-from_Settles}
use Rattle.topology_tree.proofs.Children.{is_child-true}
use Rattle.topology_tree.proofs.Levels.{level, level-above, level-below}

-- the walks that are still to come, the last one first

abbrev pub pending_walk : List (Option ℕ) → List (ℕ × ℕ) → List (ℕ × ℕ)
pending_walk forest [] = []
pending_walk forest (x ∷ xs) = pending_walk forest xs ++ walk_at forest (length forest - x.1) x.1 x.0

-- a node's depth under the root is its entry's depth
pub record InPlace (forest : List (Option ℕ)) (root : ℕ) (x : ℕ × ℕ) : Type 0 where
  pub range : x.0 < length forest
  pub depth : level forest x.0 ≡ level forest root + x.1

pub pending-append : (forest : List (Option ℕ)) (xs ys : List (ℕ × ℕ)) → pending_walk forest (xs ++ ys) ≡ pending_walk forest ys ++ pending_walk forest xs
pending-append forest [] ys = sym (append-nil (pending_walk forest ys))
pending-append forest (x ∷ xs) ys =
    ap (λ zs. zs ++ walk_at forest (length forest - x.1) x.1 x.0) (pending-append forest xs ys)
    ∙ append_assoc (pending_walk forest ys) (pending_walk forest xs) (walk_at forest (length forest - x.1) x.1 x.0)

pub pending-children : (forest : List (Option ℕ)) (depth : ℕ) (cs : List ℕ)
    → pending_walk forest (map (λ c. (c, depth)) (reverse cs)) ≡ flat_map (walk_at forest (length forest - depth) depth) cs
pending-children forest depth [] = refl
pending-children forest depth (c ∷ cs) =
    ap (λ xs. pending_walk forest (map (λ n. (n, depth)) xs)) (reverse-append (c ∷ []) cs)
    ∙ ap (pending_walk forest) (map-append (λ n. (n, depth)) (reverse cs) (c ∷ []))
    ∙ pending-append forest (map (λ n. (n, depth)) (reverse cs)) ((c, depth) ∷ [])
    ∙ ap (λ xs. walk_at forest (length forest - depth) depth c ++ xs) (pending-children forest depth cs)

pub walk-step : (forest : List (Option ℕ)) (depth node : ℕ) → depth < length forest
    → walk_at forest (length forest - depth) depth node ≡ (node, depth) ∷ flat_map (walk_at forest (length forest - (depth + 1)) (depth + 1)) (children_of forest node)
walk-step forest depth node lt =
    let e : length forest - depth ≡ suc (length forest - (depth + 1)) = omega arith in
    ap (λ v. walk_at forest v depth node) e

-- one node is listed, and its children wait in its place
pub pending-next : (forest : List (Option ℕ)) (waiting : List (ℕ × ℕ)) (depth node : ℕ) → depth < length forest
    → pending_walk forest (waiting ++ (node, depth) ∷ [])
    ≡ (node, depth) ∷ pending_walk forest (waiting ++ map (λ c. (c, depth + 1)) (reverse (children_of forest node)))
pending-next forest waiting depth node lt =
    pending-append forest waiting ((node, depth) ∷ [])
    ∙ ap (λ xs. xs ++ pending_walk forest waiting) (walk-step forest depth node lt)
    ∙ ap (λ xs. (node, depth) ∷ xs)
    (ap (λ xs. xs ++ pending_walk forest waiting) (sym (pending-children forest (depth + 1) (children_of forest node)))
    ∙ sym (pending-append forest waiting (map (λ c. (c, depth + 1)) (reverse (children_of forest node)))))

All-reverse : (P : ℕ → Type 0) (xs : List ℕ) → All P xs → All P (reverse xs)
All-reverse P [] all = all
All-reverse P (x ∷ xs) all =
    subst (All P) (sym (reverse-append (x ∷ []) xs)) (All-push P (reverse xs) x (All-reverse P xs (All-tail P x xs all)) (All-head P x xs all))

pub children-above : (forest : List (Option ℕ)) (p : ℕ) → All (λ c. above forest c ≡ Some p) (children_of forest p)
children-above forest p =
    All-weaker (λ c. is_child forest p c ≡ true) (λ c. above forest c ≡ Some p) (λ c h. is_child-true forest p c h) (children_of forest p)
    (filter_passes (is_child forest p) (nodes_below (length forest)))

pub InPlace-children : (forest : List (Option ℕ)) (root node depth : ℕ) → IsForest forest → InPlace forest root (node, depth)
    → All (InPlace forest root) (map (λ c. (c, depth + 1)) (reverse (children_of forest node)))
InPlace-children forest root node depth is place =
    All-map (InPlace forest root) (λ c. (c, depth + 1)) (reverse (children_of forest node))
    (All-reverse (λ c. InPlace forest root (c, depth + 1)) (children_of forest node)
    (All-weaker (λ c. above forest c ≡ Some node) (λ c. InPlace forest root (c, depth + 1)) (λ c e. record {
      range = above-within forest c node e;
      depth = omega (arith, level-above forest c node is.ends is.closed (above-within forest c node e) e, place.depth);
    }) (children_of forest node) (children-above forest node)))

pub InPlace-depth : (forest : List (Option ℕ)) (root node depth : ℕ) → IsForest forest → InPlace forest root (node, depth) → depth < length forest
InPlace-depth forest root node depth is place = omega (arith, level-below forest node is.ends is.closed place.range, place.depth)

-- what a list of sources makes has no loop
pub IsForest-made : (sources parents : List (Option ℕ)) → length sources < 2 ^ 32 → IsClosed sources → IsForestOf sources parents
    → ((n : ℕ) → n < length sources → Settles (above sources) n) → IsForest parents
IsForest-made sources parents few closed of settles = record {
  few = omega (arith, few, of.nodes);
  closed = λ n m e. in_list n m e (of.parent n (omega (arith, of.nodes, above-within parents n m e)));
  ends = λ n. Grounded-from_Settles (above sources) (above parents) n is_parent (settles_all n);
}
  where
    in_list : (n m : ℕ) → above parents n ≡ Some m → IsParent sources n (above parents n) → m < length parents
    in_list n m e (inl cut) = let f : None ≡ Some m = sym cut.1 ∙ e in cc
    in_list n m e (inr kept) = omega (arith, of.nodes, closed n m (sym kept.1 ∙ e))

    no_source : (n : ℕ) → length sources ≤ n → Follows (above sources) n n → ⊥
    no_source n ge (Direct n' e) = omega (arith, ge, above-within sources n n e)
    no_source n ge (Further n' m e r) = omega (arith, ge, above-within sources n m e)

    is_parent : (n : ℕ) → IsParent sources n (above parents n)
    is_parent n = elim (cases_lt n (length sources)) [
      | inl lt ↦ of.parent n lt
      | inr ge ↦ inr (λ back. absurd (no_source n ge back), above-past parents n (omega (arith, of.nodes, ge)) ∙ sym (above-past sources n ge))
    ]

    settles_all : (n : ℕ) → Settles (above sources) n
    settles_all n = elim (cases_lt n (length sources)) [
      | inl lt ↦ settles n lt
      | inr ge ↦ Ending n (above-past sources n ge)
    ]

pub IsLinked-items : {Z : Type 0} (forest : List (Option ℕ)) (v w : Vec (Option ℕ) Z) (last earlier : List (Option ℕ)) → length last ≡ v.len → length earlier ≡ w.len
    → IsLinked forest last earlier → IsLinked forest (with_items v last).items (with_items w earlier).items
IsLinked-items forest v w last earlier last_len earlier_len linked =
    subst (λ xs. IsLinked forest xs (with_items w earlier).items) (sym (with_items_is v last last_len))
    (subst (λ ys. IsLinked forest last ys) (sym (with_items_is w earlier earlier_len)) linked)

pub All-waiting : {A : Type 0} (P : A → Type 0) (xs ys : List A) → All P (xs ++ ys) → All P xs
All-waiting P [] ys all = All-nil P
All-waiting P (x ∷ xs) ys all = All-cons P x xs (All-head P x (xs ++ ys) all) (All-waiting P xs ys (All-tail P x (xs ++ ys) all))

pub All-top : {A : Type 0} (P : A → Type 0) (xs : List A) (x : A) → All P (xs ++ x ∷ []) → P x
All-top P [] x all = All-head P x [] all
All-top P (y ∷ ys) x all = All-top P ys x (All-tail P y (ys ++ x ∷ []) all)

edges-from : (k n : ℕ) (forest : List (Option ℕ)) → n < length forest → slice_get (enumerate_from k forest) n ≡ Some (k + n, above forest n)
edges-from k n [] lt = absurd (omega (arith, lt))
edges-from k zero (x ∷ xs) lt = ap (λ i. Some (i, x)) (let e : k ≡ k + 0 = omega arith in e)
edges-from k (suc n) (x ∷ xs) lt =
    edges-from (k + 1) n xs (omega (arith, lt)) ∙ ap (λ i. Some (i, above xs n)) (let e : k + 1 + n ≡ k + suc n = omega arith in e)

-- the list of (node, parent) has each node at its place
pub edges-at : (forest : List (Option ℕ)) (n : ℕ) → n < length forest → slice_get (edges_of forest) n ≡ Some (n, above forest n)
edges-at forest n lt = edges-from 0 n forest lt ∙ ap (λ i. Some (i, above forest n)) (let e : 0 + n ≡ n = omega arith in e)

same_parent : (sources : List (Option ℕ)) (n : ℕ) (p q : Option ℕ) → IsParent sources n p → IsParent sources n q → p ≡ q
same_parent sources n p q (inl a) (inl b) = a.1 ∙ sym b.1
same_parent sources n p q (inl a) (inr b) = absurd (b.0 a.0)
same_parent sources n p q (inr a) (inl b) = absurd (a.0 b.0)
same_parent sources n p q (inr a) (inr b) = a.1 ∙ sym b.1

-- a list of sources has one forest
pub one-forest : (sources one other : List (Option ℕ)) → IsForestOf sources one → IsForestOf sources other → one ≡ other
one-forest sources one other a b =
    ext_get_or None one other (a.nodes ∙ sym b.nodes)
    (λ n lt. let in_sources : n < length sources = omega (arith, lt, a.nodes) in
    same_parent sources n (above one n) (above other n) (a.parent n in_sources) (b.parent n in_sources))
