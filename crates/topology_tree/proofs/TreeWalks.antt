-- what a walk lists
use Rattle.std.proofs.Common.{◌≡◌, ℕ, ◌+◌, ◌<◌, ◌≤◌, List, [], ◌∷◌, ◌++◌, length, map, refl, sym, ◌∙◌, ap, subst, inl, inr, ◌⊎◌, Option, Some, arith, zero, suc, slice_get}
use Rattle.topology_tree.proofs.Prelude.{AllPairs-from_IsDistinct, Contains, Contains-append_left, Contains-push, Decides-eqb, Direct, Follows}
use Rattle.topology_tree.proofs.Prelude.{Further, HasParentIn, IsForest, ListsTree, above, append-nil, children_of, flat_map, is_child, node_of}
use Rattle.topology_tree.proofs.Prelude.{nodes_below, walk_at, walk_of}
use Rattle.topology_tree.proofs.Chains.{above-within, next_follows, Follows-further, Grounded-no_return}
use Rattle.topology_tree.proofs.Children.{is_child-true, child-is_child, one_more_item}
use Rattle.topology_tree.proofs.Levels.{level, level-above, level-below}
use Rattle.topology_tree.proofs.Members.{Mem, In, Differ, Apart, Mem-filter, filter-Mem, Differ-filter, below-nodes, Differ-nodes, In-flat_map, flat_map-In, Apart-append, Contains-In, In-Contains, Apart-distinct}

-- children are the nodes with that parent, each once
child-above : (forest : List (Option ℕ)) (p c : ℕ) → Mem c (children_of forest p) → above forest c ≡ Some p
child-above forest p c m = is_child-true forest p c ((Mem-filter (is_child forest p) c (nodes_below (length forest)) m).1)

above-child : (forest : List (Option ℕ)) (p c : ℕ) → above forest c ≡ Some p → Mem c (children_of forest p)
above-child forest p c e =
    filter-Mem (is_child forest p) c (nodes_below (length forest)) (below-nodes (length forest) c (above-within forest c p e)) (child-is_child forest p c e)

children-differ : (forest : List (Option ℕ)) (p : ℕ) → Differ (children_of forest p)
children-differ forest p = Differ-filter (is_child forest p) (nodes_below (length forest)) (Differ-nodes (length forest))

-- a walk lists its root and what is below it, and no other
walk-sound : (forest : List (Option ℕ)) (levels depth k n : ℕ) → In n (walk_at forest levels depth k) → (n ≡ k) ⊎ Follows (above forest) k n
walk-sound forest zero depth k n h = absurd h
walk-sound forest (suc levels) depth k n (inl same) = inl (sym same)
walk-sound forest (suc levels) depth k n (inr more) =
    let found : (c : ℕ) × Mem c (children_of forest k) × In n (walk_at forest levels (depth + 1) c) =
    In-flat_map (walk_at forest levels (depth + 1)) n (children_of forest k) more
    in
    let up : above forest found.0 ≡ Some k = child-above forest k found.0 found.1 in
    elim (walk-sound forest levels (depth + 1) found.0 n found.2) [
      | inl same ↦ inr (Direct n (ap (above forest) same ∙ up))
      | inr further ↦ inr (Follows-further (above forest) found.0 k n further up)
    ]

-- as long as levels are left, a walk begins with its root
walk-root : (forest : List (Option ℕ)) (levels depth k : ℕ) → 0 < levels → In k (walk_at forest levels depth k)
walk-root forest zero depth k lt = absurd (omega (arith, lt))
walk-root forest (suc levels) depth k lt = inl refl

-- with a node a walk lists its children
walk-closed : (forest : List (Option ℕ)) → IsForest forest → (levels depth k m c : ℕ) → length forest ≤ levels + level forest k → above forest c ≡ Some m
    → k < length forest → In m (walk_at forest levels depth k) → In c (walk_at forest levels depth k)
walk-closed forest is zero depth k m c room e lt h = absurd h
walk-closed forest is (suc levels) depth k m c room e lt (inl same) =
    let up : above forest c ≡ Some k = e ∙ ap Some (sym same) in
    let c_lt : c < length forest = above-within forest c m e in
    let deeper : level forest c ≡ level forest k + 1 = level-above forest c k is.ends is.closed c_lt up in
    inr (flat_map-In (walk_at forest levels (depth + 1)) c c (children_of forest k) (above-child forest k c up)
    (walk-root forest levels (depth + 1) c (omega (arith, room, deeper, level-below forest c is.ends is.closed c_lt))))
walk-closed forest is (suc levels) depth k m c room e lt (inr more) =
    let found : (d : ℕ) × Mem d (children_of forest k) × In m (walk_at forest levels (depth + 1) d) =
    In-flat_map (walk_at forest levels (depth + 1)) m (children_of forest k) more
    in
    let up : above forest found.0 ≡ Some k = child-above forest k found.0 found.1 in
    let d_lt : found.0 < length forest = above-within forest found.0 k up in
    let deeper : level forest found.0 ≡ level forest k + 1 = level-above forest found.0 k is.ends is.closed d_lt up in
    inr (flat_map-In (walk_at forest levels (depth + 1)) c found.0 (children_of forest k) found.1
    (walk-closed forest is levels (depth + 1) found.0 m c (omega (arith, room, deeper)) e d_lt found.2))

walk-complete : (forest : List (Option ℕ)) → IsForest forest → (root n : ℕ) → root < length forest → Follows (above forest) root n → In n (walk_of forest root)
walk-complete forest is root n lt (Direct n' e) =
    walk-closed forest is (length forest) 0 root root n (omega arith) e lt (walk-root forest (length forest) 0 root (omega (arith, lt)))
walk-complete forest is root n lt (Further n' m e r) =
    walk-closed forest is (length forest) 0 root m n (omega arith) e lt (walk-complete forest is root m lt r)

-- siblings are not below each other
not-under : (forest : List (Option ℕ)) → IsForest forest → (k c d : ℕ) → above forest c ≡ Some k → above forest d ≡ Some k → Follows (above forest) d c → ⊥
not-under forest is k c d up_c up_d r =
    elim (next_follows (above forest) d c k up_c r) [
      | inl same ↦ Grounded-no_return (above forest) d (is.ends d) (Direct d (up_d ∙ ap Some same))
      | inr further ↦ Grounded-no_return (above forest) d (is.ends d) (Further d k up_d further)
    ]

-- of two nodes that one comes to, one comes to the other
comparable : (up : ℕ → Option ℕ) (c d n : ℕ) → Follows up c n → Follows up d n → (c ≡ d) ⊎ (Follows up d c ⊎ Follows up c d)
comparable up c d n (Direct n' e) s =
    elim (next_follows up d n c e s) [ inl same ↦ inl same | inr further ↦ inr (inl further) ]
comparable up c d n (Further n' m e r) s =
    elim (next_follows up d n m e s) [
      | inl same ↦ inr (inr (subst (Follows up c) same r))
      | inr further ↦ comparable up c d m r further
    ]

apart-siblings : (forest : List (Option ℕ)) → IsForest forest → (k c d n : ℕ) → above forest c ≡ Some k → above forest d ≡ Some k → (c ≡ d → ⊥)
    → (n ≡ c) ⊎ Follows (above forest) c n → (n ≡ d) ⊎ Follows (above forest) d n → ⊥
apart-siblings forest is k c d n up_c up_d other (inl a) (inl b) = other (sym a ∙ b)
apart-siblings forest is k c d n up_c up_d other (inl a) (inr s) = not-under forest is k c d up_c up_d (subst (Follows (above forest) d) a s)
apart-siblings forest is k c d n up_c up_d other (inr r) (inl b) = not-under forest is k d c up_d up_c (subst (Follows (above forest) c) b r)
apart-siblings forest is k c d n up_c up_d other (inr r) (inr s) =
    elim (comparable (above forest) c d n r s) [
      | inl same ↦ other same
      | inr either ↦ elim either [
        | inl under ↦ not-under forest is k c d up_c up_d under
        | inr over ↦ not-under forest is k d c up_d up_c over
      ]
    ]

apart-walks : (forest : List (Option ℕ)) → IsForest forest → (levels depth k : ℕ) → ((c : ℕ) → Apart (walk_at forest levels depth c)) → (cs : List ℕ) → Differ cs
    → ((c : ℕ) → Mem c cs → above forest c ≡ Some k) → Apart (flat_map (walk_at forest levels depth) cs)
apart-walks forest is levels depth k each [] differ up = tt
apart-walks forest is levels depth k each (c ∷ cs) differ up =
    Apart-append (walk_at forest levels depth c) (flat_map (walk_at forest levels depth) cs) (each c)
    (apart-walks forest is levels depth k each cs differ.1 (λ d m. up d (inr m)))
    (λ n here there.
    let found : (d : ℕ) × Mem d cs × In n (walk_at forest levels depth d) = In-flat_map (walk_at forest levels depth) n cs there in
    apart-siblings forest is k c found.0 n (up c (inl refl)) (up found.0 (inr found.1))
    (λ same. differ.0 (subst (λ y. Mem y cs) (sym same) found.1))
    (walk-sound forest levels depth c n here) (walk-sound forest levels depth found.0 n found.2))

walk-apart : (forest : List (Option ℕ)) → IsForest forest → (levels depth k : ℕ) → Apart (walk_at forest levels depth k)
walk-apart forest is zero depth k = tt
walk-apart forest is (suc levels) depth k = (
  λ h.
      let found : (c : ℕ) × Mem c (children_of forest k) × In k (walk_at forest levels (depth + 1) c) =
      In-flat_map (walk_at forest levels (depth + 1)) k (children_of forest k) h
      in
      let up : above forest found.0 ≡ Some k = child-above forest k found.0 found.1 in
      elim (walk-sound forest levels (depth + 1) found.0 k found.2) [
        | inl same ↦ Grounded-no_return (above forest) k (is.ends k) (Direct k (ap (above forest) same ∙ up))
        | inr further ↦ Grounded-no_return (above forest) k (is.ends k) (Follows-further (above forest) found.0 k k further up)
      ],
  apart-walks forest is levels (depth + 1) k (λ c. walk-apart forest is levels (depth + 1) c) (children_of forest k) (children-differ forest k)
      (λ c m. child-above forest k c m),
)

-- each entry is after its parent, if those that are seen are before them all
abbrev AfterParents : List (Option ℕ) → List (ℕ × ℕ) → List (ℕ × ℕ) → Type 0
AfterParents forest seen [] = Unit {0}
AfterParents forest seen (x ∷ xs) = HasParentIn forest seen x × AfterParents forest (seen ++ x ∷ []) xs

after-append : (forest : List (Option ℕ)) (seen xs ys : List (ℕ × ℕ)) → AfterParents forest seen xs → AfterParents forest (seen ++ xs) ys → AfterParents forest seen (xs ++ ys)
after-append forest seen [] ys a b = subst (λ zs. AfterParents forest zs ys) (append-nil seen) b
after-append forest seen (x ∷ xs) ys a b =
    (a.0, after-append forest (seen ++ x ∷ []) xs ys a.1 (subst (λ zs. AfterParents forest zs ys) (sym (one_more_item seen x xs)) b))

after-walks : (forest : List (Option ℕ)) (levels depth p : ℕ) (seen : List (ℕ × ℕ)) (cs : List ℕ)
    → ((before : List (ℕ × ℕ)) (c : ℕ) → HasParentIn forest before (c, depth + 1) → AfterParents forest before (walk_at forest levels (depth + 1) c))
    → Contains seen (p, depth) → ((c : ℕ) → Mem c cs → above forest c ≡ Some p) → AfterParents forest seen (flat_map (walk_at forest levels (depth + 1)) cs)
after-walks forest levels depth p seen [] each there up = tt
after-walks forest levels depth p seen (c ∷ cs) each there up =
    after-append forest seen (walk_at forest levels (depth + 1) c) (flat_map (walk_at forest levels (depth + 1)) cs)
    (each seen c (p, depth, there, up c (inl refl), refl))
    (after-walks forest levels depth p (seen ++ walk_at forest levels (depth + 1) c) cs each (Contains-append_left seen (walk_at forest levels (depth + 1) c) (p, depth) there)
    (λ d m. up d (inr m)))

walk-after : (forest : List (Option ℕ)) (levels depth : ℕ) (seen : List (ℕ × ℕ)) (k : ℕ) → HasParentIn forest seen (k, depth) → AfterParents forest seen (walk_at forest levels depth k)
walk-after forest zero depth seen k parent = tt
walk-after forest (suc levels) depth seen k parent = (
  parent,
  after-walks forest levels depth k (seen ++ (k, depth) ∷ []) (children_of forest k) (λ before c h. walk-after forest levels (depth + 1) before c h)
      (Contains-push seen (k, depth)) (λ c m. child-above forest k c m),
)

after-at : (forest : List (Option ℕ)) (seen before : List (ℕ × ℕ)) (x : ℕ × ℕ) (after : List (ℕ × ℕ)) → AfterParents forest seen (before ++ x ∷ after) → HasParentIn forest (seen ++ before) x
after-at forest seen [] x after h = subst (λ zs. HasParentIn forest zs x) (sym (append-nil seen)) h.0
after-at forest seen (b ∷ bs) x after h =
    subst (λ zs. HasParentIn forest zs x) (one_more_item seen b bs) (after-at forest (seen ++ b ∷ []) bs x after h.1)

-- the tail of a list with a known head
tail_of : List (ℕ × ℕ) → List (ℕ × ℕ)
tail_of [] = []
tail_of (x ∷ xs) = xs

head_of : ℕ × ℕ → List (ℕ × ℕ) → ℕ × ℕ
head_of d [] = d
head_of d (x ∷ xs) = x

parents-first : (forest : List (Option ℕ)) (levels k : ℕ) (before : List (ℕ × ℕ)) (entry : ℕ × ℕ) (after : List (ℕ × ℕ))
    → walk_at forest levels 0 k ≡ before ++ entry ∷ after → (before ≡ []) ⊎ HasParentIn forest before entry
unfolding tail_of head_of
parents-first forest levels k [] entry after e = inl refl
parents-first forest zero k (b ∷ bs) entry after e = cc
parents-first forest (suc levels) k (b ∷ bs) entry after e =
    let head : (k, 0) ≡ b = ap (head_of (k, 0)) e in
    let tail : flat_map (walk_at forest levels (0 + 1)) (children_of forest k) ≡ bs ++ entry ∷ after = ap tail_of e in
    let all : AfterParents forest ((k, 0) ∷ []) (flat_map (walk_at forest levels (0 + 1)) (children_of forest k)) =
    after-walks forest levels 0 k ((k, 0) ∷ []) (children_of forest k) (λ before c h. walk-after forest levels (0 + 1) before c h) (Contains-push [] (k, 0)) (λ c m. child-above forest k c m)
    in
    inr (subst (λ z. HasParentIn forest (z ∷ bs) entry) head (after-at forest ((k, 0) ∷ []) bs entry after (subst (AfterParents forest ((k, 0) ∷ [])) tail all)))

walk-first : (forest : List (Option ℕ)) (levels depth k : ℕ) → 0 < levels → slice_get (walk_at forest levels depth k) 0 ≡ Some (k, depth)
walk-first forest zero depth k lt = absurd (omega (arith, lt))
walk-first forest (suc levels) depth k lt = refl

pub walk-lists_tree : (forest : List (Option ℕ)) → IsForest forest → (root : ℕ) → root < length forest → ListsTree forest root (walk_of forest root)
walk-lists_tree forest is root lt = record {
  first = walk-first forest (length forest) 0 root (omega (arith, lt));
  exact = λ n. (
    λ h. walk-sound forest (length forest) 0 root n (Contains-In n (walk_of forest root) h),
    λ h. In-Contains n (walk_of forest root) (elim h [
      | inl same ↦ subst (λ y. In y (walk_of forest root)) (sym same) (walk-root forest (length forest) 0 root (omega (arith, lt)))
      | inr under ↦ walk-complete forest is root n lt under
    ]),
  );
  once = AllPairs-from_IsDistinct Decides-eqb (map node_of (walk_of forest root)) (Apart-distinct (walk_of forest root) (walk-apart forest is (length forest) 0 root));
  parents_first = λ before entry after e. parents-first forest (length forest) root before entry after e;
}
