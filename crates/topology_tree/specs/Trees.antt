use Rattle.std.specs.Prelude.{◌≡◌, ◌≢◌, ℕ, ◌+◌, ◌↔◌, ◌⊎◌, List, [], ◌∷◌, ◌++◌, map, Option, Some, slice_get, Contains, AllPairs}
use Rattle.topology_tree.specs.Following.{Follows}
use Rattle.topology_tree.specs.Forests.{above}

-- an entry's node
abbrev pub node_of : ℕ × ℕ → ℕ
node_of entry = entry.0

-- the parent of a node is among some entries, at one depth less
abbrev pub HasParentIn : List (Option ℕ) → List (ℕ × ℕ) → ℕ × ℕ → Type 0
HasParentIn forest entries entry = (p : ℕ) × (e : ℕ) × Contains entries (p, e) × (above forest entry.0 ≡ Some p) × (entry.1 ≡ e + 1)

-- what a walk lists: nodes with their depths
pub record ListsTree (forest : List (Option ℕ)) (root : ℕ) (listed : List (ℕ × ℕ)) : Type 0 where
  -- the root comes first, at depth 0
  pub first : slice_get listed 0 ≡ Some (root, 0)
  -- the root and each node below it are listed, and no other
  pub exact : (n : ℕ) → Contains (map node_of listed) n ↔ ((n ≡ root) ⊎ Follows (above forest) root n)
  -- none twice
  pub once : AllPairs (λ m n. m ≢ n) (map node_of listed)
  -- each entry except the first comes after its parent, which has one depth less
  pub parents_first : (before : List (ℕ × ℕ)) (entry : ℕ × ℕ) (after : List (ℕ × ℕ)) → listed ≡ before ++ entry ∷ after → (before ≡ []) ⊎ HasParentIn forest before entry
