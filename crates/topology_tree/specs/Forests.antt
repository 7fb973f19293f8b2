use Rattle.std.specs.Prelude.{◌≡◌, ℕ, ◌+◌, ◌<◌, Bool, false, ◌==◌, ◌⊎◌, List, [], ◌∷◌, ◌++◌, length, filter, Option, Some, None, zero, suc, slice_index_or}
use Rattle.std.specs.List.{enumerate_from, flat_map}
use Rattle.topology_tree.specs.Following.{ComesBack}

-- what a list holds at a node's place: its source, or its parent; none past the list's end
abbrev pub above : List (Option ℕ) → ℕ → Option ℕ
above ups node = slice_index_or ups node None

-- each source is a place of the list
abbrev pub IsClosed : List (Option ℕ) → Type 0
IsClosed ups = (n m : ℕ) → above ups n ≡ Some m → m < length ups

-- the parent is the source, unless the node comes back to itself by following sources
abbrev pub IsParent : List (Option ℕ) → ℕ → Option ℕ → Type 0
IsParent sources node parent =
    (ComesBack (above sources) node × (parent ≡ None)) ⊎ ((ComesBack (above sources) node → ⊥) × (parent ≡ above sources node))

-- a forest, as the parents of the nodes from 0 on, is that of these sources: no node is dropped, and each has its
-- parent
pub record IsForestOf (sources parents : List (Option ℕ)) : Type 0 where
  pub nodes : length parents ≡ length sources
  pub parent : (node : ℕ) → node < length sources → IsParent sources node (above parents node)

-- a forest as the list of (node, parent)
abbrev pub edges_of : List (Option ℕ) → List (ℕ × Option ℕ)
edges_of forest = enumerate_from 0 forest

-- the parent is this node
abbrev pub is_node : ℕ → Option ℕ → Bool
is_node p None = false
is_node p (Some q) = q == p

-- a node has this parent
abbrev pub is_child : List (Option ℕ) → ℕ → ℕ → Bool
is_child forest p node = is_node p (above forest node)

-- 0, 1, 2 and so on, so many
abbrev pub nodes_below : ℕ → List ℕ
nodes_below zero = []
nodes_below (suc n) = nodes_below n ++ n ∷ []

-- the nodes with that parent, by rising number
abbrev pub children_of : List (Option ℕ) → ℕ → List ℕ
children_of forest p = filter (is_child forest p) (nodes_below (length forest))

-- the node at that depth, then the walks of its children in order, each one deeper; so many levels of them
abbrev pub walk_at : List (Option ℕ) → ℕ → ℕ → ℕ → List (ℕ × ℕ)
walk_at forest zero depth node = []
walk_at forest (suc levels) depth node = (node, depth) ∷ flat_map (walk_at forest levels (depth + 1)) (children_of forest node)

-- the walk from a root; a forest has no more levels than nodes
abbrev pub walk_of : List (Option ℕ) → ℕ → List (ℕ × ℕ)
walk_of forest root = walk_at forest (length forest) 0 root
