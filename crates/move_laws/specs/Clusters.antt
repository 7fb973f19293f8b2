-- The listing of a book's clusters.
use Rattle.std.specs.Prelude.{◌≡◌, ◌<◌, ℕ, true, List, length, map, All, AllPairs, Contains}
use Rattle.move_laws.specs.Prelude.{BookState, Less, Line, ServerNo, is_instance, label_at, nat_cmp, slice_cmp}
use Rattle.move_laws.specs.Prelude.line

-- one label is before another by its bytes
abbrev pub IsBefore : List ℕ → List ℕ → Type 0
IsBefore one other = slice_cmp nat_cmp one other ≡ Less

-- the cluster of an instance has this label
pub record IsLabelled (b : BookState) (label : List ℕ) : Type 0 where
  pub server : ServerNo
  pub within : server.0 < length b.names
  pub is : is_instance b server ≡ true
  pub has : label_at b server ≡ label

-- The lines name labels, each before those after it, and so each once: that of each instance's cluster, and no other.
pub record ListsEachOnce (b : BookState) (lines : List Line) : Type 0 where
  pub labels : List (List ℕ)
  pub told : lines ≡ map line.Cluster labels
  pub once : AllPairs IsBefore labels
  pub all : (label : List ℕ) → IsLabelled b label → Contains labels label
  pub only : All (IsLabelled b) labels
