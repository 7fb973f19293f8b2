-- The clusters of a book.
use Rattle.std.specs.Prelude.{ℕ, Bool, false, List, [], ◌∷◌, map, filter, nat_eq, if◌then◌else◌}
use Rattle.asking_commands.specs.Prelude.{BookState, Line, by_name, is_instance, label_at, nat_cmp, pointwise, slice_cmp, sort_by}
use Rattle.asking_commands.specs.Prelude.line

-- it is the same as the first after it
abbrev pub is_again : List ℕ → List (List ℕ) → Bool
is_again one [] = false
is_again one (other ∷ rest) = pointwise nat_eq one other

-- of labels in order, each once
abbrev pub each_once : List (List ℕ) → List (List ℕ)
each_once [] = []
each_once (one ∷ rest) = if is_again one rest then each_once rest else one ∷ each_once rest

-- the labels of the book's instances
abbrev pub labels_of : BookState → List (List ℕ)
labels_of b = map (label_at b) (filter (is_instance b) (by_name b.names))

-- each of them once, by their bytes
unfoldable pub clusters_of : BookState → List Line
clusters_of b = map line.Cluster (each_once (sort_by (slice_cmp nat_cmp) (labels_of b)))
