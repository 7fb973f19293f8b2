-- The replicas of each server, by server number.
use Rattle.std.specs.Prelude.{◌≡◌, ◌<◌, List, [], ◌∷◌, ◌++◌, length, slice_index_or, slice_set}
use Rattle.recovery_core.specs.Prelude.{Attached, BookState, Detached, ServerNo, SourceState, Without, replicas_of}

-- these are the replicas of each server, in name order
pub record AreGroups (b : BookState) (xs : List (List ServerNo)) : Type 0 where
  pub count : length xs ≡ length b.names
  pub groups : (n : ServerNo) → n.0 < length b.names → slice_index_or xs n.0 [] ≡ replicas_of b n

-- a server joins those that are attached to its source
abbrev pub joined : List (List ServerNo) → SourceState → ServerNo → List (List ServerNo)
joined groups Without n = groups
joined groups (Attached m) n = slice_set groups m.0 (slice_index_or groups m.0 [] ++ n ∷ [])
joined groups (Detached m) n = groups
