use Rattle.std.specs.Prelude.{◌≡◌, ℕ, ◌<◌, Bool, true, false, ◌⊎◌, List, length, Option, Some, None, slice_index, slice_index_or}
use Rattle.topology_tree.specs.Following.{Follows, ComesBack, Grounded}
use Rattle.topology_tree.specs.Forests.{above}

abbrev pub IsMarked : List Bool → ℕ → Type 0
IsMarked marks n = slice_index_or marks n false ≡ true

-- following from a node comes to one that has nothing to follow, or to one that comes back to itself
pub data Settles (up : ℕ → Option ℕ) : ℕ → Type 0 where
  Ending : (n : ℕ) → up n ≡ None → Settles up n
  Looping : (n : ℕ) → ComesBack up n → Settles up n
  Following : (n m : ℕ) → up n ≡ Some m → Settles up m → Settles up n

-- only nodes that come back to themselves are marked, and with a node what it follows
pub record MarksLoops (up : ℕ → Option ℕ) (looped : List Bool) : Type 0 where
  pub sound : (n : ℕ) → IsMarked looped n → ComesBack up n
  pub closed : (n m : ℕ) → IsMarked looped n → up n ≡ Some m → IsMarked looped m

-- what following from a node has come to so far: nowhere to go, or this one
abbrev pub LeadsTo : (ℕ → Option ℕ) → Option ℕ → ℕ → Type 0
LeadsTo up None n = Grounded up n
LeadsTo up (Some x) n = Follows up x n

-- each node carries the number of an earlier walk or the mark of those that no walk has met
abbrev pub IsBefore : List (Option ℕ) → List ℕ → ℕ → Type 0
IsBefore sources walks start = (n : ℕ) → n < length sources → (slice_index walks n < start) ⊎ (slice_index walks n ≡ length sources)

-- a walk from start: earlier marks stay, each node that it met leads to the node at which it stopped, and what a met
-- node follows was met
pub record Walked (sources : List (Option ℕ)) (before after : List ℕ) (start : ℕ) (stop : Option ℕ) : Type 0 where
  pub kept : (n : ℕ) → n < length sources → slice_index before n < start → slice_index after n < start
  pub earlier : (n : ℕ) → n < length sources → slice_index after n < start → slice_index before n < start
  pub others : (n : ℕ) → n < length sources → (slice_index after n < start) ⊎ ((slice_index after n ≡ start) ⊎ (slice_index after n ≡ length sources))
  pub leads : (n : ℕ) → n < length sources → slice_index after n ≡ start → LeadsTo (above sources) stop n
  pub met : (n m : ℕ) → n < length sources → slice_index after n ≡ start → above sources n ≡ Some m → (slice_index after m < length sources) ⊎ (stop ≡ Some m)

-- the nodes of earlier walks: each settles, what they follow is one of them, and those that come back are marked
pub record Finished (sources : List (Option ℕ)) (walks : List ℕ) (start : ℕ) (looped : List Bool) : Type 0 where
  pub settles : (n : ℕ) → n < length sources → slice_index walks n < start → Settles (above sources) n
  pub closed : (n m : ℕ) → n < length sources → slice_index walks n < start → above sources n ≡ Some m → slice_index walks m < start
  pub known : (n : ℕ) → n < length sources → slice_index walks n < start → ComesBack (above sources) n → IsMarked looped n
