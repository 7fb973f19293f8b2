-- Lists by the labels of clusters.
use Rattle.std.specs.Prelude.{◌≡◌, ℕ, All, List, [], None, Option, Some, false, nat_eq, position, slice_get, true}
use Rattle.std.specs.Cmp.Lexicographic.{pointwise, slice_cmp}
use Rattle.std.specs.List.Sorted.{IsPartitionPoint, IsSortedBy}
use Rattle.std.specs.Ordering.{is_lt, nat_cmp}
use Rattle.scenarios.specs.declared.blocks.Block.{Block}
use Rattle.scenarios.specs.declared.filters.Alias.{Alias}
use Rattle.scenarios.specs.declared.labels.ServerPlace.{ServerPlace}

-- the place of the first entry with a label, if there is one
abbrev pub place_in : {X : Type 0} → (X → List ℕ) → List X → List ℕ → Option ℕ
place_in label_of xs label = position (λ x. pointwise nat_eq (label_of x) label) xs

-- the entry at a place
abbrev pub entry_at : {X : Type 0} → List X → Option ℕ → Option X
entry_at xs None = None
entry_at xs (Some i) = slice_get xs i

-- no label is below the one before it
abbrev pub AreRising : {X : Type 0} → (X → List ℕ) → List X → Type 0
AreRising label_of xs = IsSortedBy (λ x y. is_lt (slice_cmp nat_cmp (label_of x) (label_of y))) xs

-- so many entries are below a label, and none of the others is
abbrev pub IsPoint : {X : Type 0} → (X → List ℕ) → List ℕ → List X → ℕ → Type 0
IsPoint label_of label xs i = IsPartitionPoint (λ x. is_lt (slice_cmp nat_cmp (label_of x) label) ≡ true) (λ x. is_lt (slice_cmp nat_cmp (label_of x) label) ≡ false) xs i

-- each place is that of its label
abbrev pub ArePlaces : {X : Type 0} → (X → List ℕ) → List X → List ServerPlace → Type 0
ArePlaces label_of xs places = All (λ p. p.at ≡ place_in label_of xs p.label) places

-- ---- block periods

abbrev pub block_label : Block → List ℕ
block_label b = b.cluster

-- that of an entry, and else this one
abbrev pub seconds_of : ℕ → Option Block → ℕ
seconds_of block None = block
seconds_of block (Some b) = b.seconds

-- ---- aliases

abbrev pub alias_label : Alias → List ℕ
alias_label a = a.cluster

-- that of an entry, and else an empty one
abbrev pub text_of : Option Alias → List ℕ
text_of None = []
text_of (Some a) = a.alias
