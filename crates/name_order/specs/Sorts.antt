-- Sorting by an order.
use Rattle.std.specs.Prelude.{List, [], ◌∷◌, if◌then◌else◌}
use Rattle.std.specs.Ordering.{is_lt}
use Rattle.std.specs.declared.cmp.Ordering.{Ordering}

-- one more in a sorted list: before the first that it is before
abbrev pub insert_by : {X : Type 0} → (X → X → Ordering) → X → List X → List X
insert_by order one [] = one ∷ []
insert_by order one (other ∷ rest) = if is_lt (order one other) then one ∷ other ∷ rest else other ∷ insert_by order one rest

-- a list's elements in order
abbrev pub sort_by : {X : Type 0} → (X → X → Ordering) → List X → List X
sort_by order [] = []
sort_by order (one ∷ rest) = insert_by order one (sort_by order rest)
