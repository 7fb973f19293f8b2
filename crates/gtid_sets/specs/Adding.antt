-- A set with one pair more, as its sorted intervals.
use Rattle.std.specs.Prelude.{ℕ, ◌+◌, ◌==◌, ◌&&◌, ◌||◌, min, max, nat_le, nat_lt, Bool, false, if◌then◌else◌, List, [], ◌∷◌}
use Rattle.gtid_sets.specs.declared.interval.Interval.{Interval}

-- the interval of one pair
abbrev pub single : ℕ → ℕ → Interval
single uuid n = record { uuid = uuid; first = n; last = n }

-- two intervals of one server overlap, or one begins just after the other
abbrev pub touches : Interval → Interval → Bool
touches s t = (s.uuid == t.uuid) && (nat_le t.first (s.last + 1) && nat_le s.first (t.last + 1))

-- both as one
abbrev pub merged : Interval → Interval → Interval
merged s t = record { uuid = s.uuid; first = min s.first t.first; last = max s.last t.last }

abbrev pub is_before : Interval → Interval → Bool
is_before s t = nat_lt s.uuid t.uuid || ((s.uuid == t.uuid) && nat_lt s.last t.first)

-- an interval in its place among intervals in order, merged with those that it touches
abbrev pub inserted : Interval → List Interval → List Interval
inserted s [] = s ∷ []
inserted s (t ∷ xs) = if touches s t then inserted (merged s t) xs else if is_before s t then s ∷ t ∷ xs else t ∷ inserted s xs

-- the set with this pair
abbrev pub with_pair : ℕ → ℕ → List Interval → List Interval
with_pair uuid n xs = inserted (single uuid n) xs

-- an interval touches the first of a list
abbrev pub touches_first : Interval → List Interval → Bool
touches_first s [] = false
touches_first s (t ∷ xs) = touches s t
