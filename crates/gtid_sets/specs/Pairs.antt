-- The pairs of a set, one by one.
use Rattle.std.specs.Prelude.{ℕ, ◌+◌, ◌-◌, List, map}
use Rattle.std.specs.List.{flat_map, range_with_len}
use Rattle.gtid_sets.specs.declared.interval.Interval.{Interval}
use Rattle.gtid_sets.specs.Sets.{point}

-- the numbers from an interval's first to its last
abbrev pub numbers : Interval → List ℕ
numbers s = range_with_len s.first (s.last + 1 - s.first)

-- the intervals' pairs, each by its point
abbrev pub pairs : List Interval → List ℕ
pairs xs = flat_map (λ s. map (point s.uuid) (numbers s)) xs
