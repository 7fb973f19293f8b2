-- Sets of GTIDs: pairs of a server's UUID, as a number, and a number from 1.
use Rattle.std.specs.Prelude.{ℕ, ◌+◌, ◌-◌, ◌*◌, ◌^◌, ◌<◌, ◌≤◌, ◌≡◌, true, false, ◌==◌, ◌&&◌, nat_le, Bool, List}
use Rattle.std.specs.List.{list_any, sum_by, All, AllPairs}
use Rattle.gtid_sets.specs.declared.interval.Interval.{Interval}

-- the largest number of a GTID
abbrev pub largest : ℕ
largest = 9223372036854775806

-- a pair's rank in the order of pairs: by the UUID, then by the number
unfoldable pub point : ℕ → ℕ → ℕ
point uuid n = uuid * 2 ^ 64 + n

-- the point of an interval's first pair, and of its last
abbrev pub low : Interval → ℕ
low s = point s.uuid s.first

abbrev pub high : Interval → ℕ
high s = point s.uuid s.last

pub record IsInterval (s : Interval) : Type 0 where
  pub uuid_fits : s.uuid < 2 ^ 128
  pub above_zero : 1 ≤ s.first
  pub rises : s.first ≤ s.last
  pub in_range : s.last ≤ largest

-- intervals in order, no two of which overlap or touch
pub record IsSet (xs : List Interval) : Type 0 where
  pub each : All IsInterval xs
  pub apart : AllPairs (λ s t. high s + 1 < low t) xs

-- whether an interval has the pair
abbrev pub spans : ℕ → ℕ → Interval → Bool
spans uuid n s = (s.uuid == uuid) && nat_le s.first n && nat_le n s.last

-- whether one of the intervals does
abbrev pub holds : List Interval → ℕ → ℕ → Bool
holds xs uuid n = list_any (spans uuid n) xs

-- how many pairs they have
abbrev pub size : List Interval → ℕ
size xs = sum_by (λ s. s.last + 1 - s.first) xs

-- the same test by the point of the pair
abbrev pub between : ℕ → Interval → Bool
between at s = nat_le (low s) at && nat_le at (high s)

abbrev pub on_line : List Interval → ℕ → Bool
on_line xs at = list_any (between at) xs

-- a pair of the interval that the set has not
abbrev pub Misses : List Interval → Interval → Type 0
Misses xs s = (n : ℕ) × (spans s.uuid n s ≡ true) × (holds xs s.uuid n ≡ false)
