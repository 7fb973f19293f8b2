-- A set of GTIDs in room that was reserved.
use Rattle.std.specs.Prelude.{ℕ, List}
use Rattle.gtid_sets.specs.declared.interval.Interval.{Interval}

-- the set's intervals, and the room for them
pub record Reserved : Type 0 where
  pub intervals : List Interval
  pub room : ℕ
