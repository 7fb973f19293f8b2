use Rattle.std.specs.Prelude.{◌≡◌, ◌≤◌, IfSome, length, vec_capacity}
use Rattle.gtid_sets.specs.Reserved.{Reserved}
use Rattle.gtid_sets.specs.Sets.{IsSet}
use Rattle.gtid_sets.specs.declared.reserved.ReservedSet.TheInside.{Inside}

abbrev pub reserved_of : Inside → Reserved
reserved_of a = record { intervals = a.intervals.items; room = a.room }

pub record IsReserved (a : Inside) : Type 0 where
  pub set : IsSet a.intervals.items
  pub reserved : a.room ≤ vec_capacity a.intervals
  pub within : length a.intervals.items ≤ a.room
  pub shared : IfSome a.shared (λ s. s ≡ a.intervals.items)
