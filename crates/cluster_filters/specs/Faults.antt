-- The faults of reading, as clauses see them.
use Rattle.std.specs.Prelude.{ℕ, Option, Some, None}
use Rattle.cluster_filters.specs.declared.fault.FilterFault.{FilterFault}
use Rattle.cluster_filters.specs.declared.fault.FilterFault.TheVariants.{BadPattern, Memory}

-- the place of the text without a pattern; nothing if memory runs out
abbrev pub bad_place : FilterFault → Option ℕ
bad_place (BadPattern place) = Some place
bad_place Memory = None
