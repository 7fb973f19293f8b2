use Rattle.std.specs.Prelude.{Result, Ok, Err}
use Rattle.recovery_plans.specs.declared.why.Why.{Why}
use Rattle.recovery_plans.specs.Deciding.{Lot, Goes, Stays}
use Rattle.recovery_plans.specs.declared.task.Way.{Way}

-- the way that a drained replica goes, or why it is left
abbrev pub by_lot : Lot → Result Way Why
by_lot (Goes by) = Ok by
by_lot (Stays why) = Err why
