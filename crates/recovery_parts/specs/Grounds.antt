-- What decisions of the code go by.
use Rattle.recovery_plans.specs.Deciding.{Ground}
use Rattle.recovery_parts.specs.declared.choices.Ground.{Ground as Inside}

abbrev pub ground_by : Inside → Ground
ground_by g = record { world = g.world.now; book = g.book.now; moment = g.moment }
