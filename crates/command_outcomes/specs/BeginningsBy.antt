use Rattle.command_outcomes.specs.Beginnings.{Beginning as Start}
use Rattle.command_outcomes.specs.declared.command.Beginning.TheInside.{Inside}

-- what begins, as contracts see it
abbrev pub beginning_of : Inside → Start
beginning_of a = record { list = a.list.items; job = a.job }
