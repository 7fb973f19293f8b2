-- The commands that move servers by GTIDs, or have them find their places by them.
use Rattle.std.specs.Prelude.{Option, Some, None}
use Rattle.permission.specs.Commands.declared.name.CommandName.{CommandName}
use Rattle.permission.specs.Commands.declared.kinds.GtidCommand.{GtidCommand}
use Rattle.permission.specs.Commands.declared.route.Planner.{Planner}
use Rattle.permission.specs.Commands.declared.route.Planner.TheVariants as planner
use Rattle.permission.specs.Commands.Routes.{planner_of, route_of}

abbrev pub gtid_by : Option Planner → Option GtidCommand
gtid_by None = None
gtid_by (Some (planner.Coordinates c)) = None
gtid_by (Some (planner.Gtids c)) = Some c
gtid_by (Some (planner.Paths c)) = None
gtid_by (Some (planner.Matches c)) = None

-- which of them a command is; none of any other command
abbrev pub gtid_command : CommandName → Option GtidCommand
gtid_command name = gtid_by (planner_of (route_of name))
