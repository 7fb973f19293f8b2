-- The commands that take servers below another one if their logs match.
use Rattle.std.specs.Prelude.{Option, Some, None}
use Rattle.permission.specs.Commands.declared.name.CommandName.{CommandName}
use Rattle.permission.specs.Commands.declared.kinds.MatchCommand.{MatchCommand}
use Rattle.permission.specs.Commands.declared.route.Planner.{Planner}
use Rattle.permission.specs.Commands.declared.route.Planner.TheVariants as planner
use Rattle.permission.specs.Commands.Routes.{planner_of, route_of}

abbrev pub pseudo_by : Option Planner → Option MatchCommand
pseudo_by None = None
pseudo_by (Some (planner.Coordinates c)) = None
pseudo_by (Some (planner.Gtids c)) = None
pseudo_by (Some (planner.Paths c)) = None
pseudo_by (Some (planner.Matches c)) = Some c

-- which of them a command is; none of any other command
abbrev pub pseudo_command : CommandName → Option MatchCommand
pseudo_command name = pseudo_by (planner_of (route_of name))
