-- The commands that move or change servers by coordinates.
use Rattle.std.specs.Prelude.{Option, Some, None}
use Rattle.permission.specs.Commands.declared.name.CommandName.{CommandName}
use Rattle.permission.specs.Commands.declared.kinds.CoordsCommand.{CoordsCommand}
use Rattle.permission.specs.Commands.declared.route.Planner.{Planner}
use Rattle.permission.specs.Commands.declared.route.Planner.TheVariants as planner
use Rattle.permission.specs.Commands.Routes.{planner_of, route_of}

abbrev pub coords_by : Option Planner → Option CoordsCommand
coords_by None = None
coords_by (Some (planner.Coordinates c)) = Some c
coords_by (Some (planner.Gtids c)) = None
coords_by (Some (planner.Paths c)) = None
coords_by (Some (planner.Matches c)) = None

-- which of them a command is; none of any other command
abbrev pub coords_command : CommandName → Option CoordsCommand
coords_command name = coords_by (planner_of (route_of name))
