-- The commands that take servers below another one by whatever path, or set a server's replicas in order.
use Rattle.std.specs.Prelude.{Option, Some, None}
use Rattle.regroup.specs.Prelude.{CommandName, PathCommand, Planner, planner_of, route_of}
use Rattle.regroup.specs.Prelude.planner

abbrev pub regroup_by : Option Planner → Option PathCommand
regroup_by None = None
regroup_by (Some (planner.Coordinates c)) = None
regroup_by (Some (planner.Gtids c)) = None
regroup_by (Some (planner.Paths c)) = Some c
regroup_by (Some (planner.Matches c)) = None

-- which of them a command is; none of any other command
abbrev pub regroup_command : CommandName → Option PathCommand
regroup_command name = regroup_by (planner_of (route_of name))
