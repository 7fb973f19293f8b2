-- What each command does.
use Rattle.std.specs.Prelude.{Option, Some, None}
use Rattle.commands.specs.declared.name.CommandName.{CommandName}
use Rattle.commands.specs.declared.route.Planner.{Planner}
use Rattle.commands.specs.declared.route.Route.{Route}
use Rattle.commands.specs.declared.route.Route.TheVariants.{Discovers, Forgets, Asks, Decides, Begins, Recovers, TakesOver}
use Rattle.commands.specs.Table.{row}

-- what a command does
abbrev pub route_of : CommandName → Route
route_of name = (row name).route

-- which permission and plan a job goes by
abbrev pub planner_of : Route → Option Planner
planner_of Discovers = None
planner_of Forgets = None
planner_of (Asks question) = None
planner_of (Decides decision) = None
planner_of (Begins planner) = Some planner
planner_of Recovers = None
planner_of TakesOver = None
