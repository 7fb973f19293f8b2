-- Ids of recoveries that begin.
use Rattle.std.specs.Prelude.{⊤}
use Rattle.command_outcomes.specs.Prelude.{HasRoom}
use Rattle.command_outcomes.specs.declared.command.Update.{Update}
use Rattle.command_outcomes.specs.declared.command.Update.TheVariants as update

-- each entry that begins leaves an id
abbrev pub LeavesIds : Update → Type 0
LeavesIds update.Stays = ⊤
LeavesIds (update.Change c) = ⊤
LeavesIds (update.Discovery o) = ⊤
LeavesIds (update.Decides e) = ⊤
LeavesIds (update.Begins x) = ⊤
LeavesIds (update.Recovers xs) = HasRoom xs
