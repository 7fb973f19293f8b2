-- What a row store's fault is to a turn.
use Rattle.std.specs.Prelude.{◌≡◌, ◌≤◌, ℕ, Result, Err}
use Rattle.command_outcomes.specs.OrchBase.Causes.{Rose}
use Rattle.command_outcomes.specs.KeptRows.declared.keeper.KeeperFault.{KeeperFault}
use Rattle.command_outcomes.specs.KeptRows.declared.keeper.KeeperFault.TheVariants as keeper
use Rattle.knowledge.specs.declared.fault.TurnFault.{TurnFault}
use Rattle.knowledge.specs.declared.fault.TurnFault.TheVariants as fault

abbrev pub fault_by : KeeperFault → TurnFault
fault_by keeper.Failed = fault.Keeper
fault_by keeper.Memory = fault.Memory

-- `Keeper` comes only if the count rose. It never falls
pub record HasTurnCause {A : Type 0} (before now : ℕ) (result : Result A TurnFault) : Type 0 where
  pub later : before ≤ now
  pub failed : result ≡ Err fault.Keeper → Rose before now
