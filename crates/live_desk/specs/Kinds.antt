-- Kinds of turns: commands, and the turns by which replicas follow their sources.
use Rattle.std.specs.Prelude.{Bool, true, false}
use Rattle.orch_core.specs.Turns.declared.turn.Act.{Act}
use Rattle.orch_core.specs.Turns.declared.turn.Act.TheVariants as act
use Rattle.orch_core.specs.Turns.declared.turn.Step.{Step}
use Rattle.orch_core.specs.Turns.declared.turn.Step.TheVariants as step
use Rattle.orch_core.specs.Turns.declared.turn.Turn.{Turn}
use Rattle.orch_core.specs.Turns.declared.turn.Turn.TheVariants as turn

abbrev pub is_command_act : Act → Bool
is_command_act (act.PollRead p n) = false
is_command_act (act.PollStore p) = false
is_command_act (act.Command c) = true
is_command_act (act.Job job) = false
is_command_act act.Scan = false
is_command_act act.Restart = false

abbrev pub is_command : Turn → Bool
is_command (turn.Step x) = false
is_command (turn.Tick seconds) = false
is_command (turn.Act a) = is_command_act a
is_command (turn.As node a) = is_command_act a
is_command (turn.Claim node) = false
is_command (turn.Release node) = false

-- a receiver reads, or an applier executes, one step
abbrev pub is_replication_step : Step → Bool
is_replication_step (step.Write n size) = false
is_replication_step (step.Fetch n) = true
is_replication_step (step.Apply n) = true
is_replication_step (step.Fail n) = false
is_replication_step (step.Heal n) = false
is_replication_step (step.Cut n link) = false
is_replication_step (step.Join n link) = false
is_replication_step (step.Rotate n) = false
is_replication_step (step.Purge n file) = false

abbrev pub is_replication : Turn → Bool
is_replication (turn.Step x) = is_replication_step x
is_replication (turn.Tick seconds) = false
is_replication (turn.Act a) = false
is_replication (turn.As node a) = false
is_replication (turn.Claim node) = false
is_replication (turn.Release node) = false
