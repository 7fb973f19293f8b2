-- How a recovery's entry of the audit ends with the turn that ends its job.
use Rattle.std.specs.Prelude.{ℕ, if◌then◌else◌, List, [], Option, Some, None}
use Rattle.std.specs.Option.{option_map, option_to_list}
use Rattle.command_outcomes.specs.AuditLog.Audits.{AuditState, acked_so, acknowledged_at, ended, ended_so, recovery_at}
use Rattle.command_outcomes.specs.KeptRows.declared.recovery.Recovery.{Recovery as KeptRecovery}
use Rattle.command_outcomes.specs.KeptRows.declared.row.Change.{Change}
use Rattle.command_outcomes.specs.KeptRows.Recoveries.{put_recovery}
use Rattle.command_outcomes.specs.Operations.declared.step.JobStep.{JobStep}
use Rattle.command_outcomes.specs.OrchBase.declared.server.Moment.{Moment}
use Rattle.command_outcomes.specs.RecoveryCore.Endings.{ending_of, is_acknowledged}
use Rattle.command_outcomes.specs.RecoveryPlans.Recoveries.{Recovery}
use Rattle.command_outcomes.specs.UnendedJobs.declared.unended.Unended.{Unended}
use Rattle.command_outcomes.specs.UnendedJobs.declared.unended.Unended.TheVariants as unended
use Rattle.command_outcomes.specs.UnendedJobs.Unended.{Flown}
use Rattle.knowledge.specs.declared.closing.Closing.{Closing}

-- the entry of this id, if the turn ends it
abbrev pub closing_at : Recovery → JobStep → ℕ → Option Closing
closing_at r step id = option_map (λ e. record { id = id; outcome = e; acked = is_acknowledged r step }) (ending_of r step)

abbrev pub closing_for : Recovery → JobStep → Option ℕ → Option Closing
closing_for r step None = None
closing_for r step (Some id) = closing_at r step id

-- a plan has no entry, and neither has a regroup
abbrev pub closing_by : Unended → JobStep → Option Closing
closing_by (unended.Plan j) step = None
closing_by (unended.Recovery r docket) step = closing_for r step docket.entry

-- by the job as the turn leaves it
abbrev pub closing_of : Option Flown → Option Closing
closing_of None = None
closing_of (Some t) = closing_by t.next t.step

-- the audit after it
abbrev pub closed_by : AuditState → Moment → Option Closing → AuditState
closed_by a now None = a
closed_by a now (Some c) = if c.acked then acknowledged_at (ended a c.id now c.outcome) c.id else ended a c.id now c.outcome

-- the entry as it is kept then
abbrev pub closed_so : Closing → Moment → KeptRecovery → KeptRecovery
closed_so c now r = if c.acked then acked_so (ended_so now c.outcome r) else ended_so now c.outcome r

abbrev pub closing_change : AuditState → Moment → Closing → Option Change
closing_change a now c = option_map (λ r. put_recovery (closed_so c now r)) (recovery_at a c.id)

abbrev pub closing_changes : AuditState → Moment → Option Closing → List Change
closing_changes a now None = []
closing_changes a now (Some c) = option_to_list (closing_change a now c)
