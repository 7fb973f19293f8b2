-- The entry that ends with a job's turn, by what was looked up.
use Rattle.std.proofs.Common.{◌≡◌, ◌∙◌, ℕ, Bool, List, Option, Some, refl, sym, ap}
use Rattle.std.specs.Option.{option_map}
use Rattle.command_outcomes.specs.Commands.declared.line.Line.{Line}
use Rattle.command_outcomes.specs.Operations.declared.step.JobStep.{JobStep}
use Rattle.command_outcomes.specs.Operations.declared.step.JobStep.TheVariants as step
use Rattle.command_outcomes.specs.OrchBase.declared.recovery.Ending.{Ending}
use Rattle.command_outcomes.specs.OrchBase.declared.server.ServerNo.{ServerNo}
use Rattle.command_outcomes.specs.RecoveryCore.Endings.{ending_with, is_acknowledged_for}
use Rattle.command_outcomes.specs.RecoveryPlans.declared.purpose.Purpose.{Purpose}
use Rattle.command_outcomes.specs.RecoveryPlans.Recoveries.{Recovery}
use Rattle.command_outcomes.proofs.UnendedJobs.Looking.{foretold-step, last-purpose, next-recovery, recovery_after}
use Rattle.command_outcomes.specs.UnendedJobs.Looks.{foretold, hooked_by, step_of}
use Rattle.command_outcomes.specs.UnendedJobs.declared.look.UnendedLook.{UnendedLook}
use Rattle.command_outcomes.specs.UnendedJobs.declared.docket.Docket.{Docket}
use Rattle.command_outcomes.specs.UnendedJobs.declared.look.UnendedLook.TheVariants as look
use Rattle.command_outcomes.specs.UnendedJobs.declared.unended.Unended.{Unended}
use Rattle.command_outcomes.specs.UnendedJobs.declared.unended.Unended.TheVariants as unended
use Rattle.knowledge.specs.Closings.{closing_at, closing_by, closing_for, closing_of}
use Rattle.knowledge.specs.declared.closing.Closing.{Closing}

abbrev pub closing_as : ℕ → Purpose → JobStep → Ending → Closing
closing_as id u s e = record { id = id; outcome = e; acked = is_acknowledged_for u s }

-- by the purpose and the promoted server
abbrev pub closing_with : ℕ → Purpose → JobStep → Option ServerNo → Option Closing
closing_with id u s p = option_map (closing_as id u s) (ending_with p s)

-- they are the recovery's if the turn is the last one
with-recovery : (id : ℕ) (u : Purpose) (s : JobStep) (p : Option ServerNo) (r : Recovery) → ((lines : List Line) → s ≡ step.Done lines → u ≡ r.purpose) → ((lines : List Line) → s ≡ step.Done lines → p ≡ r.outcome.promoted)
    → closing_with id u s p ≡ closing_at r s id
with-recovery id u step.Going p r same leads = refl
with-recovery id u (step.Failed c lines) p r same leads = refl
with-recovery id u (step.Done lines) p r same leads =
    ap (λ (v : Purpose). closing_with id v (step.Done lines) p) (same lines refl) ∙ ap (closing_with id r.purpose (step.Done lines)) (leads lines refl)

-- a look leaves the job its entry
looked-entry : (r : Recovery) (d : Docket) (x : UnendedLook) → (hooked_by r d x).docket.entry ≡ d.entry
looked-entry r d (look.Plan l) = refl
looked-entry r d (look.Recovery l) = refl
looked-entry r d (look.Hook s at) = refl

pub closing-told : (j : Unended) (x : UnendedLook) (r : Recovery) (d : Docket) (id : ℕ) (p : Option ServerNo) → j ≡ unended.Recovery r d → d.entry ≡ Some id
    → ((lines : List Line) → step_of x ≡ step.Done lines → p ≡ (recovery_after r x).outcome.promoted) → closing_with id r.purpose (step_of x) p ≡ closing_of (Some (foretold j x))
closing-told j x r d id p is entry leads =
    with-recovery id r.purpose (step_of x) p (recovery_after r x) (λ lines h. sym (last-purpose r x lines h)) leads
    ∙ ap (λ (s : JobStep). closing_at (recovery_after r x) s id) (sym (foretold-step (unended.Recovery r d) x))
    ∙ ap (closing_for (recovery_after r x) (foretold (unended.Recovery r d) x).step) (sym (looked-entry r d x ∙ entry))
    ∙ ap (λ (u : Unended). closing_by u (foretold (unended.Recovery r d) x).step) (sym (next-recovery r d x))
    ∙ ap (λ (u : Unended). closing_of (Some (foretold u x))) (sym is)

pub closing-same : (x id : ℕ) (o : Ending) (k : Bool) (u : Purpose) (s : JobStep) → x ≡ id → k ≡ is_acknowledged_for u s → record { id = x; outcome = o; acked = k } ≡ closing_as id u s o
closing-same x id o k u s same acked = λ i. record { id = same i; outcome = o; acked = acked i }
