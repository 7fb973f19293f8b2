use Rattle.std.proofs.Common.{◌≡◌, ◌∙◌, List, Some, None, sym, ap, subst, refl, inl, inr}
use Rattle.std.specs.Option.{option_map}
use Rattle.command_outcomes.specs.Commands.declared.line.Line.{Line}
use Rattle.command_outcomes.specs.Operations.declared.step.JobStep.TheVariants as step
use Rattle.command_outcomes.specs.RecoveryCore.Endings.{ending_with, is_acknowledged_for}
use Rattle.command_outcomes.specs.RecoveryPlans.declared.purpose.Purpose.{Purpose}
use Rattle.command_outcomes.proofs.UnendedJobs.Looking.{recovery_after}
use Rattle.command_outcomes.specs.UnendedJobs.Looks.{step_of}
use Rattle.command_outcomes.specs.UnendedJobs.declared.look.UnendedLook.{UnendedLook}
use Rattle.command_outcomes.specs.UnendedJobs.declared.look.UnendedLook.TheVariants as look
use Rattle.knowledge.specs.declared.closing.Closing.{Closing}
use Rattle.knowledge.proofs.Closings.{closing-same, closing-told, closing_as}
use Rattle.knowledge.proofs.closing.closing_of.Goals as goal
use Rattle.knowledge.proofs.closing.closing_of.Goals.{in-Plan, in-Recovery-look}

pub returns-in_err-outcome : goal.returns-in_err-outcome
returns-in_err-outcome c =
    let x = c.args.look.now in
    let r = c.in-Recovery.recovery in
    let d = c.in-Recovery.docket in
    let id = c.in-Some.id in
    let p = c.match-look.promoted in
    let leads : (lines : List Line) → step_of x ≡ step.Done lines → p ≡ (recovery_after r x).outcome.promoted =
    elim c.match-look.branch [
      | in-Recovery-look w ↦
          subst (λ (l : UnendedLook). (lines : List Line) → step_of l ≡ step.Done lines → p ≡ (recovery_after r l).outcome.promoted) (sym w.in-Recovery-look.is)
          (λ lines h.
          let same : look.Recovery w.as_look.result.now ≡ look.Recovery w.in-Recovery-look.look = ap look.Recovery w.as_look.ensures in
          w.promoted-is ∙ w.promoted-promoted.ensures r lines (ap step_of same ∙ h) ∙ ap (λ (l : UnendedLook). (recovery_after r l).outcome.promoted) same)
      | in-Plan w ↦
          elim w.in-Plan.is [
            | inl v ↦
                subst (λ (l : UnendedLook). (lines : List Line) → step_of l ≡ step.Done lines → p ≡ (recovery_after r l).outcome.promoted) (sym v.1)
                (λ lines h. w.promoted-is ∙ w.promoted-promoted-in-Plan.ensures)
            | inr v ↦
                subst (λ (l : UnendedLook). (lines : List Line) → step_of l ≡ step.Done lines → p ≡ (recovery_after r l).outcome.promoted) (sym v.2)
                (λ lines h. w.promoted-is ∙ w.promoted-promoted-in-Plan.ensures)
          ]
    ] in
    let ends : None ≡ ending_with p (step_of x) = c.in_err-outcome.ensures ∙ ap (ending_with p) c.step.ensures in
    c.from_residual.ensures ∙ ap (option_map (closing_as id r.purpose (step_of x))) ends
    ∙ closing-told c.args.job.now x r d id p c.in-Recovery.is c.in-Some.is leads

pub returns : goal.returns
returns c =
    let x = c.args.look.now in
    let r = c.in-Recovery.recovery in
    let d = c.in-Recovery.docket in
    let id = c.in-Some.id in
    let p = c.match-look.promoted in
    let o = c.in_ok-outcome.outcome in
    let leads : (lines : List Line) → step_of x ≡ step.Done lines → p ≡ (recovery_after r x).outcome.promoted =
    elim c.match-look.branch [
      | in-Recovery-look w ↦
          subst (λ (l : UnendedLook). (lines : List Line) → step_of l ≡ step.Done lines → p ≡ (recovery_after r l).outcome.promoted) (sym w.in-Recovery-look.is)
          (λ lines h.
          let same : look.Recovery w.as_look.result.now ≡ look.Recovery w.in-Recovery-look.look = ap look.Recovery w.as_look.ensures in
          w.promoted-is ∙ w.promoted-promoted.ensures r lines (ap step_of same ∙ h) ∙ ap (λ (l : UnendedLook). (recovery_after r l).outcome.promoted) same)
      | in-Plan w ↦
          elim w.in-Plan.is [
            | inl v ↦
                subst (λ (l : UnendedLook). (lines : List Line) → step_of l ≡ step.Done lines → p ≡ (recovery_after r l).outcome.promoted) (sym v.1)
                (λ lines h. w.promoted-is ∙ w.promoted-promoted-in-Plan.ensures)
            | inr v ↦
                subst (λ (l : UnendedLook). (lines : List Line) → step_of l ≡ step.Done lines → p ≡ (recovery_after r l).outcome.promoted) (sym v.2)
                (λ lines h. w.promoted-is ∙ w.promoted-promoted-in-Plan.ensures)
          ]
    ] in
    let ends : Some o ≡ ending_with p (step_of x) = c.in_ok-outcome.ensures ∙ ap (ending_with p) c.step.ensures in
    let acked : c.is_acknowledged.result ≡ is_acknowledged_for r.purpose (step_of x) =
    c.is_acknowledged.ensures ∙ ap (λ (u : Purpose). is_acknowledged_for u c.step-2.result.now) c.purpose.ensures ∙ ap (is_acknowledged_for r.purpose) c.step-2.ensures in
    ap (λ (k : Closing). Some k) (closing-same _ id o _ r.purpose (step_of x) refl acked) ∙ ap (option_map (closing_as id r.purpose (step_of x))) ends
    ∙ closing-told c.args.job.now x r d id p c.in-Recovery.is c.in-Some.is leads
