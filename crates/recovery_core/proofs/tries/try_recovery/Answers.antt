use Rattle.std.proofs.Common.{◌≡◌, subst, Ok}
use Rattle.recovery_core.proofs.Prelude.{Attempt, attempt_by, permitted, recovery_begins, recovery_refusal}
use Rattle.recovery_core.proofs.Trying.{passed-try}
use Rattle.recovery_core.proofs.tries.try_recovery.Goals as goal

pub returns-clause-begins : goal.returns-clause-begins
returns-clause-begins c =
    let a = c.args.ask.now in
    let w = a.world.now in
    let b = a.book.now in
    let audit = a.audit.now.audit in
    passed-try (recovery_refusal w b audit (attempt_by a) a.failed)
    (recovery_begins b audit a.moment a.block a.wait a.job a.failed)
    c.in_ok-recovery_begins.field-0
    (subst (λ (x : Attempt). permitted (recovery_refusal w b audit x a.failed) ≡ Ok tt) c.attempt-attempt.ensures c.in_ok-permit_recovery.ensures)
    c.in_ok-recovery_begins.ensures.begins
