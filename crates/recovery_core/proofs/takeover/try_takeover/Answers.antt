use Rattle.std.proofs.Common.{◌≡◌, subst, Ok, Err}
use Rattle.recovery_core.proofs.Prelude.{Attempt, Gives, attempt_by, err_from_is_err_and, permit_fault, permitted, takeover_begins, takeover_refusal}
use Rattle.recovery_core.proofs.Trying.{passed-try, refused-try}
use Rattle.recovery_core.proofs.takeover.try_takeover.Goals as goal

pub returns-in_err-permit_takeover-clause-begins : goal.returns-in_err-permit_takeover-clause-begins
returns-in_err-permit_takeover-clause-begins c =
    let p = err_from_is_err_and c.from_residual-in_err-permit_takeover.result c.from_residual-in_err-permit_takeover.ensures.1 in
    let a = c.args.ask.now in
    let w = a.world.now in
    let b = a.book.now in
    let audit = a.audit.now.audit in
    let refusal = λ (x : Attempt). takeover_refusal w b audit x a.failed c.args.designated in
    let refused : Gives {X = Unit {0}} {Y = Unit {0}} (λ _. tt) permit_fault (Err c.in_err-permit_takeover.field-0.0) (permitted (refusal (attempt_by a))) =
    subst (λ (x : Attempt). Gives {X = Unit {0}} {Y = Unit {0}} (λ _. tt) permit_fault (Err c.in_err-permit_takeover.field-0.0) (permitted (refusal x)))
    c.attempt.ensures c.in_err-permit_takeover.ensures in
    rw (p.1, p.2)
    (refused-try (refusal (attempt_by a)) (takeover_begins b audit a.moment a.block a.wait a.job a.failed c.args.designated) c.in_err-permit_takeover.field-0.0 refused)

pub returns-clause-begins : goal.returns-clause-begins
returns-clause-begins c =
    let a = c.args.ask.now in
    let w = a.world.now in
    let b = a.book.now in
    let audit = a.audit.now.audit in
    let refusal = λ (x : Attempt). takeover_refusal w b audit x a.failed c.args.designated in
    passed-try (refusal (attempt_by a)) (takeover_begins b audit a.moment a.block a.wait a.job a.failed c.args.designated)
    c.in_ok-takeover_begins.field-0
    (subst (λ (x : Attempt). permitted (refusal x) ≡ Ok tt) c.attempt.ensures c.in_ok-permit_takeover.ensures)
    c.in_ok-takeover_begins.ensures.begins
