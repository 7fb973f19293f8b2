use Rattle.std.proofs.Common.{rules, ◌≡◌, ◌∙◌, ap}
use Rattle.unended_jobs.proofs.Prelude.{JobStep, RecoveryLook, name_of, step_with}
use Rattle.unended_jobs.proofs.Prelude.Looks.{foretold as recovery_foretold}
use Rattle.unended_jobs.proofs.Looking.{own-foretold}
use Rattle.unended_jobs.proofs.hooking.with_hook_lines.Goals as goal

pub returns-clause-turn : goal.returns-clause-turn
returns-clause-turn c =
    let told : c.in_ok-step.step ≡ step_with c.args.docket.now.hooks (name_of c.args.book.now c.promoted.result) c.args.look.step = search rules in
    λ r.
    own-foretold c.args.docket.now _ (name_of c.args.book.now c.promoted.result) r c.args.look _
    (c.set_step.ensures
    ∙ ap (λ (x : RecoveryLook). record x { step = c.in_ok-step.step }) c.take_step-own.ensures.after
    ∙ ap (λ (s : JobStep). record c.args.look { step = s }) told)
    (λ lines done. ap (name_of c.args.book.now)
    (c.promoted.ensures r lines (ap (λ (l : RecoveryLook). l.step) c.as_look.ensures ∙ done) ∙ ap (λ (l : RecoveryLook). (recovery_foretold r l).recovery.outcome.promoted) c.as_look.ensures))
