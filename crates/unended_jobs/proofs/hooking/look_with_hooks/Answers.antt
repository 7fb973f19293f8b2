use Rattle.std.proofs.Common.{rules, ◌≡◌, true, is_some}
use Rattle.unended_jobs.proofs.Prelude.{rear_hook}
use Rattle.unended_jobs.proofs.Looking.{behind-can, behind-turn}
use Rattle.unended_jobs.proofs.hooking.look_with_hooks.Goals as goal

pub returns-then-is_due_behind : goal.returns-then-is_due_behind
returns-then-is_due_behind c =
    let due : is_some (rear_hook c.args.docket.now.hooks c.in_ok-look.look.step) ≡ true = search rules in
    record {
      turn =
          behind-turn c.args.docket.now _ c.args.recovery.now _ c.in_ok-step.field-0 c.in_ok-step.ensures c.in_default.not-Some c.in_ok-look.look.step c.in_ok-look.ensures.step due;
      can = behind-can c.args.docket.now.hooks c.in_ok-look.look.step due;
    }
