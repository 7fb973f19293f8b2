use Rattle.std.proofs.Common.{◌∙◌, Err, ap, arith}
use Rattle.tasks.proofs.Prelude.{CommandTurn, Rose, act_reply, begun_state}
use Rattle.tasks.proofs.Prelude.act
use Rattle.tasks.proofs.planned.begin.Goals as goal

pub returns-in-Ok-clause-reply : goal.returns-in-Ok-clause-reply
returns-in-Ok-clause-reply c = c.in-Ok.ensures.reply ∙ ap (λ (t : CommandTurn). act_reply c.args.engine.now (act.Command t)) c.in_ok-copy.ensures

-- none of its rows is asked for
pub returns-in-Ok-clause-state : goal.returns-in-Ok-clause-state
returns-in-Ok-clause-state c = c.in-Ok.ensures.ok.1 ∙ ap (λ (t : CommandTurn). begun_state t c.args.engine.now) c.in_ok-copy.ensures

-- nobody fails
pub unreachable-requires : goal.unreachable-requires
unreachable-requires c =
    let risen : Rose 0 0 = c.in-Err-Keeper.ensures.cause.failed (ap Err c.in-Err-Keeper.field-0-is) in
    omega (arith, risen)
