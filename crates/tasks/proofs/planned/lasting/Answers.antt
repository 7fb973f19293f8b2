use Rattle.std.proofs.Common.{sym}
use Rattle.tasks.proofs.Planning.{answered_ahead}
use Rattle.tasks.proofs.planned.lasting.Goals as goal

pub returns-in-Taken : goal.returns-in-Taken
returns-in-Taken c = answered_ahead c.args.engine.now c.claims.result.now c.now.result.0 _ _ (sym c.in_ok-claim_ahead.ensures.claim) c.claims.ensures c.now.ensures.value c.in-Taken.ensures.answer

pub returns-in-Held : goal.returns-in-Held
returns-in-Held c = answered_ahead c.args.engine.now c.claims.result.now c.now.result.0 _ _ (sym c.in_ok-claim_ahead.ensures.claim) c.claims.ensures c.now.ensures.value c.in-Held.ensures.answer
