use Rattle.std.proofs.Common.{◌≡◌, ◌∙◌, false, true, ap, subst, sym}
use Rattle.orch_core.proofs.Prelude.{AreReply, ClaimState, State, Takes, acts, engine, state_of}
use Rattle.orch_core.proofs.Prelude.turn
use Rattle.orch_core.proofs.Claims.{asks-acting, changes-acting, reply-acting, same-claims, step-acting}
use Rattle.orch_core.proofs.Taking.{Takes-same}
use Rattle.orch_core.proofs.engine.Engine.act_as.Goals as goal

pub returns : goal.returns
returns g c =
    let before = state_of c.self.inside in
    let node = c.args.node in
    let a = c.args.act.now in
    let does : acts before node ≡ true = sym c.may_act.ensures.answer ∙ c.if-not-may_act.false in
    let same : c.may_act.new.self ≡ before.claims = c.may_act.ensures.after ∙ same-claims before node a does in
    let stays : record before { claims = c.may_act.new.self } ≡ before = ap (λ (x : ClaimState). record before { claims = x }) same in
    subst (λ (s : State). Takes engine (λ x. x) g.K.Keeper.kept g.K.Keeper.faults c.args.keeper.now c.act.new.keeper s (turn.As node a) c.act.new.self (AreReply c.args.written) c.act.result) c.self.view_is
    (Takes-same _ _ _ _ before c.act.new.self (turn.Act a) (turn.As node a) (AreReply c.args.written) c.act.result
    (reply-acting before node a does) (step-acting before node a does) (changes-acting before node a does) (asks-acting before node a does)
    (subst (λ (s : State). Takes engine (λ x. x) g.K.Keeper.kept g.K.Keeper.faults c.args.keeper.now c.act.new.keeper s (turn.Act a) c.act.new.self (AreReply c.args.written) c.act.result) stays c.act.ensures))
