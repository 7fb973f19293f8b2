use Rattle.std.proofs.Common.{◌≡◌, ◌∙◌, ap, arith, length, take, Err, refl, subst, true}
use Rattle.tasks.proofs.Prelude.{Calls, StepsTo, Turn, cause-fine, cause-later, engine, err_from_is_err_and, kept_by, length-take-le, point, reply_of}
use Rattle.tasks.proofs.Courses.{Tallies-counted, Tallies-next, Tallies-nil, same_point, tally_gave_up}
use Rattle.tasks.proofs.summary.count_turns.Goals as goal

pub loop-t-init : goal.loop-t-init
loop-t-init g c = record {
  tallies = Tallies-nil (point (g.K.Keeper.kept c.args.keeper.now) c.args.engine.now) c.args.turns.now;
  later = omega arith;
  servers = refl;
  nodes = refl;
}

pub returns-in_err-reply-clause-err : goal.returns-in_err-reply-clause-err
returns-in_err-reply-clause-err g c =
    let p = err_from_is_err_and c.from_residual.result c.from_residual.ensures.1 in
    rw (p.1, p.2)
    (tally_gave_up _ (point (g.K.Keeper.kept c.loop-t.keeper) c.loop-t.engine) (point (g.K.Keeper.kept c.turn.new.keeper) c.turn.new.self) c.args.turns.now c.loop-t.t-index c.t-item.result c.loop-t.tally c.in_err-reply.field-0.0 c.loop-t-test.true c.loop-t.invariant.tallies
    (same_point _ _ _ _ c.in_err-reply.ensures.kept c.in_err-reply.ensures.err) (λ e. subst (Calls engine c.loop-t.engine) c.t-item.is (c.in_err-reply.ensures.calls (ap Err e))))

pub with_reply-tally-requires : goal.with_reply-tally-requires
with_reply-tally-requires g c = record {
  turns =
      let counted = Tallies-counted _ _ _ c.loop-t.tally c.loop-t.invariant.tallies in
      let few : length (take c.loop-t.t-index c.args.turns.now) ≡ c.loop-t.t-index = length-take-le c.loop-t.t-index c.args.turns.now (omega arith) in
      omega (arith, counted.turns, few, c.loop-t-test.true);
  refused = (Tallies-counted _ _ _ c.loop-t.tally c.loop-t.invariant.tallies).refused;
  failed = (Tallies-counted _ _ _ c.loop-t.tally c.loop-t.invariant.tallies).failed;
}

pub loop-t-preserved : goal.loop-t-preserved
loop-t-preserved g c = record {
  tallies = Tallies-next _ (point (g.K.Keeper.kept c.loop-t.keeper) c.loop-t.engine) (point (g.K.Keeper.kept c.turn.new.keeper) c.turn.new.self) c.args.turns.now c.loop-t.t-index c.t-item.result c.loop-t.tally c.with_reply-tally.result c.in_ok-reply.reply c.loop-t-test.true
      c.loop-t.invariant.tallies (subst (λ (t : Turn). StepsTo engine (g.K.Keeper.kept c.loop-t.keeper) c.loop-t.engine t c.turn.new.self) c.t-item.is c.in_ok-reply.ensures.ok)
      (subst (λ (t : Turn). g.K.Keeper.kept c.turn.new.keeper ≡ kept_by engine true (g.K.Keeper.kept c.loop-t.keeper) c.loop-t.engine t) c.t-item.is c.in_ok-reply.ensures.kept)
      (subst (λ (t : Turn). c.in_ok-reply.reply ≡ reply_of c.loop-t.engine t) c.t-item.is c.in_ok-reply.ensures.reply) c.with_reply-tally.ensures;
  later = omega (arith, c.loop-t.invariant.later, c.in_ok-reply.ensures.cause.later);
  servers = c.turn.ensures.servers ∙ c.loop-t.invariant.servers;
  nodes = c.turn.ensures.nodes ∙ c.loop-t.invariant.nodes;
}

pub returns-in_err-reply-clause-cause : goal.returns-in_err-reply-clause-cause
returns-in_err-reply-clause-cause g c =
    let p = err_from_is_err_and c.from_residual.result c.from_residual.ensures.1 in
    rw (p.1, p.2) (cause-later _ _ _ _ c.loop-t.invariant.later c.in_err-reply.ensures.cause)

pub returns-clause-cause : goal.returns-clause-cause
returns-clause-cause g c = cause-fine _ _ _ c.loop-t.invariant.later
