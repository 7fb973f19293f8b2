use Rattle.std.proofs.Common.{◌≡◌, ◌∙◌, ◌+◌, ap, arith, Err, refl, subst, true}
use Rattle.tasks.proofs.Prelude.{Adds, Calls, StepsTo, Turn, engine, err_from_is_err_and, kept_by, point, reply_of, taken}
use Rattle.orch_core.proofs.KnowledgeProofs.Causes.{cause-fine, cause-later, cause-stays}
use Rattle.tasks.proofs.Courses.{Follows-next, Follows-nil, gave_up, line_wanting, same_point}
use Rattle.tasks.proofs.progress.take_turns.Goals as goal

pub loop-i-init : goal.loop-i-init
loop-i-init g c = record {
  follows = Follows-nil c.args.names.now (point (g.K.Keeper.kept c.args.keeper.now) c.args.engine.now) c.args.turns.now (taken (g.O.Sink.written c.args.out.now) (g.O.Sink.faults c.args.out.now)) c.args.progress.now c.requires.fresh;
  later = omega arith;
  servers = refl;
  nodes = refl;
}

pub returns-in_err-reply-clause-err : goal.returns-in_err-reply-clause-err
returns-in_err-reply-clause-err g c =
    let p = err_from_is_err_and c.from_residual.result c.from_residual.ensures.1 in
    rw (p.1, p.2)
    (gave_up _ _ (point (g.K.Keeper.kept c.loop-i.keeper) c.loop-i.engine) _ c.args.turns.now c.loop-i.i c.index-turns-i.result _ _ c.loop-i.progress c.in_err-reply.field-0.0 (omega arith) c.loop-i.invariant.follows
    (same_point _ _ _ _ c.in_err-reply.ensures.kept c.in_err-reply.ensures.err) (λ e. subst (Calls engine c.loop-i.engine) c.index-turns-i.is (c.in_err-reply.ensures.calls (ap Err e))))

pub returns-in_err-add-clause-err : goal.returns-in_err-add-clause-err
returns-in_err-add-clause-err g c =
    let p = err_from_is_err_and c.from_residual-in_err-add.result c.from_residual-in_err-add.ensures.1 in
    rw (p.1, p.2)
    (line_wanting _ _ (point (g.K.Keeper.kept c.loop-i.keeper) c.loop-i.engine) (point (g.K.Keeper.kept c.turn.new.keeper) c.turn.new.self) c.args.turns.now c.loop-i.i c.index-turns-i.result _
    (taken (g.O.Sink.written c.loop-i.out) (g.O.Sink.faults c.loop-i.out)) (taken (g.O.Sink.written c.add.new.out) (g.O.Sink.faults c.add.new.out)) c.loop-i.progress c.add.new.self c.in_ok-reply.reply (c.loop-i.i + 1) (omega arith) refl
    c.loop-i.invariant.follows (subst (λ (t : Turn). StepsTo engine (g.K.Keeper.kept c.loop-i.keeper) c.loop-i.engine t c.turn.new.self) c.index-turns-i.is c.in_ok-reply.ensures.ok)
    (subst (λ (t : Turn). g.K.Keeper.kept c.turn.new.keeper ≡ kept_by engine true (g.K.Keeper.kept c.loop-i.keeper) c.loop-i.engine t) c.index-turns-i.is c.in_ok-reply.ensures.kept)
    (subst (λ (t : Turn). c.in_ok-reply.reply ≡ reply_of c.loop-i.engine t) c.index-turns-i.is c.in_ok-reply.ensures.reply)
    (c.in_err-add.ensures.err _ _ c.loop-i.invariant.follows.text))

pub loop-i-preserved : goal.loop-i-preserved
loop-i-preserved g c = record {
  follows = Follows-next _ _ (point (g.K.Keeper.kept c.loop-i.keeper) c.loop-i.engine) (point (g.K.Keeper.kept c.turn.new.keeper) c.turn.new.self) c.args.turns.now c.loop-i.i c.index-turns-i.result _
      (taken (g.O.Sink.written c.loop-i.out) (g.O.Sink.faults c.loop-i.out)) (taken (g.O.Sink.written c.add.new.out) (g.O.Sink.faults c.add.new.out)) c.loop-i.progress c.add.new.self c.in_ok-reply.reply (c.loop-i.i + 1) (omega arith) refl
      c.loop-i.invariant.follows (subst (λ (t : Turn). StepsTo engine (g.K.Keeper.kept c.loop-i.keeper) c.loop-i.engine t c.turn.new.self) c.index-turns-i.is c.in_ok-reply.ensures.ok)
      (subst (λ (t : Turn). g.K.Keeper.kept c.turn.new.keeper ≡ kept_by engine true (g.K.Keeper.kept c.loop-i.keeper) c.loop-i.engine t) c.index-turns-i.is c.in_ok-reply.ensures.kept)
      (subst (λ (t : Turn). c.in_ok-reply.reply ≡ reply_of c.loop-i.engine t) c.index-turns-i.is c.in_ok-reply.ensures.reply)
      (subst (λ (t : Turn). Adds c.args.names.now (c.loop-i.i + 1) t c.in_ok-reply.reply c.loop-i.progress c.add.new.self (taken (g.O.Sink.written c.loop-i.out) (g.O.Sink.faults c.loop-i.out)) (taken (g.O.Sink.written c.add.new.out) (g.O.Sink.faults c.add.new.out))) c.index-turns-i.is c.in_ok-add.ensures.ok);
  later = omega (arith, c.loop-i.invariant.later, c.in_ok-reply.ensures.cause.later);
  servers = c.turn.ensures.servers ∙ c.loop-i.invariant.servers;
  nodes = c.turn.ensures.nodes ∙ c.loop-i.invariant.nodes;
}

pub returns-in_err-reply-clause-cause : goal.returns-in_err-reply-clause-cause
returns-in_err-reply-clause-cause g c =
    let p = err_from_is_err_and c.from_residual.result c.from_residual.ensures.1 in
    rw (p.1, p.2) (cause-later _ _ _ _ c.loop-i.invariant.later c.in_err-reply.ensures.cause)

pub returns-in_err-add-clause-cause : goal.returns-in_err-add-clause-cause
returns-in_err-add-clause-cause g c =
    let p = err_from_is_err_and c.from_residual-in_err-add.result c.from_residual-in_err-add.ensures.1 in
    let before = c.loop-i.invariant.later in
    let now = c.in_ok-reply.ensures.cause.later in
    rw (p.1, p.2) (cause-stays _ _ (omega (arith, before, now)))

pub returns-clause-cause : goal.returns-clause-cause
returns-clause-cause g c = cause-fine _ _ _ c.loop-i.invariant.later
