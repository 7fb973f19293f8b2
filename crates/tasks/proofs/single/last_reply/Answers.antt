use Rattle.std.proofs.Common.{List, Option, Result, Ok, Err, inl, arith, IfOk, IfErr}
use Rattle.tasks.proofs.Prelude.{Answers, ClosesEach, CommandTurn, EndsEach, GivesUpEach, Point, Ran, Reply, Row, Stops, Turn, TurnFault}
use Rattle.tasks.proofs.Prelude.{cause-behind, cause-later, engine, err_from_is_err_and, own_stages, point}
use Rattle.tasks.proofs.Own.{own_gave_up, rounds_answer, rounds_gave_up}
use Rattle.tasks.proofs.Stands.{whole_gave_up}
use Rattle.tasks.proofs.single.last_reply.Goals as goal

-- the rounds follow the command's own turn
answers_by : (c : CommandTurn) (from at own to : Point) (ts : List Turn) (reply : Reply) (r : Result Reply TurnFault) → Ran engine from.kept from.state ts at.kept at.state → EndsEach (own_stages c) at own reply → IfOk r (ClosesEach own reply to) → IfOk r (Answers from ts c to)
answers_by c from at own to ts reply (Ok told) ran ends closes = rounds_answer c from at ts ran own to reply told ends closes
answers_by c from at own to ts reply (Err why) ran ends closes = tt

-- and one of their turns gave up
stops_by : (c : CommandTurn) (from at own : Point) (ts : List Turn) (kept : Option (List Row)) (reply : Reply) (r : Result Reply TurnFault) → Ran engine from.kept from.state ts at.kept at.state → EndsEach (own_stages c) at own reply → IfErr r (GivesUpEach own reply kept)
    → IfErr r (Stops from ts c kept)
stops_by c from at own ts kept reply (Ok told) ran ends gives = tt
stops_by c from at own ts kept reply (Err why) ran ends gives = rounds_gave_up c from at ts ran own reply kept why ends gives

pub returns-in_err-run-clause-err : goal.returns-in_err-run-clause-err
returns-in_err-run-clause-err g c =
    let p = err_from_is_err_and c.from_residual.result c.from_residual.ensures.1 in
    rw (p.1, p.2) (inl (whole_gave_up (point (g.K.Keeper.kept c.args.keeper.now) c.args.engine.now) _ _ c.args.turns.now _ c.in_err-run.ensures.err))

pub returns-in_err-reply-clause-err : goal.returns-in_err-reply-clause-err
returns-in_err-reply-clause-err g c =
    let p = err_from_is_err_and c.from_residual-in_err-reply.result c.from_residual-in_err-reply.ensures.1 in
    rw (p.1, p.2)
    (own_gave_up c.args.own.now (point (g.K.Keeper.kept c.args.keeper.now) c.args.engine.now) (point (g.K.Keeper.kept c.run.new.keeper) c.run.new.self) c.args.turns.now c.in_ok-run.ensures.ok _ _ c.in_err-reply.ensures.err)

pub returns : goal.returns
returns g c = record {
  ok =
      let from = point (g.K.Keeper.kept c.args.keeper.now) c.args.engine.now in
      let at = point (g.K.Keeper.kept c.run.new.keeper) c.run.new.self in
      let own = point (g.K.Keeper.kept c.own_reply.new.keeper) c.own_reply.new.engine in
      answers_by c.args.own.now from at own _ c.args.turns.now c.in_ok-reply.reply _ c.in_ok-run.ensures.ok c.in_ok-reply.ensures.ok c.finish.ensures.ok;
  err =
      let from = point (g.K.Keeper.kept c.args.keeper.now) c.args.engine.now in
      let at = point (g.K.Keeper.kept c.run.new.keeper) c.run.new.self in
      let own = point (g.K.Keeper.kept c.own_reply.new.keeper) c.own_reply.new.engine in
      stops_by c.args.own.now from at own c.args.turns.now (g.K.Keeper.kept c.finish.new.keeper) c.in_ok-reply.reply _ c.in_ok-run.ensures.ok c.in_ok-reply.ensures.ok c.finish.ensures.err;
  cause =
      let first = c.in_ok-run.ensures.cause.later in
      let second = c.in_ok-reply.ensures.cause.later in
      cause-behind _ _ _ _ (omega (arith, first, second)) c.finish.ensures.cause;
}

pub returns-in_err-reply-clause-cause : goal.returns-in_err-reply-clause-cause
returns-in_err-reply-clause-cause g c =
    let p = err_from_is_err_and c.from_residual-in_err-reply.result c.from_residual-in_err-reply.ensures.1 in
    rw (p.1, p.2) (cause-later _ _ _ _ c.in_ok-run.ensures.cause.later c.in_err-reply.ensures.cause)
