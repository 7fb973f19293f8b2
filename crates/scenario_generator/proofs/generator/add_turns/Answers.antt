use Rattle.std.proofs.Common.{◌+◌, ◌++◌, arith, refl, nat_lt}
use Rattle.scenario_generator.proofs.Prelude.{comma_if, turn_text, turns_from, turns_text}
use Rattle.scenario_generator.proofs.Sends.{joins_front, joins_more, joins_nothing, on_err, stays_front}
use Rattle.scenario_generator.proofs.Texts.{two_printed}
use Rattle.scenario_generator.proofs.Turns.{number_next, text_next, turns_from-within}
use Rattle.scenario_generator.proofs.generator.add_turns.Goals as goal

pub loop-at-init : goal.loop-at-init
unfolding turns_from turns_text
loop-at-init g c = record {
  number = refl;
  joins = joins_nothing (g.K.Sink.written c.args.sink.now) c.args.held.now.items _ refl;
  later = omega arith;
}

pub returns-in_err-print_comma-clause-err : goal.returns-in_err-print_comma-clause-err
returns-in_err-print_comma-clause-err g c =
    let front = turns_from-within c.args.servers c.args.numbers.now.last c.loop-at.at c.args.turns (omega arith) in
    on_err _ c.from_residual.result (joins_front _ _ c.args.held.now.items _ _ front.0 _ c.loop-at.invariant.joins front.1)

pub returns-in_err-print_turn-clause-err : goal.returns-in_err-print_turn-clause-err
returns-in_err-print_turn-clause-err g c =
    let front = turns_from-within c.args.servers c.args.numbers.now.last c.loop-at.at c.args.turns (omega arith) in
    on_err _ c.from_residual-in_err-print_turn.result (joins_front _ _ c.args.held.now.items _ _ front.0 _ c.loop-at.invariant.joins front.1)

pub returns-in_err-hand_over_piece-clause-err : goal.returns-in_err-hand_over_piece-clause-err
returns-in_err-hand_over_piece-clause-err g c =
    let front = turns_from-within c.args.servers c.args.numbers.now.last (c.loop-at.at + 1) c.args.turns (omega arith) in
    on_err _ c.from_residual-in_err-hand_over_piece.result
    (stays_front (g.K.Sink.written c.args.sink.now) (g.K.Sink.written c.loop-at.sink) (g.K.Sink.written c.hand_over_piece.new.sink) c.args.held.now.items c.print_turn.new.out.items _ front.0 _
    (joins_more _ _ c.args.held.now.items c.loop-at.held.items _ _ (comma_if (nat_lt 0 c.loop-at.at) ++ turn_text c.draw_turn.result) _ c.loop-at.invariant.joins
    (two_printed _ _ c.loop-at.held.items _ _ c.in_ok-print_comma.ensures c.in_ok-print_turn.ensures)
    (text_next c.args.servers c.args.numbers.now.last c.loop-at.at c.loop-at.numbers.last c.draw_turn.result c.loop-at.invariant.number c.draw_turn.ensures.turn)) c.in_err-hand_over_piece.ensures.err front.1)

pub loop-at-preserved : goal.loop-at-preserved
loop-at-preserved g c = record {
  number = number_next c.args.servers c.args.numbers.now.last c.loop-at.at c.loop-at.numbers.last _ c.loop-at.invariant.number c.draw_turn.ensures.after;
  joins = λ before text h. c.in_ok-hand_over_piece.ensures.ok before _
      (joins_more (g.K.Sink.written c.args.sink.now) (g.K.Sink.written c.loop-at.sink) c.args.held.now.items c.loop-at.held.items c.print_turn.new.out.items _
      (comma_if (nat_lt 0 c.loop-at.at) ++ turn_text c.draw_turn.result) _ c.loop-at.invariant.joins
      (two_printed _ _ c.loop-at.held.items _ _ c.in_ok-print_comma.ensures c.in_ok-print_turn.ensures)
      (text_next c.args.servers c.args.numbers.now.last c.loop-at.at c.loop-at.numbers.last c.draw_turn.result c.loop-at.invariant.number c.draw_turn.ensures.turn) before text h);
  later = omega (arith, c.loop-at.invariant.later, c.hand_over_piece.ensures.cause.later);
}
