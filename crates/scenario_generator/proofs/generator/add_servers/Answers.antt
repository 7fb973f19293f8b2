use Rattle.std.proofs.Common.{◌+◌, ◌++◌, arith, refl, rules, nat_lt}
use Rattle.scenario_generator.proofs.Prelude.{comma_if, server_text, servers_from, servers_text}
use Rattle.scenario_generator.proofs.Sends.{joins_front, joins_more, joins_nothing, on_err, stays_front}
use Rattle.scenario_generator.proofs.Servers.{counts_next, follows, number_next, servers_from-within, text_next}
use Rattle.scenario_generator.proofs.Texts.{two_printed}
use Rattle.scenario_generator.proofs.generator.add_servers.Goals as goal

pub loop-no-init : goal.loop-no-init
unfolding servers_from servers_text
loop-no-init g c = record {
  number = refl;
  few = search rules;
  counts = λ m low high. absurd (omega arith);
  joins = joins_nothing (g.K.Sink.written c.args.sink.now) c.args.held.now.items _ refl;
  later = omega arith;
}

pub returns-in_err-print_comma-clause-err : goal.returns-in_err-print_comma-clause-err
returns-in_err-print_comma-clause-err g c =
    let front = servers_from-within c.args.numbers.now.last c.loop-no.no c.args.servers (omega arith) in
    on_err _ c.from_residual.result (joins_front _ _ c.args.held.now.items _ _ front.0 _ c.loop-no.invariant.joins front.1)

pub returns-in_err-print_server-clause-err : goal.returns-in_err-print_server-clause-err
returns-in_err-print_server-clause-err g c =
    let front = servers_from-within c.args.numbers.now.last c.loop-no.no c.args.servers (omega arith) in
    on_err _ c.from_residual-in_err-print_server.result (joins_front _ _ c.args.held.now.items _ _ front.0 _ c.loop-no.invariant.joins front.1)

pub returns-in_err-hand_over_piece-clause-err : goal.returns-in_err-hand_over_piece-clause-err
returns-in_err-hand_over_piece-clause-err g c =
    let front = servers_from-within c.args.numbers.now.last (c.loop-no.no + 1) c.args.servers (omega arith) in
    let next = follows c.loop-no.counts c.args.numbers.now.last c.loop-no.no c.loop-no.numbers.last c.draw_server.result c.loop-no.invariant.number c.loop-no.invariant.counts c.draw_server.ensures.server in
    on_err _ c.from_residual-in_err-hand_over_piece.result
    (stays_front (g.K.Sink.written c.args.sink.now) (g.K.Sink.written c.loop-no.sink) (g.K.Sink.written c.hand_over_piece.new.sink) c.args.held.now.items c.print_server.new.out.items _ front.0 _
    (joins_more _ _ c.args.held.now.items c.loop-no.held.items _ _ (comma_if (nat_lt 0 c.loop-no.no) ++ server_text c.loop-no.no c.draw_server.result) _ c.loop-no.invariant.joins
    (two_printed _ _ c.loop-no.held.items _ _ c.in_ok-print_comma.ensures c.in_ok-print_server.ensures) (text_next c.args.numbers.now.last c.loop-no.no c.draw_server.result next)) c.in_err-hand_over_piece.ensures.err front.1)

pub loop-no-preserved : goal.loop-no-preserved
loop-no-preserved g c =
    let next = follows c.loop-no.counts c.args.numbers.now.last c.loop-no.no c.loop-no.numbers.last c.draw_server.result c.loop-no.invariant.number c.loop-no.invariant.counts c.draw_server.ensures.server in
    record {
      number = number_next c.args.numbers.now.last c.loop-no.no c.loop-no.numbers.last _ c.loop-no.invariant.number c.draw_server.ensures.after;
      few = c.draw_server.ensures.few;
      counts = counts_next c.loop-no.counts _ c.args.numbers.now.last c.loop-no.no c.draw_server.result next c.loop-no.invariant.few c.loop-no.invariant.counts c.draw_server.ensures.counts;
      joins = λ before text h. c.in_ok-hand_over_piece.ensures.ok before _
          (joins_more (g.K.Sink.written c.args.sink.now) (g.K.Sink.written c.loop-no.sink) c.args.held.now.items c.loop-no.held.items c.print_server.new.out.items _
          (comma_if (nat_lt 0 c.loop-no.no) ++ server_text c.loop-no.no c.draw_server.result) _ c.loop-no.invariant.joins
          (two_printed _ _ c.loop-no.held.items _ _ c.in_ok-print_comma.ensures c.in_ok-print_server.ensures) (text_next c.args.numbers.now.last c.loop-no.no c.draw_server.result next) before text h);
      later = omega (arith, c.loop-no.invariant.later, c.hand_over_piece.ensures.cause.later);
    }
