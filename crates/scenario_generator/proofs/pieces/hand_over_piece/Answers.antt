use Rattle.scenario_generator.proofs.Sends.{handed_front, handed_over}
use Rattle.scenario_generator.proofs.pieces.hand_over_piece.Goals as goal

pub returns-clause-ok : goal.returns-clause-ok
returns-clause-ok g c =
    handed_over c.write_all-written.result (g.K.Sink.written c.args.sink.now) (g.K.Sink.written c.write_all-written.new.sink) c.args.held.now.items _ _ c.deref.ensures.value c.clear.ensures.items c.write_all-written.ensures.ok

pub returns-clause-err : goal.returns-clause-err
returns-clause-err g c =
    handed_front c.write_all-written.result (g.K.Sink.written c.args.sink.now) (g.K.Sink.written c.write_all-written.new.sink) c.args.held.now.items _ c.deref.ensures.value c.write_all-written.ensures.err
