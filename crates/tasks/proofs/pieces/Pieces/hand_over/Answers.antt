use Rattle.tasks.proofs.Prelude.{taken}
use Rattle.tasks.proofs.Sends.{carried}
use Rattle.tasks.proofs.pieces.Pieces.hand_over.Goals as goal

pub returns-clause-stays : goal.returns-clause-stays
returns-clause-stays g c = λ from text carries.
    carried c.write_all.result from (taken (g.O.Sink.written c.args.out.now) (g.O.Sink.faults c.args.out.now)) (taken (g.O.Sink.written c.write_all.new.sink) (g.O.Sink.faults c.write_all.new.sink))
    c.args.self.now c.deref.result.now _ text _ c.if-self.false c.is_err-self.ensures.value c.deref.ensures.value c.clear.ensures.items c.write_all.ensures.ok c.write_all.ensures.err c.write_all.ensures.cause carries
