use Rattle.tasks.proofs.Prelude.{point, taken}
use Rattle.tasks.proofs.Stands.{cut_stands, gave_keeper, whole_stands}
use Rattle.tasks.proofs.progress.printed_report.Goals as goal

pub returns-in-Ok-clause-stands : goal.returns-in-Ok-clause-stands
returns-in-Ok-clause-stands g c = λ task s err is.
    whole_stands task c.args.names.now s c.args.turns.now (point (g.K.Keeper.kept c.args.keeper.now) c.args.engine.now) (point (g.K.Keeper.kept c.take_turns.new.keeper) c.take_turns.new.engine)
    (taken (g.O.Sink.written c.args.out.now) (g.O.Sink.faults c.args.out.now)) (taken (g.O.Sink.written c.take_turns.new.out) (g.O.Sink.faults c.take_turns.new.out)) _ err c.take_turns.new.progress is _ c.in-Ok.ensures.ok c.end.ensures

pub returns-in-Err-Keeper-clause-stands : goal.returns-in-Err-Keeper-clause-stands
returns-in-Err-Keeper-clause-stands g c = λ task s err is.
    let from = point (g.K.Keeper.kept c.args.keeper.now) c.args.engine.now in
    let to = point (g.K.Keeper.kept c.take_turns.new.keeper) c.take_turns.new.engine in
    cut_stands task c.args.names.now s c.args.turns.now from to (taken (g.O.Sink.written c.args.out.now) (g.O.Sink.faults c.args.out.now)) (taken (g.O.Sink.written c.take_turns.new.out) (g.O.Sink.faults c.take_turns.new.out)) _ err
    c.take_turns.new.progress is _ (gave_keeper c.args.names.now from to c.args.turns.now _ c.take_turns.new.progress c.in-Err-Keeper.field-0 c.in-Err-Keeper.field-0-is c.in-Err-Keeper.ensures.err) c.cut.ensures
