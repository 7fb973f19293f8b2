use Rattle.top_call.proofs.Prelude.{taken}
use Rattle.top_call.proofs.Prelude.ends
use Rattle.top_call.proofs.Ends.{counted, failing, wanting}
use Rattle.top_call.proofs.top.report.Goals as goal

pub returns-in-Unwritten-clause-ends : goal.returns-in-Unwritten-clause-ends
returns-in-Unwritten-clause-ends g c = λ words bytes t r.
    failing words bytes c.args.places.now c.args.scenario.now _ _ _ _ (taken (g.E.Sink.written c.task_ending.new.err) (g.E.Sink.faults c.task_ending.new.err)) _ t c.requires.asks r c.in-Unwritten.ensures.tells c.in-Unwritten.ensures.later c.close.ensures.took

pub returns-in-Memory-clause-ends : goal.returns-in-Memory-clause-ends
returns-in-Memory-clause-ends g c = λ words bytes t r.
    wanting words bytes c.args.places.now c.args.scenario.now _ _ _ _ (taken (g.E.Sink.written c.task_ending.new.err) (g.E.Sink.faults c.task_ending.new.err)) _ t c.requires.asks r c.in-Memory.ensures.tells c.in-Memory.ensures.later c.close-in-Memory.ensures.took

pub returns-in-Written-clause-keeper : goal.returns-in-Written-clause-keeper
returns-in-Written-clause-keeper g c = counted _ _ (ends.Written c.in-Written.refused) c.in-Written.ensures.cause

pub returns-in-Unwritten-clause-keeper : goal.returns-in-Unwritten-clause-keeper
returns-in-Unwritten-clause-keeper g c = counted _ _ ends.Unwritten c.in-Unwritten.ensures.cause

pub returns-in-Keeper-clause-keeper : goal.returns-in-Keeper-clause-keeper
returns-in-Keeper-clause-keeper g c = counted _ _ ends.Keeper c.in-Keeper.ensures.cause

pub returns-in-Memory-clause-keeper : goal.returns-in-Memory-clause-keeper
returns-in-Memory-clause-keeper g c = counted _ _ ends.Memory c.in-Memory.ensures.cause
