use Rattle.live_calls.proofs.Prelude.{counted, takes_nothing}
use Rattle.live_calls.proofs.Prelude.ends
use Rattle.live_calls.proofs.Ends.{keeper_failed, sink_rose, unwritten, wanting, written}
use Rattle.live_calls.proofs.answering.report.Goals as goal

pub returns-in-Written-clause-ends : goal.returns-in-Written-clause-ends
returns-in-Written-clause-ends g c = λ words bytes t r. written words bytes c.args.places.now c.args.scenario.now _ _ _ _ t c.requires.live r c.in-Written.refused c.in-Written.ensures.tells (takes_nothing (g.E.Sink.written c.args.err.now))

pub returns-in-Unwritten-clause-ends : goal.returns-in-Unwritten-clause-ends
returns-in-Unwritten-clause-ends g c = λ words bytes t r. unwritten words bytes c.args.places.now c.args.scenario.now _ _ _ _ t c.requires.live r c.in-Unwritten.ensures.tells c.close.ensures.took

pub returns-in-Keeper-clause-ends : goal.returns-in-Keeper-clause-ends
returns-in-Keeper-clause-ends g c = λ words bytes t r. keeper_failed words bytes c.args.places.now c.args.scenario.now _ _ _ _ t c.requires.live r c.in-Keeper.ensures.tells c.close-in-Keeper.ensures.took

pub returns-in-Memory-clause-ends : goal.returns-in-Memory-clause-ends
returns-in-Memory-clause-ends g c = λ words bytes t r. wanting words bytes c.args.places.now c.args.scenario.now _ _ _ _ t c.requires.live r c.in-Memory.ensures.tells c.close-in-Memory.ensures.took

pub returns-in-Unwritten-clause-sink : goal.returns-in-Unwritten-clause-sink
returns-in-Unwritten-clause-sink g c = λ is. sink_rose c.args.scenario.now c.args.places.now.wait _ _ _ c.in-Unwritten.ensures.tells

pub returns-in-Written-clause-keeper : goal.returns-in-Written-clause-keeper
returns-in-Written-clause-keeper g c = counted _ _ (ends.Written c.in-Written.refused) c.in-Written.ensures.cause

pub returns-in-Unwritten-clause-keeper : goal.returns-in-Unwritten-clause-keeper
returns-in-Unwritten-clause-keeper g c = counted _ _ ends.Unwritten c.in-Unwritten.ensures.cause

pub returns-in-Keeper-clause-keeper : goal.returns-in-Keeper-clause-keeper
returns-in-Keeper-clause-keeper g c = counted _ _ ends.Keeper c.in-Keeper.ensures.cause

pub returns-in-Memory-clause-keeper : goal.returns-in-Memory-clause-keeper
returns-in-Memory-clause-keeper g c = counted _ _ ends.Memory c.in-Memory.ensures.cause
