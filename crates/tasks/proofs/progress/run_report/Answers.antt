use Rattle.std.proofs.Common.{List, refl, arith, subst}
use Rattle.tasks.proofs.Prelude.{HostPort, Ran-nil, Stands, between, course_from, point, recorder, taken, without_turns}
use Rattle.tasks.proofs.Prelude.fault
use Rattle.tasks.proofs.Stands.{memory_stands}
use Rattle.tasks.proofs.progress.run_report.Goals as goal

pub returns-in-Err-clause-stands : goal.returns-in-Err-clause-stands
returns-in-Err-clause-stands g c = λ task s err is.
    let kept = g.K.Keeper.kept c.args.keeper.now in
    let out = taken (g.O.Sink.written c.args.out.now) (g.O.Sink.faults c.args.out.now) in
    memory_stands task c.args.names.now s c.args.turns.now (point kept c.args.engine.now) kept out err fault.Memory refl
    (record { k = 0; within = omega arith; run = without_turns c.args.engine.now; ran = Ran-nil recorder kept (without_turns c.args.engine.now) })

pub returns-in-Ok-clause-stands : goal.returns-in-Ok-clause-stands
returns-in-Ok-clause-stands g c = λ task s err is.
    let kept = g.K.Keeper.kept c.args.keeper.now in
    let before = taken (g.O.Sink.written c.args.out.now) (g.O.Sink.faults c.args.out.now) in
    let after = taken (g.O.Sink.written c.printed_report.new.out) (g.O.Sink.faults c.printed_report.new.out) in
    subst (λ (ns : List HostPort). Stands (course_from task ns s c.args.turns.now (point kept c.args.engine.now) (g.K.Keeper.kept c.printed_report.new.keeper)) (between before after) (between err err) c.printed_report.result)
    c.in-Ok.ensures (c.printed_report.ensures.stands task s err is)
