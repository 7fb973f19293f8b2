use Rattle.std.proofs.Common.{ℕ, ◌+◌, arith, subst}
use Rattle.tasks.proofs.Prelude.{Adds, Reply, Turn, taken}
use Rattle.tasks.proofs.Journals.{Told-next, Told-nil, Told-wanting, on_err}
use Rattle.tasks.proofs.journal.add_entries.Goals as goal

pub loop-i-init : goal.loop-i-init
loop-i-init g c = Told-nil c.args.names.now _ c.args.progress.now (taken (g.O.Sink.written c.args.out.now) (g.O.Sink.faults c.args.out.now))

pub loop-i-preserved : goal.loop-i-preserved
loop-i-preserved g c =
    let mid = taken (g.O.Sink.written c.loop-i.out) (g.O.Sink.faults c.loop-i.out) in
    let new = taken (g.O.Sink.written c.add.new.out) (g.O.Sink.faults c.add.new.out) in
    Told-next c.args.names.now c.args.entries.now c.loop-i.i c.index-entries-i.result c.args.progress.now c.loop-i.progress c.add.new.self (taken (g.O.Sink.written c.args.out.now) (g.O.Sink.faults c.args.out.now)) mid new (omega arith) c.loop-i.invariant
    (subst (λ (e : ℕ × Turn × Reply). Adds c.args.names.now (c.loop-i.i + 1) e.1 e.2 c.loop-i.progress c.add.new.self mid new) c.index-entries-i.is c.in_ok-add.ensures.ok)

pub returns-in_err-add-clause-err : goal.returns-in_err-add-clause-err
returns-in_err-add-clause-err g c =
    let mid = taken (g.O.Sink.written c.loop-i.out) (g.O.Sink.faults c.loop-i.out) in
    let new = taken (g.O.Sink.written c.add.new.out) (g.O.Sink.faults c.add.new.out) in
    on_err _ c.from_residual.result
    (Told-wanting c.args.names.now c.args.entries.now c.loop-i.i c.index-entries-i.result c.args.progress.now c.loop-i.progress c.add.new.self (taken (g.O.Sink.written c.args.out.now) (g.O.Sink.faults c.args.out.now)) mid new (omega arith) c.loop-i.invariant c.in_err-add.ensures.err)
