use Rattle.tasks.proofs.Prelude.{Told, taken, told_in}
use Rattle.tasks.proofs.journal.add_entries.Given as goal

abbrev pub invariant-loop-i : goal.invariant-loop-i
invariant-loop-i g l = Told l.names (told_in l.entries) l.i l.fn.progress l.progress (taken (g.O.Sink.written l.fn.out) (g.O.Sink.faults l.fn.out)) (taken (g.O.Sink.written l.out) (g.O.Sink.faults l.out))
