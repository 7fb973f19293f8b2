use Rattle.std.proofs.Common.{refl}
use Rattle.tasks.proofs.Prelude.{taken, told_run}
use Rattle.tasks.proofs.Journals.{journal_ends, journal_wants}
use Rattle.tasks.proofs.journal.printed_journal.Goals as goal

pub returns-in-Ok : goal.returns-in-Ok
returns-in-Ok g c =
    journal_ends c.args.head.items c.args.names.now c.args.entries.now (told_run c.args.engine.now c.args.entries.now) c.behind-progress.result c.add_entries.new.progress
    (taken (g.O.Sink.written c.args.out.now) (g.O.Sink.faults c.args.out.now)) (taken (g.O.Sink.written c.add_entries.new.out) (g.O.Sink.faults c.add_entries.new.out)) (taken (g.O.Sink.written c.end.new.out) (g.O.Sink.faults c.end.new.out)) refl
    c.behind-progress.ensures.held c.behind-progress.ensures.unfailed c.behind-progress.ensures.unrefused c.in-Ok.ensures.ok _ c.end.ensures

pub returns-in-Err : goal.returns-in-Err
returns-in-Err g c =
    journal_wants c.args.head.items c.args.names.now c.args.entries.now (told_run c.args.engine.now c.args.entries.now) c.behind-progress.result c.add_entries.new.progress
    (taken (g.O.Sink.written c.args.out.now) (g.O.Sink.faults c.args.out.now)) (taken (g.O.Sink.written c.add_entries.new.out) (g.O.Sink.faults c.add_entries.new.out)) (taken (g.O.Sink.written c.add_entries.new.out) (g.O.Sink.faults c.add_entries.new.out)) refl
    c.behind-progress.ensures.held c.behind-progress.ensures.unfailed c.behind-progress.ensures.unrefused c.in-Err.ensures.err
