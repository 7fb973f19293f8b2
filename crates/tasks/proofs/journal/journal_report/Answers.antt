use Rattle.std.proofs.Common.{List, subst}
use Rattle.tasks.proofs.Prelude.{End, HostPort, JournalStands, between, headed_text, taken, told_run}
use Rattle.tasks.proofs.Sends.{nothing_is_front, takes_nothing}
use Rattle.tasks.proofs.journal.journal_report.Goals as goal

pub returns-in-Err : goal.returns-in-Err
returns-in-Err g c =
    nothing_is_front (g.O.Sink.written c.args.out.now) (g.O.Sink.written c.args.out.now) (headed_text c.args.head.items c.args.names.now (told_run c.args.engine.now c.args.entries.now)) (takes_nothing (g.O.Sink.written c.args.out.now))

pub returns-in-Ok : goal.returns-in-Ok
returns-in-Ok g c =
    let out : End = between (taken (g.O.Sink.written c.args.out.now) (g.O.Sink.faults c.args.out.now)) (taken (g.O.Sink.written c.printed_journal.new.out) (g.O.Sink.faults c.printed_journal.new.out)) in
    subst (λ (ns : List HostPort). JournalStands c.args.head.items ns (told_run c.args.engine.now c.args.entries.now) out c.printed_journal.result) c.in-Ok.ensures c.printed_journal.ensures
