use Rattle.std.proofs.Common.{◌∙◌, ℕ, List, ◌++◌, ap}
use Rattle.live_calls.proofs.Prelude.{across, schedule_line, told_run, turns_in}
use Rattle.live_calls.proofs.Reports.{delivered}
use Rattle.live_calls.proofs.delivery.deliver.Goals as goal

pub returns-in-Ok-keep_rows-clause-delivers : goal.returns-in-Ok-keep_rows-clause-delivers
returns-in-Ok-keep_rows-clause-delivers g c =
    let ts = turns_in c.args.entries.now in
    delivered c.args.names.now ts (told_run c.args.engine.now c.args.entries.now) c.args.rows.items _ (g.K.Keeper.kept c.args.keeper.now) (g.K.Keeper.kept c.keep_rows.new.keeper)
    (across (g.O.Sink.written c.args.out.now) (g.O.Sink.faults c.args.out.now) (g.O.Sink.written c.journal_report.new.out) (g.O.Sink.faults c.journal_report.new.out)) c.journal_report.result
    (c.in-Ok.ensures.ok ∙ ap (λ (v : List ℕ). v ++ schedule_line c.args.names.now ts) c.new-line.ensures.items) c.in-Ok-keep_rows.ensures.kept c.journal_report.ensures
