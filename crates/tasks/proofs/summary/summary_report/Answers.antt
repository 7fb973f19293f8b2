use Rattle.tasks.proofs.Prelude.{point}
use Rattle.tasks.proofs.Stands.{summary_keeper, summary_memory, summary_stands}
use Rattle.tasks.proofs.summary.summary_report.Goals as goal

pub returns-in-Ok-clause-stands : goal.returns-in-Ok-clause-stands
returns-in-Ok-clause-stands g c = λ names s task is.
    summary_stands task names s c.args.turns.now (point (g.K.Keeper.kept c.args.keeper.now) c.args.engine.now) is (point (g.K.Keeper.kept c.count_turns.new.keeper) c.count_turns.new.engine) c.in-Ok.tally _ _ _ c.in-Ok.ensures.ok
    c.write_summary.ensures.writes

pub returns-in-Err-Keeper-clause-stands : goal.returns-in-Err-Keeper-clause-stands
returns-in-Err-Keeper-clause-stands g c = λ names s task is.
    summary_keeper task names s c.args.turns.now (point (g.K.Keeper.kept c.args.keeper.now) c.args.engine.now) is (g.K.Keeper.kept c.count_turns.new.keeper) _ _ c.in-Err-Keeper.field-0 c.in-Err-Keeper.field-0-is c.in-Err-Keeper.ensures.err

pub returns-in-Err-Memory-clause-stands : goal.returns-in-Err-Memory-clause-stands
returns-in-Err-Memory-clause-stands g c = λ names s task is.
    summary_memory task names s c.args.turns.now (point (g.K.Keeper.kept c.args.keeper.now) c.args.engine.now) is (g.K.Keeper.kept c.count_turns.new.keeper) _ _ c.in-Err-Memory.field-0 c.in-Err-Memory.field-0-is c.in-Err-Memory.ensures.err
