use Rattle.tasks.proofs.Prelude.{point}
use Rattle.tasks.proofs.Courses.{recorded}
use Rattle.tasks.proofs.Stands.{unknown_keeper, unknown_memory, unknown_stands}
use Rattle.tasks.proofs.single.unknown_report.Goals as goal

pub returns-in-Ok-clause-stands : goal.returns-in-Ok-clause-stands
returns-in-Ok-clause-stands g c = λ task is besides.
    unknown_stands task c.args.names.now c.args.scenario.now c.args.turns.now (point (g.K.Keeper.kept c.args.keeper.now) c.args.engine.now) (g.K.Keeper.kept c.run.new.keeper) c.run.new.self c.args.extra _ _ _ _ is besides
    (recorded _ _ _ _ c.args.turns.now c.in-Ok.ensures.ok) c.without_tables-extra.ensures c.write_told.ensures.writes

pub returns-in-Err-Keeper-clause-stands : goal.returns-in-Err-Keeper-clause-stands
returns-in-Err-Keeper-clause-stands g c = λ task is besides.
    unknown_keeper task c.args.names.now c.args.scenario.now c.args.turns.now (point (g.K.Keeper.kept c.args.keeper.now) c.args.engine.now) (g.K.Keeper.kept c.run.new.keeper) c.run.new.self _ _ c.in-Err-Keeper.field-0 is c.in-Err-Keeper.field-0-is c.in-Err-Keeper.ensures.err

pub returns-in-Err-Memory-clause-stands : goal.returns-in-Err-Memory-clause-stands
returns-in-Err-Memory-clause-stands g c = λ task is besides.
    unknown_memory task c.args.names.now c.args.scenario.now c.args.turns.now (point (g.K.Keeper.kept c.args.keeper.now) c.args.engine.now) (g.K.Keeper.kept c.run.new.keeper) c.run.new.self _ _ c.in-Err-Memory.field-0 c.in-Err-Memory.field-0-is c.in-Err-Memory.ensures.err
