use Rattle.tasks.proofs.Prelude.{point}
use Rattle.tasks.proofs.Stands.{own_keeper, own_memory, own_stands}
use Rattle.tasks.proofs.single.command_report.Goals as goal

pub returns-in-Ok-clause-stands : goal.returns-in-Ok-clause-stands
returns-in-Ok-clause-stands g c = λ task is besides.
    own_stands task c.args.names.now c.args.scenario.now _ (point (g.K.Keeper.kept c.args.keeper.now) c.args.engine.now) c.args.own.now is (point (g.K.Keeper.kept c.last_reply.new.keeper) c.last_reply.new.engine) c.args.extra c.in-Ok.reply _ _ _ besides
    c.in-Ok.ensures.ok c.write_told.ensures.writes

pub returns-in-Err-Keeper-clause-stands : goal.returns-in-Err-Keeper-clause-stands
returns-in-Err-Keeper-clause-stands g c = λ task is besides.
    own_keeper task c.args.names.now c.args.scenario.now _ (point (g.K.Keeper.kept c.args.keeper.now) c.args.engine.now) c.args.own.now is (g.K.Keeper.kept c.last_reply.new.keeper) _ _ c.in-Err-Keeper.field-0 c.in-Err-Keeper.field-0-is c.in-Err-Keeper.ensures.err

pub returns-in-Err-Memory-clause-stands : goal.returns-in-Err-Memory-clause-stands
returns-in-Err-Memory-clause-stands g c = λ task is besides.
    own_memory task c.args.names.now c.args.scenario.now _ (point (g.K.Keeper.kept c.args.keeper.now) c.args.engine.now) c.args.own.now is (g.K.Keeper.kept c.last_reply.new.keeper) _ _ c.in-Err-Memory.field-0 c.in-Err-Memory.field-0-is c.in-Err-Memory.ensures.err
