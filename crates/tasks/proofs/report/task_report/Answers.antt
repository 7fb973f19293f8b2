use Rattle.std.proofs.Common.{arith}
use Rattle.tasks.proofs.Prelude.{Rose}
use Rattle.tasks.proofs.Sends.{rose_later}
use Rattle.tasks.proofs.Stands.{begun_stands}
use Rattle.tasks.proofs.report.task_report.Goals as goal

pub returns-clause-tells : goal.returns-clause-tells
returns-clause-tells g c =
    begun_stands _ c.args.names.now _ c.in-Ok.engine (g.K.Keeper.kept c.make.new.keeper) _ _ _ c.in-Ok.ensures.ok c.in-Ok.ensures.kept c.requires.names
    c.as_slice-turns.ensures c.asked_report.ensures.stands

pub returns-clause-cause : goal.returns-clause-cause
returns-clause-cause g c =
    let first = c.in-Ok.ensures.cause.later in
    let cause = c.asked_report.ensures.cause in
    let second = cause.later in
    record {
      later = omega (arith, first, second);
      failed = λ k.
          let rose : Rose (g.K.Keeper.faults c.make.new.keeper) (g.K.Keeper.faults c.asked_report.new.keeper) = cause.failed k in
          rose_later _ _ _ first rose;
    }
