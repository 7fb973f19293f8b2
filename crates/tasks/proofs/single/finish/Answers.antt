use Rattle.std.proofs.Common.{sym}
use Rattle.tasks.proofs.Prelude.{err_from_is_err_and, point}
use Rattle.tasks.proofs.Closings.{rounds_cut, rounds_left}
use Rattle.tasks.proofs.single.finish.Goals as goal

pub returns-in_err-told-clause-err : goal.returns-in_err-told-clause-err
returns-in_err-told-clause-err g c =
    let p = err_from_is_err_and c.from_residual.result c.from_residual.ensures.1 in
    rw (p.1, p.2)
    (rounds_cut (point (g.K.Keeper.kept c.args.keeper.now) c.args.engine.now) c.args.reply c.in-Some.job (sym c.in-Some.ensures) (g.K.Keeper.kept c.finish.new.keeper) c.finish.new.self _ c.in_err-told.ensures.err)

pub returns-clause-ok : goal.returns-clause-ok
returns-clause-ok g c =
    let from = point (g.K.Keeper.kept c.args.keeper.now) c.args.engine.now in
    let to = point (g.K.Keeper.kept c.finish.new.keeper) c.finish.new.self in
    rw c.unwrap_or.ensures (rounds_left from c.args.reply c.in-Some.job (sym c.in-Some.ensures) to c.in_ok-told.told c.in_ok-told.ensures.ok)
