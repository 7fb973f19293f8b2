use Rattle.std.proofs.lemmas.Result.{err_from_is_err_and}
use Rattle.command_outcomes.proofs.KeptRows.LookUps.{map_rises}
use Rattle.knowledge.proofs.Causes.{cause-fine, cause-stays}
use Rattle.knowledge.proofs.Given.{map_told}
use Rattle.knowledge.proofs.keep.given_rows.Goals as goal

pub returns-in_err-row_map-clause-cause : goal.returns-in_err-row_map-clause-cause
returns-in_err-row_map-clause-cause g c =
    let p = err_from_is_err_and c.from_residual-in_err-row_map.result c.from_residual-in_err-row_map.ensures.1 in
    rw (p.1, p.2) (cause-stays _ _ c.in_ok-given.ensures.cause.later)

pub returns-clause-told : goal.returns-clause-told
returns-clause-told g c =
    map_told (g.K.Keeper.kept c.args.keeper.now) c.in_ok-given.given.items c.in_ok-row_map.field-0.items c.in_ok-given.ensures.told c.in_ok-row_map.ensures

pub returns-clause-rising : goal.returns-clause-rising
returns-clause-rising g c = map_rises c.in_ok-given.given.items c.in_ok-row_map.field-0.items c.in_ok-row_map.ensures

pub returns-clause-cause : goal.returns-clause-cause
returns-clause-cause g c = cause-fine _ _ _ c.in_ok-given.ensures.cause.later
