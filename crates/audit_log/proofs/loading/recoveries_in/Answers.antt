use Rattle.std.proofs.Common.{◌∷◌, ◌++◌, [], Some, sym, ◌∙◌, ap, take}
use Rattle.audit_log.proofs.Prelude.{Recovery, recoveries_in, recovery_row_in}
use Rattle.audit_log.proofs.Loaded.{loaded-more, loaded-none}
use Rattle.audit_log.proofs.loading.recoveries_in.Goals as goal
use Rattle.audit_log.proofs.loading.recoveries_in.Goals.{in-Some+in_ok-loaded_by+in_ok-push, in_default}

pub loop-row-preserved : goal.loop-row-preserved
loop-row-preserved g c =
    let period = g.P.Periods.period_of c.args.periods.now in
    let rows = c.args.rows.now in
    let item = ap recovery_row_in (sym c.row-item.is) in
    elim c.match-recovery_row_in.branch [
      | in-Some+in_ok-loaded_by+in_ok-push w ↦
          ap (λ v. v.items) w.recoveries-is ∙ w.in_ok-push.ensures.items
          ∙ ap (λ xs. xs ++ w.in_ok-loaded_by.field-0 ∷ []) c.loop-row.invariant
          ∙ ap (λ (r : Recovery). recoveries_in period (take c.loop-row.row-index rows) ++ r ∷ []) w.in_ok-loaded_by.ensures
          ∙ sym (loaded-more period rows c.loop-row.row-index c.row-item.result (Some w.in-Some.kept.now) c.loop-row-test.true (item ∙ sym w.in-Some.ensures))
      | in_default w ↦
          ap (λ v. v.items) w.recoveries-is ∙ c.loop-row.invariant
          ∙ loaded-none period rows c.loop-row.row-index c.row-item.result c.recovery_row_in.result c.loop-row-test.true (c.recovery_row_in.ensures ∙ sym item) w.in_default.not-Some
    ]
