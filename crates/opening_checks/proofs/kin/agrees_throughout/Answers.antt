use Rattle.std.proofs.Common.{◌<◌, ◌+◌, ◌∙◌, ap, sym, get_or, length, drop, Some, ◌&&◌}
use Rattle.opening_checks.proofs.Prelude.{Txn, agrees_at, links_after, list_all}
use Rattle.opening_checks.proofs.KinSteps.{agrees-on}
use Rattle.opening_checks.proofs.kin.agrees_throughout.Goals as goal

pub returns-then-not-agrees : goal.returns-then-not-agrees
returns-then-not-agrees c =
    let k = c.loop-t.t-index in
    let d : Txn = record { origin = record { 0 = 0 }; seq = 0; size = 0 } in
    let within : k < length c.args.history.now = c.loop-t-test.true in
    let on = agrees-on c.args.rows.now c.args.history.now c.loop-t.before k d c.index-rows-t.result c.agrees.result within (c.requires k d within).origin c.index-rows-t.is c.agrees.ensures in
    sym (ap (λ b. b && list_all (agrees_at c.args.rows.now) (links_after (Some (get_or c.args.history.now k d)) (drop (k + 1) c.args.history.now))) c.if-not-agrees.true) ∙ sym on ∙ c.loop-t.invariant

pub loop-t-preserved : goal.loop-t-preserved
loop-t-preserved c =
    let k = c.loop-t.t-index in
    let d : Txn = record { origin = record { 0 = 0 }; seq = 0; size = 0 } in
    let within : k < length c.args.history.now = c.loop-t-test.true in
    let on = agrees-on c.args.rows.now c.args.history.now c.loop-t.before k d c.index-rows-t.result c.agrees.result within (c.requires k d within).origin c.index-rows-t.is c.agrees.ensures in
    sym (ap (λ b. b && list_all (agrees_at c.args.rows.now) (links_after (Some (get_or c.args.history.now k d)) (drop (k + 1) c.args.history.now))) c.if-not-agrees.false) ∙ sym on ∙ c.loop-t.invariant
