use Rattle.std.proofs.Common.{ap, ◌∙◌, sym}
use Rattle.recovery_plans.specs.Deciding.{lot_by}
use Rattle.recovery_parts.specs.Grounds.{ground_by}
use Rattle.recovery_parts.proofs.Divided.{Divided, one-goes, one-stays}
use Rattle.recovery_parts.proofs.dividing.divide.Goals as goal
use Rattle.recovery_parts.proofs.dividing.divide.Goals.{in-Ok+in_ok-push-in-Ok, in-Err+in_ok-push-in-Err}

pub loop-replica-preserved : goal.loop-replica-preserved
loop-replica-preserved c =
    let lot = lot_by c.args.means (ground_by c.args.by.now) c.args.failed c.args.chosen.now in
    let before = c.args.lost.now.items in
    let xs = c.args.others.now in
    let k = c.loop-replica.replica-index in
    let so_far : Divided lot before _ c.loop-replica.moves.items c.loop-replica.lost.items = record { moves = c.loop-replica.invariant.moves; lost = c.loop-replica.invariant.lost } in
    elim c.match-lot_by.branch [
      | in-Ok+in_ok-push-in-Ok w ↦
          let d = one-goes lot before xs k c.loop-replica.moves.items c.match-lot_by.moves.items c.loop-replica.lost.items c.match-lot_by.lost.items w.in-Ok.way c.loop-replica-test.true so_far
          (sym c.lot_by.ensures ∙ w.in-Ok.is) (ap (λ v. v.items) w.moves-is ∙ w.in_ok-push-in-Ok.ensures.items) (ap (λ v. v.items) w.lost-is) in
          record { moves = d.moves; lost = d.lost }
      | in-Err+in_ok-push-in-Err w ↦
          let d = one-stays lot before xs k c.loop-replica.moves.items c.match-lot_by.moves.items c.loop-replica.lost.items c.match-lot_by.lost.items w.in-Err.why c.loop-replica-test.true so_far
          (sym c.lot_by.ensures ∙ w.in-Err.is) (ap (λ v. v.items) w.moves-is) (ap (λ v. v.items) w.lost-is ∙ w.in_ok-push-in-Err.ensures.items) in
          record { moves = d.moves; lost = d.lost }
    ]
