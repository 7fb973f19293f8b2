use Rattle.std.proofs.Common.{true, false, sym, ◌∙◌}
use Rattle.promotion_rules.proofs.Prelude.{is_better, nearer_order}
use Rattle.promotion_rules.proofs.Firsts.{first_step}
use Rattle.promotion_rules.proofs.Orders.{nearer_total}
use Rattle.promotion_rules.proofs.choice.better.Goals as goal
use Rattle.promotion_rules.proofs.choice.better.Goals.{then-replaces, else-replaces}

pub loop-drained-preserved : goal.loop-drained-preserved
loop-drained-preserved c =
    let names = c.args.names.now in
    let list = c.args.followers.now in
    let within = c.loop-drained-test.true in
    let step = first_step (nearer_order names) (nearer_total names) (is_better c.args.of.now) list c.loop-drained.drained-index in
    elim c.if-replaces.branch [
      | then-replaces w ↦ record {
        first = w.first-is ∙ step _ c.loop-drained.first true within c.loop-drained.invariant.first (sym w.if-replaces.true ∙ c.replaces.ensures);
        known = rw w.first-is (c.requires _ _ within);
      }
      | else-replaces w ↦ record {
        first = w.first-is ∙ step _ c.loop-drained.first false within c.loop-drained.invariant.first (sym w.if-replaces.false ∙ c.replaces.ensures);
        known = rw w.first-is c.loop-drained.invariant.known;
      }
    ]
