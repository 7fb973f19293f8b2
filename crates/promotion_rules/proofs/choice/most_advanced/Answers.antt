use Rattle.std.proofs.Common.{true, false, sym, ◌∙◌}
use Rattle.promotion_rules.proofs.Prelude.{advance_order, is_eligible}
use Rattle.promotion_rules.proofs.Firsts.{first_step}
use Rattle.promotion_rules.proofs.Orders.{advance_total}
use Rattle.promotion_rules.proofs.choice.most_advanced.Goals as goal
use Rattle.promotion_rules.proofs.choice.most_advanced.Goals.{then-leads, else-leads}

pub loop-drained-preserved : goal.loop-drained-preserved
loop-drained-preserved c =
    let names = c.args.names.now in
    let list = c.args.list.now in
    let within = c.loop-drained-test.true in
    let step = first_step (advance_order names) (advance_total names) is_eligible list c.loop-drained.drained-index in
    elim c.if-leads.branch [
      | then-leads w ↦ record {
        first = w.first-is ∙ step _ c.loop-drained.first true within c.loop-drained.invariant.first (sym w.if-leads.true ∙ c.leads.ensures);
        known = rw w.first-is (c.requires _ _ within);
      }
      | else-leads w ↦ record {
        first = w.first-is ∙ step _ c.loop-drained.first false within c.loop-drained.invariant.first (sym w.if-leads.false ∙ c.leads.ensures);
        known = rw w.first-is c.loop-drained.invariant.known;
      }
    ]
