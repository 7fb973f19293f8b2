use Rattle.promotion_rules.proofs.Prelude.{advance_order, is_eligible}
use Rattle.promotion_rules.proofs.Choosing.{chosen-first, first-furthest, none-chosen}
use Rattle.promotion_rules.proofs.Orders.{advance_total}
use Rattle.promotion_rules.proofs.laws.most_advanced_is_the_first.Goals as goal

pub returns : goal.returns
returns c = record {
  chosen = λ names list n. chosen-first (advance_order names) is_eligible list n;
  executed = λ names list n e. first-furthest names is_eligible list n (chosen-first (advance_order names) is_eligible list n e);
  none = λ names list. none-chosen (advance_order names) is_eligible list (advance_total names);
}
