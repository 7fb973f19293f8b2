use Rattle.promotion_rules.proofs.Orders.{advance_total, nearer_total}
use Rattle.promotion_rules.proofs.laws.orders_are_total.Goals as goal

pub returns-clause-advance : goal.returns-clause-advance
returns-clause-advance c = advance_total

pub returns-clause-nearer : goal.returns-clause-nearer
returns-clause-nearer c = nearer_total
