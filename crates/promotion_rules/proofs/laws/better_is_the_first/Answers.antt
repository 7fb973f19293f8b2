use Rattle.promotion_rules.proofs.Prelude.{is_better, nearer_order}
use Rattle.promotion_rules.proofs.Choosing.{chosen-first, none-chosen}
use Rattle.promotion_rules.proofs.Orders.{nearer_total}
use Rattle.promotion_rules.proofs.laws.better_is_the_first.Goals as goal

pub returns-clause-chosen : goal.returns-clause-chosen
returns-clause-chosen c names of followers n = chosen-first (nearer_order names) (is_better of) followers n

pub returns-clause-none : goal.returns-clause-none
returns-clause-none c names of followers = none-chosen (nearer_order names) (is_better of) followers (nearer_total names)
