use Rattle.promotion_rules.proofs.Ranks.{near-first, rule-first, same-place}
use Rattle.promotion_rules.proofs.laws.ranks_go_by_rule_first.Goals as goal

pub returns : goal.returns
returns c = record {
  rule = rule-first;
  near = near-first;
  same = same-place;
}
