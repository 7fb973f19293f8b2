use Rattle.std.proofs.Common.{◌≡◌, ◌<◌, length, take, filter, IfSome}
use Rattle.promotion_rules.proofs.Prelude.{advance_order, first_by, is_eligible}
use Rattle.promotion_rules.proofs.choice.most_advanced.Given as goal

abbrev pub invariant-loop-drained : goal.invariant-loop-drained
invariant-loop-drained l = record {
  first : l.first ≡ first_by (advance_order l.names) (filter is_eligible (take l.drained-index l.list));
  known : IfSome l.first (λ d. d.no.0 < length l.names);
}
