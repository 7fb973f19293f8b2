use Rattle.std.proofs.Common.{◌≡◌, ◌<◌, length, take, filter, IfSome}
use Rattle.promotion_rules.proofs.Prelude.{first_by, is_better, nearer_order}
use Rattle.promotion_rules.proofs.choice.better.Given as goal

abbrev pub invariant-loop-drained : goal.invariant-loop-drained
invariant-loop-drained l = record {
  first : l.first ≡ first_by (nearer_order l.names) (filter (is_better l.of) (take l.drained-index l.followers));
  known : IfSome l.first (λ d. d.no.0 < length l.names);
}
