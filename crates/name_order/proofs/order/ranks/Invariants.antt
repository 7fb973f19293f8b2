use Rattle.std.proofs.Common.{◌≡◌, ◌<◌, ℕ, length, get_or}
use Rattle.name_order.proofs.Prelude.{ServerNo}
use Rattle.name_order.proofs.order.ranks.Given as goal

abbrev pub invariant-loop-rank : goal.invariant-loop-rank
invariant-loop-rank l = record {
  len : length l.ranks.items ≡ length l.order;
  placed : (k : ℕ) (d : ServerNo) → k < l.rank → get_or l.ranks.items (get_or l.order k d).0 0 ≡ k;
}
