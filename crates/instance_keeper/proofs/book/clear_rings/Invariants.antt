use Rattle.std.proofs.Common.{◌≡◌, []}
use Rattle.instance_keeper.proofs.Cleared.{cleared}
use Rattle.instance_keeper.proofs.book.clear_rings.Given as goal

abbrev pub invariant-loop-ring : goal.invariant-loop-ring
invariant-loop-ring l = l.ring-items ≡ cleared [] l.ring-index l.initial.ring-items
