use Rattle.std.proofs.Common.{◌≡◌, None}
use Rattle.instance_keeper.proofs.Cleared.{cleared}
use Rattle.instance_keeper.proofs.book.clear_places.Given as goal

abbrev pub invariant-loop-place : goal.invariant-loop-place
invariant-loop-place g l = l.place-items ≡ cleared None l.place-index l.initial.place-items
