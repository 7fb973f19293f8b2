use Rattle.std.proofs.Common.{◌≡◌, [], replicate}
use Rattle.instance_keeper.proofs.book.empty_rings.Given as goal

abbrev pub invariant-loop : goal.invariant-loop
invariant-loop l = l.rings.items ≡ replicate l.counter []
