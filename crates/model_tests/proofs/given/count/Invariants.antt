use Rattle.std.proofs.Common.{◌≡◌, take}
use Rattle.openings.specs.Listed.{transactions}
use Rattle.model_tests.proofs.given.count.Given as goal

abbrev pub invariant-loop-part : goal.invariant-loop-part
invariant-loop-part l = l.count ≡ transactions (take l.part-index l.parts)
