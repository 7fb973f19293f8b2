use Rattle.std.proofs.Common.{◌≡◌, take}
use Rattle.openings.specs.Listed.{transactions}
use Rattle.made_openings.proofs.listed.count.Given as goal

abbrev pub invariant-loop-part : goal.invariant-loop-part
invariant-loop-part l = l.count ≡ transactions (take l.part-index l.parts)
