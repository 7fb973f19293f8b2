use Rattle.std.proofs.Common.{◌≡◌, ◌-◌, ◌^◌, take, min}
use Rattle.scenarios.specs.Openings.Listed.{transactions}
use Rattle.scenario_reader.proofs.opening.listed.Given as goal

abbrev pub invariant-loop-part : goal.invariant-loop-part
invariant-loop-part l = l.count ≡ min (transactions (take l.part-index l.parts)) (2 ^ 64 - 1)
