use Rattle.std.proofs.Common.{◌≡◌, ◌++◌, drop}
use Rattle.scenario_values.proofs.Prelude.{escaped}
use Rattle.scenario_values.proofs.fault.escape.Given as goal

abbrev pub invariant-loop-byte : goal.invariant-loop-byte
invariant-loop-byte l = l.out.items ++ escaped (drop l.byte-index l.key) ≡ l.fn.out.items ++ escaped l.fn.key
