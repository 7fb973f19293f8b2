use Rattle.std.proofs.Common.{◌≡◌, take}
use Rattle.instance_keeper.proofs.Prelude.{has_own, latest_that}
use Rattle.instance_keeper.proofs.bridge.Ring.by_own.Given as goal

abbrev pub invariant-loop-k : goal.invariant-loop-k
invariant-loop-k l = l.found ≡ latest_that (has_own l.source l.own) (take l.k l.self)
