use Rattle.std.proofs.Common.{◌≡◌, take}
use Rattle.instance_keeper.proofs.Prelude.{has_exec, latest_that}
use Rattle.instance_keeper.proofs.bridge.Ring.by_exec.Given as goal

abbrev pub invariant-loop-k : goal.invariant-loop-k
invariant-loop-k l = l.found ≡ latest_that (has_exec l.source l.exec) (take l.k l.self)
