use Rattle.std.proofs.Common.{◌≡◌, take}
use Rattle.server_model.proofs.Prelude.{count_own}
use Rattle.server_model.proofs.own.count_own.Given as goal

abbrev pub invariant-loop-k : goal.invariant-loop-k
invariant-loop-k l = l.own ≡ count_own l.no.0 (take l.k l.log.txns)
