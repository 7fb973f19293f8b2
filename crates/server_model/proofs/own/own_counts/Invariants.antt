use Rattle.std.proofs.Common.{◌≡◌, take}
use Rattle.server_model.proofs.Prelude.{own_counts}
use Rattle.server_model.proofs.own.own_counts.Given as goal

abbrev pub invariant-loop-n : goal.invariant-loop-n
invariant-loop-n l = l.counts.items ≡ own_counts (take l.n l.servers)
