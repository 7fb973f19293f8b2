use Rattle.std.proofs.Common.{◌≡◌, take, map}
use Rattle.server_model.proofs.Prelude.{reserved_set, uuids_in}
use Rattle.server_model.proofs.gtids.executed_sets.Given as goal

abbrev pub invariant-loop-s : goal.invariant-loop-s
invariant-loop-s l = l.sets.items ≡ map (λ s. reserved_set l.gtid (uuids_in l.servers) s.history.room s.history.txns) (take l.s-index l.servers)
