use Rattle.std.proofs.Common.{◌≡◌, take, sum_by}
use Rattle.openings.specs.Listed.{transactions}
use Rattle.openings.specs.Servers.{parts_of}
use Rattle.made_openings.proofs.listed.count_all.Given as goal

abbrev pub invariant-loop-server : goal.invariant-loop-server
invariant-loop-server l = l.all ≡ sum_by (λ i. transactions (parts_of i)) (take l.server-index l.servers)
