use Rattle.std.proofs.Common.{◌≡◌, ◌-◌, length}
use Rattle.server_model.proofs.Prelude.{chain_meets, sources_in}
use Rattle.server_model.proofs.attach.chain_meets.Given as goal

abbrev pub invariant-loop-i : goal.invariant-loop-i
invariant-loop-i l =
    chain_meets (sources_in l.servers) (length l.servers) l.from l.n ≡ chain_meets (sources_in l.servers) (length l.servers - l.i) l.at l.n
