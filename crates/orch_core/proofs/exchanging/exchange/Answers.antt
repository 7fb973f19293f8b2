use Rattle.std.proofs.Common.{◌∙◌, length, ap}
use Rattle.orch_core.proofs.Prelude.{Apply, World, servers-after}
use Rattle.orch_core.proofs.exchanging.exchange.Goals as goal

pub returns-in-Apply-clause-servers : goal.returns-in-Apply-clause-servers
returns-in-Apply-clause-servers c = ap (λ (w : World). length w.servers) c.apply.ensures.world ∙ servers-after c.args.world.now (Apply c.in-Apply.no.0)
