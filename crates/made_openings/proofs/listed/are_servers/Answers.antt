use Rattle.std.proofs.Common.{◌≡◌, length, Some, refl, arith, slice_get}
use Rattle.std.proofs.lemmas.Option.{slice_get_read, slice_get_within}
use Rattle.openings.specs.Opening.{IsServer}
use Rattle.openings.proofs.Members.{get-below_more}
use Rattle.made_openings.proofs.listed.are_servers.Goals as goal

pub loop-server-preserved : goal.loop-server-preserved
loop-server-preserved c =
    let servers = c.args.servers.now in
    let at = c.loop-server.server-index in
    let there : slice_get servers at ≡ Some c.server-item.result = slice_get_read servers (length servers) at c.server-item.result refl c.loop-server-test.true c.server-item.is in
    get-below_more (λ k i. IsServer (length servers) c.args.gtid i) servers at c.server-item.result there (λ k i less h. c.loop-server.invariant k i less h) (c.is_server.ensures c.if-not-is_server.false)

pub returns : goal.returns
returns c = λ _ n i h. let within = slice_get_within c.args.servers.now n i h in c.loop-server.invariant n i (omega (arith, c.loop-server-test.false)) h
