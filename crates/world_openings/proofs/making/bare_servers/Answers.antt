use Rattle.std.proofs.Common.{◌≡◌, ℕ, List, length, Some, ap, subst, arith, slice_get}
use Rattle.world_openings.proofs.Prelude.{AreBare, ServerInit, bare_server, slice_get-index}
use Rattle.world_openings.proofs.Placings.{AreBare-more}
use Rattle.world_openings.proofs.making.bare_servers.Goals as goal

pub loop-n-preserved : goal.loop-n-preserved
loop-n-preserved c =
    let at : slice_get c.args.from.now.servers c.loop-n.n ≡ Some c.init-item.result =
    subst (λ (is : List ServerInit). slice_get is c.loop-n.n ≡ Some c.init-item.result) c.servers-init-items.ensures.value
    (slice_get-index c.servers-init-items.result.now c.loop-n.n c.init-item.result c.loop-n-test.true c.init-item.is) in
    let server : c.in_ok-server.server ≡ bare_server c.args.from.now.servers c.args.room c.args.flushes c.loop-n.n c.init-item.result = c.in_ok-server.ensures in
    rw (c.in_ok-push.ensures.items, server)
    (AreBare-more c.args.from.now c.args.room c.args.flushes c.loop-n.n c.loop-n.servers.items c.init-item.result at c.loop-n.invariant)

pub returns : goal.returns
returns c =
    let all : c.loop-n.n ≡ length c.args.from.now.servers = omega (arith, c.loop-n-test.false, c.loop-n.auto.n-end, ap (λ (is : List ServerInit). length is) c.servers-init-items.ensures.value) in
    subst (λ (k : ℕ). AreBare c.args.from.now c.args.room c.args.flushes k c.loop-n.servers.items) all c.loop-n.invariant
