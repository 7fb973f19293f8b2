use Rattle.std.proofs.Common.{◌≡◌, ◌+◌, length, take, get_or, ap, sym, ◌∙◌, max}
use Rattle.scenarios.proofs.Prelude.{ServerInit, longest_flushes, take_more}
use Rattle.scenarios.proofs.Rooms.{longest-push}
use Rattle.scenarios.proofs.room.longest_flushes.Goals as goal

pub loop-server-preserved : goal.loop-server-preserved
loop-server-preserved c =
    let here : get_or c.args.servers.now c.loop-server.server-index c.server-item.result ≡ c.server-item.result = sym c.server-item.is in
    let more : longest_flushes (take (c.loop-server.server-index + 1) c.args.servers.now) ≡ max (length c.server-item.result.flushes) (longest_flushes (take c.loop-server.server-index c.args.servers.now)) =
    ap longest_flushes (take_more c.args.servers.now c.loop-server.server-index c.server-item.result c.loop-server-test.true)
    ∙ longest-push (take c.loop-server.server-index c.args.servers.now) (get_or c.args.servers.now c.loop-server.server-index c.server-item.result)
    ∙ ap (λ (i : ServerInit). max (length i.flushes) (longest_flushes (take c.loop-server.server-index c.args.servers.now))) here in
    let flushes : c.as_slice.result.now ≡ c.server-item.result.flushes = c.as_slice.ensures in
    c.max-longest.ensures ∙ rw (flushes, c.loop-server.invariant) (sym more)
