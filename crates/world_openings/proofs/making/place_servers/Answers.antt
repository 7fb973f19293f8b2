use Rattle.std.proofs.Common.{◌≡◌, ℕ, ◌+◌, ◌<◌, List, length, ap, subst, sym, ◌∙◌, arith, slice_set}
use Rattle.world_openings.proofs.Prelude.{ArePlaced, Server, ServerInit, exec_of, read_of, server_of, slice_get-index}
use Rattle.world_openings.proofs.Placings.{listed-by, ArePlaced-none, ArePlaced-more, HaveLogs-placed}
use Rattle.world_openings.proofs.making.place_servers.Goals as goal

pub loop-n-init : goal.loop-n-init
loop-n-init c = record { placed = ArePlaced-none c.args.from.now.servers c.args.servers.now; logs = c.requires }

pub loop-n-preserved : goal.loop-n-preserved
loop-n-preserved c =
    let inits = c.args.from.now.servers in
    let n = c.loop-n.n in
    let servers = c.loop-n.servers in
    let s = c.index-servers-n.result in
    let init = listed-by inits n (λ (i : ServerInit). exec_of inits i) (λ (i : ServerInit). read_of inits i) c.standing_of.result.0 c.standing_of.result.1 c.standing_of.ensures.exec c.standing_of.ensures.read in
    let count = c.loop-n.invariant.logs.count in
    let same : length c.servers-count.result.now ≡ length inits = ap (λ (is : List ServerInit). length is) c.servers-count.ensures.value in
    let test = c.loop-n-test.true in
    let within : n < length servers = omega arith in
    let here = slice_get-index servers n s within c.index-servers-n.is in
    let placed : ArePlaced inits (n + 1) c.args.servers.now (slice_set servers n (record s { exec = c.standing_of.result.0; read = c.standing_of.result.1 })) =
    ArePlaced-more inits n c.args.servers.now servers init.0 s c.standing_of.result.0 c.standing_of.result.1 init.1 here init.2 init.3 c.loop-n.invariant.placed in
    let told : record (server_of c.s.inside) { exec = c.standing_of.result.0; read = c.standing_of.result.1 } ≡ record s { exec = c.standing_of.result.0; read = c.standing_of.result.1 } =
    ap (λ (x : Server). record x { exec = c.standing_of.result.0; read = c.standing_of.result.1 }) (c.s.view_is ∙ sym c.index-servers-n.is) in
    rw told record { placed = placed; logs = HaveLogs-placed inits (n + 1) c.args.servers.now _ c.requires placed }

pub returns : goal.returns
returns c =
    let all : c.loop-n.n ≡ length c.args.from.now.servers = omega (arith, c.loop-n-test.false, c.loop-n.auto.n-end, ap (λ (is : List ServerInit). length is) c.servers-count.ensures.value) in
    subst (λ (k : ℕ). ArePlaced c.args.from.now.servers k c.args.servers.now c.loop-n.servers) all c.loop-n.invariant.placed
