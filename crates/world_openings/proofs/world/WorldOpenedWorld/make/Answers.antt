use Rattle.std.proofs.Common.{◌≡◌, List, length, sym, ◌∙◌, ap, subst, Result, Ok, Err, IfOk}
use Rattle.world_openings.proofs.Prelude.{CanStand, Server, World, world_with}
use Rattle.world_openings.proofs.Opened.{length-opened_from}
use Rattle.world_openings.proofs.OpenedWorlds.{CanStand-opened}
use Rattle.world_openings.proofs.world.WorldOpenedWorld.make.Goals as goal

IfOk-on : {T E : Type 0} (P Q : T → Type 0) (r : Result T E) → ((x : T) → P x → Q x) → IfOk r P → IfOk r Q
IfOk-on P Q (Ok x) on h = on x h
IfOk-on P Q (Err e) on h = tt

pub of-requires : goal.of-requires
of-requires c =
    subst CanStand (sym c.in_ok-servers.ensures)
    (CanStand-opened c.args.from.now c.args.room c.args.flushes c.servers-checked.ensures.checked c.requires.fits c.requires.room c.requires.flushes)

pub returns-clause-servers : goal.returns-clause-servers
returns-clause-servers c =
    IfOk-on (λ (w : World). w ≡ world_with c.in_ok-servers.servers.items c.gtid.result) (λ (w : World). length w.servers ≡ length c.args.from.now.servers) c.of.result
    (λ w is.
    ap (λ (x : World). length x.servers) is ∙ ap (λ (ss : List Server). length ss) c.in_ok-servers.ensures
    ∙ length-opened_from c.args.from.now.servers c.args.room c.args.flushes 0 c.args.from.now.servers)
    c.of.ensures
