use Rattle.std.proofs.Common.{◌≡◌, ◌<◌, List, Some, length, ap, subst, sym, ◌∙◌, slice_get}
use Rattle.server_model.proofs.Prelude.{Server, World, attach_answer, attach_decision, chain_meets, first_kept, server_at, sources, sources_in}
use Rattle.server_model.proofs.Lists.{slice_get-index}
use Rattle.server_model.proofs.world.World.test_attach_at.Goals as goal

-- the server is there, and the walk and the look-up of the source went over the world's servers
pub returns : goal.returns
returns c =
    let within : c.args.no.0 < length c.self.inside.servers.items = subst (λ (w : World). c.args.no.0 < length w.servers) (sym c.self.view_is) c.requires.server in
    let here = slice_get-index c.self.inside.servers.items c.args.no.0 c.index.result.now within c.index.ensures in
    let at = subst (λ (w : World). server_at w c.args.no.0 ≡ Some c.index.result.now) c.self.view_is here in
    c.attach_decision.ensures
    ∙ ap (λ b. attach_decision c.index.result.now c.args.expect b c.first_kept-first.result c.args.at)
    (c.chain_meets-loops.ensures
    ∙ ap (λ (xs : List Server). chain_meets (sources_in xs) (length xs) c.args.to.0 c.args.no.0)
    (c.deref.ensures.value ∙ ap (λ (w : World). w.servers) c.self.view_is))
    ∙ ap (λ k. attach_decision c.index.result.now c.args.expect (chain_meets (sources c.args.self.now) (length c.args.self.now.servers) c.args.to.0 c.args.no.0) k c.args.at)
    (c.first_kept-first.ensures
    ∙ ap (λ (xs : List Server). first_kept (slice_get xs c.args.to.0)) (c.deref-2.ensures.value ∙ ap (λ (w : World). w.servers) c.self.view_is))
    ∙ sym (ap (attach_answer c.args.self.now c.args.no.0 c.args.expect c.args.to.0 c.args.at) at)
