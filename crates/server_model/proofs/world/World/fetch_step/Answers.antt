use Rattle.std.proofs.Common.{◌≡◌, ◌<◌, length, Some, None, subst, sym, ap, ◌∙◌, slice_get}
use Rattle.server_model.proofs.Prelude.{World, option_copied, server_at}
use Rattle.server_model.proofs.Lists.{slice_get-index}
use Rattle.server_model.proofs.Fetched.{attached_from, fetch_step-on}
use Rattle.server_model.proofs.world.World.fetch_step.Goals as goal

pub receiver_step-requires : goal.receiver_step-requires
receiver_step-requires c =
    let within : c.args.no.0 < length c.self.inside.servers.items = subst (λ (w : World). c.args.no.0 < length w.servers) (sym c.self.view_is) c.requires in
    let here = slice_get-index c.self.inside.servers.items c.args.no.0 c.index-r.result.now within c.index-r.ensures in
    let source = attached_from c.args.self.now c.index-r.result.now.source c.in-Some.s.now (sym c.source_of.ensures ∙ ap option_copied c.in-Some.is) in
    let at : slice_get c.self.inside.servers.items source.number ≡ Some c.in-Some.s.now = subst (λ (w : World). server_at w source.number ≡ Some c.in-Some.s.now) (sym c.self.view_is) source.at in
    (c.self.invariant.kept.places c.args.no.0 source.number c.index-r.result.now c.in-Some.s.now here source.from at).read

pub returns-in-None : goal.returns-in-None
returns-in-None c =
    let within : c.args.no.0 < length c.self.inside.servers.items = subst (λ (w : World). c.args.no.0 < length w.servers) (sym c.self.view_is) c.requires in
    let here = slice_get-index c.self.inside.servers.items c.args.no.0 c.index-r.result.now within c.index-r.ensures in
    sym (fetch_step-on c.args.self.now c.args.no.0 c.index-r.result.now None
    (subst (λ (w : World). server_at w c.args.no.0 ≡ Some c.index-r.result.now) c.self.view_is here)
    (sym c.is_receiving.ensures ∙ c.if-not-is_receiving.false)
    (sym c.source_of.ensures ∙ ap option_copied c.in-None.is))

pub returns-in-Some : goal.returns-in-Some
returns-in-Some c =
    let within : c.args.no.0 < length c.self.inside.servers.items = subst (λ (w : World). c.args.no.0 < length w.servers) (sym c.self.view_is) c.requires in
    let here = slice_get-index c.self.inside.servers.items c.args.no.0 c.index-r.result.now within c.index-r.ensures in
    c.receiver_step.ensures
    ∙ sym (fetch_step-on c.args.self.now c.args.no.0 c.index-r.result.now (Some c.in-Some.s.now)
    (subst (λ (w : World). server_at w c.args.no.0 ≡ Some c.index-r.result.now) c.self.view_is here)
    (sym c.is_receiving.ensures ∙ c.if-not-is_receiving.false)
    (sym c.source_of.ensures ∙ ap option_copied c.in-Some.is))
