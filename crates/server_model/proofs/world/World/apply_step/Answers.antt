use Rattle.std.proofs.Common.{◌≡◌, ◌<◌, length, Some, subst, sym, ap, ◌∙◌, arith, List, slice_get}
use Rattle.server_model.proofs.Prelude.{Server, TellsExecuted, World, apply_from, option_copied, server_at, uuids_in}
use Rattle.server_model.proofs.Lists.{slice_get-index}
use Rattle.server_model.proofs.Fetched.{attached_from}
use Rattle.server_model.proofs.Applied.{apply_step-on, ready_at}
use Rattle.server_model.proofs.ExecutedSets.{tells}
use Rattle.server_model.proofs.world.World.apply_step.Goals as goal

pub applier_step-requires-clause-place : goal.applier_step-requires-clause-place
applier_step-requires-clause-place c =
    let within : c.args.no.0 < length c.self.inside.servers.items = subst (λ (w : World). c.args.no.0 < length w.servers) (sym c.self.view_is) c.requires in
    let here = slice_get-index c.self.inside.servers.items c.args.no.0 c.index-r.result.now within c.index-r.ensures in
    let source = attached_from c.args.self.now c.index-r.result.now.source c.in-Some.s.now (sym c.source_of.ensures ∙ ap option_copied c.in-Some.is) in
    let at : slice_get c.self.inside.servers.items source.number ≡ Some c.in-Some.s.now = subst (λ (w : World). server_at w source.number ≡ Some c.in-Some.s.now) (sym c.self.view_is) source.at in
    (c.self.invariant.kept.places c.args.no.0 source.number c.index-r.result.now c.in-Some.s.now here source.from at).exec

pub applier_step-requires-clause-told : goal.applier_step-requires-clause-told
applier_step-requires-clause-told c =
    let within : c.args.no.0 < length c.self.inside.servers.items = subst (λ (w : World). c.args.no.0 < length w.servers) (sym c.self.view_is) c.requires in
    let beyond : c.args.no.0 < length c.self.inside.executed.items = let e = c.self.invariant.gtids.paired in omega arith in
    let here = slice_get-index c.self.inside.servers.items c.args.no.0 c.index-r.result.now within c.index-r.ensures in
    let beside = slice_get-index c.self.inside.executed.items c.args.no.0 c.index.result.now beyond c.index.ensures in
    let source = attached_from c.args.self.now c.index-r.result.now.source c.in-Some.s.now (sym c.source_of.ensures ∙ ap option_copied c.in-Some.is) in
    let at : slice_get c.self.inside.servers.items source.number ≡ Some c.in-Some.s.now = subst (λ (w : World). server_at w source.number ≡ Some c.in-Some.s.now) (sym c.self.view_is) source.at in
    subst (λ (xs : List Server). TellsExecuted c.self.inside.gtid (uuids_in xs) c.index.result.now.intervals c.index-r.result.now c.in-Some.s.now) (sym c.deref.ensures.value)
    (tells c.self.inside.servers.items c.self.inside.executed.items c.self.inside.purged.items c.self.inside.gtid source.number c.args.no.0 c.index-r.result.now c.in-Some.s.now c.index.result.now c.self.invariant.gtids here at beside)

pub returns-in-Some : goal.returns-in-Some
returns-in-Some c =
    let within : c.args.no.0 < length c.self.inside.servers.items = subst (λ (w : World). c.args.no.0 < length w.servers) (sym c.self.view_is) c.requires in
    let here = slice_get-index c.self.inside.servers.items c.args.no.0 c.index-r.result.now within c.index-r.ensures in
    record {
      step =
          c.applier_step.ensures.step
          ∙ ap (λ (w : World). apply_from w.gtid c.index-r.result.now (Some c.in-Some.s.now)) c.self.view_is
          ∙ sym (apply_step-on c.args.self.now c.args.no.0 c.index-r.result.now (Some c.in-Some.s.now)
          (subst (λ (w : World). server_at w c.args.no.0 ≡ Some c.index-r.result.now) c.self.view_is here)
          (sym c.is_applying.ensures ∙ c.if-not-is_applying.false) (sym c.is_reached.ensures ∙ c.if-is_reached.false)
          (sym c.source_of.ensures ∙ ap option_copied c.in-Some.is));
      ready =
          ready_at c.args.self.now c.args.no.0 c.index-r.result.now c.applier_step.result
          (subst (λ (w : World). server_at w c.args.no.0 ≡ Some c.index-r.result.now) c.self.view_is here) c.applier_step.ensures.ready;
    }
