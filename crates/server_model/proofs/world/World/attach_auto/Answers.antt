use Rattle.std.proofs.Common.{◌≡◌, ◌<◌, length, Some, subst, sym, ap, ◌∙◌, refl, true, slice_get}
use Rattle.server_model.proofs.Prelude.{World, attached_auto, has_place, server_at, uuids}
use Rattle.server_model.proofs.Lists.{slice_get-index}
use Rattle.server_model.proofs.Changed.{IsKept-attached}
use Rattle.server_model.proofs.AutoAttached.{auto-apart, auto-placed, auto-coord-at, auto-left}
use Rattle.server_model.proofs.ExecutedSets.{AreGtids-still}
use Rattle.server_model.proofs.OwnCounts.{own-still}
use Rattle.server_model.proofs.world.World.attach_auto.Goals as goal

pub invariant_of-self : goal.invariant_of-self
invariant_of-self c =
    let within : c.args.no.0 < length c.self.inside.servers.items = subst (λ (w : World). c.args.no.0 < length w.servers) (sym c.self.view_is) c.requires.server in
    let here = slice_get-index c.self.inside.servers.items c.args.no.0 c.index_mut-s.result.now within c.index_mut-s.ensures.value in
    let target = c.requires.target.target in
    let there : slice_get c.self.inside.servers.items c.args.to.0 ≡ Some target = subst (λ (w : World). server_at w c.args.to.0 ≡ Some target) (sym c.self.view_is) c.requires.target.there in
    let at = auto-coord-at c.args.self.now c.args.no.0 c.args.to.0 c.in_ok-at.at c.index_mut-s.result.now target
    (subst (λ (w : World). server_at w c.args.no.0 ≡ Some c.index_mut-s.result.now) c.self.view_is here) c.requires.target.there c.in_ok-at.ensures.place in
    let placed : has_place target.log.log c.in_ok-at.at ≡ true =
    ap (has_place target.log.log) at
    ∙ auto-placed (uuids c.args.self.now) c.index_mut-s.result.now target (c.self.invariant.kept.fit c.args.to.0 target there) (c.self.invariant.gtids.logged c.args.to.0 target there c.requires.target.logs) in
    let apart = auto-apart c.args.self.now c.self.inside.servers.items c.self.inside.gtid c.self.inside.errant c.args.no.0 c.args.observed.now c.args.to.0 c.index_mut-s.result.now c.self.view_is here
    c.in_ok-at.ensures.answer in
    record {
      kept = rw c.attach_auto.ensures
          (IsKept-attached true c.self.inside.servers.items c.self.inside.errant c.args.no.0 c.index_mut-s.result.now c.args.to c.in_ok-at.at target
          c.self.invariant.kept here there placed apart);
      own = rw c.attach_auto.ensures
          (own-still c.self.inside.servers.items c.self.inside.own.items c.args.no.0 c.index_mut-s.result.now (attached_auto c.args.to c.in_ok-at.at c.index_mut-s.result.now) c.self.invariant.own here refl);
      gtids = rw c.attach_auto.ensures
          (AreGtids-still c.self.inside.servers.items c.self.inside.executed.items c.self.inside.purged.items c.self.inside.gtid c.args.no.0 c.index_mut-s.result.now
          (attached_auto c.args.to c.in_ok-at.at c.index_mut-s.result.now) c.self.invariant.gtids here refl refl refl refl);
    }

pub returns-clause-world : goal.returns-clause-world
returns-clause-world c =
    let within : c.args.no.0 < length c.self.inside.servers.items = subst (λ (w : World). c.args.no.0 < length w.servers) (sym c.self.view_is) c.requires.server in
    auto-left c.args.self.now c.self.inside.servers.items c.self.inside.gtid c.self.inside.errant c.args.no.0 c.args.to c.in_ok-at.at c.index_mut-s.result.now c.attach_auto.new.self c.self.view_is
    (slice_get-index c.self.inside.servers.items c.args.no.0 c.index_mut-s.result.now within c.index_mut-s.ensures.value) c.in_ok-at.ensures.place c.attach_auto.ensures
