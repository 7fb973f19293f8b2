use Rattle.std.proofs.Common.{◌<◌, ◌∙◌, false, length, refl, subst, sym}
use Rattle.server_model.proofs.Prelude.{World, attached_to}
use Rattle.server_model.proofs.Lists.{slice_get-index}
use Rattle.server_model.proofs.Changed.{IsKept-attached, joined-apart, target-in, attached-left}
use Rattle.server_model.proofs.ExecutedSets.{AreGtids-still}
use Rattle.server_model.proofs.OwnCounts.{own-still}
use Rattle.server_model.proofs.world.World.attach_at.Goals as goal

pub invariant_of-self : goal.invariant_of-self
invariant_of-self c =
    let within : c.args.no.0 < length c.self.inside.servers.items = subst (λ (w : World). c.args.no.0 < length w.servers) (sym c.self.view_is) c.requires.server in
    let here = slice_get-index c.self.inside.servers.items c.args.no.0 c.index_mut-s.result.now within c.index_mut-s.ensures.value in
    let target = target-in c.args.self.now c.self.inside.servers.items c.self.inside.gtid c.self.inside.errant c.args.to.0 c.args.at c.self.view_is c.requires.target in
    let apart = joined-apart c.args.self.now c.self.inside.servers.items c.self.inside.gtid c.self.inside.errant c.args.no.0 c.args.expect c.args.to.0 c.args.at c.index_mut-s.result.now c.self.view_is here
    (sym c.in-Ok.is ∙ c.test_attach_at.ensures) in
    record {
      kept = rw c.attach.ensures
          (IsKept-attached false c.self.inside.servers.items c.self.inside.errant c.args.no.0 c.index_mut-s.result.now c.args.to c.args.at target.0
          c.self.invariant.kept here target.1 target.2 apart);
      own = rw c.attach.ensures
          (own-still c.self.inside.servers.items c.self.inside.own.items c.args.no.0 c.index_mut-s.result.now (attached_to c.args.to c.args.at c.index_mut-s.result.now) c.self.invariant.own here refl);
      gtids = rw c.attach.ensures (AreGtids-still c.self.inside.servers.items c.self.inside.executed.items c.self.inside.purged.items c.self.inside.gtid c.args.no.0 c.index_mut-s.result.now (attached_to c.args.to c.args.at c.index_mut-s.result.now) c.self.invariant.gtids here refl refl refl refl);
    }

pub returns-clause-world : goal.returns-clause-world
returns-clause-world c =
    let within : c.args.no.0 < length c.self.inside.servers.items = subst (λ (w : World). c.args.no.0 < length w.servers) (sym c.self.view_is) c.requires.server in
    attached-left c.args.self.now c.self.inside.servers.items c.self.inside.gtid c.self.inside.errant c.args.no.0 c.args.to c.args.at c.index_mut-s.result.now c.attach.new.self c.self.view_is
    (slice_get-index c.self.inside.servers.items c.args.no.0 c.index_mut-s.result.now within c.index_mut-s.ensures.value) c.attach.ensures
