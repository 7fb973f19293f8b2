use Rattle.std.proofs.Common.{◌<◌, length, subst, sym}
use Rattle.server_model.proofs.Prelude.{World, befallen}
use Rattle.server_model.proofs.Lists.{slice_get-index}
use Rattle.server_model.proofs.Changed.{moved-befallen, AreGtids-untouched, IsKept-moved, befallen-left}
use Rattle.server_model.proofs.OwnCounts.{own-still}
use Rattle.server_model.proofs.world.World.befall.Goals as goal

pub invariant_of-self : goal.invariant_of-self
invariant_of-self c =
    let within : c.args.no.0 < length c.self.inside.servers.items = subst (λ (w : World). c.args.no.0 < length w.servers) (sym c.self.view_is) c.requires in
    let here = slice_get-index c.self.inside.servers.items c.args.no.0 c.index_mut-s.result.now within c.index_mut-s.ensures.value in
    let moved = moved-befallen c.index_mut-s.result.now c.args.event in
    record {
      kept = rw c.befall.ensures
          (IsKept-moved c.self.inside.servers.items c.self.inside.errant c.args.no.0 c.index_mut-s.result.now c.self.invariant.kept here
          _ moved);
      own = rw c.befall.ensures (own-still c.self.inside.servers.items c.self.inside.own.items c.args.no.0 c.index_mut-s.result.now _ c.self.invariant.own here moved.same.history);
      gtids = rw c.befall.ensures (AreGtids-untouched c.self.inside.servers.items c.self.inside.executed.items c.self.inside.purged.items c.self.inside.gtid c.args.no.0 c.index_mut-s.result.now (befallen c.args.event c.index_mut-s.result.now) c.self.invariant.gtids here moved.same);
    }

pub returns : goal.returns
returns c =
    let within : c.args.no.0 < length c.self.inside.servers.items = subst (λ (w : World). c.args.no.0 < length w.servers) (sym c.self.view_is) c.requires in
    befallen-left c.args.self.now c.self.inside.servers.items c.self.inside.gtid c.self.inside.errant c.args.no.0 c.args.event c.index_mut-s.result.now c.befall.new.self c.self.view_is
    (slice_get-index c.self.inside.servers.items c.args.no.0 c.index_mut-s.result.now within c.index_mut-s.ensures.value) c.befall.ensures
