use Rattle.std.proofs.Common.{◌≡◌, ◌<◌, length, Some, subst, sym, ◌∙◌}
use Rattle.server_model.proofs.Prelude.{World, asked, server_at}
use Rattle.server_model.proofs.Lists.{slice_get-index}
use Rattle.server_model.proofs.Changed.{moved-asked, AreGtids-untouched, IsKept-moved, desk-reached, desk-unreached, asked-left, unasked-left}
use Rattle.server_model.proofs.OwnCounts.{own-still}
use Rattle.server_model.proofs.world.World.ask.Goals as goal

pub returns-then-not-is_reachable-clause-world : goal.returns-then-not-is_reachable-clause-world
returns-then-not-is_reachable-clause-world c =
    let within : c.args.no.0 < length c.self.inside.servers.items = subst (λ (w : World). c.args.no.0 < length w.servers) (sym c.self.view_is) c.requires in
    let here = slice_get-index c.self.inside.servers.items c.args.no.0 c.index_mut-s.result.now within c.index_mut-s.ensures.value in
    let at = subst (λ (w : World). server_at w c.args.no.0 ≡ Some c.index_mut-s.result.now) c.self.view_is here in
    unasked-left c.args.self.now c.self.inside.servers.items c.self.inside.gtid c.self.inside.errant c.args.no.0 c.args.ask c.index_mut-s.result.now c.self.view_is here
    (desk-unreached c.args.self.now c.args.no.0 c.index_mut-s.result.now at (sym c.is_reachable.ensures ∙ c.if-not-is_reachable.true))

pub invariant_of-self-2 : goal.invariant_of-self-2
invariant_of-self-2 c =
    let within : c.args.no.0 < length c.self.inside.servers.items = subst (λ (w : World). c.args.no.0 < length w.servers) (sym c.self.view_is) c.requires in
    let here = slice_get-index c.self.inside.servers.items c.args.no.0 c.index_mut-s.result.now within c.index_mut-s.ensures.value in
    let moved = moved-asked c.index_mut-s.result.now c.args.ask in
    record {
      kept = rw c.ask.ensures
          (IsKept-moved c.self.inside.servers.items c.self.inside.errant c.args.no.0 c.index_mut-s.result.now c.self.invariant.kept here
          _ moved);
      own = rw c.ask.ensures (own-still c.self.inside.servers.items c.self.inside.own.items c.args.no.0 c.index_mut-s.result.now _ c.self.invariant.own here moved.same.history);
      gtids = rw c.ask.ensures (AreGtids-untouched c.self.inside.servers.items c.self.inside.executed.items c.self.inside.purged.items c.self.inside.gtid c.args.no.0 c.index_mut-s.result.now (asked c.args.ask c.index_mut-s.result.now) c.self.invariant.gtids here moved.same);
    }

pub returns : goal.returns
returns c =
    let within : c.args.no.0 < length c.self.inside.servers.items = subst (λ (w : World). c.args.no.0 < length w.servers) (sym c.self.view_is) c.requires in
    let here = slice_get-index c.self.inside.servers.items c.args.no.0 c.index_mut-s.result.now within c.index_mut-s.ensures.value in
    record {
      answer =
          sym (desk-reached c.args.self.now c.args.no.0 c.index_mut-s.result.now (subst (λ (w : World). server_at w c.args.no.0 ≡ Some c.index_mut-s.result.now) c.self.view_is here)
          (sym c.is_reachable.ensures ∙ c.if-not-is_reachable.false));
      world =
          asked-left c.args.self.now c.self.inside.servers.items c.self.inside.gtid c.self.inside.errant c.args.no.0 c.args.ask c.index_mut-s.result.now c.ask.new.self c.self.view_is here c.ask.ensures
          (desk-reached c.args.self.now c.args.no.0 c.index_mut-s.result.now (subst (λ (w : World). server_at w c.args.no.0 ≡ Some c.index_mut-s.result.now) c.self.view_is here)
          (sym c.is_reachable.ensures ∙ c.if-not-is_reachable.false));
    }
