use Rattle.std.proofs.Common.{◌<◌, length, subst, sym}
use Rattle.server_model.proofs.Prelude.{World, receiver_did}
use Rattle.server_model.proofs.Changed.{AreGtids-untouched}
use Rattle.server_model.proofs.Fetched.{receiver-untouched, fetched-left, IsKept-fetched}
use Rattle.server_model.proofs.Lists.{slice_get-index}
use Rattle.server_model.proofs.OwnCounts.{own-still}
use Rattle.server_model.proofs.world.World.fetch.Goals as goal

pub invariant_of-self : goal.invariant_of-self
invariant_of-self c =
    let servers = c.self.inside.servers.items in
    let r = c.index_mut-r.result.now in
    let step = c.fetch_step-step.result in
    let within : c.args.no.0 < length servers = subst (λ (w : World). c.args.no.0 < length w.servers) (sym c.self.view_is) c.requires in
    let here = slice_get-index servers c.args.no.0 r within c.index_mut-r.ensures.value in
    let same = receiver-untouched step r in
    rw c.receive.ensures
    (record {
      kept = IsKept-fetched servers c.self.inside.gtid c.self.inside.errant c.args.no.0 r here c.args.self.now step c.self.view_is c.fetch_step-step.ensures c.self.invariant.kept;
      own = own-still servers c.self.inside.own.items c.args.no.0 r (receiver_did step r) c.self.invariant.own here same.history;
      gtids = AreGtids-untouched servers c.self.inside.executed.items c.self.inside.purged.items c.self.inside.gtid c.args.no.0 r (receiver_did step r) c.self.invariant.gtids here same;
    })

pub returns-clause-world : goal.returns-clause-world
returns-clause-world c =
    let servers = c.self.inside.servers.items in
    let r = c.index_mut-r.result.now in
    let within : c.args.no.0 < length servers = subst (λ (w : World). c.args.no.0 < length w.servers) (sym c.self.view_is) c.requires in
    let here = slice_get-index servers c.args.no.0 r within c.index_mut-r.ensures.value in
    rw c.receive.ensures
    (fetched-left servers c.self.inside.gtid c.self.inside.errant c.args.no.0 r here c.args.self.now c.fetch_step-step.result c.self.view_is c.fetch_step-step.ensures)
