use Rattle.std.proofs.Common.{◌≡◌, ◌<◌, List, length, ap, subst, sym, ◌∙◌, Some, arith, slice_get}
use Rattle.server_model.proofs.Prelude.{Server, World, applier_did, uuids_in}
use Rattle.server_model.proofs.Prelude.applying
use Rattle.server_model.proofs.Applied.{applier-untouched, applied-left, executes-in, Executes, IsKept-applied}
use Rattle.server_model.proofs.Changed.{AreGtids-untouched}
use Rattle.server_model.proofs.ExecutedSets.{AreGtids-took, set-room, uuids_in-set}
use Rattle.server_model.proofs.Lists.{slice_get-index}
use Rattle.server_model.proofs.OwnCounts.{length-own, own-at, own-few, own-still}
use Rattle.server_model.proofs.Takes.{own-took}
use Rattle.server_model.proofs.world.World.apply.Goals.{in-Execute, in_default, After-index_mut-r, In-Execute}
use Rattle.server_model.proofs.world.World.apply.Goals as goal

here-in : (c : After-index_mut-r) → slice_get c.self.inside.servers.items c.args.no.0 ≡ Some c.index_mut-r.result.now
here-in c =
    let within : c.args.no.0 < length c.self.inside.servers.items = subst (λ (w : World). c.args.no.0 < length w.servers) (sym c.self.view_is) c.requires in
    slice_get-index c.self.inside.servers.items c.args.no.0 c.index_mut-r.result.now within c.index_mut-r.ensures.value

executes : (c : In-Execute) → slice_get c.self.inside.servers.items c.args.no.0 ≡ Some c.index_mut-r.result.now
    → Executes c.self.inside.servers.items c.index_mut-r.result.now c.in-Execute.t
executes c here =
    executes-in c.args.self.now c.self.inside.servers.items c.self.inside.executed.items c.self.inside.purged.items c.self.inside.gtid c.self.inside.errant c.args.no.0 c.index_mut-r.result.now
    c.in-Execute.t c.in-Execute.field-1 c.apply_step-step.result c.self.view_is here c.self.invariant.gtids c.apply_step-step.ensures.step c.apply_step-step.ensures.ready c.in-Execute.is

pub index_mut-requires : goal.index_mut-requires
index_mut-requires c =
    let within : c.args.no.0 < length c.self.inside.servers.items = subst (λ (w : World). c.args.no.0 < length w.servers) (sym c.self.view_is) c.requires in
    let count = length-own c.self.inside.servers.items c.self.inside.own.items c.self.invariant.own in
    let long = c.self.inside.own.ok.0 in
    omega (arith, within, count, long)

pub overflow_add-index_mut : goal.overflow_add-index_mut
overflow_add-index_mut c =
    let servers = c.self.inside.servers.items in
    let own = c.self.inside.own.items in
    let here = here-in (goal.at.overflow_add-index_mut c).After-index_mut-r in
    let within : c.args.no.0 < length c.self.inside.servers.items = subst (λ (w : World). c.args.no.0 < length w.servers) (sym c.self.view_is) c.requires in
    let beyond : c.args.no.0 < length own = let count = length-own servers own c.self.invariant.own in omega (arith, within, count) in
    let at = slice_get-index own c.args.no.0 c.index_mut.result.now beyond c.index_mut.ensures.value in
    let few = own-few c.args.no.0 c.index_mut.result.now c.index_mut-r.result.now (own-at servers own c.args.no.0 c.index_mut.result.now c.index_mut-r.result.now c.self.invariant.own here at) in
    let fit = c.self.invariant.kept.fit c.args.no.0 c.index_mut-r.result.now here in
    let high = fit.high in
    let long = fit.within in
    omega (arith, few, high, long, c.own_of.ensures.within)

pub keep_gtid-requires-clause-some : goal.keep_gtid-requires-clause-some
keep_gtid-requires-clause-some c =
    (executes (goal.at.keep_gtid-requires-clause-some c).In-Execute (here-in (goal.at.keep_gtid-requires-clause-some c).After-index_mut-r)).numbered.some

pub keep_gtid-requires-clause-few : goal.keep_gtid-requires-clause-few
keep_gtid-requires-clause-few c =
    let few = (executes (goal.at.keep_gtid-requires-clause-few c).In-Execute (here-in (goal.at.keep_gtid-requires-clause-few c).After-index_mut-r)).numbered.few in
    omega (arith, few)

pub keep_gtid-requires-clause-room : goal.keep_gtid-requires-clause-room
keep_gtid-requires-clause-room c =
    let r = c.index_mut-r.result.now in
    let e = c.index_mut-executed.result.now in
    let here = here-in (goal.at.keep_gtid-requires-clause-room c).After-index_mut-r in
    let within : c.args.no.0 < length c.self.inside.servers.items = subst (λ (w : World). c.args.no.0 < length w.servers) (sym c.self.view_is) c.requires in
    let beyond : c.args.no.0 < length c.self.inside.executed.items = let count = c.self.invariant.gtids.paired in omega (arith, within, count) in
    let beside = slice_get-index c.self.inside.executed.items c.args.no.0 e beyond c.index_mut-executed.ensures.value in
    set-room c.self.inside.gtid (uuids_in c.self.inside.servers.items) r e (c.self.invariant.gtids.kept c.args.no.0 r e here beside)
    (executes (goal.at.keep_gtid-requires-clause-room c).In-Execute here).room

pub invariant_of-self : goal.invariant_of-self
invariant_of-self c =
    let servers = c.self.inside.servers.items in
    let own = c.self.inside.own.items in
    let n = c.args.no.0 in
    let r = c.index_mut-r.result.now in
    let e = c.index_mut-executed.result.now in
    let t = c.in-Execute.t in
    let step = c.apply_step-step.result in
    let here = here-in (goal.at.invariant_of-self c).After-index_mut-r in
    let executes = executes (goal.at.invariant_of-self c).In-Execute here in
    let within : c.args.no.0 < length c.self.inside.servers.items = subst (λ (w : World). c.args.no.0 < length w.servers) (sym c.self.view_is) c.requires in
    let beyond : n < length own = let count = length-own servers own c.self.invariant.own in omega (arith, within, count) in
    let past : n < length c.self.inside.executed.items = let count = c.self.invariant.gtids.paired in omega (arith, within, count) in
    let count = slice_get-index own n c.index_mut.result.now beyond c.index_mut.ensures.value in
    let beside = slice_get-index c.self.inside.executed.items n e past c.index_mut-executed.ensures.value in
    let did : applier_did step r ≡ applier_did (applying.Execute t c.in-Execute.field-1) r = ap (λ x. applier_did x r) c.in-Execute.is in
    let uuid : c.uuid_of-uuid.result ≡ uuids_in servers t.origin.0 =
    c.uuid_of-uuid.ensures ∙ ap (λ (ss : List Server). uuids_in ss t.origin.0) c.deref.ensures.value
    ∙ uuids_in-set servers n r c.apply.new.self here (ap (λ (s : Server). s.settings) (c.apply.ensures ∙ did)) t.origin.0 in
    record {
      kept = rw c.apply.ensures
          (IsKept-applied servers c.self.inside.gtid c.self.inside.errant n r here c.args.self.now step c.self.view_is c.apply_step-step.ensures.step c.apply_step-step.ensures.ready c.self.invariant.kept);
      own = rw (c.apply.ensures, did) (own-took servers own n c.index_mut.result.now c.own_of.result r t c.in-Execute.field-1 c.self.invariant.own here count c.own_of.ensures.value);
      gtids = rw (c.apply.ensures, did, c.keep_gtid.ensures)
          (AreGtids-took servers c.self.inside.executed.items c.self.inside.purged.items c.self.inside.gtid n r e t c.in-Execute.field-1 c.uuid_of-uuid.result c.self.invariant.gtids here beside
          executes.numbered uuid (c.self.invariant.kept.fit n r here) executes.some);
    }

pub invariant_of-self-in_default : goal.invariant_of-self-in_default
invariant_of-self-in_default c =
    let servers = c.self.inside.servers.items in
    let r = c.index_mut-r.result.now in
    let step = c.apply_step-step.result in
    let here = here-in (goal.at.invariant_of-self-in_default c).After-index_mut-r in
    let same = applier-untouched step r c.in_default.not-Execute in
    rw c.apply.ensures
    (record {
      kept = IsKept-applied servers c.self.inside.gtid c.self.inside.errant c.args.no.0 r here c.args.self.now step c.self.view_is c.apply_step-step.ensures.step c.apply_step-step.ensures.ready c.self.invariant.kept;
      own = own-still servers c.self.inside.own.items c.args.no.0 r (applier_did step r) c.self.invariant.own here same.history;
      gtids = AreGtids-untouched servers c.self.inside.executed.items c.self.inside.purged.items c.self.inside.gtid c.args.no.0 r (applier_did step r) c.self.invariant.gtids here same;
    })

pub returns-clause-world : goal.returns-clause-world
returns-clause-world c =
    let within : c.args.no.0 < length c.self.inside.servers.items = subst (λ (w : World). c.args.no.0 < length w.servers) (sym c.self.view_is) c.requires in
    let here = slice_get-index c.self.inside.servers.items c.args.no.0 c.index_mut-r.result.now within c.index_mut-r.ensures.value in
    let left = applied-left c.self.inside.servers.items c.self.inside.gtid c.self.inside.errant c.args.no.0 c.index_mut-r.result.now here c.args.self.now c.apply_step-step.result c.self.view_is c.apply_step-step.ensures.step in
    elim c.match-step.branch [
      | in-Execute w ↦ w.self-is ∙ rw c.apply.ensures left
      | in_default w ↦ w.self-is ∙ rw c.apply.ensures left
    ]
