use Rattle.std.proofs.Common.{◌≡◌, ◌+◌, ◌<◌, length, refl, Some, ap, arith, subst, sym, ◌∙◌, slice_get}
use Rattle.server_model.proofs.Prelude.{Server, World, count_own, eq-eqb, own_txn, server_at, uuids_in}
use Rattle.server_model.proofs.Answered.{write-answered, write-left}
use Rattle.server_model.proofs.ExecutedSets.{AreGtids-took, set-room, uuids_in-at}
use Rattle.server_model.proofs.Lists.{slice_get-index}
use Rattle.server_model.proofs.OwnCounts.{length-own, own-at, own-few}
use Rattle.server_model.proofs.Takes.{errant-small, own-numbered, own-took, IsKept-write}
use Rattle.server_model.proofs.world.World.write.Goals.{After-index}
use Rattle.server_model.proofs.world.World.write.Goals as goal

-- the server is there, and this is its count
record Counts (c : After-index) : Type 0 where
  here : slice_get c.self.inside.servers.items c.args.no.0 ≡ Some c.index_mut-s.result.now
  at : slice_get c.self.inside.own.items c.args.no.0 ≡ Some c.index.result.now
  count : c.index.result.now ≡ count_own c.args.no.0 c.index_mut-s.result.now.history.txns

counts : (c : After-index) → Counts c
counts c =
    let servers = c.self.inside.servers.items in
    let own = c.self.inside.own.items in
    let n = c.args.no.0 in
    let s = c.index_mut-s.result.now in
    let within : n < length servers = subst (λ (w : World). n < length w.servers) (sym c.self.view_is) c.requires.server in
    let beyond : n < length own = let long = length-own servers own c.self.invariant.own in omega (arith, within, long) in
    let here = slice_get-index servers n s within c.index_mut-s.ensures.value in
    let at = slice_get-index own n c.index.result.now beyond c.index.ensures in
    record { here = here; at = at; count = own-at servers own n c.index.result.now s c.self.invariant.own here at }

-- the history has room
room_left : (c : After-index) → c.len.result < c.room.result → length c.index_mut-s.result.now.history.txns < c.index_mut-s.result.now.history.room
room_left c left =
    let count = ap (λ (x : Server). length x.history.txns) c.s.view_is in
    let room = ap (λ (x : Server). x.history.room) c.s.view_is in
    omega (arith, count, room, c.len.ensures.txns, c.room.ensures.room, left)

pub index-requires : goal.index-requires
index-requires c =
    let within : c.args.no.0 < length c.self.inside.servers.items = subst (λ (w : World). c.args.no.0 < length w.servers) (sym c.self.view_is) c.requires.server in
    let count = length-own c.self.inside.servers.items c.self.inside.own.items c.self.invariant.own in
    let long = c.self.inside.own.ok.0 in
    omega (arith, within, count, long)

pub index_mut-requires : goal.index_mut-requires
index_mut-requires c =
    let within : c.args.no.0 < length c.self.inside.servers.items = subst (λ (w : World). c.args.no.0 < length w.servers) (sym c.self.view_is) c.requires.server in
    let count = length-own c.self.inside.servers.items c.self.inside.own.items c.self.invariant.own in
    let long = c.self.inside.own.ok.0 in
    omega (arith, within, count, long)

pub overflow_add-seq : goal.overflow_add-seq
overflow_add-seq c =
    let known = counts (goal.at.overflow_add-seq c).After-index in
    let few = own-few c.args.no.0 c.index.result.now c.index_mut-s.result.now known.count in
    let fit = c.self.invariant.kept.fit c.args.no.0 c.index_mut-s.result.now known.here in
    let high = fit.high in
    let long = fit.within in
    omega (arith, few, high, long)

pub keep_gtid-requires-clause-few : goal.keep_gtid-requires-clause-few
keep_gtid-requires-clause-few c =
    let known = counts (goal.at.keep_gtid-requires-clause-few c).After-index in
    let few = own-few c.args.no.0 c.index.result.now c.index_mut-s.result.now known.count in
    let fit = c.self.invariant.kept.fit c.args.no.0 c.index_mut-s.result.now known.here in
    let high = fit.high in
    let long = fit.within in
    omega (arith, few, high, long)

pub keep_gtid-requires-clause-room : goal.keep_gtid-requires-clause-room
keep_gtid-requires-clause-room c =
    let s = c.index_mut-s.result.now in
    let e = c.index_mut-executed.result.now in
    let here = (counts (goal.at.keep_gtid-requires-clause-room c).After-index).here in
    let within : c.args.no.0 < length c.self.inside.servers.items = subst (λ (w : World). c.args.no.0 < length w.servers) (sym c.self.view_is) c.requires.server in
    let beyond : c.args.no.0 < length c.self.inside.executed.items = let long = c.self.invariant.gtids.paired in omega (arith, within, long) in
    let beside = slice_get-index c.self.inside.executed.items c.args.no.0 e beyond c.index_mut-executed.ensures.value in
    set-room c.self.inside.gtid (uuids_in c.self.inside.servers.items) s e (c.self.invariant.gtids.kept c.args.no.0 s e here beside)
    (room_left (goal.at.keep_gtid-requires-clause-room c).After-index c.if-room-len.false)

pub overflow_add-self : goal.overflow_add-self
overflow_add-self c =
    let few = errant-small c.self.inside.servers.items c.self.inside.errant c.self.invariant.kept in
    omega (arith, few, c.errant_writes.ensures.within)

pub invariant_of-self-2 : goal.invariant_of-self-2
invariant_of-self-2 c =
    let servers = c.self.inside.servers.items in
    let n = c.args.no.0 in
    let s = c.index_mut-s.result.now in
    let e = c.index_mut-executed.result.now in
    let k = c.index.result.now in
    let t = own_txn n (k + 1) c.args.size in
    let known = counts (goal.at.invariant_of-self-2 c).After-index in
    let within : c.args.no.0 < length c.self.inside.servers.items = subst (λ (w : World). c.args.no.0 < length w.servers) (sym c.self.view_is) c.requires.server in
    let past : n < length c.self.inside.executed.items = let long = c.self.invariant.gtids.paired in omega (arith, within, long) in
    let beside = slice_get-index c.self.inside.executed.items n e past c.index_mut-executed.ensures.value in
    let room : length s.history.txns < s.history.room = room_left (goal.at.invariant_of-self-2 c).After-index c.if-room-len.false in
    let fit = c.self.invariant.kept.fit n s known.here in
    record {
      kept = rw c.take.ensures
          (IsKept-write servers c.self.inside.errant (c.self.inside.errant + c.errant_writes.result) n s t c.self.invariant.kept known.here room c.requires.some c.requires.size
          (omega (arith, c.errant_writes.ensures.within)));
      own = rw c.take.ensures (own-took servers c.self.inside.own.items n k 1 s t s.exec c.self.invariant.own known.here known.at (rw (eq-eqb n n refl)));
      gtids = rw (c.take.ensures, c.keep_gtid.ensures)
          (AreGtids-took servers c.self.inside.executed.items c.self.inside.purged.items c.self.inside.gtid n s e t s.exec c.s.inside.settings.uuid c.self.invariant.gtids known.here beside
          (own-numbered servers n k c.args.size s fit known.here known.count room) (ap (λ (x : Server). x.settings.uuid) c.s.view_is ∙ sym (uuids_in-at servers n s known.here)) fit c.requires.some);
    }

pub returns-clause-answer : goal.returns-clause-answer
returns-clause-answer c =
    let known = counts (goal.at.returns-clause-answer c).After-index in
    write-answered c.args.self.now c.args.no.0 c.index.result.now c.index_mut-s.result.now
    (subst (λ (w : World). server_at w c.args.no.0 ≡ Some c.index_mut-s.result.now) c.self.view_is known.here)
    (ap (λ (x : Server). x.up) (sym c.s.view_is) ∙ c.if-not-s.false) (ap (λ (x : Server). x.read_only) (sym c.s.view_is) ∙ c.if-s.false)
    (room_left (goal.at.returns-clause-answer c).After-index c.if-room-len.false) known.count

pub returns-clause-world : goal.returns-clause-world
returns-clause-world c =
    write-left c.args.self.now c.self.inside.servers.items c.self.inside.gtid c.self.inside.errant c.errant_writes.result c.args.no.0 c.args.size c.index.result.now
    c.index_mut-s.result.now c.take.new.self c.self.view_is (counts (goal.at.returns-clause-world c).After-index).here
    c.take.ensures c.errant_writes.ensures.value
