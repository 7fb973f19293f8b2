use Rattle.std.proofs.Common.{◌≡◌, ℕ, ◌<◌, ◌≤◌, List, Option, Some, true, length, refl, arith, ap, subst, sym, ◌∙◌, All, IsSomeAnd, slice_get, slice_range, slice_set}
use Rattle.server_model.proofs.Prelude.{IsNumbered, Server, Txn, World, length-set, purged_len, same_Some, server_at, server_of, uuids_in}
use Rattle.server_model.proofs.Changed.{IsKept-purged, purged-left}
use Rattle.server_model.proofs.ExecutedSets.{purged_with, purge-room, uuids_in-set, AreGtids-purged}
use Rattle.server_model.proofs.Lists.{set_same, slice_get-index}
use Rattle.server_model.proofs.OwnCounts.{own-still}
use Rattle.server_model.proofs.PurgedFiles.{from_file, newly_purged, purged_len-later, purged_len-rises}
use Rattle.server_model.proofs.world.World.keep_from.Goals.{After-s-2}
use Rattle.server_model.proofs.world.World.keep_from.Goals as goal

-- the server is there and logs, its history is as it was, and both counts are those of its log
record Known (c : After-s-2) : Type 0 where
  here : slice_get c.self.inside.servers.items c.args.no.0 ≡ Some c.index_mut-s.result.now
  logs : c.index_mut-s.result.now.settings.logs ≡ true
  low : c.index_mut-s.result.now.first ≤ c.args.first
  high : c.args.first ≤ c.index_mut-s.result.now.log.log.files
  from : c.purged_len-from.result ≡ purged_len c.index_mut-s.result.now
  to : c.purged_len-to.result ≡ purged_len (from_file c.args.first c.index_mut-s.result.now)
  txns : c.s-2.inside.log.txns ≡ c.index_mut-s.result.now.history.txns
  beside : slice_get c.self.inside.purged.items c.args.no.0 ≡ Some c.index_mut-purged.result.now
  count : length c.deref.result.now ≡ length c.self.inside.servers.items

known : (c : After-s-2) → Known c
known c =
    let servers = c.self.inside.servers.items in
    let n = c.args.no.0 in
    let s = c.index_mut-s.result.now in
    let changed = from_file c.args.first (server_of c.s.inside) in
    let within : n < length servers = subst (λ (w : World). n < length w.servers) (sym c.self.view_is) c.requires.server in
    let here = slice_get-index servers n s within c.index_mut-s.ensures.value in
    let at = subst (λ (w : World). server_at w n ≡ Some s) c.self.view_is here in
    let file = subst (λ (o : Option Server). IsSomeAnd o (λ x. (x.first ≤ c.args.first) × (c.args.first ≤ x.log.log.files))) at c.requires.file in
    let beyond : n < length (slice_set servers n changed) = omega (arith, within, length-set servers n changed) in
    let past : n < length c.self.inside.purged.items = (let e = c.self.invariant.gtids.purged_paired in omega (arith, within, e)) in
    let there = slice_get-index (slice_set servers n changed) n c.index-s.result.now beyond c.index-s.ensures in
    let same = same_Some c.index-s.result.now changed (sym there ∙ set_same servers n s changed here) in
    record {
      here = here;
      logs = subst (λ (o : Option Server). IsSomeAnd o (λ x. x.settings.logs ≡ true)) at c.requires.logs;
      low = file.0;
      high = file.1;
      from = c.purged_len-from.ensures;
      to = c.purged_len-to.ensures ∙ ap (λ (x : Server). purged_len (from_file c.args.first x)) c.s.view_is;
      txns = ap (λ (x : Server). x.history.txns) (c.s-2.view_is ∙ same ∙ ap (from_file c.args.first) c.s.view_is);
      beside = slice_get-index c.self.inside.purged.items n c.index_mut-purged.result.now past c.index_mut-purged.ensures.value;
      count = ap length c.deref.ensures.value ∙ length-set servers n changed;
    }

pub keep_gtids-requires-clause-numbered : goal.keep_gtids-requires-clause-numbered
keep_gtids-requires-clause-numbered c =
    let k = known (goal.at.keep_gtids-requires-clause-numbered c).After-s-2 in
    subst (λ (ts : List Txn). All (IsNumbered (length c.deref.result.now)) ts) (sym k.txns)
    (subst (λ (m : ℕ). All (IsNumbered m) c.index_mut-s.result.now.history.txns) (sym k.count)
    (c.self.invariant.gtids.numbered c.args.no.0 c.index_mut-s.result.now k.here))

pub keep_gtids-requires-clause-order : goal.keep_gtids-requires-clause-order
keep_gtids-requires-clause-order c =
    let k = known (goal.at.keep_gtids-requires-clause-order c).After-s-2 in
    let s = c.index_mut-s.result.now in
    let fit = c.self.invariant.kept.fit c.args.no.0 s k.here in
    omega (arith, k.from, k.to, purged_len-rises s c.args.first fit.kept.low k.low k.high)

pub keep_gtids-requires-clause-within : goal.keep_gtids-requires-clause-within
keep_gtids-requires-clause-within c =
    let k = known (goal.at.keep_gtids-requires-clause-within c).After-s-2 in
    let s = c.index_mut-s.result.now in
    let fit = c.self.invariant.kept.fit c.args.no.0 s k.here in
    rw k.txns (omega (arith, k.to, purged_len-later s c.args.first fit k.low k.high))

pub keep_gtids-requires-clause-room : goal.keep_gtids-requires-clause-room
keep_gtids-requires-clause-room c =
    let k = known (goal.at.keep_gtids-requires-clause-room c).After-s-2 in
    let s = c.index_mut-s.result.now in
    let e = c.index_mut-purged.result.now in
    let fit = c.self.invariant.kept.fit c.args.no.0 s k.here in
    let rises = purged_len-rises s c.args.first fit.kept.low k.low k.high in
    λ on.
    rw (k.from, k.to)
    (purge-room c.self.inside.gtid (uuids_in c.self.inside.servers.items) s e c.args.first fit (c.self.invariant.gtids.purges c.args.no.0 s e k.here k.beside) k.low k.high rises on)

pub invariant_of-self : goal.invariant_of-self
invariant_of-self c =
    let k = known (goal.at.invariant_of-self c).After-s-2 in
    let servers = c.self.inside.servers.items in
    let n = c.args.no.0 in
    let first = c.args.first in
    let s = c.index_mut-s.result.now in
    let e = c.index_mut-purged.result.now in
    let fit = c.self.invariant.kept.fit n s k.here in
    let rises = purged_len-rises s first fit.kept.low k.low k.high in
    let changed : from_file first (server_of c.s.inside) ≡ from_file first s = ap (from_file first) c.s.view_is in
    let same : (m : ℕ) → uuids_in c.deref.result.now m ≡ uuids_in servers m =
    λ m. ap (λ (ss : List Server). uuids_in ss m) c.deref.ensures.value ∙ uuids_in-set servers n s (from_file first (server_of c.s.inside)) k.here (ap (λ (x : Server). x.settings) c.s.view_is) m in
    let newly : slice_range c.s-2.inside.log.txns c.purged_len-from.result c.purged_len-to.result ≡ newly_purged first s =
    ap (λ (ts : List Txn). slice_range ts c.purged_len-from.result c.purged_len-to.result) k.txns
    ∙ ap (λ m. slice_range s.history.txns m c.purged_len-to.result) k.from ∙ ap (λ m. slice_range s.history.txns (purged_len s) m) k.to in
    let kept : c.keep_gtids.new.kept ≡ purged_with c.self.inside.gtid (uuids_in c.deref.result.now) (newly_purged first s) e =
    c.keep_gtids.ensures ∙ ap (λ (ts : List Txn). purged_with c.self.inside.gtid (uuids_in c.deref.result.now) ts e) newly in
    rw changed
    (record {
      kept = IsKept-purged servers c.self.inside.errant n s c.self.invariant.kept k.here first k.low k.high k.logs;
      own = own-still servers c.self.inside.own.items n s (from_file first s) c.self.invariant.own k.here refl;
      gtids = rw kept
          (AreGtids-purged servers c.self.inside.executed.items c.self.inside.purged.items c.self.inside.gtid n s e first (uuids_in c.deref.result.now) c.self.invariant.gtids k.here k.beside same rises);
    })

pub returns : goal.returns
returns c =
    let first = c.args.first in
    let s = c.index_mut-s.result.now in
    let here = (known (goal.at.returns c).After-s-2).here in
    let changed : from_file first (server_of c.s.inside) ≡ from_file first s = ap (from_file first) c.s.view_is in
    rw changed (purged-left c.args.self.now c.self.inside.servers.items c.self.inside.gtid c.self.inside.errant c.args.no.0 first s c.self.view_is here)
