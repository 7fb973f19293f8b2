-- Each exchange in order keeps `IsTrim` of a world.
use Rattle.std.proofs.Common.{◌≡◌, ℕ, ◌+◌, ◌<◌, ◌≤◌, Bool, true, false, not, cond, List, [], ◌∷◌, ◌++◌, length, length-append, refl, sym, ◌∙◌, ap, subst, inl, inr, ◌⊎◌, Option, Some, None, Ok, Err, arith, ◌&&◌, ◌||◌, slice_get, nat_le, nat_lt, ◌==◌}
use Rattle.tidy_laws.proofs.Prelude.{All-push, AllAllowed, AllOrderly, Allowed, AreAlike, Ask, Asked, Becomes, Befallen, Clusters, Coord, Event}
use Rattle.tidy_laws.proofs.Prelude.{Exchange, HasOwnOf, HasSize, Index, IsOrderly, IsOrderlyAsk, IsTrim, Leaves, Next, ReplicatesOf, Server}
use Rattle.tidy_laws.proofs.Prelude.{ServerNo, SourceState, Spot, Txn, Without, World, after, appended, applied, apply_from, apply_step, apply_txn}
use Rattle.tidy_laws.proofs.Prelude.{at_with_other, at_with_same, attach_answer, attached_at, cases_eq, chain_meets, cluster_in, cond-false}
use Rattle.tidy_laws.proofs.Prelude.{cond-true, false≢true, fetch_from, fetch_step, files-push, first_kept, flush, holds, is_attached, label, leaves}
use Rattle.tidy_laws.proofs.Prelude.{length-push, live_spot, nat_tests, next_after, opened, own_txn, purged_answer, push, rotate_answer, run}
use Rattle.tidy_laws.proofs.Prelude.{same_Some, same_spot, server_at, source_no, spot_below, step_from, took, with_server, write_answer}
use Rattle.tidy_laws.proofs.Prelude.Exchanges.{is_reached}
use Rattle.tidy_laws.proofs.Prelude.applying
use Rattle.tidy_laws.proofs.Prelude.attaching
use Rattle.tidy_laws.proofs.Prelude.binlog_next as next
use Rattle.tidy_laws.proofs.Prelude.receiving
use Rattle.tidy_laws.proofs.Prelude.rotating
use Rattle.tidy_laws.proofs.Prelude.wrote
use Rattle.tidy_laws.proofs.Prelude.changes
use Rattle.tidy_laws.proofs.Positions.{All-slot}

-- ---- one server changes

trim-with : (c : Clusters) (w : World) (n errant : ℕ) (s s' : Server) → IsTrim c w → server_at w n ≡ Some s → HasOwnOf c n s' → ReplicatesOf c w.gtid n s'
    → IsTrim c (record (with_server w n s') { errant = errant })
trim-with c w n errant s s' trim at own replicates = record { clusters = clusters; own = each-own; replicates = each-replicates }
  where
    clusters : (m : ℕ) → cluster_in (server_at (with_server w n s') m) ≡ c m
    clusters m = elim (cases_eq m n) [
      | inl here ↦ rw here (ap cluster_in (at_with_same w n s s' at) ∙ sym own.cluster)
      | inr apart ↦ ap cluster_in (at_with_other w n s s' at m apart) ∙ trim.clusters m
    ]

    each-own : (m : ℕ) (t : Server) → server_at (with_server w n s') m ≡ Some t → HasOwnOf c m t
    each-own m t h = elim (cases_eq m n) [
      | inl here ↦
          subst (λ (k : ℕ). HasOwnOf c k t) (sym here)
          (subst (λ (x : Server). HasOwnOf c n x) (same_Some s' t (sym (at_with_same w n s s' at) ∙ ap (server_at (with_server w n s')) (sym here) ∙ h)) own)
      | inr apart ↦ trim.own m t (sym (at_with_other w n s s' at m apart) ∙ h)
    ]

    each-replicates : (m : ℕ) (t : Server) → server_at (with_server w n s') m ≡ Some t → ReplicatesOf c w.gtid m t
    each-replicates m t h = elim (cases_eq m n) [
      | inl here ↦
          subst (λ (k : ℕ). ReplicatesOf c w.gtid k t) (sym here)
          (subst (λ (x : Server). ReplicatesOf c w.gtid n x) (same_Some s' t (sym (at_with_same w n s s' at) ∙ ap (server_at (with_server w n s')) (sym here) ∙ h)) replicates)
      | inr apart ↦ trim.replicates m t (sym (at_with_other w n s s' at m apart) ∙ h)
    ]

-- ---- one more transaction

own-took : (c : Clusters) (n : ℕ) (s : Server) (t : Txn) → HasOwnOf c n s → HasSize t → c t.origin.0 ≡ c n → length s.history.txns < s.history.room → HasOwnOf c n (took s t)
own-took c n s t own size home room = record {
  cluster = own.cluster;
  high = own.high;
  within = let e = longer in omega arith;
  entries =
      by_logs (λ i. length i.log.entries ≤ length (s.history.txns ++ t ∷ []))
      (λ l. let e = longer in let f = length-push s.log.log t.size in let g = own.entries in omega arith)
      (λ l. let e = longer in let g = own.entries in omega arith);
  sizes = All-push HasSize s.history.txns t own.sizes size;
  files =
      by_logs (λ i. i.log.files + i.flushes ≤ 4000001 + length i.log.entries)
      (λ l. let e = length-push s.log.log t.size in let f = files-push s.log.log t.size in let g = own.files in omega arith)
      (λ l. own.files);
  limit = by_logs (λ i. i.log.limit ≡ s.settings.limit) (λ l. limit-push ∙ own.limit) (λ l. own.limit);
  unlogged = λ silent.
      by_logs (λ i. i.log ≡ opened s.settings.limit) (λ l. absurd (false≢true (sym silent ∙ l))) (λ l. own.unlogged silent);
  told =
      by_logs (λ i. i.txns ≡ cond s.settings.logs (s.history.txns ++ t ∷ []) [])
      (λ l. ap (λ xs. xs ++ t ∷ []) (own.told ∙ cond-true s.settings.logs s.history.txns [] l) ∙ sym (cond-true s.settings.logs (s.history.txns ++ t ∷ []) [] l))
      (λ l. own.told ∙ cond-false s.settings.logs s.history.txns [] l ∙ sym (cond-false s.settings.logs (s.history.txns ++ t ∷ []) [] l));
  origins = All-push (λ (x : Txn). c x.origin.0 ≡ c n) s.history.txns t own.origins home;
}
  where
    longer : length (s.history.txns ++ t ∷ []) ≡ length s.history.txns + 1
    longer = length-append s.history.txns (t ∷ [])

    by_logs : (P : Index → Type 0) → (s.settings.logs ≡ true → P (record s.log { log = push s.log.log t.size; txns = s.log.txns ++ t ∷ [] })) → (s.settings.logs ≡ false → P s.log) → P (took s t).log
    by_logs P logged unlogged = go s.settings.logs refl
      where
        go : (b : Bool) → s.settings.logs ≡ b → P (cond b (record s.log { log = push s.log.log t.size; txns = s.log.txns ++ t ∷ [] }) s.log)
        go true is = logged is
        go false is = unlogged is

    limit-push : (push s.log.log t.size).limit ≡ s.log.log.limit
    limit-push = go (nat_le s.log.log.limit (s.log.log.pos + t.size))
      where
        go : (b : Bool) → (cond b (flush (appended s.log.log t.size)) (appended s.log.log t.size)).limit ≡ s.log.log.limit
        go true = refl
        go false = refl

-- ---- a write

write-room : (n seq : ℕ) (s : Server) → write_answer n (Some s) ≡ wrote.Done seq → length s.history.txns < s.history.room
write-room n seq s h = go s.up s.read_only (nat_le s.history.room (length s.history.txns)) refl h
  where
    go : (up only full : Bool) → nat_le s.history.room (length s.history.txns) ≡ full
        → cond (not up) wrote.Down (cond only wrote.ReadOnly (cond full wrote.Full (wrote.Done (Rattle.run_laws.specs.OrchBase.Histories.count_own n s.history.txns + 1)))) ≡ wrote.Done seq
        → length s.history.txns < s.history.room
    go true false false is h = grind (arith, nat_tests)
    go _ _ _ is h = cc

-- ---- a fetch

-- a receiver that does something has a source
fetching : (w : World) (r : Server) → r.source ≡ Without → fetch_step w (Some r) ≡ receiving.Halt
fetching w r none = go r.up
  where
    go : (up : Bool) → cond (up && (is_attached r.source && r.receiver)) (fetch_from r (attached_at w r.source)) receiving.Halt ≡ receiving.Halt
    go true = ap (λ (x : SourceState). cond (is_attached x && r.receiver) (fetch_from r (attached_at w x)) receiving.Halt) none
    go false = refl

-- with a read coordinate and a receiver that may have changed
reading : (c : Clusters) (gtid : Bool) (n : ℕ) (r : Server) (read : Coord) (receiver : Bool) → (r.source ≡ Without → ⊥) → ReplicatesOf c gtid n r
    → ReplicatesOf c gtid n (record r { read = read; receiver = receiver })
reading c gtid n r read receiver some old = record { bare = λ none. absurd (some none); auto = old.auto; until = old.until; source = old.source }

-- ---- an apply

-- an applier that does something has a source
applying-not : (w : World) (r : Server) → r.source ≡ Without → apply_step w (Some r) ≡ applying.Halt
applying-not w r none = go r.up
  where
    go : (up : Bool) → cond (not (up && (is_attached r.source && r.applier))) applying.Halt (cond (is_reached r.until r.exec) applying.ForgetUntil (apply_from w.gtid r (attached_at w r.source))) ≡ applying.Halt
    go true = ap (λ (x : SourceState). cond (not (is_attached x && r.applier)) applying.Halt (cond (is_reached r.until r.exec) applying.ForgetUntil (apply_from w.gtid r (attached_at w x)))) none
    go false = refl

moving : (c : Clusters) (gtid : Bool) (n : ℕ) (r : Server) (exec : Coord) → (r.source ≡ Without → ⊥) → ReplicatesOf c gtid n r → ReplicatesOf c gtid n (record r { exec = exec })
moving c gtid n r exec some old = record { bare = λ none. absurd (some none); auto = old.auto; until = old.until; source = old.source }

-- what an applier executes is its source's, and has room
record Executes (r : Server) (s : Server) (t : Txn) : Type 0 where
  index : ℕ
  there : slice_get s.history.txns index ≡ Some t
  room : length r.history.txns < r.history.room

executes : (gtid : Bool) (r s : Server) (x : Next) (t : Txn) (to : Coord) → applied gtid r s x ≡ applying.Execute t to → Executes r s t
executes gtid r s (next.Entry i e) t to h = by (slice_get s.history.txns i) refl h
  where
    by : (o : Option Txn) → slice_get s.history.txns i ≡ o → apply_txn gtid r e o ≡ applying.Execute t to → Executes r s t
    by None at h = cc
    by (Some u) at h = go (gtid && holds u r.history.txns) (nat_le r.history.room (length r.history.txns)) refl h
      where
        go : (a b : Bool) → nat_le r.history.room (length r.history.txns) ≡ b → cond a (applying.Skip e) (cond b applying.NoRoom (applying.Execute u e)) ≡ applying.Execute t to → Executes r s t
        go true b is h = cc
        go false true is h = cc
        go false false is h =
            let same : u ≡ t = cc in
            record { index = i; there = at ∙ ap Some same; room = grind (arith, nat_tests) }
executes gtid r s (next.Rotate e) t to h = cc
executes gtid r s next.End t to h = cc

-- ---- what is asked of a server, and what happens to it

module _ (c : Clusters) (gtid : Bool) (n : ℕ) (s : Server) (old : ReplicatesOf c gtid n s) where
  -- without a source nothing is on
  attached-not : s.source ≡ Without → is_attached s.source ≡ true → ⊥
  attached-not none is = false≢true (sym (ap is_attached none) ∙ is)

  asked-trim : (a : Ask) (t : Server) → Asked s a t → IsOrderlyAsk a → ReplicatesOf c gtid n t
  asked-trim a t changes.Unasked fine = old
  asked-trim a t changes.StopsBoth fine = record {
    bare = λ none. let o = old.bare none in record { exec = o.exec; read = o.read; auto = o.auto; receiver = refl; applier = refl; until = refl };
    auto = old.auto;
    until = tt;
    source = old.source;
  }
  asked-trim a t changes.StopsReceiver fine = record {
    bare = λ none. let o = old.bare none in record { exec = o.exec; read = o.read; auto = o.auto; receiver = refl; applier = o.applier; until = o.until };
    auto = old.auto;
    until = old.until;
    source = old.source;
  }
  asked-trim a t changes.StopsApplier fine = record {
    bare = λ none. let o = old.bare none in record { exec = o.exec; read = o.read; auto = o.auto; receiver = o.receiver; applier = refl; until = refl };
    auto = old.auto;
    until = tt;
    source = old.source;
  }
  asked-trim a t (changes.Starts is) fine = record { bare = λ none. absurd (attached-not none is); auto = old.auto; until = tt; source = old.source }
  asked-trim a t (changes.StartsUntil to is) fine = record { bare = λ none. absurd (attached-not none is); auto = old.auto; until = fine; source = old.source }
  asked-trim a t (changes.Detaches m is) fine = record { bare = λ none. cc; auto = old.auto; until = tt; source = λ k h. old.source k (ap source_no is ∙ h) }
  asked-trim a t (changes.Reattaches m is) fine = record { bare = λ none. cc; auto = old.auto; until = old.until; source = λ k h. old.source k (ap source_no is ∙ h) }
  asked-trim a t changes.Resets fine = record {
    bare = λ none. record { exec = refl; read = refl; auto = refl; receiver = refl; applier = refl; until = refl };
    auto = λ h. absurd (false≢true h);
    until = tt;
    source = λ m h. cc;
  }
  asked-trim a t (changes.Opens on) fine = old

  befallen-trim : (e : Event) (t : Server) → Befallen s e t → ReplicatesOf c gtid n t
  befallen-trim e t (changes.Heals down) = record {
    bare = λ none.
        let o = old.bare none in
        record {
          exec = o.exec;
          read = o.read;
          auto = o.auto;
          receiver = ap (λ (x : SourceState). is_attached x || s.receiver) none ∙ o.receiver;
          applier = ap (λ (x : SourceState). is_attached x || s.applier) none ∙ o.applier;
          until = refl;
        };
    auto = old.auto;
    until = tt;
    source = old.source;
  }
  befallen-trim e t _ = old

-- neither touches what the server has executed, nor its log
own-asked : (c : Clusters) (n : ℕ) (s : Server) → HasOwnOf c n s → (a : Ask) (t : Server) → Asked s a t → HasOwnOf c n t
own-asked c n s own a t changes.Resets = own
own-asked c n s own a t _ = own

own-befallen : (c : Clusters) (n : ℕ) (s : Server) → HasOwnOf c n s → (e : Event) (t : Server) → Befallen s e t → HasOwnOf c n t
own-befallen c n s own e t changes.Unharmed = own
own-befallen c n s own e t _ = own

-- ---- files of the log

record Rotates (s : Server) : Type 0 where
  logs : s.settings.logs ≡ true
  some : 0 < s.log.flushes

rotates : (s : Server) (end : Coord) → rotate_answer (Some s) ≡ rotating.Done end → Rotates s
rotates s end h = go s.up s.settings.logs (s.log.flushes == 0) refl refl h
  where
    go : (up logs none : Bool) → s.settings.logs ≡ logs → (s.log.flushes == 0) ≡ none
        → cond (not up) rotating.Down (cond (not logs) rotating.NotLogging (cond none rotating.Full (rotating.Done (Rattle.run_laws.specs.BinlogCoords.Log.end_of (flush s.log.log))))) ≡ rotating.Done end → Rotates s
    go false logs none l f h = cc
    go true false none l f h = cc
    go true true true l f h = cc
    go true true false l f h = record { logs = l; some = grind (arith, nat_tests) }

-- ---- changes of source

-- an attachment that is made finds its server at the expected position
attach-spot : (w : World) (n : ℕ) (expect : Spot) (to : ℕ) (at : Coord) (s : Server) → attach_answer w n expect to at (Some s) ≡ Ok tt → same_spot expect (live_spot s expect) ≡ true
attach-spot w n expect to at s h = go (s.up && s.desk) (s.receiver || s.applier) (same_spot expect (live_spot s expect)) h
  where
    go : (up busy same : Bool)
        → cond (not up) (Err attaching.Unreachable) (cond busy (Err (attaching.Running (spot_below s s.source))) (cond (not same) (Err (attaching.Interfered expect (live_spot s expect)))
        (cond (chain_meets (Rattle.run_laws.specs.ServerModel.Worlds.sources w) (length w.servers) to n) (Err attaching.Loop) (purged_answer (nat_lt at.file (first_kept (server_at w to))) (first_kept (server_at w to)))))) ≡ Ok tt
        → same ≡ true
    go true false true h = refl
    go _ _ _ h = cc

-- a server that is there, with the label of another one
unlabelled : (c : Clusters) (w : World) (n m : ℕ) (s t : Server) → IsTrim c w → server_at w n ≡ Some s → server_at w m ≡ Some t → AreAlike c m n → c m ≡ c n
unlabelled c w n m s t trim at there alike =
    let one = (trim.own n s at).cluster in
    let other = (trim.own m t there).cluster in
    other ∙ ap Some (sym (ap label other) ∙ alike ∙ ap label one) ∙ sym one

attached-source : (c : Clusters) (n : ℕ) (to : ServerNo) → c to.0 ≡ c n → (m : ℕ) → Some to.0 ≡ Some m → c m ≡ c n
attached-source c n to same m h = ap c (sym (same_Some to.0 m h)) ∙ same

-- ---- every exchange

module _ (c : Clusters) (w : World) (trim : IsTrim c w) where
  module _ (n : ℕ) (s : Server) (at : server_at w n ≡ Some s) where
    own : HasOwnOf c n s
    own = trim.own n s at

    old : ReplicatesOf c w.gtid n s
    old = trim.replicates n s at

    put : (t : Server) → HasOwnOf c n t → ReplicatesOf c w.gtid n t → IsTrim c (with_server w n t)
    put t has replicates = trim-with c w n w.errant s t trim at has replicates

    -- an applier that moves has a source
    passes : (to : Coord) → (apply_step w (Some s) ≡ applying.Pass to) ⊎ (apply_step w (Some s) ≡ applying.Skip to) → s.source ≡ Without → ⊥
    passes to (inl is) none = let e = applying-not w s none in cc
    passes to (inr is) none = let e = applying-not w s none in cc

    becomes-trim : (e : Exchange) (t : Server) → Becomes w n s e t → Allowed w e → IsOrderly c w e → IsTrim c (with_server w n t)
    becomes-trim e t (changes.Refuses first is) allowed fine = put t own (reading c w.gtid n s s.read false (λ none. let e = fetching w s none in cc) old)
    becomes-trim e t (changes.Reads x to is) allowed fine = put t own (reading c w.gtid n s to s.receiver (λ none. let e = fetching w s none in cc) old)
    becomes-trim e t (changes.Forgets is) allowed fine = put t own (record { bare = λ none. let e = applying-not w s none in cc; auto = old.auto; until = tt; source = old.source })
    becomes-trim e t (changes.Moves to is) allowed fine = put t own (moving c w.gtid n s to (passes to is) old)
    becomes-trim e t (changes.Executes x to is) allowed fine =
        let on = step_from w s (applying.Execute x to) to refl is in
        let does = executes w.gtid s on.source (next_after on.source.log.log s.exec) x to on.is in
        let source = trim.own on.number on.source on.at in
        let size = All-slot HasSize on.source.history.txns does.index x source.sizes does.there in
        let home = All-slot (λ (y : Txn). c y.origin.0 ≡ c on.number) on.source.history.txns does.index x source.origins does.there in
        put t (own-took c n s x own size (home ∙ old.source on.number on.from) does.room) (moving c w.gtid n s to (λ none. let e = applying-not w s none in cc) old)
    becomes-trim e t (changes.Asks a x does) allowed fine = put t (own-asked c n s own a x does) (asked-trim c w.gtid n s old a x does fine)
    becomes-trim e t (changes.Befalls x y does) allowed fine = put t (own-befallen c n s own x y does) (befallen-trim c w.gtid n s old x y does)
    becomes-trim e t (changes.Rotates end is) allowed fine =
        let does = rotates s end is in
        put t (record {
          cluster = own.cluster;
          high = own.high;
          within = own.within;
          entries = own.entries;
          sizes = own.sizes;
          files = let some = does.some in let files = own.files in omega arith;
          limit = own.limit;
          unlogged = λ silent. absurd (false≢true (sym silent ∙ does.logs));
          told = own.told;
          origins = own.origins;
        }) old
    becomes-trim e t (changes.Purges file first is) allowed fine = put t own old
    becomes-trim e t (changes.Attaches expect to c' is) target stays =
        put t own (record { bare = λ none. cc; auto = λ h. absurd (false≢true h); until = tt; source = attached-source c n to (unlabelled c w n to.0 s target.target trim at target.there (stays s at (attach-spot w n expect to.0 c' s is))) })
    becomes-trim e t (changes.AttachesAuto observed to is) target fine =
        put t own (record { bare = λ none. cc; auto = λ h. fine.0; until = tt; source = attached-source c n to (unlabelled c w n to.0 s target.target trim at target.there fine.1) })

  leaves-trim : (e : Exchange) (w' : World) → Leaves w e w' → Allowed w e → IsOrderly c w e → IsTrim c w'
  leaves-trim e w' changes.Still allowed fine = trim
  leaves-trim e w' (changes.Writes n size s seq at is) allowed fine =
      trim-with c w n _ s (took s (own_txn n seq size)) trim at (own-took c n s (own_txn n seq size) (trim.own n s at) (fine.0, fine.1) refl (write-room n seq s is)) (trim.replicates n s at)
  leaves-trim e w' (changes.Puts n s t at change) allowed fine = becomes-trim n s at e t change allowed fine

pub trim-after : (c : Clusters) (w : World) (e : Exchange) → IsTrim c w → Allowed w e → IsOrderly c w e → IsTrim c (after w e)
trim-after c w e trim allowed fine = leaves-trim c w trim e (after w e) (leaves w e) allowed fine

pub trim-run : (c : Clusters) (w : World) (es : List Exchange) → IsTrim c w → AllAllowed w es → AllOrderly c w es → IsTrim c (run w es)
trim-run c w [] trim allowed fine = trim
trim-run c w (e ∷ es) trim allowed fine = trim-run c (after w e) es (trim-after c w e trim allowed.0 fine.0) allowed.1 fine.1
