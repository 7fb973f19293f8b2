-- A change of one server that leaves its history and log keeps what is kept. So does a new file of its log.
use Rattle.std.proofs.Common.{◌≡◌, ℕ, ◌<◌, ◌≤◌, Bool, true, false, not, cond, List, length, take, refl, sym, ◌∙◌, ap, subst, Option, Some, Result, Ok, Err, arith, ◌&&◌, ◌||◌, zero, suc}
use Rattle.std.specs.Prelude.{slice_get, slice_set, ◌==◌, All, nat_lt, unwrap_or}
use Rattle.server_model.proofs.Prelude.{AreGtids, Ask, AttachFault, Coord, Event, HasPlaces, HasSize, Index, IsFit, IsKept, IsTarget, Kept, Reserved}
use Rattle.server_model.proofs.Prelude.{Server, ServerNo, Spot, World, after_attach, after_desk, after_purge, after_rotate, asked, attach_answer}
use Rattle.server_model.proofs.Prelude.{attach_decision, attached_to, befall, befallen, chain_meets, desk_answer, end_of, eq-eqb, false≢true}
use Rattle.server_model.proofs.Prelude.{file_start, first_kept, flush, has_place, live_spot, place, purged_answer, purged_len, rotate_answer, rotated}
use Rattle.server_model.proofs.Prelude.{same_Some, same_spot, server_at, source_no, sources, spot_below, stable_flush}
use Rattle.server_model.proofs.Prelude.attaching
use Rattle.server_model.proofs.Prelude.grown
use Rattle.server_model.proofs.Prelude.purging
use Rattle.server_model.proofs.Prelude.rotating
use Rattle.server_model.proofs.Changes as changes
use Rattle.server_model.proofs.Keeps.{IsKept-any, IsKept-with}
use Rattle.server_model.proofs.Lists.{set_self}
use Rattle.server_model.proofs.ExecutedSets.{AreGtids-still}
use Rattle.server_model.proofs.Changes.{Asked, Befallen, does-ask, does-befall}

-- a change that leaves the settings, the history and the log
pub record IsUntouched (s s' : Server) : Type 0 where
  pub settings : s'.settings ≡ s.settings
  pub history : s'.history ≡ s.history
  pub log : s'.log ≡ s.log
  pub first : s'.first ≡ s.first

-- one that is at the same position under the same source, too, if under any
pub record IsMoved (s s' : Server) : Type 0 where
  pub same : IsUntouched s s'
  pub source : (m : ℕ) → source_no s'.source ≡ Some m → source_no s.source ≡ Some m
  pub places : (m : ℕ) → source_no s'.source ≡ Some m → (t : Server) → HasPlaces s t → HasPlaces s' t

module _ (s : Server) where
  -- the same place in the source's log
  stays : (s' : Server) → s'.exec ≡ s.exec → s'.read ≡ s.read → (t : Server) → HasPlaces s t → HasPlaces s' t
  stays s' exec read t old =
      record { exec = ap (has_place t.log.log) exec ∙ old.exec; read = ap (has_place t.log.log) read ∙ old.read }

  still : (s' : Server) → s'.settings ≡ s.settings → s'.history ≡ s.history → s'.log ≡ s.log → s'.first ≡ s.first → source_no s'.source ≡ source_no s.source → s'.exec ≡ s.exec → s'.read ≡ s.read → IsMoved s s'
  still s' settings history log first source exec read = record { same = record { settings = settings; history = history; log = log; first = first }; source = λ m h. sym source ∙ h; places = λ m h t old. stays s' exec read t old }

  moved-does : (a : Ask) (t : Server) → Asked s a t → IsMoved s t
  moved-does a t (changes.Detaches m is) = record {
    same = record { settings = refl; history = refl; log = refl; first = refl };
    source = λ k h. ap source_no is ∙ h;
    places = λ k h x old. record { exec = old.exec; read = old.exec };
  }
  moved-does a t (changes.Reattaches m is) = still t refl refl refl refl (sym (ap source_no is)) refl refl
  moved-does a t changes.Resets = record { same = record { settings = refl; history = refl; log = refl; first = refl }; source = λ m h. cc; places = λ m h x old. cc }
  moved-does a t _ = still t refl refl refl refl refl refl refl

  pub moved-asked : (a : Ask) → IsMoved s (asked a s)
  moved-asked a = moved-does a (asked a s) (does-ask s a)

  moved-befalls : (e : Event) (t : Server) → Befallen s e t → IsMoved s t
  moved-befalls e t changes.Unharmed = still t refl refl refl refl refl refl refl
  moved-befalls e t _ = still t refl refl refl refl refl refl refl

  pub moved-befallen : (e : Event) → IsMoved s (befallen e s)
  moved-befallen e = moved-befalls e (befallen e s) (does-befall s e)

-- it leaves the sets
pub AreGtids-untouched : (servers : List Server) (executed purged : List Reserved) (gtid : Bool) (n : ℕ) (s s' : Server)
    → AreGtids servers executed purged gtid → slice_get servers n ≡ Some s → IsUntouched s s' → AreGtids (slice_set servers n s') executed purged gtid
AreGtids-untouched servers executed purged gtid n s s' are here same =
    AreGtids-still servers executed purged gtid n s s' are here same.settings same.history (ap (λ (i : Index). length i.log.entries) same.log)
    (ap (λ (h : Kept). take (purged_len s') h.txns) same.history
    ∙ ap (λ k. take k s.history.txns)
    (ap (λ (i : Index). unwrap_or (place i.log (file_start s'.first)) 0) same.log ∙ ap (λ file. unwrap_or (place s.log.log (file_start file)) 0) same.first))

module _ (servers : List Server) (errant n : ℕ) (s : Server) (kept : IsKept servers errant) (here : slice_get servers n ≡ Some s) where
  fit-untouched : (s' : Server) → IsUntouched s s' → IsFit s'
  fit-untouched s' same =
      let f = kept.fit n s here in
      record {
        high = rw same.history f.high;
        room = rw (same.history, same.log) f.room;
        within = rw same.history f.within;
        entries = rw (same.log, same.history) f.entries;
        sizes = subst (λ (h : Kept). All HasSize h.txns) (sym same.history) f.sizes;
        grown = rw same.log f.grown;
        files = rw same.log f.files;
        kept = rw (same.settings, same.log, same.first) f.kept;
      }

  pub IsKept-moved : (s' : Server) → IsMoved s s' → IsKept (slice_set servers n s') errant
  IsKept-moved s' moved =
      IsKept-with servers errant errant n s s' kept here
      (record {
        source = moved.source;
        stable = λ c k h. ap (λ (i : Index). place i.log c) moved.same.log ∙ h;
        fit = fit-untouched s' moved.same;
        places = λ m t from at old. moved.places m from t old;
        errant = rw moved.same.history (omega arith);
      })

  -- a new file of the log
  pub IsKept-rotated : 0 < s.log.flushes → IsKept (slice_set servers n (rotated s)) errant
  IsKept-rotated some =
      let f = kept.fit n s here in
      IsKept-with servers errant errant n s (rotated s) kept here
      (record {
        source = λ m h. h;
        stable = λ c k h. stable_flush s.log.log c k h;
        fit = record {
          high = f.high;
          room = f.room;
          within = f.within;
          entries = f.entries;
          sizes = f.sizes;
          grown = grown.Flushed s.log.log f.grown;
          files = let e = f.files in omega arith;
          kept = record { low = f.kept.low; high = let e = f.kept.high in omega arith; unlogged = f.kept.unlogged };
        };
        places = λ m t from at old. record { exec = old.exec; read = old.read };
        errant = omega arith;
      })

  -- files of the log of a server that logs are purged
  pub IsKept-purged : (first : ℕ) → s.first ≤ first → first ≤ s.log.log.files → s.settings.logs ≡ true → IsKept (slice_set servers n (record s { first = first })) errant
  IsKept-purged first low high logs =
      let f = kept.fit n s here in
      IsKept-with servers errant errant n s (record s { first = first }) kept here
      (record {
        source = λ m h. h;
        stable = λ c k h. h;
        fit = record {
          high = f.high;
          room = f.room;
          within = f.within;
          entries = f.entries;
          sizes = f.sizes;
          grown = f.grown;
          files = f.files;
          kept = record { low = let e = f.kept.low in omega arith; high = high; unlogged = λ off. absurd (false≢true (sym off ∙ logs)) };
        };
        places = λ m t from at old. record { exec = old.exec; read = old.read };
        errant = omega arith;
      })

-- what is answered, and what is left of the world

pub purged-left : (w : World) (servers : List Server) (gtid : Bool) (errant n first : ℕ) (s : Server) → record { servers = servers; gtid = gtid; errant = errant } ≡ w
    → slice_get servers n ≡ Some s
    → record { servers = slice_set servers n (record s { first = first }); gtid = gtid; errant = errant } ≡ after_purge w n (server_at w n) (purging.Done first)
purged-left w servers gtid errant n first s view here =
    subst (λ (v : World). record { servers = slice_set servers n (record s { first = first }); gtid = gtid; errant = errant } ≡ after_purge v n (server_at v n) (purging.Done first)) view (rw here)

pub desk-reached : (w : World) (n : ℕ) (s : Server) → server_at w n ≡ Some s → (s.up && s.desk) ≡ true → desk_answer (server_at w n) ≡ Ok tt
desk-reached w n s at on = ap desk_answer at ∙ ap (λ b. cond b (Ok tt) (Err (record {}))) on

pub desk-unreached : (w : World) (n : ℕ) (s : Server) → server_at w n ≡ Some s → (s.up && s.desk) ≡ false → desk_answer (server_at w n) ≡ Err (record {})
desk-unreached w n s at off = ap desk_answer at ∙ ap (λ b. cond b (Ok tt) (Err (record {}))) off

pub asked-left : (w : World) (servers : List Server) (gtid : Bool) (errant n : ℕ) (a : Ask) (s s' : Server) → record { servers = servers; gtid = gtid; errant = errant } ≡ w
    → slice_get servers n ≡ Some s → s' ≡ asked a s → desk_answer (server_at w n) ≡ Ok tt
    → record { servers = slice_set servers n s'; gtid = gtid; errant = errant } ≡ after_desk w n a (desk_answer (server_at w n))
asked-left w servers gtid errant n a s s' view here is reached =
    rw reached (subst (λ (v : World). record { servers = slice_set servers n s'; gtid = gtid; errant = errant } ≡ after_desk v n a (Ok tt)) view (rw (here, is)))

pub unasked-left : (w : World) (servers : List Server) (gtid : Bool) (errant n : ℕ) (a : Ask) (s : Server) → record { servers = servers; gtid = gtid; errant = errant } ≡ w
    → slice_get servers n ≡ Some s → desk_answer (server_at w n) ≡ Err (record {})
    → record { servers = slice_set servers n s; gtid = gtid; errant = errant } ≡ after_desk w n a (desk_answer (server_at w n))
unasked-left w servers gtid errant n a s view here unreached =
    rw (unreached, set_self servers n s here) view

pub befallen-left : (w : World) (servers : List Server) (gtid : Bool) (errant n : ℕ) (e : Event) (s s' : Server) → record { servers = servers; gtid = gtid; errant = errant } ≡ w
    → slice_get servers n ≡ Some s → s' ≡ befallen e s
    → record { servers = slice_set servers n s'; gtid = gtid; errant = errant } ≡ befall w n e
befallen-left w servers gtid errant n e s s' view here is =
    subst (λ (v : World). record { servers = slice_set servers n s'; gtid = gtid; errant = errant } ≡ befall v n e) view (rw (here, is))

pub rotated-left : (w : World) (servers : List Server) (gtid : Bool) (errant n : ℕ) (at : Coord) (s s' : Server) → record { servers = servers; gtid = gtid; errant = errant } ≡ w
    → slice_get servers n ≡ Some s → s' ≡ rotated s
    → record { servers = slice_set servers n s'; gtid = gtid; errant = errant } ≡ after_rotate w n (server_at w n) (rotating.Done at)
rotated-left w servers gtid errant n at s s' view here is =
    subst (λ (v : World). record { servers = slice_set servers n s'; gtid = gtid; errant = errant } ≡ after_rotate v n (server_at v n) (rotating.Done at)) view (rw (here, is))

pub rotate-answered : (w : World) (n : ℕ) (s : Server) (end : Coord) → server_at w n ≡ Some s → s.up ≡ true → s.settings.logs ≡ true → (s.log.flushes == 0) ≡ false → end ≡ end_of (flush s.log.log)
    → rotating.Done end ≡ rotate_answer (server_at w n)
rotate-answered w n s end at up logs some is = rw (at, up, logs, some, is)

-- a change of source to a place of another server's log
pub IsKept-attached : (auto : Bool) (servers : List Server) (errant n : ℕ) (s : Server) (to : ServerNo) (at : Coord) (target : Server)
    → IsKept servers errant
    → slice_get servers n ≡ Some s → slice_get servers to.0 ≡ Some target → has_place target.log.log at ≡ true → (to.0 ≡ n → ⊥)
    → IsKept (slice_set servers n (record (attached_to to at s) { auto = auto })) errant
IsKept-attached auto servers errant n s to at target kept here there placed apart =
    let f = kept.fit n s here in
    IsKept-any servers errant errant n s (record (attached_to to at s) { auto = auto }) kept here
    (record {
      stable = λ c k h. h;
      fit = record { high = f.high; room = f.room; within = f.within; entries = f.entries; sizes = f.sizes; grown = f.grown; files = f.files; kept = f.kept };
      apart = λ from. apart (same_Some to.0 n from);
      places = λ m t from at_m.
          let number : to.0 ≡ m = same_Some to.0 m from in
          let same : target ≡ t = same_Some target t (sym there ∙ ap (slice_get servers) number ∙ at_m) in
          let place : has_place t.log.log at ≡ true = subst (λ (x : Server). has_place x.log.log at ≡ true) same placed in
          record { exec = place; read = place };
      errant = omega arith;
    })

-- a walk that doesn't meet a server doesn't begin at it
pub chain-apart : (up : ℕ → Option ℕ) (steps from n : ℕ) → chain_meets up steps from n ≡ false → from ≡ n → ⊥
chain-apart up zero from n h e = cc
chain-apart up (suc k) from n h e =
    let met : (from == n) ≡ true = eq-eqb from n e in
    let all : chain_meets up (suc k) from n ≡ true = rw met refl in
    cc

-- the decision by its tests, before what follows
abbrev decided : Server → Spot → Result (Unit {0}) AttachFault → Bool → Bool → Bool → Bool → Result (Unit {0}) AttachFault
decided s expect later reached running same loops =
    cond (not reached) (Err attaching.Unreachable)
    (cond running (Err (attaching.Running (spot_below s s.source))) (cond (not same) (Err (attaching.Interfered expect (live_spot s expect))) (cond loops (Err attaching.Loop) later)))

-- an attachment that is allowed closes no loop
pub joined-loops : (s : Server) (expect : Spot) (loops : Bool) (first : ℕ) (at : Coord) → attach_decision s expect loops first at ≡ Ok tt → loops ≡ false
joined-loops s expect loops first at h = go (s.up && s.desk) (s.receiver || s.applier) (same_spot expect (live_spot s expect)) loops h
  where
    go : (a b c d : Bool) → decided s expect (purged_answer (nat_lt at.file first) first) a b c d ≡ Ok tt → d ≡ false
    go true false true false h = refl
    go _ _ _ _ h = cc

pub attached-left : (w : World) (servers : List Server) (gtid : Bool) (errant n : ℕ) (to : ServerNo) (at : Coord) (s s' : Server) → record { servers = servers; gtid = gtid; errant = errant } ≡ w
    → slice_get servers n ≡ Some s → s' ≡ attached_to to at s
    → record { servers = slice_set servers n s'; gtid = gtid; errant = errant } ≡ after_attach w n to at (server_at w n) (Ok tt)
attached-left w servers gtid errant n to at s s' view here is =
    subst (λ (v : World). record { servers = slice_set servers n s'; gtid = gtid; errant = errant } ≡ after_attach v n to at (server_at v n) (Ok tt)) view (rw (here, is))

-- an attachment that is allowed is not to the server itself
pub joined-apart : (w : World) (servers : List Server) (gtid : Bool) (errant n : ℕ) (expect : Spot) (to : ℕ) (at : Coord) (s : Server) → record { servers = servers; gtid = gtid; errant = errant } ≡ w
    → slice_get servers n ≡ Some s → Ok tt ≡ attach_answer w n expect to at (server_at w n) → to ≡ n → ⊥
joined-apart w servers gtid errant n expect to at s view here joined =
    let there : server_at w n ≡ Some s = subst (λ (v : World). server_at v n ≡ Some s) view here in
    let decision : attach_decision s expect (chain_meets (sources w) (length w.servers) to n) (first_kept (server_at w to)) at ≡ Ok tt = sym (joined ∙ ap (attach_answer w n expect to at) there) in
    chain-apart (sources w) (length w.servers) to n (joined-loops s expect (chain_meets (sources w) (length w.servers) to n) (first_kept (server_at w to)) at decision)

-- the target of an attachment
pub target-in : (w : World) (servers : List Server) (gtid : Bool) (errant to : ℕ) (at : Coord) → record { servers = servers; gtid = gtid; errant = errant } ≡ w → IsTarget w to at
    → (t : Server) × (slice_get servers to ≡ Some t) × (has_place t.log.log at ≡ true)
target-in w servers gtid errant to at view target =
    (target.target, subst (λ (v : World). server_at v to ≡ Some target.target) (sym view) target.there, target.place)
