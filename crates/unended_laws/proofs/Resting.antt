-- A server that was stopped rests where it is, and an attachment that expects it there doesn't find it elsewhere.
use Rattle.std.proofs.Common.{◌≡◌, ℕ, Bool, true, false, cond, not, List, [], refl, sym, ◌∙◌, ap, subst, Option, Some, None, Ok, Err, Result, ◌&&◌, ◌||◌, ◌⊎◌, inl, inr, nat_lt, length}
use Rattle.unended_laws.proofs.Prelude.{All, Applies, ApplyStep, AttachFault, Attached, Coord, Detached, Exchange, Halts, HasSource, Interval}
use Rattle.unended_laws.proofs.Prelude.{IsApplying, IsHalted, IsThere, Request, Rests, Server, ServerNo, SourceState, Spot, Stays, Txn}
use Rattle.unended_laws.proofs.Prelude.{WasStopped, Without, World, after, answer_by_sets, apply_from, apply_step, at_with_same, attach_answer}
use Rattle.unended_laws.proofs.Prelude.{attach_auto_answer, attached_at, auto_purged, chain_meets, coord-refl, desk_answer, eq-eqb, errant_set}
use Rattle.unended_laws.proofs.Prelude.{false≢true, first_kept, healed, held_of, is_attached, is_outside, live_spot, purged_answer}
use Rattle.unended_laws.proofs.Prelude.{purged_len, rotated, run, same-no, same_Some, same_coord, same_spot, server_at, source_no, sources}
use Rattle.unended_laws.proofs.Prelude.{spot_below, standing, started, took, uuids}
use Rattle.unended_laws.proofs.Prelude.Exchanges
use Rattle.unended_laws.proofs.Prelude.applying
use Rattle.unended_laws.proofs.Prelude.asking
use Rattle.unended_laws.proofs.Prelude.attaching
use Rattle.unended_laws.proofs.Prelude.spot
use Rattle.unended_laws.proofs.Prelude.threads
use Rattle.unended_laws.proofs.Applying.{Lasts, LastsGently, Spares, applies-gently, applies-lasts, asked-so, healed-applies, healed-keeps, no-end, outside-so, reached-there, run-so, there-same}

-- ---- what happens to it

-- one whose applier is off executes nothing
still-halts : (w : World) (s : Server) → s.applier ≡ false → apply_step w (Some s) ≡ applying.Halt
still-halts w s off =
    ap (λ (b : Bool). cond (not b) applying.Halt (cond (Exchanges.is_reached s.until s.exec) applying.ForgetUntil (apply_from w.gtid s (attached_at w s.source))))
    (off-and s.up (is_attached s.source) s.applier off)
  where
    off-and : (a b c : Bool) → c ≡ false → (a && (b && c)) ≡ false
    off-and true true c h = h
    off-and true false c h = refl
    off-and false b c h = refl

halts-lasts : (Q : Coord → Type 0) → Lasts (Halts Q)
halts-lasts Q = record {
  takes = λ s t h. alike s (took s t) refl refl refl refl h;
  executes = λ w s t c is h. executed w s t c is h;
  refuses = λ s h. refused s h;
  fetches = λ s c h. alike s (record s { read = c }) refl refl refl refl h;
  passes = λ w s c is h. passed w s c is h;
  stops = λ w s is h. ended w s is h;
  fails = λ s h. alike s (record s { up = false }) refl refl refl refl h;
  heals = λ s h. heals-so s h;
  desks = λ s on h. alike s (record s { desk = on }) refl refl refl refl h;
  feeds = λ s on h. alike s (record s { feed = on }) refl refl refl refl h;
  rotates = λ s h. alike s (rotated s) refl refl refl refl h;
  purges = λ s first h. alike s (record s { first = first }) refl refl refl refl h;
}
  where
    alike : (s t : Server) → t.receiver ≡ s.receiver → t.applier ≡ s.applier → t.until ≡ s.until → t.exec ≡ s.exec → Halts Q s → Halts Q t
    alike s t receiver applier until exec (inl a) = inl (applier ∙ a.0, until ∙ a.1)
    alike s t receiver applier until exec (inr h) =
        inr (record { receiver = receiver ∙ h.0.receiver; applier = applier ∙ h.0.applier }, subst Q (sym exec) h.1)

    none : (w : World) (s : Server) (x : ApplyStep) → IsHalted s → apply_step w (Some s) ≡ x → x ≡ applying.Halt
    none w s x h is = sym is ∙ still-halts w s h.applier

    executed : (w : World) (s : Server) (t : Txn) (c : Coord) → apply_step w (Some s) ≡ applying.Execute t c → Halts Q s → Halts Q (record (took s t) { exec = c })
    executed w s t c is (inl a) = inl a
    executed w s t c is (inr h) = let bad : applying.Execute t c ≡ applying.Halt = none w s (applying.Execute t c) h.0 is in cc

    refused : (s : Server) → Halts Q s → Halts Q (record s { receiver = false })
    refused s (inl a) = inl a
    refused s (inr h) = inr (record { receiver = refl; applier = h.0.applier }, h.1)

    passed : (w : World) (s : Server) (c : Coord) → (apply_step w (Some s) ≡ applying.Pass c) ⊎ (apply_step w (Some s) ≡ applying.Skip c) → Halts Q s → Halts Q (record s { exec = c })
    passed w s c is (inl a) = inl a
    passed w s c (inl is) (inr h) = let bad : applying.Pass c ≡ applying.Halt = none w s (applying.Pass c) h.0 is in cc
    passed w s c (inr is) (inr h) = let bad : applying.Skip c ≡ applying.Halt = none w s (applying.Skip c) h.0 is in cc

    ended : (w : World) (s : Server) → apply_step w (Some s) ≡ applying.ForgetUntil → Halts Q s → Halts Q (record s { applier = false; until = None })
    ended w s is (inl a) = absurd (no-end w s a.1 is)
    ended w s is (inr h) = inr (record { receiver = h.0.receiver; applier = refl }, h.1)

    -- an attached one starts again
    heals-so : (s : Server) → Halts Q s → Halts Q (healed s)
    heals-so s (inl a) = inl (healed-applies s a)
    heals-so s (inr h) = healed-keeps (Halts Q) s (inr h) (go (is_attached s.source) refl)
      where
        go : (b : Bool) → is_attached s.source ≡ b → Halts Q (record s { up = true; until = None; receiver = is_attached s.source || s.receiver; applier = is_attached s.source || s.applier })
        go true e = inl (ap (λ (b : Bool). b || s.applier) e, refl)
        go false e = inr (record { receiver = ap (λ (b : Bool). b || s.receiver) e ∙ h.0.receiver; applier = ap (λ (b : Bool). b || s.applier) e ∙ h.0.applier }, h.1)

sourced-lasts : (m : ℕ) → Lasts (HasSource m)
sourced-lasts m = record {
  takes = λ s t h. h;
  executes = λ w s t c is h. h;
  refuses = λ s h. h;
  fetches = λ s c h. h;
  passes = λ w s c is h. h;
  stops = λ w s is h. h;
  fails = λ s h. h;
  heals = λ s h. healed-keeps (HasSource m) s h h;
  desks = λ s on h. h;
  feeds = λ s on h. h;
  rotates = λ s h. h;
  purges = λ s first h. h;
}

rests-lasts : (m : ℕ) (at : Coord) → Lasts (Rests m at)
rests-lasts m at = record {
  takes = λ s t h. (sourced.takes s t h.0, halts.takes s t h.1);
  executes = λ w s t c is h. (sourced.executes w s t c is h.0, halts.executes w s t c is h.1);
  refuses = λ s h. (sourced.refuses s h.0, halts.refuses s h.1);
  fetches = λ s c h. (sourced.fetches s c h.0, halts.fetches s c h.1);
  passes = λ w s c is h. (sourced.passes w s c is h.0, halts.passes w s c is h.1);
  stops = λ w s is h. (sourced.stops w s is h.0, halts.stops w s is h.1);
  fails = λ s h. (sourced.fails s h.0, halts.fails s h.1);
  heals = λ s h. (sourced.heals s h.0, halts.heals s h.1);
  desks = λ s on h. (sourced.desks s on h.0, halts.desks s on h.1);
  feeds = λ s on h. (sourced.feeds s on h.0, halts.feeds s on h.1);
  rotates = λ s h. (sourced.rotates s h.0, halts.rotates s h.1);
  purges = λ s first h. (sourced.purges s first h.0, halts.purges s first h.1);
}
  where
    sourced : Lasts (HasSource m)
    sourced = sourced-lasts m

    halts : Lasts (Halts (λ c. c ≡ at))
    halts = halts-lasts (λ c. c ≡ at)

-- ---- what orchestrator asks of it

halts-gently : (Q : Coord → Type 0) → LastsGently (Halts Q)
halts-gently Q = record { starts = λ s h. starts-so s h; opens = λ s on h. opens-so s on h }
  where
    starts-so : (s : Server) → Halts Q s → Halts Q (started None s)
    starts-so s h = go (is_attached s.source)
      where
        go : (b : Bool) → Halts Q (cond b (record s { receiver = true; applier = true; until = None }) s)
        go true = inl (refl, refl)
        go false = h

    opens-so : (s : Server) (on : Bool) → Halts Q s → Halts Q (record s { read_only = on })
    opens-so s on (inl a) = inl a
    opens-so s on (inr h) = inr (record { receiver = h.0.receiver; applier = h.0.applier }, h.1)

sourced-gently : (m : ℕ) → LastsGently (HasSource m)
sourced-gently m = record { starts = λ s h. starts-so s h; opens = λ s on h. h }
  where
    starts-so : (s : Server) → HasSource m s → HasSource m (started None s)
    starts-so s h = go (is_attached s.source)
      where
        go : (b : Bool) → HasSource m (cond b (record s { receiver = true; applier = true; until = None }) s)
        go true = h
        go false = h

rests-gently : (m : ℕ) (at : Coord) → LastsGently (Rests m at)
rests-gently m at = record {
  starts = λ s h. ((sourced-gently m).starts s h.0, (halts-gently (λ c. c ≡ at)).starts s h.1);
  opens = λ s on h. ((sourced-gently m).opens s on h.0, (halts-gently (λ c. c ≡ at)).opens s on h.1);
}

-- one that is stopped is
pub stopped-halts : (w : World) (n : ℕ) → desk_answer (server_at w n) ≡ Ok tt → IsThere WasStopped (after w (Request n (asking.Stop threads.Both))) n
stopped-halts w n reached =
    let x = reached-there (server_at w n) reached in
    let t = record x.0 { receiver = false; applier = false; until = None } in
    record {
      server = t;
      there = ap (λ v. server_at v n) (asked-so w n (asking.Stop threads.Both) x.0 x.1 reached) ∙ at_with_same w n x.0 t x.1;
      is = inr (record { receiver = refl; applier = refl }, tt);
    }

-- ---- what stays so

-- what a recovery counts on stays so of a server
pub record StaysPut (w w' : World) (n : ℕ) : Type 0 where
  pub rests : (m : ℕ) (at : Coord) → IsThere (Rests m at) w n → IsThere (Rests m at) w' n
  pub stopped : IsThere WasStopped w n → IsThere WasStopped w' n
  pub sourced : (m : ℕ) → IsThere (HasSource m) w n → IsThere (HasSource m) w' n
  pub applies : IsApplying w n → IsApplying w' n

put-by : (w w' : World) (n : ℕ) → ((S : Server → Type 0) → Lasts S → LastsGently S → IsThere S w n → IsThere S w' n) → StaysPut w w' n
put-by w w' n keeps = record {
  rests = λ m at. keeps (Rests m at) (rests-lasts m at) (rests-gently m at);
  stopped = keeps WasStopped (halts-lasts (λ c. Unit {0})) (halts-gently (λ c. Unit {0}));
  sourced = λ m. keeps (HasSource m) (sourced-lasts m) (sourced-gently m);
  applies = keeps Applies applies-lasts applies-gently;
}

pub outside-put : (w : World) (e : Exchange) → is_outside e ≡ true → (n : ℕ) → StaysPut w (after w e) n
outside-put w e out n = put-by w (after w e) n (λ S lasts gently. outside-so S lasts w e out n)

pub same-put : (w w' : World) (n : ℕ) → server_at w' n ≡ server_at w n → StaysPut w w' n
same-put w w' n same = put-by w w' n (λ S lasts gently. there-same S w w' n same)

-- exchanges of others, and starts, do
pub run-put : (w : World) (es : List Exchange) (n : ℕ) → All (Spares n) es → StaysPut w (run w es) n
run-put w es n all = put-by w (run w es) n (λ S lasts gently. run-so S gently w es n all)

-- it keeps its source
pub sourced-stays : (w w' : World) (n m : ℕ) → Stays w w' n → IsThere (HasSource m) w n → IsThere (HasSource m) w' n
sourced-stays w w' n m st h = let t = st.stays h.server h.there in record { server = t.0; there = t.1; is = ap source_no t.2 ∙ h.is }

-- ---- an attachment that expects it there

-- the position of a server with a source
pub spot-is : (s : Server) (m : ServerNo) (at : Coord) (x : SourceState) → source_no x ≡ Some m.0 → s.exec ≡ at → spot_below s x ≡ spot.At m at
spot-is s m at (Attached k) below exec = ap (λ (i : ServerNo). spot.At i s.exec) (same-no k m (same_Some k.0 m.0 below)) ∙ ap (spot.At m) exec
spot-is s m at (Detached k) below exec = ap (λ (i : ServerNo). spot.At i s.exec) (same-no k m (same_Some k.0 m.0 below)) ∙ ap (spot.At m) exec
spot-is s m at Without below exec = cc

-- a match finds it there, too
pub standing-is : (s : Server) (m : ServerNo) (at : Coord) (x : SourceState) → source_no x ≡ Some m.0 → s.exec ≡ at → standing s x ≡ spot.At m at
standing-is s m at (Attached k) below exec = spot-is s m at (Attached k) below exec
standing-is s m at (Detached k) below exec = spot-is s m at (Detached k) below exec
standing-is s m at Without below exec = cc

abbrev pub is_interfered : Result (Unit {0}) AttachFault → Bool
is_interfered (Err (attaching.Interfered expected found)) = true
is_interfered _ = false

purged-never : (b : Bool) (first : ℕ) → is_interfered (purged_answer b first) ≡ false
purged-never true first = refl
purged-never false first = refl

-- an applier is on, or it is where it is expected
abbrev IsRunningOrThere : Spot → Server → Type 0
IsRunningOrThere expect s = (s.applier ≡ true) ⊎ (same_spot expect (live_spot s expect) ≡ true)

never-so : (e f r : Spot) (a b c d p : Bool) (first : ℕ) → (b ≡ true) ⊎ (c ≡ true)
    → is_interfered (cond (not a) (Err attaching.Unreachable) (cond b (Err (attaching.Running r)) (cond (not c) (Err (attaching.Interfered e f)) (cond d (Err attaching.Loop) (purged_answer p first))))) ≡ false
never-so e f r true false true false p first why = purged-never p first
never-so e f r true false false d p first (inl on) = absurd (false≢true on)
never-so e f r true false false d p first (inr there) = absurd (false≢true there)
never-so e f r _ _ _ _ p first why = refl

at-never : (w : World) (n to : ℕ) (expect : Spot) (c : Coord) → IsThere (IsRunningOrThere expect) w n → is_interfered (attach_answer w n expect to c (server_at w n)) ≡ false
at-never w n to expect c h =
    ap (λ (o : Option Server). is_interfered (attach_answer w n expect to c o)) h.there
    ∙ never-so expect (live_spot s expect) (spot_below s s.source) (s.up && s.desk) (s.receiver || s.applier) (same_spot expect (live_spot s expect)) (chain_meets (sources w) (length w.servers) to n)
    (nat_lt c.file (first_kept (server_at w to))) (first_kept (server_at w to)) (why h.is)
  where
    s : Server
    s = h.server

    or-on : (a b : Bool) → b ≡ true → (a || b) ≡ true
    or-on true b on = refl
    or-on false b on = on

    why : IsRunningOrThere expect s → ((s.receiver || s.applier) ≡ true) ⊎ (same_spot expect (live_spot s expect) ≡ true)
    why (inl on) = inl (or-on s.receiver s.applier on)
    why (inr there) = inr there

-- one that rests where it is expected
pub rests-never : (w : World) (n to : ℕ) (m : ServerNo) (at c : Coord) → IsThere (Rests m.0 at) w n → is_interfered (attach_answer w n (spot.At m at) to c (server_at w n)) ≡ false
rests-never w n to m at c h = at-never w n to (spot.At m at) c (record { server = h.server; there = h.there; is = go h.is.1 })
  where
    go : Halts (λ x. x ≡ at) h.server → IsRunningOrThere (spot.At m at) h.server
    go (inl on) = inl on.0
    go (inr still) =
        inr (ap (same_spot (spot.At m at)) (spot-is h.server m at h.server.source h.is.0 still.1)
        ∙ (ap (λ (b : Bool). b && same_coord at at) (eq-eqb m.0 m.0 refl) ∙ coord-refl at))

-- or whose applier is on, wherever it is expected
pub applies-never : (w : World) (n to : ℕ) (expect : Spot) (c : Coord) → IsApplying w n → is_interfered (attach_answer w n expect to c (server_at w n)) ≡ false
applies-never w n to expect c h = at-never w n to expect c (record { server = h.server; there = h.there; is = inl h.is.0 })

-- by a set nobody is expected anywhere
pub auto-never : (w : World) (n to : ℕ) (observed : List Interval) (o : Option Server) → is_interfered (attach_auto_answer w n observed to o) ≡ false
auto-never w n to observed None = refl
auto-never w n to observed (Some s) = go (s.up && s.desk) (s.receiver || s.applier) (chain_meets (sources w) (length w.servers) to n) (errant_set (uuids w) observed s.history.txns)
  where
    later : (x : Option Server) → is_interfered (auto_purged (uuids w) s x) ≡ false
    later None = refl
    later (Some k) = purged-never (nat_lt (held_of (uuids w) s k) (purged_len k)) k.first

    go : (a b c : Bool) (xs : List Interval)
        → is_interfered (answer_by_sets (cond (not a) (Err attaching.Unreachable) (cond b (Err (attaching.Running (spot_below s s.source))) (cond c (Err attaching.Loop) (Ok tt)))) xs (auto_purged (uuids w) s (server_at w to))) ≡ false
    go true false false [] = later (server_at w to)
    go _ _ _ _ = refl
