-- Each entry of the lost was there before, or has its reason in this turn.
use Rattle.recovery_reasons.proofs.Prelude.{Aim, AimsAt, All, All-append, All-cons, All-contains_itself, All-filter, All-head, All-nil, All-push}
use Rattle.recovery_reasons.proofs.Prelude.{All-tail, AllLost, Ask, AttachFault, Attempt, Attempts, BelowSuccessor, BookState, Bridge, Cause}
use Rattle.recovery_reasons.proofs.Prelude.{Contains, Coord, Decision, Decisions, Deed, Ending, ExecOf, ExplainsTruly, Fact, Fate, Fits, HeldRecovery}
use Rattle.recovery_reasons.proofs.Prelude.{HeldRings, Interval, IsAsked, IsDue, IsLost, IsOnCourse, IsOnWay, IsRefusedOn, IsTrailing, IsTrueOf}
use Rattle.recovery_reasons.proofs.Prelude.{IsUnreached, IsWaitFor, Job, Keeps, Loses, Loss, LostReplica, Lot, MayDecide, MayEnd, Means, Miss, Moment}
use Rattle.recovery_reasons.proofs.Prelude.{NamesLogging, Observation, Op, Purpose, Reason, Recovery, Server, ServerNo, Sight, Speaks, SpeaksWith}
use Rattle.recovery_reasons.proofs.Prelude.{Stage, Status, Stopped, StopsFor, Unreachable, WaitsFor, WasRead, Way, Why, World, after_ask, after_look}
use Rattle.recovery_reasons.proofs.Prelude.{after_status, aim_of, alone, attempts, before, borne, by_bridge, by_deed, cause_by, chosen_of, decided_by}
use Rattle.recovery_reasons.proofs.Prelude.{decides-held, deed_of, desk_answer, ended_by, ends, entered, exec_by, false≢true, fate, fate_of}
use Rattle.recovery_reasons.proofs.Prelude.{fate_of_drain, fate_of_errant, fate_of_move, fate_of_trail, follows_no_more, ground_of, group_of}
use Rattle.recovery_reasons.proofs.Prelude.{has_exec, has_own, info, is_at_or_before, is_barred, is_before, is_below, is_look, is_moved, is_over}
use Rattle.recovery_reasons.proofs.Prelude.{is_reached, joined, kept-whole, latest_that, lead_of, leaver, logs_at, loses, loss_of, losses_in}
use Rattle.recovery_reasons.proofs.Prelude.{lost_on_way, lot_by, lot_by_group, marked, match_fate, may_lead, met, more_on, move, move_fate, moved}
use Rattle.recovery_reasons.proofs.Prelude.{observed, own_end_of, place_on, position_of, ring_at, rule_at, same-head, same_Some, same_coord, seen_in}
use Rattle.recovery_reasons.proofs.Prelude.{seen_of, server_at, shown_of, speaks_of, spoken_to, spot_by, spot_seen, status, status_in, stay_of}
use Rattle.recovery_reasons.proofs.Prelude.{stepped, tail_of, taken, unfit, way_below, way_by_set, went-of, without_stopped}
use Rattle.recovery_reasons.specs.Reasons.{Below, Beside, Errant, Halted, Interfered, Late, Purged, Running, Strayed, Unattached, Unmatched, Unreached, Without}
use Rattle.recovery_reasons.proofs.Prelude.attaching
use Rattle.recovery_reasons.proofs.Prelude.attempt
use Rattle.recovery_reasons.proofs.Prelude.by
use Rattle.recovery_reasons.proofs.Prelude.cause
use Rattle.recovery_reasons.proofs.Prelude.deciding
use Rattle.recovery_reasons.proofs.Prelude.deed
use Rattle.recovery_reasons.proofs.Prelude.group
use Rattle.recovery_reasons.proofs.Prelude.lost
use Rattle.recovery_reasons.proofs.Prelude.means
use Rattle.recovery_reasons.proofs.Prelude.op
use Rattle.recovery_reasons.proofs.Prelude.purpose
use Rattle.recovery_reasons.proofs.Prelude.seeing
use Rattle.recovery_reasons.proofs.Prelude.stage
use Rattle.recovery_reasons.proofs.Prelude.taking
use Rattle.recovery_reasons.proofs.Prelude.task
use Rattle.recovery_reasons.proofs.Prelude.way
use Rattle.std.proofs.Common.{◌≡◌, ℕ, Bool, true, false, cond, not, List, [], ◌∷◌, ◌++◌, map, refl, sym, ◌∙◌, ap, subst, Option, Some, None, ◌&&◌, ◌⊎◌, inl, inr, Ok, Err, Result, ◌+◌, ◌==◌, is_some, option_map}
use Rattle.recovery_reasons.proofs.Causing.{StopsTruly, deed-true, match-cause}
use Rattle.recovery_reasons.proofs.Coordinates.{before-other}
use Rattle.recovery_reasons.proofs.OnWay.{Fine, decides-fine, handing, next-on, still-on, stepped-course}
use Rattle.recovery_reasons.proofs.Readings.{Reading, fits-of, reader_of, stepped-reading}
use Rattle.recovery_reasons.proofs.Speaking.{decides-speaks, due-speaks, stepped-speaks, due-waits, due-asked, due-looks, due-goes, match-refused}
use Rattle.recovery_reasons.proofs.Speaking.{move-refused}
use Rattle.recovery_reasons.proofs.Choosing.{none-may}
use Rattle.recovery_reasons.proofs.Prelude.doing
use Rattle.recovery_reasons.proofs.Sights.{wait-speaks}

-- ---- waits that are spent

-- a wait that is spent saw the replica before the position to which it was to go
abbrev IsLate : World → ServerNo → Option Coord → Cause → Type 0
IsLate w n to (cause.WaitSpent m) = (s : Status) × (seen_in (status w n.0) ≡ Some s) × (is_reached to s.exec ≡ false)
IsLate w n to _ = Unit {0}

abbrev StopsLate : World → ServerNo → Option Coord → Attempt → Type 0
StopsLate w n to (attempt.Goes o es k) = Unit {0}
StopsLate w n to (attempt.Stops c o) = IsLate w n to c
StopsLate w n to (attempt.Ends lines) = Unit {0}

fault-late : (w : World) (n : ServerNo) (to : Option Coord) (m : ServerNo) (f : AttachFault) → IsLate w n to (cause_by m f)
fault-late w n to m attaching.Unreachable = tt
fault-late w n to m _ = tt

-- an operation that waits for the position at which another stopped
module _ (w : World) (read : ℕ) (now : Moment) (j : Job) (rest : List Op) (n : ServerNo) (x : Bridge) where
  abbrev aimed : Option Coord
  aimed = aim_of j.seen (ExecOf x.no)

  wait-late : (m : ServerNo) (d : Deed) (s : Status) → IsWaitFor m d → Some m ≡ Some n → WaitsFor x d → seen_in (status w m.0) ≡ Some s → is_over j d s ≡ false → IsLate w n aimed (cause.WaitSpent m)
  wait-late m d s (doing.Awaits to) e h seen short = (
    s,
    subst (λ (k : ServerNo). seen_in (status w k.0) ≡ Some s) (same_Some m n e) seen,
    subst (λ (y : Aim). is_reached (aim_of j.seen y) s.exec ≡ false) h short,
  )
  wait-late m d s _ e h seen short = absurd h

  stops-late : (d : Deed) (c : Cause) → StopsFor w j d c → spoken_to d ≡ Some n → WaitsFor x d → IsLate w n aimed c
  stops-late d c (doing.Spent m y s is seen short more) e h = wait-late m y s is (sym (wait-speaks m y is) ∙ e) h seen short
  stops-late d c (doing.Refused m y a f is made of can answer) e h = fault-late w n aimed m f
  stops-late d c (doing.Unmatched m k every f found) e h = cc
  stops-late d c _ e h = tt

  attempt-late : (d : Deed) (a : Attempt) → Attempts w read now j rest d a → spoken_to d ≡ Some n → WaitsFor x d → StopsLate w n aimed a
  attempt-late d a (doing.Misses m from c why) e h = stops-late (deed.Look m from) c why e h
  attempt-late d a (doing.Fails y c why) e h = stops-late y c why e h
  attempt-late d a _ e h = tt

deed-late : (w : World) (read : ℕ) (now : Moment) (j : Job) (rest : List Op) (d : Deed) (n : ServerNo) (x : Bridge) → spoken_to d ≡ Some n → WaitsFor x d → StopsLate w n (aim_of j.seen (ExecOf x.no)) (by_deed w read now j rest d)
deed-late w read now j rest d n x on waits = attempt-late w read now j rest n x d (by_deed w read now j rest d) (attempts w read now j rest d) on waits

-- a status is no wait
abbrev IsUnspent : Cause → Type 0
IsUnspent (cause.WaitSpent m) = ⊥
IsUnspent _ = Unit {0}

abbrev StopsUnspent : Attempt → Type 0
StopsUnspent (attempt.Goes o es k) = Unit {0}
StopsUnspent (attempt.Stops c o) = IsUnspent c
StopsUnspent (attempt.Ends lines) = Unit {0}

look-unspent : (w : World) (read : ℕ) (now : Moment) (j : Job) (rest : List Op) (d : Deed) → is_look d ≡ true → StopsUnspent (by_deed w read now j rest d)
look-unspent w read now j rest (deed.Look n from) h = seen (seen_in (status w n.0))
  where
    seen : (r : Option Status) → StopsUnspent (after_look j rest n from (observed w read now n) r)
    seen None = tt
    seen (Some s) = go (is_moved from s.source)
      where
        go : (b : Bool) → StopsUnspent (after_status j rest n from (observed w read now n) s b)
        go true = tt
        go false = tt
look-unspent w read now j rest (deed.Request n a) h = absurd (false≢true h)
look-unspent w read now j rest _ h = absurd (false≢true h)

-- what is asked of a server stops a job if the server isn't reached
abbrev pub StopsUnreached : World → ServerNo → Attempt → Type 0
StopsUnreached w n (attempt.Goes o es k) = Unit {0}
StopsUnreached w n (attempt.Stops c o) = IsUnreached w n.0
StopsUnreached w n (attempt.Ends lines) = Unit {0}

pub asked-unreached : (w : World) (read : ℕ) (now : Moment) (j : Job) (rest : List Op) (d : Deed) (n : ServerNo) → spoken_to d ≡ Some n → IsAsked d → StopsUnreached w n (by_deed w read now j rest d)
asked-unreached w read now j rest d n on asked = go d on asked
  where
    ask : (a : Ask) (r : Result (Unit {0}) Unreachable) → desk_answer (server_at w n.0) ≡ r → StopsUnreached w n (after_ask j rest n a r)
    ask a (Ok t) is = tt
    ask a (Err e) is = is

    go : (y : Deed) → spoken_to y ≡ Some n → IsAsked y → StopsUnreached w n (by_deed w read now j rest y)
    go (deed.Request m a) e h =
        subst (λ (k : ServerNo). StopsUnreached w n (by_deed w read now j rest (deed.Request k a))) (sym (same_Some m n e)) (ask a (desk_answer (server_at w n.0)) refl)
    go _ e h = absurd h

-- the executed coordinate that a status shows is the server's
pub shown-exec : (w : World) (n : ℕ) (s : Status) → seen_in (status w n) ≡ Some s → s.exec ≡ exec_by (server_at w n)
shown-exec w n s h = go (server_at w n) h
  where
    go : (o : Option Server) → seen_in (status_in w o) ≡ Some s → s.exec ≡ exec_by o
    go None e = cc
    go (Some x) e = by (x.up && x.desk) e
      where
        by : (b : Bool) → seen_in (cond b (Ok (shown_of w x)) (Err seeing.Unreachable)) ≡ Some s → s.exec ≡ x.exec
        by true f = ap (λ (y : Status). y.exec) (sym (same_Some (shown_of w x) s f))
        by false f = cc

-- ---- the decisions

module _ (w : World) (b : BookState) (now : Moment) where
  -- a drained one that doesn't go below the successor
  below-of : (seen : List Sight) (f n : ServerNo) (s : Stopped) → is_some (seen_of seen n.0) ≡ true → logs_at w n ≡ true → way_below (ground_of w b now) seen f n s ≡ None
      → BelowSuccessor w b f n s
  below-of seen f n s read logs h = go w.gtid refl h
    where
      by-set : (a c : Bool) → a ≡ true → c ≡ true → cond (a && c) (Some (way.Auto n s.exec)) None ≡ None → ⊥
      by-set true true on writes e = cc
      by-set true false on writes e = false≢true writes
      by-set false c on writes e = false≢true on

      by-log : (o : Option Bridge) → option_map way.Up o ≡ None → o ≡ None
      by-log None e = refl
      by-log (Some y) e = cc

      go : (g : Bool) → w.gtid ≡ g → cond g (way_by_set w seen n s) (option_map way.Up (latest_that (has_own n s.exec) (ring_at b.rings f))) ≡ None → BelowSuccessor w b f n s
      go true e f' = absurd (by-set (is_some (seen_of seen n.0)) (logs_at w n) read logs f')
      go false e f' = (e, by-log (latest_that (has_own n s.exec) (ring_at b.rings f)) f')

  -- it logs
  successor-logs : (u : Purpose) (n : ServerNo) → u ≡ purpose.Intermediate n → NamesLogging w u → logs_at w n ≡ true
  successor-logs u n is h = subst (NamesLogging w) is h

module _ (w : World) (b : BookState) (now : Moment) (r : Recovery) (P : Fact → Bool) (why : ExplainsTruly w b now r P) where
  abbrev Each : LostReplica → Type 0
  Each l = P (IsLost l.no l.why) ≡ true

  abbrev Good : Recovery → Type 0
  Good x = AllLost P x.outcome.lost

  abbrev MayStay : Stopped → Lot → Type 0
  MayStay s (deciding.Goes by) = Unit {0}
  MayStay s (deciding.Stays y) = P (IsLost s.no y) ≡ true

  losses-explained : (lot : Stopped → Lot) (ss : List Stopped) → All (λ s. MayStay s (lot s)) ss → All Each (losses_in lot ss)
  losses-explained lot [] each = All-nil Each
  losses-explained lot (s ∷ ss) each =
      go (lot s) (All-head (λ (x : Stopped). MayStay x (lot x)) s ss each) (losses-explained lot ss (All-tail (λ (x : Stopped). MayStay x (lot x)) s ss each))
    where
      go : (x : Lot) → MayStay s x → All Each (losses_in lot ss) → All Each (stay_of s x ++ losses_in lot ss)
      go (deciding.Goes by) h rest = rest
      go (deciding.Stays y) h rest = All-cons Each (record { no = s.no; why = y; detached = false }) (losses_in lot ss) h rest

  -- one decision more
  module _ (x : Recovery) (so : Decisions (ground_of w b now) r x) where
    because : (n : ServerNo) (y : Why) → Reason w b now x n y → P (IsLost n y) ≡ true
    because n y h = why x (IsLost n y) so (Loses h)

    lot-explained : (m : Means) (p s : Stopped) → IsDue task.Choosing x → chosen_of (ground_of w b now) x.failed x.drained ≡ Some p → Contains x.drained s → MayStay s (lot_by m (ground_of w b now) x.failed p s)
    lot-explained (means.Matches every) p s due is there = tt
    lot-explained means.Bridges p s due is there = go w.gtid refl
      where
        kept : w.gtid ≡ false → same_coord s.exec p.exec ≡ false → is_before p.exec s.exec ≡ false → (o : Option Bridge) → latest_that (has_exec x.failed s.exec) (ring_at b.rings p.no) ≡ o
            → MayStay s (lot_by_group p.no x.failed s (by_bridge o))
        kept off other later None e = because s.no (lost.behind s.exec) (Beside p s due is there (off, refl, before-other s.exec p.exec later other, e))
        kept off other later (Some y) e = tt

        later : w.gtid ≡ false → same_coord s.exec p.exec ≡ false → (a : Bool) → is_before p.exec s.exec ≡ a
            → MayStay s (lot_by_group p.no x.failed s (cond a group.Ahead (by_bridge (latest_that (has_exec x.failed s.exec) (ring_at b.rings p.no)))))
        later off other true e = because s.no (lost.ahead s.exec) (Beside p s due is there (off, refl, e))
        later off other false e = kept off other e (latest_that (has_exec x.failed s.exec) (ring_at b.rings p.no)) refl

        level : w.gtid ≡ false → (a : Bool) → same_coord s.exec p.exec ≡ a
            → MayStay s (lot_by_group p.no x.failed s (cond a (group.Follow (own_end_of p)) (cond (is_before p.exec s.exec) group.Ahead (by_bridge (latest_that (has_exec x.failed s.exec) (ring_at b.rings p.no))))))
        level off true e = tt
        level off false e = later off e (is_before p.exec s.exec) refl

        go : (g : Bool) → w.gtid ≡ g → MayStay s (cond g (deciding.Goes (way.Auto p.no s.exec)) (lot_by_group p.no x.failed s (group_of b.rings p.no (own_end_of p) p.exec x.failed s.exec)))
        go true e = tt
        go false e = level e (same_coord s.exec p.exec) refl

    lots-explained : (p : Stopped) (ss : List Stopped) → IsDue task.Choosing x → chosen_of (ground_of w b now) x.failed x.drained ≡ Some p → All (Contains x.drained) ss
        → All (λ s. MayStay s (lot_by x.means (ground_of w b now) x.failed p s)) ss
    lots-explained p [] due is there = All-nil (λ (s : Stopped). MayStay s (lot_by x.means (ground_of w b now) x.failed p s))
    lots-explained p (s ∷ ss) due is there =
        All-cons (λ (y : Stopped). MayStay y (lot_by x.means (ground_of w b now) x.failed p y)) s ss (lot-explained x.means p s due is (All-head (Contains x.drained) s ss there))
        (lots-explained p ss due is (All-tail (Contains x.drained) s ss there))

    unfit-explained : (ss : List Stopped) → IsDue task.Choosing x → chosen_of (ground_of w b now) x.failed x.drained ≡ None → All (Contains x.drained) ss
        → All (λ s. may_lead (ground_of w b now) s ≡ false) ss → All Each (map (unfit w) ss)
    unfit-explained [] due is there none = All-nil Each
    unfit-explained (s ∷ ss) due is there none =
        All-cons Each (unfit w s) (map (unfit w) ss) (go (logs_at w s.no) refl (All-head (λ (y : Stopped). may_lead (ground_of w b now) y ≡ false) s ss none))
        (unfit-explained ss due is (All-tail (Contains x.drained) s ss there) (All-tail (λ (y : Stopped). may_lead (ground_of w b now) y ≡ false) s ss none))
      where
        barred : (a : Bool) → not a ≡ false → a ≡ true
        barred true h = refl
        barred false h = absurd (false≢true (sym h))

        mine : Contains x.drained s
        mine = All-head (Contains x.drained) s ss there

        go : (a : Bool) → logs_at w s.no ≡ a → (a && not (is_barred (rule_at b s.no now))) ≡ false → P (IsLost s.no (cond a lost.must_not lost.not_logging)) ≡ true
        go true e h = because s.no lost.must_not (Without s due is mine (e, barred (is_barred (rule_at b s.no now)) h))
        go false e h = because s.no lost.not_logging (Without s due is mine e)

    decision-explained : (d : Decision) → Fine x → NamesLogging w x.purpose → MayDecide (ground_of w b now) x d → Good x → Good (decided_by (ground_of w b now) x d)
    decision-explained (by.Chooses p ts) fine logs m good =
        All-append Each x.outcome.lost (losses_in (lot_by x.means (ground_of w b now) x.failed p) (without_stopped x.drained p.no)) good
        (losses-explained (lot_by x.means (ground_of w b now) x.failed p) (without_stopped x.drained p.no)
        (lots-explained p (without_stopped x.drained p.no) (ts, m.0) m.1 (All-filter (λ s. not (s.no.0 == p.no.0)) (Contains x.drained) x.drained (All-contains_itself x.drained))))
    decision-explained (by.ChoosesNobody ts) fine logs m good =
        All-append Each x.outcome.lost (map (unfit w) x.drained) good
        (unfit-explained x.drained (ts, m.0) m.1 (All-contains_itself x.drained) (none-may w b now x.failed x.drained m.1))
    decision-explained (by.Leaves d ds ts) fine logs m good =
        let one = handing w b now x d ds None ts (next-on x task.Handing ts m.next fine) m in
        All-push Each x.outcome.lost _ good
        (because d.no (lost.behind d.exec) (Below m.source d ds (ts, m.next) one.0 m.chosen m.drained (below-of w b now x.core.seen x.failed m.source d one.1 (successor-logs w b now x.purpose m.source one.0 logs) m.way)))
    decision-explained d fine logs m good = good

  -- ---- the operation

  marked-good : (n : ServerNo) (xs : List LostReplica) → All Each xs → All Each (map (marked n) xs)
  marked-good n [] all = All-nil Each
  marked-good n (l ∷ ls) all = All-cons Each (marked n l) (map (marked n) ls) (go (l.no.0 == n.0)) (marked-good n ls (All-tail Each l ls all))
    where
      go : (a : Bool) → Each (cond a (record l { detached = true }) l)
      go true = All-head Each l ls all
      go false = All-head Each l ls all

  strayed : (z : Recovery) (n : ServerNo) (y : Why) → Reading w b now r z → reader_of z.stage ≡ Some n → by.stray z.failed (seen_of z.core.seen n.0) ≡ Some y → P (IsLost n y) ≡ true
  strayed z n y h on lost-so = let s = h.shows n on in go s.0 s.1 (is_below (position_of s.0) z.failed) refl (ap (by.stray z.failed) (sym s.2) ∙ lost-so)
    where
      go : (s : Status) → seen_in (status w n.0) ≡ Some s → (a : Bool) → is_below (position_of s) z.failed ≡ a → cond a None (Some (lost.moved (spot_seen s.source s.exec))) ≡ Some y → P (IsLost n y) ≡ true
      go s is true e f = cc
      go s is false e f =
          subst (λ (q : Why). P (IsLost n q) ≡ true) (same_Some (lost.moved (spot_seen s.source s.exec)) y f)
          (because h.first h.so n (lost.moved (spot_seen s.source s.exec)) (Strayed s (h.told n on) (h.reads n on) is (ap (is_below (position_of s)) (sym h.failed) ∙ e)))

  halts : (z : Recovery) (n : ServerNo) (x : Bridge) (y : Why) → Reading w b now r z → reader_of z.stage ≡ Some n → lead_of z.stage ≡ Some x → z.lead ≡ Some x → (n.0 ≡ x.no.0 → ⊥) → by.late x (seen_of z.core.seen n.0) ≡ Some y
      → P (IsLost n y) ≡ true
  halts z n x y h on led lead apart late-so = let s = h.shows n on in go s.0 s.1 (same_coord s.0.exec x.exec) refl (ap (by.late x) (sym s.2) ∙ late-so)
    where
      go : (s : Status) → seen_in (status w n.0) ≡ Some s → (a : Bool) → same_coord s.exec x.exec ≡ a → cond a None (Some (lost.behind s.exec)) ≡ Some y → P (IsLost n y) ≡ true
      go s is true e f = cc
      go s is false e f =
          subst (λ (q : Why). P (IsLost n q) ≡ true) (same_Some (lost.behind s.exec) y f)
          (because h.first h.so n (lost.behind s.exec)
          (Halted x s (record { speaks = h.told n on; leads = sym h.led ∙ led; lead = sym h.lead ∙ lead; apart = apart }) (h.reads n on) is e))

  completes-good : (z : Recovery) (e : Ending) → MayEnd z e → SpeaksWith z → IsOnCourse z → Reading w b now r z → Good z → Good (ended_by z e)
  completes-good z (by.Loses n y) may speaks course h good = All-push Each z.outcome.lost _ good (strayed z n y h (read-at may.0) may.1)
    where
      read-at : WasRead z.stage n → reader_of z.stage ≡ Some n
      read-at (inl is) = ap reader_of is
      read-at (inr (x, is)) = ap reader_of is
  completes-good z (by.Frees n y) may speaks course h good =
      All-push Each z.outcome.lost _ good
      (halts z n may.0 y h (ap reader_of may.1) (ap lead_of may.1) (speaks.lead may.0 (ap lead_of may.1))
      (course.stage.apart n may.0 (ap lead_of may.1) (ap (λ (s : Stage). (info s).places) may.1)) may.2)
  completes-good z (by.Marks n) may speaks course h good = marked-good n z.outcome.lost good
  completes-good z e may speaks course h good = good

  module _ (read : ℕ) (x : Recovery) (so : Decisions (ground_of w b now) r x) (o : Op) (rest : List Op) (fits : Fits x.stage (o ∷ rest)) (speaks : SpeaksWith x) (going : IsOnWay x) (is : x.core.ops ≡ o ∷ rest) (good : Good x) where
    -- it goes to the position at which the designated one stopped
    trailing : (n : ServerNo) (y : Bridge) → x.stage ≡ stage.Trail n y → IsTrailing x n y
    trailing n y at = record {
      speaks = ap speaks_of at;
      leads = ap lead_of at;
      lead = speaks.lead y (ap lead_of at);
      apart = going.course.stage.apart n y (ap lead_of at) (ap (λ (s : Stage). (info s).places) at);
    }

    -- one more is lost for a true reason, and is started or not
    module _ (c : Cause) (ob : Option Observation) (e : by_deed w read now x.core rest (deed_of o) ≡ attempt.Stops c ob) where
      abbrev Met : Fate → Type 0
      Met g = Good (met w x c ob g).recovery

      missed : (n : ServerNo) (y : Why) → Reason w b now x n y → Good (loses x n y)
      missed n y h = All-push Each x.outcome.lost _ good (because x so n y h)

      by-purpose : (u : Purpose) (n : ServerNo) (y : Why) → Reason w b now x n y → Met (lost_on_way u n y)
      by-purpose purpose.Regroup n y h = missed n y h
      by-purpose _ n y h = missed n y h

      -- the cause is true of the stage's replica
      truth : (n : ServerNo) → speaks_of x.stage ≡ Some n → IsTrueOf w n c
      truth n h = subst (λ (a : Attempt). StopsTruly w n a) e (deed-true w x.core rest n read now (deed_of o) (due-speaks w read now x o rest fits speaks is n h))

      drain-met : (n : ServerNo) → speaks_of x.stage ≡ Some n → (y : Cause) → IsTrueOf w n y → Met (fate_of_drain n y)
      drain-met n on (cause.Unreachable m) t = missed n lost.unreachable (Unreached on t.1)
      drain-met n on y t = good

      errant-met : (n : ServerNo) (by : Way) (set : List Interval) → x.stage ≡ stage.Move n by → IsRefusedOn w x.core.seen n by (attaching.Errant set) → Met (fate_of_errant x.purpose n by)
      errant-met n (way.Auto to exec) set at refused = by-purpose x.purpose n (lost.ahead exec) (Errant to exec set at refused)
      errant-met n _ set at refused = good

      move-met : (n : ServerNo) (by : Way) → x.stage ≡ stage.Move n by → alone by n ≡ Some n → (f : AttachFault) → IsRefusedOn w x.core.seen n by f → IsTrueOf w n (cause_by n f)
          → Met (move_fate w x.purpose n by (loss_of (cause_by n f)))
      move-met n by at spoken attaching.Unreachable refused t = by-purpose x.purpose n lost.unreachable (Unreached (ap speaks_of at ∙ spoken) t.1)
      move-met n by at spoken (attaching.Running spot) refused t = by-purpose x.purpose n (lost.moved (spot_by (server_at w n.0))) (Running by spot at refused t.1)
      move-met n by at spoken (attaching.Interfered expected found) refused t = by-purpose x.purpose n (lost.moved found) (Interfered by expected found at refused)
      move-met n by at spoken attaching.Loop refused t = good
      move-met n by at spoken (attaching.Errant set) refused t = errant-met n by set at refused
      move-met n by at spoken (attaching.Purged first) refused t = by-purpose x.purpose n (lost.purged (place_on by)) (Purged by first at refused)
      move-met n by at spoken attaching.Memory refused t = by-purpose x.purpose n lost.unreachable (Unreached (ap speaks_of at ∙ spoken) t.1)

      -- a replica that goes its way at once
      moving-met : (n : ServerNo) (by : Way) → x.stage ≡ stage.Move n by → alone by n ≡ Some n → more_on by ≡ 1 → before by n ≡ [] → Met (move_fate w x.purpose n by (loss_of c))
      moving-met n by at spoken more none = go (due-goes w read now x o rest fits speaks is n by at).0
        where
          go : (o ≡ move by n) ⊎ ((before by n ≡ o ∷ []) × (rest ≡ tail_of (stage.Move n by))) → Met (move_fate w x.purpose n by (loss_of c))
          go (inl same) =
              let h = move-refused w read now x.core rest n by c ob more (due-goes w read now x o rest fits speaks is n by at).1 (subst (λ (y : Op). by_deed w read now x.core rest (deed_of y) ≡ attempt.Stops c ob) same e) in
              subst (λ (y : Cause). Met (move_fate w x.purpose n by (loss_of y))) (sym h.1)
              (move-met n by at spoken h.0 h.2 (subst (λ (y : Cause). IsTrueOf w n y) h.1 (truth n (ap speaks_of at ∙ spoken))))
          go (inr f) = let bad : [] ≡ o ∷ [] = sym none ∙ f.0 in cc

      -- one that goes by a match
      matched-met : (n : ServerNo) → ((m : Miss) → loss_of c ≡ Some (taking.Missed m) → Reason w b now x n (lost.unmatched m)) → Met (match_fate n (loss_of c))
      matched-met n why = go (loss_of c) refl
        where
          go : (l : Option Loss) → loss_of c ≡ l → Met (match_fate n l)
          go None same = good
          go (Some taking.Spent) same = good
          go (Some taking.Differs) same = good
          go (Some (taking.Missed m)) same = missed n (lost.unmatched m) (why m same)

      matching-met : (n to : ServerNo) (exec : Coord) (every : ℕ) → x.stage ≡ stage.Move n (way.Match to exec every) → Met (match_fate n (loss_of c))
      matching-met n to exec every at = go (due-goes w read now x o rest fits speaks is n (way.Match to exec every) at).0
        where
          stops-as : (y : Op) → o ≡ y → by_deed w read now x.core rest (deed_of y) ≡ attempt.Stops c ob
          stops-as y same = subst (λ (z : Op). by_deed w read now x.core rest (deed_of z) ≡ attempt.Stops c ob) same e

          go : (o ≡ op.CrossMatch n to) ⊎ ((op.Match n to every ∷ [] ≡ o ∷ []) × (rest ≡ tail_of (stage.Move n (way.Match to exec every)))) → Met (match_fate n (loss_of c))
          go (inl same) =
              let h = match-refused w read now x.core rest n to c ob (stops-as (op.CrossMatch n to) same) in
              matched-met n (λ m l. Unattached to exec every h.0 h.2.0 m at h.1 h.2.2 (ap loss_of (sym h.2.1) ∙ l))
          go (inr f) =
              let h = match-cause w read now x.core rest n to every c ob (stops-as (op.Match n to every) (sym (same-head (op.Match n to every) o [] [] f.0))) in
              matched-met n (λ m l. Unmatched to exec every h.0 m at h.2 (ap loss_of (sym h.1) ∙ l))

      way-met : (n : ServerNo) (by : Way) → x.stage ≡ stage.Move n by → Met (fate_of_move w x.purpose n by c)
      way-met n (way.Match to exec every) at = matching-met n to exec every at
      way-met n x at = moving-met n x at refl refl refl

      -- it was before the position at which the designated one stopped
      late-by : (n : ServerNo) (z : Bridge) (s : Status) → (n.0 ≡ z.no.0 → ⊥) → AimsAt x.core.seen n z → is_reached (aim_of x.core.seen (ExecOf z.no)) s.exec ≡ false → is_at_or_before z.exec s.exec ≡ false
      late-by n z s apart aims h = sym (ap (λ q. is_reached q s.exec) (aims apart)) ∙ h

      trail-met : (n : ServerNo) (z : Bridge) → IsTrailing x n z → AimsAt x.core.seen n z → (y : Cause) → IsTrueOf w n y → IsLate w n (aim_of x.core.seen (ExecOf z.no)) y → Met (fate_of_trail w n y)
      trail-met n z on aims (cause.Unreachable m) t l = missed n lost.unreachable (Unreached on.speaks t.1)
      trail-met n z on aims (cause.WaitSpent m) t l =
          missed n (lost.behind (exec_by (server_at w n.0)))
          (subst (λ (q : Coord). Reason w b now x n (lost.behind q)) (shown-exec w n.0 l.0 l.1) (Late z l.0 on l.1 (late-by n z l.0 on.apart aims l.2)))
      trail-met n z on aims y t l = good

      look-met : (n : ServerNo) → speaks_of x.stage ≡ Some n → (y : Cause) → IsTrueOf w n y → IsUnspent y → Met (fate_of_trail w n y)
      look-met n on (cause.Unreachable m) t l = missed n lost.unreachable (Unreached on t.1)
      look-met n on (cause.WaitSpent m) t l = absurd l
      look-met n on y t l = good

      late : (n : ServerNo) (z : Bridge) → speaks_of x.stage ≡ Some n → lead_of x.stage ≡ Some z → IsLate w n (aim_of x.core.seen (ExecOf z.no)) c
      late n z on led =
          subst (λ (a : Attempt). StopsLate w n (aim_of x.core.seen (ExecOf z.no)) a) e
          (deed-late w read now x.core rest (deed_of o) n z (due-speaks w read now x o rest fits speaks is n on) (due-waits w read now x o rest fits speaks is z led))

      stage-met : (s : Stage) → x.stage ≡ s → Met (fate w x.purpose s c)
      stage-met (stage.Drain n) at = drain-met n (ap speaks_of at) c (truth n (ap speaks_of at))
      stage-met (stage.Move n by) at = way-met n by at
      stage-met (stage.Join n p) at =
          missed n lost.unreachable
          (Unreached (ap speaks_of at) (subst (λ (a : Attempt). StopsUnreached w n a) e (asked-unreached w read now x.core rest (deed_of o) n (due-speaks w read now x o rest fits speaks is n (ap speaks_of at)) (due-asked w read now x o rest fits speaks is n p at))))
      stage-met (stage.Trail n z) at =
          trail-met n z (trailing n z at) (speaks.aims n z at) c (truth n (ap speaks_of at)) (late n z (ap speaks_of at) (ap lead_of at))
      stage-met (stage.Look n z) at =
          look-met n (ap speaks_of at) c (truth n (ap speaks_of at)) (subst (λ (a : Attempt). StopsUnspent a) e (look-unspent w read now x.core rest (deed_of o) (due-looks w read now x o rest fits speaks is n z at)))
      stage-met s at = good

  stepped-good : (x : Recovery) (o : Op) → Good x → Good (stepped x o)
  stepped-good x o good = by-end (ends x.stage (deed_of o))
    where
      left : (q : Option ServerNo) → Good (record (follows_no_more x q) { stage = moved x.stage })
      left None = good
      left (Some m) = good

      by-end : (a : Bool) → Good (cond a (entered x (moved x.stage)) x)
      by-end true = left (leaver (moved x.stage))
      by-end false = good

  borne-good : (x : Recovery) (c : Cause) (ob : Option Observation) (f : Fate) → Good (met w x c ob f).recovery → Good (borne x f)
  borne-good x c ob taking.Fails h = h
  borne-good x c ob f h = h

  abbrev Before : Recovery → Type 0
  Before x = HeldRecovery w x × SpeaksWith x × (Fine x × (Decisions (ground_of w b now) r x × Good x))

  keeps-good : (read : ℕ) → HeldRings w b.rings → Keeps w b read now Before (λ v x. SpeaksWith x × (IsOnCourse x × (Reading w b now r x × Good x))) (λ v x. Good x)
  keeps-good read rings = record {
    decides = λ x d may h. (
      decides-held w b now rings x d may h.0,
      decides-speaks w b now x d may h.1,
      (decides-fine w b now x d may h.2.0, (joined w b now h.2.1.0 (by.Then d may by.Still), decision-explained x h.2.1.0 d h.2.0 h.0.named may h.2.1.1)),
    );
    waits = λ x o rest ob es j did e h. h.2.1.1;
    acts = λ x o rest ob es j did e h.
        let fits = fits-of w x o rest did.ops h.0 in
        let on = went-of w read now x o rest ob es j did in
        let going = still-on x o rest did.ops h.2.0 in (
          stepped-speaks w read now x o rest fits h.1 did.ops ob es j did.goes on e,
          (
            stepped-course w read now x o rest did.ops fits going.course ob es j did.goes (on.done e),
            (stepped-reading w b now r read x h.2.1.0 o rest fits ob es j did.goes, stepped-good (record x { core = j }) o h.2.1.1),
          ),
        );
    continues = λ v x y ys is whole. whole.1.1.1;
    completes = λ v x e none may whole. completes-good x e may whole.0 whole.1.0 whole.1.1.0 whole.1.1.1;
    bears = λ x o rest c ob e stops is may h.
        borne-good x c ob (fate_of e)
        (subst (λ (f : Fate). Good (met w x c ob f).recovery) is
        (stage-met read x h.2.1.0 o rest (fits-of w x o rest stops.ops h.0) h.1 (still-on x o rest stops.ops h.2.0) stops.ops h.2.1.1 c ob stops.stops x.stage refl));
  }

pub taken-lost : (w : World) (b : BookState) (read : ℕ) (now : Moment) (r : Recovery) (P : Fact → Bool) → HeldRings w b.rings → HeldRecovery w r → Speaks r → ExplainsTruly w b now r P
    → AllLost P r.outcome.lost → AllLost P (taken w b read now r).recovery.outcome.lost
taken-lost w b read now r P rings held speaks why all =
    kept-whole w b read now (Before w b now r P why) (λ v x. SpeaksWith x × (IsOnCourse x × (Reading w b now r x × AllLost P x.outcome.lost))) (λ v x. AllLost P x.outcome.lost)
    (keeps-good w b now r P why read rings) (record { fails = λ x c ob f h. h.2.1.1; finishes = λ x o rest lines is e h. h.2.1.1 }) r (held, speaks.says, (inl speaks.way, (by.Still, all)))
