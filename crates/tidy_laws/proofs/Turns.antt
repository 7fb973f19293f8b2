-- An operation that is due makes exchanges in order, and what it leaves goes by servers of one cluster.
use Rattle.std.proofs.Common.{◌≡◌, ℕ, Bool, true, false, cond, not, List, [], ◌∷◌, refl, sym, ◌∙◌, ap, subst, Option, Some, None, Ok, Err, ◌&&◌, ◌==◌, IfSome}
use Rattle.tidy_laws.proofs.Prelude.{Aim, AllOrderly, AllShow, AllWithin, AreAlike, AreDueWithin, Attach, AttachAuto, Attached, Attempt, Attempts}
use Rattle.tidy_laws.proofs.Prelude.{Bridge, Cause, Clusters, Coord, Crossing, Deed, Detached, Exchange, GoesWithin, HeldJob, IsDueWithin}
use Rattle.tidy_laws.proofs.Prelude.{IsJobWithin, IsMove, IsOrderly, IsReadWithin, IsTriedWithin, IsTrim, IsTurnWithin, IsWaitFor, IsWithinCluster}
use Rattle.tidy_laws.proofs.Prelude.{IsWritten, Job, Match, Moment, Observation, Op, Placed, Position, Request, Server, ServerNo, Sight, SourceState}
use Rattle.tidy_laws.proofs.Prelude.{Status, StoodWithin, Stops, Txn, Without, World, after, aim_of, and_parts, attached_anew, attachment_in}
use Rattle.tidy_laws.proofs.Prelude.{attempts, bridge-parts, bridge_at, by_deed, by_match, by_ops, by_set, can_reach, crossed, deed_of, due-of}
use Rattle.tidy_laws.proofs.Prelude.{eqb-true, failed, finds, finds_crossing, footing, is_at_or_before, is_moved, is_under, label, live_spot, logs_at}
use Rattle.tidy_laws.proofs.Prelude.{match-parts, match_between, match_found, match_logs, next, not-moved, observed, option_and_then, option_map}
use Rattle.tidy_laws.proofs.Prelude.{position_of, read_by, restarts, same_Some, same_again, same_coord, same_spot, seen_in, seen_of, server_at}
use Rattle.tidy_laws.proofs.Prelude.{settled, shown_of, source_no, source_shown, spot_below, status, status_in, turned, until_by, with-one, with_seen}
use Rattle.tidy_laws.proofs.Prelude.attempt.{Goes}
use Rattle.tidy_laws.proofs.Prelude.aim
use Rattle.tidy_laws.proofs.Prelude.asking
use Rattle.tidy_laws.proofs.Prelude.cross
use Rattle.tidy_laws.proofs.Prelude.deed
use Rattle.tidy_laws.proofs.Prelude.fault
use Rattle.tidy_laws.proofs.Prelude.seeing
use Rattle.tidy_laws.proofs.Prelude.spot
use Rattle.tidy_laws.proofs.Positions.{All-slot}
use Rattle.tidy_laws.proofs.Tidying.{written-coords, written-target}
use Rattle.tidy_laws.proofs.Prelude.doing

-- ---- what a status shows

-- the server that answered
record Answers (w : World) (n : ℕ) (seen : Status) : Type 0 where
  server : Server
  there : server_at w n ≡ Some server
  is : seen ≡ shown_of w server

answers : (w : World) (n : ℕ) (seen : Status) → seen_in (status w n) ≡ Some seen → Answers w n seen
answers w n seen h = go (server_at w n) refl h
  where
    go : (o : Option Server) → server_at w n ≡ o → seen_in (status_in w o) ≡ Some seen → Answers w n seen
    go None at h = cc
    go (Some s) at h = by (s.up && s.desk) h
      where
        by : (b : Bool) → seen_in (cond b (Ok (shown_of w s)) (Err seeing.Unreachable)) ≡ Some seen → Answers w n seen
        by true h = record { server = s; there = at; is = sym (same_Some (shown_of w s) seen h) }
        by false h = cc

module _ (c : Clusters) (w : World) (placed : Placed w) (trim : IsTrim c w) where
  pub stood-within : (n : ℕ) (seen : Status) → seen_in (status w n) ≡ Some seen → StoodWithin c n (position_of seen)
  stood-within n seen h =
      let a = answers w n seen h in
      subst (λ (x : Status). StoodWithin c n (position_of x)) (sym a.is) (record {
        source = λ m from. ap label ((trim.replicates n a.server a.there).source m from);
        bare = λ none. (written-coords c w placed trim n a.server a.there).0;
      })

  pub read-within : (read : ℕ) (now : Moment) (n : ServerNo) → IsReadWithin c (observed w read now n)
  read-within read now n = λ seen h. stood-within n.0 seen h

-- a server at the expected position is below that source
spot-source : (r : Server) (m : ServerNo) (at : Coord) (x : SourceState) → same_spot (spot.At m at) (spot_below r x) ≡ true → source_no x ≡ Some m.0
spot-source r m at Without h = cc
spot-source r m at (Attached k) h = ap Some (sym (eqb-true m.0 k.0 (and_parts (m.0 == k.0) (same_coord at r.exec) h).0))
spot-source r m at (Detached k) h = ap Some (sym (eqb-true m.0 k.0 (and_parts (m.0 == k.0) (same_coord at r.exec) h).0))

-- ---- restarts

pub orderly-restarts : (c : Clusters) (w : World) (hands : List ServerNo) → AllOrderly c w (restarts hands)
orderly-restarts c w [] = tt
orderly-restarts c w (n ∷ ns) = (tt, orderly-restarts c (after w (Request n.0 asking.Start)) ns)

-- ---- bridges that were seen

module _ (c : Clusters) (xs : List Sight) (all : AllWithin c xs) where
  pub bridge-within : (n : ServerNo) (b : Bridge) → bridge_at n (seen_of xs n.0) ≡ Some b → IsWithinCluster c b
  bridge-within n b h =
      let p = bridge-parts n (seen_of xs n.0) b h in
      (all n.0 p.seen p.is).source b.source.0 p.from ∙ ap (λ (k : ℕ). label (c k)) p.no

module _ (c : Clusters) (w : World) (trim : IsTrim c w) (xs : List Sight) (all : AllWithin c xs) where
  live : (a : ServerNo) (m : ServerNo) (at : Coord) (r : Server) → server_at w a.0 ≡ Some r → same_spot (spot.At m at) (live_spot r (spot.At m at)) ≡ true → AreAlike c m.0 a.0
  live a m at r here h = ap label ((trim.replicates a.0 r here).source m.0 (spot-source r m at r.source h))

  -- back below the source that was seen
  pub back-within : (a : ServerNo) (e : Exchange) → crossed cross.Back a (bridge_at a (seen_of xs a.0)) ≡ Some e → IsOrderly c w e
  back-within a e h = go (bridge_at a (seen_of xs a.0)) refl h
    where
      go : (o : Option Bridge) → bridge_at a (seen_of xs a.0) ≡ o → crossed cross.Back a o ≡ Some e → IsOrderly c w e
      go None is h = cc
      go (Some x) is h =
          subst (λ (y : Exchange). IsOrderly c w y) (same_Some (Attach a.0 (spot.OwnEnd x.own) x.source x.exec) e h)
          (λ r at same. bridge-within c xs all a x is ∙ ap (λ (k : ℕ). label (c k)) (sym (bridge-parts a (seen_of xs a.0) x is).no))

  pub crossing-within : (d : Crossing) (a b : ServerNo) (e : Exchange) → finds_crossing (footing w xs) d a b ≡ true → crossed d a (bridge_at (read_by d a b) (seen_of xs (read_by d a b).0)) ≡ Some e → IsOrderly c w e
  crossing-within cross.Up a b e found h = go (bridge_at b (seen_of xs b.0)) refl h
    where
      go : (o : Option Bridge) → bridge_at b (seen_of xs b.0) ≡ o → crossed cross.Up a o ≡ Some e → IsOrderly c w e
      go None is h = cc
      go (Some x) is h =
          subst (λ (y : Exchange). IsOrderly c w y) (same_Some (Attach a.0 (spot.At x.no x.own) x.source x.exec) e h)
          (λ r at same. bridge-within c xs all b x is ∙ live a x.no x.own r at same)
  crossing-within cross.Down a b e found h = go (bridge_at b (seen_of xs b.0)) refl h
    where
      go : (o : Option Bridge) → bridge_at b (seen_of xs b.0) ≡ o → crossed cross.Down a o ≡ Some e → IsOrderly c w e
      go None is h = cc
      go (Some x) is h =
          subst (λ (y : Exchange). IsOrderly c w y) (same_Some (Attach a.0 (spot.At x.source x.exec) x.no x.own) e h)
          (λ r at same. sym (bridge-within c xs all b x is) ∙ live a x.source x.exec r at same)
  crossing-within cross.About a b e found h = go (bridge_at b (seen_of xs b.0)) refl h
    where
      go : (o : Option Bridge) → bridge_at b (seen_of xs b.0) ≡ o → crossed cross.About a o ≡ Some e → IsOrderly c w e
      go None is h = cc
      go (Some x) is h =
          let under = (and_parts (is_under (source_shown (seen_of xs b.0)) a.0) (logs_at w b.0) found).0 in
          let p = bridge-parts b (seen_of xs b.0) x is in
          let about : x.source.0 ≡ a.0 = eqb-true x.source.0 a.0 (sym (ap (λ o. is_under o a.0) (ap source_shown p.is ∙ p.from)) ∙ under) in
          subst (λ (y : Exchange). IsOrderly c w y) (same_Some (Attach a.0 (spot.OwnEnd x.exec) x.no x.own) e h)
          (λ r at same. sym (bridge-within c xs all b x is) ∙ ap (λ (k : ℕ). label (c k)) about)
  crossing-within cross.Back a b e found h = back-within a e h

  same-within : (n : ServerNo) (e : Exchange) → same_again n (seen_of xs n.0) ≡ Some e → IsOrderly c w e
  same-within n e h = go (seen_of xs n.0) refl h
    where
      by : (s : Position) (m : ServerNo) → seen_of xs n.0 ≡ Some s → source_no s.source ≡ Some m.0 → Some (Attach n.0 (spot.At m s.exec) m s.exec) ≡ Some e → IsOrderly c w e
      by s m is from h =
          subst (λ (y : Exchange). IsOrderly c w y) (same_Some (Attach n.0 (spot.At m s.exec) m s.exec) e h) (λ r at same. (all n.0 s is).source m.0 from)

      at : (s : Position) (x : SourceState) → seen_of xs n.0 ≡ Some s → s.source ≡ x → attached_anew n s.exec x ≡ Some e → IsOrderly c w e
      at s Without is from h = cc
      at s (Attached m) is from h = by s m is (ap source_no from) h
      at s (Detached m) is from h = by s m is (ap source_no from) h

      go : (o : Option Position) → seen_of xs n.0 ≡ o → same_again n o ≡ Some e → IsOrderly c w e
      go None is h = cc
      go (Some s) is h = at s s.source is refl h

  auto-within : (n m : ServerNo) (e : Exchange) → w.gtid ≡ true → AreAlike c m.0 n.0 → by_set n m (seen_of xs m.0) ≡ Some e → IsOrderly c w e
  auto-within n m e gtid same h = go (seen_of xs m.0) h
    where
      go : (o : Option Position) → by_set n m o ≡ Some e → IsOrderly c w e
      go None h = cc
      go (Some s) h = subst (λ (y : Exchange). IsOrderly c w y) (same_Some (AttachAuto n.0 s.set m) e h) (gtid, same)

-- ---- aims

module _ (c : Clusters) (w : World) (placed : Placed w) (trim : IsTrim c w) (xs : List Sight) (shown : AllShow w xs) (all : AllWithin c xs) where
  exec-written : (n : ℕ) (p : Position) → seen_of xs n ≡ Some p → IsWritten p.exec
  exec-written n p is = go p.source refl
    where
      go : (x : SourceState) → p.source ≡ x → IsWritten p.exec
      go Without from = (all n p is).bare from
      go (Attached m) from = written-target c w placed trim m.0 p.exec ((shown n p is).under m.0 (ap source_no from))
      go (Detached m) from = written-target c w placed trim m.0 p.exec ((shown n p is).under m.0 (ap source_no from))

  aim-written : (to : Aim) (at : Coord) → aim_of xs to ≡ Some at → IsWritten at
  aim-written (aim.EndOf n) at h = go (seen_of xs n.0) refl h
    where
      go : (o : Option Position) → seen_of xs n.0 ≡ o → option_and_then (λ s. s.own_end) o ≡ Some at → IsWritten at
      go None is h = cc
      go (Some p) is h = written-target c w placed trim n.0 at ((shown n.0 p is).own at h)
  aim-written (aim.ExecOf n) at h = go (seen_of xs n.0) refl h
    where
      go : (o : Option Position) → seen_of xs n.0 ≡ o → option_map (λ s. s.exec) o ≡ Some at → IsWritten at
      go None is h = cc
      go (Some p) is h = subst IsWritten (same_Some p.exec at h) (exec-written n.0 p is)

  until-written : (o : Option Position) (to : Option Coord) → ((at : Coord) → to ≡ Some at → IsWritten at) → IfSome (until_by o to) IsWritten
  until-written None to each = tt
  until-written (Some s) None each = tt
  until-written (Some s) (Some at) each = go (is_at_or_before at s.exec)
    where
      go : (b : Bool) → IfSome (cond b None (Some at)) IsWritten
      go true = tt
      go false = each at refl

-- servers whose logs match are of one cluster: that of the origin of their mark
matched-alike : (c : Clusters) (w : World) → IsTrim c w → (n m : ServerNo) (every : ℕ) (at : Coord) → match_logs w n m every ≡ Ok at → AreAlike c m.0 n.0
matched-alike c w trim n m every at h = go (can_reach (server_at w n.0)) (can_reach (server_at w m.0)) h
  where
    by : (o p : Option Server) → server_at w n.0 ≡ o → server_at w m.0 ≡ p → match_between every o p ≡ Ok at → AreAlike c m.0 n.0
    by None p at_n at_m h = cc
    by (Some x) None at_n at_m h = cc
    by (Some x) (Some y) at_n at_m h =
        let found = match-parts every x y at h in
        let one : c found.mark.origin.0 ≡ c n.0 = All-slot (λ (t : Txn). c t.origin.0 ≡ c n.0) x.history.txns found.i found.mark (trim.own n.0 x at_n).origins found.here.is in
        let other : c found.other.origin.0 ≡ c m.0 = All-slot (λ (t : Txn). c t.origin.0 ≡ c m.0) y.history.txns found.j found.other (trim.own m.0 y at_m).origins found.there.is in
        let same : found.other.origin.0 ≡ found.mark.origin.0 =
        eqb-true found.other.origin.0 found.mark.origin.0 (and_parts (found.other.origin.0 == found.mark.origin.0) (found.other.seq == found.mark.seq) found.same).0
        in
        ap label (sym other ∙ ap c same ∙ one)

    go : (a b : Bool) → cond (not a) (Err (fault.Unreachable n)) (cond (not b) (Err (fault.Unreachable m)) (match_between every (server_at w n.0) (server_at w m.0))) ≡ Ok at → AreAlike c m.0 n.0
    go false b h = cc
    go true false h = cc
    go true true h = by (server_at w n.0) (server_at w m.0) refl refl h

-- a change of source by a match stays within the cluster
found-within : (c : Clusters) (w : World) (n m : ServerNo) → AreAlike c m.0 n.0 → (o : Option Match) (e : Exchange) → by_match n m o ≡ Some e → IsOrderly c w e
found-within c w n m same None e h = cc
found-within c w n m same (Some x) e h = subst (IsOrderly c w) (same_Some (Attach n.0 x.spot m x.at) e h) (λ r at live. same)

-- ---- any operation

module _ (c : Clusters) (w : World) (read : ℕ) (now : Moment) (j : Job) (rest : List Op) (placed : Placed w) (trim : IsTrim c w) (shown : AllShow w j.seen) (all : AllWithin c j.seen) (again : AreDueWithin c j.ops) where
  abbrev Due : Deed → Type 0
  Due d = IsDueWithin c d (AreDueWithin c rest)

  saw-within : (n : ServerNo) (s : Status) → seen_in (status w n.0) ≡ Some s → AllWithin c (with_seen j.seen n (position_of s))
  saw-within n s is = with-one (StoodWithin c) j.seen n (position_of s) all (stood-within c w placed trim n.0 s is)

  learns : (n : ServerNo) (from : Option ServerNo) (s : Status) → seen_in (status w n.0) ≡ Some s → is_moved from s.source ≡ false → Due (deed.Look n from) → AreDueWithin c rest
  learns n None s seen e due = due
  learns n (Some m) s seen e due = due ((stood-within c w placed trim n.0 s seen).source m.0 (not-moved m s.source e))

  wait-due : (n : ServerNo) (d : Deed) → IsWaitFor n d → Due d → AreDueWithin c rest
  wait-due n d (doing.Awaits to) due = due
  wait-due n d _ due = due

  move-due : (n : ServerNo) (d : Deed) → IsMove n d → Due d → AreDueWithin c rest
  move-due n d (doing.Crosses x b) due = due
  move-due n d doing.Stays due = due
  move-due n d (doing.GoesBySet m) due = due.1
  move-due n d (doing.GoesByMatch m) due = due.1

  move-within : (n : ServerNo) (d : Deed) → IsMove n d → finds (footing w j.seen) d ≡ true → Due d → (e : Exchange) → attachment_in j d ≡ Some e → IsOrderly c w e
  move-within n d (doing.Crosses x b) found due e made = crossing-within c w trim j.seen all x n b e found made
  move-within n d doing.Stays found due e made = same-within c w trim j.seen all n e made
  move-within n d (doing.GoesBySet m) found due e made =
      let gtid : w.gtid ≡ true = (and_parts w.gtid ((footing w j.seen).read m.0 && (footing w j.seen).logs m.0) found).0 in auto-within c w trim j.seen all n m e gtid due.0 made
  move-within n d (doing.GoesByMatch m) found due e made = found-within c w n m due.0 (match_found j.matches n m) e made

  begins-written : (n : ServerNo) (to : Aim) (at : Coord) → until_by (seen_of j.seen n.0) (aim_of j.seen to) ≡ Some at → IsWritten at
  begins-written n to at until =
      subst (λ (o : Option Coord). IfSome o IsWritten) until
      (until-written c w placed trim j.seen shown all (seen_of j.seen n.0) (aim_of j.seen to) (aim-written c w placed trim j.seen shown all to))

  passed-within : AreDueWithin c rest → GoesWithin c w None [] (next j rest)
  passed-within due = record { orderly = tt; job = record { seen = all; left = due }; read = tt }

  within-by : (d : Deed) (a : Attempt) → Attempts w read now j rest d a → finds (footing w j.seen) d ≡ true → Due d → IsTriedWithin c w a
  within-by d a (doing.Misses n from k why) found due = read-within c w placed trim read now n
  within-by d a (doing.Fails x k why) found due = tt
  within-by d a (doing.Reads n from s seen is) found due =
      record { orderly = tt; job = record { seen = saw-within n s seen; left = learns n from s seen is due }; read = read-within c w placed trim read now n }
  within-by d a (doing.Asks n b) found due = record { orderly = (due.0, tt); job = record { seen = all; left = due.1 }; read = tt }
  within-by d a (doing.Begins n to at until) found due = record { orderly = (begins-written n to at until, tt); job = record { seen = all; left = due }; read = tt }
  within-by d a (doing.Omits n to none) found due = passed-within due
  within-by d a (doing.Waits n x s is seen short more) found due = record { orderly = tt; job = record { seen = saw-within n s seen; left = again }; read = tt }
  within-by d a (doing.Reaches n x s is seen over) found due = record { orderly = tt; job = record { seen = saw-within n s seen; left = wait-due n x is due }; read = tt }
  within-by d a (doing.Attaches n x e is made of can done) found due =
      record { orderly = (move-within n x is found due e made, tt); job = record { seen = all; left = move-due n x is due }; read = tt }
  within-by d a (doing.Passes n x is not-can) found due = passed-within (move-due n x is due)
  within-by d a (doing.Matches n m every at is) found due = record { orderly = tt; job = record { seen = all; left = due (matched-alike c w trim n m every at is) }; read = tt }
  within-by d a (doing.Finishes lines) found due = tt

pub deed-within : (c : Clusters) (w : World) (read : ℕ) (now : Moment) (j : Job) (rest : List Op) (d : Deed) → Placed w → IsTrim c w → AllShow w j.seen → AllWithin c j.seen → AreDueWithin c j.ops
    → finds (footing w j.seen) d ≡ true → IsDueWithin c d (AreDueWithin c rest) → IsTriedWithin c w (by_deed w read now j rest d)
deed-within c w read now j rest d placed trim shown all again found due =
    within-by c w read now j rest placed trim shown all again d (by_deed w read now j rest d) (attempts w read now j rest d) found due

-- ---- a turn of a plan's job

failed-within : (c : Clusters) (w : World) (j : Job) (why : Cause) (o : Option Observation) → AllWithin c j.seen → IfSome o (IsReadWithin c) → IsTurnWithin c w (failed j why o)
failed-within c w j why o all read = record { orderly = orderly-restarts c w j.hands; job = record { seen = all; left = tt }; read = read }

settled-within : (c : Clusters) (w : World) (j : Job) (a : Attempt) → AllWithin c j.seen → IsTriedWithin c w a → IsTurnWithin c w (settled j a)
settled-within c w j (Goes o es k) all fine = fine
settled-within c w j (Stops why o) all fine = failed-within c w j why o all fine
settled-within c w j (Rattle.run_laws.specs.Operations.Turns.Ends lines) all fine = record { orderly = tt; job = record { seen = all; left = tt }; read = tt }

pub turn-within : (c : Clusters) (w : World) (read : ℕ) (now : Moment) (j : Job) → Placed w → IsTrim c w → HeldJob w j → IsJobWithin c j → IsTurnWithin c w (turned w read now j)
turn-within c w read now j placed trim held within = go j.ops refl within.left
  where
    go : (ops : List Op) → j.ops ≡ ops → AreDueWithin c ops → IsTurnWithin c w (settled j (by_ops w read now j ops))
    go [] is due = record { orderly = tt; job = record { seen = within.seen; left = tt }; read = tt }
    go (op ∷ rest) is due =
        settled-within c w j (by_ops w read now j (op ∷ rest)) within.seen
        (deed-within c w read now j rest (deed_of op) placed trim held.shown within.seen within.left (due-of w j op rest is held.left held.matched).found due)
