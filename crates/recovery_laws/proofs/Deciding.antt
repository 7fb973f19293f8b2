-- What is decided at the start of a turn leaves a recovery with `Held`.
pub use Rattle.job_laws.proofs.Planned.{any-true as or-true}
use Rattle.std.proofs.Common.{◌≡◌, Bool, true, false, cond, List, [], ◌∷◌, ◌++◌, map, refl, ◌∙◌, ap, subst, Option, Some, None, ◌&&◌, IfSome, filter, is_some, option_map}
use Rattle.recovery_laws.proofs.Prelude.{All, All-append, All-at, All-better, All-chosen, All-cons, All-head, All-nil, All-tail, BookState, Bridge}
use Rattle.recovery_laws.proofs.Prelude.{Decision, Fits, Footing, HeldRecovery, HeldRings, IsHanding, IsLead, IsNext, IsReady, IsReadyStage}
use Rattle.recovery_laws.proofs.Prelude.{IsReadyWay, IsStopped, Matched, MayDecide, Moment, Op, Recovery, ServerNo, Sight, Spans, Stage, Stopped}
use Rattle.recovery_laws.proofs.Prelude.{Task, Way, World, and_parts, are_held, are_matched, before, better_of, both, choose, chosen-logs, chosen_of}
use Rattle.recovery_laws.proofs.Prelude.{decided, decided-walks, decided_by, decisions-keep, deed_of, drain, eq-eqb, expels, finds, footing}
use Rattle.recovery_laws.proofs.Prelude.{front-fits, ground_of, has_own, is_under, latest_that, level, logs_at, lot_by, matched_in, move, moves_in}
use Rattle.recovery_laws.proofs.Prelude.{moving, releases, result_lines, ring_at, seen-at, seen_of, sight_of, sort, source_shown, tail-fits, way-fits}
use Rattle.recovery_laws.proofs.Prelude.{way_below, way_by_set, why_of, with_bridge, with_way, without_stopped, working}
use Rattle.recovery_laws.proofs.Prelude.by
use Rattle.recovery_laws.proofs.Prelude.cross
use Rattle.recovery_laws.proofs.Prelude.op
use Rattle.recovery_laws.proofs.Prelude.stage
use Rattle.recovery_laws.proofs.Prelude.task
use Rattle.recovery_laws.proofs.Prelude.way
use Rattle.recovery_laws.proofs.Choosing.{self, All-latest, moves-ready, lot-ready}
use Rattle.recovery_laws.proofs.Ready.{spans-logs, bridge-shown, way-read, queue-more, stopped-more}
use Rattle.recovery_laws.proofs.StaysRead.{saw-read}

level-held : (f : Footing) (p q : ServerNo) → f.logs q.0 ≡ true → are_held f (level p q) ≡ true
level-held f p q logs = simp (self, logs, or-true) refl

module _ (w : World) where
  -- a stage begins with operations that have `Held`
  pub working-held : (r : Recovery) (s : Stage) (ops : List Op) → HeldRecovery w r → IsReadyStage w s → are_held (footing w r.core.seen) ops ≡ true
      → ((has : Matched) → are_matched has ops ≡ true) → Fits s ops → HeldRecovery w (working r s ops)
  working-held r s ops held ready left free fits = record {
    core = record { left = left; shown = held.core.shown; matched = free (matched_in r.core.matches); ends = held.core.ends };
    stage = ready;
    fits = fits;
    queue = held.queue;
    drained = held.drained;
    lead = held.lead;
    named = held.named;
  }

  -- the bridge's reading has what a reattachment by it uses
  down-found : (xs : List Sight) (b : Bridge) (n : ServerNo) → Spans w b → finds (footing w (with_bridge xs b)) (deed_of (op.Cross cross.Down n b.no)) ≡ true
  down-found xs b n s =
      both (is_some (source_shown (seen_of (with_bridge xs b) b.no.0))) (logs_at w b.no)
      (ap (λ o. is_some (source_shown o)) (seen-at xs b.no (sight_of b) b.no.0 ∙ ap (λ x. cond x (Some (sight_of b)) (seen_of xs b.no.0)) (self b.no.0))) (spans-logs w b s)

  pub about-held : (xs : List Sight) (f : ServerNo) (b : Bridge) → IsLead w f b → are_held (footing w (with_bridge xs b)) (op.Reset b.no ∷ op.Cross cross.About f b.no ∷ []) ≡ true
  about-held xs f b lead =
      let under : source_shown (seen_of (with_bridge xs b) b.no.0) ≡ Some b.source.0 =
      ap source_shown (seen-at xs b.no (sight_of b) b.no.0 ∙ ap (λ x. cond x (Some (sight_of b)) (seen_of xs b.no.0)) (self b.no.0)) in
      both (is_under (source_shown (seen_of (with_bridge xs b) b.no.0)) f.0 && logs_at w b.no) true
      (both (is_under (source_shown (seen_of (with_bridge xs b) b.no.0)) f.0) (logs_at w b.no)
      (ap (λ o. is_under o f.0) under ∙ eq-eqb b.source.0 f.0 lead.below) (spans-logs w b lead.spans)) refl

  way-held : (xs : List Sight) (n : ServerNo) (by : Way) → IsReadyWay w xs by → are_held (footing w (with_way xs by)) (before by n ++ move by n ∷ op.Start n ∷ []) ≡ true
  way-held xs n (way.Down b) s = both (finds (footing w (with_bridge xs b)) (deed_of (op.Cross cross.Down n b.no))) true (down-found xs b n s) refl
  way-held xs n (way.Up b) s = both (finds (footing w (with_bridge xs b)) (deed_of (op.Cross cross.Up n b.no))) true (down-found xs b n s) refl
  way-held xs n (way.Auto to exec) s =
      both (finds (footing w xs) (deed_of (op.Auto n to))) true (both w.gtid _ s.gtid (both (is_some (seen_of xs to.0)) (logs_at w to) s.read s.logs)) refl
  way-held xs n (way.Match to exec every) s = both (logs_at w to) true s refl

  way-free : (by : Way) (n : ServerNo) (has : Matched) → are_matched has (before by n ++ move by n ∷ op.Start n ∷ []) ≡ true
  way-free (way.Match to exec every) n has = simp self refl
  way-free _ n has = refl

  way-shown : (r : Recovery) (by : Way) → HeldRecovery w r → IsReadyWay w r.core.seen by → Rattle.job_laws.specs.Held.AllShow w (with_way r.core.seen by)
  way-shown r (way.Down b) held s = bridge-shown w r.core.seen b held.core.shown s
  way-shown r (way.Up b) held s = bridge-shown w r.core.seen b held.core.shown s
  way-shown r (way.Auto to exec) held s = held.core.shown
  way-shown r (way.Match to exec every) held s = held.core.shown

  pub moving-held : (r : Recovery) (n : ServerNo) (by : Way) → HeldRecovery w r → IsReadyWay w r.core.seen by → HeldRecovery w (moving r n by)
  moving-held r n by held ready = record {
    core = record { left = way-held r.core.seen n by ready; shown = way-shown r by held ready; matched = way-free by n (matched_in r.core.matches); ends = held.core.ends };
    stage = tt;
    fits = way-fits n by;
    queue = queue-more w r.core.seen (with_way r.core.seen by) (way-read r.core.seen by) r.queue held.queue;
    drained = stopped-more w r.core.seen (with_way r.core.seen by) (way-read r.core.seen by) r.failed r.drained held.drained;
    lead = held.lead;
    named = held.named;
  }

module _ (w : World) (b : BookState) (now : Moment) (rings : HeldRings w b.rings) where
  -- a successor that can be gone to by GTIDs was read, and logs
  below-ready : (seen : List Sight) (x s : ServerNo) (d : Stopped) (o : Option Way) → way_below (ground_of w b now) seen x s d ≡ o → IfSome o (IsReadyWay w seen)
  below-ready seen x s d o e = subst (λ (y : Option Way). IfSome y (IsReadyWay w seen)) e (go w.gtid refl)
    where
      by-set : (a : Bool) → w.gtid ≡ true → (is_some (seen_of seen s.0) && logs_at w s) ≡ a → IfSome (cond a (Some (way.Auto s d.exec)) None) (IsReadyWay w seen)
      by-set true g f = let parts = and_parts (is_some (seen_of seen s.0)) (logs_at w s) f in record { gtid = g; logs = parts.1; read = parts.0 }
      by-set false g f = tt

      by-log : (y : Option Bridge) → latest_that (has_own s d.exec) (ring_at b.rings x) ≡ y → IfSome (option_map way.Up y) (IsReadyWay w seen)
      by-log None f = tt
      by-log (Some y) f =
          (All-latest (Spans w) (has_own s d.exec) (ring_at b.rings x) y (All-at (All (Spans w)) b.rings x.0 [] (All-nil (Spans w)) rings.spans) f).0

      go : (g : Bool) → w.gtid ≡ g → IfSome (cond g (way_by_set w seen s d) (option_map way.Up (latest_that (has_own s d.exec) (ring_at b.rings x)))) (IsReadyWay w seen)
      go true g = by-set (is_some (seen_of seen s.0) && logs_at w s) g refl
      go false g = by-log (latest_that (has_own s d.exec) (ring_at b.rings x)) refl

  ready-map : (seen : List Sight) (t : ServerNo → Task) (ns : List ServerNo) → ((n : ServerNo) → IsReady w seen (t n)) → All (IsReady w seen) (map t ns)
  ready-map seen t [] each = All-nil (IsReady w seen)
  ready-map seen t (n ∷ ns) each = All-cons (IsReady w seen) (t n) (map t ns) (each n) (ready-map seen t ns each)

  -- with another queue and other drained ones
  queued-held : (r : Recovery) (ts : List Task) (ds : List Stopped) → HeldRecovery w r → All (IsReady w r.core.seen) ts → All (IsStopped w r.core.seen r.failed) ds
      → HeldRecovery w (record r { queue = ts; drained = ds })
  queued-held r ts ds held queue drained = record {
    core = held.core;
    stage = held.stage;
    fits = held.fits;
    queue = queue;
    drained = drained;
    lead = held.lead;
    named = held.named;
  }

  next-held : (r : Recovery) (t : Task) (ts : List Task) → IsNext r t ts → HeldRecovery w r → IsReady w r.core.seen t × HeldRecovery w (record r { queue = ts })
  next-held r t ts next held =
      let all = subst (λ (q : List Task). All (IsReady w r.core.seen) q) next.queue held.queue in
      (All-head (IsReady w r.core.seen) t ts all, queued-held r ts r.drained held (All-tail (IsReady w r.core.seen) t ts all) held.drained)

  handed-held : (r : Recovery) (d : Stopped) (ds : List Stopped) (o : Option Way) (ts : List Task) → IsHanding (ground_of w b now) r d ds o ts → HeldRecovery w r → HeldRecovery w (record r { drained = ds })
  handed-held r d ds o ts g held =
      queued-held r r.queue ds held held.queue
      (All-tail (IsStopped w r.core.seen r.failed) d ds (subst (λ (xs : List Stopped). All (IsStopped w r.core.seen r.failed) xs) g.drained held.drained))

  lead-of : (r : Recovery) (x : Bridge) → r.lead ≡ Some x → HeldRecovery w r → IsLead w r.failed x
  lead-of r x is held = subst (λ (o : Option Bridge). IfSome o (IsLead w r.failed)) is held.lead

  chooses-held : (r : Recovery) (p : Stopped) → HeldRecovery w r → chosen_of (ground_of w b now) r.failed r.drained ≡ Some p → HeldRecovery w (choose (ground_of w b now) r (Some p))
  chooses-held r p held e =
      let one = All-chosen w b now r.failed (IsStopped w r.core.seen r.failed) r.drained p held.drained e in
      let logs = chosen-logs w b now r.failed r.drained p e in
      queued-held r (moves_in (lot_by r.means (ground_of w b now) r.failed p) (without_stopped r.drained p.no) ++ r.queue) [] held
      (All-append (IsReady w r.core.seen) (moves_in (lot_by r.means (ground_of w b now) r.failed p) (without_stopped r.drained p.no)) r.queue
      (moves-ready w r.core.seen (lot_by r.means (ground_of w b now) r.failed p) (without_stopped r.drained p.no) (lot-ready w r.core.seen b r.failed p rings one logs r.means now)) held.queue)
      (All-nil (IsStopped w r.core.seen r.failed))

  sort-held : (r : Recovery) → HeldRecovery w r → HeldRecovery w (sort r)
  sort-held r held =
      let out = filter (λ n. expels r.purpose (why_of r.outcome.lost n)) r.replicas in
      let free = filter (λ n. releases r.purpose (why_of r.outcome.lost n)) r.replicas in
      queued-held r (map task.Expelling out ++ (map task.Releasing free ++ r.queue)) r.drained held
      (All-append (IsReady w r.core.seen) (map task.Expelling out) (map task.Releasing free ++ r.queue) (ready-map r.core.seen task.Expelling out (λ n. tt))
      (All-append (IsReady w r.core.seen) (map task.Releasing free) r.queue (ready-map r.core.seen task.Releasing free (λ n. tt)) held.queue)) held.drained

  better-logs : (r : Recovery) (p q : ServerNo) → better_of (ground_of w b now) r.failed p (map (λ x. x.no) r.outcome.followers) ≡ Some q → logs_at w q ≡ true
  better-logs r p q e = (All-better w b now r.failed (λ (k : ServerNo). Unit {0}) p (map (λ x. x.no) r.outcome.followers) q (units (map (λ x. x.no) r.outcome.followers)) e).1
    where
      units : (ks : List ServerNo) → All (λ (k : ServerNo). Unit {0}) ks
      units [] = All-nil (λ (k : ServerNo). Unit {0})
      units (k ∷ ks) = All-cons (λ (x : ServerNo). Unit {0}) k ks tt (units ks)

  pub decides-held : (r : Recovery) (d : Decision) → MayDecide (ground_of w b now) r d → HeldRecovery w r → HeldRecovery w (decided_by (ground_of w b now) r d)
  decides-held r (by.Reads n ts) next held =
      working-held w (record r { queue = ts }) (stage.Read n) (op.Status n None ∷ []) (next-held r (task.Reading n) ts next held).1 tt refl (λ has. refl) (front-fits (stage.Read n) (op.Status n None ∷ []) refl refl refl)
  decides-held r (by.Drains n ts) next held =
      working-held w (record r { queue = ts }) (stage.Drain n) (drain n) (next-held r (task.Draining n) ts next held).1 tt refl (λ has. refl)
      (record { front = op.StopReceiver n ∷ op.Settle n ∷ op.Stop n ∷ []; still = refl; is = refl; due = λ h. cc })
  decides-held r (by.Sends n way ts) next held = let h = next-held r (task.Moving n way) ts next held in moving-held w (record r { queue = ts }) n way h.1 h.0
  decides-held r (by.Expels n ts) next held = working-held w (record r { queue = ts }) (stage.Expel n) _ (next-held r (task.Expelling n) ts next held).1 tt refl (λ has. refl) (tail-fits (stage.Expel n))
  decides-held r (by.Releases n ts) next held =
      working-held w (record r { queue = ts }) (stage.Release n) (op.Start n ∷ []) (next-held r (task.Releasing n) ts next held).1 tt refl (λ has. refl) (front-fits (stage.Release n) (op.Start n ∷ []) refl refl refl)
  decides-held r (by.Looks n x ts) (next, e) held =
      working-held w (record r { queue = ts }) (stage.Look n x) (op.Status n None ∷ []) (next-held r (task.Trailing n) ts next held).1 (lead-of r x e held).spans refl (λ has. refl) (tail-fits (stage.Look n x))
  decides-held r (by.Yields x ts) (next, e) held =
      let h = (next-held r task.Yielding ts next held).1 in
      let lead = lead-of r x e held in
      record {
        core = record {
          left = about-held w r.core.seen r.failed x lead;
          shown = bridge-shown w r.core.seen x held.core.shown lead.spans;
          matched = refl;
          ends = held.core.ends;
        };
        stage = tt;
        fits = tail-fits (stage.Yield r.failed x.no);
        queue = queue-more w r.core.seen (with_bridge r.core.seen x) (saw-read r.core.seen x.no (sight_of x)) ts h.queue;
        drained = stopped-more w r.core.seen (with_bridge r.core.seen x) (saw-read r.core.seen x.no (sight_of x)) r.failed r.drained held.drained;
        lead = held.lead;
        named = held.named;
      }
  decides-held r (by.Sticks t ts) g held = queued-held r [] r.drained held (All-nil (IsReady w r.core.seen)) held.drained
  decides-held r (by.Chooses p ts) (next, e) held = chooses-held (record r { queue = ts }) p (next-held r task.Choosing ts next held).1 e
  decides-held r (by.ChoosesNobody ts) g held = queued-held r [] [] held (All-nil (IsReady w r.core.seen)) (All-nil (IsStopped w r.core.seen r.failed))
  decides-held r (by.Hands d ds way ts) g held =
      moving-held w (record r { drained = ds }) d.no way (handed-held r d ds (Some way) ts g held) (below-ready r.core.seen r.failed g.source d (Some way) g.way)
  decides-held r (by.Leaves d ds ts) g held = handed-held r d ds None ts g held
  decides-held r (by.HandedOver ts) g held = queued-held r ts [] held (next-held r task.Handing ts g.0 held).1.queue (All-nil (IsStopped w r.core.seen r.failed))
  decides-held r (by.Passes ts) g held = (next-held r task.Handing ts g.0 held).1
  decides-held r (by.Sorts ts) next held = sort-held (record r { queue = ts }) (next-held r task.Sorting ts next held).1
  decides-held r (by.Levels p q) g held =
      working-held w (record r { swaps = false }) (stage.Level p q) (level p q) held tt (level-held (footing w r.core.seen) p q (better-logs r p q g.3)) (λ has. refl)
      (record { front = op.Status p None ∷ op.Status q (Some p) ∷ op.Until q _ ∷ op.Await q _ ∷ op.Stop q ∷ op.Status q (Some p) ∷ []; still = refl; is = refl; due = λ h. cc })
  decides-held r by.Remains g held = held
  decides-held r (by.Crowns p) g held = working-held w r (stage.Crown p) _ held tt refl (λ has. refl) (tail-fits (stage.Crown p))
  decides-held r (by.Rejoins p) g held =
      working-held w r (stage.Close (result_lines r)) (op.Start p ∷ op.Finish (result_lines r) ∷ []) held tt refl (λ has. refl) (record { front = op.Start p ∷ []; still = refl; is = refl; due = λ h. cc })
  decides-held r by.Closes g held = working-held w r (stage.Close (result_lines r)) (op.Finish (result_lines r) ∷ []) held tt refl (λ has. refl) (tail-fits (stage.Close (result_lines r)))

pub decided-held : (w : World) (b : BookState) (now : Moment) (r : Recovery) → HeldRings w b.rings → HeldRecovery w r → HeldRecovery w (decided (ground_of w b now) r)
decided-held w b now r rings held = decisions-keep w b now (HeldRecovery w) (decides-held w b now rings) (decided-walks w b now r) held
