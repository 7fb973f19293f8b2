-- Each replica that goes some way was sent that way, and the position at which the designated one stopped was read.
use Rattle.std.proofs.Common.{◌≡◌, ℕ, Bool, true, false, cond, not, List, [], ◌∷◌, ◌++◌, filter, map, refl, sym, ◌∙◌, ap, subst, Option, Some, None, inl, ◌&&◌, ◌==◌, is_some, option_map}
use Rattle.recovery_reasons.proofs.Prelude.{All, All-append, All-chosen, All-cons, All-contains_itself, All-filter, All-head, All-nil, All-tail}
use Rattle.recovery_reasons.proofs.Prelude.{AreSent, Attached, Bearing, BookState, Bridge, Contains, Coord, Decision, Decisions, Ending}
use Rattle.recovery_reasons.proofs.Prelude.{ExplainsTruly, Fact, HeldRecovery, HeldRings, IsDue, IsLed, IsNext, IsOnCourse, IsSent, IsSentSo}
use Rattle.recovery_reasons.proofs.Prelude.{IsStopped, IsWayBelow, IsWayBeside, Keeps, Leads, Lot, MayDecide, MayEnd, Means, Moment, Op, Position}
use Rattle.recovery_reasons.proofs.Prelude.{Purpose, Recovery, SendsBelow, SendsBeside, SendsThere, ServerNo, Sight, SourceState, Speaks, SpeaksWith}
use Rattle.recovery_reasons.proofs.Prelude.{Stage, Status, Stopped, Task, Way, World, begun_recovery, borne, bridge_at, bridge_by, but, by_bridge}
use Rattle.recovery_reasons.proofs.Prelude.{chosen-logs, chosen_of, decided_by, decides-held, deed_of, ended, ended_by, ends, entered, expels}
use Rattle.recovery_reasons.proofs.Prelude.{fate_of, follows_no_more, ground_of, group_of, has_exec, has_own, info, is_before, joined, kept-whole}
use Rattle.recovery_reasons.proofs.Prelude.{latest_that, lead_of, lead_under, leaver, logs_at, lot_by, lot_by_group, move_of, moved, moves_in, own-is}
use Rattle.recovery_reasons.proofs.Prelude.{own_end_of, releases, ring_at, same_coord, same_Some, seen_in, seen_of, status, stepped, taken, way_below}
use Rattle.recovery_reasons.proofs.Prelude.{way_by_set, went-of, why_of, without_stopped}
use Rattle.recovery_reasons.proofs.Prelude.by
use Rattle.recovery_reasons.proofs.Prelude.deciding
use Rattle.recovery_reasons.proofs.Prelude.group
use Rattle.recovery_reasons.proofs.Prelude.lost
use Rattle.recovery_reasons.proofs.Prelude.means
use Rattle.recovery_reasons.proofs.Prelude.purpose
use Rattle.recovery_reasons.proofs.Prelude.source
use Rattle.recovery_reasons.proofs.Prelude.stage
use Rattle.recovery_reasons.proofs.Prelude.task
use Rattle.recovery_reasons.proofs.Prelude.way
use Rattle.recovery_reasons.proofs.Prelude.ways
use Rattle.recovery_reasons.proofs.Coordinates.{before-other}
use Rattle.recovery_reasons.proofs.Gathering.{Gathered, Gathers, stepped-gathers}
use Rattle.recovery_reasons.proofs.Listing.{IsListed, decides-listed, due-listed}
use Rattle.recovery_reasons.proofs.OnWay.{Fine, decides-fine, handing, next-on, still-on, stepped-course}
use Rattle.recovery_reasons.proofs.Readings.{Reading, fits-of, reader_of, stepped-reading}
use Rattle.recovery_reasons.proofs.Speaking.{decides-speaks, moved-goes, stepped-speaks}

-- ---- ways

module _ (w : World) (b : BookState) (now : Moment) where
  -- below the successor
  below-way : (seen : List Sight) (f n : ServerNo) (s : Stopped) (y : Way) → way_below (ground_of w b now) seen f n s ≡ Some y → IsWayBelow w b f n s y
  below-way seen f n s y h = go w.gtid refl h
    where
      by-set : w.gtid ≡ true → (a c : Bool) → logs_at w n ≡ c → cond (a && c) (Some (way.Auto n s.exec)) None ≡ Some y → IsWayBelow w b f n s y
      by-set on true true logs e = subst (IsWayBelow w b f n s) (same_Some (way.Auto n s.exec) y e) (ways.BySet on logs)
      by-set on true false logs e = cc
      by-set on false c logs e = cc

      by-log : w.gtid ≡ false → (o : Option Bridge) → latest_that (has_own n s.exec) (ring_at b.rings f) ≡ o → option_map way.Up o ≡ Some y → IsWayBelow w b f n s y
      by-log off None is e = cc
      by-log off (Some x) is e = subst (IsWayBelow w b f n s) (same_Some (way.Up x) y e) (ways.Rising x off is)

      go : (g : Bool) → w.gtid ≡ g → cond g (way_by_set w seen n s) (option_map way.Up (latest_that (has_own n s.exec) (ring_at b.rings f))) ≡ Some y → IsWayBelow w b f n s y
      go true e g = by-set e (is_some (seen_of seen n.0)) (logs_at w n) refl g
      go false e g = by-log e (latest_that (has_own n s.exec) (ring_at b.rings f)) refl g

  -- beside the chosen one, whose own end was seen
  abbrev MaySend : Means → ServerNo → Stopped → Stopped → Lot → Type 0
  MaySend u f p s (deciding.Goes y) = IsWayBeside w b u f p s y
  MaySend u f p s (deciding.Stays y) = Unit {0}

  beside-way : (u : Means) (f : ServerNo) (p s : Stopped) → p.own_end ≡ Some (own_end_of p) → MaySend u f p s (lot_by u (ground_of w b now) f p s)
  beside-way (means.Matches every) f p s end = ways.Matching every refl
  beside-way means.Bridges f p s end = go w.gtid refl
    where
      kept : w.gtid ≡ false → is_before s.exec p.exec ≡ true → (o : Option Bridge) → latest_that (has_exec f s.exec) (ring_at b.rings p.no) ≡ o → MaySend means.Bridges f p s (lot_by_group p.no f s (by_bridge o))
      kept off less None e = tt
      kept off less (Some x) e = ways.Lower x refl off less e

      later : w.gtid ≡ false → same_coord s.exec p.exec ≡ false → (a : Bool) → is_before p.exec s.exec ≡ a
          → MaySend means.Bridges f p s (lot_by_group p.no f s (cond a group.Ahead (by_bridge (latest_that (has_exec f s.exec) (ring_at b.rings p.no)))))
      later off other true e = tt
      later off other false e = kept off (before-other s.exec p.exec e other) (latest_that (has_exec f s.exec) (ring_at b.rings p.no)) refl

      level : w.gtid ≡ false → (a : Bool) → same_coord s.exec p.exec ≡ a
          → MaySend means.Bridges f p s (lot_by_group p.no f s (cond a (group.Follow (own_end_of p)) (cond (is_before p.exec s.exec) group.Ahead (by_bridge (latest_that (has_exec f s.exec) (ring_at b.rings p.no))))))
      level off true e = ways.Level (own_end_of p) refl off e end
      level off false e = later off e (is_before p.exec s.exec) refl

      go : (g : Bool) → w.gtid ≡ g → MaySend means.Bridges f p s (cond g (deciding.Goes (way.Auto p.no s.exec)) (lot_by_group p.no f s (group_of b.rings p.no (own_end_of p) p.exec f s.exec)))
      go true e = ways.ByGtids refl e
      go false e = level e (same_coord s.exec p.exec) refl

-- ---- tasks

module _ (w : World) (b : BookState) (now : Moment) (r : Recovery) (P : Fact → Bool) (why : ExplainsTruly w b now r P) where
  abbrev Sent : Task → Type 0
  Sent t = IsSentSo P t

  others-sent : (t : ServerNo → Task) → ((n : ServerNo) → Sent (t n)) → (ns : List ServerNo) → All Sent (map t ns)
  others-sent t each [] = All-nil Sent
  others-sent t each (n ∷ ns) = All-cons Sent (t n) (map t ns) (each n) (others-sent t each ns)

  -- at another stage than one that goes some way
  resting : (x y : Recovery) → All Sent y.queue → ((n : ServerNo) (go : Way) → y.stage ≡ stage.Move n go → ⊥) → y.lead ≡ x.lead → AreSent P x → AreSent P y
  resting x y queue off lead h = record {
    queue = queue;
    going = λ n go at. absurd (off n go at);
    lead = λ z e. h.lead z (sym lead ∙ e);
  }

  -- at the same stage
  keeping : (x y : Recovery) → All Sent y.queue → y.stage ≡ x.stage → y.lead ≡ x.lead → AreSent P x → AreSent P y
  keeping x y queue at lead h = record {
    queue = queue;
    going = λ n go e. h.going n go (sym at ∙ e);
    lead = λ z e. h.lead z (sym lead ∙ e);
  }

  -- one goes its way
  abbrev goer_of : Stage → Option (ServerNo × Way)
  goer_of (stage.Move n go) = Some (n, go)
  goer_of s = None

  sending : (x y : Recovery) (n : ServerNo) (go : Way) → All Sent y.queue → y.stage ≡ stage.Move n go → P (IsSent n go) ≡ true → y.lead ≡ x.lead → AreSent P x → AreSent P y
  sending x y n go queue at told lead h = record {
    queue = queue;
    going = λ m other e.
        subst (λ (z : ServerNo × Way). P (IsSent z.0 z.1) ≡ true) (same_Some (n, go) (m, other) (ap goer_of (sym at ∙ e))) told;
    lead = λ z e. h.lead z (sym lead ∙ e);
  }

  behind : (x : Recovery) (t : Task) (ts : List Task) → IsNext x t ts → AreSent P x → All Sent ts
  behind x t ts next h = All-tail Sent t ts (subst (λ (xs : List Task). All Sent xs) next.queue h.queue)

  -- ---- what is decided

  module _ (x : Recovery) (so : Decisions (ground_of w b now) r x) where
    moves-sent : (p : Stopped) (ss : List Stopped) → IsDue task.Choosing x → chosen_of (ground_of w b now) x.failed x.drained ≡ Some p → p.own_end ≡ Some (own_end_of p)
        → All (Contains x.drained) ss → All Sent (moves_in (lot_by x.means (ground_of w b now) x.failed p) ss)
    moves-sent p [] due is end there = All-nil Sent
    moves-sent p (s ∷ ss) due is end there =
        All-append Sent (move_of s (lot_by x.means (ground_of w b now) x.failed p s)) (moves_in (lot_by x.means (ground_of w b now) x.failed p) ss)
        (go (lot_by x.means (ground_of w b now) x.failed p s) (beside-way w b now x.means x.failed p s end)) (moves-sent p ss due is end (All-tail (Contains x.drained) s ss there))
      where
        go : (y : Lot) → MaySend w b now x.means x.failed p s y → All Sent (move_of s y)
        go (deciding.Goes y) h =
            All-cons Sent (task.Moving s.no y) [] (why x (IsSent s.no y) so (SendsBeside p s due is (All-head (Contains x.drained) s ss there) h)) (All-nil Sent)
        go (deciding.Stays y) h = All-nil Sent

    decided-sent : (d : Decision) → HeldRings w b.rings → HeldRecovery w x → Fine x → MayDecide (ground_of w b now) x d → AreSent P x → AreSent P (decided_by (ground_of w b now) x d)
    decided-sent (by.Chooses p ts) rings held fine m h =
        let stopped = All-chosen w b now x.failed (IsStopped w x.core.seen x.failed) x.drained p held.drained m.1 in
        let end = own-is w x.core.seen b x.failed p rings stopped (chosen-logs w b now x.failed x.drained p m.1) in
        keeping x (decided_by (ground_of w b now) x (by.Chooses p ts))
        (All-append Sent (moves_in (lot_by x.means (ground_of w b now) x.failed p) (without_stopped x.drained p.no)) ts
        (moves-sent p (without_stopped x.drained p.no) (ts, m.0) m.1 end (All-filter (λ s. not (s.no.0 == p.no.0)) (Contains x.drained) x.drained (All-contains_itself x.drained))) (behind x task.Choosing ts m.0 h)) refl refl h
    decided-sent (by.ChoosesNobody ts) rings held fine m h = keeping x (decided_by (ground_of w b now) x (by.ChoosesNobody ts)) (All-nil Sent) refl refl h
    decided-sent (by.Sticks t ts) rings held fine m h = keeping x (decided_by (ground_of w b now) x (by.Sticks t ts)) (All-nil Sent) refl refl h
    decided-sent (by.Sends n go ts) rings held fine m h =
        sending x (decided_by (ground_of w b now) x (by.Sends n go ts)) n go (behind x (task.Moving n go) ts m h) refl
        (All-head Sent (task.Moving n go) ts (subst (λ (xs : List Task). All Sent xs) m.queue h.queue)) refl h
    decided-sent (by.Hands d ds go ts) rings held fine m h =
        let one = handing w b now x d ds (Some go) ts (next-on x task.Handing ts m.next fine) m in
        sending x (decided_by (ground_of w b now) x (by.Hands d ds go ts)) d.no go h.queue refl
        (why x (IsSent d.no go) so (SendsBelow m.source d ds (ts, m.next) one.0 m.chosen m.drained (below-way w b now x.core.seen x.failed m.source d go m.way))) refl h
    decided-sent (by.Leaves d ds ts) rings held fine m h = keeping x (decided_by (ground_of w b now) x (by.Leaves d ds ts)) h.queue refl refl h
    decided-sent (by.HandedOver ts) rings held fine m h = keeping x (decided_by (ground_of w b now) x (by.HandedOver ts)) (behind x task.Handing ts m.0 h) refl refl h
    decided-sent (by.Passes ts) rings held fine m h = keeping x (decided_by (ground_of w b now) x (by.Passes ts)) (behind x task.Handing ts m.0 h) refl refl h
    decided-sent (by.Sorts ts) rings held fine m h =
        keeping x (decided_by (ground_of w b now) x (by.Sorts ts))
        (All-append Sent (map task.Expelling outs) (map task.Releasing free ++ ts) (others-sent task.Expelling (λ n. tt) outs)
        (All-append Sent (map task.Releasing free) ts (others-sent task.Releasing (λ n. tt) free) (behind x task.Sorting ts m h))) refl refl h
      where
        outs : List ServerNo
        outs = filter (λ n. expels x.purpose (why_of x.outcome.lost n)) x.replicas

        free : List ServerNo
        free = filter (λ n. releases x.purpose (why_of x.outcome.lost n)) x.replicas
    decided-sent by.Remains rings held fine m h = keeping x (decided_by (ground_of w b now) x by.Remains) h.queue refl refl h
    decided-sent (by.Reads n ts) rings held fine m h = resting x (decided_by (ground_of w b now) x (by.Reads n ts)) (behind x (task.Reading n) ts m h) (λ k go e. cc) refl h
    decided-sent (by.Drains n ts) rings held fine m h = resting x (decided_by (ground_of w b now) x (by.Drains n ts)) (behind x (task.Draining n) ts m h) (λ k go e. cc) refl h
    decided-sent (by.Expels n ts) rings held fine m h = resting x (decided_by (ground_of w b now) x (by.Expels n ts)) (behind x (task.Expelling n) ts m h) (λ k go e. cc) refl h
    decided-sent (by.Releases n ts) rings held fine m h = resting x (decided_by (ground_of w b now) x (by.Releases n ts)) (behind x (task.Releasing n) ts m h) (λ k go e. cc) refl h
    decided-sent (by.Looks n z ts) rings held fine m h = resting x (decided_by (ground_of w b now) x (by.Looks n z ts)) (behind x (task.Trailing n) ts m.0 h) (λ k go e. cc) refl h
    decided-sent (by.Yields z ts) rings held fine m h = resting x (decided_by (ground_of w b now) x (by.Yields z ts)) (behind x task.Yielding ts m.0 h) (λ k go e. cc) refl h
    decided-sent (by.Levels p q) rings held fine m h = resting x (decided_by (ground_of w b now) x (by.Levels p q)) h.queue (λ k go e. cc) refl h
    decided-sent (by.Crowns p) rings held fine m h = resting x (decided_by (ground_of w b now) x (by.Crowns p)) h.queue (λ k go e. cc) refl h
    decided-sent (by.Rejoins p) rings held fine m h = resting x (decided_by (ground_of w b now) x (by.Rejoins p)) h.queue (λ k go e. cc) refl h
    decided-sent by.Closes rings held fine m h = resting x (decided_by (ground_of w b now) x by.Closes) h.queue (λ k go e. cc) refl h

  -- ---- the operation

  stepped-sent : (x : Recovery) (o : Op) → AreSent P x → AreSent P (stepped x o)
  stepped-sent x o h = by-end (ends x.stage (deed_of o))
    where
      next : (q : Option ServerNo) → AreSent P (record (follows_no_more x q) { stage = moved x.stage })
      next None = resting x (record (follows_no_more x None) { stage = moved x.stage }) h.queue (moved-goes x.stage) refl h
      next (Some m) = resting x (record (follows_no_more x (Some m)) { stage = moved x.stage }) h.queue (moved-goes x.stage) refl h

      by-end : (a : Bool) → AreSent P (cond a (entered x (moved x.stage)) x)
      by-end true = next (leaver (moved x.stage))
      by-end false = h

  -- ---- the end of a stage

  -- it stopped where the designated one stopped
  joins-told : (z : Recovery) (n : ServerNo) (x : Bridge) → MayEnd z (by.Joins n x) → SpeaksWith z → IsOnCourse z → Reading w b now r z → P (IsSent n (way.Down x)) ≡ true
  joins-told z n x may speaks course h = let s = h.shows n on in go s.0 s.1 (same_coord s.0.exec x.exec) refl (ap (by.late x) (sym s.2) ∙ may.1)
    where
      on : reader_of z.stage ≡ Some n
      on = ap reader_of may.0

      led : lead_of z.stage ≡ Some x
      led = ap lead_of may.0

      go : (s : Status) → seen_in (status w n.0) ≡ Some s → (a : Bool) → same_coord s.exec x.exec ≡ a → cond a None (Some (lost.behind s.exec)) ≡ None → P (IsSent n (way.Down x)) ≡ true
      go s is true e f =
          why h.first (IsSent n (way.Down x)) h.so
          (SendsThere x s
          (record {
            speaks = h.told n on;
            leads = sym h.led ∙ led;
            lead = sym h.lead ∙ speaks.lead x led;
            apart = course.stage.apart n x led (ap (λ (s : Stage). (info s).places) may.0);
          })
          (h.reads n on) is e)
      go s is false e f = cc

  -- the position at which the designated one stopped, below its master
  led-told : (z : Recovery) (m d : ServerNo) → Gathered w b now r z m d → (x : Bridge) → lead_under z.failed (bridge_at d (seen_of z.core.seen d.0)) ≡ Some x → P (IsLed x) ≡ true
  led-told z m d g x h =
      let noted = ap (λ (o : Option Position). lead_under z.failed (bridge_at d o)) (sym g.reads.noted) ∙ h in
      go g.reads.shown.own_end refl (ap (λ (s : SourceState). lead_under z.failed (bridge_by d g.reads.shown.own_end s g.reads.shown.exec)) (sym g.reads.below) ∙ noted)
    where
      made : (own : Coord) → Bridge
      made own = record { no = d; source = g.reads.source; own = own; exec = g.reads.shown.exec }

      told : (own : Coord) → g.reads.shown.own_end ≡ Some own → P (IsLed (made own)) ≡ true
      told own end = why g.first (IsLed (made own)) g.so (Leads m g.reads.shown g.stage g.due g.reads.is g.reads.below end refl)

      under : (own : Coord) → g.reads.shown.own_end ≡ Some own → (a : Bool) → cond a (Some (made own)) None ≡ Some x → P (IsLed x) ≡ true
      under own end true e = subst (λ (y : Bridge). P (IsLed y) ≡ true) (same_Some (made own) x e) (told own end)
      under own end false e = cc

      go : (o : Option Coord) → g.reads.shown.own_end ≡ o → lead_under z.failed (bridge_by d o (Attached g.reads.source) g.reads.shown.exec) ≡ Some x → P (IsLed x) ≡ true
      go None end e = cc
      go (Some own) end e = under own end (g.reads.source.0 == z.failed.0) e

  completes-sent : (z : Recovery) (e : Ending) → z.core.ops ≡ [] → MayEnd z e → SpeaksWith z → IsOnCourse z → Reading w b now r z → Gathers w b now r z → AreSent P z → AreSent P (ended_by z e)
  completes-sent z (by.Joins n x) none may speaks course h gathers sent = sending z (ended_by z (by.Joins n x)) n (way.Down x) sent.queue refl (joins-told z n x may speaks course h) refl sent
  completes-sent z (by.Leads d) none may speaks course h gathers sent = record {
    queue = sent.queue;
    going = λ n go at. cc;
    lead = λ x e. led-told z may.0 d (gathers may.0 d may.1 none) x e;
  }
  completes-sent z by.Rests none may speaks course h gathers sent = resting z (ended_by z by.Rests) sent.queue (λ n go at. cc) refl sent
  completes-sent z e none may speaks course h gathers sent = resting z (ended_by z e) sent.queue (λ n go at. cc) refl sent

  borne-sent : (x : Recovery) (e : Bearing) → AreSent P x → AreSent P (borne x (fate_of e))
  borne-sent x by.Drops h = resting x (borne x (fate_of by.Drops)) h.queue (λ n go at. cc) refl h
  borne-sent x e h = resting x (borne x (fate_of e)) h.queue (λ n go at. cc) refl h

  -- ---- a turn

  abbrev pub Before : Recovery → Type 0
  Before x = HeldRecovery w x × SpeaksWith x × Fine x × IsListed x × Decisions (ground_of w b now) r x × AreSent P x

  abbrev Between : World → Recovery → Type 0
  Between v x = SpeaksWith x × IsOnCourse x × Reading w b now r x × Gathers w b now r x × AreSent P x

  pub decides-sent : HeldRings w b.rings → (x : Recovery) (d : Decision) → MayDecide (ground_of w b now) x d → Before x → Before (decided_by (ground_of w b now) x d)
  decides-sent rings x d may h = (
    decides-held w b now rings x d may h.0,
    decides-speaks w b now x d may h.1,
    decides-fine w b now x d may h.2,
    decides-listed w b now x d may h.3,
    joined w b now h.4 (by.Then d may by.Still),
    decided-sent x h.4 d rings h.0 h.2 may h.5,
  )

  keeps-sent : (read : ℕ) → HeldRings w b.rings → Keeps w b read now Before Between (λ v x. AreSent P x)
  keeps-sent read rings = record {
    decides = decides-sent rings;
    waits = λ x o rest ob es j did e h. keeping x (record x { core = j }) h.5.queue refl refl h.5;
    acts = λ x o rest ob es j did e h.
        let fits = fits-of w x o rest did.ops h.0 in
        let on = went-of w read now x o rest ob es j did in (
          stepped-speaks w read now x o rest fits h.1 did.ops ob es j did.goes on e,
          stepped-course w read now x o rest did.ops fits (still-on x o rest did.ops h.2).course ob es j did.goes (on.done e),
          stepped-reading w b now r read x h.4 o rest fits ob es j did.goes,
          stepped-gathers w b now r read x h.4 o rest did.ops fits (due-listed x o rest did.ops h.3) ob es j did.goes (on.done e),
          stepped-sent (record x { core = j }) o (keeping x (record x { core = j }) h.5.queue refl refl h.5),
        );
    continues = λ v x y ys is h. h.4;
    completes = λ v x e none may h. completes-sent x e none may h.0 h.1 h.2 h.3 h.4;
    bears = λ x o rest c ob e stops is may h. borne-sent x e h.5;
  }

  over-sent : (x : Recovery) → AreSent P x → AreSent P (record x { core = ended x.core })
  over-sent x h = keeping x (record x { core = ended x.core }) h.queue refl refl h

  pub taken-sent : (read : ℕ) → HeldRings w b.rings → HeldRecovery w r → Speaks r → AreSent P r → AreSent P (taken w b read now r).recovery
  taken-sent read rings held speaks sent =
      kept-whole w b read now Before Between (λ v x. AreSent P x) (keeps-sent read rings)
      (record { fails = λ x c ob f h. over-sent x h.5; finishes = λ x o rest lines is e h. over-sent x h.5 }) r
      (held, speaks.says, inl speaks.way, speaks.listed, by.Still, sent)

-- ---- a recovery that begins

pub begun-sent : (P : Fact → Bool) (u : Purpose) (by : Means) (id wait : ℕ) (f : ServerNo) (ns order : List ServerNo) → AreSent P (begun_recovery u by id wait f ns order)
begun-sent P u by id wait f ns order = go u
  where
    calm : (t : ServerNo → Task) → ((n : ServerNo) → IsSentSo P (t n)) → (ks : List ServerNo) → All (IsSentSo P) (map t ks)
    calm t each [] = All-nil (IsSentSo P)
    calm t each (k ∷ ks) = All-cons (IsSentSo P) (t k) (map t ks) (each k) (calm t each ks)

    two : (t : Task) → IsSentSo P t → All (IsSentSo P) (t ∷ task.Sorting ∷ [])
    two t h = All-cons (IsSentSo P) t (task.Sorting ∷ []) h (All-cons (IsSentSo P) task.Sorting [] tt (All-nil (IsSentSo P)))

    go : (v : Purpose) → AreSent P (begun_recovery v by id wait f ns order)
    go purpose.Regroup = record {
      queue = All-append (IsSentSo P) (map task.Draining ns) (task.Choosing ∷ task.Sorting ∷ []) (calm task.Draining (λ n. tt) ns) (two task.Choosing tt);
      going = λ n y at. cc;
      lead = λ x e. cc;
    }
    go purpose.Master = record {
      queue = All-append (IsSentSo P) (map task.Draining ns) (task.Choosing ∷ task.Sorting ∷ []) (calm task.Draining (λ n. tt) ns) (two task.Choosing tt);
      going = λ n y at. cc;
      lead = λ x e. cc;
    }
    go (purpose.Intermediate s) = record {
      queue =
          All-cons (IsSentSo P) (task.Reading s) _ tt
          (All-append (IsSentSo P) (map task.Draining ns) (task.Handing ∷ task.Sorting ∷ []) (calm task.Draining (λ n. tt) ns) (two task.Handing tt));
      going = λ n y at. cc;
      lead = λ x e. cc;
    }
    go (purpose.Takeover d) = record {
      queue =
          All-append (IsSentSo P) (map task.Trailing (but ns d)) (task.Yielding ∷ []) (calm task.Trailing (λ n. tt) (but ns d))
          (All-cons (IsSentSo P) task.Yielding [] tt (All-nil (IsSentSo P)));
      going = λ n y at. cc;
      lead = λ x e. cc;
    }
