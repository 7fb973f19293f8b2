-- The last reading of the designated one of a takeover, which shows the position at which it stopped.
use Rattle.std.proofs.Common.{◌≡◌, ℕ, Bool, true, false, cond, not, List, [], ◌∷◌, ◌++◌, refl, sym, ◌∙◌, ap, subst, Option, Some, None, Ok, Err, ◌⊎◌, inl, inr, ◌&&◌, ◌==◌, is_some}
use Rattle.recovery_reasons.proofs.Prelude.{AreLeft, Attached, Attempt, Bearing, BookState, Bridge, Coord, Decision, Decisions, Detached, Ending, Exchange}
use Rattle.recovery_reasons.proofs.Prelude.{Fits, HeldRecovery, HeldRings, IsGathering, IsMeeting, IsOnCourse, IsRest, Job, Keeps, KnowsLead}
use Rattle.recovery_reasons.proofs.Prelude.{MayBear, MayDecide, MayEnd, Means, Moment, NamesLogging, Observation, Op, Position, Purpose, Recovery, Server, ServerNo, Sight}
use Rattle.recovery_reasons.proofs.Prelude.{SourceState, Stage, Status, World, after_look, after_status, begun_recovery, borne, bridge_at, bridge_by}
use Rattle.recovery_reasons.proofs.Prelude.{by_deed, decided_by, decides-held, decides-idle, deed_of, end_of, ended_by, ends, entered, eq-eqb, eqb-true, false≢true}
use Rattle.recovery_reasons.proofs.Prelude.{fate_of, fits-step, follows_no_more, gathering, ground_of, is_going, is_moved, is_takeover, joined}
use Rattle.recovery_reasons.proofs.Prelude.{kept-along, lead_under, leaver, logs_at, logs_by, moved, moved-fits, observed, position_of, rests, same-tail, same_Some}
use Rattle.recovery_reasons.proofs.Prelude.{seen-at, seen_in, seen_of, server_at, shown_of, status, status_in, stepped, tail_of, taken, went-of}
use Rattle.recovery_reasons.proofs.Prelude.attempt
use Rattle.recovery_reasons.proofs.Prelude.by
use Rattle.recovery_reasons.proofs.Prelude.op
use Rattle.recovery_reasons.proofs.Prelude.purpose
use Rattle.recovery_reasons.proofs.Prelude.seeing
use Rattle.recovery_reasons.proofs.Prelude.source
use Rattle.recovery_reasons.proofs.Prelude.stage
use Rattle.recovery_reasons.proofs.Listing.{IsListed, decides-listed, due-listed, stepped-listed}
use Rattle.recovery_reasons.proofs.OnWay.{Fine, decides-fine, still-on, stepped-course}
use Rattle.recovery_reasons.proofs.Readings.{fits-of}
use Rattle.recovery_reasons.proofs.Tasks.{meeting_in, meets-so, no-meeting}

-- ---- the last reading of the designated one

abbrev last_of : Op → List Op → Op
last_of e [] = e
last_of e (x ∷ xs) = last_of x xs

last-one : (e : Op) (xs : List Op) (o : Op) → last_of e (xs ++ o ∷ []) ≡ o
last-one e [] o = refl
last-one e (x ∷ xs) o = last-one x xs o

-- the last operation of such a stage
gathers-last : (m d : ServerNo) (o : Op) → IsRest (gathering m d) (o ∷ []) → o ≡ op.Status d (Some m)
gathers-last m d o h = sym (ap (last_of o) h.split ∙ last-one o h.done o)

-- a reading that finds the server below the named one
pub record ReadsBelow (w : World) (seen : List Sight) (n m : ServerNo) : Type 0 where
  pub shown : Status
  pub is : seen_in (status w n.0) ≡ Some shown
  pub noted : seen_of seen n.0 ≡ Some (position_of shown)
  pub source : ServerNo
  pub below : shown.source ≡ Attached source
  pub named : source.0 ≡ m.0

abbrev ReadsSo : World → ServerNo → ServerNo → Attempt → Type 0
ReadsSo w n m (attempt.Goes o es k) = ReadsBelow w k.seen n m
ReadsSo w n m (attempt.Stops c o) = Unit {0}
ReadsSo w n m (attempt.Ends lines) = Unit {0}

read-below : (w : World) (read : ℕ) (now : Moment) (j : Job) (rest : List Op) (n m : ServerNo) → ReadsSo w n m (by_deed w read now j rest (deed_of (op.Status n (Some m))))
read-below w read now j rest n m = go (seen_in (status w n.0)) refl
  where
    go : (x : Option Status) → seen_in (status w n.0) ≡ x → ReadsSo w n m (after_look j rest n (Some m) (observed w read now n) x)
    go None e = tt
    go (Some s) e = by-source s.source refl
      where
        noted : seen_of (attempt.saw j n s).seen n.0 ≡ Some (position_of s)
        noted = seen-at j.seen n (position_of s) n.0 ∙ ap (λ b. cond b (Some (position_of s)) (seen_of j.seen n.0)) (eq-eqb n.0 n.0 refl)

        moved-or : (k : ServerNo) → s.source ≡ Attached k → (a : Bool) → (k.0 == m.0) ≡ a → ReadsSo w n m (after_status j rest n (Some m) (observed w read now n) s (not a))
        moved-or k at true same = record { shown = s; is = e; noted = noted; source = k; below = at; named = eqb-true k.0 m.0 same }
        moved-or k at false same = tt

        by-source : (x : SourceState) → s.source ≡ x → ReadsSo w n m (after_status j rest n (Some m) (observed w read now n) s (is_moved (Some m) x))
        by-source source.Without at = tt
        by-source (source.Attached k) at = moved-or k at (k.0 == m.0) refl
        by-source (source.Detached k) at = tt

module _ (w : World) (b : BookState) (now : Moment) (r : Recovery) where
  -- once no operation of such a stage is left the designated one was read in this turn
  pub record Gathered (z : Recovery) (m d : ServerNo) : Type 0 where
    pub first : Recovery
    pub so : Decisions (ground_of w b now) r first
    pub stage : first.stage ≡ stage.Gather m d
    pub due : first.core.ops ≡ op.Status d (Some m) ∷ []
    pub reads : ReadsBelow w z.core.seen d m

  abbrev pub Gathers : Recovery → Type 0
  Gathers z = (m d : ServerNo) → z.stage ≡ stage.Gather m d → z.core.ops ≡ [] → Gathered z m d

  module _ (read : ℕ) (x : Recovery) (so : Decisions (ground_of w b now) r x) (o : Op) (rest : List Op) (is : x.core.ops ≡ o ∷ rest) (fits : Fits x.stage (o ∷ rest)) (listed : AreLeft x.stage (o ∷ rest))
      (ob : Option Observation) (es : List Exchange) (j : Job) (goes : by_deed w read now x.core rest (deed_of o) ≡ attempt.Goes ob es j) (left : j.ops ≡ rest) where
    abbrev later : Recovery
    later = record x { core = j }

    gathered-now : (m d : ServerNo) → x.stage ≡ stage.Gather m d → rest ≡ [] → Gathered later m d
    gathered-now m d at none =
        let same = gathers-last m d o (subst (λ (xs : List Op). IsRest (gathering m d) (o ∷ xs)) none (subst (λ (s : Stage). AreLeft s (o ∷ rest)) at listed)) in
        record {
          first = x;
          so = so;
          stage = at;
          due = is ∙ (ap (λ (y : Op). y ∷ rest) same ∙ ap (λ (xs : List Op). op.Status d (Some m) ∷ xs) none);
          reads =
              subst (λ (a : Attempt). ReadsSo w d m a) (subst (λ (y : Op). by_deed w read now x.core rest (deed_of y) ≡ attempt.Goes ob es j) same goes)
              (read-below w read now x.core rest d m);
        }

    -- what leads there has all operations left
    not-yet : (s : Stage) → o ∷ rest ≡ tail_of s → (m d : ServerNo) → moved s ≡ stage.Gather m d → rest ≡ [] → ⊥
    not-yet (stage.Shut k i) t m d at none = let bad : gathering k i ≡ [] = sym (same-tail o (op.ReadOnly k true) rest (gathering k i) t) ∙ none in cc
    not-yet (stage.Gather k i) t m d at none = cc
    not-yet s t m d at none = cc

    pub stepped-gathers : Gathers (stepped later o)
    stepped-gathers = go (fits-step x.stage o rest fits)
      where
        here : Gathers later
        here m d at none = gathered-now m d at (sym left ∙ none)

        next : (q : Option ServerNo) → o ∷ rest ≡ tail_of x.stage → Gathers (record (follows_no_more later q) { stage = moved x.stage })
        next None t m d at none = absurd (not-yet x.stage t m d at (sym left ∙ none))
        next (Some k) t m d at none = absurd (not-yet x.stage t m d at (sym left ∙ none))

        go : ((ends x.stage (deed_of o) ≡ false) × Fits x.stage rest) ⊎ (o ∷ rest ≡ tail_of x.stage) → Gathers (stepped later o)
        go (inl p) = subst (λ (a : Bool). Gathers (cond a (entered later (moved x.stage)) later)) (sym p.0) here
        go (inr t) = subst (λ (a : Bool). Gathers (cond a (entered later (moved x.stage)) later)) (sym (moved-fits x.stage o rest t).0) (next (leaver (moved x.stage)) t)

-- ---- the position at which it stopped

-- a server that logs shows its own end
own-shown : (w : World) (d : ServerNo) (s : Status) → logs_at w d ≡ true → seen_in (status w d.0) ≡ Some s → is_some s.own_end ≡ true
own-shown w d s logs is = go (server_at w d.0) logs is
  where
    ended : (a : Bool) (c : Coord) → a ≡ true → is_some (cond a (Some c) None) ≡ true
    ended true c h = refl
    ended false c h = absurd (false≢true h)

    go : (o : Option Server) → logs_by o ≡ true → seen_in (status_in w o) ≡ Some s → is_some s.own_end ≡ true
    go None l e = cc
    go (Some x) l e = up (x.up && x.desk) e
      where
        up : (a : Bool) → seen_in (cond a (Ok (shown_of w x)) (Err seeing.Unreachable)) ≡ Some s → is_some s.own_end ≡ true
        up true f = subst (λ (y : Status). is_some y.own_end ≡ true) (same_Some (shown_of w x) s f) (ended x.settings.logs (end_of x.log.log) l)
        up false f = cc

-- below its master
lead-shown : (w : World) (seen : List Sight) (f m d : ServerNo) → m ≡ f → (reads : ReadsBelow w seen d m) → is_some reads.shown.own_end ≡ true
    → is_some (lead_under f (bridge_at d (seen_of seen d.0))) ≡ true
lead-shown w seen f m d same reads own =
    ap (λ (o : Option Position). is_some (lead_under f (bridge_at d o))) reads.noted
    ∙ (ap (λ (s : SourceState). is_some (lead_under f (bridge_by d reads.shown.own_end s reads.shown.exec))) reads.below ∙ go reads.shown.own_end own)
  where
    made : Coord → Bridge
    made end = record { no = d; source = reads.source; own = end; exec = reads.shown.exec }

    go : (o : Option Coord) → is_some o ≡ true → is_some (lead_under f (bridge_by d o (Attached reads.source) reads.shown.exec)) ≡ true
    go None h = absurd (false≢true h)
    go (Some end) h = ap (λ (a : Bool). is_some (cond a (Some (made end)) None)) (eq-eqb reads.source.0 f.0 (reads.named ∙ ap (λ (n : ServerNo). n.0) same))

pub not-gathering : (s : Stage) → meeting_in s ≡ None → IsGathering s → ⊥
not-gathering s none g = no-meeting (g.0, g.1) (sym none ∙ meets-so s g.0 g.1 g.2)

-- at another stage it is known, and it is kept
staged : (x y : Recovery) → meeting_in x.stage ≡ None → y.purpose ≡ x.purpose → y.lead ≡ x.lead → KnowsLead x → KnowsLead y
staged x y none same lead h over = go (h (ap is_takeover (sym same) ∙ over))
  where
    go : IsGathering x.stage ⊎ (is_some x.lead ≡ true) → IsGathering y.stage ⊎ (is_some y.lead ≡ true)
    go (inl g) = absurd (not-gathering x.stage none g)
    go (inr e) = inr (ap is_some lead ∙ e)

pub fine-idle : (x : Recovery) → Fine x → x.core.ops ≡ [] → x.stage ≡ stage.Idle
fine-idle x (inl way) none = way.rests none
fine-idle x (inr stuck) none = stuck.stage

module _ (w : World) (b : BookState) (now : Moment) where
  pub decided-purpose : (x : Recovery) (d : Decision) → (decided_by (ground_of w b now) x d).purpose ≡ x.purpose
  decided-purpose x (by.Reads n ts) = refl
  decided-purpose x d = refl

  decided-lead : (x : Recovery) (d : Decision) → (decided_by (ground_of w b now) x d).lead ≡ x.lead
  decided-lead x (by.Reads n ts) = refl
  decided-lead x d = refl

  -- what is decided
  pub decides-knows : (x : Recovery) (d : Decision) → MayDecide (ground_of w b now) x d → Fine x → KnowsLead x → KnowsLead (decided_by (ground_of w b now) x d)
  decides-knows x d may fine h =
      staged x (decided_by (ground_of w b now) x d) (ap meeting_in (fine-idle x fine (decides-idle w b now x d may))) (decided-purpose x d) (decided-lead x d) h

-- the stage that follows one of a master and its replica is one
next-gathers : (s : Stage) (m d : ServerNo) → IsMeeting s m d → IsGathering (moved s)
next-gathers s m d (inl at) = subst (λ (t : Stage). IsGathering (moved t)) (sym at) (m, d, inl refl)
next-gathers s m d (inr (inl at)) = subst (λ (t : Stage). IsGathering (moved t)) (sym at) (m, d, inr (inr refl))
next-gathers s m d (inr (inr at)) = subst (λ (t : Stage). IsGathering (moved t)) (sym at) (m, d, inr (inr refl))

-- for this purpose
abbrev IsLedFor : Purpose → Recovery → Type 0
IsLedFor u x = (x.purpose ≡ u) × KnowsLead x

-- an operation is done
stepped-knows : (x : Recovery) (o : Op) (u : Purpose) → IsLedFor u x → IsLedFor u (stepped x o)
stepped-knows x o u h = by-end (ends x.stage (deed_of o))
  where
    go : IsGathering x.stage ⊎ (is_some x.lead ≡ true) → IsGathering (moved x.stage) ⊎ (is_some x.lead ≡ true)
    go (inl g) = inl (next-gathers x.stage g.0 g.1 g.2)
    go (inr e) = inr e

    next : (q : Option ServerNo) → IsLedFor u (record (follows_no_more x q) { stage = moved x.stage })
    next None = (h.0, λ over. go (h.1 over))
    next (Some n) = (h.0, λ over. go (h.1 over))

    by-end : (a : Bool) → IsLedFor u (cond a (entered x (moved x.stage)) x)
    by-end true = next (leaver (moved x.stage))
    by-end false = h

-- a stage ends
module _ (w : World) (b : BookState) (now : Moment) (r z : Recovery) (none : z.core.ops ≡ []) (course : IsOnCourse z) (listed : IsListed z) (logs : NamesLogging w z.purpose) (gathers : Gathers w b now r z) (h : KnowsLead z) where
  other : (e : Ending) → meeting_in z.stage ≡ None → (ended_by z e).purpose ≡ z.purpose → (ended_by z e).lead ≡ z.lead → KnowsLead (ended_by z e)
  other e at same lead = staged z (ended_by z e) at same lead h

  -- none of these makes nothing, or has no operation left
  rests-apart : (s : Stage) → rests s ≡ true → AreLeft s [] → meeting_in s ≡ None
  rests-apart (stage.Meet m d) e l = absurd (false≢true e)
  rests-apart (stage.Shut m d) e l = cc
  rests-apart (stage.Gather m d) e l = absurd (false≢true e)
  rests-apart s e l = refl

  completes-knows : (e : Ending) → MayEnd z e → KnowsLead (ended_by z e)
  completes-knows (by.Leads d) may = λ over.
      let meets = course.stage.meets may.0 d (inr (inr may.1)) in
      let reads = (gathers may.0 d may.1 none).reads in
      inr (lead-shown w z.core.seen z.failed may.0 d meets.0 reads (own-shown w d reads.shown (subst (NamesLogging w) meets.1 logs) reads.is))
  completes-knows (by.Shuts m d) may = λ over. inl (m, d, inr (inl refl))
  completes-knows by.Rests may = other by.Rests (rests-apart z.stage may (subst (λ (xs : List Op). AreLeft z.stage xs) none listed)) refl refl
  completes-knows (by.Stays n s) may = other (by.Stays n s) (ap meeting_in may.0) refl refl
  completes-knows (by.Loses n y) may = go may.0
    where
      go : (z.stage ≡ stage.Judged n) ⊎ ((x : Bridge) × (z.stage ≡ stage.Looked n x)) → KnowsLead (ended_by z (by.Loses n y))
      go (inl at) = other (by.Loses n y) (ap meeting_in at) refl refl
      go (inr x) = other (by.Loses n y) (ap meeting_in x.1) refl refl
  completes-knows (by.Frees n y) may = other (by.Frees n y) (ap meeting_in may.1) refl refl
  completes-knows (by.Follows n p) may = go may
    where
      go : (z.stage ≡ stage.Join n p) ⊎ (z.stage ≡ stage.Resume p n) → KnowsLead (ended_by z (by.Follows n p))
      go (inl at) = other (by.Follows n p) (ap meeting_in at) refl refl
      go (inr at) = other (by.Follows n p) (ap meeting_in at) refl refl
  completes-knows (by.Marks n) may = other (by.Marks n) (ap meeting_in may) refl refl
  completes-knows (by.Trails n x) may = other (by.Trails n x) (ap meeting_in may.0) refl refl
  completes-knows (by.Joins n x) may = other (by.Joins n x) (ap meeting_in may.0) refl refl
  completes-knows (by.Swaps p q) may = other (by.Swaps p q) (ap meeting_in may) refl refl
  completes-knows (by.Switches m d) may = other (by.Switches m d) (ap meeting_in may) refl refl
  completes-knows (by.Ends n) may = other (by.Ends n) (ap meeting_in may) refl refl

-- a failing operation
bears-apart : (s : Stage) (e : Bearing) → MayBear s e → meeting_in s ≡ None
bears-apart s by.Drops (inl at) = ap meeting_in at
bears-apart s by.Drops (inr x) = go x.1
  where
    go : (s ≡ stage.Expel x.0) ⊎ (s ≡ stage.Release x.0) → meeting_in s ≡ None
    go (inl at) = ap meeting_in at
    go (inr at) = ap meeting_in at
bears-apart s (by.Misses n y) (inl at) = ap meeting_in at
bears-apart s (by.Misses n y) (inr (inl x)) = ap meeting_in x.1
bears-apart s (by.Misses n y) (inr (inr x)) = ap meeting_in x.1
bears-apart s (by.Lets n y) (inl x) = ap meeting_in x.1
bears-apart s (by.Lets n y) (inr x) = go x.1
  where
    go : (s ≡ stage.Look n x.0) ⊎ (s ≡ stage.Trail n x.0) → meeting_in s ≡ None
    go (inl at) = ap meeting_in at
    go (inr at) = ap meeting_in at
bears-apart s (by.Restarts p q) at = ap meeting_in at
bears-apart s (by.Returns p q) at = ap meeting_in at

bears-knows : (x : Recovery) (e : Bearing) → MayBear x.stage e → KnowsLead x → KnowsLead (borne x (fate_of e))
bears-knows x by.Drops may h = staged x (borne x (fate_of by.Drops)) (bears-apart x.stage by.Drops may) refl refl h
bears-knows x e may h = staged x (borne x (fate_of e)) (bears-apart x.stage e may) refl refl h

-- ---- a turn

module _ (w : World) (b : BookState) (now : Moment) (r : Recovery) (logs : NamesLogging w r.purpose) where
  abbrev Before : Recovery → Type 0
  Before x = HeldRecovery w x × Fine x × IsListed x × Decisions (ground_of w b now) r x × IsLedFor r.purpose x

  abbrev Between : World → Recovery → Type 0
  Between v x = IsOnCourse x × IsListed x × Gathers w b now r x × IsLedFor r.purpose x

  keeps-knows : (read : ℕ) → HeldRings w b.rings → Keeps w b read now Before Between (λ v x. KnowsLead x)
  keeps-knows read rings = record {
    decides = λ x d may h. (
      decides-held w b now rings x d may h.0,
      decides-fine w b now x d may h.1,
      decides-listed w b now x d may h.2,
      joined w b now h.3 (by.Then d may by.Still),
      (decided-purpose w b now x d ∙ h.4.0, decides-knows w b now x d may h.1 h.4.1),
    );
    waits = λ x o rest ob es j did e h. h.4.1;
    acts = λ x o rest ob es j did e h.
        let fits = fits-of w x o rest did.ops h.0 in
        let left = (went-of w read now x o rest ob es j did).done e in
        let due = due-listed x o rest did.ops h.2 in (
          stepped-course w read now x o rest did.ops fits (still-on x o rest did.ops h.1).course ob es j did.goes left,
          stepped-listed x o rest j fits due left,
          stepped-gathers w b now r read x h.3 o rest did.ops fits due ob es j did.goes left,
          stepped-knows (record x { core = j }) o r.purpose h.4,
        );
    continues = λ v x y ys is h. h.3.1;
    completes = λ v x e none may h. completes-knows w b now r x none h.0 h.1 (subst (NamesLogging w) (sym h.3.0) logs) h.2 h.3.1 e may;
    bears = λ x o rest c ob e stops is may h. bears-knows x e may h.4.1;
  }

  pub taken-knows : (read : ℕ) → HeldRings w b.rings → HeldRecovery w r → Fine r → IsListed r → KnowsLead r → is_going (taken w b read now r).step ≡ true → KnowsLead (taken w b read now r).recovery
  taken-knows read rings held fine listed h going =
      kept-along w b read now Before Between (λ v x. KnowsLead x) (keeps-knows read rings) r (held, fine, listed, by.Still, (refl, h)) going

pub begun-knows : (u : Purpose) (by : Means) (id wait : ℕ) (f : ServerNo) (ns order : List ServerNo) → KnowsLead (begun_recovery u by id wait f ns order)
begun-knows (purpose.Takeover d) by id wait f ns order over = inl (f, d, inl refl)
begun-knows u by id wait f ns order over = absurd (false≢true over)
