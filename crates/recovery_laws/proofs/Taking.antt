-- A turn of a recovery leaves it with `Held`.
use Rattle.job_laws.proofs.Planned.{any-true as or-true}
use Rattle.std.proofs.Common.{◌≡◌, ℕ, Bool, true, false, cond, List, [], ◌∷◌, ◌++◌, refl, sym, ◌∙◌, ap, subst, Option, Some, None, ◌⊎◌, inl, inr, ◌&&◌, ◌==◌, IfSome, is_some}
use Rattle.recovery_laws.proofs.Prelude.{All-push, AllAllowed, Attempt, Bearing, BookState, Bridge, Does, Ending, Exchange, Fits, Footing, Held-run}
use Rattle.recovery_laws.proofs.Prelude.{HeldJob, HeldRecovery, HeldRings, IsDue, IsLead, IsReadyStage, IsStopped, Job, Keeps, KeepsHeld}
use Rattle.recovery_laws.proofs.Prelude.{KeepsRecovery, MayBear, MayEnd, Moment, Observation, Op, Placed, Position, Purpose, Recovery, ServerNo}
use Rattle.recovery_laws.proofs.Prelude.{Sight, Spans, Stage, Went, WentOn, Why, World, are_held, borne, both, bridge_at, closing, deed-kept}
use Rattle.recovery_laws.proofs.Prelude.{deed-went, deed_of, due-of, ended_by, ends, entered, eqb-true, false≢true, fate_of, finds, fits-step}
use Rattle.recovery_laws.proofs.Prelude.{follows, follows_no_more, footing, frees, front-fits, gather, going, idle, is_below, is_source, is_waiting}
use Rattle.recovery_laws.proofs.Prelude.{kept-along, last_looks, lead_under, leaver, loses, moved, moved-fits, moved-leads, run, same-head, seen-at}
use Rattle.recovery_laws.proofs.Prelude.{seen-spans, seen_of, sight_of, source_no, stepped, stray, swapped, tail-fits, tail_of, taken, taken-allowed}
use Rattle.recovery_laws.proofs.Prelude.{result_lines, trail, with_bridge, working}
use Rattle.recovery_laws.proofs.Prelude.attempt
use Rattle.recovery_laws.proofs.Prelude.by
use Rattle.recovery_laws.proofs.Prelude.cross
use Rattle.recovery_laws.proofs.Prelude.op
use Rattle.recovery_laws.proofs.Prelude.purpose
use Rattle.recovery_laws.proofs.Prelude.stage
use Rattle.recovery_laws.proofs.Prelude.way
use Rattle.recovery_laws.proofs.Choosing.{self}
use Rattle.recovery_laws.proofs.Deciding.{decides-held, moving-held, working-held}
use Rattle.recovery_laws.proofs.Ready.{bridge-shown, queue-more, stopped-more, queue-run, stopped-run, lead-run, named-run, stage-run}
use Rattle.recovery_laws.proofs.StaysRead.{Reads, StaysRead, deed-reads, saw-read}

-- ---- what others do

pub others-held : (w : World) (es : List Exchange) (r : Recovery) → Placed w → AllAllowed w es → HeldRecovery w r → HeldRecovery (run w es) r
others-held w es r placed allowed held = record {
  core = Held-run w es r.core placed allowed held.core;
  stage = stage-run w es placed allowed r.stage held.stage;
  fits = held.fits;
  queue = queue-run w es placed allowed r.core.seen r.queue held.queue;
  drained = stopped-run w es placed allowed r.core.seen r.failed r.drained held.drained;
  lead = lead-run w es placed allowed r.failed r.lead held.lead;
  named = named-run w es placed allowed r.purpose held.named;
}

-- ---- operations with `Held`

gather-held : (f : Footing) (m d : ServerNo) → are_held f (op.ReadOnly m true ∷ gather m d) ≡ true
gather-held f m d = simp (self, or-true) refl

trail-left : (f : Footing) (n d : ServerNo) → f.read n.0 ≡ true → f.read d.0 ≡ true → are_held f (trail n d) ≡ true
trail-left f n d one other = both (f.read n.0 && f.read d.0) (f.read d.0 && true) (both (f.read n.0) (f.read d.0) one other) (both (f.read d.0) true other refl)

bridge-read : (xs : List Sight) (b : Bridge) → is_some (seen_of (with_bridge xs b) b.no.0) ≡ true
bridge-read xs b = ap is_some (seen-at xs b.no (sight_of b) b.no.0 ∙ ap (λ x. cond x (Some (sight_of b)) (seen_of xs b.no.0)) (self b.no.0))

-- ---- a stage that is done

pub source-is : (o : Option ℕ) (f : ServerNo) → is_source o f ≡ true → o ≡ Some f.0
source-is None f h = absurd (false≢true h)
source-is (Some m) f h = ap Some (eqb-true m f.0 h)

module _ (w : World) where
  with-stage : (r : Recovery) (s : Stage) → HeldRecovery w r → IsReadyStage w s → Fits s r.core.ops → HeldRecovery w (record r { stage = s })
  with-stage r s held ready fits =
      record { core = held.core; stage = ready; fits = fits; queue = held.queue; drained = held.drained; lead = held.lead; named = held.named }

  idle-held : (r : Recovery) → HeldRecovery w r → r.core.ops ≡ [] → HeldRecovery w (idle r)
  idle-held r held none = with-stage r stage.Idle held tt (record { front = []; still = refl; is = none; due = λ h. cc })

  -- what was seen of a replica that is drained
  stopped-by : (r : Recovery) (n : ServerNo) (s : Position) → HeldRecovery w r → seen_of r.core.seen n.0 ≡ Some s → is_below s r.failed ≡ true
      → IsStopped w r.core.seen r.failed (record { no = n; exec = s.exec; own_end = s.own_end })
  stopped-by r n s held e f =
      let shown = held.core.shown n.0 s e in
      record {
        server = shown.set.server;
        there = shown.set.there;
        read = ap is_some e;
        logs = λ l. shown.logs shown.set.server shown.set.there l;
        spans = λ own end. record { own = shown.own own end; exec = shown.under r.failed.0 (source-is (source_no s.source) r.failed f) };
      }

  frees-held : (r : Recovery) (n : ServerNo) (why : Why) → HeldRecovery w r → HeldRecovery w (frees r n why)
  frees-held r n why held = working-held w (loses r n why) (stage.Release n) (op.Start n ∷ []) held tt refl (λ has. refl) (front-fits (stage.Release n) (op.Start n ∷ []) refl refl refl)

  -- the bridge that was seen of the designated replica
  lead-held : (r : Recovery) (d : ServerNo) → HeldRecovery w r → IfSome (lead_under r.failed (bridge_at d (seen_of r.core.seen d.0))) (IsLead w r.failed)
  lead-held r d held = go (bridge_at d (seen_of r.core.seen d.0)) refl
    where
      go : (o : Option Bridge) → bridge_at d (seen_of r.core.seen d.0) ≡ o → IfSome (lead_under r.failed o) (IsLead w r.failed)
      go None e = tt
      go (Some b) e = at (b.source.0 == r.failed.0) refl
        where
          at : (a : Bool) → (b.source.0 == r.failed.0) ≡ a → IfSome (cond a (Some b) None) (IsLead w r.failed)
          at true f = record { spans = seen-spans w r.core.seen d b held.core.shown e; below = eqb-true b.source.0 r.failed.0 f }
          at false f = tt

  trail-held : (r : Recovery) (n : ServerNo) (b : Bridge) → HeldRecovery w r → Spans w b → is_some (seen_of r.core.seen n.0) ≡ true
      → HeldRecovery w (working (record r { core = record r.core { seen = with_bridge r.core.seen b } }) (stage.Trail n b) (trail n b.no))
  trail-held r n b held spans e = record {
    core = record { left = trail-left (footing w (with_bridge r.core.seen b)) n b.no (saw-read r.core.seen b.no (sight_of b) n.0 e) (bridge-read r.core.seen b); shown = bridge-shown w r.core.seen b held.core.shown spans; matched = refl; ends = held.core.ends };
    stage = spans;
    fits = record { front = op.Until n _ ∷ op.Await n _ ∷ op.Stop n ∷ []; still = refl; is = refl; due = λ h. cc };
    queue = queue-more w r.core.seen (with_bridge r.core.seen b) (saw-read r.core.seen b.no (sight_of b)) r.queue held.queue;
    drained = stopped-more w r.core.seen (with_bridge r.core.seen b) (saw-read r.core.seen b.no (sight_of b)) r.failed r.drained held.drained;
    lead = held.lead;
    named = held.named;
  }

  close-held : (r : Recovery) (u : Purpose) (n : ServerNo) → HeldRecovery w r → HeldRecovery w (closing r (last_looks r u n))
  close-held r (purpose.Takeover d) n held =
      working-held w r (stage.Close (result_lines r)) _ held tt refl (λ has. refl) (record { front = op.Status r.failed None ∷ op.Status n None ∷ []; still = refl; is = refl; due = λ h. cc })
  close-held r _ n held = working-held w r (stage.Close (result_lines r)) _ held tt refl (λ has. refl) (record { front = op.Status n None ∷ []; still = refl; is = refl; due = λ h. cc })

  ready-of : (r : Recovery) (s : Stage) → r.stage ≡ s → HeldRecovery w r → IsReadyStage w s
  ready-of r s is held = subst (λ (x : Stage). IsReadyStage w x) is held.stage

  was-seen : (f : ServerNo) (o : Option Position) → stray f o ≡ None → is_some o ≡ true
  was-seen f None h = cc
  was-seen f (Some s) h = refl

  completes-held : (r : Recovery) (e : Ending) → r.core.ops ≡ [] → MayEnd r e → HeldRecovery w r → HeldRecovery w (ended_by r e)
  completes-held r by.Rests none may held = idle-held r held none
  completes-held r (by.Stays n s) none may held =
      let idled = idle-held r held none in
      record {
        core = idled.core;
        stage = tt;
        fits = idled.fits;
        queue = held.queue;
        drained = All-push (IsStopped w r.core.seen r.failed) r.drained _ held.drained (stopped-by r n s held may.1 may.2);
        lead = held.lead;
        named = held.named;
      }
  completes-held r (by.Loses n why) none may held = idle-held (loses r n why) held none
  completes-held r (by.Frees n why) none may held = frees-held r n why held
  completes-held r (by.Follows n p) none may held = idle-held (follows r n p) held none
  completes-held r (by.Marks n) none may held = idle-held r held none
  completes-held r (by.Leads d) none may held =
      let i = idle-held r held none in record { core = i.core; stage = tt; fits = i.fits; queue = i.queue; drained = i.drained; lead = lead-held r d held; named = i.named }
  completes-held r (by.Trails n x) none may held = trail-held r n x held (ready-of r (stage.Looked n x) may.0 held) (was-seen r.failed (seen_of r.core.seen n.0) may.1)
  completes-held r (by.Joins n x) none may held = moving-held w r n (way.Down x) held (ready-of r (stage.Halted n x) may.0 held)
  completes-held r (by.Swaps p q) none may held =
      working-held w (swapped r p q) (stage.Open q) _ held tt refl (λ has. refl) (record { front = op.Start p ∷ []; still = refl; is = refl; due = λ h. cc })
  completes-held r (by.Switches m d) none may held = working-held w (follows r m d) (stage.Open d) _ held tt refl (λ has. refl) (tail-fits (stage.Open d))
  completes-held r (by.Shuts m d) none may held = working-held w r (stage.Shut m d) _ held tt (gather-held (footing w r.core.seen) m d) (λ has. refl) (tail-fits (stage.Shut m d))
  completes-held r (by.Ends n) none may held = close-held r r.purpose n held

  entered-held : (r : Recovery) (s : Stage) → HeldRecovery w (record r { stage = s }) → HeldRecovery w (entered r s)
  entered-held r s held = go (leaver s)
    where
      go : (o : Option ServerNo) → HeldRecovery w (record (follows_no_more r o) { stage = s })
      go None = held
      go (Some n) = held

-- ---- a turn

module _ (w : World) (read : ℕ) (now : Moment) (r : Recovery) (o : Op) (rest : List Op) (placed : Placed w) (held : HeldRecovery w r) (is : r.core.ops ≡ o ∷ rest) where
  pub due : IsDue w r.core rest (deed_of o)
  due = due-of w r.core o rest is held.core.left held.core.matched

  pub fits : Fits r.stage (o ∷ rest)
  fits = subst (λ (ops : List Op). Fits r.stage ops) is held.fits

  -- ---- it goes on

  module _ (es : List Exchange) (j : Job) (allowed : AllAllowed w es) (job : HeldJob (run w es) j) (went : WentOn r.core rest es j) (reads : StaysRead r.core.seen j.seen) where
    abbrev later : Recovery
    later = record r { core = j }

    -- what had `Held` has it, with the job after the turn, if its operations are its stage's
    later-held : (s : Stage) → IsReadyStage w s → Fits s j.ops → HeldRecovery (run w es) (record later { stage = s })
    later-held s ready f = record {
      core = job;
      stage = stage-run w es placed allowed s ready;
      fits = f;
      queue = queue-more (run w es) r.core.seen j.seen reads r.queue (queue-run w es placed allowed r.core.seen r.queue held.queue);
      drained = stopped-more (run w es) r.core.seen j.seen reads r.failed r.drained (stopped-run w es placed allowed r.core.seen r.failed r.drained held.drained);
      lead = lead-run w es placed allowed r.failed r.lead held.lead;
      named = named-run w es placed allowed r.purpose held.named;
    }

    pub stepped-held : j.ops ≡ rest → HeldRecovery (run w es) (stepped later o)
    stepped-held left = go (fits-step r.stage o rest fits)
      where
        go : ((ends r.stage (deed_of o) ≡ false) × Fits r.stage rest) ⊎ (o ∷ rest ≡ tail_of r.stage) → HeldRecovery (run w es) (stepped later o)
        go (inl p) =
            subst (λ (b : Bool). HeldRecovery (run w es) (cond b (entered later (moved r.stage)) later)) (sym p.0)
            (later-held r.stage held.stage (subst (λ (ops : List Op). Fits r.stage ops) (sym left) p.1))
        go (inr e) =
            let m = moved-fits r.stage o rest e in
            subst (λ (b : Bool). HeldRecovery (run w es) (cond b (entered later (moved r.stage)) later)) (sym m.0)
            (entered-held (run w es) later (moved r.stage)
            (later-held (moved r.stage) (subst (λ (x : Option Bridge). IfSome x (Spans w)) (sym (moved-leads r.stage)) held.stage) (subst (λ (ops : List Op). Fits (moved r.stage) ops) (sym left) m.1)))

  -- ---- it stops

  -- the better one goes back by the reading by which the promoted one was to go below it
  back-found : (p q : ServerNo) → r.stage ≡ stage.Swap p q → are_held (footing w r.core.seen) (op.Cross cross.Back q p ∷ op.Start q ∷ []) ≡ true
  back-found p q at =
      let f : Fits (stage.Swap p q) (o ∷ rest) = subst (λ (s : Stage). Fits s (o ∷ rest)) at fits in
      let same : o ≡ op.Cross cross.About p q = same-head o _ rest [] (f.is ∙ ap (λ xs. xs ++ tail_of (stage.Swap p q)) (f.due refl)) in
      let found : finds (footing w r.core.seen) (deed_of (op.Cross cross.About p q)) ≡ true = ap (λ x. finds (footing w r.core.seen) (deed_of x)) (sym same) ∙ due.found in
      both (finds (footing w r.core.seen) (deed_of (op.Cross cross.Back q p))) true found refl

  bears-held : (e : Bearing) → MayBear r.stage e → HeldRecovery w (borne r (fate_of e))
  bears-held by.Drops may = working-held w r stage.Idle [] held tt refl (λ has. refl) (tail-fits stage.Idle)
  bears-held (by.Misses n why) may = working-held w (loses r n why) stage.Idle [] held tt refl (λ has. refl) (tail-fits stage.Idle)
  bears-held (by.Lets n why) may = frees-held w r n why held
  bears-held (by.Restarts p q) may = working-held w r (stage.Release q) (op.Start q ∷ []) held tt refl (λ has. refl) (front-fits (stage.Release q) (op.Start q ∷ []) refl refl refl)
  bears-held (by.Returns p q) may = working-held w r (stage.Return p q) _ held tt (back-found p q may) (λ has. refl) (tail-fits (stage.Return p q))

  -- ---- an operation is done, or is one more wait

  module _ (ob : Option Observation) (es : List Exchange) (j : Job) (did : Does w read now r o rest ob es j) where
    kept : KeepsHeld w (going ob es j)
    kept = subst (λ (a : Attempt). KeepsHeld w (attempt.settled r.core a)) did.goes (deed-kept w read now r.core rest (deed_of o) placed held.core.shown held.core.ends due)

    went : WentOn r.core rest es j
    went = subst (λ (a : Attempt). Went r.core rest a) did.goes (deed-went r.core rest w read now (deed_of o))

    reads : StaysRead r.core.seen j.seen
    reads = subst (λ (a : Attempt). Reads r.core a) did.goes (deed-reads r.core rest w read now (deed_of o))

    waits-held : is_waiting j ≡ true → HeldRecovery (run w es) (record r { core = j })
    waits-held e = later-held es j kept.allowed kept.held went reads r.stage held.stage (subst (λ (ops : List Op). Fits r.stage ops) (sym (went.waits e).0) held.fits)

    acts-held : is_waiting j ≡ false → HeldRecovery (run w es) (stepped (record r { core = j }) o)
    acts-held e = stepped-held es j kept.allowed kept.held went reads (went.done e)

keeps-held : (w : World) (b : BookState) (read : ℕ) (now : Moment) → Placed w → HeldRings w b.rings → Keeps w b read now (HeldRecovery w) (λ v r. HeldRecovery v r) (λ v r. HeldRecovery v r)
keeps-held w b read now placed rings = record {
  decides = decides-held w b now rings;
  waits = λ r o rest ob es j did e held. waits-held w read now r o rest placed held did.ops ob es j did e;
  acts = λ r o rest ob es j did e held. acts-held w read now r o rest placed held did.ops ob es j did e;
  continues = λ v r x xs is held. held;
  completes = completes-held;
  bears = λ r o rest c ob e stops is may held. bears-held w read now r o rest placed held stops.ops e may;
}

pub taken-held : (w : World) (b : BookState) (read : ℕ) (now : Moment) (r : Recovery) → Placed w → HeldRings w b.rings → HeldRecovery w r → KeepsRecovery w (taken w b read now r)
taken-held w b read now r placed rings held = record {
  allowed = taken-allowed w b read now r;
  held = kept-along w b read now (HeldRecovery w) (λ v s. HeldRecovery v s) (λ v s. HeldRecovery v s) (keeps-held w b read now placed rings) r held;
}
