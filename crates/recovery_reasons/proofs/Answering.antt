-- What the attachment of a replica answers becomes of it.
use Rattle.std.proofs.Common.{◌≡◌, ℕ, Bool, true, cond, List, [], ◌∷◌, ◌++◌, refl, sym, ◌∙◌, ap, subst, Option, Some, None, inl, inr, ◌⊎◌, ◌&&◌, Err, Result, is_some}
use Rattle.recovery_reasons.proofs.Prelude.{AttachFault, Attempt, Becomes, BookState, Cause, Exchange, GoesBy, HeldRecovery, HeldRings, IsLostNow}
use Rattle.recovery_reasons.proofs.Prelude.{IsTriedNow, Job, Moment, Op, Position, Purpose, Recovery, ServerNo, ShowsWay, Speaks, SpeaksWith, Stage}
use Rattle.recovery_reasons.proofs.Prelude.{Taken, Way, Why, World, after_answer, after_attach, and_parts, are_held, are_matched, attach_answer_of}
use Rattle.recovery_reasons.proofs.Prelude.{attachment_by, attachment_of, attempted, auto-can, before, bridge_at, by_deed, by_match, by_set}
use Rattle.recovery_reasons.proofs.Prelude.{can_attach, cause_by, crossed, crossing-can, crossing-found, decided, decided-walks, decides-held}
use Rattle.recovery_reasons.proofs.Prelude.{decisions-keep, deed_of, false≢true, finds, footing, ground_of, is_takeover, learn, logs_at, lost_on_way}
use Rattle.recovery_reasons.proofs.Prelude.{match-can, match-there, match_found, matched_in, met, move, same-tail, seen_of, settled_turn, tail_of}
use Rattle.recovery_reasons.proofs.Prelude.{taken}
use Rattle.recovery_reasons.proofs.Prelude.attaching
use Rattle.recovery_reasons.proofs.Prelude.attempt
use Rattle.recovery_reasons.proofs.Prelude.cause
use Rattle.recovery_reasons.proofs.Prelude.cross
use Rattle.recovery_reasons.proofs.Prelude.lost
use Rattle.recovery_reasons.proofs.Prelude.op
use Rattle.recovery_reasons.proofs.Prelude.purpose
use Rattle.recovery_reasons.proofs.Prelude.stage
use Rattle.recovery_reasons.proofs.Prelude.way
use Rattle.recovery_reasons.proofs.Attaching.{way-attachment}
use Rattle.recovery_reasons.proofs.Speaking.{decides-speaks}

module _ (w : World) (read : ℕ) (now : Moment) (x : Recovery) (n : ServerNo) where
  -- as it goes this way
  abbrev going : Way → Recovery
  going y = record x { stage = stage.Move n y; core = record x.core { ops = move y n ∷ op.Start n ∷ [] } }

  -- ---- one that is refused

  lost-now : (y : Way) (c : Cause) (why : Why) → IsLostNow (going y) n why (met w (going y) c None (lost_on_way x.purpose n why))
  lost-now y c why = go x.purpose refl
    where
      go : (u : Purpose) → x.purpose ≡ u → IsLostNow (going y) n why (met w (going y) c None (lost_on_way u n why))
      go purpose.Regroup is = record {
        going = refl;
        made = refl;
        lost = refl;
        others = refl;
        started = λ t. absurd (false≢true (ap is_takeover (sym is) ∙ t));
        left = λ f. (refl, refl);
      }
      go (purpose.Takeover d) is = record {
        going = refl;
        made = refl;
        lost = refl;
        others = refl;
        started = λ t. (refl, refl);
        left = λ f. absurd (false≢true (sym f ∙ ap is_takeover is));
      }
      go _ is = record {
        going = refl;
        made = refl;
        lost = refl;
        others = refl;
        started = λ t. absurd (false≢true (ap is_takeover (sym is) ∙ t));
        left = λ f. (refl, refl);
      }

  -- ---- by what it answers

  abbrev answered : Way → Exchange → Result (Unit {0}) AttachFault → Taken
  answered y e a = attempted w (going y) (move y n) (after_answer (going y).core (op.Start n ∷ []) n e a)

  becomes : (y : Way) (e : Exchange) (a : Result (Unit {0}) AttachFault) → Becomes w (going y) n y e a (answered y e a)
  becomes (way.Down z) e (Err attaching.Loop) = refl
  becomes (way.Down z) e (Err (attaching.Errant set)) = tt
  becomes (way.Down z) e (Err attaching.Memory) = tt
  becomes (way.Down z) e (Err f) = lost-now (way.Down z) (cause_by n f) _
  becomes (way.Up z) e (Err attaching.Loop) = refl
  becomes (way.Up z) e (Err (attaching.Errant set)) = tt
  becomes (way.Up z) e (Err attaching.Memory) = tt
  becomes (way.Up z) e (Err f) = lost-now (way.Up z) (cause_by n f) _
  becomes (way.Auto to exec) e (Err attaching.Loop) = refl
  becomes (way.Auto to exec) e (Err (attaching.Errant set)) = lost-now (way.Auto to exec) (cause.Errant n set) (lost.ahead exec)
  becomes (way.Auto to exec) e (Err attaching.Memory) = tt
  becomes (way.Auto to exec) e (Err f) = lost-now (way.Auto to exec) (cause_by n f) _
  becomes (way.Match to exec every) e (Err (attaching.Errant set)) = tt
  becomes (way.Match to exec every) e (Err attaching.Memory) = tt
  becomes (way.Match to exec every) e (Err f) = record { going = refl; made = refl; lost = refl; left = (refl, refl) }
  becomes _ e _ = record { going = refl; made = refl; stage = refl; next = refl; outcome = refl }

  -- ---- the operation

  by-attach : (j : Job) (o : Option Exchange) (e : Exchange) → o ≡ Some e → can_attach w e ≡ true → after_attach w j (op.Start n ∷ []) n o ≡ after_answer j (op.Start n ∷ []) n e (attach_answer_of w e)
  by-attach j o e is can =
      ap (after_attach w j (op.Start n ∷ []) n) is
      ∙ ap (λ (c : Bool). cond c (after_answer j (op.Start n ∷ []) n e (attach_answer_of w e)) (attempt.Goes None [] (attempt.next j (op.Start n ∷ [])))) can

  as-attached : (j : Job) (y : Way) → by_deed w read now j (op.Start n ∷ []) (deed_of (move y n)) ≡ after_attach w j (op.Start n ∷ []) n (attachment_of j (deed_of (move y n)))
  as-attached j (way.Down z) = refl
  as-attached j _ = refl

  goes-answered : (y : Way) (e : Exchange) → ShowsWay x.core.seen y → attachment_by x n y ≡ Some e → can_attach w e ≡ true
      → Becomes w (going y) n y e (attach_answer_of w e) (settled_turn w read now (going y))
  goes-answered y e shown is can =
      subst (λ (a : Attempt). Becomes w (going y) n y e (attach_answer_of w e) (attempted w (going y) (move y n) a))
      (sym (as-attached (going y).core y ∙ by-attach (going y).core (attachment_of (going y).core (deed_of (move y n))) e (way-attachment (going y) n y shown ∙ same y is) can))
      (becomes y e (attach_answer_of w e))
    where
      same : (z : Way) → attachment_by x n z ≡ Some e → attachment_by (going z) n z ≡ Some e
      same (way.Down z) h = h
      same _ h = h

  -- it is as it goes this way, if the start is next
  due-so : (y : Way) (o : Op) → GoesBy x.core n y → x.core.ops ≡ o ∷ op.Start n ∷ [] → x.core.ops ≡ move y n ∷ op.Start n ∷ []
  due-so y o goes is = go y goes.0
    where
      go : (z : Way) → (x.core.ops ≡ tail_of (stage.Move n z)) ⊎ (x.core.ops ≡ before z n ++ tail_of (stage.Move n z)) → x.core.ops ≡ move z n ∷ op.Start n ∷ []
      go z (inl h) = h
      go (way.Down z) (inr h) = h
      go (way.Up z) (inr h) = h
      go (way.Auto to exec) (inr h) = h
      go (way.Match to exec every) (inr h) =
          let bad : op.Start n ∷ [] ≡ op.CrossMatch n to ∷ op.Start n ∷ [] = same-tail o (op.Match n to every) (op.Start n ∷ []) (op.CrossMatch n to ∷ op.Start n ∷ []) (sym is ∙ h) in cc

  answered-so : (y : Way) (o : Op) (e : Exchange) → SpeaksWith x → x.stage ≡ stage.Move n y → x.core.ops ≡ o ∷ op.Start n ∷ [] → attachment_by x n y ≡ Some e → can_attach w e ≡ true
      → Becomes w x n y e (attach_answer_of w e) (settled_turn w read now x)
  answered-so y o e speaks at due is can =
      let goes = speaks.goes n y at in
      let path : x ≡ going y =
      ap (λ (s : Stage). record x { stage = s }) at ∙ ap (λ (os : List Op). record x { stage = stage.Move n y; core = record x.core { ops = os } }) (due-so y o goes due) in
      subst (λ (z : Recovery). Becomes w z n y e (attach_answer_of w e) (settled_turn w read now z)) (sym path) (goes-answered y e goes.1 is can)

-- ---- it is tried

some-there : (o : Option Exchange) → is_some o ≡ true → (e : Exchange) × (o ≡ Some e)
some-there None h = absurd (false≢true h)
some-there (Some e) h = (e, refl)

set-there : (n m : ServerNo) (o : Option Position) → is_some o ≡ true → is_some (by_set n m o) ≡ true
set-there n m None h = absurd (false≢true h)
set-there n m (Some s) h = refl

module _ (w : World) (x : Recovery) (n : ServerNo) (held : HeldRecovery w x) where
  -- it finds what it uses
  finds-so : (o : Op) (rest : List Op) → x.core.ops ≡ o ∷ rest → finds (footing w x.core.seen) (deed_of o) ≡ true
  finds-so o rest is =
      (and_parts (finds (footing w x.core.seen) (deed_of o)) (are_held (learn (footing w x.core.seen) (deed_of o)) rest)
      (subst (λ (ops : List Op). are_held (footing w x.core.seen) ops ≡ true) is held.core.left)).0

  matched-so : (m : ServerNo) (rest : List Op) → x.core.ops ≡ op.CrossMatch n m ∷ rest → matched_in x.core.matches n m ≡ true
  matched-so m rest is =
      (and_parts (matched_in x.core.matches n m) (are_matched (matched_in x.core.matches) rest)
      (subst (λ (ops : List Op). are_matched (matched_in x.core.matches) ops ≡ true) is held.core.matched)).0

  tried-so : (y : Way) (rest : List Op) → x.core.ops ≡ move y n ∷ rest → (e : Exchange) × (attachment_of x.core (deed_of (move y n)) ≡ Some e) × (can_attach w e ≡ true)
  tried-so (way.Down z) rest is =
      let o : Option Exchange = crossed cross.Down n (bridge_at z.no (seen_of x.core.seen z.no.0)) in
      let t = some-there o (crossing-found w x.core.seen held.core.shown cross.Down n z.no (finds-so (op.Cross cross.Down n z.no) rest is)) in
      (t.0, t.1, crossing-can w x.core.seen held.core.shown cross.Down n z.no t.0 t.1)
  tried-so (way.Up z) rest is =
      let o : Option Exchange = crossed cross.Up n (bridge_at z.no (seen_of x.core.seen z.no.0)) in
      let t = some-there o (crossing-found w x.core.seen held.core.shown cross.Up n z.no (finds-so (op.Cross cross.Up n z.no) rest is)) in
      (t.0, t.1, crossing-can w x.core.seen held.core.shown cross.Up n z.no t.0 t.1)
  tried-so (way.Auto to exec) rest is =
      let found = finds-so (op.Auto n to) rest is in
      let read = (and_parts (is_some (seen_of x.core.seen to.0)) (logs_at w to) (and_parts w.gtid (is_some (seen_of x.core.seen to.0) && logs_at w to) found).1).0 in
      let t = some-there (by_set n to (seen_of x.core.seen to.0)) (set-there n to (seen_of x.core.seen to.0) read) in
      (t.0, t.1, auto-can w x.core.seen n to t.0 found t.1)
  tried-so (way.Match to exec every) rest is =
      let t = some-there (by_match n to (match_found x.core.matches n to)) (match-there x.core.matches n to (matched-so to rest is)) in
      (t.0, t.1, match-can w x.core.matches n to t.0 held.core.ends t.1)

pub turn-answered : (w : World) (b : BookState) (read : ℕ) (now : Moment) (r : Recovery) → HeldRings w b.rings → HeldRecovery w r → Speaks r → (n : ServerNo) (y : Way) (o : Op)
    → (decided (ground_of w b now) r).stage ≡ stage.Move n y → (decided (ground_of w b now) r).core.ops ≡ o ∷ op.Start n ∷ []
    → IsTriedNow w (decided (ground_of w b now) r) n y (taken w b read now r)
turn-answered w b read now r rings held speaks n y o at due =
    let says = decisions-keep w b now SpeaksWith (decides-speaks w b now) (decided-walks w b now r) speaks.says in
    let has = decisions-keep w b now (HeldRecovery w) (decides-held w b now rings) (decided-walks w b now r) held in
    let goes = says.goes n y at in
    let t = tried-so w (decided (ground_of w b now) r) n has y (op.Start n ∷ []) (due-so w read now (decided (ground_of w b now) r) n y o goes due) in
    let is = sym (way-attachment (decided (ground_of w b now) r) n y goes.1) ∙ t.1 in
    record { exchange = t.0; is = is; becomes = answered-so w read now (decided (ground_of w b now) r) n y o t.0 says at due is t.2 }
