-- The operations that are left of a recovery are its stage's, whatever the servers and the book.
use Rattle.std.proofs.Common.{◌≡◌, ℕ, Bool, true, false, cond, List, [], ◌∷◌, refl, sym, subst, Option, Some, None, ◌⊎◌, inl, inr}
use Rattle.recovery_ends.proofs.Prelude.{Attempt, Bearing, BookState, Bridge, Decision, Does, Ending, Exchange, Fits, Job, Keeps, MayDecide, MayEnd}
use Rattle.recovery_ends.proofs.Prelude.{Moment, Observation, Op, Purpose, Recovery, ServerNo, Stage, World, borne, closing, decided_by, deed_of}
use Rattle.recovery_ends.proofs.Prelude.{ended_by, ends, entered, fate_of, first_ops, first_stage, follows_no_more, ground_of, idle, is_going}
use Rattle.recovery_ends.proofs.Prelude.{kept-along, last_looks, leaver, level, moved, result_lines, stepped, tail_of, taken, trail}
use Rattle.recovery_ends.proofs.Prelude.by
use Rattle.recovery_ends.proofs.Prelude.op
use Rattle.recovery_ends.proofs.Prelude.purpose
use Rattle.recovery_ends.proofs.Prelude.stage
use Rattle.recovery_ends.proofs.Prelude.way
use Rattle.recovery_ends.proofs.Shapes.{Went, WentOn, deed-went, fits-step, front-fits, moved-fits, tail-fits, way-fits}

abbrev pub IsFit : Recovery → Type 0
IsFit r = Fits r.stage r.core.ops

-- ---- stages with operations before the one that ends them

level-fits : (p q : ServerNo) → Fits (stage.Level p q) (level p q)
level-fits p q = record {
  front = op.Status p None ∷ op.Status q (Some p) ∷ op.Until q _ ∷ op.Await q _ ∷ op.Stop q ∷ op.Status q (Some p) ∷ [];
  still = refl;
  is = refl;
  due = λ h. cc;
}

trail-fits : (n : ServerNo) (b : Bridge) → Fits (stage.Trail n b) (trail n b.no)
trail-fits n b = record { front = op.Until n _ ∷ op.Await n _ ∷ op.Stop n ∷ []; still = refl; is = refl; due = λ h. cc }

drain-fits : (n : ServerNo) → Fits (stage.Drain n) (op.StopReceiver n ∷ op.Settle n ∷ op.Stop n ∷ op.Status n None ∷ [])
drain-fits n = record { front = op.StopReceiver n ∷ op.Settle n ∷ op.Stop n ∷ []; still = refl; is = refl; due = λ h. cc }

start-fits : (r : Recovery) (p : ServerNo) → Fits (stage.Close (result_lines r)) (op.Start p ∷ op.Finish (result_lines r) ∷ [])
start-fits r p = record { front = op.Start p ∷ []; still = refl; is = refl; due = λ h. cc }

release-fits : (n : ServerNo) → Fits (stage.Release n) (op.Start n ∷ [])
release-fits n = front-fits (stage.Release n) (op.Start n ∷ []) refl refl refl

-- ---- what is decided

pub decides-fits : (w : World) (b : BookState) (now : Moment) (r : Recovery) (d : Decision) → MayDecide (ground_of w b now) r d → IsFit r → IsFit (decided_by (ground_of w b now) r d)
decides-fits w b now r (by.Reads n ts) may fits = front-fits (stage.Read n) (op.Status n None ∷ []) refl refl refl
decides-fits w b now r (by.Drains n ts) may fits = drain-fits n
decides-fits w b now r (by.Sends n way ts) may fits = way-fits n way
decides-fits w b now r (by.Expels n ts) may fits = tail-fits (stage.Expel n)
decides-fits w b now r (by.Releases n ts) may fits = release-fits n
decides-fits w b now r (by.Looks n x ts) may fits = tail-fits (stage.Look n x)
decides-fits w b now r (by.Yields x ts) may fits = tail-fits (stage.Yield r.failed x.no)
decides-fits w b now r (by.Hands d ds way ts) may fits = way-fits d.no way
decides-fits w b now r (by.Levels p q) may fits = level-fits p q
decides-fits w b now r (by.Crowns p) may fits = tail-fits (stage.Crown p)
decides-fits w b now r (by.Rejoins p) may fits = start-fits r p
decides-fits w b now r by.Closes may fits = tail-fits (stage.Close (result_lines r))
decides-fits w b now r d may fits = fits

-- ---- a stage that is done

idle-fits : (r : Recovery) → r.core.ops ≡ [] → IsFit (idle r)
idle-fits r none = record { front = []; still = refl; is = none; due = λ h. cc }

close-fits : (r : Recovery) (u : Purpose) (n : ServerNo) → IsFit (closing r (last_looks r u n))
close-fits r (purpose.Takeover d) n = record { front = op.Status r.failed None ∷ op.Status n None ∷ []; still = refl; is = refl; due = λ h. cc }
close-fits r _ n = record { front = op.Status n None ∷ []; still = refl; is = refl; due = λ h. cc }

completes-fits : (v : World) (r : Recovery) (e : Ending) → r.core.ops ≡ [] → MayEnd r e → IsFit r → IsFit (ended_by r e)
completes-fits v r (by.Frees n why) none may fits = release-fits n
completes-fits v r (by.Trails n x) none may fits = trail-fits n x
completes-fits v r (by.Joins n x) none may fits = tail-fits (stage.Move n (way.Down x))
completes-fits v r (by.Swaps p q) none may fits = record { front = op.Start p ∷ []; still = refl; is = refl; due = λ h. cc }
completes-fits v r (by.Switches m d) none may fits = tail-fits (stage.Open d)
completes-fits v r (by.Shuts m d) none may fits = tail-fits (stage.Shut m d)
completes-fits v r (by.Ends n) none may fits = close-fits r r.purpose n
completes-fits v r e none may fits = idle-fits r none

-- ---- an operation

entered-fits : (r : Recovery) (s : Stage) → Fits s r.core.ops → IsFit (entered r s)
entered-fits r s fits = go (leaver s)
  where
    go : (o : Option ServerNo) → IsFit (record (follows_no_more r o) { stage = s })
    go None = fits
    go (Some n) = fits

pub stepped-fits : (r : Recovery) (o : Op) (rest : List Op) (j : Job) → Fits r.stage (o ∷ rest) → j.ops ≡ rest → IsFit (stepped (record r { core = j }) o)
stepped-fits r o rest j fits left = go (fits-step r.stage o rest fits)
  where
    later : Recovery
    later = record r { core = j }

    go : ((ends r.stage (deed_of o) ≡ false) × Fits r.stage rest) ⊎ (o ∷ rest ≡ tail_of r.stage) → IsFit (stepped (record r { core = j }) o)
    go (inl p) =
        subst (λ (b : Bool). IsFit (cond b (entered (record r { core = j }) (moved r.stage)) (record r { core = j }))) (sym p.0)
        (subst (λ (ops : List Op). Fits r.stage ops) (sym left) p.1)
    go (inr e) =
        let m = moved-fits r.stage o rest e in
        subst (λ (b : Bool). IsFit (cond b (entered (record r { core = j }) (moved r.stage)) (record r { core = j }))) (sym m.0)
        (entered-fits (record r { core = j }) (moved r.stage) (subst (λ (ops : List Op). Fits (moved r.stage) ops) (sym left) m.1))

bears-fits : (r : Recovery) (e : Bearing) → IsFit (borne r (fate_of e))
bears-fits r by.Drops = tail-fits stage.Idle
bears-fits r (by.Misses n why) = tail-fits stage.Idle
bears-fits r (by.Lets n why) = release-fits n
bears-fits r (by.Restarts p q) = release-fits q
bears-fits r (by.Returns p q) = tail-fits (stage.Return p q)

-- ---- a turn

pub went-of : (w : World) (read : ℕ) (now : Moment) (r : Recovery) (o : Op) (rest : List Op) (ob : Option Observation) (es : List Exchange) (j : Job) → Does w read now r o rest ob es j → WentOn r.core rest es j
went-of w read now r o rest ob es j did = subst (λ (a : Attempt). Went r.core rest a) did.goes (deed-went r.core rest w read now (deed_of o))

keeps-fits : (w : World) (b : BookState) (read : ℕ) (now : Moment) → Keeps w b read now IsFit (λ v r. IsFit r) (λ v r. IsFit r)
keeps-fits w b read now = record {
  decides = decides-fits w b now;
  waits = λ r o rest ob es j did e fits. subst (λ (ops : List Op). Fits r.stage ops) (sym ((went-of w read now r o rest ob es j did).waits e).0) fits;
  acts = λ r o rest ob es j did e fits.
      stepped-fits r o rest j (subst (λ (ops : List Op). Fits r.stage ops) did.ops fits) ((went-of w read now r o rest ob es j did).done e);
  continues = λ v r x xs is fits. fits;
  completes = completes-fits;
  bears = λ r o rest c ob e stops is may fits. bears-fits r e;
}

pub taken-fits : (w : World) (b : BookState) (read : ℕ) (now : Moment) (r : Recovery) → IsFit r → is_going (taken w b read now r).step ≡ true → IsFit (taken w b read now r).recovery
taken-fits w b read now r fits = kept-along w b read now IsFit (λ v s. IsFit s) (λ v s. IsFit s) (keeps-fits w b read now) r fits

-- ---- a recovery that begins

pub begun-fits : (u : Purpose) (f : ServerNo) → Fits (first_stage u f) (first_ops u f)
begun-fits purpose.Regroup f = tail-fits stage.Idle
begun-fits purpose.Master f = front-fits stage.Check (op.Status f None ∷ []) refl refl refl
begun-fits (purpose.Intermediate s) f = front-fits stage.Check (op.Status f None ∷ []) refl refl refl
begun-fits (purpose.Takeover d) f = front-fits (stage.Meet f d) (op.Status f None ∷ []) refl refl refl
