-- What is left of a stage that waits are its last operations, and no other stage waits.
use Rattle.std.proofs.Common.{◌≡◌, ℕ, Bool, true, false, cond, not, List, [], ◌∷◌, ◌++◌, refl, sym, ◌∙◌, ap, subst, Option, Some, None, ◌⊎◌, inl, inr, append_assoc}
use Rattle.recovery_reasons.proofs.Prelude.{AreLeft, Bearing, BookState, Decision, Ending, Fits, HeldRecovery, HeldRings, IsRest, Job, Keeps, MayDecide}
use Rattle.recovery_reasons.proofs.Prelude.{Means, Moment, Op, Purpose, Recovery, ServerNo, Stage, Way, World, and_parts, are_calm, before}
use Rattle.recovery_reasons.proofs.Prelude.{begun_recovery, borne, closing, decided_by, decides-held, deed_of, ended_by, ends, entered, false≢true, fate_of}
use Rattle.recovery_reasons.proofs.Prelude.{fits-step, follows_no_more, gathering, ground_of, is_going, kept-along, last_looks, leaver, move, moved, moved-fits}
use Rattle.recovery_reasons.proofs.Prelude.{same-head, same-tail, stepped, tail_of, taken, waits, went-of}
use Rattle.recovery_reasons.proofs.Prelude.by
use Rattle.recovery_reasons.proofs.Prelude.cross
use Rattle.recovery_reasons.proofs.Prelude.op
use Rattle.recovery_reasons.proofs.Prelude.purpose
use Rattle.recovery_reasons.proofs.Prelude.stage
use Rattle.recovery_reasons.proofs.Prelude.way
use Rattle.recovery_reasons.proofs.Readings.{fits-of}

abbrev pub IsListed : Recovery → Type 0
IsListed r = AreLeft r.stage r.core.ops

abbrev AreCalm : List Op → Type 0
AreCalm ops = are_calm ops ≡ true

whole : (all : List Op) → IsRest all all
whole all = record { done = []; split = refl }

fewer : (all : List Op) (o : Op) (rest : List Op) → IsRest all (o ∷ rest) → IsRest all rest
fewer all o rest h = record { done = h.done ++ o ∷ []; split = h.split ∙ sym (append_assoc h.done (o ∷ []) rest) }

calmer : (o : Op) (rest : List Op) → AreCalm (o ∷ rest) → AreCalm rest
calmer o rest h = (and_parts (not (waits (deed_of o))) (are_calm rest) h).1

-- an operation that doesn't end its stage leaves it the others
next-left : (s : Stage) (o : Op) (rest : List Op) → ends s (deed_of o) ≡ false → AreLeft s (o ∷ rest) → AreLeft s rest
next-left (stage.Drain n) o rest e h = fewer _ o rest h
next-left (stage.Trail n x) o rest e h = fewer _ o rest h
next-left (stage.Level p q) o rest e h = fewer _ o rest h
next-left (stage.Gather m d) o rest e h = fewer _ o rest h
next-left (stage.Shut m d) o rest e h =
    let first : o ≡ op.ReadOnly m true = same-head o (op.ReadOnly m true) rest (gathering m d) h in
    absurd (false≢true (sym e ∙ ap (λ (y : Op). ends (stage.Shut m d) (deed_of y)) first))
next-left stage.Idle o rest e h = calmer o rest h
next-left s o rest e h = calmer o rest h

way-calm : (n : ServerNo) (go : Way) → AreCalm (before go n ++ move go n ∷ op.Start n ∷ [])
way-calm n (way.Down x) = refl
way-calm n _ = refl

-- only what closes a master leads to a stage that waits
moved-listed : (s : Stage) (o : Op) (rest : List Op) → o ∷ rest ≡ tail_of s → AreLeft (moved s) rest
moved-listed s o rest t = go s t
  where
    like : (x : Op) (xs : List Op) → o ∷ rest ≡ x ∷ xs → AreCalm xs → AreCalm rest
    like x xs e h = subst AreCalm (sym (same-tail o x rest xs e)) h

    go : (k : Stage) → o ∷ rest ≡ tail_of k → AreLeft (moved k) rest
    go (stage.Shut m d) e = subst (λ (xs : List Op). IsRest (gathering m d) xs) (sym (same-tail o (op.ReadOnly m true) rest (gathering m d) e)) (whole (gathering m d))
    go (stage.Drain n) e = like (op.Status n None) [] e refl
    go (stage.Look n x) e = like (op.Status n None) [] e refl
    go (stage.Trail n x) e = like (op.Status n None) [] e refl
    go (stage.Move n y) e = like (move y n) (op.Start n ∷ []) e refl
    go (stage.Expel n) e = like (op.Detach n) [] e refl
    go (stage.Level p q) e = like (op.Reset q) (op.Cross cross.About p q ∷ []) e refl
    go (stage.Swap p q) e = like (op.Cross cross.About p q) [] e refl
    go (stage.Return p q) e = like (op.Cross cross.Back q p) (op.Start q ∷ []) e refl
    go (stage.Crown n) e = like (op.Reset n) (op.ReadOnly n false ∷ []) e refl
    go (stage.Open n) e = like (op.ReadOnly n false) [] e refl
    go (stage.Yield m d) e = like (op.Reset d) (op.Cross cross.About m d ∷ []) e refl
    go (stage.Switch m d) e = like (op.Cross cross.About m d) [] e refl
    go (stage.Close lines) e = like (op.Finish lines) [] e refl
    go k e = cc

-- ---- a turn

module _ (w : World) (b : BookState) (now : Moment) where
  pub decides-listed : (r : Recovery) (d : Decision) → MayDecide (ground_of w b now) r d → IsListed r → IsListed (decided_by (ground_of w b now) r d)
  decides-listed r (by.Drains n ts) may h = whole _
  decides-listed r (by.Levels p q) may h = whole _
  decides-listed r (by.Reads n ts) may h = refl
  decides-listed r (by.Sends n go ts) may h = way-calm n go
  decides-listed r (by.Expels n ts) may h = refl
  decides-listed r (by.Releases n ts) may h = refl
  decides-listed r (by.Looks n x ts) may h = refl
  decides-listed r (by.Yields x ts) may h = refl
  decides-listed r (by.Hands d ds go ts) may h = way-calm d.no go
  decides-listed r (by.Crowns p) may h = refl
  decides-listed r (by.Rejoins p) may h = refl
  decides-listed r by.Closes may h = refl
  decides-listed r d may h = h

completes-listed : (r : Recovery) (e : Ending) → r.core.ops ≡ [] → IsListed (ended_by r e)
completes-listed r (by.Trails n x) none = whole _
completes-listed r (by.Shuts m d) none = refl
completes-listed r (by.Frees n why) none = refl
completes-listed r (by.Joins n x) none = refl
completes-listed r (by.Swaps p q) none = refl
completes-listed r (by.Switches m d) none = refl
completes-listed r (by.Ends n) none = go r.purpose
  where
    go : (u : Purpose) → IsListed (closing r (last_looks r u n))
    go (purpose.Takeover d) = refl
    go _ = refl
completes-listed r by.Rests none = ap are_calm none
completes-listed r e none = ap are_calm none

bears-listed : (r : Recovery) (e : Bearing) → IsListed (borne r (fate_of e))
bears-listed r by.Drops = refl
bears-listed r e = refl

pub stepped-listed : (r : Recovery) (o : Op) (rest : List Op) (j : Job) → Fits r.stage (o ∷ rest) → AreLeft r.stage (o ∷ rest) → j.ops ≡ rest → IsListed (stepped (record r { core = j }) o)
stepped-listed r o rest j fits h left = go (fits-step r.stage o rest fits)
  where
    later : Recovery
    later = record r { core = j }

    at : (s : Stage) (q : Option ServerNo) → AreLeft s rest → IsListed (record (follows_no_more later q) { stage = s })
    at s None i = subst (λ (xs : List Op). AreLeft s xs) (sym left) i
    at s (Some n) i = subst (λ (xs : List Op). AreLeft s xs) (sym left) i

    go : ((ends r.stage (deed_of o) ≡ false) × Fits r.stage rest) ⊎ (o ∷ rest ≡ tail_of r.stage) → IsListed (stepped later o)
    go (inl p) =
        subst (λ (a : Bool). IsListed (cond a (entered later (moved r.stage)) later)) (sym p.0)
        (subst (λ (xs : List Op). AreLeft r.stage xs) (sym left) (next-left r.stage o rest p.0 h))
    go (inr t) =
        subst (λ (a : Bool). IsListed (cond a (entered later (moved r.stage)) later)) (sym (moved-fits r.stage o rest t).0)
        (at (moved r.stage) (leaver (moved r.stage)) (moved-listed r.stage o rest t))

pub due-listed : (r : Recovery) (o : Op) (rest : List Op) → r.core.ops ≡ o ∷ rest → IsListed r → AreLeft r.stage (o ∷ rest)
due-listed r o rest is h = subst (λ (xs : List Op). AreLeft r.stage xs) is h

keeps-listed : (w : World) (b : BookState) (read : ℕ) (now : Moment) → HeldRings w b.rings → Keeps w b read now (λ r. HeldRecovery w r × IsListed r) (λ v r. IsListed r) (λ v r. IsListed r)
keeps-listed w b read now rings = record {
  decides = λ r d may h. (decides-held w b now rings r d may h.0, decides-listed w b now r d may h.1);
  waits = λ r o rest ob es j did e h. subst (λ (xs : List Op). AreLeft r.stage xs) (sym ((went-of w read now r o rest ob es j did).waits e).0) h.1;
  acts = λ r o rest ob es j did e h.
      stepped-listed r o rest j (fits-of w r o rest did.ops h.0) (due-listed r o rest did.ops h.1) ((went-of w read now r o rest ob es j did).done e);
  continues = λ v r x xs is h. h;
  completes = λ v r e none may h. completes-listed r e none;
  bears = λ r o rest c ob e stops is may h. bears-listed r e;
}

pub taken-listed : (w : World) (b : BookState) (read : ℕ) (now : Moment) (r : Recovery) → HeldRings w b.rings → HeldRecovery w r → IsListed r → is_going (taken w b read now r).step ≡ true
    → IsListed (taken w b read now r).recovery
taken-listed w b read now r rings held h going =
    kept-along w b read now (λ x. HeldRecovery w x × IsListed x) (λ v x. IsListed x) (λ v x. IsListed x) (keeps-listed w b read now rings) r (held, h) going

pub begun-listed : (u : Purpose) (by : Means) (id wait : ℕ) (f : ServerNo) (ns order : List ServerNo) → IsListed (begun_recovery u by id wait f ns order)
begun-listed purpose.Regroup by id wait f ns order = refl
begun-listed _ by id wait f ns order = refl
