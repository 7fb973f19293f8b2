-- What is read in a turn of the replica of a stage.
use Rattle.std.proofs.Common.{◌≡◌, ℕ, Bool, true, false, cond, List, [], ◌∷◌, ◌++◌, refl, sym, ◌∙◌, ap, subst, Option, Some, None, ◌⊎◌, inl, inr}
use Rattle.recovery_reasons.proofs.Prelude.{Attempt, BookState, Decisions, Exchange, Fits, HeldRecovery, Job, Moment, Observation, Op, Recovery}
use Rattle.recovery_reasons.proofs.Prelude.{ServerNo, Sight, Stage, Status, World, after_look, by_deed, deed_of, ends, entered, eq-eqb, fits-step}
use Rattle.recovery_reasons.proofs.Prelude.{follows_no_more, ground_of, lead_of, leaver, moved, moved-fits, moved-leads, observed, position_of}
use Rattle.recovery_reasons.proofs.Prelude.{reads_last, same-head, same_Some, seen-at, seen_in, seen_of, speaks_of, status, stepped, tail_of}
use Rattle.recovery_reasons.proofs.Prelude.attempt
use Rattle.recovery_reasons.proofs.Prelude.op
use Rattle.recovery_reasons.proofs.Prelude.stage

-- the replica whose reading a stage has just made
abbrev pub reader_of : Stage → Option ServerNo
reader_of (stage.Judged n) = Some n
reader_of (stage.Looked n b) = Some n
reader_of (stage.Halted n b) = Some n
reader_of s = None

-- only a reading leads there
moved-reader : (s : Stage) (o : Op) (rest : List Op) (n : ServerNo) → o ∷ rest ≡ tail_of s → reader_of (moved s) ≡ Some n → o ≡ op.Status n None
moved-reader (stage.Drain m) o rest n e h = same-head o (op.Status m None) rest [] e ∙ ap (λ (x : ServerNo). op.Status x None) (same_Some m n h)
moved-reader (stage.Look m b) o rest n e h = same-head o (op.Status m None) rest [] e ∙ ap (λ (x : ServerNo). op.Status x None) (same_Some m n h)
moved-reader (stage.Trail m b) o rest n e h = same-head o (op.Status m None) rest [] e ∙ ap (λ (x : ServerNo). op.Status x None) (same_Some m n h)
moved-reader (stage.Judged m) o rest n e h = cc
moved-reader (stage.Looked m b) o rest n e h = cc
moved-reader (stage.Halted m b) o rest n e h = cc
moved-reader s o rest n e h = cc

-- the reading of the replica that its operations speak with
moved-reads : (s : Stage) (o : Op) (rest : List Op) (n : ServerNo) → o ∷ rest ≡ tail_of s → reader_of (moved s) ≡ Some n → (speaks_of s ≡ Some n) × (reads_last s ≡ true)
moved-reads (stage.Drain m) o rest n e h = (h, refl)
moved-reads (stage.Look m b) o rest n e h = (h, refl)
moved-reads (stage.Trail m b) o rest n e h = (h, refl)
moved-reads (stage.Judged m) o rest n e h = cc
moved-reads (stage.Looked m b) o rest n e h = cc
moved-reads (stage.Halted m b) o rest n e h = cc
moved-reads s o rest n e h = cc

-- with an operation left a stage's reading is still to come
unread : (s : Stage) (o : Op) (rest : List Op) (n : ServerNo) → Fits s (o ∷ rest) → reader_of s ≡ Some n → ⊥
unread (stage.Judged m) o rest n f h = let e : o ∷ rest ≡ [] = f.is ∙ ap (λ xs. xs ++ []) (f.due refl) in cc
unread (stage.Looked m b) o rest n f h = let e : o ∷ rest ≡ [] = f.is ∙ ap (λ xs. xs ++ []) (f.due refl) in cc
unread (stage.Halted m b) o rest n f h = let e : o ∷ rest ≡ [] = f.is ∙ ap (λ xs. xs ++ []) (f.due refl) in cc
unread s o rest n f h = cc

-- what a status of this turn showed
abbrev pub ShowsNow : World → List Sight → ServerNo → Type 0
ShowsNow w seen n = (s : Status) × (seen_in (status w n.0) ≡ Some s) × (seen_of seen n.0 ≡ Some (position_of s))

abbrev pub ReadsNow : World → ServerNo → Attempt → Type 0
ReadsNow w n (attempt.Goes o es k) = ShowsNow w k.seen n
ReadsNow w n (attempt.Stops c o) = Unit {0}
ReadsNow w n (attempt.Ends lines) = Unit {0}

pub read-now : (w : World) (read : ℕ) (now : Moment) (j : Job) (rest : List Op) (n : ServerNo) → ReadsNow w n (by_deed w read now j rest (deed_of (op.Status n None)))
read-now w read now j rest n = go (seen_in (status w n.0)) refl
  where
    go : (x : Option Status) → seen_in (status w n.0) ≡ x → ReadsNow w n (after_look j rest n None (observed w read now n) x)
    go None e = tt
    go (Some s) e = (s, e, seen-at j.seen n (position_of s) n.0 ∙ ap (λ b. cond b (Some (position_of s)) (seen_of j.seen n.0)) (eq-eqb n.0 n.0 refl))

-- ---- the recovery once the turn's operation is done

-- The recovery is what a decided one led to, whose operation was done. The replica that its stage has just read was
-- read in this turn.
pub record Reading (w : World) (b : BookState) (now : Moment) (r : Recovery) (z : Recovery) : Type 0 where
  pub first : Recovery
  pub so : Decisions (ground_of w b now) r first
  pub failed : z.failed ≡ first.failed
  pub lead : z.lead ≡ first.lead
  pub led : lead_of z.stage ≡ lead_of first.stage
  pub told : (n : ServerNo) → reader_of z.stage ≡ Some n → speaks_of first.stage ≡ Some n
  pub reads : (n : ServerNo) → reader_of z.stage ≡ Some n → reads_last first.stage ≡ true
  pub shows : (n : ServerNo) → reader_of z.stage ≡ Some n → ShowsNow w z.core.seen n

pub fits-of : (w : World) (x : Recovery) (o : Op) (rest : List Op) → x.core.ops ≡ o ∷ rest → HeldRecovery w x → Fits x.stage (o ∷ rest)
fits-of w x o rest is held = subst (λ (xs : List Op). Fits x.stage xs) is held.fits

module _ (w : World) (b : BookState) (now : Moment) (r : Recovery) (read : ℕ) (x : Recovery) (so : Decisions (ground_of w b now) r x) (o : Op) (rest : List Op) (fits : Fits x.stage (o ∷ rest))
    (ob : Option Observation) (es : List Exchange) (k : Job) (e : by_deed w read now x.core rest (deed_of o) ≡ attempt.Goes ob es k) where
  abbrev later : Recovery
  later = record x { core = k }

  entered-reading : (s : Stage) → lead_of s ≡ lead_of x.stage → ((n : ServerNo) → reader_of s ≡ Some n → (speaks_of x.stage ≡ Some n) × (reads_last x.stage ≡ true)) → ((n : ServerNo) → reader_of s ≡ Some n → ShowsNow w k.seen n)
      → Reading w b now r (entered later s)
  entered-reading s led reads shows = go (leaver s)
    where
      go : (q : Option ServerNo) → Reading w b now r (record (follows_no_more later q) { stage = s })
      go None = record { first = x; so = so; failed = refl; lead = refl; led = led; told = λ n h. (reads n h).0; reads = λ n h. (reads n h).1; shows = shows }
      go (Some m) = record { first = x; so = so; failed = refl; lead = refl; led = led; told = λ n h. (reads n h).0; reads = λ n h. (reads n h).1; shows = shows }

  pub stepped-reading : Reading w b now r (stepped later o)
  stepped-reading = go (fits-step x.stage o rest fits)
    where
      go : ((ends x.stage (deed_of o) ≡ false) × Fits x.stage rest) ⊎ (o ∷ rest ≡ tail_of x.stage) → Reading w b now r (stepped later o)
      go (inl p) =
          subst (λ (a : Bool). Reading w b now r (cond a (entered later (moved x.stage)) later)) (sym p.0)
          (record {
            first = x;
            so = so;
            failed = refl;
            lead = refl;
            led = refl;
            told = λ n h. absurd (unread x.stage o rest n fits h);
            reads = λ n h. absurd (unread x.stage o rest n fits h);
            shows = λ n h. absurd (unread x.stage o rest n fits h);
          })
      go (inr t) =
          subst (λ (a : Bool). Reading w b now r (cond a (entered later (moved x.stage)) later)) (sym (moved-fits x.stage o rest t).0)
          (entered-reading (moved x.stage) (moved-leads x.stage) (λ n h. moved-reads x.stage o rest n t h) (λ n h.
          subst (λ (a : Attempt). ReadsNow w n a) e
          (subst (λ (y : Op). ReadsNow w n (by_deed w read now x.core rest (deed_of y))) (sym (moved-reader x.stage o rest n t h)) (read-now w read now x.core rest n))))
