-- Single turns, and what comes after them.
use Rattle.std.proofs.Common.{◌≡◌, ◌∙◌, inl, inr, Bool, true, false, List, [], ◌∷◌, ◌++◌, map, None, refl, sym, ap, append_assoc}
use Rattle.plan_laws.proofs.Prelude.{BookState, Course, Done, Event, GoesAsPlanned, IsMissed, Job, Missed, Op, Place, Purpose, Recovery, ServerNo}
use Rattle.plan_laws.proofs.Prelude.{Stage, Task, are_still, false≢true, gathers, is_takeover, left, progressed}
use Rattle.plan_laws.proofs.Prelude.RunLaws.{Line as Told}
use Rattle.plan_laws.proofs.Prelude.op
use Rattle.plan_laws.proofs.Prelude.purpose
use Rattle.plan_laws.proofs.Prelude.stage
use Rattle.plan_laws.proofs.Prelude.task
use Rattle.plan_laws.proofs.Meeting.{done-first, last-of, walk-on}
use Rattle.plan_laws.proofs.Parted.{detached, started}
use Rattle.plan_laws.proofs.Scripts.{goes}
pub use Rattle.plan_lines.proofs.TakenOver.{longer}

-- ---- what turns do

-- turns do these, and then the recovery ends
abbrev pub Ends : List Event → List Event → Type 0
Ends es evs = (told : List Told) × (es ≡ evs ++ Done (op.Finish told) ∷ [])

pub next : (e : Event) (es later evs : List Event) → es ≡ e ∷ later → Ends later evs → Ends es (e ∷ evs)
next e es later evs is rest = (rest.0, is ∙ ap (λ l. e ∷ l) rest.1)

pub onto : (es later more evs : List Event) → es ≡ more ++ later → Ends later evs → Ends es (more ++ evs)
onto es later more evs is rest =
    (rest.0, is ∙ (ap (λ l. more ++ l) rest.1 ∙ sym (append_assoc more evs (Done (op.Finish rest.0) ∷ []))))

-- the task that parts a lost one
abbrev pub parting : Purpose → ServerNo → Task
parting purpose.Regroup n = task.Releasing n
parting _ n = task.Expelling n

pub parting-is : (u : Purpose) (ks : List ServerNo) → map task.Expelling (detached u ks) ++ (map task.Releasing (started u ks) ++ []) ≡ map (parting u) ks ++ []
parting-is purpose.Regroup ks = refl
parting-is _ ks = refl

pub no-takeover : (u : Purpose) → gathers u ≡ true → is_takeover u ≡ false
no-takeover purpose.Regroup is = refl
no-takeover purpose.Master is = refl
no-takeover (purpose.Intermediate s) is = absurd (false≢true is)
no-takeover (purpose.Takeover d) is = absurd (false≢true is)

-- whose receiver an operation stops
abbrev pub stopped_by : ServerNo → Op → ServerNo
stopped_by d (op.StopReceiver n) = n
stopped_by d _ = d

-- whether an operation may be missed in a stage
abbrev pub asks : Stage → Op → Bool
asks stage.Check o = true
asks (stage.Drain n) (op.StopReceiver k) = true
asks (stage.Drain n) _ = false
asks (stage.Move n by) (op.Auto k m) = true
asks (stage.Move n by) _ = false
asks _ o = false

module _ (b : BookState) (G : Place → Recovery → Type 0) where
  abbrev pub Runs : Recovery → List Event → Type 0
  Runs r es = Course G (GoesAsPlanned b) r es

  pub misses-no : (x : Recovery) (o : Op) (rest : List Op) → asks x.stage o ≡ false → (c : Job) (later : Recovery) → GoesAsPlanned b (left x c (o ∷ rest)) (Missed o) later → ⊥
  misses-no x o rest off c later (inl h) = false≢true (sym off ∙ ap (λ s. asks s o) h.checks)
  misses-no x o rest off c later (inr m) = go m.1
    where
      go : IsMissed b m.0 (left x c (o ∷ rest)) o later → ⊥
      go (inl h) = false≢true (sym off ∙ (λ i. asks (h.drains i) (h.asks i)))
      go (inr h) = false≢true (sym off ∙ (λ i. asks (h.moves i) (h.asks i)))

  pub does : (x : Recovery) (o : Op) (rest : List Op) → asks x.stage o ≡ false → ((told : List Told) → o ≡ op.Finish told → ⊥) → (evs : List Event)
      → ((j : Job) (later : List Event) → Runs (progressed (left x j rest) o false) later → Ends later evs)
      → (c : Job) (es : List Event) → Runs (left x c (o ∷ rest)) es → Ends es (Done o ∷ evs)
  does x o rest off ending evs further c es goes =
      let one = done-first G (GoesAsPlanned b) x c o rest ending (misses-no x o rest off) es goes in
      next (Done o) es one.later evs one.is (further one.job one.later one.goes)

  pub walks : (x : Recovery) (ops : List Op) (o : Op) (rest : List Op) → are_still x.stage ops ≡ true → ((p : Op) → asks x.stage p ≡ false) → (evs : List Event)
      → ((j : Job) (later : List Event) → Runs (left x j (o ∷ rest)) later → Ends later evs)
      → (c : Job) (es : List Event) → Runs (left x c (ops ++ o ∷ rest)) es → Ends es (map Done ops ++ evs)
  walks x ops o rest still off evs further c es goes =
      let to = walk-on G (GoesAsPlanned b) x ops o rest still (λ p ps. misses-no x p ps (off p)) c es goes in
      onto es to.later (map Done ops) evs to.is (further to.job to.later to.goes)

  never-ends : (told : List Told) (s : Recovery) (later : Recovery) → GoesAsPlanned b s (Missed (op.Finish told)) later → ⊥
  never-ends told s later (inl h) = let e : op.Finish told ≡ op.Status s.failed None = h.asks in cc
  never-ends told s later (inr m) = go m.1
    where
      go : IsMissed b m.0 s (op.Finish told) later → ⊥
      go (inl h) = let e : op.Finish told ≡ op.StopReceiver m.0 = h.asks in cc
      go (inr h) = let e : op.Finish told ≡ op.Auto m.0 h.to = h.asks in cc

  pub finishes : (x : Recovery) (told : List Told) (c : Job) (es : List Event) → Runs (left x c (op.Finish told ∷ [])) es → Ends es []
  finishes x told c es goes = (told, last-of G (GoesAsPlanned b) x c told [] (never-ends told (left x c (op.Finish told ∷ []))) es goes)
