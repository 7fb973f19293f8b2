-- The operations that an attempt leaves of a stage.
use Rattle.std.proofs.Common.{◌≡◌, ℕ, ◌+◌, Bool, true, false, not, List, [], ◌∷◌, ◌++◌, refl, sym, ◌∙◌, ap, subst, None, ◌⊎◌, inl, inr, arith, ◌==◌, slice_index_or}
use Rattle.recovery_ends.proofs.Prelude.{Attempt, Attempts, Deed, Ends, Exchange, Fits, Goes, Job, Moment, Op, ServerNo, Stage, Stops, Way, World}
use Rattle.recovery_ends.proofs.Prelude.{and_parts, are_still, attempts, before, by_deed, deed_of, ends, false≢true, gather, is_due, is_waiting}
use Rattle.recovery_ends.proofs.Prelude.{moved, ne_eqb, tail_of}
use Rattle.recovery_ends.proofs.Prelude.cross
use Rattle.recovery_ends.proofs.Prelude.op
use Rattle.recovery_ends.proofs.Prelude.stage
use Rattle.recovery_ends.proofs.Prelude.way
use Rattle.recovery_ends.proofs.Prelude.doing

-- ---- an attempt that goes on

pub record WentOn (j : Job) (rest : List Op) (es : List Exchange) (k : Job) : Type 0 where
  pub done : is_waiting k ≡ false → k.ops ≡ rest
  pub waits : is_waiting k ≡ true → (k.ops ≡ j.ops) × (es ≡ [])

abbrev pub Went : Job → List Op → Attempt → Type 0
Went j rest (Goes o es k) = WentOn j rest es k
Went j rest (Stops c o) = Unit {0}
Went j rest (Ends lines) = Unit {0}

module _ (j : Job) (rest : List Op) where
  done-went : (es : List Exchange) (k : Job) → k.ops ≡ rest → k.waited ≡ 0 → WentOn j rest es k
  done-went es k same none = record {
    done = λ h. same;
    waits = λ h. absurd (false≢true (sym (ap (λ n. not (n == 0)) none) ∙ h));
  }

  went-by : (w : World) (read : ℕ) (now : Moment) (d : Deed) (a : Attempt) → Attempts w read now j rest d a → Went j rest a
  went-by w read now d a (doing.Misses n from c why) = tt
  went-by w read now d a (doing.Fails x c why) = tt
  went-by w read now d a (doing.Waits n x s is seen short more) = record {
    done = λ h. absurd (false≢true (sym h ∙ ap not (ne_eqb (j.waited + 1) 0 (λ e. omega (arith, e)))));
    waits = λ h. (refl, refl);
  }
  went-by w read now d a (doing.Finishes lines) = tt
  went-by w read now d a _ = done-went _ _ refl refl

  pub deed-went : (w : World) (read : ℕ) (now : Moment) (d : Deed) → Went j rest (by_deed w read now j rest d)
  deed-went w read now d = went-by w read now d (by_deed w read now j rest d) (attempts w read now j rest d)

-- ---- the operations of a stage

pub same-head : (o x : Op) (os xs : List Op) → o ∷ os ≡ x ∷ xs → o ≡ x
same-head o x os xs h = ap (λ l. slice_index_or l 0 o) h

pub same-tail : (o x : Op) (os xs : List Op) → o ∷ os ≡ x ∷ xs → os ≡ xs
same-tail o x os xs h = ap tail h
  where
    tail : List Op → List Op
    tail [] = []
    tail (y ∷ ys) = ys

-- the first operation of a stage doesn't end it, or it is the one that does
pub fits-step : (s : Stage) (o : Op) (rest : List Op) → Fits s (o ∷ rest) → ((ends s (deed_of o) ≡ false) × Fits s rest) ⊎ (o ∷ rest ≡ tail_of s)
fits-step s o rest fits = go fits.front fits.still fits.is fits.due
  where
    not-false : (b : Bool) → not b ≡ true → b ≡ false
    not-false true h = absurd (false≢true h)
    not-false false h = refl

    go : (front : List Op) → are_still s front ≡ true → o ∷ rest ≡ front ++ tail_of s → (is_due s ≡ true → front ≡ [])
        → ((ends s (deed_of o) ≡ false) × Fits s rest) ⊎ (o ∷ rest ≡ tail_of s)
    go [] still is due = inr is
    go (x ∷ xs) still is due =
        let parts = and_parts (not (ends s (deed_of x))) (are_still s xs) still in
        let same : o ≡ x = same-head o x rest (xs ++ tail_of s) is in
        inl (
          ap (λ y. ends s (deed_of y)) same ∙ not-false (ends s (deed_of x)) parts.0,
          record { front = xs; still = parts.1; is = same-tail o x rest (xs ++ tail_of s) is; due = λ h. let e : x ∷ xs ≡ [] = due h in cc },
        )

-- what ends a stage is all that is left of it
pub tail-fits : (s : Stage) → Fits s (tail_of s)
tail-fits s = record { front = []; still = refl; is = refl; due = λ h. refl }

nil-right : (xs : List Op) → xs ≡ xs ++ []
nil-right [] = refl
nil-right (x ∷ xs) = ap (λ l. x ∷ l) (nil-right xs)

-- operations of a stage that nothing ends
pub front-fits : (s : Stage) (ops : List Op) → tail_of s ≡ [] → is_due s ≡ false → are_still s ops ≡ true → Fits s ops
front-fits s ops none due still = record {
  front = ops;
  still = still;
  is = nil-right ops ∙ ap (λ xs. ops ++ xs) (sym none);
  due = λ h. absurd (false≢true (sym due ∙ h));
}

-- those of a replica that goes some way
pub way-fits : (n : ServerNo) (by : Way) → Fits (stage.Move n by) (before by n ++ tail_of (stage.Move n by))
way-fits n (way.Match to exec every) = record { front = op.Match n to every ∷ []; still = refl; is = refl; due = λ h. cc }
way-fits n x = tail-fits (stage.Move n x)

-- once the operation that ends a stage is done, what is left is the next stage's
moved-by : (s : Stage) (x : Op) (xs : List Op) (o : Op) (rest : List Op) → o ∷ rest ≡ x ∷ xs → ends s (deed_of x) ≡ true → Fits (moved s) xs → (ends s (deed_of o) ≡ true) × Fits (moved s) rest
moved-by s x xs o rest h e f = (
  ap (λ y. ends s (deed_of y)) (same-head o x rest xs h) ∙ e,
  subst (λ (ys : List Op). Fits (moved s) ys) (sym (same-tail o x rest xs h)) f,
)

pub moved-fits : (s : Stage) (o : Op) (rest : List Op) → o ∷ rest ≡ tail_of s → (ends s (deed_of o) ≡ true) × Fits (moved s) rest
moved-fits (stage.Drain n) o rest h = moved-by (stage.Drain n) (op.Status n None) [] o rest h refl (tail-fits (stage.Judged n))
moved-fits (stage.Look n b) o rest h = moved-by (stage.Look n b) (op.Status n None) [] o rest h refl (tail-fits (stage.Looked n b))
moved-fits (stage.Trail n b) o rest h = moved-by (stage.Trail n b) (op.Status n None) [] o rest h refl (tail-fits (stage.Halted n b))
moved-fits (stage.Move n (way.Down b)) o rest h =
    moved-by (stage.Move n (way.Down b)) (op.Cross cross.Down n b.no) (op.Start n ∷ []) o rest h refl (front-fits (stage.Join n b.no) (op.Start n ∷ []) refl refl refl)
moved-fits (stage.Move n (way.Up b)) o rest h =
    moved-by (stage.Move n (way.Up b)) (op.Cross cross.Up n b.no) (op.Start n ∷ []) o rest h refl (front-fits (stage.Join n b.source) (op.Start n ∷ []) refl refl refl)
moved-fits (stage.Move n (way.Auto to exec)) o rest h =
    moved-by (stage.Move n (way.Auto to exec)) (op.Auto n to) (op.Start n ∷ []) o rest h refl (front-fits (stage.Join n to) (op.Start n ∷ []) refl refl refl)
moved-fits (stage.Move n (way.Match to exec every)) o rest h =
    moved-by (stage.Move n (way.Match to exec every)) (op.CrossMatch n to) (op.Start n ∷ []) o rest h refl (front-fits (stage.Join n to) (op.Start n ∷ []) refl refl refl)
moved-fits (stage.Expel n) o rest h = moved-by (stage.Expel n) (op.Detach n) [] o rest h refl (tail-fits (stage.Expelled n))
moved-fits (stage.Level p q) o rest h =
    moved-by (stage.Level p q) (op.Reset q) (op.Cross cross.About p q ∷ []) o rest h refl (tail-fits (stage.Swap p q))
moved-fits (stage.Swap p q) o rest h = moved-by (stage.Swap p q) (op.Cross cross.About p q) [] o rest h refl (tail-fits (stage.Swapped p q))
moved-fits (stage.Return p q) o rest h =
    moved-by (stage.Return p q) (op.Cross cross.Back q p) (op.Start q ∷ []) o rest h refl (front-fits (stage.Resume p q) (op.Start q ∷ []) refl refl refl)
moved-fits (stage.Crown n) o rest h = moved-by (stage.Crown n) (op.Reset n) (op.ReadOnly n false ∷ []) o rest h refl (tail-fits (stage.Open n))
moved-fits (stage.Open n) o rest h = moved-by (stage.Open n) (op.ReadOnly n false) [] o rest h refl (tail-fits (stage.Opened n))
moved-fits (stage.Shut m d) o rest h =
    moved-by (stage.Shut m d) (op.ReadOnly m true) (gather m d) o rest h refl (front-fits (stage.Gather m d) (gather m d) refl refl refl)
moved-fits (stage.Yield m d) o rest h =
    moved-by (stage.Yield m d) (op.Reset d) (op.Cross cross.About m d ∷ []) o rest h refl (tail-fits (stage.Switch m d))
moved-fits (stage.Switch m d) o rest h = moved-by (stage.Switch m d) (op.Cross cross.About m d) [] o rest h refl (tail-fits (stage.Switched m d))
moved-fits (stage.Close lines) o rest h = moved-by (stage.Close lines) (op.Finish lines) [] o rest h refl (tail-fits stage.Idle)
moved-fits _ o rest h = cc
