-- A better one is looked for once. Who it is, and what becomes of it, has facts that count.
use Rattle.std.proofs.Common.{◌≡◌, ℕ, Bool, true, false, cond, List, [], ◌∷◌, map, refl, sym, ◌∙◌, ap, subst, Option, Some, None, ◌⊎◌, inl, inr, IfSome}
use Rattle.recovery_reasons.proofs.Prelude.{Bearing, Betters, BookState, Bridge, Cause, Decision, Decisions, Ending, ExplainsTruly, Fact, Fits}
use Rattle.recovery_reasons.proofs.Prelude.{GivesUp, HasNoBetter, IsBefallen, IsBetter, IsGivenUp, IsNext, IsOnCourse, IsSwapped, IsSwapping}
use Rattle.recovery_reasons.proofs.Prelude.{MayBear, MayDecide, MayEnd, Moment, Observation, Op, Recovery, Remains, ServerNo, Stage, Task}
use Rattle.recovery_reasons.proofs.Prelude.{WasLooked, World, better_of, borne, chosen-first, decided_by, deed_of, ended_by, ends, entered}
use Rattle.recovery_reasons.proofs.Prelude.{false≢true, fate_of, follower_of, follows_no_more, ground_of, is_better, leaver, moved, nearer_order}
use Rattle.recovery_reasons.proofs.Prelude.{next, rests, same_Some, stepped, working}
use Rattle.recovery_reasons.proofs.Prelude.by
use Rattle.recovery_reasons.proofs.Prelude.cross
use Rattle.recovery_reasons.proofs.Prelude.op
use Rattle.recovery_reasons.proofs.Prelude.purpose
use Rattle.recovery_reasons.proofs.Prelude.stage
use Rattle.recovery_reasons.proofs.Choosing.{best-of, none-better}
use Rattle.recovery_reasons.proofs.OnWay.{Fine, next-on, no-tail, still-on}
use Rattle.recovery_reasons.proofs.Tasks.{calm, swap_in, swaps-on, swaps-so}

-- whom it found, that takes the other's place by what the first function answers
abbrev Pair : Type 0
Pair = ServerNo × ServerNo

-- with no operation left a stage that rests changes no places
swaps-out : (s : Stage) → Fits s [] → rests s ≡ true → (p q : ServerNo) → IsSwapping s p q → ⊥
swaps-out s fits h p q (inl at) = let f = subst (λ (k : Stage). Fits k []) at fits in no-tail f.front _ _ f.is
swaps-out s fits h p q (inr (inl at)) = let f = subst (λ (k : Stage). Fits k []) at fits in no-tail f.front _ _ f.is
swaps-out s fits h p q (inr (inr at)) = false≢true (sym (ap rests at) ∙ h)

calm-at : (s t : Stage) → s ≡ t → swap_in t ≡ None → (p q : ServerNo) → IsSwapping s p q → ⊥
calm-at s t at none p q h = calm s (ap swap_in at ∙ none) p q h

-- except for the end of the change of places itself, whatever ends changes none
ending-calm : (r : Recovery) (e : Ending) → MayEnd r e → Fits r.stage [] → ((p q : ServerNo) → e ≡ by.Swaps p q → ⊥) → (m n : ServerNo) → IsSwapping r.stage m n → ⊥
ending-calm r by.Rests may fits other m n h = swaps-out r.stage fits may m n h
ending-calm r (by.Stays k s) may fits other m n h = calm-at r.stage (stage.Judged k) may.0 refl m n h
ending-calm r (by.Loses k y) may fits other m n h = go may.0
  where
    go : (r.stage ≡ stage.Judged k) ⊎ ((x : Bridge) × (r.stage ≡ stage.Looked k x)) → ⊥
    go (inl at) = calm-at r.stage (stage.Judged k) at refl m n h
    go (inr x) = calm-at r.stage (stage.Looked k x.0) x.1 refl m n h
ending-calm r (by.Frees k y) may fits other m n h = calm-at r.stage (stage.Halted k may.0) may.1 refl m n h
ending-calm r (by.Follows k p) may fits other m n h = go may
  where
    go : (r.stage ≡ stage.Join k p) ⊎ (r.stage ≡ stage.Resume p k) → ⊥
    go (inl at) = calm-at r.stage (stage.Join k p) at refl m n h
    go (inr at) = calm-at r.stage (stage.Resume p k) at refl m n h
ending-calm r (by.Marks k) may fits other m n h = calm-at r.stage (stage.Expelled k) may refl m n h
ending-calm r (by.Leads d) may fits other m n h = calm-at r.stage (stage.Gather may.0 d) may.1 refl m n h
ending-calm r (by.Trails k x) may fits other m n h = calm-at r.stage (stage.Looked k x) may.0 refl m n h
ending-calm r (by.Joins k x) may fits other m n h = calm-at r.stage (stage.Halted k x) may.0 refl m n h
ending-calm r (by.Swaps p q) may fits other m n h = other p q refl
ending-calm r (by.Switches k d) may fits other m n h = calm-at r.stage (stage.Switched k d) may refl m n h
ending-calm r (by.Shuts k d) may fits other m n h = calm-at r.stage (stage.Meet k d) may refl m n h
ending-calm r (by.Ends k) may fits other m n h = calm-at r.stage (stage.Opened k) may refl m n h

module _ (P : Fact → Bool) where
  abbrev pub Looked : Recovery → Type 0
  Looked x = (p : ServerNo) → x.purpose ≡ purpose.Master → x.chosen ≡ Some p → x.swaps ≡ false → WasLooked P x p

  -- with the same promoted one, and the same places to change
  pub looked-as : (x y : Recovery) → y.purpose ≡ x.purpose → y.chosen ≡ x.chosen → y.swaps ≡ x.swaps → y.outcome.promoted ≡ x.outcome.promoted
      → ((p q : ServerNo) → IsSwapping x.stage p q → IsSwapping y.stage p q) → Looked x → Looked y
  looked-as x y aim chosen swaps promoted on h p m c s = go (h p (sym aim ∙ m) (sym chosen ∙ c) (sym swaps ∙ s))
    where
      which : (q : ServerNo) → IsSwapped P x p q → IsSwapped P y p q
      which q (inl at) = inl (on p q at)
      which q (inr (inl is)) = inr (inl (promoted ∙ is))
      which q (inr (inr is)) = inr (inr (promoted ∙ is.0, is.1))

      go : WasLooked P x p → WasLooked P y p
      go (inl none) = inl (promoted ∙ none.0, none.1)
      go (inr one) = inr (one.0, one.1, which one.0 one.2)

module _ (w : World) (b : BookState) (now : Moment) (r : Recovery) (P : Fact → Bool) (why : ExplainsTruly w b now r P) where
  module _ (x : Recovery) (so : Decisions (ground_of w b now) r x) (fine : Fine x) where
    -- with a task left a better one isn't looked for yet
    unlooked : (t : Task) (ts : List Task) → IsNext x t ts → x.purpose ≡ purpose.Master → x.swaps ≡ false → ⊥
    unlooked t ts next m s = let bad : t ∷ ts ≡ [] = sym next.queue ∙ (next-on x t ts next fine).course.tasks.over m s in cc

    idle-with : x.core.ops ≡ [] → (p : ServerNo) → x.chosen ≡ Some p → x.stage ≡ stage.Idle
    idle-with none p c = go fine
      where
        go : Fine x → x.stage ≡ stage.Idle
        go (inl way) = way.rests none
        go (inr k) = let bad : None ≡ Some p = sym k.chosen ∙ c in cc

    led-by : x.purpose ≡ purpose.Master → x.swaps ≡ true → (p : ServerNo) → x.chosen ≡ Some p → x.outcome.promoted ≡ Some p
    led-by m s p c = go fine
      where
        go : Fine x → x.outcome.promoted ≡ Some p
        go (inl way) = way.course.swap.first m s ∙ c
        go (inr k) = let bad : None ≡ Some p = sym k.chosen ∙ c in cc

    pub decided-looked : (d : Decision) → MayDecide (ground_of w b now) x d → Looked P x → Looked P (decided_by (ground_of w b now) x d)
    decided-looked (by.Levels p q) may h k m c s =
        let same : p ≡ k = same_Some p k (sym may.2 ∙ c) in
        let better : P (IsBetter p q) ≡ true = why x (IsBetter p q) so
        (Betters may.2 may.3 (chosen-first (nearer_order b.names) (is_better (follower_of (ground_of w b now) x.failed p)) (map (follower_of (ground_of w b now) x.failed) (map (λ y. y.no) x.outcome.followers)) q may.3)
        (best-of w b now x.failed p x.outcome.followers q may.3)) in
        inr (q, ap (λ (n : ServerNo). P (IsBetter n q)) (sym same) ∙ better, inl (inl (ap (λ (n : ServerNo). stage.Level n q) same)))
    decided-looked by.Remains may h k m c s =
        let none = subst (λ (o : Option ServerNo). IfSome o (λ p. better_of (ground_of w b now) x.failed p (map (λ y. y.no) x.outcome.followers) ≡ None)) c may.2 in
        inl (led-by m may.1 k c, why x (HasNoBetter k) so (Remains may.0 may.1 c (none-better w b now x.failed k x.outcome.followers none)))
    decided-looked (by.Crowns p) may h k m c s =
        looked-as P x (decided_by (ground_of w b now) x (by.Crowns p)) refl refl refl refl
        (λ i j at. absurd (calm-at x.stage stage.Idle (idle-with may.0.rests p may.2) refl i j at)) h k m c s
    decided-looked (by.Rejoins p) may h k m c s = let bad : purpose.Regroup ≡ purpose.Master = sym may.0.purpose ∙ m in cc
    decided-looked by.Closes may h k m c s = let bad : purpose.Intermediate may.0 ≡ purpose.Master = sym may.1.purpose ∙ m in cc
    decided-looked (by.Reads n ts) may h k m c s = absurd (unlooked _ _ may m s)
    decided-looked (by.Drains n ts) may h k m c s = absurd (unlooked _ _ may m s)
    decided-looked (by.Sends n go ts) may h k m c s = absurd (unlooked _ _ may m s)
    decided-looked (by.Expels n ts) may h k m c s = absurd (unlooked _ _ may m s)
    decided-looked (by.Releases n ts) may h k m c s = absurd (unlooked _ _ may m s)
    decided-looked (by.Sorts ts) may h k m c s = absurd (unlooked _ _ may m s)
    decided-looked (by.Hands d ds go ts) may h k m c s = absurd (unlooked _ _ may.next m s)
    decided-looked (by.Leaves d ds ts) may h k m c s = absurd (unlooked _ _ may.next m s)
    decided-looked _ may h k m c s = absurd (unlooked _ _ may.0 m s)

    -- a failing operation
    pub borne-looked : (read : ℕ) (o : Op) (rest : List Op) (c : Cause) (ob : Option Observation) → by.Stops w read now x o rest c ob → (e : Bearing) → MayBear x.stage e → Looked P x
        → Looked P (borne x (fate_of e))
    borne-looked read o rest c ob stops e may h = go e may
      where
        befallen : IsBefallen w now x
        befallen = record { read = read; op = o; rest = rest; ops = stops.ops; cause = c; observation = ob; stops = stops.stops }

        kept : (y : Recovery) → y.purpose ≡ x.purpose → y.chosen ≡ x.chosen → y.swaps ≡ x.swaps → y.outcome.promoted ≡ x.outcome.promoted → ((p q : ServerNo) → IsSwapping x.stage p q → ⊥) → Looked P y
        kept y aim chosen swaps promoted out = looked-as P x y aim chosen swaps promoted (λ p q at. absurd (out p q at)) h

        -- the better one is given up
        given : (s : Stage) (ops : List Op) (p q : ServerNo) → swap_in x.stage ≡ Some (p, q) → ((x.stage ≡ stage.Level p q) ⊎ (x.stage ≡ stage.Swap p q)) → Looked P (working x s ops)
        given s ops p q at place k m chosen swaps = by-looked (h k m chosen swaps)
          where
            which : (n : ServerNo) → IsSwapped P x k n → IsSwapped P (working x s ops) k n
            which n (inl sw) =
                let same = same_Some (p, q) (k, n) (sym at ∙ swaps-so x.stage k n sw) in
                let taking = (still-on x o rest stops.ops fine).course.swap.taking k n sw in
                inr (inr (
                  taking.2,
                  subst (λ (y : Pair). P (IsGivenUp y.0 y.1) ≡ true) same (why x (IsGivenUp p q) so (GivesUp place befallen)),
                ))
            which n (inr other) = inr other

            by-looked : WasLooked P x k → WasLooked P (working x s ops) k
            by-looked (inl none) = inl none
            by-looked (inr one) = inr (one.0, one.1, which one.0 one.2)

        go : (y : Bearing) → MayBear x.stage y → Looked P (borne x (fate_of y))
        go (by.Restarts p q) at = given (stage.Release q) (op.Start q ∷ []) p q (ap swap_in at) (inl at)
        go (by.Returns p q) at = given (stage.Return p q) (op.Cross cross.Back q p ∷ op.Start q ∷ []) p q (ap swap_in at) (inr at)
        go by.Drops (inl at) = kept (borne x (fate_of by.Drops)) refl refl refl refl (λ p q sw. calm-at x.stage stage.Check at refl p q sw)
        go by.Drops (inr (n, inl at)) = kept (borne x (fate_of by.Drops)) refl refl refl refl (λ p q sw. calm-at x.stage (stage.Expel n) at refl p q sw)
        go by.Drops (inr (n, inr at)) = kept (borne x (fate_of by.Drops)) refl refl refl refl (λ p q sw. calm-at x.stage (stage.Release n) at refl p q sw)
        go (by.Misses n y) (inl at) = kept (borne x (fate_of (by.Misses n y))) refl refl refl refl (λ p q sw. calm-at x.stage (stage.Drain n) at refl p q sw)
        go (by.Misses n y) (inr (inl at)) = kept (borne x (fate_of (by.Misses n y))) refl refl refl refl (λ p q sw. calm-at x.stage (stage.Move n at.0) at.1 refl p q sw)
        go (by.Misses n y) (inr (inr at)) = kept (borne x (fate_of (by.Misses n y))) refl refl refl refl (λ p q sw. calm-at x.stage (stage.Join n at.0) at.1 refl p q sw)
        go (by.Lets n y) (inl at) = kept (borne x (fate_of (by.Lets n y))) refl refl refl refl (λ p q sw. calm-at x.stage (stage.Move n at.0) at.1 refl p q sw)
        go (by.Lets n y) (inr (z, inl at)) = kept (borne x (fate_of (by.Lets n y))) refl refl refl refl (λ p q sw. calm-at x.stage (stage.Look n z) at refl p q sw)
        go (by.Lets n y) (inr (z, inr at)) = kept (borne x (fate_of (by.Lets n y))) refl refl refl refl (λ p q sw. calm-at x.stage (stage.Trail n z) at refl p q sw)

-- ---- the operation

pub stepped-looked : (P : Fact → Bool) (x : Recovery) (o : Op) → Looked P x → Looked P (stepped x o)
stepped-looked P x o h = by-end (ends x.stage (deed_of o))
  where
    left : (q : Option ServerNo) → Looked P (record (follows_no_more x q) { stage = moved x.stage })
    left None = looked-as P x (record (follows_no_more x None) { stage = moved x.stage }) refl refl refl refl (swaps-on x.stage) h
    left (Some m) = looked-as P x (record (follows_no_more x (Some m)) { stage = moved x.stage }) refl refl refl refl (swaps-on x.stage) h

    by-end : (a : Bool) → Looked P (cond a (entered x (moved x.stage)) x)
    by-end true = left (leaver (moved x.stage))
    by-end false = h

pub completes-looked : (P : Fact → Bool) (z : Recovery) (e : Ending) → MayEnd z e → Fits z.stage [] → IsOnCourse z → ((p q : ServerNo) → IsSwapping z.stage p q → P (IsBetter p q) ≡ true) → Looked P z
    → Looked P (ended_by z e)
completes-looked P z (by.Swaps p q) may fits course better h = λ k m c s.
    let same : p ≡ k = same_Some p k (sym (course.swap.taking p q (inr (inr may))).1 ∙ c) in
    inr (q, ap (λ (n : ServerNo). P (IsBetter n q)) (sym same) ∙ better p q (inr (inr may)), inr (inl refl))
completes-looked x z y may fits course better h =
    looked-as x z (ended_by z y) refl refl refl refl (λ p q sw. absurd (ending-calm z y may fits (λ m n e. cc) p q sw)) h
