-- Only some of the lost are detached, and only some are to be started; each that is marked as detached was.
use Rattle.std.proofs.Common.{◌≡◌, ℕ, Bool, true, false, cond, List, [], ◌∷◌, ◌++◌, filter, map, refl, sym, ◌∙◌, ap, subst, Option, Some, None, ◌⊎◌, inl, inr, Ok, Err, Result, ◌==◌, find, option_map}
use Rattle.recovery_reasons.proofs.Prelude.{All, All-append, All-cons, All-head, All-nil, All-push, All-tail, All-weaker, Bearing, BookState}
use Rattle.recovery_reasons.proofs.Prelude.{Decision, Decisions, Ending, Exchange, Expels, ExplainsTruly, Fact, Fits, HeldRecovery, HeldRings}
use Rattle.recovery_reasons.proofs.Prelude.{IsCaredFor, IsExpelled, IsNext, IsOutSo, IsToDetach, IsToRelease, Job, Keeps, LostReplica, Lot, MayDecide, MayEnd}
use Rattle.recovery_reasons.proofs.Prelude.{Means, Moment, Observation, Op, Purpose, Recovery, ServerNo, Stage, Stopped, Task, Unreachable, Why}
use Rattle.recovery_reasons.proofs.Prelude.{World, after_ask, append-nil, begun_recovery, borne, but, by_deed, decided_by, decides-held, deed_of}
use Rattle.recovery_reasons.proofs.Prelude.{desk_answer, ended, ended_by, ends, entered, eqb-true, expels, false≢true, fate_of, filter_passes}
use Rattle.recovery_reasons.proofs.Prelude.{first_stage, first_tasks, fits-step, follows_no_more, ground_of, joined, kept-whole, leaver, losses_in}
use Rattle.recovery_reasons.proofs.Prelude.{lot_by, mark_of, marked, move_of, moved, moved-fits, moves_in, next, releases, same-head, same-tail, server_at}
use Rattle.recovery_reasons.proofs.Prelude.{stay_of, stepped, tail_of, taken, unfit, went-of, why_of, without_stopped}
use Rattle.recovery_reasons.proofs.Prelude.asking
use Rattle.recovery_reasons.proofs.Prelude.attempt
use Rattle.recovery_reasons.proofs.Prelude.by
use Rattle.recovery_reasons.proofs.Prelude.deciding
use Rattle.recovery_reasons.proofs.Prelude.lost
use Rattle.recovery_reasons.proofs.Prelude.op
use Rattle.recovery_reasons.proofs.Prelude.purpose
use Rattle.recovery_reasons.proofs.Prelude.stage
use Rattle.recovery_reasons.proofs.Prelude.task
use Rattle.recovery_reasons.proofs.Prelude.why
use Rattle.recovery_reasons.proofs.Prelude.word
use Rattle.recovery_reasons.proofs.Readings.{fits-of}

-- ---- whom

expels-so : (u : Purpose) (o : Option Why) → expels u o ≡ true → IsToDetach u o
expels-so purpose.Regroup o h = absurd (false≢true h)
expels-so (purpose.Takeover d) o h = absurd (false≢true h)
expels-so purpose.Master None h = absurd (false≢true h)
expels-so purpose.Master (Some (why.Unmatched m)) h = absurd (false≢true h)
expels-so purpose.Master (Some (why.Lost word.Unreachable)) h = absurd (false≢true h)
expels-so purpose.Master (Some (why.Lost (word.Moved at))) h = absurd (false≢true h)
expels-so purpose.Master (Some (why.Lost word.NotLogging)) h = absurd (false≢true h)
expels-so purpose.Master (Some (why.Lost word.MustNot)) h = absurd (false≢true h)
expels-so purpose.Master (Some (why.Lost y)) h = tt
expels-so (purpose.Intermediate s) None h = absurd (false≢true h)
expels-so (purpose.Intermediate s) (Some (why.Unmatched m)) h = absurd (false≢true h)
expels-so (purpose.Intermediate s) (Some (why.Lost word.Unreachable)) h = absurd (false≢true h)
expels-so (purpose.Intermediate s) (Some (why.Lost (word.Moved at))) h = absurd (false≢true h)
expels-so (purpose.Intermediate s) (Some (why.Lost word.NotLogging)) h = absurd (false≢true h)
expels-so (purpose.Intermediate s) (Some (why.Lost word.MustNot)) h = absurd (false≢true h)
expels-so (purpose.Intermediate s) (Some (why.Lost y)) h = tt

frees-so : (u : Purpose) (o : Option Why) → releases u o ≡ true → IsToRelease u o
frees-so purpose.Regroup None h = absurd (false≢true h)
frees-so purpose.Regroup (Some (why.Lost word.Unreachable)) h = absurd (false≢true h)
frees-so purpose.Regroup (Some (why.Unmatched m)) h = tt
frees-so purpose.Regroup (Some (why.Lost y)) h = tt
frees-so purpose.Master None h = absurd (false≢true h)
frees-so purpose.Master (Some (why.Lost (word.Moved at))) h = tt
frees-so purpose.Master (Some (why.Unmatched m)) h = tt
frees-so purpose.Master (Some (why.Lost y)) h = absurd (false≢true h)
frees-so (purpose.Intermediate s) None h = absurd (false≢true h)
frees-so (purpose.Intermediate s) (Some (why.Lost (word.Moved at))) h = tt
frees-so (purpose.Intermediate s) (Some (why.Unmatched m)) h = tt
frees-so (purpose.Intermediate s) (Some (why.Lost y)) h = absurd (false≢true h)
frees-so (purpose.Takeover d) o h = absurd (false≢true h)

-- one more that is lost changes nothing of those before it
stays-lost : (X : Option Why → Type 0) → (X None → ⊥) → (xs ys : List LostReplica) (n : ServerNo) → X (why_of xs n) → X (why_of (xs ++ ys) n)
stays-lost X none [] ys n h = absurd (none h)
stays-lost X none (l ∷ ls) ys n h = go (l.no.0 == n.0) h (stays-lost X none ls ys n)
  where
    go : (a : Bool) → X (option_map (λ (x : LostReplica). x.why) (cond a (Some l) (find (λ (x : LostReplica). x.no.0 == n.0) ls))) → (X (why_of ls n) → X (why_of (ls ++ ys) n))
        → X (option_map (λ (x : LostReplica). x.why) (cond a (Some l) (find (λ (x : LostReplica). x.no.0 == n.0) (ls ++ ys))))
    go true g rest = g
    go false g rest = rest g

stays-out : (u : Purpose) (xs ys : List LostReplica) (n : ServerNo) → IsToDetach u (why_of xs n) → IsToDetach u (why_of (xs ++ ys) n)
stays-out u xs ys n h = stays-lost (IsToDetach u) (λ g. g) xs ys n h

stays-free : (u : Purpose) (xs ys : List LostReplica) (n : ServerNo) → IsToRelease u (why_of xs n) → IsToRelease u (why_of (xs ++ ys) n)
stays-free u xs ys n h = stays-lost (IsToRelease u) (λ g. g) xs ys n h

pub why-marked : (k : ServerNo) (xs : List LostReplica) (n : ServerNo) → why_of (map (marked k) xs) n ≡ why_of xs n
why-marked k [] n = refl
why-marked k (l ∷ ls) n = go (l.no.0 == k.0) (why-marked k ls n)
  where
    go : (a : Bool) → why_of (map (marked k) ls) n ≡ why_of ls n
        → option_map (λ (x : LostReplica). x.why) (cond ((cond a (record l { detached = true }) l).no.0 == n.0) (Some (cond a (record l { detached = true }) l)) (find (λ (x : LostReplica). x.no.0 == n.0) (map (marked k) ls)))
        ≡ option_map (λ (x : LostReplica). x.why) (cond (l.no.0 == n.0) (Some l) (find (λ (x : LostReplica). x.no.0 == n.0) ls))
    go true rest = by (l.no.0 == n.0)
      where
        by : (c : Bool) → option_map (λ (x : LostReplica). x.why) (cond c (Some (record l { detached = true })) (find (λ (x : LostReplica). x.no.0 == n.0) (map (marked k) ls)))
            ≡ option_map (λ (x : LostReplica). x.why) (cond c (Some l) (find (λ (x : LostReplica). x.no.0 == n.0) ls))
        by true = refl
        by false = rest
    go false rest = by (l.no.0 == n.0)
      where
        by : (c : Bool) → option_map (λ (x : LostReplica). x.why) (cond c (Some l) (find (λ (x : LostReplica). x.no.0 == n.0) (map (marked k) ls)))
            ≡ option_map (λ (x : LostReplica). x.why) (cond c (Some l) (find (λ (x : LostReplica). x.no.0 == n.0) ls))
        by true = refl
        by false = rest

-- a mark stays
pub still-marked : (k : ServerNo) (xs : List LostReplica) (n : ServerNo) → mark_of xs n ≡ Some true → mark_of (map (marked k) xs) n ≡ Some true
still-marked k [] n h = h
still-marked k (l ∷ ls) n h = go (l.no.0 == k.0) (still-marked k ls n) h
  where
    go : (a : Bool) → (mark_of ls n ≡ Some true → mark_of (map (marked k) ls) n ≡ Some true) → option_map (λ (x : LostReplica). x.detached) (cond (l.no.0 == n.0) (Some l) (find (λ (x : LostReplica). x.no.0 == n.0) ls)) ≡ Some true
        → option_map (λ (x : LostReplica). x.detached) (cond ((cond a (record l { detached = true }) l).no.0 == n.0) (Some (cond a (record l { detached = true }) l)) (find (λ (x : LostReplica). x.no.0 == n.0) (map (marked k) ls))) ≡ Some true
    go true rest = by (l.no.0 == n.0)
      where
        by : (c : Bool) → option_map (λ (x : LostReplica). x.detached) (cond c (Some l) (find (λ (x : LostReplica). x.no.0 == n.0) ls)) ≡ Some true
            → option_map (λ (x : LostReplica). x.detached) (cond c (Some (record l { detached = true })) (find (λ (x : LostReplica). x.no.0 == n.0) (map (marked k) ls))) ≡ Some true
        by true g = refl
        by false g = rest g
    go false rest = by (l.no.0 == n.0)
      where
        by : (c : Bool) → option_map (λ (x : LostReplica). x.detached) (cond c (Some l) (find (λ (x : LostReplica). x.no.0 == n.0) ls)) ≡ Some true → option_map (λ (x : LostReplica). x.detached) (cond c (Some l) (find (λ (x : LostReplica). x.no.0 == n.0) (map (marked k) ls))) ≡ Some true
        by true g = g
        by false g = rest g

-- and each that is lost gets its own
pub marked-now : (n : ServerNo) (xs : List LostReplica) → (why_of xs n ≡ None → ⊥) → mark_of (map (marked n) xs) n ≡ Some true
marked-now n [] off = absurd (off refl)
marked-now n (l ∷ ls) off = go (l.no.0 == n.0) refl (λ rest. marked-now n ls rest)
  where
    go : (a : Bool) → (l.no.0 == n.0) ≡ a → ((why_of ls n ≡ None → ⊥) → mark_of (map (marked n) ls) n ≡ Some true)
        → option_map (λ (x : LostReplica). x.detached) (cond ((cond a (record l { detached = true }) l).no.0 == n.0) (Some (cond a (record l { detached = true }) l)) (find (λ (x : LostReplica). x.no.0 == n.0) (map (marked n) ls))) ≡ Some true
    go true e rest = subst (λ (c : Bool). option_map (λ (x : LostReplica). x.detached) (cond c (Some (record l { detached = true })) (find (λ (x : LostReplica). x.no.0 == n.0) (map (marked n) ls))) ≡ Some true) (sym e) refl
    go false e rest =
        subst (λ (c : Bool). option_map (λ (x : LostReplica). x.detached) (cond c (Some l) (find (λ (x : LostReplica). x.no.0 == n.0) (map (marked n) ls))) ≡ Some true) (sym e)
        (rest (λ none. off (subst (λ (c : Bool). option_map (λ (x : LostReplica). x.why) (cond c (Some l) (find (λ (x : LostReplica). x.no.0 == n.0) ls)) ≡ None) (sym e) none)))

-- tasks
out-on : (u : Purpose) (xs ys : List LostReplica) → ((n : ServerNo) → IsToDetach u (why_of xs n) → IsToDetach u (why_of ys n)) → ((n : ServerNo) → IsToRelease u (why_of xs n) → IsToRelease u (why_of ys n)) → (ts : List Task)
    → All (IsOutSo u xs) ts → All (IsOutSo u ys) ts
out-on u xs ys on free ts all = All-weaker (IsOutSo u xs) (IsOutSo u ys) (λ t h. go t h) ts all
  where
    go : (t : Task) → IsOutSo u xs t → IsOutSo u ys t
    go (task.Expelling n) h = on n h
    go (task.Releasing n) h = free n h
    go (task.Reading n) h = tt
    go t h = tt

move-out : (u : Purpose) (xs : List LostReplica) (s : Stopped) (l : Lot) → All (IsOutSo u xs) (move_of s l)
move-out u xs s (deciding.Goes by) = All-cons (IsOutSo u xs) (task.Moving s.no by) [] tt (All-nil (IsOutSo u xs))
move-out u xs s (deciding.Stays y) = All-nil (IsOutSo u xs)

moves-out : (u : Purpose) (xs : List LostReplica) (lot : Stopped → Lot) (ss : List Stopped) → All (IsOutSo u xs) (moves_in lot ss)
moves-out u xs lot [] = All-nil (IsOutSo u xs)
moves-out u xs lot (s ∷ ss) = All-append (IsOutSo u xs) (move_of s (lot s)) (moves_in lot ss) (move-out u xs s (lot s)) (moves-out u xs lot ss)

passed-out : (u : Purpose) (xs : List LostReplica) (t : ServerNo → Task) (p : ServerNo → Bool) → ((n : ServerNo) → p n ≡ true → IsOutSo u xs (t n)) → (ns : List ServerNo) → All (λ n. p n ≡ true) ns → All (IsOutSo u xs) (map t ns)
passed-out u xs t p each [] all = All-nil (IsOutSo u xs)
passed-out u xs t p each (n ∷ ns) all =
    All-cons (IsOutSo u xs) (t n) (map t ns) (each n (All-head (λ (k : ServerNo). p k ≡ true) n ns all)) (passed-out u xs t p each ns (All-tail (λ (k : ServerNo). p k ≡ true) n ns all))

mapped-out : (u : Purpose) (xs : List LostReplica) (t : ServerNo → Task) → ((n : ServerNo) → IsOutSo u xs (t n)) → (ns : List ServerNo) → All (IsOutSo u xs) (map t ns)
mapped-out u xs t each [] = All-nil (IsOutSo u xs)
mapped-out u xs t each (n ∷ ns) = All-cons (IsOutSo u xs) (t n) (map t ns) (each n) (mapped-out u xs t each ns)

-- ---- an operation

detach-reached : (w : World) (read : ℕ) (now : Moment) (j : Job) (rest : List Op) (n : ServerNo) (ob : Option Observation) (es : List Exchange) (k : Job) → by_deed w read now j rest (deed_of (op.Detach n)) ≡ attempt.Goes ob es k
    → desk_answer (server_at w n.0) ≡ Ok tt
detach-reached w read now j rest n ob es k h = go (desk_answer (server_at w n.0)) refl h
  where
    go : (r : Result (Unit {0}) Unreachable) → desk_answer (server_at w n.0) ≡ r → after_ask j rest n asking.Detach r ≡ attempt.Goes ob es k → desk_answer (server_at w n.0) ≡ Ok tt
    go (Ok t) e g = e
    go (Err x) e g = cc

-- only a detachment leads to one
moved-expels : (s : Stage) (o : Op) (rest : List Op) (n : ServerNo) → o ∷ rest ≡ tail_of s → moved s ≡ stage.Expelled n → (s ≡ stage.Expel n) × (o ≡ op.Detach n) × (rest ≡ [])
moved-expels (stage.Expel k) o rest n t h =
    let same : k ≡ n = ap left_in h in
    (ap stage.Expel same, same-head o (op.Detach k) rest [] t ∙ ap (λ (i : ServerNo). op.Detach i) same, same-tail o (op.Detach k) rest [] t)
  where
    left_in : Stage → ServerNo
    left_in (stage.Expelled i) = i
    left_in _ = k
moved-expels (stage.Expelled k) o rest n t h = cc
moved-expels s o rest n t h = cc

no-expel : (s : Stage) (n : ServerNo) → moved s ≡ stage.Expel n → ⊥
no-expel (stage.Expel k) n h = cc
no-expel s n h = cc

module _ (w : World) (b : BookState) (now : Moment) (r : Recovery) (P : Fact → Bool) (why : ExplainsTruly w b now r P) where
  abbrev Told : LostReplica → Type 0
  Told l = l.detached ≡ true → P (IsExpelled l.no) ≡ true

  new-lost : (n : ServerNo) (y : Why) → Told (record { no = n; why = y; detached = false })
  new-lost n y h = absurd (false≢true h)

  -- ---- what is decided

  module _ (x : Recovery) (h : IsCaredFor P x) where
    -- at another stage, with the same lost ones
    at-stage : (y : Recovery) → y.purpose ≡ x.purpose → y.outcome.lost ≡ x.outcome.lost → All (IsOutSo x.purpose x.outcome.lost) y.queue → ((n : ServerNo) → y.stage ≡ stage.Expel n → ⊥) → ((n : ServerNo) → y.stage ≡ stage.Expelled n → ⊥) → IsCaredFor P y
    at-stage y aim same queue off out = record {
      out = subst (λ (u : Purpose). All (IsOutSo u y.outcome.lost) y.queue) (sym aim) (subst (λ (xs : List LostReplica). All (IsOutSo x.purpose xs) y.queue) (sym same) queue);
      leaving = λ n at. absurd (off n at);
      ops = λ n at. absurd (off n at);
      left = λ n at. absurd (out n at);
      told = subst (λ (xs : List LostReplica). All Told xs) (sym same) h.told;
    }

    -- at the same stage, with the same job, and more lost ones
    with-lost : (y : Recovery) (more : List LostReplica) → y.purpose ≡ x.purpose → y.outcome.lost ≡ x.outcome.lost ++ more → y.stage ≡ x.stage → y.core.ops ≡ x.core.ops → All (IsOutSo x.purpose x.outcome.lost) y.queue → All Told more
        → IsCaredFor P y
    with-lost y more aim lost at ops queue new = record {
      out = subst (λ (u : Purpose). All (IsOutSo u y.outcome.lost) y.queue) (sym aim) (subst (λ (xs : List LostReplica). All (IsOutSo x.purpose xs) y.queue) (sym lost) (out-on x.purpose x.outcome.lost (x.outcome.lost ++ more) (λ n g. stays-out x.purpose x.outcome.lost more n g) (λ n g. stays-free x.purpose x.outcome.lost more n g) y.queue queue));
      leaving = λ n e.
          subst (λ (u : Purpose). IsToDetach u (why_of y.outcome.lost n)) (sym aim)
          (subst (λ (xs : List LostReplica). IsToDetach x.purpose (why_of xs n)) (sym lost) (stays-out x.purpose x.outcome.lost more n (h.leaving n (sym at ∙ e))));
      ops = λ n e. subst (λ (os : List Op). (os ≡ op.Detach n ∷ []) ⊎ (os ≡ [])) (sym ops) (h.ops n (sym at ∙ e));
      left = λ n e. h.left n (sym at ∙ e);
      told = subst (λ (xs : List LostReplica). All Told xs) (sym lost) (All-append Told x.outcome.lost more h.told new);
    }

    same-lost : (y : Recovery) → y.purpose ≡ x.purpose → y.outcome.lost ≡ x.outcome.lost → y.stage ≡ x.stage → y.core.ops ≡ x.core.ops → All (IsOutSo x.purpose x.outcome.lost) y.queue → IsCaredFor P y
    same-lost y aim lost at ops queue = with-lost y [] aim (lost ∙ sym (append-nil x.outcome.lost)) at ops queue (All-nil Told)

    behind : (t : Task) (ts : List Task) → IsNext x t ts → All (IsOutSo x.purpose x.outcome.lost) ts
    behind t ts next = All-tail (IsOutSo x.purpose x.outcome.lost) t ts (subst (λ (xs : List Task). All (IsOutSo x.purpose x.outcome.lost) xs) next.queue h.out)

    losses-told : (lot : Stopped → Lot) (ss : List Stopped) → All Told (losses_in lot ss)
    losses-told lot [] = All-nil Told
    losses-told lot (s ∷ ss) = go (lot s) (losses-told lot ss)
      where
        go : (y : Lot) → All Told (losses_in lot ss) → All Told (stay_of s y ++ losses_in lot ss)
        go (deciding.Goes by) rest = rest
        go (deciding.Stays y) rest = All-cons Told (record { no = s.no; why = y; detached = false }) (losses_in lot ss) (new-lost s.no y) rest

    unfit-told : (ss : List Stopped) → All Told (map (unfit w) ss)
    unfit-told [] = All-nil Told
    unfit-told (s ∷ ss) = All-cons Told (unfit w s) (map (unfit w) ss) (λ e. absurd (false≢true e)) (unfit-told ss)

    none-out : All (IsOutSo x.purpose x.outcome.lost) []
    none-out = All-nil (IsOutSo x.purpose x.outcome.lost)

    pub decided-cared : (d : Decision) → MayDecide (ground_of w b now) x d → IsCaredFor P (decided_by (ground_of w b now) x d)
    decided-cared (by.Expels n ts) may = record {
      out = behind (task.Expelling n) ts may;
      leaving = λ m at.
          subst (λ (k : ServerNo). IsToDetach x.purpose (why_of x.outcome.lost k)) (ap expelled_in at)
          (All-head (IsOutSo x.purpose x.outcome.lost) (task.Expelling n) ts (subst (λ (xs : List Task). All (IsOutSo x.purpose x.outcome.lost) xs) may.queue h.out));
      ops = λ m at. inl (ap (λ (k : ServerNo). op.Detach k ∷ []) (ap expelled_in at));
      left = λ m at. cc;
      told = h.told;
    }
      where
        expelled_in : Stage → ServerNo
        expelled_in (stage.Expel k) = k
        expelled_in _ = n
    decided-cared (by.Sorts ts) may =
        same-lost (decided_by (ground_of w b now) x (by.Sorts ts)) refl refl refl refl
        (All-append (IsOutSo x.purpose x.outcome.lost) (map task.Expelling outs) (map task.Releasing free ++ ts)
        (passed-out x.purpose x.outcome.lost task.Expelling (λ n. expels x.purpose (why_of x.outcome.lost n)) (λ n e. expels-so x.purpose (why_of x.outcome.lost n) e) outs
        (filter_passes (λ n. expels x.purpose (why_of x.outcome.lost n)) x.replicas))
        (All-append (IsOutSo x.purpose x.outcome.lost) (map task.Releasing free) ts
        (passed-out x.purpose x.outcome.lost task.Releasing (λ n. releases x.purpose (why_of x.outcome.lost n)) (λ n e. frees-so x.purpose (why_of x.outcome.lost n) e) free
        (filter_passes (λ n. releases x.purpose (why_of x.outcome.lost n)) x.replicas)) (behind task.Sorting ts may)))
      where
        outs : List ServerNo
        outs = filter (λ n. expels x.purpose (why_of x.outcome.lost n)) x.replicas

        free : List ServerNo
        free = filter (λ n. releases x.purpose (why_of x.outcome.lost n)) x.replicas
    decided-cared (by.Chooses p ts) may =
        with-lost (decided_by (ground_of w b now) x (by.Chooses p ts)) (losses_in (lot_by x.means (ground_of w b now) x.failed p) (without_stopped x.drained p.no)) refl refl refl refl
        (All-append (IsOutSo x.purpose x.outcome.lost) (moves_in (lot_by x.means (ground_of w b now) x.failed p) (without_stopped x.drained p.no)) ts
        (moves-out x.purpose x.outcome.lost (lot_by x.means (ground_of w b now) x.failed p) (without_stopped x.drained p.no)) (behind task.Choosing ts may.0))
        (losses-told (lot_by x.means (ground_of w b now) x.failed p) (without_stopped x.drained p.no))
    decided-cared (by.ChoosesNobody ts) may = with-lost (decided_by (ground_of w b now) x (by.ChoosesNobody ts)) (map (unfit w) x.drained) refl refl refl refl none-out (unfit-told x.drained)
    decided-cared (by.Sticks t ts) may = same-lost (decided_by (ground_of w b now) x (by.Sticks t ts)) refl refl refl refl none-out
    decided-cared (by.Leaves d ds ts) may =
        with-lost (decided_by (ground_of w b now) x (by.Leaves d ds ts)) (record { no = d.no; why = lost.behind d.exec; detached = false } ∷ []) refl refl refl refl h.out
        (All-cons Told _ [] (new-lost d.no (lost.behind d.exec)) (All-nil Told))
    decided-cared (by.HandedOver ts) may = same-lost (decided_by (ground_of w b now) x (by.HandedOver ts)) refl refl refl refl (behind task.Handing ts may.0)
    decided-cared (by.Passes ts) may = same-lost (decided_by (ground_of w b now) x (by.Passes ts)) refl refl refl refl (behind task.Handing ts may.0)
    decided-cared by.Remains may = same-lost (decided_by (ground_of w b now) x by.Remains) refl refl refl refl h.out
    decided-cared (by.Reads n ts) may = at-stage (decided_by (ground_of w b now) x (by.Reads n ts)) refl refl (behind _ ts may) (λ m at. cc) (λ m at. cc)
    decided-cared (by.Drains n ts) may = at-stage (decided_by (ground_of w b now) x (by.Drains n ts)) refl refl (behind _ ts may) (λ m at. cc) (λ m at. cc)
    decided-cared (by.Sends n go ts) may = at-stage (decided_by (ground_of w b now) x (by.Sends n go ts)) refl refl (behind _ ts may) (λ m at. cc) (λ m at. cc)
    decided-cared (by.Releases n ts) may = at-stage (decided_by (ground_of w b now) x (by.Releases n ts)) refl refl (behind _ ts may) (λ m at. cc) (λ m at. cc)
    decided-cared (by.Looks n y ts) may = at-stage (decided_by (ground_of w b now) x (by.Looks n y ts)) refl refl (behind _ ts may.0) (λ m at. cc) (λ m at. cc)
    decided-cared (by.Yields y ts) may = at-stage (decided_by (ground_of w b now) x (by.Yields y ts)) refl refl (behind _ ts may.0) (λ m at. cc) (λ m at. cc)
    decided-cared (by.Hands d ds go ts) may = at-stage (decided_by (ground_of w b now) x (by.Hands d ds go ts)) refl refl h.out (λ m at. cc) (λ m at. cc)
    decided-cared (by.Levels p q) may = at-stage (decided_by (ground_of w b now) x (by.Levels p q)) refl refl h.out (λ m at. cc) (λ m at. cc)
    decided-cared (by.Crowns p) may = at-stage (decided_by (ground_of w b now) x (by.Crowns p)) refl refl h.out (λ m at. cc) (λ m at. cc)
    decided-cared (by.Rejoins p) may = at-stage (decided_by (ground_of w b now) x (by.Rejoins p)) refl refl h.out (λ m at. cc) (λ m at. cc)
    decided-cared by.Closes may = at-stage (decided_by (ground_of w b now) x by.Closes) refl refl h.out (λ m at. cc) (λ m at. cc)

    -- ---- the end of a stage, or a failing operation

    one-more : (y : Recovery) (n : ServerNo) (z : Why) → y.purpose ≡ x.purpose → y.queue ≡ x.queue → y.outcome.lost ≡ x.outcome.lost ++ record { no = n; why = z; detached = false } ∷ [] → ((m : ServerNo) → y.stage ≡ stage.Expel m → ⊥)
        → ((m : ServerNo) → y.stage ≡ stage.Expelled m → ⊥) → IsCaredFor P y
    one-more y n z aim queue lost off out = record {
      out =
          subst (λ (u : Purpose). All (IsOutSo u y.outcome.lost) y.queue) (sym aim)
          (subst (λ (xs : List LostReplica). All (IsOutSo x.purpose xs) y.queue) (sym lost)
          (subst (λ (ts : List Task). All (IsOutSo x.purpose (x.outcome.lost ++ record { no = n; why = z; detached = false } ∷ [])) ts) (sym queue)
          (out-on x.purpose x.outcome.lost (x.outcome.lost ++ record { no = n; why = z; detached = false } ∷ []) (λ m g. stays-out x.purpose x.outcome.lost _ m g) (λ m g. stays-free x.purpose x.outcome.lost _ m g) x.queue h.out)));
      leaving = λ m at. absurd (off m at);
      ops = λ m at. absurd (off m at);
      left = λ m at. absurd (out m at);
      told = subst (λ (xs : List LostReplica). All Told xs) (sym lost) (All-push Told x.outcome.lost _ h.told (new-lost n z));
    }

    marks : (k : ServerNo) → P (IsExpelled k) ≡ true → (xs : List LostReplica) → All Told xs → All Told (map (marked k) xs)
    marks k is [] all = All-nil Told
    marks k is (l ∷ ls) all = All-cons Told (marked k l) (map (marked k) ls) (go (l.no.0 == k.0) refl) (marks k is ls (All-tail Told l ls all))
      where
        go : (a : Bool) → (l.no.0 == k.0) ≡ a → Told (cond a (record l { detached = true }) l)
        go true e = λ g. subst (λ (i : ServerNo). P (IsExpelled i) ≡ true) (ap (λ (i : ℕ). record { 0 = i }) (sym (eqb-true l.no.0 k.0 e))) is
        go false e = All-head Told l ls all

    completes-cared : (e : Ending) → MayEnd x e → IsCaredFor P (ended_by x e)
    completes-cared (by.Marks n) may = record {
      out = out-on x.purpose x.outcome.lost (map (marked n) x.outcome.lost) (λ m g. subst (IsToDetach x.purpose) (sym (why-marked n x.outcome.lost m)) g) (λ m g. subst (IsToRelease x.purpose) (sym (why-marked n x.outcome.lost m)) g) x.queue h.out;
      leaving = λ m at. cc;
      ops = λ m at. cc;
      left = λ m at. cc;
      told = marks n (h.left n may) x.outcome.lost h.told;
    }
    completes-cared (by.Loses n y) may = one-more (ended_by x (by.Loses n y)) n y refl refl refl (λ m at. cc) (λ m at. cc)
    completes-cared (by.Frees n y) may = one-more (ended_by x (by.Frees n y)) n y refl refl refl (λ m at. cc) (λ m at. cc)
    completes-cared by.Rests may = at-stage (ended_by x by.Rests) refl refl h.out (λ m at. cc) (λ m at. cc)
    completes-cared e may = at-stage (ended_by x e) refl refl h.out (λ m at. cc) (λ m at. cc)

    borne-cared : (e : Bearing) → IsCaredFor P (borne x (fate_of e))
    borne-cared (by.Misses n y) = one-more (borne x (fate_of (by.Misses n y))) n y refl refl refl (λ m at. cc) (λ m at. cc)
    borne-cared (by.Lets n y) = one-more (borne x (fate_of (by.Lets n y))) n y refl refl refl (λ m at. cc) (λ m at. cc)
    borne-cared by.Drops = at-stage (borne x (fate_of by.Drops)) refl refl h.out (λ m at. cc) (λ m at. cc)
    borne-cared e = at-stage (borne x (fate_of e)) refl refl h.out (λ m at. cc) (λ m at. cc)

    over-cared : IsCaredFor P (record x { core = ended x.core })
    over-cared = record { out = h.out; leaving = h.leaving; ops = λ n at. inr refl; left = h.left; told = h.told }

    waited-cared : (j : Job) → j.ops ≡ x.core.ops → IsCaredFor P (record x { core = j })
    waited-cared j same = record { out = h.out; leaving = h.leaving; ops = λ n at. subst (λ (os : List Op). (os ≡ op.Detach n ∷ []) ⊎ (os ≡ [])) (sym same) (h.ops n at); left = h.left; told = h.told }

  -- ---- the operation

  module _ (read : ℕ) (x : Recovery) (so : Decisions (ground_of w b now) r x) (o : Op) (rest : List Op) (is : x.core.ops ≡ o ∷ rest) (fits : Fits x.stage (o ∷ rest))
      (ob : Option Observation) (es : List Exchange) (j : Job) (goes : by_deed w read now x.core rest (deed_of o) ≡ attempt.Goes ob es j) (h : IsCaredFor P x) where
    abbrev later : Recovery
    later = record x { core = j }

    pub expelled-so : (n : ServerNo) → x.stage ≡ stage.Expel n → o ≡ op.Detach n → P (IsExpelled n) ≡ true
    expelled-so n at same =
        why x (IsExpelled n) so
        (Expels rest (h.leaving n at) (is ∙ ap (λ (y : Op). y ∷ rest) same)
        (detach-reached w read now x.core rest n ob es j (subst (λ (y : Op). by_deed w read now x.core rest (deed_of y) ≡ attempt.Goes ob es j) same goes)))

    left-cared : o ∷ rest ≡ tail_of x.stage → (q : Option ServerNo) → IsCaredFor P (record (follows_no_more later q) { stage = moved x.stage })
    left-cared t q = go q
      where
        so-left : (n : ServerNo) → moved x.stage ≡ stage.Expelled n → P (IsExpelled n) ≡ true
        so-left n at = let three = moved-expels x.stage o rest n t at in expelled-so n three.0 three.1

        go : (k : Option ServerNo) → IsCaredFor P (record (follows_no_more later k) { stage = moved x.stage })
        go None = record { out = h.out; leaving = λ n at. absurd (no-expel x.stage n at); ops = λ n at. absurd (no-expel x.stage n at); left = so-left; told = h.told }
        go (Some m) = record { out = h.out; leaving = λ n at. absurd (no-expel x.stage n at); ops = λ n at. absurd (no-expel x.stage n at); left = so-left; told = h.told }

    stepped-cared : j.ops ≡ rest → IsCaredFor P (stepped later o)
    stepped-cared done = go (fits-step x.stage o rest fits)
      where
        begun : (n : ServerNo) → (x.core.ops ≡ op.Detach n ∷ []) ⊎ (x.core.ops ≡ []) → (j.ops ≡ op.Detach n ∷ []) ⊎ (j.ops ≡ [])
        begun n (inl e) = inr (done ∙ same-tail o (op.Detach n) rest [] (sym is ∙ e))
        begun n (inr e) = let bad : o ∷ rest ≡ [] = sym is ∙ e in cc

        same : IsCaredFor P later
        same = record { out = h.out; leaving = h.leaving; ops = λ n at. begun n (h.ops n at); left = h.left; told = h.told }

        go : ((ends x.stage (deed_of o) ≡ false) × Fits x.stage rest) ⊎ (o ∷ rest ≡ tail_of x.stage) → IsCaredFor P (stepped later o)
        go (inl p) = subst (λ (a : Bool). IsCaredFor P (cond a (entered later (moved x.stage)) later)) (sym p.0) same
        go (inr t) = subst (λ (a : Bool). IsCaredFor P (cond a (entered later (moved x.stage)) later)) (sym (moved-fits x.stage o rest t).0) (left-cared t (leaver (moved x.stage)))

  -- ---- a turn

  abbrev Before : Recovery → Type 0
  Before x = HeldRecovery w x × (Decisions (ground_of w b now) r x × IsCaredFor P x)

  keeps-cared : (read : ℕ) → HeldRings w b.rings → Keeps w b read now Before (λ v x. IsCaredFor P x) (λ v x. IsCaredFor P x)
  keeps-cared read rings = record {
    decides = λ x d may h. (decides-held w b now rings x d may h.0, (joined w b now h.1.0 (by.Then d may by.Still), decided-cared x h.1.1 d may));
    waits = λ x o rest ob es j did e h. waited-cared x h.1.1 j ((went-of w read now x o rest ob es j did).waits e).0;
    acts = λ x o rest ob es j did e h. stepped-cared read x h.1.0 o rest did.ops (fits-of w x o rest did.ops h.0) ob es j did.goes h.1.1 ((went-of w read now x o rest ob es j did).done e);
    continues = λ v x y ys is h. h;
    completes = λ v x e none may h. completes-cared x h e may;
    bears = λ x o rest c ob e stops is may h. borne-cared x h.1.1 e;
  }

  pub taken-cared : (read : ℕ) → HeldRings w b.rings → HeldRecovery w r → IsCaredFor P r → IsCaredFor P (taken w b read now r).recovery
  taken-cared read rings held h =
      kept-whole w b read now Before (λ v x. IsCaredFor P x) (λ v x. IsCaredFor P x) (keeps-cared read rings)
      (record { fails = λ x c ob f g. over-cared x g.1.1; finishes = λ x o rest lines is e g. over-cared x g.1.1 }) r (held, (by.Still, h))

-- ---- a recovery that begins

pub begun-cared : (P : Fact → Bool) (u : Purpose) (by : Means) (id wait : ℕ) (f : ServerNo) (ns order : List ServerNo) → IsCaredFor P (begun_recovery u by id wait f ns order)
begun-cared P u by id wait f ns order = record {
  out = tasks u;
  leaving = λ n at. absurd (off u n at);
  ops = λ n at. absurd (off u n at);
  left = λ n at. absurd (out u n at);
  told = All-nil _;
}
  where
    off : (v : Purpose) (n : ServerNo) → first_stage v f ≡ stage.Expel n → ⊥
    off purpose.Regroup n e = cc
    off _ n e = cc

    out : (v : Purpose) (n : ServerNo) → first_stage v f ≡ stage.Expelled n → ⊥
    out purpose.Regroup n e = cc
    out _ n e = cc

    two : (v : Purpose) (t : Task) → IsOutSo v [] t → All (IsOutSo v []) (t ∷ task.Sorting ∷ [])
    two v t h = All-cons (IsOutSo v []) t (task.Sorting ∷ []) h (All-cons (IsOutSo v []) task.Sorting [] tt (All-nil (IsOutSo v [])))

    tasks : (v : Purpose) → All (IsOutSo v []) (first_tasks v ns)
    tasks purpose.Regroup =
        All-append (IsOutSo purpose.Regroup []) (map task.Draining ns) (task.Choosing ∷ task.Sorting ∷ []) (mapped-out purpose.Regroup [] task.Draining (λ n. tt) ns) (two purpose.Regroup task.Choosing tt)
    tasks purpose.Master =
        All-append (IsOutSo purpose.Master []) (map task.Draining ns) (task.Choosing ∷ task.Sorting ∷ []) (mapped-out purpose.Master [] task.Draining (λ n. tt) ns) (two purpose.Master task.Choosing tt)
    tasks (purpose.Intermediate s) =
        All-cons (IsOutSo (purpose.Intermediate s) []) (task.Reading s) _ tt
        (All-append (IsOutSo (purpose.Intermediate s) []) (map task.Draining ns) (task.Handing ∷ task.Sorting ∷ []) (mapped-out (purpose.Intermediate s) [] task.Draining (λ n. tt) ns) (two (purpose.Intermediate s) task.Handing tt))
    tasks (purpose.Takeover d) =
        All-append (IsOutSo (purpose.Takeover d) []) (map task.Trailing (but ns d)) (task.Yielding ∷ []) (mapped-out (purpose.Takeover d) [] task.Trailing (λ n. tt) (but ns d))
        (All-cons (IsOutSo (purpose.Takeover d) []) task.Yielding [] tt (All-nil (IsOutSo (purpose.Takeover d) [])))
