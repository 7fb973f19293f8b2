-- What is done with the lost: each that is to be detached or started is, or isn't reached then, or is still to be.
use Rattle.std.proofs.Common.{◌≡◌, ℕ, suc, zero, Bool, true, false, cond, List, [], ◌∷◌, ◌++◌, filter, map, refl, sym, ◌∙◌, ap, subst, Option, Some, None, ◌⊎◌, inl, inr, arith}
use Rattle.recovery_reasons.proofs.Prelude.{AreDealtWith, AreSorted, Attempt, Bearing, BookState, Bridge, Cause, Contains, Contains-append_left}
use Rattle.recovery_reasons.proofs.Prelude.{Contains-append_right, Contains-tail, Decision, Decisions, Ending, Exchange, ExplainsTruly, Fact, Fits}
use Rattle.recovery_reasons.proofs.Prelude.{HeldRecovery, HeldRings, IsAsked, IsCaredFor, IsDetachedSo, IsFit, IsMarkedSo, IsNext, IsOnWay, IsPassed}
use Rattle.recovery_reasons.proofs.Prelude.{IsReleased, IsReleasedSo, IsToDetach, IsToRelease, IsUnreached, Job, Keeps, LostReplica, Lot, MayBear}
use Rattle.recovery_reasons.proofs.Prelude.{MayDecide, MayEnd, Means, Moment, Observation, Op, Passes, Purpose, Recovery, Releases, ServerNo}
use Rattle.recovery_reasons.proofs.Prelude.{Speaks, Stage, Stopped, Task, TasksOf, Way, Why, World, begun_recovery, borne, but, by_deed, decided_by}
use Rattle.recovery_reasons.proofs.Prelude.{decides-held, deed_of, ended, ended_by, ends, entered, expels, false≢true, fate_of, finds_nobody}
use Rattle.recovery_reasons.proofs.Prelude.{first_stage, first_tasks, fits-step, follows_no_more, ground_of, is_beside, is_settling, is_takeover, rests}
use Rattle.recovery_reasons.proofs.Prelude.{joined, kept-whole, lead_of, leads_on, leaver, lot_by, mark_of, marked, more_on, move_of, moved, moved-fits, moved-leads}
use Rattle.recovery_reasons.proofs.Prelude.{moves_in, releases, same-head, same-tail, spoken_to, stepped, stepped-fits, tail_of, taken}
use Rattle.recovery_reasons.proofs.Prelude.{went-of, why_of, without_stopped}
use Rattle.recovery_reasons.proofs.Prelude.attempt
use Rattle.recovery_reasons.proofs.Prelude.by
use Rattle.recovery_reasons.proofs.Prelude.deciding
use Rattle.recovery_reasons.proofs.Prelude.op
use Rattle.recovery_reasons.proofs.Prelude.purpose
use Rattle.recovery_reasons.proofs.Prelude.stage
use Rattle.recovery_reasons.proofs.Prelude.task
use Rattle.recovery_reasons.proofs.Prelude.why
use Rattle.recovery_reasons.proofs.Prelude.word
use Rattle.recovery_reasons.proofs.Caring.{decided-cared, expelled-so, marked-now, still-marked, why-marked}
use Rattle.recovery_reasons.proofs.OnWay.{Fine, IsStuck, decides-fine, decides-lost, decides-stuck, no-tail}
use Rattle.recovery_reasons.proofs.Reasoning.{StopsUnreached, asked-unreached}
use Rattle.recovery_reasons.proofs.Readings.{fits-of}
use Rattle.recovery_reasons.proofs.Starting.{start-reached}
use Rattle.recovery_reasons.proofs.Tasks.{suit}

-- ---- lists

there-first : (t : Task) (ts : List Task) → Contains (t ∷ ts) t
there-first t ts = (0, omega arith, refl)

there-behind : (t : Task) (ts : List Task) (q : Task) → Contains ts q → Contains (t ∷ ts) q
there-behind t ts q h = Contains-append_right (t ∷ []) ts q h

split-first : {X : Type 0} (x : X) (xs : List X) (q : X) → Contains (x ∷ xs) q → (x ≡ q) ⊎ Contains xs q
split-first x xs q (zero, l, e) = inl e
split-first x xs q (suc k, l, e) = inr (k, omega (arith, l), e)

pub no-none : {X : Type 0} (q : X) → Contains [] q → ⊥
no-none q h = let l = h.1 in omega (arith, l)

pub picked : (p : ServerNo → Bool) (ns : List ServerNo) (n : ServerNo) → Contains ns n → p n ≡ true → Contains (filter p ns) n
picked p [] n h e = absurd (no-none n h)
picked p (k ∷ ks) n h e = go (split-first k ks n h) (λ g. picked p ks n g e)
  where
    by : (a : Bool) → ((k ≡ n) × (a ≡ true)) ⊎ Contains (filter p ks) n → Contains (cond a (k ∷ filter p ks) (filter p ks)) n
    by true (inl same) = (0, omega arith, same.0)
    by true (inr g) = Contains-append_right (k ∷ []) (filter p ks) n g
    by false (inl same) = absurd (false≢true same.1)
    by false (inr g) = g

    go : (k ≡ n) ⊎ Contains ks n → (Contains ks n → Contains (filter p ks) n) → Contains (filter p (k ∷ ks)) n
    go (inl same) rest = by (p k) (inl (same, ap p same ∙ e))
    go (inr g) rest = by (p k) (inr (rest g))

named : (t : ServerNo → Task) (ns : List ServerNo) (n : ServerNo) → Contains ns n → Contains (map t ns) (t n)
named t [] n h = absurd (no-none n h)
named t (k ∷ ks) n h = go (split-first k ks n h) (λ g. named t ks n g)
  where
    go : (k ≡ n) ⊎ Contains ks n → (Contains ks n → Contains (map t ks) (t n)) → Contains (map t (k ∷ ks)) (t n)
    go (inl same) rest = (0, omega arith, ap t same)
    go (inr g) rest = Contains-append_right (t k ∷ []) (map t ks) (t n) (rest g)

-- ---- which of the lost

detach-expels : (u : Purpose) (o : Option Why) → IsToDetach u o → expels u o ≡ true
detach-expels u None h = absurd h
detach-expels u (Some (why.Unmatched m)) h = absurd h
detach-expels u (Some (why.Lost word.Unreachable)) h = absurd h
detach-expels u (Some (why.Lost (word.Moved at))) h = absurd h
detach-expels u (Some (why.Lost word.NotLogging)) h = absurd h
detach-expels u (Some (why.Lost word.MustNot)) h = absurd h
detach-expels purpose.Master (Some (why.Lost y)) h = refl
detach-expels (purpose.Intermediate s) (Some (why.Lost y)) h = refl
detach-expels u (Some (why.Lost y)) h = absurd h

release-frees : (u : Purpose) (o : Option Why) → IsToRelease u o → releases u o ≡ true
release-frees u None h = absurd h
release-frees purpose.Regroup (Some (why.Lost word.Unreachable)) h = absurd h
release-frees purpose.Regroup (Some (why.Unmatched m)) h = refl
release-frees purpose.Regroup (Some (why.Lost y)) h = refl
release-frees purpose.Master (Some (why.Lost (word.Moved at))) h = refl
release-frees purpose.Master (Some (why.Unmatched m)) h = refl
release-frees purpose.Master (Some (why.Lost y)) h = absurd h
release-frees (purpose.Intermediate s) (Some (why.Lost (word.Moved at))) h = refl
release-frees (purpose.Intermediate s) (Some (why.Unmatched m)) h = refl
release-frees (purpose.Intermediate s) (Some (why.Lost y)) h = absurd h
release-frees (purpose.Takeover d) (Some y) h = absurd h

detach-lost : (u : Purpose) (o : Option Why) → IsToDetach u o → o ≡ None → ⊥
detach-lost u o h e = subst (IsToDetach u) e h

over-detaches : (u : Purpose) (o : Option Why) → is_takeover u ≡ true → IsToDetach u o → ⊥
over-detaches (purpose.Takeover d) o t h = false≢true (detach-expels (purpose.Takeover d) o h)
over-detaches _ o t h = false≢true t

pub over-releases : (u : Purpose) (o : Option Why) → is_takeover u ≡ true → IsToRelease u o → ⊥
over-releases (purpose.Takeover d) o t h = false≢true (release-frees (purpose.Takeover d) o h)
over-releases _ o t h = false≢true t

-- ---- tasks

moves-sorted : (lot : Stopped → Lot) (ss : List Stopped) (ts : List Task) → Contains ts task.Sorting → AreSorted ts → AreSorted (moves_in lot ss ++ ts)
moves-sorted lot [] ts there h = h
moves-sorted lot (s ∷ ss) ts there h = go (lot s) (moves-sorted lot ss ts there h)
  where
    go : (y : Lot) → AreSorted (moves_in lot ss ++ ts) → AreSorted ((move_of s y ++ moves_in lot ss) ++ ts)
    go (deciding.Goes by) rest = (λ e. Contains-append_right (moves_in lot ss) ts task.Sorting there, rest)
    go (deciding.Stays y) rest = rest

calm-sorted : (t : ServerNo → Task) → ((n : ServerNo) → leads_on (t n) ≡ false) → (ns : List ServerNo) (ts : List Task) → AreSorted ts → AreSorted (map t ns ++ ts)
calm-sorted t off [] ts h = h
calm-sorted t off (n ∷ ns) ts h = (λ e. absurd (false≢true (sym (off n) ∙ e)), calm-sorted t off ns ts h)

drains-sorted : (t : ServerNo → Task) (ns : List ServerNo) (ts : List Task) → Contains ts task.Sorting → AreSorted ts → AreSorted (map t ns ++ ts)
drains-sorted t [] ts there h = h
drains-sorted t (n ∷ ns) ts there h = (λ e. Contains-append_right (map t ns) ts task.Sorting there, drains-sorted t ns ts there h)

-- ---- stages

abbrev is_mark : Ending → Bool
is_mark (by.Marks n) = true
is_mark _ = false

moved-settles : (s : Stage) → is_settling (moved s) ≡ true → is_settling s ≡ true
moved-settles (stage.Drain n) h = refl
moved-settles (stage.Judged n) h = refl
moved-settles (stage.Move n by) h = refl
moved-settles (stage.Join n p) h = refl
moved-settles s h = absurd (false≢true h)

-- only a mark ends such a stage
unmarked : (x : Recovery) (e : Ending) → MayEnd x e → is_mark e ≡ false → (n : ServerNo) → x.stage ≡ stage.Expelled n → ⊥
unmarked x by.Rests may off n at = false≢true (sym (ap rests at) ∙ may)
unmarked x (by.Marks k) may off n at = false≢true (sym off)
unmarked x (by.Stays k s) may off n at = let bad : stage.Judged k ≡ stage.Expelled n = sym may.0 ∙ at in cc
unmarked x (by.Loses k y) may off n at = go may.0
  where
    go : (x.stage ≡ stage.Judged k) ⊎ ((z : Bridge) × (x.stage ≡ stage.Looked k z)) → ⊥
    go (inl is) = let bad : stage.Judged k ≡ stage.Expelled n = sym is ∙ at in cc
    go (inr (z, is)) = let bad : stage.Looked k z ≡ stage.Expelled n = sym is ∙ at in cc
unmarked x (by.Frees k y) may off n at = let bad : stage.Halted k may.0 ≡ stage.Expelled n = sym may.1 ∙ at in cc
unmarked x (by.Follows k p) may off n at = go may
  where
    go : (x.stage ≡ stage.Join k p) ⊎ (x.stage ≡ stage.Resume p k) → ⊥
    go (inl is) = let bad : stage.Join k p ≡ stage.Expelled n = sym is ∙ at in cc
    go (inr is) = let bad : stage.Resume p k ≡ stage.Expelled n = sym is ∙ at in cc
unmarked x (by.Leads d) may off n at = let bad : stage.Gather may.0 d ≡ stage.Expelled n = sym may.1 ∙ at in cc
unmarked x (by.Trails k z) may off n at = let bad : stage.Looked k z ≡ stage.Expelled n = sym may.0 ∙ at in cc
unmarked x (by.Joins k z) may off n at = let bad : stage.Halted k z ≡ stage.Expelled n = sym may.0 ∙ at in cc
unmarked x (by.Swaps p q) may off n at = let bad : stage.Swapped p q ≡ stage.Expelled n = sym may ∙ at in cc
unmarked x (by.Switches m d) may off n at = let bad : stage.Switched m d ≡ stage.Expelled n = sym may ∙ at in cc
unmarked x (by.Shuts m d) may off n at = let bad : stage.Meet m d ≡ stage.Expelled n = sym may ∙ at in cc
unmarked x (by.Ends k) may off n at = let bad : stage.Opened k ≡ stage.Expelled n = sym may ∙ at in cc

-- no operation fails at such a stage
unborne : (s : Stage) (e : Bearing) → MayBear s e → (n : ServerNo) → s ≡ stage.Expelled n → ⊥
unborne s by.Drops may n at = go may
  where
    go : (s ≡ stage.Check) ⊎ ((k : ServerNo) × ((s ≡ stage.Expel k) ⊎ (s ≡ stage.Release k))) → ⊥
    go (inl is) = let bad : stage.Check ≡ stage.Expelled n = sym is ∙ at in cc
    go (inr (k, inl is)) = let bad : stage.Expel k ≡ stage.Expelled n = sym is ∙ at in cc
    go (inr (k, inr is)) = let bad : stage.Release k ≡ stage.Expelled n = sym is ∙ at in cc
unborne s (by.Misses k y) may n at = go may
  where
    go : (s ≡ stage.Drain k) ⊎ (((way' : Way) × (s ≡ stage.Move k way')) ⊎ ((p : ServerNo) × (s ≡ stage.Join k p))) → ⊥
    go (inl is) = let bad : stage.Drain k ≡ stage.Expelled n = sym is ∙ at in cc
    go (inr (inl is)) = let bad : stage.Move k is.0 ≡ stage.Expelled n = sym is.1 ∙ at in cc
    go (inr (inr is)) = let bad : stage.Join k is.0 ≡ stage.Expelled n = sym is.1 ∙ at in cc
unborne s (by.Lets k y) may n at = go may
  where
    go : ((way' : Way) × (s ≡ stage.Move k way') × (more_on way' ≡ 1)) ⊎ ((z : Bridge) × ((s ≡ stage.Look k z) ⊎ (s ≡ stage.Trail k z))) → ⊥
    go (inl is) = let bad : stage.Move k is.0 ≡ stage.Expelled n = sym is.1 ∙ at in cc
    go (inr (z, inl is)) = let bad : stage.Look k z ≡ stage.Expelled n = sym is ∙ at in cc
    go (inr (z, inr is)) = let bad : stage.Trail k z ≡ stage.Expelled n = sym is ∙ at in cc
unborne s (by.Restarts p q) may n at = let bad : stage.Level p q ≡ stage.Expelled n = sym may ∙ at in cc
unborne s (by.Returns p q) may n at = let bad : stage.Swap p q ≡ stage.Expelled n = sym may ∙ at in cc

moved-releases : (s : Stage) (n : ServerNo) → moved s ≡ stage.Release n → s ≡ stage.Release n
moved-releases (stage.Release k) n h = h
moved-releases s n h = cc

module _ (w : World) (b : BookState) (now : Moment) (r : Recovery) (P : Fact → Bool) (why' : ExplainsTruly w b now r P) where
  -- what is dealt with in both ways
  record Dealt (x : Recovery) : Type 0 where
    detached : (x.chosen ≡ None → ⊥) → (n : ServerNo) → Contains x.replicas n → IsToDetach x.purpose (why_of x.outcome.lost n) → IsDetachedSo P x n
    released : (x.chosen ≡ None → ⊥) → (n : ServerNo) → Contains x.replicas n → IsToRelease x.purpose (why_of x.outcome.lost n) → IsReleasedSo P x n

  dealt-of : (x : Recovery) → AreDealtWith P x → Dealt x
  dealt-of x h = record { detached = h.detached; released = h.released }

  -- while the lost are still to be looked at
  unsorted : (y : Recovery) → Contains y.queue task.Sorting → Dealt y
  unsorted y there = record { detached = λ c n i d. inr (inr (inl there)); released = λ c n i d. inr (inr (inl there)) }

  in-takeover : (y : Recovery) → is_takeover y.purpose ≡ true → Dealt y
  in-takeover y over = record {
    detached = λ c n i d. absurd (over-detaches y.purpose (why_of y.outcome.lost n) over d);
    released = λ c n i d. absurd (over-releases y.purpose (why_of y.outcome.lost n) over d);
  }

  -- or in a takeover
  unsorted-or : (x y : Recovery) → y.purpose ≡ x.purpose → y.queue ≡ x.queue → (is_takeover x.purpose ≡ false → Contains x.queue task.Sorting) → Dealt y
  unsorted-or x y aim queue there = go (is_takeover x.purpose) refl
    where
      go : (a : Bool) → is_takeover x.purpose ≡ a → Dealt y
      go true e = in-takeover y (ap is_takeover aim ∙ e)
      go false e = unsorted y (subst (λ (ts : List Task). Contains ts task.Sorting) (sym queue) (there e))

  -- with the same lost ones
  record Carries (x y : Recovery) : Type 0 where
    aim : y.purpose ≡ x.purpose
    replicas : y.replicas ≡ x.replicas
    lost : (n : ServerNo) → why_of y.outcome.lost n ≡ why_of x.outcome.lost n
    marks : (n : ServerNo) → mark_of x.outcome.lost n ≡ Some true → mark_of y.outcome.lost n ≡ Some true
    left : (n : ServerNo) → IsToDetach x.purpose (why_of x.outcome.lost n) → x.stage ≡ stage.Expelled n → IsMarkedSo y n
    chosen : y.chosen ≡ x.chosen
    sorting : Contains x.queue task.Sorting → Contains y.queue task.Sorting
    expelling : (n : ServerNo) → Contains x.queue (task.Expelling n) → IsDetachedSo P y n
    expel : (n : ServerNo) → x.stage ≡ stage.Expel n → IsDetachedSo P y n
    releasing : (n : ServerNo) → Contains x.queue (task.Releasing n) → IsReleasedSo P y n
    release : (n : ServerNo) → x.stage ≡ stage.Release n → IsReleasedSo P y n

  carried : (x y : Recovery) → Carries x y → Dealt x → Dealt y
  carried x y c h = record {
    detached = λ e n i d.
        let before = subst (λ (u : Purpose). IsToDetach u (why_of x.outcome.lost n)) c.aim (subst (λ (o : Option Why). IsToDetach y.purpose o) (c.lost n) d) in
        detach n before (h.detached (λ none. e (c.chosen ∙ none)) n (subst (λ (ns : List ServerNo). Contains ns n) c.replicas i) before);
    released = λ e n i d.
        free n
        (h.released (λ none. e (c.chosen ∙ none)) n (subst (λ (ns : List ServerNo). Contains ns n) c.replicas i)
        (subst (λ (u : Purpose). IsToRelease u (why_of x.outcome.lost n)) c.aim (subst (λ (o : Option Why). IsToRelease y.purpose o) (c.lost n) d)));
  }
    where
      detach : (n : ServerNo) → IsToDetach x.purpose (why_of x.outcome.lost n) → IsDetachedSo P x n → IsDetachedSo P y n
      detach n d (inl (f, inl m)) = inl (f, inl (c.marks n m))
      detach n d (inl (f, inr at)) = inl (f, c.left n d at)
      detach n d (inr (inl g)) = inr (inl g)
      detach n d (inr (inr (inl g))) = inr (inr (inl (c.sorting g)))
      detach n d (inr (inr (inr (inl g)))) = c.expelling n g
      detach n d (inr (inr (inr (inr g)))) = c.expel n g

      free : (n : ServerNo) → IsReleasedSo P x n → IsReleasedSo P y n
      free n (inl g) = inl g
      free n (inr (inl g)) = inr (inl g)
      free n (inr (inr (inl g))) = inr (inr (inl (c.sorting g)))
      free n (inr (inr (inr (inl g)))) = c.releasing n g
      free n (inr (inr (inr (inr g)))) = c.release n g

  -- ---- what is decided

  stuck-dealt : (y : Recovery) → IsStuck y → AreDealtWith P y
  stuck-dealt y s = record {
    sorted = subst AreSorted (sym s.queue) tt;
    settling = λ e t. absurd (false≢true (sym (ap is_settling s.stage) ∙ e));
    led = λ x e. let bad : None ≡ Some x = sym (ap lead_of s.stage) ∙ e in cc;
    ops = λ n e. let bad : stage.Idle ≡ stage.Release n = sym s.stage ∙ e in cc;
    detached = λ c. absurd (c s.chosen);
    released = λ c. absurd (c s.chosen);
  }

  module _ (x : Recovery) (way : IsOnWay x) (h : AreDealtWith P x) where
    module _ (t : Task) (ts : List Task) (next : IsNext x t ts) where
      idle : x.stage ≡ stage.Idle
      idle = way.rests next.rests

      sorted-all : AreSorted (t ∷ ts)
      sorted-all = subst AreSorted next.queue h.sorted

      behind-it : (q : Task) → (t ≡ q → ⊥) → Contains x.queue q → Contains ts q
      behind-it q off there = Contains-tail t ts q off (subst (λ (us : List Task). Contains us q) next.queue there)

      -- another stage begins, and the task is no longer to do
      popped : (y : Recovery) → y.purpose ≡ x.purpose → y.replicas ≡ x.replicas → y.outcome.lost ≡ x.outcome.lost → y.chosen ≡ x.chosen → y.queue ≡ ts → (t ≡ task.Sorting → ⊥) → ((n : ServerNo) → t ≡ task.Expelling n → IsDetachedSo P y n)
          → ((n : ServerNo) → t ≡ task.Releasing n → IsReleasedSo P y n) → Dealt y
      popped y aim replicas lost chosen queue off out free = carried x y (record {
        aim = aim;
        replicas = replicas;
        lost = λ n. ap (λ (xs : List LostReplica). why_of xs n) lost;
        marks = λ n m. subst (λ (xs : List LostReplica). mark_of xs n ≡ Some true) (sym lost) m;
        left = λ n d at. let bad : stage.Idle ≡ stage.Expelled n = sym idle ∙ at in cc;
        chosen = chosen;
        sorting = λ g. to task.Sorting (behind-it task.Sorting off g);
        expelling = λ n g. one n (split-first t ts (task.Expelling n) (subst (λ (us : List Task). Contains us (task.Expelling n)) next.queue g));
        expel = λ n at. let bad : stage.Idle ≡ stage.Expel n = sym idle ∙ at in cc;
        releasing = λ n g. other n (split-first t ts (task.Releasing n) (subst (λ (us : List Task). Contains us (task.Releasing n)) next.queue g));
        release = λ n at. let bad : stage.Idle ≡ stage.Release n = sym idle ∙ at in cc;
      }) (dealt-of x h)
        where
          to : (q : Task) → Contains ts q → Contains y.queue q
          to q g = subst (λ (us : List Task). Contains us q) (sym queue) g

          one : (n : ServerNo) → (t ≡ task.Expelling n) ⊎ Contains ts (task.Expelling n) → IsDetachedSo P y n
          one n (inl same) = out n same
          one n (inr g) = inr (inr (inr (inl (to (task.Expelling n) g))))

          other : (n : ServerNo) → (t ≡ task.Releasing n) ⊎ Contains ts (task.Releasing n) → IsReleasedSo P y n
          other n (inl same) = free n same
          other n (inr g) = inr (inr (inr (inl (to (task.Releasing n) g))))

      -- with what else there is to say of it
      begun : (y : Recovery) → y.queue ≡ ts → (is_settling y.stage ≡ true → leads_on t ≡ true) → ((z : Bridge) → lead_of y.stage ≡ Some z → is_takeover y.purpose ≡ true)
          → ((n : ServerNo) → y.stage ≡ stage.Release n → (y.core.ops ≡ op.Start n ∷ []) ⊎ (y.core.ops ≡ [])) → Dealt y → AreDealtWith P y
      begun y queue sets led ops dealt = record {
        sorted = subst AreSorted (sym queue) sorted-all.1;
        settling = λ e o. subst (λ (us : List Task). Contains us task.Sorting) (sym queue) (sorted-all.0 (sets e));
        led = led;
        ops = ops;
        detached = dealt.detached;
        released = dealt.released;
      }

    -- no task is left
    last : (y : Recovery) → x.core.ops ≡ [] → x.queue ≡ [] → y.purpose ≡ x.purpose → y.replicas ≡ x.replicas → y.outcome.lost ≡ x.outcome.lost → y.chosen ≡ x.chosen → y.queue ≡ x.queue → (is_settling y.stage ≡ true → ⊥)
        → ((z : Bridge) → lead_of y.stage ≡ Some z → ⊥) → ((n : ServerNo) → y.stage ≡ stage.Release n → ⊥) → AreDealtWith P y
    last y none over aim replicas lost chosen queue sets led ops =
        let dealt = carried x y (record {
          aim = aim;
          replicas = replicas;
          lost = λ n. ap (λ (xs : List LostReplica). why_of xs n) lost;
          marks = λ n m. subst (λ (xs : List LostReplica). mark_of xs n ≡ Some true) (sym lost) m;
          left = λ n d at. let bad : stage.Idle ≡ stage.Expelled n = sym (way.rests none) ∙ at in cc;
          chosen = chosen;
          sorting = λ g. absurd (no-none task.Sorting (subst (λ (us : List Task). Contains us task.Sorting) over g));
          expelling = λ n g. absurd (no-none (task.Expelling n) (subst (λ (us : List Task). Contains us (task.Expelling n)) over g));
          expel = λ n at. let bad : stage.Idle ≡ stage.Expel n = sym (way.rests none) ∙ at in cc;
          releasing = λ n g. absurd (no-none (task.Releasing n) (subst (λ (us : List Task). Contains us (task.Releasing n)) over g));
          release = λ n at. let bad : stage.Idle ≡ stage.Release n = sym (way.rests none) ∙ at in cc;
        }) (dealt-of x h) in
        record {
          sorted = subst AreSorted (sym (queue ∙ over)) tt;
          settling = λ e o. absurd (sets e);
          led = λ z e. absurd (led z e);
          ops = λ n e. absurd (ops n e);
          detached = dealt.detached;
          released = dealt.released;
        }

    idle-still : x.core.ops ≡ [] → is_settling x.stage ≡ true → ⊥
    idle-still none e = false≢true (sym (ap is_settling (way.rests none)) ∙ e)

    decided-dealt : (d : Decision) → MayDecide (ground_of w b now) x d → finds_nobody d ≡ false → AreDealtWith P (decided_by (ground_of w b now) x d)
    decided-dealt (by.Reads n ts) may f =
        let y = decided_by (ground_of w b now) x (by.Reads n ts) in
        begun (task.Reading n) ts may y refl (λ e. absurd (false≢true e)) (λ z e. cc) (λ m e. cc)
        (popped (task.Reading n) ts may y refl refl refl refl refl (λ e. cc) (λ m e. cc) (λ m e. cc))
    decided-dealt (by.Drains n ts) may f =
        let y = decided_by (ground_of w b now) x (by.Drains n ts) in
        begun (task.Draining n) ts may y refl (λ e. refl) (λ z e. cc) (λ m e. cc) (popped (task.Draining n) ts may y refl refl refl refl refl (λ e. cc) (λ m e. cc) (λ m e. cc))
    decided-dealt (by.Sends n go ts) may f =
        let y = decided_by (ground_of w b now) x (by.Sends n go ts) in
        begun (task.Moving n go) ts may y refl (λ e. refl) (λ z e. cc) (λ m e. cc) (popped (task.Moving n go) ts may y refl refl refl refl refl (λ e. cc) (λ m e. cc) (λ m e. cc))
    decided-dealt (by.Expels n ts) may f =
        let y = decided_by (ground_of w b now) x (by.Expels n ts) in
        begun (task.Expelling n) ts may y refl (λ e. absurd (false≢true e)) (λ z e. cc) (λ m e. cc)
        (popped (task.Expelling n) ts may y refl refl refl refl refl (λ e. cc) (λ m e. inr (inr (inr (inr (ap stage.Expel (ap server_in e)))))) (λ m e. cc))
      where
        server_in : Task → ServerNo
        server_in (task.Expelling k) = k
        server_in _ = n
    decided-dealt (by.Releases n ts) may f =
        let y = decided_by (ground_of w b now) x (by.Releases n ts) in
        begun (task.Releasing n) ts may y refl (λ e. absurd (false≢true e)) (λ z e. cc) (λ m e. inl (ap (λ (k : ServerNo). op.Start k ∷ []) (ap stage_in e)))
        (popped (task.Releasing n) ts may y refl refl refl refl refl (λ e. cc) (λ m e. cc) (λ m e. inr (inr (inr (inr (ap stage.Release (ap server_in e)))))))
      where
        server_in : Task → ServerNo
        server_in (task.Releasing k) = k
        server_in _ = n

        stage_in : Stage → ServerNo
        stage_in (stage.Release k) = k
        stage_in _ = n
    decided-dealt (by.Looks n z ts) may f =
        let y = decided_by (ground_of w b now) x (by.Looks n z ts) in
        let over = over-beside x.purpose n (suit x.purpose x.chosen x.swaps x.stage (task.Trailing n) ts (subst (λ (xs : List Task). TasksOf x.purpose x.stage xs x.chosen x.swaps) may.0.queue way.course.tasks) (way.rests may.0.rests)) in
        begun (task.Trailing n) ts may.0 y refl (λ e. absurd (false≢true e)) (λ q e. over) (λ m e. cc)
        (popped (task.Trailing n) ts may.0 y refl refl refl refl refl (λ e. cc) (λ m e. cc) (λ m e. cc))
      where
        over-beside : (u : Purpose) (k : ServerNo) → is_beside u k ≡ true → is_takeover u ≡ true
        over-beside (purpose.Takeover d) k e = refl
        over-beside _ k e = absurd (false≢true e)
    decided-dealt (by.Yields z ts) may f =
        let y = decided_by (ground_of w b now) x (by.Yields z ts) in
        begun task.Yielding ts may.0 y refl (λ e. absurd (false≢true e)) (λ q e. cc) (λ m e. cc)
        (popped task.Yielding ts may.0 y refl refl refl refl refl (λ e. cc) (λ m e. cc) (λ m e. cc))
    decided-dealt (by.Sticks t ts) may f = absurd (false≢true (sym f))
    decided-dealt (by.ChoosesNobody ts) may f = absurd (false≢true (sym f))
    decided-dealt (by.Chooses p ts) may f =
        let all = sorted-all task.Choosing ts may.0 in
        let there = all.0 refl in
        let y = decided_by (ground_of w b now) x (by.Chooses p ts) in
        let dealt = unsorted y (Contains-append_right (moves_in (lot_by x.means (ground_of w b now) x.failed p) (without_stopped x.drained p.no)) ts task.Sorting there) in
        record {
          sorted = moves-sorted (lot_by x.means (ground_of w b now) x.failed p) (without_stopped x.drained p.no) ts there all.1;
          settling = λ e o. absurd (idle-still may.0.rests e);
          led = h.led;
          ops = h.ops;
          detached = dealt.detached;
          released = dealt.released;
        }
    decided-dealt (by.Hands d ds go ts) may f =
        let there = there-behind task.Handing ts task.Sorting ((sorted-all task.Handing ts may.next).0 refl) in
        let all = subst (λ (us : List Task). Contains us task.Sorting) (sym may.next.queue) there in
        let dealt = unsorted (decided_by (ground_of w b now) x (by.Hands d ds go ts)) all in
        record { sorted = h.sorted; settling = λ e o. all; led = λ z e. cc; ops = λ m e. cc; detached = dealt.detached; released = dealt.released }
    decided-dealt (by.Leaves d ds ts) may f =
        let there = there-behind task.Handing ts task.Sorting ((sorted-all task.Handing ts may.next).0 refl) in
        let all = subst (λ (us : List Task). Contains us task.Sorting) (sym may.next.queue) there in
        let dealt = unsorted (decided_by (ground_of w b now) x (by.Leaves d ds ts)) all in
        record { sorted = h.sorted; settling = λ e o. all; led = h.led; ops = h.ops; detached = dealt.detached; released = dealt.released }
    decided-dealt (by.HandedOver ts) may f =
        let y = decided_by (ground_of w b now) x (by.HandedOver ts) in
        begun task.Handing ts may.0 y refl (λ e. refl) h.led h.ops (popped task.Handing ts may.0 y refl refl refl refl refl (λ e. cc) (λ m e. cc) (λ m e. cc))
    decided-dealt (by.Passes ts) may f =
        let y = decided_by (ground_of w b now) x (by.Passes ts) in
        begun task.Handing ts may.0 y refl (λ e. refl) h.led h.ops (popped task.Handing ts may.0 y refl refl refl refl refl (λ e. cc) (λ m e. cc) (λ m e. cc))
    decided-dealt (by.Sorts ts) may f = record {
      sorted = calm-sorted task.Expelling (λ n. refl) outs (map task.Releasing free ++ ts) (calm-sorted task.Releasing (λ n. refl) free ts (sorted-all task.Sorting ts may).1);
      settling = λ e o. absurd (idle-still may.rests e);
      led = h.led;
      ops = h.ops;
      detached = λ c n i d.
          inr (inr (inr (inl (Contains-append_left (map task.Expelling outs) (map task.Releasing free ++ ts) (task.Expelling n)
          (named task.Expelling outs n (picked (λ k. expels x.purpose (why_of x.outcome.lost k)) x.replicas n i (detach-expels x.purpose (why_of x.outcome.lost n) d)))))));
      released = λ c n i d.
          inr (inr (inr (inl (Contains-append_right (map task.Expelling outs) (map task.Releasing free ++ ts) (task.Releasing n)
          (Contains-append_left (map task.Releasing free) ts (task.Releasing n)
          (named task.Releasing free n (picked (λ k. releases x.purpose (why_of x.outcome.lost k)) x.replicas n i (release-frees x.purpose (why_of x.outcome.lost n) d))))))));
    }
      where
        outs : List ServerNo
        outs = filter (λ n. expels x.purpose (why_of x.outcome.lost n)) x.replicas

        free : List ServerNo
        free = filter (λ n. releases x.purpose (why_of x.outcome.lost n)) x.replicas
    decided-dealt by.Remains may f =
        last (decided_by (ground_of w b now) x by.Remains) may.0.rests may.0.queue refl refl refl refl refl (idle-still may.0.rests)
        (λ z e. let bad : None ≡ Some z = sym (ap lead_of (way.rests may.0.rests)) ∙ e in cc) (λ n e. let bad : stage.Idle ≡ stage.Release n = sym (way.rests may.0.rests) ∙ e in cc)
    decided-dealt (by.Levels p q) may f = last (decided_by (ground_of w b now) x (by.Levels p q)) may.0.rests may.0.queue refl refl refl refl refl (λ e. false≢true e) (λ z e. cc) (λ n e. cc)
    decided-dealt (by.Crowns p) may f = last (decided_by (ground_of w b now) x (by.Crowns p)) may.0.rests may.0.queue refl refl refl refl refl (λ e. false≢true e) (λ z e. cc) (λ n e. cc)
    decided-dealt (by.Rejoins p) may f = last (decided_by (ground_of w b now) x (by.Rejoins p)) may.0.rests may.0.queue refl refl refl refl refl (λ e. false≢true e) (λ z e. cc) (λ n e. cc)
    decided-dealt by.Closes may f = last (decided_by (ground_of w b now) x by.Closes) may.1.rests may.1.queue refl refl refl refl refl (λ e. false≢true e) (λ z e. cc) (λ n e. cc)

  decides-dealt : (x : Recovery) (d : Decision) → MayDecide (ground_of w b now) x d → Fine x → AreDealtWith P x → AreDealtWith P (decided_by (ground_of w b now) x d)
  decides-dealt x d may (inr s) h = stuck-dealt (decided_by (ground_of w b now) x d) (decides-stuck w b now x d may s)
  decides-dealt x d may (inl way) h = go (finds_nobody d) refl
    where
      go : (a : Bool) → finds_nobody d ≡ a → AreDealtWith P (decided_by (ground_of w b now) x d)
      go true e = stuck-dealt (decided_by (ground_of w b now) x d) (decides-lost w b now x way d may e)
      go false e = decided-dealt x way h d may e

  -- ---- the operation

  -- the released one is started in this turn
  abbrev Freed : Recovery → Type 0
  Freed z = (n : ServerNo) → z.stage ≡ stage.Release n → z.core.ops ≡ [] → P (IsReleased n) ≡ true

  module _ (read : ℕ) (x : Recovery) (so : Decisions (ground_of w b now) r x) (o : Op) (rest : List Op) (is : x.core.ops ≡ o ∷ rest) (fits : Fits x.stage (o ∷ rest))
      (ob : Option Observation) (es : List Exchange) (j : Job) (goes : by_deed w read now x.core rest (deed_of o) ≡ attempt.Goes ob es j) (care : IsCaredFor P x) (h : AreDealtWith P x) where
    abbrev later : Recovery
    later = record x { core = j }

    released-so : (n : ServerNo) → x.stage ≡ stage.Release n → o ≡ op.Start n → P (IsReleased n) ≡ true
    released-so n at same =
        why' x (IsReleased n) so
        (Releases rest at (is ∙ ap (λ (y : Op). y ∷ rest) same)
        (start-reached w read now x.core rest n ob es j (subst (λ (y : Op). by_deed w read now x.core rest (deed_of y) ≡ attempt.Goes ob es j) same goes)))

    -- within its stage
    same-dealt : j.ops ≡ rest → AreDealtWith P later × Freed later
    same-dealt done = (
      record {
        sorted = h.sorted;
        settling = h.settling;
        led = h.led;
        ops = λ n at. left n (h.ops n at);
        detached = h.detached;
        released = h.released;
      },
      λ n at none. started n at (h.ops n at),
    )
      where
        left : (n : ServerNo) → (x.core.ops ≡ op.Start n ∷ []) ⊎ (x.core.ops ≡ []) → (j.ops ≡ op.Start n ∷ []) ⊎ (j.ops ≡ [])
        left n (inl e) = inr (done ∙ same-tail o (op.Start n) rest [] (sym is ∙ e))
        left n (inr e) = let bad : o ∷ rest ≡ [] = sym is ∙ e in cc

        started : (n : ServerNo) → x.stage ≡ stage.Release n → (x.core.ops ≡ op.Start n ∷ []) ⊎ (x.core.ops ≡ []) → P (IsReleased n) ≡ true
        started n at (inl e) = released-so n at (same-head o (op.Start n) rest [] (sym is ∙ e))
        started n at (inr e) = let bad : o ∷ rest ≡ [] = sym is ∙ e in cc

    no-release : o ∷ rest ≡ tail_of x.stage → (n : ServerNo) → x.stage ≡ stage.Release n → ⊥
    no-release t n at = let bad : o ∷ rest ≡ [] = t ∙ ap tail_of at in cc

    moved-dealt : o ∷ rest ≡ tail_of x.stage → (q : Option ServerNo) → AreDealtWith P (record (follows_no_more later q) { stage = moved x.stage }) × Freed (record (follows_no_more later q) { stage = moved x.stage })
    moved-dealt t q = go q
      where
        detach : (n : ServerNo) → IsDetachedSo P x n → IsDetachedSo P (record later { stage = moved x.stage }) n
        detach n (inl (f, inl m)) = inl (f, inl m)
        detach n (inl (f, inr at)) = let bad : o ∷ rest ≡ [] = t ∙ ap tail_of at in cc
        detach n (inr (inl g)) = inr (inl g)
        detach n (inr (inr (inl g))) = inr (inr (inl g))
        detach n (inr (inr (inr (inl g)))) = inr (inr (inr (inl g)))
        detach n (inr (inr (inr (inr g)))) = inl (expelled-so w b now r P why' read x so o rest is fits ob es j goes care n g (same-head o (op.Detach n) rest [] (t ∙ ap tail_of g)), inr (ap moved g))

        free : (n : ServerNo) → IsReleasedSo P x n → IsReleasedSo P (record later { stage = moved x.stage }) n
        free n (inl g) = inl g
        free n (inr (inl g)) = inr (inl g)
        free n (inr (inr (inl g))) = inr (inr (inl g))
        free n (inr (inr (inr (inl g)))) = inr (inr (inr (inl g)))
        free n (inr (inr (inr (inr g)))) = absurd (no-release t n g)

        off : (n : ServerNo) → moved x.stage ≡ stage.Release n → ⊥
        off n at = no-release t n (moved-releases x.stage n at)

        go : (k : Option ServerNo) → AreDealtWith P (record (follows_no_more later k) { stage = moved x.stage }) × Freed (record (follows_no_more later k) { stage = moved x.stage })
        go None = (
          record {
            sorted = h.sorted;
            settling = λ e o. h.settling (moved-settles x.stage e) o;
            led = λ z e. h.led z (sym (moved-leads x.stage) ∙ e);
            ops = λ n at. absurd (off n at);
            detached = λ c n i d. detach n (h.detached c n i d);
            released = λ c n i d. free n (h.released c n i d);
          },
          λ n at none. absurd (off n at),
        )
        go (Some m) = (
          record {
            sorted = h.sorted;
            settling = λ e o. h.settling (moved-settles x.stage e) o;
            led = λ z e. h.led z (sym (moved-leads x.stage) ∙ e);
            ops = λ n at. absurd (off n at);
            detached = λ c n i d. detach n (h.detached c n i d);
            released = λ c n i d. free n (h.released c n i d);
          },
          λ n at none. absurd (off n at),
        )

    stepped-dealt : j.ops ≡ rest → AreDealtWith P (stepped later o) × Freed (stepped later o)
    stepped-dealt done = go (fits-step x.stage o rest fits)
      where
        go : ((ends x.stage (deed_of o) ≡ false) × Fits x.stage rest) ⊎ (o ∷ rest ≡ tail_of x.stage) → AreDealtWith P (stepped later o) × Freed (stepped later o)
        go (inl p) = subst (λ (a : Bool). AreDealtWith P (cond a (entered later (moved x.stage)) later) × Freed (cond a (entered later (moved x.stage)) later)) (sym p.0) (same-dealt done)
        go (inr t) =
            subst (λ (a : Bool). AreDealtWith P (cond a (entered later (moved x.stage)) later) × Freed (cond a (entered later (moved x.stage)) later)) (sym (moved-fits x.stage o rest t).0)
            (moved-dealt t (leaver (moved x.stage)))

  -- ---- the end of a stage

  module _ (z : Recovery) (none : z.core.ops ≡ []) (fits : IsFit z) (h : AreDealtWith P z) (freed : Freed z) where
    unexpelled : (n : ServerNo) → z.stage ≡ stage.Expel n → ⊥
    unexpelled n at = let f = subst (λ (s : Stage). Fits s []) at (subst (λ (xs : List Op). Fits z.stage xs) none fits) in no-tail f.front _ _ f.is

    -- with the same lost ones
    same-end : (y : Recovery) → y.purpose ≡ z.purpose → y.replicas ≡ z.replicas → ((n : ServerNo) → why_of y.outcome.lost n ≡ why_of z.outcome.lost n) → ((n : ServerNo) → mark_of z.outcome.lost n ≡ Some true → mark_of y.outcome.lost n ≡ Some true)
        → ((n : ServerNo) → IsToDetach z.purpose (why_of z.outcome.lost n) → z.stage ≡ stage.Expelled n → IsMarkedSo y n) → y.chosen ≡ z.chosen → y.queue ≡ z.queue → Dealt y
    same-end y aim replicas lost marks left chosen queue = carried z y (record {
      aim = aim;
      replicas = replicas;
      lost = lost;
      marks = marks;
      left = left;
      chosen = chosen;
      sorting = λ g. subst (λ (us : List Task). Contains us task.Sorting) (sym queue) g;
      expelling = λ n g. inr (inr (inr (inl (subst (λ (us : List Task). Contains us (task.Expelling n)) (sym queue) g))));
      expel = λ n at. absurd (unexpelled n at);
      releasing = λ n g. inr (inr (inr (inl (subst (λ (us : List Task). Contains us (task.Releasing n)) (sym queue) g))));
      release = λ n at. inl (freed n at none);
    }) (dealt-of z h)

    -- another stage, in which nothing is settled
    calmly : (y : Recovery) → y.queue ≡ z.queue → (is_settling y.stage ≡ true → ⊥) → ((q : Bridge) → lead_of y.stage ≡ Some q → is_takeover y.purpose ≡ true) → ((n : ServerNo) → y.stage ≡ stage.Release n → (y.core.ops ≡ op.Start n ∷ []) ⊎ (y.core.ops ≡ []))
        → Dealt y → AreDealtWith P y
    calmly y queue sets led ops dealt =
        record { sorted = subst AreSorted (sym queue) h.sorted; settling = λ e o. absurd (sets e); led = led; ops = ops; detached = dealt.detached; released = dealt.released }

    completes-dealt : (e : Ending) → MayEnd z e → AreDealtWith P (ended_by z e)
    completes-dealt (by.Loses n y) may =
        calmly (ended_by z (by.Loses n y)) refl (λ e. false≢true e) (λ q e. cc) (λ m e. cc) (go may.0)
      where
        go : (z.stage ≡ stage.Judged n) ⊎ ((x : Bridge) × (z.stage ≡ stage.Looked n x)) → Dealt (ended_by z (by.Loses n y))
        go (inl at) = unsorted-or z (ended_by z (by.Loses n y)) refl refl (λ o. h.settling (ap is_settling at) o)
        go (inr x) = in-takeover (ended_by z (by.Loses n y)) (h.led x.0 (ap lead_of x.1))
    completes-dealt (by.Frees n y) may =
        calmly (ended_by z (by.Frees n y)) refl (λ e. false≢true e) (λ q e. cc) (λ m e. inl (ap (λ (k : ServerNo). op.Start k ∷ []) (ap stage_in e)))
        (in-takeover (ended_by z (by.Frees n y)) (h.led may.0 (ap lead_of may.1)))
      where
        stage_in : Stage → ServerNo
        stage_in (stage.Release k) = k
        stage_in _ = n
    completes-dealt (by.Marks n) may =
        calmly (ended_by z (by.Marks n)) refl (λ e. false≢true e) (λ q e. cc) (λ m e. cc)
        (same-end (ended_by z (by.Marks n)) refl refl (λ k. why-marked n z.outcome.lost k) (λ k m. still-marked n z.outcome.lost k m) (λ k d at. inl (told-now k d at)) refl refl)
      where
        left_in : Stage → ServerNo
        left_in (stage.Expelled k) = k
        left_in _ = n

        told-now : (k : ServerNo) → IsToDetach z.purpose (why_of z.outcome.lost k) → z.stage ≡ stage.Expelled k → mark_of (map (marked n) z.outcome.lost) k ≡ Some true
        told-now k d at =
            subst (λ (i : ServerNo). mark_of (map (marked i) z.outcome.lost) k ≡ Some true) (ap left_in (sym at ∙ may))
            (marked-now k z.outcome.lost (detach-lost z.purpose (why_of z.outcome.lost k) d))
    completes-dealt (by.Trails n x) may =
        calmly (ended_by z (by.Trails n x)) refl (λ e. false≢true e) (λ q e. h.led x (ap lead_of may.0)) (λ m e. cc) (same-end (ended_by z (by.Trails n x)) refl refl (λ k. refl) (λ k m. m) (λ k d at. absurd (unmarked z (by.Trails n x) may refl k at)) refl refl)
    completes-dealt (by.Joins n x) may =
        let dealt = same-end (ended_by z (by.Joins n x)) refl refl (λ k. refl) (λ k m. m) (λ k d at. absurd (unmarked z (by.Joins n x) may refl k at)) refl refl in
        let over = h.led x (ap lead_of may.0) in
        record {
          sorted = h.sorted;
          settling = λ e o. absurd (false≢true (sym o ∙ over));
          led = λ q e. cc;
          ops = λ m e. cc;
          detached = dealt.detached;
          released = dealt.released;
        }
    completes-dealt by.Rests may = calmly (ended_by z by.Rests) refl (λ e. false≢true e) (λ q e. cc) (λ m e. cc) (same-end (ended_by z by.Rests) refl refl (λ k. refl) (λ k m. m) (λ k d at. absurd (unmarked z by.Rests may refl k at)) refl refl)
    completes-dealt e may = calmly (ended_by z e) refl (λ g. false≢true g) (λ q g. cc) (λ m g. cc) (same-end (ended_by z e) refl refl (λ k. refl) (λ k m. m) (λ k d at. absurd (unmarked z e may refl k at)) refl refl)

  -- ---- a failing operation

  module _ (read : ℕ) (x : Recovery) (so : Decisions (ground_of w b now) r x) (o : Op) (rest : List Op) (is : x.core.ops ≡ o ∷ rest) (c : Cause) (ob : Option Observation)
      (stops : by_deed w read now x.core rest (deed_of o) ≡ attempt.Stops c ob) (care : IsCaredFor P x) (h : AreDealtWith P x) where
    unreached : (n : ServerNo) (y : Op) → o ≡ y → spoken_to (deed_of y) ≡ Some n → IsAsked (deed_of y) → IsUnreached w n.0
    unreached n y same on asked =
        subst (λ (a : Attempt). StopsUnreached w n a) stops
        (subst (λ (q : Op). StopsUnreached w n (by_deed w read now x.core rest (deed_of q))) (sym same) (asked-unreached w read now x.core rest (deed_of y) n on asked))

    passed-out : (n : ServerNo) → x.stage ≡ stage.Expel n → P (IsPassed n) ≡ true
    passed-out n at = go (care.ops n at)
      where
        go : (x.core.ops ≡ op.Detach n ∷ []) ⊎ (x.core.ops ≡ []) → P (IsPassed n) ≡ true
        go (inl e) = why' x (IsPassed n) so (Passes (inl at) (unreached n (op.Detach n) (same-head o (op.Detach n) rest [] (sym is ∙ e)) refl tt))
        go (inr e) = let bad : o ∷ rest ≡ [] = sym is ∙ e in cc

    passed-free : (n : ServerNo) → x.stage ≡ stage.Release n → P (IsPassed n) ≡ true
    passed-free n at = go (h.ops n at)
      where
        go : (x.core.ops ≡ op.Start n ∷ []) ⊎ (x.core.ops ≡ []) → P (IsPassed n) ≡ true
        go (inl e) = why' x (IsPassed n) so (Passes (inr at) (unreached n (op.Start n) (same-head o (op.Start n) rest [] (sym is ∙ e)) refl tt))
        go (inr e) = let bad : o ∷ rest ≡ [] = sym is ∙ e in cc

    same-borne : (y : Recovery) → y.purpose ≡ x.purpose → y.replicas ≡ x.replicas → y.outcome.lost ≡ x.outcome.lost → ((n : ServerNo) → x.stage ≡ stage.Expelled n → ⊥) → y.chosen ≡ x.chosen → y.queue ≡ x.queue → Dealt y
    same-borne y aim replicas lost left chosen queue = carried x y (record {
      aim = aim;
      replicas = replicas;
      lost = λ n. ap (λ (xs : List LostReplica). why_of xs n) lost;
      marks = λ n m. subst (λ (xs : List LostReplica). mark_of xs n ≡ Some true) (sym lost) m;
      left = λ n d at. absurd (left n at);
      chosen = chosen;
      sorting = λ g. subst (λ (us : List Task). Contains us task.Sorting) (sym queue) g;
      expelling = λ n g. inr (inr (inr (inl (subst (λ (us : List Task). Contains us (task.Expelling n)) (sym queue) g))));
      expel = λ n at. inr (inl (passed-out n at));
      releasing = λ n g. inr (inr (inr (inl (subst (λ (us : List Task). Contains us (task.Releasing n)) (sym queue) g))));
      release = λ n at. inr (inl (passed-free n at));
    }) (dealt-of x h)

    calm-borne : (y : Recovery) → y.queue ≡ x.queue → (is_settling y.stage ≡ true → ⊥) → ((q : Bridge) → lead_of y.stage ≡ Some q → ⊥) → ((n : ServerNo) → y.stage ≡ stage.Release n → (y.core.ops ≡ op.Start n ∷ []) ⊎ (y.core.ops ≡ [])) → Dealt y
        → AreDealtWith P y
    calm-borne y queue sets led ops dealt =
        record { sorted = subst AreSorted (sym queue) h.sorted; settling = λ e o'. absurd (sets e); led = λ q e. absurd (led q e); ops = ops; detached = dealt.detached; released = dealt.released }

    settled : (y : Recovery) → y.purpose ≡ x.purpose → y.queue ≡ x.queue → is_settling x.stage ≡ true → Dealt y
    settled y aim queue sets = unsorted-or x y aim queue (λ off. h.settling sets off)

    released-at : (n m : ServerNo) → stage.Release n ≡ stage.Release m → op.Start n ∷ [] ≡ op.Start m ∷ []
    released-at n m e = ap (λ (k : ServerNo). op.Start k ∷ []) (ap stage_in e)
      where
        stage_in : Stage → ServerNo
        stage_in (stage.Release k) = k
        stage_in _ = n

    borne-dealt : (e : Bearing) → MayBear x.stage e → AreDealtWith P (borne x (fate_of e))
    borne-dealt by.Drops may =
        calm-borne (borne x (fate_of by.Drops)) refl (λ e. false≢true e) (λ q e. cc) (λ m e. cc) (same-borne (borne x (fate_of by.Drops)) refl refl refl (unborne x.stage by.Drops may) refl refl)
    borne-dealt (by.Misses n y) may = calm-borne (borne x (fate_of (by.Misses n y))) refl (λ e. false≢true e) (λ q e. cc) (λ m e. cc) (go may)
      where
        go : (x.stage ≡ stage.Drain n) ⊎ (((by' : Way) × (x.stage ≡ stage.Move n by')) ⊎ ((p : ServerNo) × (x.stage ≡ stage.Join n p))) → Dealt (borne x (fate_of (by.Misses n y)))
        go (inl at) = settled (borne x (fate_of (by.Misses n y))) refl refl (ap is_settling at)
        go (inr (inl at)) = settled (borne x (fate_of (by.Misses n y))) refl refl (ap is_settling at.1)
        go (inr (inr at)) = settled (borne x (fate_of (by.Misses n y))) refl refl (ap is_settling at.1)
    borne-dealt (by.Lets n y) may = calm-borne (borne x (fate_of (by.Lets n y))) refl (λ e. false≢true e) (λ q e. cc) (λ m e. inl (released-at n m e)) (go may)
      where
        go : ((by' : Way) × (x.stage ≡ stage.Move n by') × (more_on by' ≡ 1)) ⊎ ((q : Bridge) × ((x.stage ≡ stage.Look n q) ⊎ (x.stage ≡ stage.Trail n q))) → Dealt (borne x (fate_of (by.Lets n y)))
        go (inl at) = settled (borne x (fate_of (by.Lets n y))) refl refl (ap is_settling at.1)
        go (inr (q, inl at)) = in-takeover (borne x (fate_of (by.Lets n y))) (h.led q (ap lead_of at))
        go (inr (q, inr at)) = in-takeover (borne x (fate_of (by.Lets n y))) (h.led q (ap lead_of at))
    borne-dealt (by.Restarts p q) may =
        calm-borne (borne x (fate_of (by.Restarts p q))) refl (λ e. false≢true e) (λ y e. cc) (λ m e. inl (released-at q m e)) (same-borne (borne x (fate_of (by.Restarts p q))) refl refl refl (unborne x.stage (by.Restarts p q) may) refl refl)
    borne-dealt (by.Returns p q) may =
        calm-borne (borne x (fate_of (by.Returns p q))) refl (λ e. false≢true e) (λ y e. cc) (λ m e. cc) (same-borne (borne x (fate_of (by.Returns p q))) refl refl refl (unborne x.stage (by.Returns p q) may) refl refl)

  -- ---- a turn

  over-dealt : (x : Recovery) → AreDealtWith P x → AreDealtWith P (record x { core = ended x.core })
  over-dealt x h = record { sorted = h.sorted; settling = h.settling; led = h.led; ops = λ n at. inr refl; detached = h.detached; released = h.released }

  waited-dealt : (x : Recovery) (j : Job) → j.ops ≡ x.core.ops → AreDealtWith P x → AreDealtWith P (record x { core = j })
  waited-dealt x j same h = record {
    sorted = h.sorted;
    settling = h.settling;
    led = h.led;
    ops = λ n at. subst (λ (os : List Op). (os ≡ op.Start n ∷ []) ⊎ (os ≡ [])) (sym same) (h.ops n at);
    detached = h.detached;
    released = h.released;
  }

  abbrev Before : Recovery → Type 0
  Before x = HeldRecovery w x × (Fine x × (Decisions (ground_of w b now) r x × (IsCaredFor P x × AreDealtWith P x)))

  keeps-dealt : (read : ℕ) → HeldRings w b.rings → Keeps w b read now Before (λ v x. IsFit x × (AreDealtWith P x × Freed x)) (λ v x. AreDealtWith P x)
  keeps-dealt read rings = record {
    decides = λ x d may h. (
      decides-held w b now rings x d may h.0,
      (
        decides-fine w b now x d may h.1.0,
        (joined w b now h.1.1.0 (by.Then d may by.Still), (decided-cared w b now r P why' x h.1.1.1.0 d may, decides-dealt x d may h.1.0 h.1.1.1.1)),
      ),
    );
    waits = λ x o rest ob es j did e h. waited-dealt x j ((went-of w read now x o rest ob es j did).waits e).0 h.1.1.1.1;
    acts = λ x o rest ob es j did e h.
        let fits = fits-of w x o rest did.ops h.0 in
        let left = (went-of w read now x o rest ob es j did).done e in
        (stepped-fits x o rest j fits left, stepped-dealt read x h.1.1.0 o rest did.ops fits ob es j did.goes h.1.1.1.0 h.1.1.1.1 left);
    continues = λ v x y ys is h. h.1.0;
    completes = λ v x e none may h. completes-dealt x none h.0 h.1.0 h.1.1 e may;
    bears = λ x o rest c ob e stops is may h. borne-dealt read x h.1.1.0 o rest stops.ops c ob stops.stops h.1.1.1.0 h.1.1.1.1 e may;
  }

  pub taken-dealt : (read : ℕ) → HeldRings w b.rings → HeldRecovery w r → Speaks r → IsCaredFor P r → AreDealtWith P r → AreDealtWith P (taken w b read now r).recovery
  taken-dealt read rings held speaks care h =
      kept-whole w b read now Before (λ v x. IsFit x × (AreDealtWith P x × Freed x)) (λ v x. AreDealtWith P x) (keeps-dealt read rings)
      (record { fails = λ x c ob f g. over-dealt x g.1.1.1.1; finishes = λ x o rest lines is e g. over-dealt x g.1.1.1.1 }) r (held, (inl speaks.way, (by.Still, (care, h))))

-- ---- a recovery that begins

pub begun-dealt : (P : Fact → Bool) (u : Purpose) (by' : Means) (id wait : ℕ) (f : ServerNo) (ns order : List ServerNo) → AreDealtWith P (begun_recovery u by' id wait f ns order)
begun-dealt P u by' id wait f ns order = record {
  sorted = tasks u;
  settling = λ e o. absurd (false≢true (sym (off u) ∙ e));
  led = λ x e. let bad : None ≡ Some x = sym (unled u) ∙ e in cc;
  ops = λ n at. absurd (free u n at);
  detached = λ c n i d. absurd d;
  released = λ c n i d. absurd d;
}
  where
    off : (v : Purpose) → is_settling (first_stage v f) ≡ false
    off purpose.Regroup = refl
    off _ = refl

    unled : (v : Purpose) → lead_of (first_stage v f) ≡ None
    unled purpose.Regroup = refl
    unled _ = refl

    free : (v : Purpose) (n : ServerNo) → first_stage v f ≡ stage.Release n → ⊥
    free purpose.Regroup n e = cc
    free _ n e = cc

    sorts : (t : Task) → AreSorted (t ∷ task.Sorting ∷ [])
    sorts t = (λ e. there-first task.Sorting [], (λ e. absurd (false≢true e), tt))

    tasks : (v : Purpose) → AreSorted (first_tasks v ns)
    tasks purpose.Regroup = drains-sorted task.Draining ns (task.Choosing ∷ task.Sorting ∷ []) (there-behind task.Choosing (task.Sorting ∷ []) task.Sorting (there-first task.Sorting [])) (sorts task.Choosing)
    tasks purpose.Master = drains-sorted task.Draining ns (task.Choosing ∷ task.Sorting ∷ []) (there-behind task.Choosing (task.Sorting ∷ []) task.Sorting (there-first task.Sorting [])) (sorts task.Choosing)
    tasks (purpose.Intermediate s) = (
      λ e. absurd (false≢true e),
      drains-sorted task.Draining ns (task.Handing ∷ task.Sorting ∷ []) (there-behind task.Handing (task.Sorting ∷ []) task.Sorting (there-first task.Sorting [])) (sorts task.Handing),
    )
    tasks (purpose.Takeover d) = calm-sorted task.Trailing (λ n. refl) (but ns d) (task.Yielding ∷ []) (λ e. absurd (false≢true e), tt)
