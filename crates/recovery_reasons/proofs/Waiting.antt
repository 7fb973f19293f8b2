-- A turn whose operation waits is one more wait, or its end, by the status of that turn.
use Rattle.std.proofs.Common.{◌≡◌, ℕ, ◌+◌, ◌<◌, ◌≤◌, Bool, true, false, cond, not, ◌||◌, ◌&&◌, List, [], ◌∷◌, ◌++◌, refl, sym, ◌∙◌, ap, subst, Option, Some, None, inl, inr, ◌⊎◌, arith, nat_lt, ◌==◌}
use Rattle.recovery_reasons.proofs.Prelude.{AreLeft, Attempt, Attempts, BookState, Bridge, Cause, Coord, Deed, EndOf, Exchange, ExecOf, Fate, HasCome}
use Rattle.recovery_reasons.proofs.Prelude.{HasSettled, IsDueWait, IsFreedNow, IsGivenUpNow, IsLeftNow, IsOneMoreWait, IsRest, IsWaitOver, Job, LosesItsWait, Moment}
use Rattle.recovery_reasons.proofs.Prelude.{Observation, Op, Recovery, ServerNo, Speaks, Stage, Status, Taken, WaitsItsTurns, WaitsUntil, World}
use Rattle.recovery_reasons.proofs.Prelude.{acted, after_wait, after_wait_by, and_parts, are_calm, at-end, at_end, attempted, attempts, barred_by}
use Rattle.recovery_reasons.proofs.Prelude.{by_deed, decided, decided-walks, decisions-keep, deed_of, draining, end_seen, ended_by, ends, entered}
use Rattle.recovery_reasons.proofs.Prelude.{eqb-true, exec_seen, false≢true, fate, follows_no_more, gathering, ground_of, info, is_at_or_before}
use Rattle.recovery_reasons.proofs.Prelude.{is_reached, is_settled, is_waiting, le-ltb, leaver, leveling, lt-ltb, met, moved, ne_eqb, next, on_going}
use Rattle.recovery_reasons.proofs.Prelude.{progressed, same-head, same-tail, same_coord, saw, seen_in, settled_turn, settles, status, stepped, taken}
use Rattle.recovery_reasons.proofs.Prelude.{trailing, waits}
use Rattle.recovery_reasons.proofs.Prelude.attempt
use Rattle.recovery_reasons.proofs.Prelude.by
use Rattle.recovery_reasons.proofs.Prelude.cause
use Rattle.recovery_reasons.proofs.Prelude.cross
use Rattle.recovery_reasons.proofs.Prelude.lost
use Rattle.recovery_reasons.proofs.Prelude.op
use Rattle.recovery_reasons.proofs.Prelude.stage
use Rattle.recovery_reasons.proofs.Prelude.step
use Rattle.recovery_reasons.proofs.Prelude.table
use Rattle.recovery_reasons.proofs.Prelude.taking
use Rattle.recovery_reasons.proofs.Prelude.waiting
use Rattle.recovery_reasons.proofs.Halting.{reads-others}
use Rattle.recovery_reasons.proofs.Listing.{IsListed, decides-listed}
use Rattle.recovery_reasons.proofs.Reasoning.{shown-exec}
use Rattle.recovery_reasons.proofs.Prelude.doing

-- ---- which operations wait

-- what holds of each operation of a list with those after it
abbrev Splits : (Op → List Op → Type 0) → List Op → Type 0
Splits Q [] = Unit {0}
Splits Q (x ∷ xs) = Q x xs × Splits Q xs

at-split : (Q : Op → List Op → Type 0) (all : List Op) (o : Op) (rest : List Op) → IsRest all (o ∷ rest) → Splits Q all → Q o rest
at-split Q all o rest h each = go all h.done h.split each
  where
    go : (xs done : List Op) → xs ≡ done ++ o ∷ rest → Splits Q xs → Q o rest
    go [] [] e s = cc
    go [] (d ∷ ds) e s = cc
    go (x ∷ xs) [] e s =
        subst (λ (y : Op). Q y rest) (same-head x o xs rest e) (subst (λ (ys : List Op). Q x ys) (same-tail x o xs rest e) s.0)
    go (x ∷ xs) (d ∷ ds) e s = go xs ds (same-tail x d xs (ds ++ o ∷ rest) e) s.1

abbrev DueAt : Stage → Op → List Op → Type 0
DueAt s o rest = waits (deed_of o) ≡ true → IsDueWait s o rest

due-wait : (s : Stage) (o : Op) (rest : List Op) → AreLeft s (o ∷ rest) → DueAt s o rest
due-wait s o rest h on = go s h
  where
    off : (x : Op) (xs : List Op) (k : Stage) → waits (deed_of x) ≡ false → DueAt k x xs
    off x xs k calm w = absurd (false≢true (sym calm ∙ w))

    calm : are_calm (o ∷ rest) ≡ true → ⊥
    calm c = false≢true (sym (ap not on) ∙ (and_parts (not (waits (deed_of o))) (are_calm rest) c).0)

    go : (k : Stage) → AreLeft k (o ∷ rest) → IsDueWait k o rest
    go (stage.Drain n) i =
        at-split (DueAt (stage.Drain n)) (draining n) o rest i
        (off _ _ (stage.Drain n) refl, ((λ w. waiting.Drains n), (off _ _ (stage.Drain n) refl, (off _ _ (stage.Drain n) refl, tt)))) on
    go (stage.Trail n x) i =
        at-split (DueAt (stage.Trail n x)) (trailing n x) o rest i
        (off _ _ (stage.Trail n x) refl, ((λ w. waiting.Trails n x), (off _ _ (stage.Trail n x) refl, (off _ _ (stage.Trail n x) refl, tt)))) on
    go (stage.Level p q) i =
        at-split (DueAt (stage.Level p q)) (leveling p q) o rest i (
          off _ _ (stage.Level p q) refl,
          (
            off _ _ (stage.Level p q) refl,
            (
              off _ _ (stage.Level p q) refl,
              ((λ w. waiting.Levels p q), (off _ _ (stage.Level p q) refl, (off _ _ (stage.Level p q) refl, (off _ _ (stage.Level p q) refl, (off _ _ (stage.Level p q) refl, tt))))),
            ),
          ),
        ) on
    go (stage.Gather m d) i =
        at-split (DueAt (stage.Gather m d)) (gathering m d) o rest i (
          off _ _ (stage.Gather m d) refl,
          (off _ _ (stage.Gather m d) refl, (off _ _ (stage.Gather m d) refl, ((λ w. waiting.Gathers m d), (off _ _ (stage.Gather m d) refl, (off _ _ (stage.Gather m d) refl, tt))))),
        ) on
    go (stage.Shut m d) i = absurd (false≢true (ap (λ (y : Op). waits (deed_of y)) (sym (same-head o (op.ReadOnly m true) rest (gathering m d) i)) ∙ on))
    go stage.Idle i = absurd (calm i)
    go k i = absurd (calm i)

-- the server that such a stage waits for, which is stopped next
abbrev waiter_in : Stage → ServerNo
waiter_in (stage.Drain n) = n
waiter_in (stage.Trail n x) = n
waiter_in (stage.Level p q) = q
waiter_in (stage.Gather m d) = d
waiter_in s = record { 0 = 0 }

stop-behind : (s : Stage) (o : Op) (rest : List Op) → IsDueWait s o rest → (more : List Op) × (rest ≡ op.Stop (waiter_in s) ∷ more)
stop-behind s o rest (waiting.Drains n) = (op.Status n None ∷ [], refl)
stop-behind s o rest (waiting.Trails n x) = (op.Status n None ∷ [], refl)
stop-behind s o rest (waiting.Levels p q) = (op.Status q (Some p) ∷ op.Reset q ∷ op.Cross cross.About p q ∷ [], refl)
stop-behind s o rest (waiting.Gathers m d) = (op.Status d (Some m) ∷ [], refl)

-- ---- a wait

come-so : (o : Option Coord) (c : Coord) → HasCome o c → is_reached o c ≡ true
come-so None c h = absurd h
come-so (Some to) c h = h

not-come : (o : Option Coord) (c : Coord) → (HasCome o c → ⊥) → is_reached o c ≡ false
not-come None c h = refl
not-come (Some to) c h = go (is_at_or_before to c) refl
  where
    go : (a : Bool) → is_at_or_before to c ≡ a → a ≡ false
    go true e = absurd (h e)
    go false e = refl

not-settled : (s : Status) → (HasSettled s → ⊥) → is_settled s ≡ false
not-settled s h = go s.sql refl (same_coord s.read s.exec) refl
  where
    go : (a : Bool) → s.sql ≡ a → (b : Bool) → same_coord s.read s.exec ≡ b → not (a && not b) ≡ false
    go true e true f = absurd (h (inr f))
    go true e false f = refl
    go false e b f = absurd (h (inl e))

settled-so : (s : Status) → HasSettled s → is_settled s ≡ true
settled-so s (inl off) = ap (λ (a : Bool). not (a && not (same_coord s.read s.exec))) off
settled-so s (inr same) = go s.sql (same_coord s.read s.exec) same
  where
    go : (a b : Bool) → b ≡ true → not (a && not b) ≡ true
    go true true e = refl
    go true false e = e
    go false b e = refl

module _ (w : World) (read : ℕ) (now : Moment) (x : Recovery) (n : ServerNo) (o : Op) (more : List Op) (s : Stage) (bar : (info s).bar ≡ table.Never) (open' : ends s (deed_of o) ≡ false) where
  -- as it waits so
  abbrev due : Recovery
  due = record x { stage = s; core = record x.core { ops = o ∷ op.Stop n ∷ more } }

  abbrev comes : Attempt → Taken
  comes a = attempted w due o a

  over : (seen : Status) → IsWaitOver due n (comes (attempt.Goes None [] (next (saw due.core n seen) (op.Stop n ∷ more))))
  over seen =
      let k : Job = next (saw due.core n seen) (op.Stop n ∷ more) in
      subst (λ (z : table.Bar). IsWaitOver due n (on_going w due o None [] k (taking.bar_by z due.failed k.seen))) (sym bar)
      (subst (λ (a : Bool). IsWaitOver due n (taking.goes_on None [] (ended-so k a))) (sym open')
      (record { rest = more; going = refl; made = refl; due = refl; waited = refl; stage = refl; outcome = refl }))
    where
      ended-so : Job → Bool → Recovery
      ended-so k a = let y = cond a (entered (record due { core = k }) (moved s)) (record due { core = k }) in at_end y y.core.ops

  again : (seen : Status) → IsOneMoreWait due (comes (attempt.Goes None [] (record (saw due.core n seen) { waited = due.core.waited + 1 })))
  again seen =
      let k : Job = record (saw due.core n seen) { waited = due.core.waited + 1 } in
      subst (λ (z : table.Bar). IsOneMoreWait due (on_going w due o None [] k (taking.bar_by z due.failed k.seen))) (sym bar)
      (subst (λ (a : Bool). IsOneMoreWait due (taking.goes_on None [] (progressed (record due { core = k }) o a))) (sym (ap not (ne_eqb (due.core.waited + 1) 0 (λ e. omega (arith, e)))))
      (record { going = refl; made = refl; due = refl; waited = refl; stage = refl; outcome = refl }))

  abbrev waited_by : (Status → Bool) → Attempt
  waited_by t = after_wait due.core (op.Stop n ∷ more) n t (seen_in (status w n.0))

  abbrev choice : Status → Bool → Attempt
  choice seen a = cond a (attempt.Goes None [] (record (saw due.core n seen) { waited = due.core.waited + 1 })) (attempt.Stops (cause.WaitSpent n) None)

  -- its server isn't reached
  misses : (t : Status → Bool) → by_deed w read now due.core (op.Stop n ∷ more) (deed_of o) ≡ waited_by t → seen_in (status w n.0) ≡ None → comes (attempt.Stops (cause.Unreachable n) None) ≡ settled_turn w read now due
  misses t is gone = ap comes (sym (is ∙ ap (after_wait due.core (op.Stop n ∷ more) n t) gone))

  -- a wait by this test, by this status
  module _ (t : Status → Bool) (seen : Status) (is : by_deed w read now due.core (op.Stop n ∷ more) (deed_of o) ≡ waited_by t) (shown : seen_in (status w n.0) ≡ Some seen) where
    known : by_deed w read now due.core (op.Stop n ∷ more) (deed_of o) ≡ after_wait_by due.core (op.Stop n ∷ more) n seen (t seen)
    known = is ∙ ap (after_wait due.core (op.Stop n ∷ more) n t) shown

    ends-there : t seen ≡ true → IsWaitOver due n (settled_turn w read now due)
    ends-there there = subst (λ (a : Attempt). IsWaitOver due n (comes a)) (sym (known ∙ ap (after_wait_by due.core (op.Stop n ∷ more) n seen) there)) (over seen)

    waits-again : t seen ≡ false → due.core.waited + 1 < due.core.wait → IsOneMoreWait due (settled_turn w read now due)
    waits-again away m =
        subst (λ (a : Attempt). IsOneMoreWait due (comes a))
        (sym (known ∙ (ap (after_wait_by due.core (op.Stop n ∷ more) n seen) away ∙ ap (choice seen) (lt-ltb (due.core.waited + 1) due.core.wait m)))) (again seen)

    -- the last one comes to what stops the job
    spends : t seen ≡ false → due.core.wait ≤ due.core.waited + 1 → comes (attempt.Stops (cause.WaitSpent n) None) ≡ settled_turn w read now due
    spends away last =
        ap comes
        (sym (known ∙ (ap (after_wait_by due.core (op.Stop n ∷ more) n seen) away ∙ ap (choice seen) (le-ltb (due.core.waited + 1) due.core.wait last))))

-- ---- each stage that waits

module _ (w : World) (read : ℕ) (now : Moment) (x : Recovery) where
  -- at this stage, with these operations
  as-due : (s : Stage) (ops : List Op) → x.stage ≡ s → x.core.ops ≡ ops → x ≡ record x { stage = s; core = record x.core { ops = ops } }
  as-due s ops at is = ap (λ (k : Stage). record x { stage = k }) at ∙ ap (λ (os : List Op). record x { stage = s; core = record x.core { ops = os } }) is

  abbrev turn : Recovery → Taken
  turn z = settled_turn w read now z

  drains-so : (n : ServerNo) (more : List Op) (seen : Status) → x.stage ≡ stage.Drain n → x.core.ops ≡ op.Settle n ∷ op.Stop n ∷ more → seen_in (status w n.0) ≡ Some seen
      → WaitsUntil x n (HasSettled seen) (IsWaitOver x n (turn x)) (turn x)
  drains-so n more seen at is shown =
      subst (λ (z : Recovery). WaitsUntil z n (HasSettled seen) (IsWaitOver z n (turn z)) (turn z)) (sym (as-due (stage.Drain n) (op.Settle n ∷ op.Stop n ∷ more) at is))
      (record {
        there = λ h. ends-there w read now x n (op.Settle n) more (stage.Drain n) refl refl (settles x.core) seen refl shown (ap (λ (a : Bool). a || not (nat_lt (x.core.waited + 1) x.core.wait)) (settled-so seen h));
        again = λ h m.
            waits-again w read now x n (op.Settle n) more (stage.Drain n) refl refl (settles x.core) seen refl shown
            (ap (λ (a : Bool). a || not (nat_lt (x.core.waited + 1) x.core.wait)) (not-settled seen h) ∙ ap not (lt-ltb (x.core.waited + 1) x.core.wait m)) m;
        spent = λ h l.
            ends-there w read now x n (op.Settle n) more (stage.Drain n) refl refl (settles x.core) seen refl shown
            (ap (λ (a : Bool). a || not (nat_lt (x.core.waited + 1) x.core.wait)) (not-settled seen h) ∙ ap not (le-ltb (x.core.waited + 1) x.core.wait l));
      })

  trails-so : (n : ServerNo) (y : Bridge) (more : List Op) (seen : Status) → x.stage ≡ stage.Trail n y → x.core.ops ≡ op.Await n (ExecOf y.no) ∷ op.Stop n ∷ more → seen_in (status w n.0) ≡ Some seen
      → WaitsUntil x n (HasCome (exec_seen x y.no) seen.exec) (IsFreedNow x n (lost.behind seen.exec) (turn x)) (turn x)
  trails-so n y more seen at is shown =
      subst (λ (z : Recovery). WaitsUntil z n (HasCome (exec_seen z y.no) seen.exec) (IsFreedNow z n (lost.behind seen.exec) (turn z)) (turn z)) (sym (as-due (stage.Trail n y) (op.Await n (ExecOf y.no) ∷ op.Stop n ∷ more) at is))
      (record {
        there = λ h. ends-there w read now x n (op.Await n (ExecOf y.no)) more (stage.Trail n y) refl refl test seen refl shown (come-so (exec_seen x y.no) seen.exec h);
        again = λ h m. waits-again w read now x n (op.Await n (ExecOf y.no)) more (stage.Trail n y) refl refl test seen refl shown (not-come (exec_seen x y.no) seen.exec h) m;
        spent = λ h l.
            subst (λ (t : Taken). IsFreedNow (due w read now x n (op.Await n (ExecOf y.no)) more (stage.Trail n y) refl refl) n (lost.behind seen.exec) t) (spends w read now x n (op.Await n (ExecOf y.no)) more (stage.Trail n y) refl refl test seen refl shown (not-come (exec_seen x y.no) seen.exec h) l)
            (subst (λ (c : Coord). IsFreedNow (due w read now x n (op.Await n (ExecOf y.no)) more (stage.Trail n y) refl refl) n (lost.behind c) (comes w read now x n (op.Await n (ExecOf y.no)) more (stage.Trail n y) refl refl (attempt.Stops (cause.WaitSpent n) None)))
            (sym (shown-exec w n.0 seen shown)) (record { going = refl; made = refl; lost = refl; next = (refl, refl) }));
      })
    where
      test : Status → Bool
      test s = is_reached (exec_seen x y.no) s.exec

  levels-so : (p q : ServerNo) (more : List Op) (seen : Status) → x.stage ≡ stage.Level p q → x.core.ops ≡ op.Await q (EndOf p) ∷ op.Stop q ∷ more → seen_in (status w q.0) ≡ Some seen
      → WaitsUntil x q (HasCome (end_seen x p) seen.exec) (IsGivenUpNow x q (turn x)) (turn x)
  levels-so p q more seen at is shown =
      subst (λ (z : Recovery). WaitsUntil z q (HasCome (end_seen z p) seen.exec) (IsGivenUpNow z q (turn z)) (turn z)) (sym (as-due (stage.Level p q) (op.Await q (EndOf p) ∷ op.Stop q ∷ more) at is))
      (record {
        there = λ h. ends-there w read now x q (op.Await q (EndOf p)) more (stage.Level p q) refl refl test seen refl shown (come-so (end_seen x p) seen.exec h);
        again = λ h m. waits-again w read now x q (op.Await q (EndOf p)) more (stage.Level p q) refl refl test seen refl shown (not-come (end_seen x p) seen.exec h) m;
        spent = λ h l.
            subst (λ (t : Taken). IsGivenUpNow (due w read now x q (op.Await q (EndOf p)) more (stage.Level p q) refl refl) q t)
            (spends w read now x q (op.Await q (EndOf p)) more (stage.Level p q) refl refl test seen refl shown (not-come (end_seen x p) seen.exec h) l)
            (record { going = refl; made = refl; next = (refl, refl); outcome = refl });
      })
    where
      test : Status → Bool
      test s = is_reached (end_seen x p) s.exec

  gathers-so : (m k : ServerNo) (more : List Op) (seen : Status) → x.stage ≡ stage.Gather m k → x.core.ops ≡ op.Await k (EndOf m) ∷ op.Stop k ∷ more → seen_in (status w k.0) ≡ Some seen
      → WaitsUntil x k (HasCome (end_seen x m) seen.exec) ((turn x).step ≡ step.Failed (cause.WaitSpent k) []) (turn x)
  gathers-so m k more seen at is shown =
      subst (λ (z : Recovery). WaitsUntil z k (HasCome (end_seen z m) seen.exec) ((turn z).step ≡ step.Failed (cause.WaitSpent k) []) (turn z)) (sym (as-due (stage.Gather m k) (op.Await k (EndOf m) ∷ op.Stop k ∷ more) at is))
      (record {
        there = λ h. ends-there w read now x k (op.Await k (EndOf m)) more (stage.Gather m k) refl refl test seen refl shown (come-so (end_seen x m) seen.exec h);
        again = λ h i. waits-again w read now x k (op.Await k (EndOf m)) more (stage.Gather m k) refl refl test seen refl shown (not-come (end_seen x m) seen.exec h) i;
        spent = λ h l.
            ap (λ (t : Taken). t.step) (sym (spends w read now x k (op.Await k (EndOf m)) more (stage.Gather m k) refl refl test seen refl shown (not-come (end_seen x m) seen.exec h) l));
      })
    where
      test : Status → Bool
      test s = is_reached (end_seen x m) s.exec

module _ (w : World) (read : ℕ) (now : Moment) (x : Recovery) where
  drain-away : (n : ServerNo) (more : List Op) → x.stage ≡ stage.Drain n → x.core.ops ≡ op.Settle n ∷ op.Stop n ∷ more → seen_in (status w n.0) ≡ None
      → IsLeftNow x n lost.unreachable (turn w read now x x)
  drain-away n more at is gone =
      subst (λ (z : Recovery). IsLeftNow z n lost.unreachable (turn w read now x z)) (sym (as-due w read now x (stage.Drain n) (op.Settle n ∷ op.Stop n ∷ more) at is))
      (subst (λ (t : Taken). IsLeftNow (due w read now x n (op.Settle n) more (stage.Drain n) refl refl) n lost.unreachable t)
      (misses w read now x n (op.Settle n) more (stage.Drain n) refl refl (settles x.core) refl gone) (record { going = refl; made = refl; lost = refl; next = (refl, refl) }))

  trail-away : (n : ServerNo) (y : Bridge) (more : List Op) → x.stage ≡ stage.Trail n y → x.core.ops ≡ op.Await n (ExecOf y.no) ∷ op.Stop n ∷ more → seen_in (status w n.0) ≡ None
      → IsFreedNow x n lost.unreachable (turn w read now x x)
  trail-away n y more at is gone =
      subst (λ (z : Recovery). IsFreedNow z n lost.unreachable (turn w read now x z)) (sym (as-due w read now x (stage.Trail n y) (op.Await n (ExecOf y.no) ∷ op.Stop n ∷ more) at is))
      (subst (λ (t : Taken). IsFreedNow (due w read now x n (op.Await n (ExecOf y.no)) more (stage.Trail n y) refl refl) n lost.unreachable t)
      (misses w read now x n (op.Await n (ExecOf y.no)) more (stage.Trail n y) refl refl (λ s. is_reached (exec_seen x y.no) s.exec) refl gone) (record { going = refl; made = refl; lost = refl; next = (refl, refl) }))

  level-away : (p q : ServerNo) (more : List Op) → x.stage ≡ stage.Level p q → x.core.ops ≡ op.Await q (EndOf p) ∷ op.Stop q ∷ more → seen_in (status w q.0) ≡ None
      → IsGivenUpNow x q (turn w read now x x)
  level-away p q more at is gone =
      subst (λ (z : Recovery). IsGivenUpNow z q (turn w read now x z)) (sym (as-due w read now x (stage.Level p q) (op.Await q (EndOf p) ∷ op.Stop q ∷ more) at is))
      (subst (λ (t : Taken). IsGivenUpNow (due w read now x q (op.Await q (EndOf p)) more (stage.Level p q) refl refl) q t)
      (misses w read now x q (op.Await q (EndOf p)) more (stage.Level p q) refl refl (λ s. is_reached (end_seen x p) s.exec) refl gone) (record { going = refl; made = refl; next = (refl, refl); outcome = refl }))

  gather-away : (m k : ServerNo) (more : List Op) → x.stage ≡ stage.Gather m k → x.core.ops ≡ op.Await k (EndOf m) ∷ op.Stop k ∷ more → seen_in (status w k.0) ≡ None
      → (turn w read now x x).step ≡ step.Failed (cause.Unreachable k) []
  gather-away m k more at is gone =
      subst (λ (z : Recovery). (turn w read now x z).step ≡ step.Failed (cause.Unreachable k) []) (sym (as-due w read now x (stage.Gather m k) (op.Await k (EndOf m) ∷ op.Stop k ∷ more) at is))
      (ap (λ (t : Taken). t.step) (sym (misses w read now x k (op.Await k (EndOf m)) more (stage.Gather m k) refl refl (λ s. is_reached (end_seen x m) s.exec) refl gone)))

-- ---- the count of waits

abbrev Counts : Job → Attempt → Type 0
Counts j (attempt.Goes o es k) = (k.wait ≡ j.wait) × (is_waiting k ≡ true → (k.ops ≡ j.ops) × (es ≡ []) × (k.waited ≡ j.waited + 1))
Counts j (attempt.Stops c o) = Unit {0}
Counts j (attempt.Ends lines) = Unit {0}

module _ (w : World) (j : Job) (rest : List Op) where
  counts-by : (read : ℕ) (now : Moment) (d : Deed) (a : Attempt) → Attempts w read now j rest d a → Counts j a
  counts-by read now d a (doing.Misses n from c why) = tt
  counts-by read now d a (doing.Fails x c why) = tt
  counts-by read now d a (doing.Waits n x s is seen short more) = (refl, λ h. (refl, refl, refl))
  counts-by read now d a (doing.Finishes lines) = tt
  counts-by read now d a _ = (refl, λ h. absurd (false≢true h))

  deed-counts : (read : ℕ) (now : Moment) (d : Deed) → Counts j (by_deed w read now j rest d)
  deed-counts read now d = counts-by read now d (by_deed w read now j rest d) (attempts w read now j rest d)

-- what a turn leaves of the count
record Counted (x : Recovery) (t : Taken) : Type 0 where
  fresh : t.step ≡ step.Going → (t.recovery.core.waited ≡ 0) ⊎ IsOneMoreWait x t
  wait : t.step ≡ step.Going → t.recovery.core.wait ≡ x.core.wait

module _ (w : World) (read : ℕ) (now : Moment) (x : Recovery) where
  -- the recovery that a stage's end leaves
  record Kept (z : Recovery) : Type 0 where
    waited : z.core.waited ≡ 0
    wait : z.core.wait ≡ x.core.wait

  going-on : (ob : Option Observation) (es : List Exchange) (z : Recovery) → Kept z → Counted x (taking.goes_on ob es z)
  going-on ob es z k = record { fresh = λ h. inl k.waited; wait = λ h. k.wait }

  ended : (c : Cause) (ob : Option Observation) → Counted x (taking.fails w x c ob)
  ended c ob = record { fresh = λ h. cc; wait = λ h. cc }

  entered-kept : (z : Recovery) (s : Stage) → Kept z → Kept (entered z s)
  entered-kept z s k = go (leaver s)
    where
      go : (q : Option ServerNo) → Kept (record (follows_no_more z q) { stage = s })
      go None = record { waited = k.waited; wait = k.wait }
      go (Some n) = record { waited = k.waited; wait = k.wait }

  ending-kept : {z y : Recovery} → by.AtEnd z y → Kept z → Kept y
  ending-kept (by.Continues a rest is) k = k
  ending-kept (by.Completes {r = z} e none may) k = go e
    where
      go : (v : by.Ending) → Kept (ended_by z v)
      go by.Rests = record { waited = k.waited; wait = k.wait }
      go (by.Stays n s) = record { waited = k.waited; wait = k.wait }
      go (by.Loses n y') = record { waited = k.waited; wait = k.wait }
      go (by.Follows n p) = record { waited = k.waited; wait = k.wait }
      go (by.Marks n) = record { waited = k.waited; wait = k.wait }
      go (by.Leads d) = record { waited = k.waited; wait = k.wait }
      go v = record { waited = refl; wait = k.wait }

  counts-met : (c : Cause) (ob : Option Observation) (f : Fate) → Counted x (met w x c ob f)
  counts-met c ob taking.Fails = ended c ob
  counts-met c ob taking.Drops = going-on ob [] _ (record { waited = refl; wait = refl })
  counts-met c ob f = going-on ob [] _ (record { waited = refl; wait = refl })

  counts-turn : Counted x (settled_turn w read now x)
  counts-turn = go x.core.ops refl
    where
      by-wait : (o : Op) (ob : Option Observation) (es : List Exchange) (k : Job) → Counts x.core (attempt.Goes ob es k) → (a : Bool) → is_waiting k ≡ a → Counted x (taking.goes_on ob es (progressed (record x { core = k }) o a))
      by-wait o ob es k c true e =
          let h = c.1 e in record { fresh = λ g. inr (record { going = refl; made = h.1; due = h.0; waited = h.2; stage = refl; outcome = refl }); wait = λ g. c.0 }
      by-wait o ob es k c false e = going-on ob es _ (ending-kept (at-end (stepped (record x { core = k }) o)) (step-kept (ends x.stage (deed_of o))))
        where
          none : (n : ℕ) → not (n == 0) ≡ false → n ≡ 0
          none n h = go' (n == 0) refl h
            where
              go' : (z : Bool) → (n == 0) ≡ z → not z ≡ false → n ≡ 0
              go' true f g = eqb-true n 0 f
              go' false f g = absurd (false≢true (sym g))

          start : Kept (record x { core = k })
          start = record { waited = none k.waited e; wait = c.0 }

          step-kept : (z : Bool) → Kept (cond z (entered (record x { core = k }) (moved x.stage)) (record x { core = k }))
          step-kept true = entered-kept (record x { core = k }) (moved x.stage) start
          step-kept false = start

      by-bar : (o : Op) (ob : Option Observation) (es : List Exchange) (k : Job) → Counts x.core (attempt.Goes ob es k) → (q : Option Cause) → Counted x (on_going w x o ob es k q)
      by-bar o ob es k c None = by-wait o ob es k c (is_waiting k) refl
      by-bar o ob es k c (Some f) = ended f ob

      by-attempt : (o : Op) (a : Attempt) → Counts x.core a → Counted x (attempted w x o a)
      by-attempt o (attempt.Goes ob es k) c = by-bar o ob es k c (barred_by x.stage x.failed k.seen)
      by-attempt o (attempt.Stops f ob) c = counts-met f ob (fate w x.purpose x.stage f)
      by-attempt o (attempt.Ends lines) c = record { fresh = λ h. cc; wait = λ h. cc }

      go : (ops : List Op) → x.core.ops ≡ ops → Counted x (acted w read now x ops)
      go [] is = ended cause.NoCandidate None
      go (o ∷ rest) is = by-attempt o (by_deed w read now x.core rest (deed_of o)) (deed-counts w x.core rest read now (deed_of o))

-- ---- a turn

module _ (w : World) (b : BookState) (read : ℕ) (now : Moment) (r : Recovery) (speaks : Speaks r) where
  abbrev so : Recovery
  so = decided (ground_of w b now) r

  listed : IsListed so
  listed = decisions-keep w b now IsListed (decides-listed w b now) (decided-walks w b now r) speaks.listed

  only-so : (o : Op) (rest : List Op) → so.core.ops ≡ o ∷ rest → waits (deed_of o) ≡ true → IsDueWait so.stage o rest
  only-so o rest is on = due-wait so.stage o rest (subst (λ (xs : List Op). AreLeft so.stage xs) is listed) on

  -- the stop is next
  stop-next : (s : Stage) (o : Op) (rest : List Op) → so.stage ≡ s → so.core.ops ≡ o ∷ rest → waits (deed_of o) ≡ true → (more : List Op) × (so.core.ops ≡ o ∷ op.Stop (waiter_in s) ∷ more)
  stop-next s o rest at is on =
      let h = stop-behind s o rest (subst (λ (k : Stage). IsDueWait k o rest) at (only-so o rest is on)) in (h.0, is ∙ ap (λ (xs : List Op). o ∷ xs) h.1)

  turn-away : LosesItsWait w so (taken w b read now r)
  turn-away = record {
    drains = λ n rest at is gone. let h = stop-next (stage.Drain n) (op.Settle n) rest at is refl in drain-away w read now so n h.0 at h.1 gone;
    trails = λ n x rest at is gone. let h = stop-next (stage.Trail n x) (op.Await n (ExecOf x.no)) rest at is refl in trail-away w read now so n x h.0 at h.1 gone;
    levels = λ p q rest at is gone. let h = stop-next (stage.Level p q) (op.Await q (EndOf p)) rest at is refl in level-away w read now so p q h.0 at h.1 gone;
    gathers = λ m k rest at is gone. let h = stop-next (stage.Gather m k) (op.Await k (EndOf m)) rest at is refl in gather-away w read now so m k h.0 at h.1 gone;
  }

  pub turn-waits : WaitsItsTurns w so (taken w b read now r)
  turn-waits = record {
    only = only-so;
    drains = λ n rest s at is shown. let h = stop-next (stage.Drain n) (op.Settle n) rest at is refl in drains-so w read now so n h.0 s at h.1 shown;
    trails = λ n x rest s at is shown. let h = stop-next (stage.Trail n x) (op.Await n (ExecOf x.no)) rest at is refl in trails-so w read now so n x h.0 s at h.1 shown;
    levels = λ p q rest s at is shown. let h = stop-next (stage.Level p q) (op.Await q (EndOf p)) rest at is refl in levels-so w read now so p q h.0 s at h.1 shown;
    gathers = λ m k rest s at is shown. let h = stop-next (stage.Gather m k) (op.Await k (EndOf m)) rest at is refl in gathers-so w read now so m k h.0 s at h.1 shown;
    away = turn-away;
    reads = reads-others w read now so;
    fresh = (counts-turn w read now so).fresh;
    wait = (counts-turn w read now so).wait;
  }
