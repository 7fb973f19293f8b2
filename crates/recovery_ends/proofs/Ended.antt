-- A recovery ends: each turn after which it goes on leaves it fewer turns.
use Rattle.std.proofs.Common.{◌≡◌, ℕ, ◌+◌, ◌*◌, ◌-◌, ◌<◌, ◌≤◌, Bool, true, false, cond, not, List, [], ◌∷◌, ◌++◌, map, length, refl, sym, ◌∙◌, ap, subst, Option, Some, None, ◌⊎◌, inl, inr, arith, ◌==◌, filter}
use Rattle.recovery_ends.proofs.Prelude.{Attempt, Bearing, BookState, Bridge, Decision, Does, Ending, Exchange, Fits, IsCalm, IsNext, IsOver}
use Rattle.recovery_ends.proofs.Prelude.{IsShaped, Job, Keeps, Lot, MayBear, MayDecide, MayEnd, Means, Moment, MovesOn, Observation, Op, Purpose}
use Rattle.recovery_ends.proofs.Prelude.{Recovery, ServerNo, Stage, Stopped, Task, WasRead, Way, Why, World, before, begun_recovery, borne, by_deed}
use Rattle.recovery_ends.proofs.Prelude.{choose, closes, closing, decided_by, decides-idle, deed_of, ended_by, ends, entered, expels, false≢true}
use Rattle.recovery_ends.proofs.Prelude.{fate_of, first_stage, follows, follows_no_more, going, ground_of, idle, is_going, is_waiting, kept-along}
use Rattle.recovery_ends.proofs.Prelude.{last_looks, leaver, loses, lot_by, more_on, move_of, moved, moves_in, ops_after, ops_at_end, ops_last}
use Rattle.recovery_ends.proofs.Prelude.{ops_of_crown, ops_of_queue, ops_of_task, ops_to_come, releases, rests, sort, stepped, stopped_at, tail_of}
use Rattle.recovery_ends.proofs.Prelude.{taken, turn-moves, turns_for, turns_left, turns_to_end, why_of, without_stopped, working}
use Rattle.recovery_ends.proofs.Prelude.attempt
use Rattle.recovery_ends.proofs.Prelude.by
use Rattle.recovery_ends.proofs.Prelude.cross
use Rattle.recovery_ends.proofs.Prelude.deciding
use Rattle.recovery_ends.proofs.Prelude.op
use Rattle.recovery_ends.proofs.Prelude.purpose
use Rattle.recovery_ends.proofs.Prelude.stage
use Rattle.recovery_ends.proofs.Prelude.taking
use Rattle.recovery_ends.proofs.Prelude.task
use Rattle.recovery_ends.proofs.Prelude.way
use Rattle.recovery_ends.proofs.Shapes.{fits-step, moved-fits, same-head}
use Rattle.recovery_ends.proofs.Fitting.{IsFit, begun-fits, decides-fits, stepped-fits, taken-fits, went-of}
use Rattle.recovery_plans.proofs.OrchBase.Lists.{filter-shorter}

-- the operations that are left, and may come
abbrev ops_in : Recovery → ℕ
ops_in r = length r.core.ops + ops_to_come r

-- ---- lists

marks-ops : (ns : List ServerNo) (t : ServerNo → Task) → ((n : ServerNo) → ops_of_task ns (t n) ≡ 1) → (ms : List ServerNo) (ts : List Task)
    → ops_of_queue ns (map t ms ++ ts) ≡ length ms + ops_of_queue ns ts
marks-ops ns t each [] ts = omega arith
marks-ops ns t each (m ∷ ms) ts = let h = marks-ops ns t each ms ts in let o = each m in omega (arith, h, o)

append-ops : (ns : List ServerNo) (ts us : List Task) → ops_of_queue ns (ts ++ us) ≡ ops_of_queue ns ts + ops_of_queue ns us
append-ops ns [] us = omega arith
append-ops ns (t ∷ ts) us = let h = append-ops ns ts us in omega (arith, h)

moves-ops : (ns : List ServerNo) (lot : Stopped → Lot) (ss : List Stopped) → ops_of_queue ns (moves_in lot ss) ≤ 3 * length ss
moves-ops ns lot [] = omega arith
moves-ops ns lot (s ∷ ss) =
    let h = moves-ops ns lot ss in
    let a = append-ops ns (move_of s (lot s)) (moves_in lot ss) in
    let o = go (lot s) in
    omega (arith, h, a, o)
  where
    go : (x : Lot) → ops_of_queue ns (move_of s x) ≤ 3
    go (deciding.Goes by) = omega arith
    go (deciding.Stays why) = omega arith

-- ---- what is decided

-- no more operations than before; the wait is the same, and it is calm
pub record NoMore (r r' : Recovery) : Type 0 where
  pub ops : ops_in r' ≤ ops_in r
  pub wait : r'.core.wait ≡ r.core.wait
  pub calm : IsCalm r'

-- whatever way it goes
way-room : (by : Way) (n : ServerNo) → length (before by n ++ tail_of (stage.Move n by)) + ops_after (stage.Move n by) ≡ 3
way-room (way.Down b) n = refl
way-room _ n = refl

module _ (w : World) (b : BookState) (now : Moment) where
  -- of a recovery without an operation, which isn't at its last stages
  at-end : (r : Recovery) → r.core.ops ≡ [] → IsCalm r → ops_at_end r.purpose (closes r.stage) r.swaps ≡ ops_last r.purpose r.swaps
  at-end r none calm = ap (λ c. ops_at_end r.purpose c r.swaps) (calm.rests none)

  -- the operations of the tasks that are left
  of-next : (r : Recovery) (t : Task) (ts : List Task) → IsNext r t ts → ops_of_queue r.replicas r.queue ≡ ops_of_task r.replicas t + ops_of_queue r.replicas ts
  of-next r t ts next = ap (ops_of_queue r.replicas) next.queue

  -- a stage begins with operations, for which there is room among those of its task
  begin-ends : (r : Recovery) (t : Task) (ts : List Task) (s : Stage) (x : Op) (xs : List Op) → IsNext r t ts → IsCalm r → closes s ≡ false
      → length (x ∷ xs) + ops_after s ≤ ops_of_task r.replicas t → NoMore r (working (record r { queue = ts }) s (x ∷ xs))
  begin-ends r t ts s x xs next calm wide room = record {
    ops =
        let a = at-end r next.rests calm in
        let e : ops_at_end r.purpose (closes s) r.swaps ≡ ops_last r.purpose r.swaps = ap (λ c. ops_at_end r.purpose c r.swaps) wide in
        let q = of-next r t ts next in
        omega (arith, a, e, q, room);
    wait = refl;
    calm = record { waited = omega arith; rests = λ h. cc };
  }

  -- at the last stages nothing else comes
  last-ends : (r : Recovery) (s : Stage) (x : Op) (xs : List Op) → r.core.ops ≡ [] → IsCalm r → closes s ≡ true → length (x ∷ xs) + ops_after s ≤ ops_last r.purpose r.swaps
      → NoMore r (working r s (x ∷ xs))
  last-ends r s x xs none calm shut room = record {
    ops =
        let a = at-end r none calm in
        let e : ops_at_end r.purpose (closes s) r.swaps ≡ 0 = ap (λ c. ops_at_end r.purpose c r.swaps) shut in
        omega (arith, a, e, room);
    wait = refl;
    calm = record { waited = omega arith; rests = λ h. cc };
  }

  choose-ends : (r : Recovery) (o : Option Stopped) → IsCalm r → NoMore r (choose (ground_of w b now) r o)
  choose-ends r None calm = record { ops = omega arith; wait = refl; calm = record { waited = calm.waited; rests = calm.rests } }
  choose-ends r (Some p) calm = record {
    ops =
        let others = without_stopped r.drained p.no in
        let a = append-ops r.replicas (moves_in (lot_by r.means (ground_of w b now) r.failed p) others) r.queue in
        let m = moves-ops r.replicas (lot_by r.means (ground_of w b now) r.failed p) others in
        let f = filter-shorter (λ (s : Stopped). not (s.no.0 == p.no.0)) r.drained in
        omega (arith, a, m, f);
    wait = refl;
    calm = record { waited = calm.waited; rests = calm.rests };
  }

  sort-ends : (r : Recovery) → IsCalm r → NoMore (record r { queue = task.Sorting ∷ r.queue }) (sort r)
  sort-ends r calm = record {
    ops =
        let out = filter (λ (n : ServerNo). expels r.purpose (why_of r.outcome.lost n)) r.replicas in
        let free = filter (λ (n : ServerNo). releases r.purpose (why_of r.outcome.lost n)) r.replicas in
        let a = marks-ops r.replicas task.Expelling (λ n. refl) out (map task.Releasing free ++ r.queue) in
        let c = marks-ops r.replicas task.Releasing (λ n. refl) free r.queue in
        let d = filter-shorter (λ (n : ServerNo). expels r.purpose (why_of r.outcome.lost n)) r.replicas in
        let e = filter-shorter (λ (n : ServerNo). releases r.purpose (why_of r.outcome.lost n)) r.replicas in
        omega (arith, a, c, d, e);
    wait = refl;
    calm = record { waited = calm.waited; rests = calm.rests };
  }

  same-calm : (r : Recovery) (ts : List Task) → IsCalm r → IsCalm (record r { queue = ts })
  same-calm r ts calm = record { waited = calm.waited; rests = calm.rests }

  -- of what is last in the recovery of a master, with the swap or without it
  last-of : (r : Recovery) (a : Bool) → IsOver r purpose.Master → r.swaps ≡ a → ops_last r.purpose r.swaps ≡ ops_of_crown a
  last-of r a over e = ap (λ u. ops_last u r.swaps) over.purpose ∙ ap ops_of_crown e

  decides-ends : (r : Recovery) (d : Decision) → MayDecide (ground_of w b now) r d → IsCalm r → NoMore r (decided_by (ground_of w b now) r d)
  decides-ends r (by.Reads n ts) next calm = begin-ends r (task.Reading n) ts (stage.Read n) (op.Status n None) [] next calm refl (omega arith)
  decides-ends r (by.Drains n ts) next calm =
      begin-ends r (task.Draining n) ts (stage.Drain n) (op.StopReceiver n) (op.Settle n ∷ op.Stop n ∷ op.Status n None ∷ []) next calm refl (omega arith)
  decides-ends r (by.Sends n way ts) next calm = record {
    ops = let a = at-end r next.rests calm in let q = of-next r (task.Moving n way) ts next in let u = way-room way n in omega (arith, a, q, u);
    wait = refl;
    calm = record { waited = omega arith; rests = λ h. refl };
  }
  decides-ends r (by.Expels n ts) next calm = begin-ends r (task.Expelling n) ts (stage.Expel n) (op.Detach n) [] next calm refl (omega arith)
  decides-ends r (by.Releases n ts) next calm = begin-ends r (task.Releasing n) ts (stage.Release n) (op.Start n) [] next calm refl (omega arith)
  decides-ends r (by.Looks n x ts) (next, e) calm = begin-ends r (task.Trailing n) ts (stage.Look n x) (op.Status n None) [] next calm refl (omega arith)
  decides-ends r (by.Yields x ts) (next, e) calm = record {
    ops = let a = at-end r next.rests calm in let q = of-next r task.Yielding ts next in omega (arith, a, q);
    wait = refl;
    calm = record { waited = omega arith; rests = λ h. cc };
  }
  decides-ends r (by.Sticks t ts) g calm = record { ops = omega arith; wait = refl; calm = record { waited = calm.waited; rests = calm.rests } }
  decides-ends r (by.Chooses p ts) (next, e) calm =
      let c = choose-ends (record r { queue = ts }) (Some p) (same-calm r ts calm) in
      let h = c.ops in
      let q = of-next r task.Choosing ts next in
      record { ops = omega (arith, h, q); wait = c.wait; calm = c.calm }
  decides-ends r (by.ChoosesNobody ts) g calm = record { ops = omega arith; wait = refl; calm = record { waited = calm.waited; rests = calm.rests } }
  decides-ends r (by.Hands d ds way ts) g calm = record {
    ops = let a = at-end r g.next.rests calm in let e : length r.drained ≡ length (d ∷ ds) = ap length g.drained in let u = way-room way d.no in omega (arith, a, e, u);
    wait = refl;
    calm = record { waited = omega arith; rests = λ h. refl };
  }
  decides-ends r (by.Leaves d ds ts) g calm = record {
    ops = let e : length r.drained ≡ length (d ∷ ds) = ap length g.drained in omega (arith, e);
    wait = refl;
    calm = record { waited = calm.waited; rests = calm.rests };
  }
  decides-ends r (by.HandedOver ts) g calm = record {
    ops = let q = of-next r task.Handing ts g.0 in omega (arith, q);
    wait = refl;
    calm = record { waited = calm.waited; rests = calm.rests };
  }
  decides-ends r (by.Passes ts) g calm = record { ops = let q = of-next r task.Handing ts g.0 in omega (arith, q); wait = refl; calm = same-calm r ts calm }
  decides-ends r (by.Sorts ts) next calm =
      let c = sort-ends (record r { queue = ts }) (same-calm r ts calm) in
      let h = c.ops in
      let q = of-next r task.Sorting ts next in
      record { ops = omega (arith, h, q); wait = c.wait; calm = c.calm }
  decides-ends r (by.Levels p q) g calm = record {
    ops =
        let a = at-end r g.0.rests calm in
        let m = last-of r true g.0 g.1 in
        let n : ops_last r.purpose false ≡ 5 = ap (λ u. ops_last u false) g.0.purpose in
        omega (arith, a, m, n);
    wait = refl;
    calm = record { waited = omega arith; rests = λ h. cc };
  }
  decides-ends r by.Remains g calm = record {
    ops =
        let a = at-end r g.0.rests calm in
        let m = last-of r true g.0 g.1 in
        let n : ops_last r.purpose false ≡ 5 = ap (λ u. ops_last u false) g.0.purpose in
        let c : ops_at_end r.purpose (closes r.stage) false ≡ ops_last r.purpose false = ap (λ x. ops_at_end r.purpose x false) (calm.rests g.0.rests) in
        omega (arith, a, m, n, c);
    wait = refl;
    calm = record { waited = calm.waited; rests = calm.rests };
  }
  decides-ends r (by.Crowns p) g calm =
      let n = last-of r false g.0 g.1 in last-ends r (stage.Crown p) (op.Reset p) (op.ReadOnly p false ∷ []) g.0.rests calm refl (omega (arith, n))
  decides-ends r (by.Rejoins p) g calm =
      let n : ops_last r.purpose r.swaps ≡ 2 = ap (λ u. ops_last u r.swaps) g.0.purpose in last-ends r _ _ _ g.0.rests calm refl (omega (arith, n))
  decides-ends r by.Closes g calm =
      let n : ops_last r.purpose r.swaps ≡ 1 = ap (λ u. ops_last u r.swaps) g.1.purpose in last-ends r _ _ _ g.1.rests calm refl (omega (arith, n))

-- ---- turns by operations

-- so many turns as operations take
for-length : (wait : ℕ) (ops : List Op) → turns_for wait ops ≡ (wait + 1) * length ops
for-length wait [] = omega arith
for-length wait (o ∷ ops) = let h = for-length wait ops in omega (arith, h)

turns-at-most : (r : Recovery) → turns_to_end r ≤ (r.core.wait + 1) * ops_in r
turns-at-most r = let h = for-length r.core.wait r.core.ops in omega (arith, h)

times-more : (u a b : ℕ) → a ≤ b → u * a ≤ u * b
times-more u a b h = go (b - a) (omega (arith, h))
  where
    go : (d : ℕ) → b ≡ a + d → u * a ≤ u * b
    go d e = let f : u * b ≡ u * (a + d) = ap (λ n. u * n) e in omega (arith, f)

-- no more turns than before; the wait is the same, and it is calm
record NoMoreTurns (r r' : Recovery) : Type 0 where
  turns : turns_to_end r' ≤ turns_to_end r
  wait : r'.core.wait ≡ r.core.wait
  calm : IsCalm r'

-- of one without an operation
by-ops : (r r' : Recovery) → r.core.ops ≡ [] → NoMore r r' → NoMoreTurns r r'
by-ops r r' none n = record {
  turns =
      let a = turns-at-most r' in
      let same : (r'.core.wait + 1) * ops_in r' ≡ (r.core.wait + 1) * ops_in r' = ap (λ x. (x + 1) * ops_in r') n.wait in
      let more = times-more (r.core.wait + 1) (ops_in r') (ops_in r) n.ops in
      let zero-ops : (r.core.wait + 1) * ops_in r ≡ (r.core.wait + 1) * ops_to_come r = ap (λ (xs : List Op). (r.core.wait + 1) * (length xs + ops_to_come r)) none ∙ ap (λ x. (r.core.wait + 1) * x) (zero-left (ops_to_come r)) in
      omega (arith, a, same, more, zero-ops);
  wait = n.wait;
  calm = n.calm;
}
  where
    zero-left : (x : ℕ) → 0 + x ≡ x
    zero-left x = omega arith

-- ---- a stage that is done

-- what has come of a recovery at the end of a stage is among what might
pub record Within (r r' : Recovery) : Type 0 where
  pub ops : length r'.core.ops + ops_to_come r' ≤ ops_to_come r
  pub wait : r'.core.wait ≡ r.core.wait
  pub waited : r.core.waited ≤ r.core.wait → r'.core.waited ≤ r'.core.wait
  pub rests : r'.core.ops ≡ [] → closes r'.stage ≡ false

-- with another stage, for which there is room, and no operation
idle-within : (r r' : Recovery) → r'.core ≡ r.core → r.core.ops ≡ [] → r'.stage ≡ stage.Idle → ops_to_come r' ≤ ops_to_come r → Within r r'
idle-within r r' core none rest less = record {
  ops = let e : length r'.core.ops ≡ 0 = ap (λ (j : Job). length j.ops) core ∙ ap length none in omega (arith, e, less);
  wait = ap (λ (j : Job). j.wait) core;
  waited = λ h. subst (λ (j : Job). j.waited ≤ j.wait) (sym core) h;
  rests = λ h. ap closes rest;
}

no-tail : (front : List Op) (x : Op) (xs : List Op) → [] ≡ front ++ x ∷ xs → ⊥
no-tail [] x xs h = cc
no-tail (y ∷ ys) x xs h = cc

one-more : (ds : List Stopped) (d : Stopped) → length (ds ++ d ∷ []) ≡ length ds + 1
one-more [] d = omega arith
one-more (x ∷ xs) d = let h = one-more xs d in omega (arith, h)

-- what may come at a stage
come-at : (r : Recovery) (s : Stage) → r.stage ≡ s → ops_to_come r ≡ ops_after s + (ops_of_queue r.replicas r.queue + (3 * length r.drained + ops_at_end r.purpose (closes s) r.swaps))
come-at r s is = ap (λ x. ops_after x + (ops_of_queue r.replicas r.queue + (3 * length r.drained + ops_at_end r.purpose (closes x) r.swaps))) is

last-at : (r : Recovery) (s : Stage) → closes s ≡ false → ops_at_end r.purpose (closes s) r.swaps ≡ ops_last r.purpose r.swaps
last-at r s no-end = ap (λ x. ops_at_end r.purpose x r.swaps) no-end

module _ (r : Recovery) (none : r.core.ops ≡ []) where
  idle-at : (s : Stage) → r.stage ≡ s → closes s ≡ false → Within r (idle r)
  idle-at s is no-end = let c = come-at r s is in let e = last-at r s no-end in idle-within r (idle r) refl none refl (omega (arith, c, e))

  lost-at : (s : Stage) (n : ServerNo) (why : Why) → r.stage ≡ s → closes s ≡ false → Within r (idle (loses r n why))
  lost-at s n why is no-end = let c = come-at r s is in let e = last-at r s no-end in idle-within r (idle (loses r n why)) refl none refl (omega (arith, c, e))

  follows-at : (s : Stage) (n p : ServerNo) → r.stage ≡ s → closes s ≡ false → Within r (idle (follows r n p))
  follows-at s n p is no-end = let c = come-at r s is in let e = last-at r s no-end in idle-within r (idle (follows r n p)) refl none refl (omega (arith, c, e))

  looks-at : (u : Purpose) (n : ServerNo) → r.stage ≡ stage.Opened n → Within r (closing r (last_looks r u n))
  looks-at purpose.Regroup n is = let c = come-at r (stage.Opened n) is in record { ops = omega (arith, c); wait = refl; waited = λ h. omega arith; rests = λ h. cc }
  looks-at _ n is = let c = come-at r (stage.Opened n) is in record { ops = omega (arith, c); wait = refl; waited = λ h. omega arith; rests = λ h. cc }

  -- a stage with an end of its own that makes nothing has an operation left
  rests-at : (s : Stage) → r.stage ≡ s → rests s ≡ true → Fits s [] → Within r (idle r)
  rests-at (stage.Crown n) is h f = absurd (no-tail f.front (op.Reset n) _ f.is)
  rests-at (stage.Open n) is h f = absurd (no-tail f.front (op.ReadOnly n false) _ f.is)
  rests-at (stage.Close lines) is h f = absurd (no-tail f.front (op.Finish lines) _ f.is)
  rests-at (stage.Opened n) is h f = absurd (false≢true h)
  rests-at s is h f = idle-at s is refl

  completes-ends : (e : Ending) → MayEnd r e → IsFit r → Within r (ended_by r e)
  completes-ends by.Rests may fits = rests-at r.stage refl may (subst (λ (xs : List Op). Fits r.stage xs) none fits)
  completes-ends (by.Stays n s) may fits =
      let c = come-at r (stage.Judged n) may.0 in
      let m = one-more r.drained (stopped_at n s) in
      idle-within r (idle (record r { drained = r.drained ++ stopped_at n s ∷ [] })) refl none refl (omega (arith, c, m))
  completes-ends (by.Loses n why) may fits = go may.0
    where
      go : WasRead r.stage n → Within r (idle (loses r n why))
      go (inl is) = lost-at (stage.Judged n) n why is refl
      go (inr (x, is)) = lost-at (stage.Looked n x) n why is refl
  completes-ends (by.Frees n why) may fits =
      let c = come-at r (stage.Halted n may.0) may.1 in record { ops = omega (arith, c); wait = refl; waited = λ h. omega arith; rests = λ h. cc }
  completes-ends (by.Follows n p) may fits = go may
    where
      go : (r.stage ≡ stage.Join n p) ⊎ (r.stage ≡ stage.Resume p n) → Within r (idle (follows r n p))
      go (inl is) = follows-at (stage.Join n p) n p is refl
      go (inr is) = follows-at (stage.Resume p n) n p is refl
  completes-ends (by.Marks n) may fits = let c = come-at r (stage.Expelled n) may in idle-within r (idle (taking.expelled r n)) refl none refl (omega (arith, c))
  completes-ends (by.Leads d) may fits = let c = come-at r (stage.Gather may.0 d) may.1 in idle-within r (idle (taking.gathered r d)) refl none refl (omega (arith, c))
  completes-ends (by.Trails n x) may fits =
      let c = come-at r (stage.Looked n x) may.0 in record { ops = omega (arith, c); wait = refl; waited = λ h. omega arith; rests = λ h. cc }
  completes-ends (by.Joins n x) may fits =
      let c = come-at r (stage.Halted n x) may.0 in record { ops = omega (arith, c); wait = refl; waited = λ h. omega arith; rests = λ h. cc }
  completes-ends (by.Swaps p q) may fits =
      let c = come-at r (stage.Swapped p q) may in record { ops = omega (arith, c); wait = refl; waited = λ h. omega arith; rests = λ h. cc }
  completes-ends (by.Switches m d) may fits =
      let c = come-at r (stage.Switched m d) may in record { ops = omega (arith, c); wait = refl; waited = λ h. omega arith; rests = λ h. cc }
  completes-ends (by.Shuts m d) may fits =
      let c = come-at r (stage.Meet m d) may in record { ops = omega (arith, c); wait = refl; waited = λ h. omega arith; rests = λ h. cc }
  completes-ends (by.Ends n) may fits = looks-at r.purpose n may

-- ---- a turn

-- the operations after the one that was due, and those that may come, take fewer turns
behind-fewer : (r : Recovery) (o : Op) (rest : List Op) → r.core.ops ≡ o ∷ rest → r.core.waited ≤ r.core.wait → (r.core.wait + 1) * (length rest + ops_to_come r) < turns_to_end r
behind-fewer r o rest is counted =
    let all : turns_for r.core.wait r.core.ops ≡ (r.core.wait + 1) + turns_for r.core.wait rest = ap (turns_for r.core.wait) is in
    let behind = for-length r.core.wait rest in
    omega (arith, all, behind, counted)

record Ends (r r' : Recovery) : Type 0 where
  fewer : turns_to_end r' < turns_to_end r
  calm : IsCalm r'

-- fewer turns by its operations, before it is looked whether its stage is done
record Steps (r r' : Recovery) : Type 0 where
  fewer : (r.core.wait + 1) * ops_in r' < turns_to_end r
  wait : r'.core.wait ≡ r.core.wait
  waited : r'.core.waited ≤ r'.core.wait
  fits : IsFit r'

-- with no more operations than there were
steps-end : (r r' x : Recovery) → Steps r r' → ops_in x ≤ ops_in r' → x.core.wait ≡ r'.core.wait → IsCalm x → Ends r x
steps-end r r' x st less wait calm = record {
  fewer =
      let a = turns-at-most x in
      let same : (x.core.wait + 1) * ops_in x ≡ (r.core.wait + 1) * ops_in x = ap (λ k. (k + 1) * ops_in x) (wait ∙ st.wait) in
      let more = times-more (r.core.wait + 1) (ops_in x) (ops_in r') less in
      let few = st.fewer in
      omega (arith, a, same, more, few);
  calm = calm;
}

module _ (r : Recovery) (o : Op) (rest : List Op) (is : r.core.ops ≡ o ∷ rest) (calm : IsCalm r) where
  -- one more wait
  wait-ends : (j : Job) → j.ops ≡ r.core.ops → j.waited ≤ j.wait → j.wait ≡ r.core.wait → turns_left j < turns_left r.core → Ends r (record r { core = j })
  wait-ends j same counted wait less = record {
    fewer = let e : (j.wait + 1) * ops_to_come r ≡ (r.core.wait + 1) * ops_to_come r = ap (λ x. (x + 1) * ops_to_come r) wait in omega (arith, less, e);
    calm = record { waited = counted; rests = λ h. let bad : [] ≡ o ∷ rest = sym h ∙ same ∙ is in cc };
  }

  -- another stage takes the place of one that isn't among the last
  goes-at : (s t : Stage) (ops : List Op) → r.stage ≡ s → closes s ≡ false → closes t ≡ false → length ops + ops_after t ≤ ops_after s → Ends r (working r t ops)
  goes-at s t ops at no-end wide room = record {
    fewer =
        let c = come-at r s at in
        let e = last-at r s no-end in
        let f = last-at r t wide in
        let few = behind-fewer r o rest is calm.waited in
        let a = turns-at-most (working r t ops) in
        let more = times-more (r.core.wait + 1) (ops_in (working r t ops)) (length rest + ops_to_come r) (omega (arith, c, e, f, room)) in
        omega (arith, a, few, more);
    calm = record { waited = omega arith; rests = λ h. wide };
  }

  -- beside, a replica may be lost
  loses-at : (n : ServerNo) (why : Why) (t : Stage) (ops : List Op) → Ends r (working r t ops) → Ends r (working (loses r n why) t ops)
  loses-at n why t ops e = record { fewer = e.fewer; calm = record { waited = e.calm.waited; rests = e.calm.rests } }

  bears-ends : (e : Bearing) → MayBear r.stage e → Ends r (borne r (fate_of e))
  bears-ends by.Drops may = go may
    where
      go : (r.stage ≡ stage.Check) ⊎ ((n : ServerNo) × ((r.stage ≡ stage.Expel n) ⊎ (r.stage ≡ stage.Release n))) → Ends r (working r stage.Idle [])
      go (inl at) = goes-at stage.Check stage.Idle [] at refl refl (omega arith)
      go (inr (n, inl at)) = goes-at (stage.Expel n) stage.Idle [] at refl refl (omega arith)
      go (inr (n, inr at)) = goes-at (stage.Release n) stage.Idle [] at refl refl (omega arith)
  bears-ends (by.Misses n why) may = loses-at n why stage.Idle [] (go may)
    where
      go : (r.stage ≡ stage.Drain n) ⊎ (((way : Way) × (r.stage ≡ stage.Move n way)) ⊎ ((p : ServerNo) × (r.stage ≡ stage.Join n p))) → Ends r (working r stage.Idle [])
      go (inl at) = goes-at (stage.Drain n) stage.Idle [] at refl refl (omega arith)
      go (inr (inl (way, at))) = goes-at (stage.Move n way) stage.Idle [] at refl refl (omega arith)
      go (inr (inr (p, at))) = goes-at (stage.Join n p) stage.Idle [] at refl refl (omega arith)
  bears-ends (by.Lets n why) may = loses-at n why (stage.Release n) (op.Start n ∷ []) (go may)
    where
      go : ((by' : Way) × (r.stage ≡ stage.Move n by') × (more_on by' ≡ 1)) ⊎ ((x : Bridge) × ((r.stage ≡ stage.Look n x) ⊎ (r.stage ≡ stage.Trail n x))) → Ends r (working r (stage.Release n) (op.Start n ∷ []))
      go (inl (by', at, more)) = goes-at (stage.Move n by') (stage.Release n) (op.Start n ∷ []) at refl refl (omega (arith, more))
      go (inr (x, inl at)) = goes-at (stage.Look n x) (stage.Release n) (op.Start n ∷ []) at refl refl (omega arith)
      go (inr (x, inr at)) = goes-at (stage.Trail n x) (stage.Release n) (op.Start n ∷ []) at refl refl (omega arith)
  bears-ends (by.Restarts p q) may = goes-at (stage.Level p q) (stage.Release q) (op.Start q ∷ []) may refl refl (omega arith)
  bears-ends (by.Returns p q) may = goes-at (stage.Swap p q) (stage.Return p q) (op.Cross cross.Back q p ∷ op.Start q ∷ []) may refl refl (omega arith)

  -- the operation is done
  module _ (j : Job) (left : j.ops ≡ rest) (counted : j.waited ≤ j.wait) (wait : j.wait ≡ r.core.wait) (fits : Fits r.stage (o ∷ rest)) where
    abbrev later : Recovery
    later = record r { core = j }

    record Stepped (x : Recovery) : Type 0 where
      core : x.core ≡ j
      come : ops_to_come x ≤ ops_to_come r

    moved-less : (s : Stage) → ops_after (moved s) ≤ ops_after s
    moved-less (stage.Drain n) = omega arith
    moved-less s = omega arith

    entered-steps : (closes r.stage ≡ true → closes (moved r.stage) ≡ true) → Stepped (entered later (moved r.stage))
    entered-steps stays = go (leaver (moved r.stage))
      where
        less : ops_at_end r.purpose (closes (moved r.stage)) r.swaps ≤ ops_at_end r.purpose (closes r.stage) r.swaps
        less = at (closes r.stage) refl
          where
            at : (c : Bool) → closes r.stage ≡ c → ops_at_end r.purpose (closes (moved r.stage)) r.swaps ≤ ops_at_end r.purpose (closes r.stage) r.swaps
            at true e = let z : ops_at_end r.purpose (closes (moved r.stage)) r.swaps ≡ 0 = ap (λ x. ops_at_end r.purpose x r.swaps) (stays e) in omega (arith, z)
            at false e = let z : ops_at_end r.purpose (closes r.stage) r.swaps ≡ ops_last r.purpose r.swaps = ap (λ x. ops_at_end r.purpose x r.swaps) e in
                let y = any (closes (moved r.stage)) in omega (arith, z, y)
              where
                any : (d : Bool) → ops_at_end r.purpose d r.swaps ≤ ops_last r.purpose r.swaps
                any true = omega arith
                any false = omega arith

        go : (k : Option ServerNo) → Stepped (record (follows_no_more later k) { stage = moved r.stage })
        go None = record { core = refl; come = let a = moved-less r.stage in omega (arith, a, less) }
        go (Some n) = record { core = refl; come = let a = moved-less r.stage in omega (arith, a, less) }

    stepped-steps : (o ∷ rest ≡ tail_of r.stage → closes r.stage ≡ true → closes (moved r.stage) ≡ true) → Stepped (stepped later o)
    stepped-steps stays = go (fits-step r.stage o rest fits)
      where
        go : ((ends r.stage (deed_of o) ≡ false) × Fits r.stage rest) ⊎ (o ∷ rest ≡ tail_of r.stage) → Stepped (stepped later o)
        go (inl p) = subst (λ (b : Bool). Stepped (cond b (entered later (moved r.stage)) later)) (sym p.0) (record { core = refl; come = omega arith })
        go (inr e) = subst (λ (b : Bool). Stepped (cond b (entered later (moved r.stage)) later)) (sym (moved-fits r.stage o rest e).0) (entered-steps (stays e))

    done-steps : (o ∷ rest ≡ tail_of r.stage → closes r.stage ≡ true → closes (moved r.stage) ≡ true) → Steps r (stepped later o)
    done-steps stays =
        let st = stepped-steps stays in
        let come = st.come in
        let long : length (stepped later o).core.ops ≡ length rest = ap (λ (k : Job). length k.ops) st.core ∙ ap length left in
        let few = behind-fewer r o rest is calm.waited in
        let more = times-more (r.core.wait + 1) (ops_in (stepped later o)) (length rest + ops_to_come r) (omega (arith, come, long)) in
        record {
          fewer = omega (arith, few, more);
          wait = ap (λ (k : Job). k.wait) st.core ∙ wait;
          waited = subst (λ (k : Job). k.waited ≤ k.wait) (sym st.core) counted;
          fits = stepped-fits r o rest j fits left;
        }

-- the last operation of the last stage ends the recovery
moved-shut : (w : World) (read : ℕ) (now : Moment) (j : Job) (s : Stage) (o : Op) (rest : List Op) → (ob : Option Observation) (es : List Exchange) (k : Job) → by_deed w read now j rest (deed_of o) ≡ attempt.Goes ob es k
    → o ∷ rest ≡ tail_of s → closes s ≡ true → closes (moved s) ≡ true
moved-shut w read now j (stage.Crown n) o rest ob es k goes e h = refl
moved-shut w read now j (stage.Open n) o rest ob es k goes e h = refl
moved-shut w read now j (stage.Close lines) o rest ob es k goes e h =
    let same : o ≡ op.Finish lines = same-head o (op.Finish lines) rest [] e in
    let bad : attempt.Ends lines ≡ attempt.Goes ob es k = sym (ap (λ x. by_deed w read now j rest (deed_of x)) same) ∙ goes in
    cc
moved-shut w read now j (stage.Opened n) o rest ob es k goes e h = refl
moved-shut w read now j s o rest ob es k goes e h = absurd (false≢true h)

-- after no more turns than before
then-ends : (r x y : Recovery) → NoMoreTurns r x → Ends x y → Ends r y
then-ends r x y m n = let a = m.turns in let c = n.fewer in record { fewer = omega (arith, a, c); calm = n.calm }

module _ (w : World) (b : BookState) (read : ℕ) (now : Moment) (first : Recovery) where
  abbrev Before : Recovery → Type 0
  Before r = IsFit r × NoMoreTurns first r

  decides-before : (r : Recovery) (d : Decision) → MayDecide (ground_of w b now) r d → Before r → Before (decided_by (ground_of w b now) r d)
  decides-before r d may h =
      let n = by-ops r (decided_by (ground_of w b now) r d) (decides-idle w b now r d may) (decides-ends w b now r d may h.1.calm) in
      let one = h.1.turns in
      let other = n.turns in
      (decides-fits w b now r d may h.0, record { turns = omega (arith, one, other); wait = n.wait ∙ h.1.wait; calm = n.calm })

  moves : (r : Recovery) (o : Op) (rest : List Op) (ob : Option Observation) (es : List Exchange) (j : Job) → Does w read now r o rest ob es j → IsCalm r → MovesOn r.core (going ob es j)
  moves r o rest ob es j did calm =
      subst (λ (a : Attempt). MovesOn r.core (attempt.settled r.core a)) did.goes
      (subst (λ (ops : List Op). MovesOn r.core (attempt.settled r.core (attempt.by_ops w read now r.core ops))) did.ops (turn-moves w read now r.core calm.waited))

  waits-ends : (r : Recovery) (o : Op) (rest : List Op) (ob : Option Observation) (es : List Exchange) (j : Job) → Does w read now r o rest ob es j → is_waiting j ≡ true → Before r → Ends first (record r { core = j })
  waits-ends r o rest ob es j did e h =
      let m = moves r o rest ob es j did h.1.calm in
      let same = ((went-of w read now r o rest ob es j did).waits e).0 in
      then-ends first r (record r { core = j }) h.1 (wait-ends r o rest did.ops h.1.calm j same m.waited m.wait (m.fewer refl))

  acts-steps : (r : Recovery) (o : Op) (rest : List Op) (ob : Option Observation) (es : List Exchange) (j : Job) → Does w read now r o rest ob es j → is_waiting j ≡ false → Before r
      → Steps first (stepped (record r { core = j }) o)
  acts-steps r o rest ob es j did e h =
      let m = moves r o rest ob es j did h.1.calm in
      let left = (went-of w read now r o rest ob es j did).done e in
      let fits = subst (λ (ops : List Op). Fits r.stage ops) did.ops h.0 in
      let st = done-steps r o rest did.ops h.1.calm j left m.waited m.wait fits (moved-shut w read now r.core r.stage o rest ob es j did.goes) in
      let few = st.fewer in
      let no-more = h.1.turns in
      let same : (r.core.wait + 1) * ops_in (stepped (record r { core = j }) o) ≡ (first.core.wait + 1) * ops_in (stepped (record r { core = j }) o) =
      ap (λ k. (k + 1) * ops_in (stepped (record r { core = j }) o)) h.1.wait in
      record { fewer = omega (arith, few, no-more, same); wait = st.wait ∙ h.1.wait; waited = st.waited; fits = st.fits }

  continues-ends : (r : Recovery) (x : Op) (xs : List Op) → r.core.ops ≡ x ∷ xs → Steps first r → Ends first r
  continues-ends r x xs is st = steps-end first r r st (omega arith) refl (record { waited = st.waited; rests = λ h. let bad : [] ≡ x ∷ xs = sym h ∙ is in cc })

  completed-ends : (r : Recovery) (e : Ending) → r.core.ops ≡ [] → MayEnd r e → Steps first r → Ends first (ended_by r e)
  completed-ends r e none may st =
      let c = completes-ends r none e may st.fits in
      let within = c.ops in
      steps-end first r (ended_by r e) st (omega (arith, within)) c.wait (record { waited = c.waited st.waited; rests = c.rests })

  keeps-ends : Keeps w b read now Before (λ v r. Steps first r) (λ v r. Ends first r)
  keeps-ends = record {
    decides = decides-before;
    waits = waits-ends;
    acts = acts-steps;
    continues = λ v r x xs is st. continues-ends r x xs is st;
    completes = λ v r e none may st. completed-ends r e none may st;
    bears = λ r o rest c ob e stops is may h. then-ends first r (borne r (fate_of e)) h.1 (bears-ends r o rest stops.ops h.1.calm e may);
  }

taken-both : (w : World) (b : BookState) (read : ℕ) (now : Moment) (r : Recovery) → IsShaped r → is_going (taken w b read now r).step ≡ true → Ends r (taken w b read now r).recovery
taken-both w b read now r shaped =
    kept-along w b read now (Before w b read now r) (λ v x. Steps r x) (λ v x. Ends r x) (keeps-ends w b read now r) r
    (shaped.fits, record { turns = omega arith; wait = refl; calm = shaped.calm })

pub taken-ends : (w : World) (b : BookState) (read : ℕ) (now : Moment) (r : Recovery) → IsShaped r → is_going (taken w b read now r).step ≡ true
    → turns_to_end (taken w b read now r).recovery < turns_to_end r
taken-ends w b read now r shaped g = (taken-both w b read now r shaped g).fewer

pub taken-shaped : (w : World) (b : BookState) (read : ℕ) (now : Moment) (r : Recovery) → IsShaped r → is_going (taken w b read now r).step ≡ true
    → IsShaped (taken w b read now r).recovery
taken-shaped w b read now r shaped g = record { fits = taken-fits w b read now r shaped.fits g; calm = (taken-both w b read now r shaped g).calm }

begun-calm : (u : Purpose) (by : Means) (id wait : ℕ) (f : ServerNo) (ns order : List ServerNo) → IsCalm (begun_recovery u by id wait f ns order)
begun-calm u by id wait f ns order = record { waited = omega arith; rests = λ h. go u }
  where
    go : (v : Purpose) → closes (first_stage v f) ≡ false
    go purpose.Regroup = refl
    go _ = refl

pub begun-shaped : (u : Purpose) (by : Means) (id wait : ℕ) (f : ServerNo) (ns order : List ServerNo) → IsShaped (begun_recovery u by id wait f ns order)
begun-shaped u by id wait f ns order = record { fits = begun-fits u f; calm = begun-calm u by id wait f ns order }
