-- The turns of a job, one after another.
use Rattle.std.proofs.Common.{◌≡◌, ℕ, ◌+◌, ◌-◌, ◌≤◌, ◌<◌, true, false, List, [], ◌∷◌, ◌++◌, length, refl, sym, ◌∙◌, ap, subst, Option, Some, ◌⊎◌, inl, inr, arith}
use Rattle.cause_laws.proofs.Prelude.{AllFree, AllGoing, AllWait, AreSpent, Befell, Cause, Deed, Done, Ended, IsDoneIn, IsShort, IsSpent, IsTaken}
use Rattle.cause_laws.proofs.Prelude.{IsWait, IsWaited, Job, Line, Meeting, Moment, MovesOn, Observation, Op, ServerNo, Stopped, Stops, Turned}
use Rattle.cause_laws.proofs.Prelude.{Waited, World, by_deed, by_ops, deed_of, fails_when_spent, false≢true, finished, is_finish, is_going, job_after}
use Rattle.cause_laws.proofs.Prelude.{lines_by, lines_of, list_any, or_parts, same_Some, settled, speaks_with, turn-moves, turn_at, turned}
use Rattle.cause_laws.proofs.Prelude.{turns_left}
use Rattle.cause_laws.proofs.Prelude.cause
use Rattle.cause_laws.proofs.Prelude.deed
use Rattle.cause_laws.proofs.Prelude.step
use Rattle.cause_laws.proofs.Taking.{deed-taken}

-- ---- one turn

pub turn-taken : (w : World) (read : ℕ) (now : Moment) (j : Job) (op : Op) (rest : List Op) → j.ops ≡ op ∷ rest → IsTaken w j rest (deed_of op) (turned w read now j)
turn-taken w read now j op rest is = subst (λ ops. IsTaken w j rest (deed_of op) (settled j (by_ops w read now j ops))) (sym is) (deed-taken w read now j rest (deed_of op))

pub turn-idle : (w : World) (read : ℕ) (now : Moment) (j : Job) → j.ops ≡ [] → (turned w read now j).step ≡ step.Done []
turn-idle w read now j is = ap (λ ops. (settled j (by_ops w read now j ops)).step) is

pub failed-befell : (w : World) (j : Job) (rest : List Op) (d : Deed) (t : Turned) (c : Cause) (lines : List Line) → IsTaken w j rest d t → t.step ≡ step.Failed c lines → Befell w j d c
failed-befell w j rest d t c lines (Done h) e = let going = h.going in cc
failed-befell w j rest d t c lines (Waited h) e = let going = h.going in cc
failed-befell w j rest d t c lines (Ended h) e = let done = h.done in cc
failed-befell w j rest d t c lines (Stopped h) e = let failed = h.failed in let same : h.cause ≡ c = cc in subst (Befell w j d) same h.befell

pub stopped-befell : (w : World) (read : ℕ) (now : Moment) (j : Job) (rest : List Op) (d : Deed) (c : Cause) (o : Option Observation) → by_deed w read now j rest d ≡ Stops c o → Befell w j d c
stopped-befell w read now j rest d c o e = failed-befell w j rest d (settled j (by_deed w read now j rest d)) c [] (deed-taken w read now j rest d) (ap (λ a. (settled j a).step) e)

-- ---- waits

-- each of the turns is one more wait
abbrev IsOneMore : Job → Meeting → Type 0
IsOneMore j m = (op : Op) × (rest : List Op) × (j.ops ≡ op ∷ rest) × IsWaited m.world j (deed_of op) (turn_at j m)

abbrev AllMore : Job → List Meeting → Type 0
AllMore j [] = Unit {0}
AllMore j (m ∷ ms) = IsOneMore j m × AllMore (turn_at j m).job ms

record MoreWaits (j : Job) (ms : List Meeting) : Type 0 where
  pub ops : (job_after j ms).ops ≡ j.ops
  pub waited : (job_after j ms).waited ≡ j.waited + length ms
  pub wait : (job_after j ms).wait ≡ j.wait
  pub less : (length ms ≡ 0) ⊎ ((job_after j ms).waited < j.wait)

more-waits : (j : Job) (ms : List Meeting) → AllMore j ms → MoreWaits j ms
more-waits j [] all = record { ops = refl; waited = omega arith; wait = refl; less = inl refl }
more-waits j (m ∷ ms) all =
    let one = all.0.3 in
    let rest = more-waits (turn_at j m).job ms all.1 in
    let first : (turn_at j m).job.waited ≡ j.waited + 1 = one.waited in
    let count : (job_after (turn_at j m).job ms).waited ≡ (turn_at j m).job.waited + length ms = rest.waited in
    record {
      ops = rest.ops ∙ one.left;
      waited = omega (arith, first, count);
      wait = rest.wait ∙ one.wait;
      less = inr (by rest.less one.more first one.wait count);
    }
  where
    by : (length ms ≡ 0) ⊎ ((job_after (turn_at j m).job ms).waited < (turn_at j m).job.wait) → j.waited + 1 < j.wait → (turn_at j m).job.waited ≡ j.waited + 1
        → (turn_at j m).job.wait ≡ j.wait → (job_after (turn_at j m).job ms).waited ≡ (turn_at j m).job.waited + length ms → (job_after (turn_at j m).job ms).waited < j.wait
    by (inl none) more first same count = omega (arith, none, more, first, count)
    by (inr less) more first same count = omega (arith, less, same)

-- the turns end with the waits of one operation
record Trail (j : Job) (ms : List Meeting) : Type 0 where
  pub before : List Meeting
  pub waits : List Meeting
  pub split : ms ≡ before ++ waits
  pub first : (job_after j before).waited ≡ 0
  pub each : AllMore (job_after j before) waits
  pub same : (job_after j before).wait ≡ j.wait

job-append : (j : Job) (ms ns : List Meeting) → job_after j (ms ++ ns) ≡ job_after (job_after j ms) ns
job-append j [] ns = refl
job-append j (m ∷ ms) ns = job-append (turn_at j m).job ms ns

trail-behind : (j : Job) (m : Meeting) (ms : List Meeting) → (turn_at j m).job.wait ≡ j.wait → Trail (turn_at j m).job ms → Trail j (m ∷ ms)
trail-behind j m ms same t = record { before = m ∷ t.before; waits = t.waits; split = ap (λ xs. m ∷ xs) t.split; first = t.first; each = t.each; same = t.same ∙ same }

trail : (j : Job) (ms : List Meeting) → AllGoing j ms → AllMore j ms ⊎ Trail j ms
trail j [] going = inl tt
trail j (m ∷ ms) going = go j.ops refl (trail (turn_at j m).job ms going.1)
  where
    by : (op : Op) (rest : List Op) → j.ops ≡ op ∷ rest → IsTaken m.world j rest (deed_of op) (turn_at j m) → AllMore (turn_at j m).job ms ⊎ Trail (turn_at j m).job ms → AllMore j (m ∷ ms) ⊎ Trail j (m ∷ ms)
    by op rest is (Done h) (inl all) = inr (record { before = m ∷ []; waits = ms; split = refl; first = h.waited; each = all; same = h.wait })
    by op rest is (Done h) (inr t) = inr (trail-behind j m ms h.wait t)
    by op rest is (Waited h) (inl all) = inl ((op, rest, is, h), all)
    by op rest is (Waited h) (inr t) = inr (trail-behind j m ms h.wait t)
    by op rest is (Ended h) later = let done = h.done in let first = going.0 in cc
    by op rest is (Stopped h) later = let failed = h.failed in let first = going.0 in cc

    go : (ops : List Op) → j.ops ≡ ops → AllMore (turn_at j m).job ms ⊎ Trail (turn_at j m).job ms → AllMore j (m ∷ ms) ⊎ Trail j (m ∷ ms)
    go [] is later = let done = turn-idle m.world m.read m.now j is in let first = going.0 in cc
    go (op ∷ rest) is later = by op rest is (turn-taken m.world m.read m.now j op rest is) later

trail-of : (j : Job) (ms : List Meeting) → j.waited ≡ 0 → AllMore j ms ⊎ Trail j ms → Trail j ms
trail-of j ms none (inl all) = record { before = []; waits = ms; split = refl; first = none; each = all; same = refl }
trail-of j ms none (inr t) = t

-- an operation that waits speaks with one server, whatever the world
one-spoken : (w v : World) (j k : Job) (d : Deed) (m n : ServerNo) → fails_when_spent d ≡ true → speaks_with w j d ≡ Some m → speaks_with v k d ≡ Some n → m ≡ n
one-spoken w v j k (deed.Await a to) m n h e f = sym (same_Some a m e) ∙ same_Some a n f
one-spoken w v j k (deed.AwaitSet a b) m n h e f = sym (same_Some a m e) ∙ same_Some a n f
one-spoken w v j k _ m n h e f = absurd (false≢true h)

same-first : (op k : Op) (rest ops : List Op) → op ∷ rest ≡ k ∷ ops → op ≡ k
same-first op k rest ops e = cc

module _ (v : World) (k : Job) (op : Op) (rest : List Op) (n : ServerNo) (fails : fails_when_spent (deed_of op) ≡ true) (spoken : speaks_with v k (deed_of op) ≡ Some n) where
  all-wait : (j : Job) (ms : List Meeting) → j.ops ≡ op ∷ rest → AllMore j ms → AllWait op n j ms
  all-wait j [] is all = tt
  all-wait j (m ∷ ms) is all = (one all.0, all-wait (turn_at j m).job ms (all.0.3.left ∙ is) all.1)
    where
      one : IsOneMore j m → IsWait op n j m
      one h =
          let same : h.0 ≡ op = same-first h.0 op h.1 rest (sym h.2 ∙ is) in
          let short = subst (λ (x : Op). IsShort m.world j (deed_of x) h.3.server) same h.3.short in
          let who : h.3.server ≡ n = one-spoken m.world v j k (deed_of op) h.3.server n fails short.spoken spoken in
          record { rest = rest; due = is; short = subst (λ (x : ServerNo). IsShort m.world j (deed_of op) x) who short; again = h.3.left }

pub spent-last : (j : Job) (ms : List Meeting) (m : Meeting) (n : ServerNo) (lines : List Line) → j.waited ≡ 0 → AllGoing j ms
    → (turn_at (job_after j ms) m).step ≡ step.Failed (cause.WaitSpent n) lines → AreSpent j ms n
spent-last j ms m n lines none going e = go (job_after j ms).ops refl
  where
    t : Trail j ms
    t = trail-of j ms none (trail j ms going)

    last : job_after j ms ≡ job_after (job_after j t.before) t.waits
    last = ap (job_after j) t.split ∙ job-append j t.before t.waits

    counted : MoreWaits (job_after j t.before) t.waits
    counted = more-waits (job_after j t.before) t.waits t.each

    by : (op : Op) (rest : List Op) → (job_after j ms).ops ≡ op ∷ rest → IsSpent m.world (job_after j ms) (deed_of op) n → AreSpent j ms n
    by op rest is h = record {
      before = t.before;
      waits = t.waits;
      op = op;
      split = t.split;
      first = t.first;
      each = all-wait m.world (job_after j ms) op rest n h.fails h.short.spoken (job_after j t.before) t.waits (sym counted.ops ∙ (ap (λ (k : Job). k.ops) (sym last) ∙ is)) t.each;
      all = many counted.less;
    }
      where
        waited : (job_after j ms).waited ≡ length t.waits
        waited =
            let a : (job_after j ms).waited ≡ (job_after (job_after j t.before) t.waits).waited = ap (λ (k : Job). k.waited) last in
            let b = counted.waited in
            let c = t.first in
            omega (arith, a, b, c)

        wait : (job_after j ms).wait ≡ j.wait
        wait = ap (λ (k : Job). k.wait) last ∙ (counted.wait ∙ t.same)

        many : (length t.waits ≡ 0) ⊎ ((job_after (job_after j t.before) t.waits).waited < (job_after j t.before).wait) → length t.waits ≡ j.wait - 1
        many (inl none) = let spent = h.last in omega (arith, none, spent, wait, waited)
        many (inr less) =
            let a : (job_after j ms).waited ≡ (job_after (job_after j t.before) t.waits).waited = ap (λ (k : Job). k.waited) last in
            let b : (job_after j t.before).wait ≡ j.wait = t.same in
            let spent = h.last in
            omega (arith, less, a, b, spent, wait, waited)

    go : (ops : List Op) → (job_after j ms).ops ≡ ops → AreSpent j ms n
    go [] is = let done = turn-idle m.world m.read m.now (job_after j ms) is in cc
    go (op ∷ rest) is =
        by op rest is (failed-befell m.world (job_after j ms) rest (deed_of op) (turn_at (job_after j ms) m) (cause.WaitSpent n) lines
        (turn-taken m.world m.read m.now (job_after j ms) op rest is) e)

-- ---- the end

later-lines : (w : World) (read : ℕ) (now : Moment) (j : Job) (rest : List Op) (d : Deed) (lines : List Line) → (settled j (by_deed w read now j rest d)).step ≡ step.Going → lines_by d lines ≡ lines
later-lines w read now j rest (deed.Finish ls) lines e = cc
later-lines w read now j rest _ lines e = refl

done-behind : (j : Job) (m : Meeting) (ms : List Meeting) → (turn_at j m).step ≡ step.Going → lines_of (turn_at j m).job.ops ≡ lines_of j.ops → IsDoneIn (turn_at j m).job ms → IsDoneIn j (m ∷ ms)
done-behind j m ms going same d = record {
  before = m ∷ d.before;
  last = d.last;
  behind = d.behind;
  split = ap (λ xs. m ∷ xs) d.split;
  going = (going, d.going);
  done = d.done ∙ ap step.Done same;
}

done-now : (j : Job) (m : Meeting) (ms : List Meeting) → (turn_at j m).step ≡ step.Done (lines_of j.ops) → IsDoneIn j (m ∷ ms)
done-now j m ms done = record { before = []; last = m; behind = ms; split = refl; going = tt; done = done }

pub undisturbed-done : (j : Job) (ms : List Meeting) → j.waited ≤ j.wait → turns_left j < length ms → AllFree j ms → IsDoneIn j ms
undisturbed-done j [] counted few free = absurd (omega (arith, few))
undisturbed-done j (m ∷ ms) counted few free = go j.ops refl (λ going. undisturbed-done (turn_at j m).job ms moved.waited (fewer going) (free.1 going))
  where
    moved : MovesOn j (turn_at j m)
    moved = turn-moves m.world m.read m.now j counted

    fewer : (turn_at j m).step ≡ step.Going → turns_left (turn_at j m).job < length ms
    fewer going = let less : turns_left (turn_at j m).job < turns_left j = moved.fewer (ap is_going going) in omega (arith, less, few)

    by : (op : Op) (rest : List Op) → j.ops ≡ op ∷ rest → IsTaken m.world j rest (deed_of op) (turn_at j m) → ((turn_at j m).step ≡ step.Going → IsDoneIn (turn_at j m).job ms) → IsDoneIn j (m ∷ ms)
    by op rest is (Done h) later =
        let at : (settled j (by_deed m.world m.read m.now j rest (deed_of op))).step ≡ step.Going =
        sym (ap (λ ops. (settled j (by_ops m.world m.read m.now j ops)).step) is) ∙ h.going in
        done-behind j m ms h.going (ap lines_of h.left ∙ (sym (later-lines m.world m.read m.now j rest (deed_of op) (lines_of rest) at) ∙ sym (ap lines_of is))) (later h.going)
    by op rest is (Waited h) later = done-behind j m ms h.going (ap lines_of h.left) (later h.going)
    by op rest is (Ended h) later = done-now j m ms (h.done ∙ ap step.Done (sym (ap lines_of is ∙ ap (λ d. lines_by d (lines_of rest)) h.finish)))
    by op rest is (Stopped h) later = absurd (free.0 op rest h.cause is h.befell)

    go : (ops : List Op) → j.ops ≡ ops → ((turn_at j m).step ≡ step.Going → IsDoneIn (turn_at j m).job ms) → IsDoneIn j (m ∷ ms)
    go [] is later = done-now j m ms (turn-idle m.world m.read m.now j is ∙ ap step.Done (sym (ap lines_of is)))
    go (op ∷ rest) is later = by op rest is (turn-taken m.world m.read m.now j op rest is) later

no-finish : (d : Deed) (lines : List Line) → is_finish d ≡ false → lines_by d lines ≡ lines
no-finish (deed.Finish ls) lines e = absurd (false≢true (sym e))
no-finish _ lines e = refl

pub finished-lines : (ops : List Op) (lines : List Line) → list_any (λ op. is_finish (deed_of op)) ops ≡ false → lines_of (finished ops lines) ≡ lines
finished-lines [] lines none = refl
finished-lines (op ∷ ops) lines none =
    let parts = or_parts (is_finish (deed_of op)) (list_any (λ op. is_finish (deed_of op)) ops) none in
    no-finish (deed_of op) (lines_of (finished ops lines)) parts.0 ∙ finished-lines ops lines parts.1
