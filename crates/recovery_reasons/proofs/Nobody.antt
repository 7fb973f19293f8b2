-- If no operation is left after a turn's decisions, one of them found nobody.
use Rattle.std.proofs.Common.{◌≡◌, ℕ, ◌+◌, ◌≤◌, ◌<◌, suc, Bool, true, false, List, [], ◌∷◌, ◌++◌, map, filter, refl, sym, ◌∙◌, ap, subst, Option, Some, None, ◌⊎◌, inl, inr, arith, is_some}
use Rattle.recovery_reasons.proofs.Prelude.{BookState, Bridge, Contains, Decision, Decisions, DecisionsElse, HasNobody, IsGathering, IsNext, IsOnWay, KnowsLead, MayDecide}
use Rattle.recovery_reasons.proofs.Prelude.{Moment, Op, Purpose, Recovery, ServerNo, Stopped, Task, Way, World, at_last, better_of, by_queue, by_task}
use Rattle.recovery_reasons.proofs.Prelude.{choose, chooses, chosen_of, crown, decided, decided-walks, decided_by, decisions-keep, expels, false≢true}
use Rattle.recovery_reasons.proofs.Prelude.{finds_nobody, follows_lead, ground_of, hand, hand_by, hand_over, is_takeover, look_at, loses, lot_by, moves_in, once}
use Rattle.recovery_reasons.proofs.Prelude.{once-walks, pauses_in, pauses_last, rejoin, releases, swap, swap_by, swap_or_crown, way_below, why_of}
use Rattle.recovery_reasons.proofs.Prelude.{suits, without_stopped, yield}
use Rattle.recovery_reasons.proofs.Prelude.by as move
use Rattle.recovery_reasons.proofs.Prelude.lost
use Rattle.recovery_reasons.proofs.Prelude.nobody
use Rattle.recovery_reasons.proofs.Prelude.purpose
use Rattle.recovery_reasons.proofs.Prelude.task
use Rattle.recovery_reasons.proofs.Gathering.{decided-purpose, decides-knows, not-gathering}
use Rattle.recovery_reasons.proofs.OnWay.{Fine, IsStuck, beside-apart, decides-fine, decides-lost, decides-stuck, decides-way, none-in, not-stuck, suit-here}
use Rattle.recovery_reasons.proofs.Tasks.{busy-map, busy-moves, meeting_in, pauses-append, some-op, to-yield}
use Rattle.recovery_reasons.proofs.Choosing.{none-may}

abbrev pauses_of : Recovery → ℕ
pauses_of r = pauses_in r.queue + pauses_last r.purpose r.swaps

last-some : (u : Purpose) (swaps : Bool) → 1 ≤ pauses_last u swaps
last-some purpose.Master true = omega arith
last-some _ _ = omega arith

module _ (w : World) (b : BookState) (now : Moment) where
  else-way : {r s : Recovery} → DecisionsElse w b now r s → IsOnWay r → IsOnWay s
  else-way nobody.Still way = way
  else-way (nobody.Then {r} d may not rest) way = else-way rest (decides-way w b now r way d may not)

  behind : (r d : Recovery) (x : Decision) → MayDecide (ground_of w b now) r x → finds_nobody x ≡ false → HasNobody w b now (decided_by (ground_of w b now) r x) d → HasNobody w b now r d
  behind r d x may else y = record {
    choosing = ap chooses (sym (decided-purpose w b now r x)) ∙ y.choosing;
    at = y.at;
    left = y.left;
    before = nobody.Then x may else y.before;
    next = y.next;
    none = y.none;
    later = y.later;
  }

  -- the position at which the designated one stopped is known
  unstuck : (r : Recovery) (t : Task) (ts : List Task) → IsOnWay r → KnowsLead r → IsNext r t ts → follows_lead t ≡ true → r.lead ≡ None → ⊥
  unstuck r t ts way knows next follows none = go (knows (takes-over t follows (suit-here w b now r way t ts next)))
    where
      takes-over : (k : Task) → follows_lead k ≡ true → suits r.purpose k ≡ true → is_takeover r.purpose ≡ true
      takes-over (task.Trailing n) f suit = ap is_takeover (beside-apart r.purpose n suit).1
      takes-over task.Yielding f suit = suit
      takes-over k f suit = absurd (false≢true f)

      go : IsGathering r.stage ⊎ (is_some r.lead ≡ true) → ⊥
      go (inl g) = not-gathering r.stage (ap meeting_in (way.rests next.rests)) g
      go (inr e) = false≢true (sym (ap is_some none) ∙ e)

  -- one of the decisions finds nobody, or none does
  sorted : {r d : Recovery} → Decisions (ground_of w b now) r d → IsOnWay r → KnowsLead r → HasNobody w b now r d ⊎ DecisionsElse w b now r d
  sorted move.Still way knows = inr nobody.Still
  sorted (move.Then {r} {s} x may rest) way knows = go x may rest (λ else. sorted rest (decides-way w b now r way x may else) (decides-knows w b now r x may (inl way) knows))
    where
      go : (x : Decision) → MayDecide (ground_of w b now) r x → Decisions (ground_of w b now) (decided_by (ground_of w b now) r x) s
          → (finds_nobody x ≡ false → HasNobody w b now (decided_by (ground_of w b now) r x) s ⊎ DecisionsElse w b now (decided_by (ground_of w b now) r x) s)
          → HasNobody w b now r s ⊎ DecisionsElse w b now r s
      go (move.Sticks t ts) h rest later = absurd (unstuck r t ts way knows h.0 h.1 h.2)
      go (move.ChoosesNobody ts) h rest later = inl (record {
        choosing = suit-here w b now r way task.Choosing ts h.0;
        at = r;
        left = ts;
        before = nobody.Still;
        next = h.0;
        none = none-may w b now r.failed r.drained h.1;
        later = rest;
      })
      go x h rest later = by-rest (later refl)
        where
          by-rest : HasNobody w b now (decided_by (ground_of w b now) r x) s ⊎ DecisionsElse w b now (decided_by (ground_of w b now) r x) s → HasNobody w b now r s ⊎ DecisionsElse w b now r s
          by-rest (inl y) = inl (behind r s x h refl y)
          by-rest (inr y) = inr (nobody.Then x h refl y)

  -- ---- one decision

  -- all are handed over, or one goes some way
  hand-pauses : (k : ServerNo) (ds : List Stopped) (x : Recovery) → (hand (ground_of w b now) k x ds).core.ops ≡ [] → pauses_of (hand (ground_of w b now) k x ds) ≡ pauses_of x
  hand-pauses k [] x none = refl
  hand-pauses k (d ∷ ds) x none = go (way_below (ground_of w b now) x.core.seen x.failed k d) none (hand-pauses k ds (loses x d.no (lost.behind d.exec)))
    where
      go : (o : Option Way) → (hand_by x d ds o (hand (ground_of w b now) k (loses x d.no (lost.behind d.exec)) ds)).core.ops ≡ []
          → ((hand (ground_of w b now) k (loses x d.no (lost.behind d.exec)) ds).core.ops ≡ [] → pauses_of (hand (ground_of w b now) k (loses x d.no (lost.behind d.exec)) ds) ≡ pauses_of x)
          → pauses_of (hand_by x d ds o (hand (ground_of w b now) k (loses x d.no (lost.behind d.exec)) ds)) ≡ pauses_of x
      go None h rest = rest h
      go (Some by) h rest = absurd (some-op d.no by h)

  module _ (r : Recovery) (way : IsOnWay r) (none : r.core.ops ≡ []) where
    -- nobody is found, or fewer decisions without an operation are to come
    abbrev Less : Recovery → Type 0
    Less x = IsStuck x ⊎ (pauses_of x < pauses_of r)

    -- nothing is left to do
    module _ (empty : r.queue ≡ []) where
      none-here : (t : Task) → Contains r.queue t → ⊥
      none-here t c = none-in t (subst (λ (ts : List Task). Contains ts t) empty c)

      rejoins : r.purpose ≡ purpose.Regroup → (o : Option ServerNo) → r.chosen ≡ o → (rejoin r o).core.ops ≡ [] → Less (rejoin r o)
      rejoins is None e h = absurd (none-here task.Choosing (way.course.tasks.chosen (ap chooses is) e))
      rejoins is (Some p) e h = cc

      crowns : r.purpose ≡ purpose.Master → (o : Option ServerNo) → r.chosen ≡ o → (crown r o).core.ops ≡ [] → Less (crown r o)
      crowns is None e h = absurd (none-here task.Choosing (way.course.tasks.chosen (ap chooses is) e))
      crowns is (Some p) e h = cc

      less-swaps : r.purpose ≡ purpose.Master → r.swaps ≡ true → pauses_of (record r { swaps = false }) < pauses_of r
      less-swaps is swaps =
          let one : pauses_last r.purpose false ≡ 1 = ap (λ (u : Purpose). pauses_last u false) is in
          let two : pauses_last r.purpose r.swaps ≡ 2 = ap (λ (u : Purpose). pauses_last u r.swaps) is ∙ ap (pauses_last purpose.Master) swaps in
          omega (arith, one, two)

      swaps-now : r.purpose ≡ purpose.Master → r.swaps ≡ true → (o : Option ServerNo) → r.chosen ≡ o → (swap (ground_of w b now) (record r { swaps = false }) o).core.ops ≡ []
          → Less (swap (ground_of w b now) (record r { swaps = false }) o)
      swaps-now is swaps None e h = absurd (none-here task.Choosing (way.course.tasks.chosen (ap chooses is) e))
      swaps-now is swaps (Some p) e h = go (better_of (ground_of w b now) r.failed p (map (λ x. x.no) r.outcome.followers)) h
        where
          go : (o : Option ServerNo) → (swap_by (record r { swaps = false }) p o).core.ops ≡ [] → Less (swap_by (record r { swaps = false }) p o)
          go None f = inr (less-swaps is swaps)
          go (Some q) f = cc

      master-now : r.purpose ≡ purpose.Master → (a : Bool) → r.swaps ≡ a → (swap_or_crown (ground_of w b now) r a).core.ops ≡ [] → Less (swap_or_crown (ground_of w b now) r a)
      master-now is true e h = swaps-now is e r.chosen refl h
      master-now is false e h = crowns is r.chosen refl h

      last-now : (u : Purpose) → r.purpose ≡ u → (at_last (ground_of w b now) r u).core.ops ≡ [] → Less (at_last (ground_of w b now) r u)
      last-now purpose.Regroup is h = rejoins is r.chosen refl h
      last-now purpose.Master is h = master-now is r.swaps refl h
      last-now (purpose.Intermediate s) is h = cc
      last-now (purpose.Takeover d) is h =
          absurd (none-here task.Yielding (to-yield r.purpose r.chosen r.swaps r.stage r.queue way.course.tasks (way.rests none) (ap is_takeover is)))

    -- the next task
    module _ (t : Task) (ts : List Task) (queue : r.queue ≡ t ∷ ts) where
      next : IsNext r t ts
      next = record { rests = none; queue = queue }

      sum : pauses_in r.queue ≡ pauses_in (t ∷ ts)
      sum = ap pauses_in queue

    choosing-now : (ts : List Task) → r.queue ≡ task.Choosing ∷ ts → (o : Option Stopped) → chosen_of (ground_of w b now) r.failed r.drained ≡ o → Less (choose (ground_of w b now) (record r { queue = ts }) o)
    choosing-now ts queue None e = inl (decides-lost w b now r way (move.ChoosesNobody ts) (next task.Choosing ts queue, e) refl)
    choosing-now ts queue (Some p) e =
        let all = sum task.Choosing ts queue in
        let moves = moves_in (lot_by r.means (ground_of w b now) r.failed p) (without_stopped r.drained p.no) in
        let calm = (busy-moves r.purpose (lot_by r.means (ground_of w b now) r.failed p) (without_stopped r.drained p.no)).none in
        let more = pauses-append moves ts in
        inr (omega (arith, all, calm, more))

    looking-now : (n : ServerNo) (ts : List Task) → r.queue ≡ task.Trailing n ∷ ts → (o : Option Bridge) → r.lead ≡ o → (look_at (record r { queue = ts }) n o).core.ops ≡ []
        → Less (look_at (record r { queue = ts }) n o)
    looking-now n ts queue None e h = inl (decides-lost w b now r way (move.Sticks (task.Trailing n) ts) (next (task.Trailing n) ts queue, refl, e) refl)
    looking-now n ts queue (Some x) e h = cc

    yielding-now : (ts : List Task) → r.queue ≡ task.Yielding ∷ ts → (o : Option Bridge) → r.lead ≡ o → (yield (record r { queue = ts }) o).core.ops ≡ [] → Less (yield (record r { queue = ts }) o)
    yielding-now ts queue None e h = inl (decides-lost w b now r way (move.Sticks task.Yielding ts) (next task.Yielding ts queue, refl, e) refl)
    yielding-now ts queue (Some x) e h = cc

    handing-now : (ts : List Task) → r.queue ≡ task.Handing ∷ ts → (o : Option ServerNo) → (hand_over (ground_of w b now) (record r { queue = ts }) o).core.ops ≡ [] → Less (hand_over (ground_of w b now) (record r { queue = ts }) o)
    handing-now ts queue None h = let all = sum task.Handing ts queue in inr (omega (arith, all))
    handing-now ts queue (Some k) h =
        let all = sum task.Handing ts queue in
        let same = hand-pauses k r.drained (record r { queue = ts }) h in
        inr (omega (arith, all, same))

    sorting-now : (ts : List Task) → r.queue ≡ task.Sorting ∷ ts → Less (by_task (ground_of w b now) (record r { queue = ts }) task.Sorting)
    sorting-now ts queue =
        let all = sum task.Sorting ts queue in
        let out = map task.Expelling (filter (λ n. expels r.purpose (why_of r.outcome.lost n)) r.replicas) in
        let free = map task.Releasing (filter (λ n. releases r.purpose (why_of r.outcome.lost n)) r.replicas) in
        let a = (busy-map r.purpose task.Expelling (λ n. refl) (λ n. refl) (filter (λ n. expels r.purpose (why_of r.outcome.lost n)) r.replicas)).none in
        let c = (busy-map r.purpose task.Releasing (λ n. refl) (λ n. refl) (filter (λ n. releases r.purpose (why_of r.outcome.lost n)) r.replicas)).none in
        let d = pauses-append out (free ++ ts) in
        let e = pauses-append free ts in
        inr (omega (arith, all, a, c, d, e))

    task-now : (t : Task) (ts : List Task) → r.queue ≡ t ∷ ts → (by_task (ground_of w b now) (record r { queue = ts }) t).core.ops ≡ [] → Less (by_task (ground_of w b now) (record r { queue = ts }) t)
    task-now task.Choosing ts queue h = choosing-now ts queue (chosen_of (ground_of w b now) r.failed r.drained) refl
    task-now task.Handing ts queue h = handing-now ts queue r.chosen h
    task-now (task.Moving n by) ts queue h = absurd (some-op n by h)
    task-now task.Sorting ts queue h = sorting-now ts queue
    task-now (task.Trailing n) ts queue h = looking-now n ts queue r.lead refl h
    task-now task.Yielding ts queue h = yielding-now ts queue r.lead refl h
    task-now _ ts queue h = cc

    once-less : (once (ground_of w b now) r).core.ops ≡ [] → Less (once (ground_of w b now) r)
    once-less = go r.core.ops r.queue refl refl
      where
        go : (ops : List Op) (ts : List Task) → r.core.ops ≡ ops → r.queue ≡ ts → (by_queue (ground_of w b now) r ops ts).core.ops ≡ [] → Less (by_queue (ground_of w b now) r ops ts)
        go (x ∷ xs) ts is queue h = let bad : x ∷ xs ≡ [] = sym is ∙ none in cc
        go [] [] is queue h = last-now queue r.purpose refl h
        go [] (t ∷ ts) is queue h = task-now t ts queue h

  -- ---- four decisions

  once-ops : (r : Recovery) → (once (ground_of w b now) r).core.ops ≡ [] → r.core.ops ≡ []
  once-ops r = go r.core.ops refl
    where
      go : (ops : List Op) → r.core.ops ≡ ops → (by_queue (ground_of w b now) r ops r.queue).core.ops ≡ [] → r.core.ops ≡ []
      go [] is h = is
      go (x ∷ xs) is h = h

  -- after so many
  abbrev Behind : ℕ → Recovery → Type 0
  Behind k r = IsStuck r ⊎ (IsOnWay r × (pauses_of r + k ≤ 4))

  one-more : (k : ℕ) (r : Recovery) → Behind k r → (once (ground_of w b now) r).core.ops ≡ [] → Behind (suc k) (once (ground_of w b now) r)
  one-more k r (inl x) h = inl (decisions-keep w b now IsStuck (decides-stuck w b now) (once-walks w b now r) x)
  one-more k r (inr x) h = go (decisions-keep w b now Fine (decides-fine w b now) (once-walks w b now r) (inl x.0)) (once-less r x.0 (once-ops r h) h)
    where
      go : Fine (once (ground_of w b now) r) → IsStuck (once (ground_of w b now) r) ⊎ (pauses_of (once (ground_of w b now) r) < pauses_of r) → Behind (suc k) (once (ground_of w b now) r)
      go (inr y) z = inl y
      go (inl y) (inl z) = inl z
      go (inl y) (inr z) = let le = x.1 in inr (y, omega (arith, le, z))

  decided-stuck : (r : Recovery) → IsOnWay r → (decided (ground_of w b now) r).core.ops ≡ [] → IsStuck (decided (ground_of w b now) r)
  decided-stuck r way h = go (one-more 3 d (one-more 2 c (one-more 1 a (one-more 0 r (inr (way, first)) ha) hc) hd) h)
    where
      a : Recovery
      a = once (ground_of w b now) r

      c : Recovery
      c = once (ground_of w b now) a

      d : Recovery
      d = once (ground_of w b now) c

      hd : d.core.ops ≡ []
      hd = once-ops d h

      hc : c.core.ops ≡ []
      hc = once-ops c hd

      ha : a.core.ops ≡ []
      ha = once-ops a hc

      first : pauses_of r + 0 ≤ 4
      first = let le = way.course.tasks.few in omega (arith, le)

      go : Behind 4 (once (ground_of w b now) d) → IsStuck (once (ground_of w b now) d)
      go (inl x) = x
      go (inr x) = let le = x.1 in let some = last-some (once (ground_of w b now) d).purpose (once (ground_of w b now) d).swaps in absurd (omega (arith, le, some))

  pub finds-nobody : (r : Recovery) → IsOnWay r → KnowsLead r → (decided (ground_of w b now) r).core.ops ≡ [] → HasNobody w b now r (decided (ground_of w b now) r)
  finds-nobody r way knows h = go (sorted (decided-walks w b now r) way knows)
    where
      go : HasNobody w b now r (decided (ground_of w b now) r) ⊎ DecisionsElse w b now r (decided (ground_of w b now) r) → HasNobody w b now r (decided (ground_of w b now) r)
      go (inl x) = x
      go (inr x) = absurd (not-stuck (decided (ground_of w b now) r) (else-way x way) (decided-stuck r way h))
