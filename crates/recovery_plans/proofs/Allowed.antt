-- The exchanges of a recovery's turn are allowed.
use Rattle.std.proofs.Common.{◌≡◌, ℕ, Bool, true, false, cond, List, [], ◌∷◌, ◌++◌, refl, subst, Option, Some, None}
use Rattle.recovery_plans.proofs.Prelude.{AllAllowed, Attempt, BookState, Cause, Exchange, Fate, Moment, Observation, Op, Purpose, Recovery, Request}
use Rattle.recovery_plans.proofs.Prelude.{ServerNo, Sight, Stage, World, acted, after, attempted, barred_by, by_deed, can-allowed, can_attach}
use Rattle.recovery_plans.proofs.Prelude.{crossing_of, decided, deed_of, fate, goes_back, ground_of, last_exchanges, met, on_going, restarts}
use Rattle.recovery_plans.proofs.Prelude.{restarts-allowed, run, taken, takes_writes, that_can, turn-allowed, undone, way_back}
use Rattle.recovery_plans.proofs.Prelude.asking
use Rattle.recovery_plans.proofs.Prelude.attempt
use Rattle.recovery_plans.proofs.Prelude.cross
use Rattle.recovery_plans.proofs.Prelude.purpose
use Rattle.recovery_plans.proofs.Prelude.stage
use Rattle.recovery_plans.proofs.Prelude.taking

pub append-allowed : (w : World) (es fs : List Exchange) → AllAllowed w es → AllAllowed (run w es) fs → AllAllowed w (es ++ fs)
append-allowed w [] fs one other = other
append-allowed w (e ∷ es) fs one other = (one.0, append-allowed (after w e) es fs one.1 other)

that-can-allowed : (w : World) (o : Option Exchange) → AllAllowed w (that_can w o)
that-can-allowed w None = tt
that-can-allowed w (Some e) = go (can_attach w e) refl
  where
    go : (b : Bool) → can_attach w e ≡ b → AllAllowed w (cond b (e ∷ []) [])
    go true h = (can-allowed w e h, tt)
    go false h = tt

back-allowed : (w : World) (seen : List Sight) (m d : ServerNo) → AllAllowed w (goes_back w seen m d)
back-allowed w seen m d =
    append-allowed w (that_can w (crossing_of seen cross.Back d m)) (Request d.0 asking.Start ∷ takes_writes m) (that-can-allowed w (crossing_of seen cross.Back d m)) (tt, (tt, tt))

way-back-allowed : (w : World) (seen : List Sight) (m : ServerNo) (s : Stage) → AllAllowed w (way_back w seen m s)
way-back-allowed w seen m (stage.Switch k d) = back-allowed w seen k d
way-back-allowed w seen m (stage.Meet k d) = tt
way-back-allowed w seen m (stage.Shut k d) = tt
way-back-allowed w seen m (stage.Switched k d) = tt
way-back-allowed w seen m (stage.Open n) = tt
way-back-allowed w seen m (stage.Opened n) = tt
way-back-allowed w seen m (stage.Close lines) = tt
way-back-allowed w seen m s = (tt, tt)

undone-allowed : (w : World) (u : Purpose) (seen : List Sight) (f : ServerNo) (s : Stage) → AllAllowed w (undone w u seen f s)
undone-allowed w (purpose.Takeover d) seen f s = way-back-allowed w seen f s
undone-allowed w _ seen f s = tt

pub last-allowed : (w : World) (r : Recovery) → AllAllowed w (last_exchanges w r)
last-allowed w r =
    append-allowed w (undone w r.purpose r.core.seen r.failed r.stage) (restarts r.core.hands) (undone-allowed w r.purpose r.core.seen r.failed r.stage)
    (restarts-allowed (run w (undone w r.purpose r.core.seen r.failed r.stage)) r.core.hands)

met-allowed : (w : World) (r : Recovery) (c : Cause) (ob : Option Observation) (f : Fate) → AllAllowed w (met w r c ob f).exchanges
met-allowed w r c ob taking.Fails = last-allowed w r
met-allowed w r c ob _ = tt

attempted-allowed : (w : World) (r : Recovery) (o : Op) (a : Attempt) → AllAllowed w (attempt.settled r.core a).exchanges → AllAllowed w (attempted w r o a).exchanges
attempted-allowed w r o (attempt.Goes ob es j) all = go (barred_by r.stage r.failed j.seen)
  where
    go : (c : Option Cause) → AllAllowed w (on_going w r o ob es j c).exchanges
    go None = all
    go (Some c) = last-allowed w r
attempted-allowed w r o (attempt.Stops c ob) all = met-allowed w r c ob (fate w r.purpose r.stage c)
attempted-allowed w r o (attempt.Ends lines) all = tt

acted-allowed : (w : World) (read : ℕ) (now : Moment) (r : Recovery) (ops : List Op) → r.core.ops ≡ ops → AllAllowed w (acted w read now r ops).exchanges
acted-allowed w read now r [] is = last-allowed w r
acted-allowed w read now r (o ∷ rest) is =
    attempted-allowed w r o (by_deed w read now r.core rest (deed_of o))
    (subst (λ (ops : List Op). AllAllowed w (attempt.settled r.core (attempt.by_ops w read now r.core ops)).exchanges) is (turn-allowed w read now r.core))

pub taken-allowed : (w : World) (b : BookState) (read : ℕ) (now : Moment) (r : Recovery) → AllAllowed w (taken w b read now r).exchanges
taken-allowed w b read now r = acted-allowed w read now (decided (ground_of w b now) r) (decided (ground_of w b now) r).core.ops refl
