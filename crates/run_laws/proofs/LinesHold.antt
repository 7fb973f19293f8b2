-- The lines with which a plan's job is done hold of the servers.
use Rattle.std.proofs.Common.{◌≡◌, ◌∙◌, ℕ, Bool, true, false, List, [], ◌∷◌, length, refl, sym, ap, subst, Option, Some, None, All, IfSome, ◌==◌, if◌then◌else◌, is_some, map}
use Rattle.run_laws.proofs.Prelude.{Act, All-find, All-head, All-nil, All-tail, Flight, HeldJob, HeldState, HoldOf, IsAct, IsTurn, Job}
use Rattle.run_laws.proofs.Prelude.{JobStep, Line, PlansHold, Ready, Reply, Row, State, Step, Turn, Turned, Unended, World, act-fits, act_in}
use Rattle.run_laws.proofs.Prelude.{act_passages, after_act, after_done, by_ops, core-found, core_of, done_passages, engine, exchange_of}
use Rattle.run_laws.proofs.Prelude.{flight_of, instance_at, is_outside, job_at, job_exchanges, job_reply, leases_of, moment_at, next_count, number_of}
use Rattle.run_laws.proofs.Prelude.{option_map, passages_of, passing, reply_of, run, run_turns, slot_at, start, step, step_reply, takes, turn_of}
use Rattle.run_laws.proofs.Prelude.{turned, turns_of}
use Rattle.run_laws.proofs.Prelude.Turns
use Rattle.run_laws.proofs.Prelude.act
use Rattle.run_laws.proofs.Prelude.answered
use Rattle.run_laws.proofs.Prelude.jobstep
use Rattle.run_laws.proofs.Prelude.pass
use Rattle.run_laws.proofs.Prelude.turn
use Rattle.run_laws.proofs.Prelude.turns_step
use Rattle.run_laws.proofs.Prelude.unended
use Rattle.run_laws.proofs.Prelude.JobLaws.{job_at as core_at}
use Rattle.run_laws.proofs.Flown.{flown}
use Rattle.run_laws.proofs.FlownOutcomes.{Leaves-command, Leaves-scan}
use Rattle.run_laws.proofs.HeldLines.{IsOnItsWay, done-holds}
use Rattle.run_laws.proofs.PlanTurns.{AllOnWay, number-on-way, outside-on-way, stored-on-way}
use Rattle.run_laws.proofs.RunLaws.{Goes, Goes-comes, Goes-start, Goes-step}

-- ---- each turn

-- what happens to a server is outside
step-outside : (x : Step) → is_outside (exchange_of x) ≡ true
step-outside (turns_step.Write n size) = refl
step-outside _ = refl

module _ (count : ℕ) (rows : List Row) (s : State) (ready : Ready count s) (held : HeldState s) (way : AllOnWay (flight_of s) s.jobs) where
  act-on-way : (a : Act) → IsAct count a → AllOnWay (passing (flight_of s) (act_passages s a)) (after_act rows s a).jobs
  act-on-way (act.PollRead p n) is = polled (is_some (instance_at s.book n))
    where
      polled : (known : Bool) → AllOnWay (passing (flight_of s) (if known then pass.Polling p n (next_count s.reads) (moment_at s) ∷ [] else [])) s.jobs
      polled true = way
      polled false = way
  act-on-way (act.PollStore p) is = stored-on-way (takes s.book (slot_at s p)) (flight_of s) (slot_at s p) s.jobs way
  act-on-way (act.Command c) is = (Leaves-command count s c ready is).on_way way
  act-on-way (act.Job id) is = number-on-way (flight_of s) s.jobs s.book id (next_count s.reads) (moment_at s) (takes s.book) refl held (job_at s.jobs id) refl way
  act-on-way act.Scan is = (Leaves-scan count s ready).on_way way
  act-on-way act.Restart is = All-nil (IsOnItsWay (passing (flight_of s) (act_passages s act.Restart)).world (passing (flight_of s) (act_passages s act.Restart)).leases)

  done-on-way : (o : Option Act) → IfSome o (IsAct count) → AllOnWay (passing (flight_of s) (done_passages s o)) (after_done rows s o).jobs
  done-on-way None is = way
  done-on-way (Some a) is = act-on-way a is

  turn-on-way : (t : Turn) → IsTurn count t → AllOnWay (passing (flight_of s) (passages_of s t)) (step rows s t).jobs
  turn-on-way (turn.Step x) is = outside-on-way (flight_of s) s.jobs (exchange_of x) (step-outside x) way
  turn-on-way (turn.Act a) is = act-on-way a is
  turn-on-way (turn.As node a) is = done-on-way (act_in s (turn.As node a)) (act-fits count s (turn.As node a) is)
  turn-on-way (turn.Claim node) is = done-on-way (act_in s (turn.Claim node)) (act-fits count s (turn.Claim node) is)
  turn-on-way _ is = way

  step-on-way : (t : Turn) → IsTurn count t → AllOnWay (flight_of (step rows s t)) (step rows s t).jobs
  step-on-way t is = subst (λ (f : Flight). AllOnWay f (step rows s t).jobs) (sym (flown count rows s t ready is)) (turn-on-way t is)

run-on-way : (count : ℕ) (s : State) (xs : List (List Row × Turn)) → All (IsTurn count) (turns_of xs) → Goes count s → AllOnWay (flight_of s) s.jobs
    → AllOnWay (flight_of (run_turns engine s xs)) (run_turns engine s xs).jobs
run-on-way count s [] all goes way = way
run-on-way count s (x ∷ xs) all goes way =
    let is = All-head (IsTurn count) x.1 (turns_of xs) all in
    run-on-way count (step x.0 s x.1) xs (All-tail (IsTurn count) x.1 (turns_of xs) all) (Goes-step count x.0 s x.1 is goes) (step-on-way count x.0 s goes.ready goes.held way x.1 is)

-- ---- the turn in which a job is done

module _ (s : State) (id : ℕ) (j : Job) (lines : List Line) (found : job_at s.jobs id ≡ Some (unended.Plan j)) (told : reply_of s (turn.Act (act.Job id)) ≡ answered.Told lines) where
  abbrev its : Turned
  its = turned s.world (next_count s.reads) (record { 0 = s.moment }) j

  its-lines : (x : JobStep) → step_reply x ≡ answered.Told lines → x ≡ jobstep.Done lines
  its-lines jobstep.Going e = cc
  its-lines (jobstep.Done ls) e = ap jobstep.Done (ap told-in e)
    where
      told-in : Reply → List Line
      told-in (answered.Told xs) = xs
      told-in _ = []
  its-lines (jobstep.Failed c ls) e = cc

  done : its.step ≡ jobstep.Done lines
  done = its-lines its.step (sym (ap (λ (o : Option Unended). job_reply (option_map (turn_of s) o)) found) ∙ told)

  -- it changes nothing
  ends-still : (a : Turns.Attempt) → (Turns.settled j a).step ≡ jobstep.Done lines → (Turns.settled j a).exchanges ≡ []
  ends-still (Turns.Goes ob es k) e = cc
  ends-still (Turns.Stops c ob) e = cc
  ends-still (Turns.Ends ls) e = refl

  world-still : (rows : List Row) → (step rows s (turn.Act (act.Job id))).world ≡ s.world
  world-still rows =
      ap (λ (o : Option Unended). run s.world (job_exchanges (option_map (turn_of s) o))) found
      ∙ ap (run s.world) (ends-still (by_ops s.world (next_count s.reads) (record { 0 = s.moment }) j j.ops) done)

  told-holds : HeldState s → AllOnWay (flight_of s) s.jobs → HoldOf s.world lines
  told-holds held way =
      let core : core_at (map core_of s.jobs) id ≡ Some j = core-found s.jobs id ∙ ap (option_map core_of) found in
      done-holds s.world (leases_of s.book.leases) (next_count s.reads) (record { 0 = s.moment }) j
      (All-find (HeldJob s.world) (λ (k : Job). k.id == id) (map core_of s.jobs) j held.flight.jobs core) lines done
      (All-find (IsOnItsWay s.world (leases_of s.book.leases)) (λ (k : Unended). number_of k == id) s.jobs (unended.Plan j) way found)

pub plans-hold : PlansHold
plans-hold s xs now comes rows id j lines found told =
    let count = length s.opening.servers in
    let begun = start s comes.wait comes.rows in
    let way : AllOnWay (flight_of now) now.jobs =
    subst (λ (k : State). AllOnWay (flight_of k) k.jobs) (sym comes.state)
    (run-on-way count begun xs comes.turns (Goes-start s comes.wait comes.rows comes.scenario) (All-nil (IsOnItsWay begun.world (leases_of begun.book.leases)))) in
    subst (λ (w : World). HoldOf w lines) (sym (world-still now id j lines found told rows))
    (told-holds now id j lines found told (Goes-comes s xs now comes).held way)
