-- What holds of the recoveries in each state of each run.
use Rattle.std.proofs.Common.{◌≡◌, ◌∙◌, ℕ, ◌<◌, Bool, true, List, [], ◌∷◌, ◌++◌, length, append_assoc, refl, sym, ap, subst, Some, ◌-◌, ◌^◌, ◌==◌, All, slice_get, take}
use Rattle.recovery_runs.proofs.Prelude.{All-find, All-head, All-nil, All-tail, AreScenarios, Began, BooksAtLast, ComesTo, LoadGiven, LoadsGiven, CoveredState, Docket, ExplainedState}
use Rattle.recovery_runs.proofs.Prelude.{ExplainsAlong, ExplainsTurn, Fact, FinishesWell, Goes, Goes-start, Goes-step, HasFacts, HookState, IsEarly}
use Rattle.recovery_runs.proofs.Prelude.{IsExplained, IsFinish, IsQuiet, IsToldOf, IsTurn, KeptState, Line, Recovery, Row, Scenario, ServerNo}
use Rattle.recovery_runs.proofs.Prelude.{SpeakingState, State, TendedState, Turn, Unended, UpState, append-nil, engine, exchanges_at, finished_so}
use Rattle.recovery_runs.proofs.Prelude.{found-number, job_at, moment_at, none-speak, number_of, option_map, owed, own_lines, recovery_after}
use Rattle.recovery_runs.proofs.Prelude.{recovery_at, run_turns, start, step, times, turns_of, world-turn}
use Rattle.recovery_runs.proofs.Prelude.act
use Rattle.recovery_runs.proofs.Prelude.exchanges
use Rattle.recovery_runs.proofs.Prelude.turn
use Rattle.recovery_runs.proofs.Prelude.unended
use Rattle.recovery_runs.proofs.Entries.{audit-ends}
use Rattle.recovery_runs.proofs.Tellings.{told-then}
use Rattle.recovery_runs.proofs.Finishing.{keeps-histories, keeps-up, lost-fit, owes-nothing, reply-told, taken-done}
use Rattle.recovery_runs.proofs.Facts.{explained-start, explained-step, last-explained}
use Rattle.recovery_runs.proofs.HookTellings.{early-still, finish-tells}
use Rattle.recovery_runs.proofs.Scenarios.{are-scenarios}
use Rattle.recovery_runs.proofs.Still.{still-step, HasStill}
use Rattle.recovery_runs.proofs.Tended.{tended-start, tended-step}
use Rattle.recovery_runs.proofs.Covering.{covered-start, covered-step, kept-start, kept-step, speaking-step}
use Rattle.recovery_runs.proofs.Origins.{HasOrigin, Step, origins-step, take-all}
use Rattle.recovery_runs.proofs.Kept.{KeepsEnds, booked-last, keeps-start, keeps-step}
use Rattle.recovery_runs.proofs.There.{HasReplicas, there-step}
use Rattle.recovery_runs.proofs.Upkeep.{all-counts, start-up, step-up}

-- ---- one state

-- recoveries cover their replicas so far, and speak with those that they may lose; in a state without errant writes
-- they keep histories
pub record Cares (s : State) : Type 0 where
  pub covered : CoveredState s
  pub speaking : SpeakingState s
  pub kept : IsQuiet s.world → KeptState s
  pub tended : TendedState s

Cares-step : (count : ℕ) (rows : List Row) (s : State) (t : Turn) → IsTurn count t → Goes count s → Cares s → Cares (step rows s t)
Cares-step count rows s t is goes cares = record {
  covered = covered-step count rows s t goes.ready goes.held is cares.covered;
  speaking = speaking-step count rows s t goes.ready goes.held is cares.speaking;
  kept = λ q.
      let before = exchanges.quiet-run s.world (exchanges_at s t) (subst IsQuiet (world-turn rows s t) q) in
      kept-step count rows s t goes.ready goes.held (goes.sound before) is cares.covered (cares.kept before);
  tended = tended-step count rows s t goes.ready is cares.tended;
}

-- ---- along a run

run-push : (from : State) (xs : List Step) (x : Step) → run_turns engine from (xs ++ x ∷ []) ≡ step x.0 (run_turns engine from xs) x.1
run-push from [] x = refl
run-push from (z ∷ zs) x = run-push (step z.0 from z.1) zs x

get-at : (xs ys : List Step) (x : Step) → slice_get (xs ++ x ∷ ys) (length xs) ≡ Some x
get-at [] ys x = refl
get-at (z ∷ zs) ys x = get-at zs ys x

module _ (count : ℕ) (from : State) where
  -- so many turns of a run were taken
  pub record Tends (xs : List Step) (s : State) : Type 0 where
    pub here : s ≡ run_turns engine from xs
    pub goes : Goes count s
    pub cares : Cares s
    pub origins : All (HasOrigin from xs) s.jobs
    pub stills : All (HasStill from xs) s.jobs
    pub there : All (HasReplicas s.book) s.jobs

  pub tends-step : (xs : List Step) (s : State) (x : Step) → IsTurn count x.1 → Tends xs s → Tends (xs ++ x ∷ []) (step x.0 s x.1)
  tends-step xs s x is t = record {
    here = ap (λ (z : State). step x.0 z x.1) t.here ∙ sym (run-push from xs x);
    goes = Goes-step count x.0 s x.1 is t.goes;
    cares = Cares-step count x.0 s x.1 is t.goes t.cares;
    origins = origins-step from count xs s x t.here t.goes.ready is t.origins;
    stills = still-step from count xs s x.0 t.here t.goes.ready t.cares.tended t.stills x.1 is;
    there = there-step count x.0 s x.1 t.goes.ready t.goes.held is t.there;
  }

  tends-run : (xs ys : List Step) (s : State) → All (IsTurn count) (turns_of ys) → Tends xs s → Tends (xs ++ ys) (run_turns engine s ys)
  tends-run xs [] s all t = subst (λ (zs : List Step). Tends zs s) (sym (append-nil xs)) t
  tends-run xs (y ∷ ys) s all t =
      subst (λ (zs : List Step). Tends zs (run_turns engine (step y.0 s y.1) ys)) (append_assoc xs (y ∷ []) ys)
      (tends-run (xs ++ y ∷ []) ys (step y.0 s y.1) (All-tail (IsTurn count) y.1 (turns_of ys) all) (tends-step xs s y (All-head (IsTurn count) y.1 (turns_of ys) all) t))

  module _ (P : Fact → Bool) (id : ℕ) where
    -- a turn of such a run
    explains-at : (xs ys : List Step) (x : Step) (s : State) → s ≡ run_turns engine from xs → ExplainsAlong P id from (xs ++ x ∷ ys) → ExplainsTurn P id s x.1
    explains-at xs ys x s here explains =
        subst (λ (z : State). ExplainsTurn P id z x.1) (sym here)
        (subst (λ (zs : List Step). ExplainsTurn P id (run_turns engine from zs) x.1) (take-all xs (x ∷ ys)) (explains (length xs) x (get-at xs ys x)))

    explained-run : (xs ys : List Step) (s : State) → All (IsTurn count) (turns_of ys) → ExplainsAlong P id from (xs ++ ys) → Tends xs s → ExplainedState P id s → ExplainedState P id (run_turns engine s ys)
    explained-run xs [] s all explains t explained = explained
    explained-run xs (y ∷ ys) s all explains t explained =
        let is = All-head (IsTurn count) y.1 (turns_of ys) all in
        explained-run (xs ++ y ∷ []) ys (step y.0 s y.1) (All-tail (IsTurn count) y.1 (turns_of ys) all)
        (subst (λ (zs : List Step). ExplainsAlong P id from zs) (sym (append_assoc xs (y ∷ []) ys)) explains) (tends-step xs s y is t)
        (explained-step P id count y.0 s y.1 t.goes.ready is t.goes.held t.cares.speaking (explains-at xs ys y s t.here explains) explained)

    up-run : (xs ys : List Step) (s : State) → All (IsTurn count) (turns_of ys) → ExplainsAlong P id from (xs ++ ys) → Tends xs s → UpState P id s → UpState P id (run_turns engine s ys)
    up-run xs [] s all explains t up = up
    up-run xs (y ∷ ys) s all explains t up =
        let is = All-head (IsTurn count) y.1 (turns_of ys) all in
        up-run (xs ++ y ∷ []) ys (step y.0 s y.1) (All-tail (IsTurn count) y.1 (turns_of ys) all)
        (subst (λ (zs : List Step). ExplainsAlong P id from zs) (sym (append_assoc xs (y ∷ []) ys)) explains) (tends-step xs s y is t)
        (step-up P id count y.0 s t.goes.ready t.goes.held t.cares.covered t.cares.speaking up y.1 is (explains-at xs ys y s t.here explains))

  -- a turn of a run that loads no later reading than were given
  loads-at : (xs ys : List Step) (x : Step) (s : State) → s ≡ run_turns engine from xs → LoadGiven from (xs ++ x ∷ ys) → LoadsGiven s x
  loads-at xs ys x s here loads =
      subst (λ (z : State). LoadsGiven z x) (sym here) (subst (λ (zs : List Step). LoadsGiven (run_turns engine from zs) x) (take-all xs (x ∷ ys)) (loads (length xs) x (get-at xs ys x)))

  abbrev AllUp : State → Type 0
  AllUp s = (id : ℕ) → UpState (λ x. true) id s

  kept-run : (xs ys : List Step) (s : State) → All (IsTurn count) (turns_of ys) → LoadGiven from (xs ++ ys) → Tends xs s → AllUp s → KeepsEnds s → KeepsEnds (run_turns engine s ys)
  kept-run xs [] s all loads t ups keeps = keeps
  kept-run xs (y ∷ ys) s all loads t ups keeps =
      let is = All-head (IsTurn count) y.1 (turns_of ys) all in
      kept-run (xs ++ y ∷ []) ys (step y.0 s y.1) (All-tail (IsTurn count) y.1 (turns_of ys) all)
      (subst (λ (zs : List Step). LoadGiven from zs) (sym (append_assoc xs (y ∷ []) ys)) loads) (tends-step xs s y is t)
      (λ id. step-up (λ x. true) id count y.0 s t.goes.ready t.goes.held t.cares.covered t.cares.speaking (ups id) y.1 is (all-counts id s y.1))
      (keeps-step count y.0 s y.1 is t.goes.ready t.cares.covered t.cares.speaking ups (loads-at xs ys y s t.here loads) keeps)

-- ---- from an opening on

module _ (s : Scenario) (xs : List Step) (now : State) (comes : ComesTo s xs now) where
  abbrev pub begun : State
  begun = start s comes.wait comes.rows

  pub opened : Tends (length s.opening.servers) begun [] begun
  opened = record {
    here = refl;
    goes = Goes-start s comes.wait comes.rows comes.scenario;
    cares = record { covered = covered-start s comes.wait comes.rows; speaking = none-speak; kept = λ q. kept-start s comes.wait comes.rows; tended = tended-start s comes.wait comes.rows };
    origins = All-nil (HasOrigin begun []);
    stills = All-nil (HasStill begun []);
    there = All-nil (HasReplicas begun.book);
  }

  pub tends-comes : Tends (length s.opening.servers) begun xs now
  tends-comes = subst (λ (z : State). Tends (length s.opening.servers) begun xs z) (sym comes.state) (tends-run (length s.opening.servers) begun [] xs begun comes.turns opened)

  -- a recovery began in one of the turns
  pub began-comes : (id : ℕ) (r : Recovery) (docket : Docket) → job_at now.jobs id ≡ Some (unended.Recovery r docket) → Began begun xs r docket
  began-comes id r docket at = All-find (HasOrigin begun xs) (λ (k : Unended). number_of k == id) now.jobs (unended.Recovery r docket) tends-comes.origins at

  explained-comes : (P : Fact → Bool) (id : ℕ) → ExplainsAlong P id begun xs → ExplainedState P id now
  explained-comes P id explains =
      subst (ExplainedState P id) (sym comes.state)
      (explained-run (length s.opening.servers) begun P id [] xs begun comes.turns explains opened (explained-start P id s comes.wait comes.rows))

  pub up-comes : (P : Fact → Bool) (id : ℕ) → ExplainsAlong P id begun xs → UpState P id now
  up-comes P id explains =
      subst (UpState P id) (sym comes.state) (up-run (length s.opening.servers) begun P id [] xs begun comes.turns explains opened (start-up P id s comes.wait comes.rows))

  -- of each recovery, if all counts
  ups-comes : (id : ℕ) → UpState (λ x. true) id now
  ups-comes id = up-comes (λ x. true) id (λ k x got. all-counts id (run_turns engine begun (take k xs)) x.1)

  kept-comes : LoadGiven begun xs → KeepsEnds now
  kept-comes loads =
      subst KeepsEnds (sym comes.state)
      (kept-run (length s.opening.servers) begun [] xs begun comes.turns loads opened (λ id. start-up (λ x. true) id s comes.wait comes.rows) (keeps-start s comes.wait comes.rows))

  -- each of its lost has a reason that counts
  pub told-comes : (P : Fact → Bool) (id : ℕ) (r : Recovery) (docket : Docket) → ExplainsAlong P id begun xs → job_at now.jobs id ≡ Some (unended.Recovery r docket) → IsExplained P r
  told-comes P id r docket explains at =
      All-find (λ (u : Unended). number_of u ≡ id → HasFacts P u) (λ (k : Unended). number_of k == id) now.jobs (unended.Recovery r docket) (explained-comes P id explains) at
      (found-number now.jobs id (unended.Recovery r docket) at)

  -- and so has each that its next turn makes
  pub told-next : (P : Fact → Bool) (id : ℕ) (r : Recovery) (docket : Docket) → ExplainsAlong P id begun xs → ExplainsTurn P id now (turn.Act (act.Job id)) → job_at now.jobs id ≡ Some (unended.Recovery r docket)
      → IsExplained P (recovery_after now r)
  told-next P id r docket explains here at =
      let t = tends-comes in
      last-explained P id now r docket at t.goes.held t.cares.speaking (here refl r docket at) (explained-comes P id explains)

  -- its hooks are the scenario's
  pub scenarios-comes : (id : ℕ) (r : Recovery) (docket : Docket) (h : HookState) → job_at now.jobs id ≡ Some (unended.Recovery r docket) → docket.hooks ≡ Some h → AreScenarios s h
  scenarios-comes id r docket h at has = are-scenarios s comes.wait comes.rows xs r docket (began-comes id r docket at) h has

  -- a turn before all hooks have run that are to before it
  pub still-comes : (rows : List Row) (id : ℕ) (r : Recovery) (docket : Docket) (h : HookState) → job_at now.jobs id ≡ Some (unended.Recovery r docket) → docket.hooks ≡ Some h → IsEarly h
      → (step rows now (turn.Act (act.Job id))).world ≡ now.world
  still-comes rows id r docket h found has early = early-still now id r docket tends-comes.cares.tended rows h found has early

  -- what the turn in which a recovery is done owes
  pub finish-comes : (rows : List Row) (id : ℕ) (r : Recovery) (docket : Docket) (lines : List Line) → IsFinish now id r docket lines → FinishesWell (length s.opening.servers) begun xs rows now id r docket lines
  finish-comes rows id r docket lines is =
      let t = tends-comes in
      let goes = t.goes in
      record {
        reply = reply-told now id r docket lines is;
        hooks = finish-tells now id r docket t.cares.tended lines is;
        owes = owes-nothing now id r docket lines is (length s.opening.servers) rows goes.ready goes.held t.cares.covered;
        began = began-comes id r docket is.found;
        tells = has-line rows id r docket lines is;
        histories = λ q.
            let before = exchanges.quiet-run now.world (exchanges_at now (turn.Act (act.Job id))) q in
            keeps-histories now id r docket lines is rows goes.held (goes.sound before) t.cares.covered (t.cares.kept before)
            ((Goes-step (length s.opening.servers) rows now (turn.Act (act.Job id)) tt goes).sound q).flight.safe;
        told = λ P explains here. told-next P id r docket explains here is.found;
        fit = lost-fit now id r docket lines is t.cares.speaking;
        upkeep = λ P explains here. keeps-up now id r docket lines is rows P goes.held t.cares.covered t.cares.speaking (here refl r docket is.found) (up-comes P id explains);
        booked = λ loads room. book-kept rows id r docket lines is loads room;
        ends = λ e n same promoted. ended rows id r docket lines is e n same promoted;
      }
    where
      has-line : (rows : List Row) (id : ℕ) (r : Recovery) (docket : Docket) (lines : List Line) → IsFinish now id r docket lines → (n : ServerNo) → 0 < times n.0 (owed r.purpose r.failed r.replicas)
          → IsToldOf r.purpose (recovery_after now r).outcome (own_lines now r) n
      has-line rows id r docket lines is n h =
          let t = tends-comes in
          let owes = owes-nothing now id r docket lines is (length s.opening.servers) rows t.goes.ready t.goes.held t.cares.covered in
          told-then (step rows now (turn.Act (act.Job id))).world r (recovery_after now r) (own_lines now r) owes.aim owes.told (began-comes id r docket is.found).begins.tells n h

      ended : (rows : List Row) (id : ℕ) (r : Recovery) (docket : Docket) (lines : List Line) → IsFinish now id r docket lines → (e : ℕ) (n : ServerNo) → docket.entry ≡ Some e → (recovery_after now r).outcome.promoted ≡ Some n
          → recovery_at (step rows now (turn.Act (act.Job id))).audit e ≡ option_map (finished_so (moment_at now) r.purpose n) (recovery_at now.audit e)
      ended rows id r docket lines is e n same promoted = audit-ends now id e r docket lines n same is promoted rows

      book-kept : (rows : List Row) (id : ℕ) (r : Recovery) (docket : Docket) (lines : List Line) → IsFinish now id r docket lines → LoadGiven begun xs → (step rows now (turn.Act (act.Job id))).reads < 2 ^ 64 - 1
          → BooksAtLast (step rows now (turn.Act (act.Job id))).book (recovery_after now r)
      book-kept rows id r docket lines is loads room =
          let t = tends-comes in
          booked-last (length s.opening.servers) rows now id r docket (own_lines now r) is.found t.goes.ready t.cares.covered t.cares.speaking ups-comes t.there (kept-comes loads) room
          (taken-done now id r docket lines is) (step rows now (turn.Act (act.Job id))).world (own_lines now r)
          (owes-nothing now id r docket lines is (length s.opening.servers) rows t.goes.ready t.goes.held t.cares.covered).told
