-- The lost of a recovery have reasons, from its start on.
use Rattle.std.proofs.Common.{◌≡◌, ◌∙◌, ℕ, Bool, true, List, ◌++◌, refl, sym, subst, Option, Some, None, ◌==◌, All, IfSome}
use Rattle.recovery_runs.proofs.Prelude.{Act, All-find, All-nil, All-weaker, BeginsOnce, Docket, ExplainedState, ExplainsAct, ExplainsDone}
use Rattle.recovery_runs.proofs.Prelude.{ExplainsTruly, ExplainsTurn, Fact, HasFacts, HeldState, IsAct, IsExplained, IsReady, IsTurn, Ready, Recovery}
use Rattle.recovery_runs.proofs.Prelude.{Row, Scenario, SpeakingState, State, Turn, Unended, act-fits, act_in, after_act, after_done, all-turned}
use Rattle.recovery_runs.proofs.Prelude.{begun-explained, command_outcome, flown-number, found-number, hooked-has, is_going, job_at, jobs_of}
use Rattle.recovery_runs.proofs.Prelude.{jobs_turned, known_of, moment_at, next_count, number_of, option_map, promoted_in, recovery_after}
use Rattle.recovery_runs.proofs.Prelude.{scan_outcome, start, step, turn_of, turn_taken, updated}
use Rattle.recovery_runs.proofs.Prelude.act
use Rattle.recovery_runs.proofs.Prelude.turn
use Rattle.recovery_runs.proofs.Prelude.unended
use Rattle.recovery_runs.proofs.Begun.{command-once, scan-once}
use Rattle.recovery_runs.proofs.Joining.{joined, outcome-joins}
use Rattle.recovery_runs.proofs.Finishing.{facts-true}

module _ (P : Fact → Bool) (id : ℕ) where
  abbrev Explained : Unended → Type 0
  Explained u = number_of u ≡ id → HasFacts P u

  -- what begins reports nothing yet
  once-explained : (s : State) (u : Unended) → BeginsOnce s u → Explained u
  once-explained s (unended.Plan j) once e = tt
  once-explained s (unended.Recovery r docket) once e =
      subst (IsExplained P) (sym once.fresh) (begun-explained P r.purpose r.means r.core.id r.core.wait r.failed r.replicas r.order)

  with-begun : (s : State) (vs ws : List Unended) → ws ≡ s.jobs ++ vs → All (BeginsOnce s) vs → ExplainedState P id s → All Explained ws
  with-begun s vs ws is once explained = joined Explained s.jobs vs ws is explained (All-weaker (BeginsOnce s) Explained (once-explained s) vs once)

  pub last-explained : (s : State) (r : Recovery) (docket : Docket) → job_at s.jobs id ≡ Some (unended.Recovery r docket) → HeldState s → SpeakingState s
      → ExplainsTruly s.world s.book (moment_at s) r P → ExplainedState P id s → IsExplained P (recovery_after s r)
  last-explained s r docket found held speaking explains explained =
      facts-true s id r docket found P held speaking explains
      (All-find Explained (λ (k : Unended). number_of k == id) s.jobs (unended.Recovery r docket) explained found (found-number s.jobs id (unended.Recovery r docket) found))

  -- ---- a job's turn

  module _ (count : ℕ) (s : State) (job : ℕ) (ready : Ready count s) (held : HeldState s) (speaking : SpeakingState s) (explained : ExplainedState P id s)
      (explains : job ≡ id → (r : Recovery) (docket : Docket) → job_at s.jobs id ≡ Some (unended.Recovery r docket) → ExplainsTruly s.world s.book (moment_at s) r P) where
    next-explained : (u : Unended) → job_at s.jobs job ≡ Some u → is_going (turn_of s u).step ≡ true → Explained (turn_of s u).next
    next-explained (unended.Plan j) at going e = tt
    next-explained (unended.Recovery r docket) at going e =
        let u = unended.Recovery r docket in
        let fits = All-find (IsReady count) (λ (k : Unended). number_of k == job) s.jobs u ready.jobs at in
        let same : job ≡ id = sym (found-number s.jobs job u at) ∙ (sym (flown-number count s.world s.book (next_count s.reads) (moment_at s) u fits going) ∙ e) in
        let found : job_at s.jobs id ≡ Some (unended.Recovery r docket) = subst (λ (n : ℕ). job_at s.jobs n ≡ Some (unended.Recovery r docket)) same at in
        let t = turn_taken s r in
        let own = last-explained s r docket found held speaking (explains same r docket found) explained in
        let was = All-find Explained (λ (k : Unended). number_of k == id) s.jobs u explained found (found-number s.jobs id u found) in
        hooked-has (λ x. IsExplained P x.recovery) docket (promoted_in s.book t) r t (λ told g. own) (λ told. was)

    turn-explained : (o : Option Unended) → job_at s.jobs job ≡ o → All Explained (jobs_turned s.jobs job (option_map (turn_of s) o))
    turn-explained None at = explained
    turn-explained (Some u) at = all-turned Explained Explained job (λ k apart h. h) s.jobs (turn_of s u) (next-explained u at) explained

  -- ---- every turn

  explained-act : (count : ℕ) (rows : List Row) (s : State) (a : Act) → Ready count s → IsAct count a → HeldState s → SpeakingState s → ExplainsAct P id s a
      → ExplainedState P id s → ExplainedState P id (after_act rows s a)
  explained-act count rows s (act.PollRead p n) ready is held speaking explains explained = explained
  explained-act count rows s (act.PollStore p) ready is held speaking explains explained = explained
  explained-act count rows s (act.Command c) ready is held speaking explains explained =
      with-begun s (jobs_of s (command_outcome s c)) (updated (known_of s) (command_outcome s c).book).jobs (outcome-joins s (command_outcome s c)) (command-once count s ready c is) explained
  explained-act count rows s (act.Job job) ready is held speaking explains explained =
      turn-explained count s job ready held speaking explained explains (job_at s.jobs job) refl
  explained-act count rows s act.Scan ready is held speaking explains explained =
      with-begun s (jobs_of s (scan_outcome s)) (updated (known_of s) (scan_outcome s).book).jobs (outcome-joins s (scan_outcome s)) (scan-once count s ready) explained
  explained-act count rows s act.Restart ready is held speaking explains explained = All-nil Explained

  explained-done : (count : ℕ) (rows : List Row) (s : State) (o : Option Act) → Ready count s → IfSome o (IsAct count) → HeldState s → SpeakingState s → ExplainsDone P id s o
      → ExplainedState P id s → ExplainedState P id (after_done rows s o)
  explained-done count rows s None ready is held speaking explains explained = explained
  explained-done count rows s (Some a) ready is held speaking explains explained = explained-act count rows s a ready is held speaking explains explained

  pub explained-step : (count : ℕ) (rows : List Row) (s : State) (t : Turn) → Ready count s → IsTurn count t → HeldState s → SpeakingState s → ExplainsTurn P id s t
      → ExplainedState P id s → ExplainedState P id (step rows s t)
  explained-step count rows s (turn.Act a) ready is held speaking explains explained = explained-act count rows s a ready is held speaking explains explained
  explained-step count rows s (turn.As node a) ready is held speaking explains explained =
      explained-done count rows s (act_in s (turn.As node a)) ready (act-fits count s (turn.As node a) is) held speaking explains explained
  explained-step count rows s (turn.Claim node) ready is held speaking explains explained =
      explained-done count rows s (act_in s (turn.Claim node)) ready (act-fits count s (turn.Claim node) is) held speaking explains explained
  explained-step count rows s _ ready is held speaking explains explained = explained

  pub explained-start : (s : Scenario) (wait : ℕ) (rows : List Row) → ExplainedState P id (start s wait rows)
  explained-start s wait rows = All-nil Explained
