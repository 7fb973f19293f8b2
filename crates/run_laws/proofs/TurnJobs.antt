-- What a turn leaves of the servers and the jobs.
use Rattle.std.proofs.Common.{◌≡◌, ℕ, List, [], ◌∷◌, refl, ap, subst, Option, Some, None, IfSome}
use Rattle.run_laws.proofs.Prelude.{Act, CommandTurn, IsAct, IsTurn, Row, State, Step, Turn, Unended, World, act-fits, act_in, after_act, after_done}
use Rattle.run_laws.proofs.Prelude.{command_outcome, exchange_of, job_exchanges, jobs_turned, run, scan_outcome, state_settled, step, turned_at}
use Rattle.run_laws.proofs.Prelude.act
use Rattle.run_laws.proofs.Prelude.turn

-- what orchestrator does in a turn fits the servers as the turn does
pub acts-fit : (count : ℕ) (s : State) (t : Turn) (a : Act) → IsTurn count t → act_in s t ≡ Some a → IsAct count a
acts-fit count s t a is at = subst (λ (o : Option Act). IfSome o (IsAct count)) at (act-fits count s t is)

module _ (rows : List Row) (s : State) (t : Turn) (P : World → List Unended → Type 0) where
  -- by a step of the servers, a command, a job's turn, a scan and a restart; all else leaves both as they are
  pub record Keeps : Type 0 where
    pub stays : P s.world s.jobs
    pub step : (x : Step) → t ≡ turn.Step x → P (run s.world (exchange_of x ∷ [])) s.jobs
    pub command : (c : CommandTurn) → act_in s t ≡ Some (act.Command c) → P s.world (state_settled s (command_outcome s c)).jobs
    pub job : (id : ℕ) → act_in s t ≡ Some (act.Job id) → P (run s.world (job_exchanges (turned_at s id))) (jobs_turned s.jobs id (turned_at s id))
    pub scan : P s.world (state_settled s (scan_outcome s)).jobs
    pub restart : P s.world []

  module _ (keeps : Keeps) where
    by-act : (a : Act) → act_in s t ≡ Some a → P (after_act rows s a).world (after_act rows s a).jobs
    by-act (act.PollRead p n) at = keeps.stays
    by-act (act.PollStore p) at = keeps.stays
    by-act (act.Command c) at = keeps.command c at
    by-act (act.Job id) at = keeps.job id at
    by-act act.Scan at = keeps.scan
    by-act act.Restart at = keeps.restart

    by-done : (o : Option Act) → act_in s t ≡ o → P (after_done rows s o).world (after_done rows s o).jobs
    by-done None at = keeps.stays
    by-done (Some a) at = by-act a at

    by-turn : (x : Turn) → t ≡ x → P (step rows s x).world (step rows s x).jobs
    by-turn (turn.Step y) same = keeps.step y same
    by-turn (turn.Act a) same = by-act a (ap (act_in s) same)
    by-turn (turn.As node a) same = by-done (act_in s (turn.As node a)) (ap (act_in s) same)
    by-turn (turn.Claim node) same = by-done (act_in s (turn.Claim node)) (ap (act_in s) same)
    by-turn _ same = keeps.stays

    pub turn-keeps : P (step rows s t).world (step rows s t).jobs
    turn-keeps = by-turn t refl
