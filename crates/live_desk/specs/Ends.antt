-- What a live run promises of its journal.
use Rattle.std.specs.Prelude.{All, ◌≡◌, ℕ, List, [], ◌∷◌, ◌++◌, length, map}
use Rattle.orch_core.specs.KeptRows.declared.row.Row.{Row}
use Rattle.orch_core.specs.Scenarios.declared.scenario.Scenario.{Scenario}
use Rattle.orch_core.specs.Scenarios.ValidTurns.{IsTurn, NamesOneOf}
use Rattle.orch_core.specs.Turns.declared.turn.Turn.{Turn}
use Rattle.orch_core.specs.Turns.declared.reply.Reply.{Reply}
use Rattle.orch_core.specs.Rounds.{IsFinish, round_of, times}
use Rattle.orch_core.specs.Runs.{Held, Recorded, held_run, recorder}
use Rattle.orch_core.specs.States.{State}
use Rattle.live_desk.specs.Entries.{Entry, turns_in, pairs_in, commands_in, others_in, driver_list, entries_of}
use Rattle.live_desk.specs.Desks.{run_of}

-- these jobs were finished, one after another: each by its rounds, from the state to which those of the job before led
abbrev pub Finishes : Held Recorded → List ℕ → List Turn → Type 0
Finishes h [] ts = ts ≡ []
Finishes h (job ∷ jobs) ts =
    (k : ℕ) × (rest : List Turn) × IsFinish h.state.state job k × (ts ≡ times k (round_of h.state.state job) ++ rest)
    × Finishes (held_run recorder h (times k (round_of h.state.state job))) jobs rest

-- all of the scenario's turns are taken in the first part of the journal, and after it the caller, whose number is 0,
-- finished jobs
pub record IsEnded (s : Scenario) (wait : ℕ) (es : List Entry) : Type 0 where
  pub front : List Entry
  pub last : List (Turn × Reply)
  pub jobs : List ℕ
  pub whole : es ≡ front ++ entries_of [] last
  pub commands : commands_in (turns_in front) ≡ commands_in s.turns
  pub listed : (extra : List Turn) × (driver_list front ≡ others_in s.turns ++ extra)
  pub rounds : Finishes (run_of s wait (turns_in front)) jobs (map (λ p. p.0) last)

-- It is a run of the scenario's opening, over its servers and its orchestrators. Its commands are the scenario's, each
-- once, in order. The turns of the driver and the caller that are no command begin with all such turns of the scenario,
-- in order. The caller took what was left of either before it finished the jobs. No job is unended.
pub record IsLive (s : Scenario) (wait : ℕ) (es : List Entry) : Type 0 where
  pub run : pairs_in es ≡ (run_of s wait (turns_in es)).state.journal
  pub turns : All (IsTurn (length s.opening.servers)) (turns_in es)
  pub named : All (NamesOneOf s.nodes) (turns_in es)
  pub commands : commands_in (turns_in es) ≡ commands_in s.turns
  pub listed : (extra : List Turn) × (driver_list es ≡ others_in s.turns ++ extra)
  pub caller : IsEnded s wait es
  pub ended : (run_of s wait (turns_in es)).state.state.jobs ≡ []

-- the kept rows after these turns
abbrev pub rows_after : Scenario → ℕ → List Entry → List Row
rows_after s wait es = (run_of s wait (turns_in es)).rows

-- the state after them
abbrev pub state_after : Scenario → ℕ → List Entry → State
state_after s wait es = (run_of s wait (turns_in es)).state.state

-- jobs were finished from one state, and the kept rows beside it, by turns over the same servers that name no
-- orchestrator, and led to another
pub record RunsOn (before now : Held Recorded) : Type 0 where
  pub turns : List Turn
  pub jobs : List ℕ
  pub ran : now ≡ held_run recorder before turns
  pub none : commands_in turns ≡ []
  pub over : All (IsTurn (length before.state.state.world.servers)) turns
  pub named : (nodes : ℕ) → All (NamesOneOf nodes) turns
  pub servers : length now.state.state.world.servers ≡ length before.state.state.world.servers
  pub rounds : Finishes before jobs turns
