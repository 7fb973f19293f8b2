-- The state after each turn.
use Rattle.std.specs.Prelude.{ℕ, List, [], ◌∷◌, slice_set, Option, Some, None, is_some, if◌then◌else◌}
use Rattle.orch_core.specs.Prelude.{Act, Row, ServerNo, Step, Turn, book_turned, closed, closed_by, closing_of, instance_at, job_exchanges}
use Rattle.orch_core.specs.Prelude.{job_observation, jobs_turned, next_count, reads_with, run, stored}
use Rattle.orch_core.specs.Prelude.act
use Rattle.orch_core.specs.Prelude.turn
use Rattle.orch_core.specs.Jobs.{turned_at}
use Rattle.orch_core.specs.Nodes.{act_in, with_claims}
use Rattle.orch_core.specs.Polls.{command_outcome, empty_slots, reading, scan_outcome, slot_at}
use Rattle.orch_core.specs.Restarts.{interrupted_at, reloaded_audit, reloaded_book, reloaded_moment}
use Rattle.orch_core.specs.Settling.{settled}
use Rattle.orch_core.specs.States.{State}
use Rattle.orch_core.specs.TurnExchanges.{exchange_of, later}

-- the exchange is made
abbrev pub after_step : State → Step → State
after_step s x = record s { world = run s.world (exchange_of x ∷ []) }

-- only a tick lets time pass
abbrev pub after_tick : State → ℕ → State
after_tick s seconds = record s { moment = later s.moment seconds }

-- a server that the book knows is read into the slot, with the next read number
abbrev pub after_read : State → ℕ → ServerNo → State
after_read s p n = record s {
  slots = if is_some (instance_at s.book n) then slice_set s.slots p (Some (reading s n)) else s.slots;
  reads = if is_some (instance_at s.book n) then next_count s.reads else s.reads;
}

-- the slot's reading is stored, and leaves its slot
abbrev pub after_store : State → ℕ → State
after_store s p = record s { book = stored s.book (slot_at s p); slots = slice_set s.slots p None }

-- the exchanges of the job's turn are made, what it observed is stored, and if it is ended it is dropped, its leases
-- are free and its entry ends
abbrev pub after_job : State → ℕ → State
after_job s job = record s {
  world = run s.world (job_exchanges (turned_at s job));
  book = book_turned s.book job (turned_at s job);
  audit = closed_by s.audit (record { 0 = s.moment }) (closing_of (turned_at s job));
  reads = reads_with s.reads (job_observation (turned_at s job));
  jobs = jobs_turned s.jobs job (turned_at s job);
}

-- The rows that count are loaded, without bridges and leases. The unended recoveries are ended as interrupted, all
-- slots are empty and all jobs dropped. The moment is raised to those of the recoveries that the row store's rows
-- bring.
abbrev pub after_restart : List Row → State → State
after_restart rows s = record s {
  moment = reloaded_moment rows s;
  book = reloaded_book rows s;
  audit = closed (reloaded_audit rows s) (interrupted_at rows s);
  slots = empty_slots;
  jobs = [];
}

-- after what orchestrator does; a restart has these rows from the row store
abbrev pub after_act : List Row → State → Act → State
after_act rows s (act.PollRead p n) = after_read s p n
after_act rows s (act.PollStore p) = after_store s p
after_act rows s (act.Command c) = settled s (command_outcome s c)
after_act rows s (act.Job job) = after_job s job
after_act rows s act.Scan = settled s (scan_outcome s)
after_act rows s act.Restart = after_restart rows s

abbrev pub after_done : List Row → State → Option Act → State
after_done rows s None = s
after_done rows s (Some a) = after_act rows s a

-- after a turn
abbrev pub step : List Row → State → Turn → State
step rows s (turn.Step x) = after_step s x
step rows s (turn.Tick seconds) = after_tick s seconds
step rows s (turn.Act a) = after_act rows s a
step rows s (turn.As node a) = with_claims s (turn.As node a) (after_done rows s (act_in s (turn.As node a)))
step rows s (turn.Claim node) = with_claims s (turn.Claim node) (after_done rows s (act_in s (turn.Claim node)))
step rows s (turn.Release node) = with_claims s (turn.Release node) s
