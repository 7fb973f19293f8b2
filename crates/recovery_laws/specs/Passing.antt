-- The turn of a recovery as one of its job.
use Rattle.std.specs.Prelude.{ℕ, Bool, true, false, []}
use Rattle.recovery_laws.specs.Prelude.{Job, Recovery, Taken, Turned, is_going, job_with}

-- the job of a recovery that goes on; one that is ended has nothing left to do
abbrev pub core_by : ℕ → Recovery → Bool → Job
core_by id r true = r.core
core_by id r false = job_with id 0 []

abbrev pub as_turn : ℕ → Taken → Turned
as_turn id t = record { step = t.step; observation = t.observation; exchanges = t.exchanges; job = core_by id t.recovery (is_going t.step) }
