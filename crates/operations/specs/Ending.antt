-- How many turns a job has at most before it ends.
use Rattle.std.specs.Prelude.{◌≡◌, ℕ, ◌+◌, ◌-◌, ◌<◌, ◌≤◌, true, List, [], ◌∷◌}
use Rattle.operations.specs.declared.op.Op.{Op}
use Rattle.operations.specs.Jobs.{Job}
use Rattle.operations.specs.Turns.{Turned, is_going}

abbrev pub turns_for : ℕ → List Op → ℕ
turns_for wait [] = 0
turns_for wait (op ∷ ops) = (wait + 1) + turns_for wait ops

abbrev pub turns_left : Job → ℕ
turns_left j = turns_for j.wait j.ops - j.waited

-- after a turn the waits are within the job's bound, which is the same; if the job goes on it has fewer turns left
pub record MovesOn (j : Job) (t : Turned) : Type 0 where
  pub waited : t.job.waited ≤ t.job.wait
  pub wait : t.job.wait ≡ j.wait
  pub fewer : is_going t.step ≡ true → turns_left t.job < turns_left j
