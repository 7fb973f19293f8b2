-- What a command that begins a job leaves.
use Rattle.std.specs.Prelude.{List}
use Rattle.command_outcomes.specs.Prelude.{ServerNo, Unended}

-- the servers of which the job takes the leases, and the job
pub record Beginning : Type 0 where
  pub list : List ServerNo
  pub job : Unended
