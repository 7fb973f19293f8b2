-- Servers with unended jobs, whose recoveries cover their replicas so far.
use Rattle.std.specs.Prelude.{ℕ, List, All}
use Rattle.unended_laws.specs.Prelude.{Flight, Unended}
use Rattle.unended_jobs.specs.RecoveryPlans.Recoveries.{Recovery}
use Rattle.unended_laws.specs.CoveredBeside.{IsAimedBeside, IsCoveredBeside, IsKeptBeside, IsSpeakingBeside}

-- in every state, with errant writes or without, beside HeldJobs
pub record CoveredJobs (f : Flight) (us : List Unended) : Type 0 where
  pub jobs : All (IsCoveredBeside f.world) us

-- in every one without errant writes, beside SoundJobs
pub record KeptJobs (f : Flight) (us : List Unended) : Type 0 where
  pub jobs : All (IsKeptBeside f.world) us

-- in every state, whatever the servers are
pub record SpeakingJobs (us : List Unended) : Type 0 where
  pub jobs : All IsSpeakingBeside us

-- each recovery is about what one began with, by its number
pub record AimedJobs (begun : ℕ → Recovery) (us : List Unended) : Type 0 where
  pub jobs : All (IsAimedBeside begun) us
