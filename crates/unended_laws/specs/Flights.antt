-- Servers with unended jobs, plans and recoveries alike.
use Rattle.std.specs.Prelude.{◌≡◌, List, All, map}
use Rattle.unended_laws.specs.Prelude.{AreOwn, Flight, Held, Sound, Unended, core_of}
use Rattle.unended_laws.specs.Beside.{IsHeldBeside, IsSoundBeside}

-- in every state, with errant writes or without: the `Flight` has the jobs' cores, and each ring has bridges of its own
-- server
pub record HeldJobs (f : Flight) (us : List Unended) : Type 0 where
  pub cores : f.jobs ≡ map core_of us
  pub flight : Held f
  pub own : AreOwn f.rings
  pub jobs : All (IsHeldBeside f.world f.leases) us

-- in every one without errant writes, beside
pub record SoundJobs (f : Flight) (us : List Unended) : Type 0 where
  pub flight : Sound f
  pub jobs : All (IsSoundBeside f.world) us
