-- That servers with jobs, and what is kept of them, stay within clusters.
use Rattle.std.specs.Prelude.{◌≡◌, List, [], ◌∷◌, All, IfSome, Some}
use Rattle.tidy_laws.specs.Prelude.{AllAllowed, Allowed, Flight, Job, Passage, Placed, Turned, World, job_at, passed, turned}
use Rattle.tidy_laws.specs.Prelude.pass
use Rattle.tidy_laws.specs.Clusters.{Clusters}
use Rattle.tidy_laws.specs.Trim.{AllOrderly, IsOrderly, IsTrim}
use Rattle.tidy_laws.specs.Within.{IsReadWithin, IsWithinCluster}

-- the servers have `Placed` and `IsTrim`, and each bridge and each slot's reading is within a cluster
pub record IsNeat (c : Clusters) (f : Flight) : Type 0 where
  pub placed : Placed f.world
  pub trim : IsTrim c f.world
  pub rings : All (All (IsWithinCluster c)) f.rings
  pub slots : All (λ slot. IfSome slot (IsReadWithin c)) f.slots

-- a turn's exchanges are allowed and in order, and so is what it observes
pub record IsNeatTurn (c : Clusters) (w : World) (t : Turned) : Type 0 where
  pub allowed : AllAllowed w t.exchanges
  pub orderly : AllOrderly c w t.exchanges
  pub read : IfSome t.observation (IsReadWithin c)

abbrev pub IsNeatPassage : Clusters → Flight → Passage → Type 0
IsNeatPassage c f (pass.Exchanging e) = Allowed f.world e × IsOrderly c f.world e
IsNeatPassage c f (pass.Polling p n read now) = Unit {0}
IsNeatPassage c f (pass.Storing p keeps) = Unit {0}
IsNeatPassage c f (pass.Discovering n read now) = Unit {0}
IsNeatPassage c f (pass.Forgetting n) = Unit {0}
IsNeatPassage c f pass.Restarting = Unit {0}
IsNeatPassage c f (pass.Beginning list j) = Unit {0}
IsNeatPassage c f (pass.Turning id read now keeps) = (j : Job) → job_at f.jobs id ≡ Some j → IsNeatTurn c f.world (turned f.world read now j)
IsNeatPassage c f (pass.Taking id t keeps) = IsNeatTurn c f.world t

abbrev pub AreNeatPassages : Clusters → Flight → List Passage → Type 0
AreNeatPassages c f [] = Unit {0}
AreNeatPassages c f (p ∷ ps) = IsNeatPassage c f p × AreNeatPassages c (passed f p) ps
