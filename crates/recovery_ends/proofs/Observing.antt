-- What a turn of a recovery observes is what its operation does.
use Rattle.std.proofs.Common.{◌≡◌, refl, Option, Some, None, List}
use Rattle.recovery_ends.proofs.Prelude.{Attempt, Cause, Exchange, Fate, Job, Observation, Op, Recovery, World, attempted, barred_by, fate, met}
use Rattle.recovery_ends.proofs.Prelude.{on_going, settled}
use Rattle.recovery_ends.proofs.Prelude.attempt
use Rattle.recovery_ends.proofs.Prelude.taking

met-observes : (w : World) (r : Recovery) (c : Cause) (ob : Option Observation) (x : Fate) → (met w r c ob x).observation ≡ ob
met-observes w r c ob taking.Fails = refl
met-observes w r c ob _ = refl

going-observes : (w : World) (r : Recovery) (o : Op) (ob : Option Observation) (es : List Exchange) (j : Job) (c : Option Cause) → (on_going w r o ob es j c).observation ≡ ob
going-observes w r o ob es j None = refl
going-observes w r o ob es j (Some c) = refl

pub attempted-observes : (w : World) (r : Recovery) (o : Op) (j : Job) (a : Attempt) → (attempted w r o a).observation ≡ (settled j a).observation
attempted-observes w r o j (attempt.Goes ob es k) = going-observes w r o ob es k (barred_by r.stage r.failed k.seen)
attempted-observes w r o j (attempt.Stops c ob) = met-observes w r c ob (fate w r.purpose r.stage c)
attempted-observes w r o j (attempt.Ends lines) = refl
