-- Why a recovery finds nobody who takes the failed server's place.
use Rattle.std.specs.Prelude.{◌≡◌, Bool, true, false, List, All}
use Rattle.recovery_reasons.specs.Prelude.{BookState, Decision, Decisions, IsNext, MayDecide, Moment, Recovery, Task, World, decided_by}
use Rattle.recovery_reasons.specs.Prelude.{ground_of, may_lead}
use Rattle.recovery_reasons.specs.Prelude.move
use Rattle.recovery_reasons.specs.Prelude.task
use Rattle.recovery_reasons.specs.OnWay.{chooses}

-- nobody is found who takes the failed server's place
abbrev pub finds_nobody : Decision → Bool
finds_nobody (move.Sticks t ts) = true
finds_nobody (move.ChoosesNobody ts) = true
finds_nobody (move.Reads n ts) = false
finds_nobody (move.Drains n ts) = false
finds_nobody (move.Sends n by ts) = false
finds_nobody (move.Expels n ts) = false
finds_nobody (move.Releases n ts) = false
finds_nobody (move.Looks n x ts) = false
finds_nobody (move.Yields x ts) = false
finds_nobody (move.Chooses p ts) = false
finds_nobody (move.Hands d ds by ts) = false
finds_nobody (move.Leaves d ds ts) = false
finds_nobody (move.HandedOver ts) = false
finds_nobody (move.Passes ts) = false
finds_nobody (move.Sorts ts) = false
finds_nobody (move.Levels p q) = false
finds_nobody move.Remains = false
finds_nobody (move.Crowns p) = false
finds_nobody (move.Rejoins p) = false
finds_nobody move.Closes = false

-- decisions one after another, none of which is so
pub data DecisionsElse (w : World) (b : BookState) (now : Moment) : Recovery → Recovery → Type 0 where
  Still : {r : Recovery} → DecisionsElse w b now r r
  Then : {r s : Recovery} (d : Decision) → MayDecide (ground_of w b now) r d → finds_nobody d ≡ false → DecisionsElse w b now (decided_by (ground_of w b now) r d) s
      → DecisionsElse w b now r s

-- Why no operation is left after a turn's decisions: that is so only in a recovery that chooses its new source. The
-- first decision that finds nobody is a choice among the drained. Each of them doesn't log or is barred, as the book is
-- now.
pub record HasNobody (w : World) (b : BookState) (now : Moment) (r d : Recovery) : Type 0 where
  pub choosing : chooses r.purpose ≡ true
  pub at : Recovery
  pub left : List Task
  pub before : DecisionsElse w b now r at
  pub next : IsNext at task.Choosing left
  pub none : All (λ s. may_lead (ground_of w b now) s ≡ false) at.drained
  pub later : Decisions (ground_of w b now) (decided_by (ground_of w b now) at (move.ChoosesNobody left)) d
