use Rattle.std.proofs.Common.{ℕ, ◌<◌, get_or}
use Rattle.openings.proofs.Prelude.{IsPart, Part}
use Rattle.openings.proofs.histories.past_origins.Given as goal

abbrev pub invariant-loop-part : goal.invariant-loop-part
invariant-loop-part l = (k : ℕ) (d : Part) → k < l.part-index → IsPart l.past (get_or l.parts k d)
