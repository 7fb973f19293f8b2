use Rattle.std.proofs.Common.{◌≡◌, length, vec_capacity}
use Rattle.openings.proofs.Joined.{Takes}
use Rattle.openings.proofs.histories.history_of.Given as goal

abbrev pub invariant-loop-part : goal.invariant-loop-part
invariant-loop-part l =
    Takes l.parts l.count l.part-index l.history.items l.own × (vec_capacity l.history ≡ l.room) × (length l.own ≡ l.origins)
