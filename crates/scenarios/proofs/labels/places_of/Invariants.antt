use Rattle.scenarios.proofs.Prelude.{ArePlaces}
use Rattle.scenarios.proofs.labels.places_of.Given as goal

abbrev pub invariant-loop-server : goal.invariant-loop-server
invariant-loop-server g l = ArePlaces g.T.Labelled.label_of l.entries l.places.items
