-- The clusters' labels of all servers in order.
use Rattle.std.specs.Prelude.{ℕ, ◌+◌, ◌∷◌, List, []}
use Rattle.scenario_servers.specs.declared.given.Given.{Given}
use Rattle.scenario_servers.specs.Openings.{label_of}

abbrev pub labels_from : List Given → ℕ → List Given → List (List ℕ)
labels_from gs n [] = []
labels_from gs n (x ∷ xs) = label_of gs n x ∷ labels_from gs (n + 1) xs

abbrev pub labels_of : List Given → List (List ℕ)
labels_of gs = labels_from gs 0 gs
