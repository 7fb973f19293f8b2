-- How a book is loaded anew: the instances' places are set one after another, those without a row to none.
use Rattle.std.specs.Prelude.{ℕ, zero, suc, ◌&&◌, nat_le, if◌then◌else◌, List, [], ◌∷◌, Option, None, Some}
use Rattle.instance_keeper.specs.Prelude.{Row, row_fits}
use Rattle.instance_keeper.specs.Prelude.row
use Rattle.instance_keeper.specs.Book.{BookState}

-- the first places as they are, and none at the others
abbrev pub first_of : {A : Type 0} → ℕ → List (Option A) → List (Option A)
first_of k [] = []
first_of zero (x ∷ xs) = None ∷ first_of zero xs
first_of (suc k) (x ∷ xs) = x ∷ first_of k xs

-- the book of which only the first places of instances are set
abbrev pub first_set : ℕ → BookState → BookState
first_set k b = record b { instances = first_of k b.instances }

-- the place that a row sets in a book of so many servers, unless it is before the next one
abbrev pub place_from : ℕ → ℕ → Row → Option ℕ
place_from next count (row.Instance i) = if nat_le next i.no.0 && row_fits count (row.Instance i) then Some i.no.0 else None
place_from next count (row.Downtime d) = None
place_from next count (row.Candidate c) = None
place_from next count (row.Recovery r) = None
place_from next count (row.Switch enabled) = None
place_from next count (row.Active node until) = None
