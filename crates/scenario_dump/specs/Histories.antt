-- Histories as parts: transactions of one origin and size that follow one another are one part.
use Rattle.std.specs.Prelude.{◌+◌, ◌==◌, ◌&&◌, Bool, List, [], ◌∷◌, if◌then◌else◌}
use Rattle.scenario_dump.specs.Prelude.{Part, Txn}

abbrev pub part_of : Txn → Part
part_of t = record { origin = t.origin; size = t.size; count = 1 }

abbrev pub is_like : Txn → Part → Bool
is_like t p = t.origin.0 == p.origin.0 && t.size == p.size

-- the transaction before these parts
abbrev pub behind : Txn → List Part → List Part
behind t [] = part_of t ∷ []
behind t (p ∷ ps) = if is_like t p then record p { count = p.count + 1 } ∷ ps else part_of t ∷ p ∷ ps

unfoldable pub parts_of : List Txn → List Part
parts_of [] = []
parts_of (t ∷ ts) = behind t (parts_of ts)
