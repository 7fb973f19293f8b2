-- The rows that a row store gave, in rising order.
use Rattle.std.proofs.Common.{◌≡◌, ◌∙◌, List, Option, None, Some, IfSome}
use Rattle.command_outcomes.specs.KeptRows.Keeping.{GivesAll}
use Rattle.command_outcomes.specs.KeptRows.Rows.{map_of}
use Rattle.command_outcomes.specs.KeptRows.declared.row.Row.{Row}

pub map_told : (kept : Option (List Row)) (given map : List Row) → GivesAll kept given → map ≡ map_of given → IfSome kept (λ rows. map ≡ rows)
map_told None given map all is = tt
map_told (Some rows) given map all is = is ∙ all
