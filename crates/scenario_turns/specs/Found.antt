-- Patterns, and in which servers' names they are found.
use Rattle.std.specs.Prelude.{ℕ, List, map, Result, Ok}
use Rattle.scenario_turns.specs.Prelude.{BadPattern, Fault, Found, holds, is_found, is_pattern}
use Rattle.scenarios.specs.OrchBase.Gives.{◌>>=◌}

-- a pattern, with an answer for each server's printed name
abbrev pub found_of : List ℕ → List (List ℕ) → Found
found_of text printed = record { text = text; answers = map (is_found text) printed }

-- a text that is a regular expression
unfoldable pub found_in : List (List ℕ) → List ℕ → Result Found Fault
found_in printed text = do
  good ← holds BadPattern (is_pattern text)
  Ok (found_of text printed)
