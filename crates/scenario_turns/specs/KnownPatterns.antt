-- The answers of patterns, by their texts.
use Rattle.std.specs.Prelude.{◌≡◌, ℕ, Bool, true, List, map, Some, String}
use Rattle.scenario_turns.specs.Prelude.{BTreeMap, Global, get_by_text, is_found, is_pattern}

-- these are the answers of a pattern over the servers' printed names
pub record IsKnown (text : List ℕ) (answers : List Bool) (printed : List (List ℕ)) : Type 0 where
  pub reads : is_pattern text ≡ true
  pub told : answers ≡ map (is_found text) printed

abbrev pub AreKnown : BTreeMap (String Global) (List Bool) → List (List ℕ) → Type 0
AreKnown known printed = (text : List ℕ) (answers : List Bool) → get_by_text known text ≡ Some answers → IsKnown text answers printed
