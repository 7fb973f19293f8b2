-- The two lists of filters, and which servers' clusters pass them.
use Rattle.std.specs.Prelude.{◌≡◌, ℕ, ◌∷◌, List, [], Bool, true, map, codes, All, Result, Ok}
use Rattle.scenario_reader.specs.Prelude.{Alias, Data, Fault, FilterList, ServerInit, each, form_of, forms_of, has_pattern, holds, items_in}
use Rattle.scenario_reader.specs.Prelude.{members_in, only_keys, optional, some_matches, text_in}
use Rattle.scenarios.specs.declared.filters.ClusterFilters.{ClusterFilters}
use Rattle.scenario_values.specs.declared.fault.FaultCode.TheVariants.{BadPattern}
use Rattle.scenario_reader.specs.declared.filters.FilterTexts.{FilterTexts}
use Rattle.scenario_reader.specs.Aliases.{alias_of}
use Rattle.scenarios.specs.OrchBase.Gives.{◌>>=◌}

-- the text of a filter, whose regular expression, if it has one, has a pattern
unfoldable pub filter_in : Data → Result (List ℕ) Fault
filter_in d = do
  text ← text_in d
  good ← holds BadPattern (has_pattern (form_of text))
  Ok text

unfoldable pub list_in : Data → Result (List (List ℕ)) Fault
list_in d = do
  items ← items_in d
  each filter_in items

-- the one filter that lets every cluster through
abbrev pub everything : List (List ℕ)
everything = codes "*" ∷ []

abbrev pub filter_keys : List (List ℕ)
filter_keys = codes "master" ∷ codes "intermediate" ∷ []

unfoldable pub filters_in : Data → Result FilterTexts Fault
filters_in d = do
  ms ← members_in d
  keys ← only_keys filter_keys ms
  master ← optional (codes "master") list_in everything d
  intermediate ← optional (codes "intermediate") list_in everything d
  Ok (record { master = master; intermediate = intermediate })

-- without the key each list lets every cluster through
abbrev pub no_filters : FilterTexts
no_filters = record { master = everything; intermediate = everything }

-- each filter's regular expression, if it has one, has a pattern
abbrev pub HavePatterns : List (List ℕ) → Type 0
HavePatterns texts = All (λ text. has_pattern (form_of text) ≡ true) texts

pub record AreRead (f : FilterTexts) : Type 0 where
  pub master : HavePatterns f.master
  pub intermediate : HavePatterns f.intermediate

-- whether a server's cluster passes the filters of these texts
abbrev pub passes : List (List ℕ) → List Alias → ServerInit → Bool
passes texts aliases i = some_matches i.settings.cluster (alias_of aliases i.settings.cluster) (forms_of texts)

-- the texts, with an answer for each server
abbrev pub answered_list : List (List ℕ) → List Alias → List ServerInit → FilterList
answered_list texts aliases servers = record { texts = texts; passes = map (passes texts aliases) servers }

abbrev pub answered : FilterTexts → List Alias → List ServerInit → ClusterFilters
answered f aliases servers = record { master = answered_list f.master aliases servers; intermediate = answered_list f.intermediate aliases servers }
