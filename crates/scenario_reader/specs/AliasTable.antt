-- Tables of the clusters' aliases, and of which clusters pass filters.
use Rattle.std.specs.Prelude.{◌≡◌, ℕ, All, Bool, List, [], false, map, Some}
use Rattle.scenario_reader.specs.Prelude.{Alias, FilterList, Form, ServerInit, bytes_eq, forms_of, some_matches}
use Rattle.std.specs.HashMap.{HashMap, get_by}
use Rattle.std.specs.Option.{option_map_or}
use denote.Ref.{Bor}
use Rattle.cluster_filters.specs.declared.judge.Judged.{Judged}
use Rattle.scenario_reader.specs.Aliases.{alias_of}

-- the alias that a table has for a cluster: empty if it has none
abbrev pub alias_at : {S : Type 0} → HashMap (Bor (List ℕ)) (Bor (List ℕ)) S → List ℕ → List ℕ
alias_at table cluster = option_map_or (λ a. a.now) (get_by (λ k. bytes_eq cluster k.now) table) []

abbrev pub IsAliasTable : {S : Type 0} → HashMap (Bor (List ℕ)) (Bor (List ℕ)) S → List Alias → Type 0
IsAliasTable table aliases = (cluster : List ℕ) → alias_at table cluster ≡ alias_of aliases cluster

-- whether a server's cluster passes, if this gives each cluster's alias
abbrev pub passes_by : (List ℕ → List ℕ) → List Form → ServerInit → Bool
passes_by alias forms i = some_matches i.settings.cluster (alias i.settings.cluster) forms

abbrev pub answered_by : (List ℕ → List ℕ) → List (List ℕ) → List ServerInit → FilterList
answered_by alias texts servers = record { texts = texts; passes = map (passes_by alias (forms_of texts)) servers }

-- these are answers of the filters, by the clusters' labels
abbrev pub AreKnown : {S : Type 0} → HashMap (Bor (List ℕ)) Bool S → (List ℕ → List ℕ) → List Form → Type 0
AreKnown known alias forms = (cluster : List ℕ) (b : Bool) → get_by (λ k. bytes_eq cluster k.now) known ≡ Some b → b ≡ some_matches cluster (alias cluster) forms

-- each cluster has its alias, and isn't judged yet
abbrev pub AreUnjudged : (List ℕ → List ℕ) → List Judged → Type 0
AreUnjudged alias clusters = All (λ c. (c.alias.now ≡ alias c.name.now) × (c.matches ≡ false)) clusters

-- this is the answer of the filters for the cluster
abbrev pub IsAnswer : (List ℕ → List ℕ) → List Form → Judged → Type 0
IsAnswer alias forms c = c.matches ≡ some_matches c.name.now (alias c.name.now) forms
