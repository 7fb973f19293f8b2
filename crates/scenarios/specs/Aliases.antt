-- The clusters' aliases.
use Rattle.std.specs.Prelude.{ℕ, nat_eq, if◌then◌else◌, List, [], ◌∷◌}
use Rattle.std.specs.Cmp.Lexicographic.{pointwise}
use Rattle.scenarios.specs.declared.filters.Alias.{Alias}

-- the alias of a cluster: empty if it has none
abbrev pub alias_of : List Alias → List ℕ → List ℕ
alias_of [] cluster = []
alias_of (a ∷ rest) cluster = if pointwise nat_eq a.cluster cluster then a.alias else alias_of rest cluster
