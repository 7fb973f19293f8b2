use Rattle.std.proofs.Common.{◌≡◌, false, map, take}
use Rattle.cluster_filters.specs.Forms.{some_matches, form_seen}
use Rattle.cluster_filters.proofs.filters.Filters.matches.Given as goal

abbrev pub invariant-loop-filter : goal.invariant-loop-filter
invariant-loop-filter l = some_matches l.name l.alias (map form_seen (take l.filter-index l.filter-items)) ≡ false
