-- How filters judge clusters, one filter after another.
use Rattle.std.specs.Prelude.{◌||◌, List}
use Rattle.cluster_filters.specs.Forms.{Form, form_matches, some_matches}
use Rattle.cluster_filters.specs.Forms as form
use Rattle.cluster_filters.specs.declared.judge.FormSearch.{FormSearch}
use Rattle.cluster_filters.specs.declared.judge.FormSearch.TheVariants as search
use Rattle.cluster_filters.specs.declared.judge.Judged.{Judged}

-- the form that a search is for
abbrev pub form_sought : FormSearch → Form
form_sought search.Everything = form.Everything
form_sought (search.AliasIs text) = form.AliasIs text.now
form_sought (search.AliasHas pattern) = form.AliasHas pattern
form_sought (search.NameHas pattern) = form.NameHas pattern

-- the cluster, which also matches if this form matches it
abbrev pub judged_by : Form → Judged → Judged
judged_by form c = record c { matches = c.matches || form_matches c.name.now c.alias.now form }

-- the cluster, which also matches if one of these forms matches it
abbrev pub judged : List Form → Judged → Judged
judged forms c = record c { matches = c.matches || some_matches c.name.now c.alias.now forms }
