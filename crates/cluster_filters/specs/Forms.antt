-- The four forms of a cluster filter, and which clusters each matches.
use Rattle.std.specs.Prelude.{ℕ, Bool, true, not, List, length, drop, map, codes, nat_eq, Option, Some, None, position, String, string_bytes, if◌then◌else◌}
use Rattle.std.specs.Cmp.Lexicographic.{pointwise}
use Rattle.std.specs.List.{list_any, starts_with}
use Rattle.std.specs.Option.{option_map_or}
use Rattle.cluster_filters.specs.Patterns.{is_pattern, is_found}
use Rattle.cluster_filters.specs.declared.filter.Filter.{Filter}
use Rattle.cluster_filters.specs.declared.filter.Filter.TheVariants as filter

pub data Form : Type 0 where
  Everything : Form
  AliasIs : List ℕ → Form
  AliasHas : List ℕ → Form
  NameHas : List ℕ → Form

-- what follows the prefix, in a text that begins with it
abbrev pub behind : List ℕ → List ℕ → Option (List ℕ)
behind prefix text = if starts_with nat_eq text prefix then Some (drop (length prefix) text) else None

-- `*`, else `alias=TEXT`, else `alias~=REGEX`, else the whole text is a regular expression
abbrev pub form_of : List ℕ → Form
form_of text = if pointwise nat_eq text (codes "*") then Everything else
    option_map_or AliasIs (behind (codes "alias=") text)
    (option_map_or AliasHas (behind (codes "alias~=") text) (NameHas text))

-- the form's regular expression, if it has one, has a pattern
abbrev pub has_pattern : Form → Bool
has_pattern Everything = true
has_pattern (AliasIs text) = true
has_pattern (AliasHas regex) = is_pattern regex
has_pattern (NameHas regex) = is_pattern regex

-- whether the form matches the cluster with this name and this alias
abbrev pub form_matches : List ℕ → List ℕ → Form → Bool
form_matches name alias Everything = true
form_matches name alias (AliasIs text) = pointwise nat_eq alias text
form_matches name alias (AliasHas regex) = is_found regex alias
form_matches name alias (NameHas regex) = is_found regex name

-- some form matches
abbrev pub some_matches : List ℕ → List ℕ → List Form → Bool
some_matches name alias forms = list_any (form_matches name alias) forms

-- the place of the first form whose regular expression has no pattern
abbrev pub first_bad : List Form → Option ℕ
first_bad forms = position (λ form. not (has_pattern form)) forms

-- the bytes of each text
abbrev pub texts_of : {A : Type 0} → List (String A) → List (List ℕ)
texts_of strings = map string_bytes strings

-- the forms of a list of texts
abbrev pub forms_of : List (List ℕ) → List Form
forms_of texts = map form_of texts

-- the form that a filter was read from
abbrev pub form_seen : Filter → Form
form_seen filter.Everything = Everything
form_seen (filter.AliasIs text) = AliasIs (string_bytes text)
form_seen (filter.AliasHas pattern) = AliasHas pattern
form_seen (filter.NameHas pattern) = NameHas pattern
