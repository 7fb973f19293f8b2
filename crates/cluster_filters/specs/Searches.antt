-- What a matcher that goes from text to text answers of each.
use Rattle.std.specs.Prelude.{◌≡◌, ℕ, ◌<◌, List, get_or, is_some}
use Rattle.regex.specs.Patterns.{find_str}
use Rattle.regex.specs.Strings.{matcher_pattern}
use Rattle.regex.specs.declared.string.matcher.Matcher.{Matcher}
use Rattle.cluster_filters.specs.Patterns.{is_found}

-- of each text whether the pattern is found there
abbrev pub IsSearchOf : List ℕ → Matcher → Type 0
IsSearchOf pattern m = (text : List ℕ) → ((k : ℕ) → get_or text k 0 < 256) →
    is_some (find_str (matcher_pattern m) text 0) ≡ is_found pattern text
