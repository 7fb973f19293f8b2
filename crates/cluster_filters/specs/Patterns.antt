-- Regular expressions: what `regex` reads in a text, and the place at which it is found. Rust's regex syntax, "Syntax".
use Rattle.std.specs.Prelude.{ℕ, Bool, false, List, Option, option_map, is_some, nat_le}
use Rattle.std.specs.Option.{option_map_or}
use Rattle.std.specs.Str.{chars}
use Rattle.regex_syntax.specs.Brackets.{Nested}
use Rattle.regex_syntax.specs.Grammar.{read}
use Rattle.regex.specs.Patterns.{Re, find_str, default_config}

-- the text's pattern, and how deep it nests; nothing if the text is no regular expression
unfoldable pub pattern_of : List ℕ → Option (Nested Re)
pattern_of text = option_map (λ p. p.0) (read default_config (chars text))

-- the text has a pattern, which nests no deeper than `regex` takes
unfoldable pub is_pattern : List ℕ → Bool
is_pattern text = option_map_or (λ pattern. nat_le pattern.depth default_config.nest_limit) (pattern_of text) false

-- the text's pattern is found anywhere in the other text
unfoldable pub is_found : List ℕ → List ℕ → Bool
is_found text within = option_map_or (λ pattern. is_some (find_str pattern.value within 0)) (pattern_of text) false
