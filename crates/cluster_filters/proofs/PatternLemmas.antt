-- What `regex` promises of a text, by this crate's definitions.
use Rattle.std.proofs.Common.{◌≡◌, ◌≢◌, ℕ, ◌<◌, ◌≤◌, true, false, nat_le, List, length, get_or, Option, Some, None, option_map, is_some, IsSomeAnd, IfSome, refl, inl, inr, arith}
use Rattle.std.proofs.lemmas.Bool.Decides.{nat_tests}
use Rattle.std.specs.Option.{option_map_or}
use Rattle.std.specs.Str.{chars}
use Rattle.regex_syntax.specs.Brackets.{Nested}
use Rattle.regex_syntax.specs.Grammar.{Names, group_count, read}
use Rattle.regex_syntax.specs.declared.error.ErrorKind.{ErrorKind}
use Rattle.regex_syntax.specs.declared.error.ErrorKind.TheVariants.{OutOfMemory}
use Rattle.regex.specs.Patterns.{Re, SameCaptures, Reads, Refuses, find_str, default_config}
use Rattle.regex.specs.Strings.{regex_pattern, regex_source, regex_config, IsReadFromSource}
use Rattle.regex.specs.declared.string.regex.Regex.{Regex}
use Rattle.regex.proofs.ForCallers.{is_match_alike}
use Rattle.cluster_filters.specs.Patterns.{pattern_of, is_pattern, is_found}

abbrev Answer : Type 0
Answer = Option (Nested Re × Names)

-- the answer is a pattern within the limit, which matches as the tree does
abbrev IsTree : Answer → ℕ → Re → Names → Type 0
IsTree answer limit tree names = IsSomeAnd answer (λ (re, found).
    (re.depth ≤ limit) × SameCaptures tree re.value × (names ≡ found) × (group_count tree ≤ length names))

within_limit : (answer : Answer) (limit : ℕ) (tree : Re) (names : Names) → IsTree answer limit tree names →
    option_map_or (λ pattern. nat_le pattern.depth limit) (option_map (λ p. p.0) answer) false ≡ true
within_limit None limit tree names h = absurd h
within_limit (Some p) limit tree names h = let low : p.0.depth ≤ limit = h.0 in grind (arith, nat_tests)

found_alike : (answer : Answer) (limit : ℕ) (tree : Re) (names : Names) → IsTree answer limit tree names →
    (hay : List ℕ) → ((k : ℕ) → get_or hay k 0 < 256) →
    is_some (find_str tree hay 0) ≡ option_map_or (λ pattern. is_some (find_str pattern.value hay 0)) (option_map (λ p. p.0) answer) false
found_alike None limit tree names h hay bytes = absurd h
found_alike (Some p) limit tree names h hay bytes = is_match_alike h.1 hay bytes true 0

past_limit : (answer : Answer) (limit : ℕ) → IfSome answer (λ (re, _). limit < re.depth) →
    option_map_or (λ pattern. nat_le pattern.depth limit) (option_map (λ p. p.0) answer) false ≡ false
past_limit None limit h = refl
past_limit (Some p) limit h = let high : limit < p.0.depth = h in grind (arith, nat_tests)

-- what is read is a pattern
pub is_pattern-read : (regex : Regex) → regex_config regex ≡ default_config → IsReadFromSource regex →
    (source : List ℕ) → regex_source regex ≡ source → is_pattern source ≡ true
unfolding is_pattern pattern_of Reads
is_pattern-read regex is_default is_read source is_source =
    within_limit (read default_config (chars source)) _ _ _ (rw (is_source, is_default) at is_read)

-- what is refused is none
pub is_pattern-refused : (source : List ℕ) (kind : ErrorKind) → kind ≢ OutOfMemory → Refuses default_config source kind → is_pattern source ≡ false
unfolding is_pattern pattern_of Refuses
is_pattern-refused source kind some h =
    elim h [
      | inl e ↦ absurd (some e)
      | inr h ↦ elim h [ inl none ↦ rw none | inr deep ↦ past_limit (read default_config (chars source)) _ deep.1 ]
    ]

-- a search by the regex answers whether its text's pattern is found
pub is_found-read : (regex : Regex) → regex_config regex ≡ default_config → IsReadFromSource regex →
    (hay : List ℕ) → ((k : ℕ) → get_or hay k 0 < 256) →
    is_some (find_str (regex_pattern regex) hay 0) ≡ is_found (regex_source regex) hay
unfolding is_found pattern_of Reads
is_found-read regex is_default is_read hay bytes =
    found_alike (read default_config (chars (regex_source regex))) _ _ _ (rw is_default at is_read) hay bytes
