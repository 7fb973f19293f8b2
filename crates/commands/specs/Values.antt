-- What the texts of options are read as.
use Rattle.std.specs.Prelude.{ℕ, ◌-◌, ◌*◌, ◌^◌, ◌&&◌, List, [], ◌∷◌, length, take, codes, nat_eq, nat_le, nat_lt, if◌then◌else◌, Option, Some, None, option_map}
use Rattle.std.specs.List.{ends_with}
use Rattle.std.specs.Option.{option_map_or}
use Rattle.std.specs.Str.{all_ascii_digits, bytes_eq}
use Rattle.std.specs.Str.Parse.{digits_value}
use Rattle.server_words.specs.OrchBase.declared.rule.Rule.{Rule}
use Rattle.server_words.specs.OrchBase.declared.rule.Rule.TheVariants.{Prefer, Neutral, PreferNot, MustNot}

-- the rule of promotion of a word
unfoldable pub rule_at : List ℕ → Option Rule
rule_at text =
    if bytes_eq text (codes "prefer") then Some Prefer
    else (if bytes_eq text (codes "neutral") then Some Neutral
    else (if bytes_eq text (codes "prefer_not") then Some PreferNot
    else (if bytes_eq text (codes "must_not") then Some MustNot else None)))

-- ---- numbers: one or more decimal digits, without a sign; zeros may lead

abbrev pub number_at : List ℕ → Option ℕ
number_at digits =
    if nat_le 1 (length digits) && all_ascii_digits digits && nat_lt (digits_value 10 digits) (2 ^ 64)
    then Some (digits_value 10 digits) else None

abbrev pub within : ℕ → ℕ → Option ℕ → Option ℕ
within low high None = None
within low high (Some n) = if nat_le low n && nat_le n high then Some n else None

-- a number from low to high
abbrev pub number_within : ℕ → ℕ → List ℕ → Option ℕ
number_within low high text = within low high (number_at text)

-- ---- durations: a number, and at most one letter of s, m, h, d and w for its unit

-- what is before the letter, if the text ends with it
abbrev pub before : ℕ → List ℕ → Option (List ℕ)
before letter text =
    if ends_with nat_eq text (letter ∷ []) then Some (take (length text - 1) text) else None

-- the text of the number, and the seconds of its unit
abbrev pub number_and_unit : List ℕ → List ℕ × ℕ
number_and_unit text =
    option_map_or (λ t. (t, 1)) (before 115 text)
    (option_map_or (λ t. (t, 60)) (before 109 text)
    (option_map_or (λ t. (t, 3600)) (before 104 text)
    (option_map_or (λ t. (t, 86400)) (before 100 text)
    (option_map_or (λ t. (t, 604800)) (before 119 text) (text, 1)))))

-- the seconds of a duration, of at most 365 days
abbrev pub seconds_at : List ℕ → Option ℕ
seconds_at text =
    let parts = number_and_unit text in
    within 1 31536000 (option_map (λ n. n * parts.1) (number_at parts.0))
