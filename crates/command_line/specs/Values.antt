-- What the texts of the options are read as.
use Rattle.std.specs.Prelude.{ℕ, List, length, nat_le, if◌then◌else◌, Option, Some, None, Result, Ok, Err}
use Rattle.cluster_filters.specs.Patterns.{is_pattern}
use Rattle.orch_base.specs.declared.rule.Rule.{Rule}
use Rattle.commands.specs.Values.{number_within, rule_at, seconds_at}
use Rattle.orch_base.specs.declared.name.NameFault.{NameFault}
use Rattle.orch_base.specs.Gives.{◌>>=◌}
use Rattle.orch_base.specs.Names.{HostPort, name_at}
use Rattle.command_line.specs.declared.usage.Usage.{Usage}
use Rattle.command_line.specs.declared.usage.Usage.TheVariants.{BadWords}

-- an option that isn't given has no value
abbrev pub maybe : {A : Type 0} → (List ℕ → Result A Usage) → Option (List ℕ) → Result (Option A) Usage
maybe read None = Ok None
maybe read (Some text) = read text >>= (λ x. Ok (Some x))

-- an option that isn't given has its default
abbrev pub or_default : {A : Type 0} → A → (List ℕ → Result A Usage) → Option (List ℕ) → Result A Usage
or_default default read None = Ok default
or_default default read (Some text) = read text

-- any text
abbrev pub text_in : List ℕ → Result (List ℕ) Usage
text_in text = Ok text

-- a text of at most so many bytes
abbrev pub text_within : ℕ → List ℕ → Result (List ℕ) Usage
text_within most text = if nat_le (length text) most then Ok text else Err BadWords

-- a text that is a regular expression
abbrev pub pattern_in : List ℕ → Result (List ℕ) Usage
pattern_in text = if is_pattern text then Ok text else Err BadWords

abbrev pub name_or_bad : Result HostPort NameFault → Result HostPort Usage
name_or_bad (Ok name) = Ok name
name_or_bad (Err e) = Err BadWords

abbrev pub name_in : List ℕ → Result HostPort Usage
name_in text = name_or_bad (name_at text)

-- what reads, or `BadWords`
abbrev pub or_bad : {A : Type 0} → Option A → Result A Usage
or_bad None = Err BadWords
or_bad (Some x) = Ok x

abbrev pub rule_in : List ℕ → Result Rule Usage
rule_in text = or_bad (rule_at text)

-- a number from low to high
abbrev pub number_in : ℕ → ℕ → List ℕ → Result ℕ Usage
number_in low high text = or_bad (number_within low high text)

-- a duration in seconds
abbrev pub duration_in : List ℕ → Result ℕ Usage
duration_in text = or_bad (seconds_at text)
