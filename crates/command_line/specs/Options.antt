-- The command line as `clap` knows it: each option takes one text, the flags are set by their presence, and none is
-- required.
use Rattle.std.specs.Prelude.{ℕ, List, [], ◌∷◌, codes, fold, Some, Result, Ok, Err, if◌then◌else◌}
use Rattle.std.specs.List.{list_all}
use Rattle.std.specs.Str.{is_utf8}
use Rattle.clap.specs.Faults.{fault_of}
use Rattle.clap.specs.Kinds.{Kinds}
use Rattle.clap.specs.Matches.{found_of}
use Rattle.clap.specs.Simple.{App, matches_of, new_app, new_rule, with_rule}
use Rattle.clap.specs.Walk.{Row, Rule, Text, rows_of}
use Rattle.clap.specs.declared.builder.action.ArgAction.TheVariants.{SetTrue}
use Rattle.clap.specs.declared.parser.matches.ArgMatches.{ArgMatches}
use Rattle.command_line.specs.declared.usage.Usage.{Usage}
use Rattle.command_line.specs.declared.usage.Usage.TheVariants.{BadWords}

-- `-x` and one text
abbrev pub short_rule : ℕ → Text → Rule
short_rule letter id = record (new_rule id) { short = Some letter }

-- `--name` and one text
abbrev pub long_rule : Text → Rule
long_rule name = record (new_rule name) { long = Some name }

-- `--name` alone
abbrev pub flag_rule : Text → Rule
flag_rule name = record (long_rule name) { action = Some SetTrue }

-- the command with these options
abbrev pub with_options : App → List Text → App
with_options app names = fold (λ a name. with_rule a (long_rule name)) app names

-- the options that are given by name, each with one text
abbrev pub option_names : List Text
option_names = codes "scenario" ∷ codes "db" ∷ codes "promotion-rule" ∷ codes "duration" ∷ codes "reason" ∷ codes "owner" ∷ codes "pattern"
    ∷ codes "pollers" ∷ codes "workers" ∷ codes "wait" ∷ codes "seed" ∷ codes "servers" ∷ codes "turns" ∷ []

-- `-c`, `-i` and `-d`
abbrev pub with_letters : App → App
with_letters app = with_rule (with_rule (with_rule app (short_rule 99 (codes "c"))) (short_rule 105 (codes "i"))) (short_rule 100 (codes "d"))

-- `--tables`, `--summary`, `--plan` and `--dump`
abbrev pub with_flags : App → App
with_flags app = with_rule (with_rule (with_rule (with_rule app (flag_rule (codes "tables"))) (flag_rule (codes "summary"))) (flag_rule (codes "plan"))) (flag_rule (codes "dump"))

unfoldable pub orch : App
orch = with_flags (with_options (with_letters (new_app (codes "orch"))) option_names)

-- what a parse found, option by option
abbrev pub rows_in : ArgMatches → List Row
rows_in matches = rows_of (found_of matches)

-- the arguments as texts
unfoldable pub texts_of : List (List ℕ) → Result (List Text) Usage
texts_of words = if list_all is_utf8 words then Ok words else Err BadWords

-- the matches, if no kind of error comes
abbrev pub unless_faulty : Kinds → List Row → Result (List Row) Usage
unless_faulty [] rows = Ok rows
unless_faulty (kind ∷ kinds) rows = Err BadWords

-- clap's matches, if it gives some
unfoldable pub rows_of_texts : List Text → Result (List Row) Usage
rows_of_texts texts = unless_faulty (fault_of orch texts) (matches_of orch texts)
