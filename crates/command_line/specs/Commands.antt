-- What `-c` names, whether it has the options that it needs, and what may be asked for in place of its answer.
use Rattle.std.specs.Prelude.{Bool, true, false, List, ◌&&◌, ◌||◌, not, codes, is_some, Option, Some, None, Result, Ok, Err, if◌then◌else◌}
use Rattle.std.specs.Option.{option_map_or}
use Rattle.std.specs.Str.{bytes_eq}
use Rattle.clap.specs.Walk.{Row, Text, first_of}
use Rattle.commands.specs.declared.arguments.Needs.{Needs}
use Rattle.commands.specs.Names.{name_of, needs_of}
use Rattle.commands.specs.Table.{nothing}
use Rattle.commands.specs.declared.route.Route.{Route}
use Rattle.commands.specs.declared.route.Route.TheVariants.{Discovers, Forgets, Asks, Decides, Begins, Recovers, TakesOver}
use Rattle.commands.specs.Routes.{route_of}
use Rattle.command_line.specs.declared.command.Own.{Own}
use Rattle.command_line.specs.declared.command.Own.TheVariants.{Run, Generate, Dump, Live}
use Rattle.command_line.specs.declared.usage.Usage.{Usage}
use Rattle.command_line.specs.declared.usage.Usage.TheVariants.{BadWords}
use Rattle.command_line.specs.Usages.{or_bad}
use Rattle.orch_base.specs.Gives.{◌>>=◌}

-- what the program itself does by this name, if it is none of the commands'
abbrev pub own_at : Text → Option Own
own_at word =
    if bytes_eq word (codes "run") then Some Run else
    (if bytes_eq word (codes "generate") then Some Generate else
    (if bytes_eq word (codes "dump") then Some Dump else
    (if bytes_eq word (codes "live") then Some Live else None)))

-- it is a word of the program's own, or a command's
abbrev pub is_taken_word : Text → Bool
is_taken_word word = is_some (own_at word) || is_some (name_of word)

-- what the command of this name needs; the program's own need nothing
unfoldable pub needs_at : Text → Needs
needs_at word = option_map_or needs_of (name_of word) nothing

-- whether an option is given
abbrev pub is_given : Text → List Row → Bool
is_given id rows = is_some (first_of id rows)

-- each option that is needed is given
abbrev pub has_needed : Needs → List Row → Bool
has_needed needs rows =
    (is_given (codes "i") rows || not needs.i) && (is_given (codes "d") rows || not needs.d)
    && (is_given (codes "promotion-rule") rows || not needs.rule) && (is_given (codes "pattern") rows || not needs.pattern)

-- the text of `-c`, which is a word of the program's own or a command's, and has what it needs
unfoldable pub command_in : List Row → Result Text Usage
command_in rows = do
  command ← or_bad (first_of (codes "c") rows)
  if is_taken_word command && has_needed (needs_at command) rows then Ok command else Err BadWords

-- ---- plans

-- a command that begins a job: that of a recovery or a regroup has several branches, of which the expected one is
-- printed
abbrev pub has_plan : Route → Bool
has_plan Discovers = false
has_plan Forgets = false
has_plan (Asks question) = false
has_plan (Decides decision) = false
has_plan (Begins planner) = true
has_plan Recovers = true
has_plan TakesOver = true

-- the word of such a command
abbrev pub is_plan_word : Text → Bool
is_plan_word word = option_map_or (λ name. has_plan (route_of name)) (name_of word) false

-- whether a plan is asked for, which only such a command has
abbrev pub plan_in : Text → Bool → Result Bool Usage
plan_in word false = Ok false
plan_in word true = if is_plan_word word then Ok true else Err BadWords

-- ---- the servers after a command

-- it is a command's word, and nothing else is asked for on out
abbrev pub may_dump : Text → Bool → Bool → Bool
may_dump word plan tables = not (is_some (own_at word)) && not plan && not tables

-- whether the servers after the command are asked for
abbrev pub dump_in : Text → Bool → Bool → Bool → Result Bool Usage
dump_in word plan tables false = Ok false
dump_in word plan tables true = if may_dump word plan tables then Ok true else Err BadWords
