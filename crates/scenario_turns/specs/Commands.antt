-- The command turns: the word is followed by a command's name and by what it is given.
use Rattle.std.specs.Prelude.{ℕ, ◌∷◌, List, [], codes, Option, Result, Ok}
use Rattle.scenario_turns.specs.Prelude.{BadCommand, BadNumber, BadTurn, CommandName, CommandTurn, Data, Fault, Found, HostPort, Items, Keys, fails}
use Rattle.scenario_turns.specs.Prelude.{holds, is_there, item, maybe, members_in, name_of, needs_of, no_items, only_keys, or_fails, rule_in}
use Rattle.scenario_turns.specs.Prelude.{seconds_at, server_named, short_in, text_in, under_item}
use Rattle.scenario_turns.specs.Prelude.Commands.{Command}
use Rattle.scenario_turns.specs.Found.{found_in}
use Rattle.scenarios.specs.OrchBase.Gives.{◌>>=◌}

-- a command's name
unfoldable pub name_in : Data → Result CommandName Fault
name_in d = do
  text ← text_in d
  or_fails BadCommand (name_of text)

-- ---- the keys

-- a duration in seconds
unfoldable pub duration_in : Data → Result ℕ Fault
duration_in d = do
  text ← text_in d
  or_fails BadNumber (seconds_at text)

unfoldable pub pattern_in : List (List ℕ) → Data → Result Found Fault
pattern_in printed d = do
  text ← text_in d
  found_in printed text

abbrev pub command_keys : List (List ℕ)
command_keys = codes "i" ∷ codes "d" ∷ codes "rule" ∷ codes "duration" ∷ codes "reason" ∷ codes "owner" ∷ codes "pattern" ∷ []

-- the instance and the destination, each if it is given; one that is needed is given
unfoldable pub instances_in : List (Option HostPort) → CommandName → Data → Result Command Fault
instances_in names name given = do
  i ← maybe (codes "i") (server_named names) given
  has_i ← holds BadCommand (is_there (needs_of name).i i)
  d ← maybe (codes "d") (server_named names) given
  has_d ← holds BadCommand (is_there (needs_of name).d d)
  Ok (record { name = name; i = i; d = d })

-- the other keys, each if it is given; one that is needed is given; a reason and an owner have at most 255 bytes
unfoldable pub keys_in : List (List ℕ) → CommandName → Data → Result Keys Fault
keys_in printed name given = do
  rule ← maybe (codes "rule") rule_in given
  has_rule ← holds BadCommand (is_there (needs_of name).rule rule)
  duration ← maybe (codes "duration") duration_in given
  reason ← maybe (codes "reason") short_in given
  owner ← maybe (codes "owner") short_in given
  pattern ← maybe (codes "pattern") (pattern_in printed) given
  has_pattern ← holds BadCommand (is_there (needs_of name).pattern pattern)
  Ok (record { rule = rule; duration = duration; reason = reason; owner = owner; pattern = pattern })

-- what a command is given
unfoldable pub given_in : List (Option HostPort) → List (List ℕ) → CommandName → Data → Result CommandTurn Fault
given_in names printed name given = do
  members ← members_in given
  known ← only_keys command_keys members
  command ← instances_in names name given
  keys ← keys_in printed name given
  Ok (record { command = command; keys = keys })

-- ---- the turn

-- what follows the word: two parts
abbrev pub parts_of : Items → Result (Data × Data) Fault
parts_of (item a (item b no_items)) = Ok (a, b)
parts_of _ = fails BadTurn

-- a command turn, by what follows its word, over the servers' names as they are listed and as they are printed
unfoldable pub command_in : List (Option HostPort) → List (List ℕ) → Items → Result CommandTurn Fault
command_in names printed rest = do
  parts ← parts_of rest
  name ← under_item 1 (name_in parts.0)
  under_item 2 (given_in names printed name parts.1)
