-- Turns as JSON, in the scenario's own form: an array of a word and its parts.
use Rattle.std.specs.Prelude.{ℕ, List, [], ◌++◌, codes, decimal, option_map, unwrap_or, slice_get, Option, Some, None}
use Rattle.serde_json.specs.Data.{Data, string, array, object, no_items, item, Members, no_members, put}
use Rattle.serde_json.specs.Written.{compact_text}
use Rattle.scenarios.specs.OrchBase.declared.server.ServerNo.{ServerNo}
use Rattle.scenarios.specs.OrchBase.Names.{HostPort, printed}
use Rattle.scenarios.specs.OrchBase.Words.{rule_text}
use Rattle.scenarios.specs.ServerWords.Words.{link_text}
use Rattle.scenario_dump.specs.Texts.{list_data}
use Rattle.scenarios.specs.Commands.Names.{word_of}
use Rattle.scenarios.specs.Commands.declared.turn.CommandTurn.{CommandTurn}
use Rattle.scenarios.specs.Turns.declared.turn.Act.{Act}
use Rattle.scenarios.specs.Turns.declared.turn.Act.TheVariants as act
use Rattle.scenarios.specs.Turns.declared.turn.Step.{Step}
use Rattle.scenarios.specs.Turns.declared.turn.Step.TheVariants as step
use Rattle.scenarios.specs.Turns.declared.turn.Turn.{Turn}
use Rattle.scenarios.specs.Turns.declared.turn.Turn.TheVariants as turn
use Rattle.row_texts.specs.Written.{whole}

-- the printed name of the server of a number
abbrev pub name_text : List HostPort → ServerNo → List ℕ
name_text names n = unwrap_or (option_map printed (slice_get names n.0)) []

abbrev pub name_data : List HostPort → ServerNo → Data
name_data names n = string (name_text names n)

-- ---- commands

-- with a member if it is given; an object's members are in the order of their keys
abbrev pub with_given : List ℕ → Option Data → Members → Members
with_given key None ms = ms
with_given key (Some d) ms = put key d ms

-- just the keys that the turn holds; a duration is the decimal text of its seconds
abbrev pub given_members : List HostPort → CommandTurn → Members
given_members names t =
    with_given (codes "rule") (option_map (λ r. string (rule_text r)) t.keys.rule)
    (with_given (codes "reason") (option_map string t.keys.reason)
    (with_given (codes "pattern") (option_map (λ f. string f.text) t.keys.pattern)
    (with_given (codes "owner") (option_map string t.keys.owner)
    (with_given (codes "i") (option_map (name_data names) t.command.i)
    (with_given (codes "duration") (option_map (λ n. string (decimal n)) t.keys.duration)
    (with_given (codes "d") (option_map (name_data names) t.command.d) no_members))))))

abbrev pub given_data : List HostPort → CommandTurn → Data
given_data names t = object (given_members names t)

-- ---- turns

-- a word with no part, with one, and with two
abbrev pub alone : List ℕ → Data
alone word = array (item (string word) no_items)

abbrev pub with_one : List ℕ → Data → Data
with_one word a = array (item (string word) (item a no_items))

abbrev pub with_two : List ℕ → Data → Data → Data
with_two word a b = array (item (string word) (item a (item b no_items)))

abbrev pub step_data : List HostPort → Step → Data
step_data names (step.Write n size) = with_two (codes "write") (name_data names n) (whole size)
step_data names (step.Fetch n) = with_one (codes "fetch") (name_data names n)
step_data names (step.Apply n) = with_one (codes "apply") (name_data names n)
step_data names (step.Fail n) = with_one (codes "fail") (name_data names n)
step_data names (step.Heal n) = with_one (codes "heal") (name_data names n)
step_data names (step.Cut n l) = with_two (codes "cut") (name_data names n) (string (link_text l))
step_data names (step.Join n l) = with_two (codes "join") (name_data names n) (string (link_text l))
step_data names (step.Rotate n) = with_one (codes "rotate") (name_data names n)
step_data names (step.Purge n file) = with_two (codes "purge") (name_data names n) (whole file)

abbrev pub act_data : List HostPort → Act → Data
act_data names (act.PollRead p n) = with_two (codes "poll-read") (whole p) (name_data names n)
act_data names (act.PollStore p) = with_one (codes "poll-store") (whole p)
act_data names (act.Command c) = with_two (codes "command") (string (word_of c.command.name)) (given_data names c)
act_data names (act.Job job) = with_one (codes "job") (whole job)
act_data names act.Scan = alone (codes "scan")
act_data names act.Restart = alone (codes "restart")

abbrev pub turn_data : List HostPort → Turn → Data
turn_data names (turn.Step x) = step_data names x
turn_data names (turn.Tick seconds) = with_one (codes "tick") (whole seconds)
turn_data names (turn.Act a) = act_data names a
turn_data names (turn.As node a) = with_two (codes "as") (whole node) (act_data names a)
turn_data names (turn.Claim node) = with_one (codes "claim") (whole node)
turn_data names (turn.Release node) = with_one (codes "release") (whole node)

-- ---- schedules

-- the line of a schedule: its turns as one compact list
abbrev pub schedule_line : List HostPort → List Turn → List ℕ
schedule_line names ts = codes "schedule " ++ (compact_text (list_data (turn_data names) ts) ++ codes "\n")
