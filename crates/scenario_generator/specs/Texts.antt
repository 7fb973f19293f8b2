-- The scenario as JSON: compact, in one line, the keys of each object in the order of their bytes.
use Rattle.std.specs.Prelude.{ℕ, ◌+◌, ◌∷◌, ◌++◌, List, [], Bool, true, false, length, drop, codes, decimal}
use Rattle.serde_json.specs.Data.{Data, unsigned, number, string, array, object, Items, no_items, item, no_members, member}
use Rattle.serde_json.specs.Written.{comma_if, compact_text}
use Rattle.scenario_generator.specs.declared.server.DrawnServer.{DrawnServer}
use Rattle.scenario_generator.specs.declared.server.DrawnServer.TheVariants.{Root, Replica}
use Rattle.scenario_generator.specs.declared.turn.DrawnTurn.{DrawnTurn}
use Rattle.scenario_generator.specs.declared.turn.DrawnTurn.TheVariants.{Write, Fetch, Apply, Rotate, PollRead, PollStore}
use Rattle.scenario_generator.specs.Servers.{servers_from}
use Rattle.scenario_generator.specs.Turns.{turns_from}

-- ---- the value

-- four digits at least
abbrev pub padded : List ℕ → List ℕ
padded digits = drop (length digits) (codes "0000") ++ digits

-- the name of the server of a number: `s` and that number counted from 1
unfoldable pub server_name : ℕ → List ℕ
server_name n = codes "s" ++ padded (decimal (n + 1))

abbrev pub name_data : ℕ → Data
name_data n = string (server_name n)

-- 20 transactions of 100 bytes that the server took itself
abbrev pub history_data : ℕ → Data
history_data n = array (item (array (item (name_data n) (item (number (unsigned 100)) (item (number (unsigned 20)) no_items)))) no_items)

-- server n
abbrev pub server_data : ℕ → DrawnServer → Data
server_data n Root = object (member (codes "history") (history_data n) (member (codes "name") (name_data n) no_members))
server_data n (Replica source executed) =
    object (member (codes "executed") (number (unsigned executed)) (member (codes "name") (name_data n) (member (codes "source") (name_data source) no_members)))

-- a word and a server
abbrev pub at_server : List ℕ → ℕ → Data
at_server word n = array (item (string word) (item (name_data n) no_items))

abbrev pub turn_data : DrawnTurn → Data
turn_data (Write root size) = array (item (string (codes "write")) (item (name_data root) (item (number (unsigned size)) no_items)))
turn_data (Fetch n) = at_server (codes "fetch") n
turn_data (Apply n) = at_server (codes "apply") n
turn_data (Rotate n) = at_server (codes "rotate") n
turn_data (PollRead n) = array (item (string (codes "poll-read")) (item (number (unsigned 0)) (item (name_data n) no_items)))
turn_data PollStore = array (item (string (codes "poll-store")) (item (number (unsigned 0)) no_items))

-- the servers, of which the first has number n
abbrev pub servers_data : ℕ → List DrawnServer → Items
servers_data n [] = no_items
servers_data n (s ∷ ss) = item (server_data n s) (servers_data (n + 1) ss)

abbrev pub turns_data : List DrawnTurn → Items
turns_data [] = no_items
turns_data (t ∷ ts) = item (turn_data t) (turns_data ts)

abbrev pub scenario_data : List DrawnServer → List DrawnTurn → Data
scenario_data servers turns =
    object (member (codes "servers") (array (servers_data 0 servers)) (member (codes "turns") (array (turns_data turns)) (member (codes "version") (number (unsigned 1)) no_members)))

-- the scenario of a seed, so many servers and so many turns
unfoldable pub drawn_data : ℕ → ℕ → ℕ → Data
drawn_data seed servers turns =
    let first = servers_from seed servers in
    scenario_data first.drawn (turns_from servers first.number turns).drawn

-- ---- the text

-- with a newline byte at its end
unfoldable pub scenario_text : ℕ → ℕ → ℕ → List ℕ
scenario_text seed servers turns = compact_text (drawn_data seed servers turns) ++ codes "\n"

-- its parts
unfoldable pub server_text : ℕ → DrawnServer → List ℕ
server_text n s = compact_text (server_data n s)

unfoldable pub turn_text : DrawnTurn → List ℕ
turn_text t = compact_text (turn_data t)

-- items with a comma between them, or before each
abbrev pub listed : Bool → Items → List ℕ
listed later no_items = []
listed later (item d ds) = comma_if later ++ (compact_text d ++ listed true ds)

unfoldable pub servers_text : List DrawnServer → List ℕ
servers_text ss = listed false (servers_data 0 ss)

unfoldable pub turns_text : List DrawnTurn → List ℕ
turns_text ts = listed false (turns_data ts)
