-- The scenario that bytes are, or the first fault of the walk over them.
use Rattle.std.specs.Prelude.{ℕ, ◌+◌, ◌∷◌, ◌&&◌, List, [], Bool, false, length, count_by, nat_le, nat_eq, is_some, if◌then◌else◌, codes, Option, Some, None, Result, Ok}
use Rattle.scenario_reader.specs.Prelude.{BadType, BadVersion, Data, Fault, Given, HostPort, Items, MAX_SCENARIO_LEN, Missing, NotJson, Scenario, ServerInit}
use Rattle.scenario_reader.specs.Prelude.{TooLarge, TooLong, Turn, as_number, as_u64, bool_in, each, expanded, get, holds, in_order, inits_of, is_utf8}
use Rattle.scenario_reader.specs.Prelude.{is_write, items_in, known_of, members_in, needed, no_hooks, no_items, number_in, only_keys, optional, or_fails}
use Rattle.scenario_reader.specs.Prelude.{printed_of, read, rules_of, servers_in, turn_in, under}
use Rattle.scenario_reader.specs.Aliases.{aliases_in}
use Rattle.scenario_reader.specs.Filters.{answered, filters_in, no_filters}
use Rattle.scenario_reader.specs.ReadOpenings.{is_small, listed_count, opening_in}
use Rattle.scenario_reader.specs.declared.head.Head.{Head}
use Rattle.scenario_reader.specs.Blocks.{blocks_in, period_in}
use Rattle.scenario_reader.specs.Hooks.{hooks_in}
use Rattle.scenarios.specs.OrchBase.Gives.{◌>>=◌}

-- ---- the text

-- the value of a text that is UTF-8 and JSON
abbrev pub json_in : List ℕ → Result Data Fault
json_in bytes = or_fails NotJson (if is_utf8 bytes then read bytes else None)

-- ---- the top object

abbrev pub top_keys : List (List ℕ)
top_keys = codes "version" ∷ codes "now" ∷ codes "gtid" ∷ codes "pseudo" ∷ codes "nodes" ∷ codes "block" ∷ codes "blocks" ∷ codes "aliases"
    ∷ codes "filters" ∷ codes "hooks" ∷ codes "servers" ∷ codes "turns" ∷ []

abbrev pub is_one : Option ℕ → Bool
is_one None = false
is_one (Some n) = nat_eq n 1

-- any other number than 1 is another version
unfoldable pub one_in : Data → Result (Unit {0}) Fault
one_in d = do
  n ← or_fails BadType (as_number d)
  holds BadVersion (is_one (as_u64 n))

abbrev pub is_there : List ℕ → Data → Bool
is_there key d = is_some (get key d)

-- ---- the whole

-- no key but the table's, and those that are needed
unfoldable pub keys_in : Data → Result (Unit {0}) Fault
keys_in d = do
  ms ← members_in d
  keys ← only_keys top_keys ms
  holds Missing (is_there (codes "version") d && is_there (codes "servers") d)

-- the keys before the servers
unfoldable pub head_in : Data → Result Head Fault
head_in d = do
  version ← needed (codes "version") one_in d
  moment ← optional (codes "now") (number_in 0 1000000000000000) 0 d
  gtid ← optional (codes "gtid") bool_in false d
  pseudo ← optional (codes "pseudo") (number_in 0 1000000) 0 d
  nodes ← optional (codes "nodes") (number_in 1 16) 1 d
  block ← optional (codes "block") period_in 3600 d
  blocks ← optional (codes "blocks") blocks_in [] d
  aliases ← optional (codes "aliases") aliases_in [] d
  filters ← optional (codes "filters") filters_in no_filters d
  hooks ← optional (codes "hooks") hooks_in no_hooks d
  Ok (record {
    moment = moment;
    gtid = gtid;
    pseudo = pseudo;
    nodes = nodes;
    block = block;
    blocks = blocks;
    aliases = aliases;
    filters = filters;
    hooks = hooks;
  })

-- turns that aren't too many over these servers
unfoldable pub bounded : List ServerInit → List Turn → Result (List Turn) Fault
bounded servers turns = do
  few ← holds TooLarge (nat_le (length turns) 1000000)
  few_writes ← holds TooLarge (is_small (length servers) (listed_count servers + count_by is_write turns))
  Ok turns

-- the turns that the listed ones of so many orchestrators mean, each of which is read before they are counted
unfoldable pub turns_in : List (Option HostPort) → List ServerInit → ℕ → Items → Result (List Turn) Fault
turns_in names servers nodes items = do
  listed ← under (codes "turns") (each (turn_in names (printed_of servers) nodes) items)
  bounded servers (expanded (in_order servers) listed)

-- the opening of the servers, and the turns over them
unfoldable pub scenario_with : Head → List (Option HostPort) × List Given → Items → Result Scenario Fault
scenario_with head given listed = do
  opening ← opening_in (inits_of given.1) head.gtid
  turns ← turns_in given.0 opening.servers head.nodes listed
  Ok (record {
    opening = opening;
    moment = record { 0 = head.moment };
    pseudo = head.pseudo;
    nodes = head.nodes;
    block = head.block;
    blocks = head.blocks;
    aliases = head.aliases;
    filters = answered head.filters head.aliases opening.servers;
    hooks = head.hooks;
    known = known_of given.1;
    rules = rules_of given.1;
    turns = turns;
  })

-- the kind of the turns is met with the keys, and what they say once the servers have no flaw
unfoldable pub scenario_from : Data → Result Scenario Fault
scenario_from d = do
  keys ← keys_in d
  head ← head_in d
  given ← needed (codes "servers") (servers_in head.gtid) d
  listed ← optional (codes "turns") items_in no_items d
  scenario_with head given listed

unfoldable pub scenario_in : List ℕ → Result Scenario Fault
scenario_in bytes = do
  short ← holds TooLong (nat_le (length bytes) MAX_SCENARIO_LEN)
  d ← json_in bytes
  scenario_from d
