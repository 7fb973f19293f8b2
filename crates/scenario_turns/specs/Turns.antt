-- The turns. For each the word comes first, then the number of parts, then whether it may be among the turns of so many
-- orchestrators, then the parts from the left.
use Rattle.std.specs.Prelude.{ℕ, ◌-◌, ◌^◌, ◌&&◌, List, if◌then◌else◌, nat_le, codes, Option, Some, None, Result, Ok}
use Rattle.scenario_turns.specs.Prelude.{Apply, BadNumber, BadTurn, BadType, Command, Cut, Data, Desk, Fail, Fault, Feed, Fetch, Heal, HostPort}
use Rattle.scenario_turns.specs.Prelude.{Items, Job, Join, Link, NodeTurn, PollRead, PollStore, Purge, Restart, Rotate, Scan, ServerNo, Turn, Write}
use Rattle.scenario_turns.specs.Prelude.{as_number, as_u64, fails, holds, item, items_in, no_items, number_in, or_fails, server_named, text_in}
use Rattle.scenario_turns.specs.Prelude.{under_item}
use Rattle.scenario_turns.specs.Prelude.turn
use Rattle.scenario_turns.specs.Commands.{command_in}
use Rattle.scenario_turns.specs.declared.expansion.ListedTurn.{ListedTurn}
use Rattle.scenario_turns.specs.declared.expansion.ListedTurn.TheVariants.{One, Polls, Round}
use Rattle.scenario_turns.specs.declared.word.Word.{Word}
use Rattle.scenario_turns.specs.declared.word.Word.TheVariants as word
use Rattle.scenario_turns.specs.Expansion.{done_by}
use Rattle.scenario_turns.specs.Words.{has_parts, is_word, stands, word_at}
use Rattle.scenarios.specs.OrchBase.Gives.{◌>>=◌}

abbrev pub link_at : List ℕ → Result Link Fault
link_at text = if is_word (codes "desk") text then Ok Desk else (if is_word (codes "feed") text then Ok Feed else fails BadNumber)

unfoldable pub link_in : Data → Result Link Fault
link_in d = do
  text ← text_in d
  link_at text

abbrev pub one_of : Items → Result Data Fault
one_of (item a no_items) = Ok a
one_of _ = fails BadTurn

abbrev pub two_of : Items → Result (Data × Data) Fault
two_of (item a (item b no_items)) = Ok (a, b)
two_of _ = fails BadTurn

-- S
unfoldable pub server_of : List (Option HostPort) → Items → Result ServerNo Fault
server_of names rest = do
  server ← one_of rest
  under_item 1 (server_named names server)

-- S, N from 1 to a most
unfoldable pub amount_of : List (Option HostPort) → ℕ → Items → Result (ServerNo × ℕ) Fault
amount_of names most rest = do
  parts ← two_of rest
  n ← under_item 1 (server_named names parts.0)
  amount ← under_item 2 (number_in 1 most parts.1)
  Ok (n, amount)

-- S, L
unfoldable pub link_of : List (Option HostPort) → Items → Result (ServerNo × Link) Fault
link_of names rest = do
  parts ← two_of rest
  n ← under_item 1 (server_named names parts.0)
  link ← under_item 2 (link_in parts.1)
  Ok (n, link)

-- N
unfoldable pub seconds_of : Items → Result ℕ Fault
seconds_of rest = do
  number ← one_of rest
  under_item 1 (number_in 0 1000000000 number)

-- P
abbrev pub poller_in : Data → Result ℕ Fault
poller_in d = number_in 0 63 d

-- P, S
unfoldable pub poll_of : List (Option HostPort) → Items → Result (ℕ × ServerNo) Fault
poll_of names rest = do
  parts ← two_of rest
  p ← under_item 1 (poller_in parts.0)
  n ← under_item 2 (server_named names parts.1)
  Ok (p, n)

-- P
unfoldable pub poller_of : Items → Result ℕ Fault
poller_of rest = do
  poller ← one_of rest
  under_item 1 (poller_in poller)

-- N
unfoldable pub job_of : Items → Result ℕ Fault
job_of rest = do
  number ← one_of rest
  under_item 1 (number_in 0 (2 ^ 64 - 1) number)

-- the turn of what was read
abbrev pub turn_by : {A : Type 0} → (A → Turn) → Result A Fault → Result ListedTurn Fault
turn_by make read = do
  x ← read
  Ok (One (make x))

-- a word that nothing follows
abbrev pub alone : ListedTurn → Items → Result ListedTurn Fault
alone turn no_items = Ok turn
alone turn _ = fails BadTurn

-- ---- orchestrators

-- a number that is whole and at most 2^64 - 1, or another number
unfoldable pub whole_or_none : Data → Result (Option ℕ) Fault
whole_or_none d = do
  n ← or_fails BadType (as_number d)
  Ok (as_u64 n)

abbrev pub node_or_fails : ℕ → Option ℕ → Result ℕ Fault
node_or_fails nodes None = fails NodeTurn
node_or_fails nodes (Some n) = if nat_le 1 n && nat_le n nodes then Ok n else fails NodeTurn

-- one of so many, as the first part after the word; another number is a fault of the turn
unfoldable pub node_in : ℕ → Data → Result ℕ Fault
node_in nodes d = do
  number ← under_item 1 (whole_or_none d)
  node_or_fails nodes number

-- N
unfoldable pub node_of : ℕ → Items → Result ℕ Fault
node_of nodes rest = do
  number ← one_of rest
  node_in nodes number

-- ---- what orchestrator does

-- what the one orchestrator, or one of several, is to do; a round is no orchestrator's alone
abbrev pub act_of : List (Option HostPort) → List (List ℕ) → Option ℕ → Word → Items → Result ListedTurn Fault
act_of names printed by word.PollRead rest = turn_by (λ p. done_by by (PollRead p.0 p.1)) (poll_of names rest)
act_of names printed by word.PollStore rest = turn_by (λ p. done_by by (PollStore p)) (poller_of rest)
act_of names printed by word.Polls rest = alone (Polls by) rest
act_of names printed by word.Command rest = turn_by (λ c. done_by by (Command c)) (command_in names printed rest)
act_of names printed by word.Job rest = turn_by (λ n. done_by by (Job n)) (job_of rest)
act_of names printed by word.Scan rest = alone (One (done_by by Scan)) rest
act_of names printed by word.Restart rest = alone (One (done_by by Restart)) rest
act_of names printed by word.Round rest = fails NodeTurn
act_of names printed by word.Write rest = fails BadTurn
act_of names printed by word.Fetch rest = fails BadTurn
act_of names printed by word.Apply rest = fails BadTurn
act_of names printed by word.Fail rest = fails BadTurn
act_of names printed by word.Heal rest = fails BadTurn
act_of names printed by word.Rotate rest = fails BadTurn
act_of names printed by word.Purge rest = fails BadTurn
act_of names printed by word.Cut rest = fails BadTurn
act_of names printed by word.Join rest = fails BadTurn
act_of names printed by word.Tick rest = fails BadTurn
act_of names printed by word.Claim rest = fails BadTurn
act_of names printed by word.Release rest = fails BadTurn
act_of names printed by word.As rest = fails BadTurn

unfoldable pub inner_with : List (Option HostPort) → List (List ℕ) → ℕ → Data → Items → Result ListedTurn Fault
inner_with names printed node first rest = do
  text ← under_item 0 (text_in first)
  word ← word_at text
  parts ← holds BadTurn (has_parts word rest)
  act_of names printed (Some node) word rest

abbrev pub inner_from : List (Option HostPort) → List (List ℕ) → ℕ → Items → Result ListedTurn Fault
inner_from names printed node no_items = fails BadTurn
inner_from names printed node (item first rest) = inner_with names printed node first rest

-- the turn that one of several orchestrators takes
unfoldable pub inner_in : List (Option HostPort) → List (List ℕ) → ℕ → Data → Result ListedTurn Fault
inner_in names printed node d = do
  items ← items_in d
  inner_from names printed node items

-- N, TURN
unfoldable pub as_of : List (Option HostPort) → List (List ℕ) → ℕ → Items → Result ListedTurn Fault
as_of names printed nodes rest = do
  parts ← two_of rest
  node ← node_in nodes parts.0
  under_item 2 (inner_in names printed node parts.1)

-- ---- the turn

abbrev pub turn_of : List (Option HostPort) → List (List ℕ) → ℕ → Word → Items → Result ListedTurn Fault
turn_of names printed nodes word.Write rest = turn_by (λ p. turn.Step (Write p.0 p.1)) (amount_of names 1000000 rest)
turn_of names printed nodes word.Fetch rest = turn_by (λ n. turn.Step (Fetch n)) (server_of names rest)
turn_of names printed nodes word.Apply rest = turn_by (λ n. turn.Step (Apply n)) (server_of names rest)
turn_of names printed nodes word.Fail rest = turn_by (λ n. turn.Step (Fail n)) (server_of names rest)
turn_of names printed nodes word.Heal rest = turn_by (λ n. turn.Step (Heal n)) (server_of names rest)
turn_of names printed nodes word.Rotate rest = turn_by (λ n. turn.Step (Rotate n)) (server_of names rest)
turn_of names printed nodes word.Purge rest = turn_by (λ p. turn.Step (Purge p.0 p.1)) (amount_of names 4294967295 rest)
turn_of names printed nodes word.Cut rest = turn_by (λ p. turn.Step (Cut p.0 p.1)) (link_of names rest)
turn_of names printed nodes word.Join rest = turn_by (λ p. turn.Step (Join p.0 p.1)) (link_of names rest)
turn_of names printed nodes word.Tick rest = turn_by turn.Tick (seconds_of rest)
turn_of names printed nodes word.PollRead rest = act_of names printed None word.PollRead rest
turn_of names printed nodes word.PollStore rest = act_of names printed None word.PollStore rest
turn_of names printed nodes word.Polls rest = act_of names printed None word.Polls rest
turn_of names printed nodes word.Round rest = alone Round rest
turn_of names printed nodes word.Command rest = act_of names printed None word.Command rest
turn_of names printed nodes word.Job rest = act_of names printed None word.Job rest
turn_of names printed nodes word.Scan rest = act_of names printed None word.Scan rest
turn_of names printed nodes word.Restart rest = act_of names printed None word.Restart rest
turn_of names printed nodes word.Claim rest = turn_by turn.Claim (node_of nodes rest)
turn_of names printed nodes word.Release rest = turn_by turn.Release (node_of nodes rest)
turn_of names printed nodes word.As rest = as_of names printed nodes rest

unfoldable pub turn_with : List (Option HostPort) → List (List ℕ) → ℕ → Data → Items → Result ListedTurn Fault
turn_with names printed nodes first rest = do
  text ← under_item 0 (text_in first)
  word ← word_at text
  parts ← holds BadTurn (has_parts word rest)
  may ← holds NodeTurn (stands nodes word)
  turn_of names printed nodes word rest

abbrev pub turn_from : List (Option HostPort) → List (List ℕ) → ℕ → Items → Result ListedTurn Fault
turn_from names printed nodes no_items = fails BadTurn
turn_from names printed nodes (item first rest) = turn_with names printed nodes first rest

unfoldable pub turn_in : List (Option HostPort) → List (List ℕ) → ℕ → Data → Result ListedTurn Fault
turn_in names printed nodes d = do
  items ← items_in d
  turn_from names printed nodes items
