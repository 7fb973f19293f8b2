-- The hooks of recoveries.
use Rattle.std.specs.Prelude.{ℕ, ◌∷◌, ◌&&◌, List, [], Bool, codes, length, nat_eq, nat_le, not, if◌then◌else◌, Option, None, Some, Result, Ok}
use Rattle.scenario_reader.specs.Prelude.{BadHook, BadNumber, BadType, Data, Fault, Hook, Hooks, Items, as_number, as_u64, each, fails, holds, item}
use Rattle.scenario_reader.specs.Prelude.{items_in, list_all, members_in, no_items, only_keys, optional, or_fails, text_in, under_item}
use Rattle.scenarios.specs.OrchBase.Gives.{◌>>=◌}

-- two parts
abbrev pub two_of : Items → Result (Data × Data) Fault
two_of (item a (item b no_items)) = Ok (a, b)
two_of _ = fails BadNumber

-- no control character of ASCII
abbrev pub is_printable : ℕ → Bool
is_printable b = nat_le 32 b && not (nat_eq b 127)

abbrev pub is_hook_text : List ℕ → Bool
is_hook_text text = nat_le 1 (length text) && (nat_le (length text) 1000 && list_all is_printable text)

-- a number, if it is whole
unfoldable pub whole_of : Data → Result (Option ℕ) Fault
whole_of d = do
  n ← or_fails BadType (as_number d)
  Ok (as_u64 n)

-- an exit is 0 to 255
abbrev pub exit_or_fails : Option ℕ → Result ℕ Fault
exit_or_fails None = fails BadHook
exit_or_fails (Some n) = if nat_le n 255 then Ok n else fails BadHook

-- [text, exit]: of each part its kind, and then the hook's form
unfoldable pub hook_in : Data → Result Hook Fault
hook_in d = do
  items ← items_in d
  parts ← two_of items
  text ← under_item 0 (text_in parts.0)
  good ← holds BadHook (is_hook_text text)
  whole ← under_item 1 (whole_of parts.1)
  exit ← exit_or_fails whole
  Ok (record { text = text; exit = exit })

unfoldable pub hook_list_in : Data → Result (List Hook) Fault
hook_list_in d = do
  items ← items_in d
  each hook_in items

abbrev pub hook_keys : List (List ℕ)
hook_keys = codes "pre_failover" ∷ codes "post_failover" ∷ codes "post_unsuccessful" ∷ []

unfoldable pub hooks_in : Data → Result Hooks Fault
hooks_in d = do
  ms ← members_in d
  keys ← only_keys hook_keys ms
  pre_failover ← optional (codes "pre_failover") hook_list_in [] d
  post_failover ← optional (codes "post_failover") hook_list_in [] d
  post_unsuccessful ← optional (codes "post_unsuccessful") hook_list_in [] d
  Ok (record { pre_failover = pre_failover; post_failover = post_failover; post_unsuccessful = post_unsuccessful })
