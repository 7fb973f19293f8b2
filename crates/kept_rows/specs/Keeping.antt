-- What a row store does with its rows.
use Rattle.std.specs.Prelude.{◌≡◌, ◌≤◌, ℕ, List, Option, Result, Err, IfSome, MatchResult, OnOk, if◌then◌else◌}
use Rattle.std.specs.Option.{option_map}
use Rattle.server_words.specs.OrchBase.Causes.{Rose}
use Rattle.server_words.specs.OrchBase.Memory.{next_count, fails_next}
use Rattle.kept_rows.specs.declared.row.Row.{Row}
use Rattle.kept_rows.specs.declared.row.Change.{Change}
use Rattle.kept_rows.specs.declared.keeper.KeeperFault.{KeeperFault}
use Rattle.kept_rows.specs.declared.keeper.KeeperFault.TheVariants as fault
use Rattle.kept_rows.specs.Rows.{changed, map_of}

-- all the changes are made, or, at a fault, none
abbrev pub KeepsAll : Option (List Row) → Option (List Row) → List Change → {A : Type 0} → Result A KeeperFault → Type 0
KeepsAll before now changes result = MatchResult result (λ _. now ≡ option_map (λ rows. changed rows changes) before) (λ _. now ≡ before)

-- the rows that are kept, if they are known, in any order; of two with one table and key the last counts
abbrev pub GivesAll : Option (List Row) → List Row → Type 0
GivesAll kept given = IfSome kept (λ rows. map_of given ≡ rows)

-- Failed comes only if the count rose, by one or more. It never falls
pub record HasKeeperCause {A : Type 0} (before now : ℕ) (result : Result A KeeperFault) : Type 0 where
  pub later : before ≤ now
  pub failed : result ≡ Err fault.Failed → Rose before now

-- a failure is counted, once, and nothing else is
pub record CountsFailures {A : Type 0} (before now : ℕ) (result : Result A KeeperFault) : Type 0 where
  pub ok : OnOk result (now ≡ before)
  pub failed : result ≡ Err fault.Failed → now ≡ next_count before
  pub memory : result ≡ Err fault.Memory → now ≡ before

-- the rows, the calls so far, the numbers of those that fail, and how many failed
pub record Kept : Type 0 where
  pub rows : List Row
  pub calls : ℕ
  pub fail_at : List ℕ
  pub faults : ℕ

-- after a call that fails by its number, and after one that doesn't
abbrev pub after_call : Kept → Kept
after_call k = if fails_next k.fail_at k.calls
    then record k { calls = next_count k.calls; faults = next_count k.faults }
    else record k { calls = next_count k.calls }
