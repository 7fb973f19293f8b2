-- How the kept rows change.
use Rattle.std.specs.Prelude.{◌≡◌, ◌≢◌, ℕ, Bool, List, [], Option, Some, None, Result, Err, if◌then◌else◌, is_ok}
use Rattle.std.specs.Option.{option_map, option_to_list}
use Rattle.command_outcomes.specs.InstanceKeeper.Book.{BookState, instance_at, store_change}
use Rattle.command_outcomes.specs.KeptRows.Rows.{changed}
use Rattle.command_outcomes.specs.KeptRows.declared.observation.Observation.{Observation}
use Rattle.command_outcomes.specs.KeptRows.declared.row.Change.{Change}
use Rattle.command_outcomes.specs.KeptRows.declared.row.Row.{Row}
use Rattle.knowledge.specs.Faults.{HasTurnCause}
use Rattle.knowledge.specs.declared.fault.TurnFault.{TurnFault}
use Rattle.knowledge.specs.declared.fault.TurnFault.TheVariants as fault

-- the kept rows with these changes, if they are made and the row store's rows are known
abbrev pub kept_if : Bool → Option (List Row) → List Change → Option (List Row)
kept_if made kept changes = if made then option_map (λ rows. changed rows changes) kept else kept

-- These changes are kept in a row store, given by its rows and its count of faults. What its rows are after it; when it
-- may fail, and when it is called.
pub record Keeps {K R : Type 0} (rows : K → Option (List Row)) (faults : K → ℕ) (k k' : K) (changes : List Change) (result : Result R TurnFault) : Type 0 where
  pub kept : rows k' ≡ kept_if (is_ok result) (rows k) changes
  pub cause : HasTurnCause (faults k) (faults k') result
  pub idle : changes ≡ [] → k' ≡ k
  pub calls : result ≡ Err fault.Keeper → changes ≢ []

-- how storing the reading of a slot changes them
abbrev pub changes_by : BookState → Option Observation → List Change
changes_by b None = []
changes_by b (Some o) = option_to_list (store_change (instance_at b o.no) o)
