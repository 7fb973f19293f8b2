-- What plans leave stopped.
use Rattle.std.specs.Prelude.{◌≡◌, ℕ, ◌==◌, Bool, true, false, if◌then◌else◌, List, [], ◌∷◌, Some}
use Rattle.run_laws.specs.Prelude.{Ask, BookState, Command, Deed, Op, World, coords_command, deed_of}
use Rattle.run_laws.specs.Prelude.asking
use Rattle.run_laws.specs.Prelude.coords_kind
use Rattle.run_laws.specs.Prelude.coords_plans
use Rattle.run_laws.specs.Prelude.deed
use Rattle.run_laws.specs.Prelude.gtid_plans
use Rattle.run_laws.specs.Prelude.match_plans
use Rattle.run_laws.specs.Prelude.path_plans

-- whether a server is left stopped by what is asked of it
abbrev pub after_asking : Bool → Ask → Bool
after_asking stopped (asking.Stop which) = true
after_asking stopped asking.Start = false
after_asking stopped (asking.StartUntil to) = stopped
after_asking stopped asking.Detach = stopped
after_asking stopped asking.Reattach = stopped
after_asking stopped asking.Reset = stopped
after_asking stopped (asking.SetReadOnly on) = stopped

-- by an operation: a start up to a coordinate leaves it stopped, once it has come there
abbrev pub after_deed : ℕ → Bool → Deed → Bool
after_deed n stopped (deed.Request k a) = if k.0 == n then after_asking stopped a else stopped
after_deed n stopped (deed.Look k from) = stopped
after_deed n stopped (deed.Until k to) = stopped
after_deed n stopped (deed.Await k to) = stopped
after_deed n stopped (deed.AwaitSet k m) = stopped
after_deed n stopped (deed.Settle k) = stopped
after_deed n stopped (deed.Cross c a b) = stopped
after_deed n stopped (deed.Same k) = stopped
after_deed n stopped (deed.Auto k m) = stopped
after_deed n stopped (deed.Match k m every) = stopped
after_deed n stopped (deed.CrossMatch k m) = stopped
after_deed n stopped (deed.Finish lines) = stopped

-- and by operations, one after another
abbrev pub left_stopped : ℕ → Bool → List Op → Bool
left_stopped n stopped [] = stopped
left_stopped n stopped (x ∷ xs) = left_stopped n (after_deed n stopped (deed_of x)) xs

-- each server that a plan stops it starts again
abbrev pub StartsWhatItStops : List Op → Type 0
StartsWhatItStops ops = (n : ℕ) → left_stopped n false ops ≡ false

-- so does each command's plan but that of stop-replica
pub record PlansStartAgain : Type 0 where
  pub coords : (w : World) (b : BookState) (c : Command) → (coords_command c.name ≡ Some coords_kind.StopReplica → ⊥) → StartsWhatItStops (coords_plans.plan_of w b c)
  pub gtids : (b : BookState) (c : Command) → StartsWhatItStops (gtid_plans.plan_of b c)
  pub matches : (b : BookState) (every : ℕ) (c : Command) → StartsWhatItStops (match_plans.plan_of b every c)
  pub paths : (w : World) (b : BookState) (c : Command) → StartsWhatItStops (path_plans.plan_of w b c)
