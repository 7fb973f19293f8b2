-- What a run does with its row store.
use Rattle.std.specs.Prelude.{◌≡◌, ◌≢◌, ◌<◌, ◌⊎◌, ℕ, Bool, true, false, List, [], ◌++◌, length, take, slice_get, Option, Some, None, if◌then◌else◌, Result, Err, is_ok, IfOk, OnOk, OnErr}
use Rattle.orch_core.specs.Prelude.{Change, HasTurnCause, Reply, Row, Turn, TurnFault, changed, option_map}
use Rattle.orch_core.specs.Prelude.fault
use Rattle.orch_core.specs.After.{after_done}
use Rattle.orch_core.specs.Nodes.{act_in}
use Rattle.orch_core.specs.Replies.{reply_of}
use Rattle.orch_core.specs.Restarts.{restart_changes}
use Rattle.orch_core.specs.States.{State, nodes_of}
use Rattle.orch_core.specs.Runs.{Machine, LeadsTo, engine, kept_after}

-- a turn leads from one state to another: by the kept rows, if they are known, and else by some rows
abbrev pub StepsTo : {A : Type 0} → Machine A → Option (List Row) → A → Turn → A → Type 0
StepsTo m None s t now = (rows : List Row) × (now ≡ m.next rows s t)
StepsTo m (Some rows) s t now = now ≡ m.next rows s t

-- the kept rows after a turn, if it was taken and the kept rows are known
abbrev pub kept_by : {A : Type 0} → Machine A → Bool → Option (List Row) → A → Turn → Option (List Row)
kept_by m made kept s t = if made then option_map (λ rows. changed rows (m.changes rows s t)) kept else kept

-- a turn that calls the row store: it asks for the rows, or changes one
abbrev pub Calls : {A : Type 0} → Machine A → A → Turn → Type 0
Calls m s t = (m.asks s t ≡ true) ⊎ ((rows : List Row) × (m.changes rows s t ≢ []))

-- A machine takes a turn over a row store, given by its rows and its count of faults. What it answers, and the state
-- and the kept rows after it; when the row store may fail, and when it is called. After a fault nothing has changed.
pub record Takes {A K R : Type 0} (m : Machine A) (state : A → State) (rows : K → Option (List Row)) (faults : K → ℕ) (k k' : K) (s : A) (t : Turn) (s' : A) (AreReplies : Reply → R → Type 0) (result : Result R TurnFault) : Type 0 where
  pub reply : IfOk result (AreReplies (reply_of (state s) t))
  pub ok : OnOk result (StepsTo m (rows k) s t s')
  pub err : OnErr result (s' ≡ s)
  pub kept : rows k' ≡ kept_by m (is_ok result) (rows k) s t
  pub cause : HasTurnCause (faults k) (faults k') result
  pub idle : m.asks s t ≡ false → m.changes [] s t ≡ [] → k' ≡ k
  pub calls : result ≡ Err fault.Keeper → Calls m s t
  pub servers : length (state s').world.servers ≡ length (state s).world.servers
  pub nodes : nodes_of (state s') ≡ nodes_of (state s)

-- the turns led from one state, and the kept rows beside it, to another
pub record Ran {A : Type 0} (m : Machine A) (kept : Option (List Row)) (s : A) (ts : List Turn) (kept' : Option (List Row)) (now : A) : Type 0 where
  pub state : LeadsTo m kept s ts now
  pub rows : kept' ≡ kept_after m kept s ts

-- the run was cut off at one of its turns: those before it are done, and if the row store failed it was called there
pub record WasCutOff {A : Type 0} (m : Machine A) (kept : Option (List Row)) (s : A) (ts : List Turn) (kept' : Option (List Row)) (now : A) (why : TurnFault) : Type 0 where
  pub k : ℕ
  pub within : k < length ts
  pub ran : Ran m kept s (take k ts) kept' now
  pub calls : why ≡ fault.Keeper → (t : Turn) → slice_get ts k ≡ Some t → Calls m now t

-- It leaves the claims as they are: a claim's rows are kept, and the node doesn't have it yet. If the claim passes to
-- another node, orchestrator started again.
abbrev pub claimless : Machine State
claimless = record engine { next = λ rows s t. after_done rows s (act_in s t) }

-- the kept rows after orchestrator started again, with these changes after its own
abbrev pub kept_with : List Change → Bool → Option (List Row) → State → Option (List Row)
kept_with more made kept s = if made then option_map (λ rows. changed rows (restart_changes rows s ++ more)) kept else kept
