-- What the decisions at the start of a turn make of a recovery.
use Rattle.std.specs.Prelude.{◌+◌, ◌<◌, ◌≤◌, ◌≡◌, List, [], ◌∷◌, ◌++◌, drop, length, Option, Some, None, IfSome}
use Rattle.recovery_turns.specs.Prelude.{Bridge, Job, Recovery, Sight, Task, option_map, option_to_list, seen_after, with_bridge, working}
use Rattle.recovery_turns.specs.declared.decided.Decided.{Decided}
use Rattle.recovery_turns.specs.declared.decided.Work.{Work}
use Rattle.recovery_turns.specs.RecoveriesBy.{room_for}

-- a list, or the one that takes its place
abbrev pub list_on : {X : Type 0} → List X → Option (List X) → List X
list_on xs None = xs
list_on xs (Some ys) = ys

abbrev pub seen_more : Job → List Sight → Job
seen_more j more = record j { seen = seen_after j.seen more }

-- the stage that begins, and what was seen of what it goes by
abbrev pub working_on : Recovery → Option Work → Recovery
working_on r None = r
working_on r (Some w) = working (record r { core = seen_more r.core (option_to_list w.seen) }) w.stage w.ops.items

abbrev pub settled_on : Recovery → Decided → Recovery
settled_on r d = record r {
  queue = drop d.begun (list_on r.queue (option_map (λ v. v.items) d.queue));
  drained = drop d.handed r.drained;
  chosen = d.chosen;
  eligible = list_on r.eligible (option_map (λ v. v.items) d.eligible);
  swaps = d.swaps;
  outcome = record { promoted = d.promoted; followers = r.outcome.followers; lost = r.outcome.lost ++ d.lost.items };
}

-- the recovery that is decided so
abbrev pub decided_on : Recovery → Decided → Recovery
decided_on r d = working_on (settled_on r d) d.work

-- the latest that was seen of a bridge's server is what was seen when the bridge was taken
abbrev pub seen_by : Recovery → Bridge → Recovery
seen_by r b = record r { core = record r.core { seen = with_bridge r.core.seen b } }

-- work that begins has an operation
abbrev pub IsBusy : Option Work → Type 0
IsBusy o = IfSome o (λ w. 0 < length w.ops.items)

-- the first task of a list, and none if the list is empty
abbrev pub IsFirst : List Task → Option Task → Type 0
IsFirst ts None = ts ≡ []
IsFirst ts (Some t) = ts ≡ t ∷ drop 1 ts

abbrev pub sights_of : Option Work → List Sight
sights_of None = []
sights_of (Some w) = option_to_list w.seen

-- there is room for what is decided, and for what a turn adds then
pub record Fits (r : Recovery) (d : Decided) : Type 0 where
  pub seen : length r.core.seen + (length (sights_of d.work) + 2) ≤ room_for r.replicas
  pub matches : length r.core.matches < room_for r.replicas
  pub hands : length r.core.hands < room_for r.replicas
  pub drained : length r.drained < room_for r.replicas
  pub followers : length r.outcome.followers < room_for r.replicas
  pub lost : length r.outcome.lost + length d.lost.items < room_for r.replicas
