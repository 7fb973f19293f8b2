-- The audit: the recoveries that were begun, in their order, and when another may begin.
use Rattle.std.specs.Prelude.{◌≡◌, ℕ, ◌+◌, ◌-◌, ◌<◌, ◌≤◌, ◌==◌, ◌&&◌, ◌||◌, nat_eq, nat_lt, not, if◌then◌else◌, Bool, true, false, List, [], ◌∷◌, ◌++◌, All, AllPairs, count_by, filter, find, length, map, reverse, Option, None, Some, is_none, Result, Ok, Err}
use Rattle.std.specs.List.{HoldsAt}
use Rattle.std.specs.Cmp.Lexicographic.{pointwise}
use Rattle.kept_rows.specs.OrchBase.declared.recovery.Ending.{Ending}
use Rattle.kept_rows.specs.OrchBase.declared.recovery.Ending.TheVariants as ending
use Rattle.kept_rows.specs.OrchBase.declared.server.Moment.{Moment}
use Rattle.kept_rows.specs.declared.recovery.Recovery.{Recovery}
use Rattle.audit_log.specs.declared.held.Held.{Held}
use Rattle.audit_log.specs.declared.held.Held.TheVariants as held

-- the recoveries by rising id, and the next id
pub record AuditState : Type 0 where
  pub recoveries : List Recovery
  pub next : ℕ

-- an audit, and how many recoveries it can take without memory
pub record AuditRoom : Type 0 where
  pub audit : AuditState
  pub spare : ℕ

-- a block period is at most so many seconds long
abbrev pub longest_block : ℕ
longest_block = 1000000000

-- ids rise from 1 on, and are below the next one; no block period is too long
pub record IsAudit (a : AuditState) : Type 0 where
  pub first : 1 ≤ a.next
  pub rising : AllPairs (λ x y. x.id < y.id) a.recoveries
  pub above : All (λ r. 1 ≤ r.id) a.recoveries
  pub below : All (λ r. r.id < a.next) a.recoveries
  pub short : All (λ r. r.block ≤ longest_block) a.recoveries

-- ---- one recovery

abbrev pub is_of : List ℕ → Recovery → Bool
is_of cluster r = pointwise nat_eq r.cluster cluster

abbrev pub is_open : Ending → Bool
is_open ending.Unended = true
is_open (ending.Promoted n) = false
is_open (ending.Failed cause) = false
is_open ending.Interrupted = false

-- it has no moment of its end yet, or no outcome
abbrev pub is_unended : Recovery → Bool
is_unended r = is_none r.ended || is_open r.outcome

-- it isn't acknowledged, and began less than its own block period ago
abbrev pub is_blocking : ℕ → Recovery → Bool
is_blocking now r = not r.acked && nat_lt (now - r.begun.0) r.block

-- ---- whether a recovery of a cluster may begin

-- the cluster's recovery that isn't ended
abbrev pub unended_of : AuditState → List ℕ → Option Recovery
unended_of a cluster = find (λ r. is_of cluster r && is_unended r) a.recoveries

-- the cluster's last recovery that blocks
abbrev pub last_blocking : AuditState → List ℕ → ℕ → Option Recovery
last_blocking a cluster now = find (λ r. is_of cluster r && is_blocking now r) (reverse a.recoveries)

abbrev pub held_by : AuditState → Option Recovery → Option Recovery → Result ℕ Held
held_by a (Some r) last = Err (held.Unended r.id)
held_by a None (Some r) = Err (held.Blocked r.id (record { 0 = r.begun.0 + r.block }))
held_by a None None = Ok a.next

-- the next id, if no recovery of the cluster holds it back: one that isn't ended, else the last one that blocks
abbrev pub may_begin : AuditState → List ℕ → ℕ → Result ℕ Held
may_begin a cluster now = held_by a (unended_of a cluster) (last_blocking a cluster now)

-- ---- changes

abbrev pub recovery_at : AuditState → ℕ → Option Recovery
recovery_at a id = find (λ r. r.id == id) a.recoveries

-- whether the recovery of an id is there, and at which index
abbrev pub StandsAt : ℕ → List Recovery → Option ℕ → Type 0
StandsAt id recoveries None = All (λ r. (r.id == id) ≡ false) recoveries
StandsAt id recoveries (Some i) = (i < length recoveries) × HoldsAt (λ r. r.id ≡ id) recoveries i

-- with one more recovery
abbrev pub begun : AuditState → Recovery → AuditState
begun a r = record { recoveries = a.recoveries ++ r ∷ []; next = r.id + 1 }

abbrev pub ended_so : Moment → Ending → Recovery → Recovery
ended_so at outcome r = record r { ended = Some at; outcome = outcome }

-- with the end of the recovery of this id
abbrev pub ended : AuditState → ℕ → Moment → Ending → AuditState
ended a id at outcome = record a { recoveries = map (λ r. if r.id == id then ended_so at outcome r else r) a.recoveries }

abbrev pub acknowledged_for : List ℕ → Recovery → Recovery
acknowledged_for cluster r = if is_of cluster r then record r { acked = true } else r

-- with all recoveries of a cluster acknowledged
abbrev pub acknowledged : AuditState → List ℕ → AuditState
acknowledged a cluster = record a { recoveries = map (acknowledged_for cluster) a.recoveries }

abbrev pub acked_so : Recovery → Recovery
acked_so r = record r { acked = true }

-- with the recovery of this id acknowledged
abbrev pub acknowledged_at : AuditState → ℕ → AuditState
acknowledged_at a id = record a { recoveries = map (λ r. if r.id == id then acked_so r else r) a.recoveries }

abbrev pub finished_so : Moment → Ending → Bool → Recovery → Recovery
finished_so at outcome acked r = if acked then acked_so (ended_so at outcome r) else ended_so at outcome r

-- with the end of the recovery of this id, which may be acknowledged at once
abbrev pub finished : AuditState → ℕ → Moment → Ending → Bool → AuditState
finished a id at outcome acked = if acked then acknowledged_at (ended a id at outcome) id else ended a id at outcome

abbrev pub is_new : List ℕ → Recovery → Bool
is_new cluster r = is_of cluster r && not r.acked

-- those of a cluster that aren't acknowledged, as they are once they are
abbrev pub acking : AuditState → List ℕ → List Recovery
acking a cluster = map (acknowledged_for cluster) (filter (is_new cluster) a.recoveries)

-- how many of a cluster aren't acknowledged
abbrev pub count_new : AuditState → List ℕ → ℕ
count_new a cluster = count_by (is_new cluster) a.recoveries

-- as it is after a restart: an unended one was interrupted
abbrev pub interrupted : Moment → Recovery → Recovery
interrupted at r = if is_unended r then ended_so at ending.Interrupted r else r

abbrev pub closed : AuditState → Moment → AuditState
closed a at = record a { recoveries = map (interrupted at) a.recoveries }

-- the unended ones, as they are after a restart
abbrev pub closing : AuditState → Moment → List Recovery
closing a at = map (interrupted at) (filter is_unended a.recoveries)
