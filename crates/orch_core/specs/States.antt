-- What a run is at a moment.
use Rattle.std.specs.Prelude.{◌≡◌, ◌<◌, ◌≤◌, ◌^◌, ℕ, ⊤, true, length, List, [], ◌∷◌, Option, Some, None, IfSome, IsSomeAnd, All, unwrap_or}
use Rattle.orch_core.specs.Prelude.{AuditState, BookState, ClaimState, Configuration, IsAudit, IsUnended, Observation, Rise, Server, Unended, World}
use Rattle.orch_core.specs.Prelude.{are_known, is_unended, longest_block, observed_servers, pollers, recovery_at, source_servers}
use Rattle.orch_core.specs.Prelude.unended

-- The servers, the moment, what orchestrator knows, the recoveries that were begun, the pollers' slots, and the
-- greatest read number so far. Then the unended jobs by rising number, the number of the last job that was begun, and
-- what is fixed for the run. Last which of the orchestrators claims to be the active one, and which got a claim last.
pub record State : Type 0 where
  pub world : World
  pub moment : ℕ
  pub book : BookState
  pub audit : AuditState
  pub slots : List (Option Observation)
  pub reads : ℕ
  pub jobs : List Unended
  pub last_job : ℕ
  pub configuration : Configuration
  pub claims : ClaimState
  pub last_holder : Option ℕ

-- so many orchestrators
abbrev pub nodes_of : State → ℕ
nodes_of s = length s.claims.remembered

-- the server's source, if it has one, is one of so many servers
abbrev pub HasKnownSource : ℕ → Server → Type 0
HasKnownSource count s = are_known count (source_servers s.source) ≡ true

-- the slot's reading, if it has one, is of so many servers
abbrev pub IsSlot : ℕ → Option Observation → Type 0
IsSlot count slot = IfSome slot (λ o. are_known count (observed_servers o) ≡ true)

-- the id of a job's entry in the audit: a plan has none, and neither has a regroup
abbrev pub entry_id : Unended → Option ℕ
entry_id (unended.Plan j) = None
entry_id (unended.Recovery r docket) = docket.entry

-- the audit has this entry, which isn't ended
abbrev pub IsOpenAt : AuditState → ℕ → Type 0
IsOpenAt a id = IsSomeAnd (recovery_at a id) (λ e. is_unended e ≡ true)

abbrev pub HasEntry : AuditState → ℕ → Option ℕ → Type 0
HasEntry a low None = ⊤
HasEntry a low (Some id) = (low < id) × IsOpenAt a id

-- the entries of jobs aren't ended, and rise with the jobs, above the first id
abbrev pub HaveEntries : AuditState → ℕ → List Unended → Type 0
HaveEntries a low [] = ⊤
HaveEntries a low (j ∷ jobs) = HasEntry a low (entry_id j) × HaveEntries a (unwrap_or (entry_id j) low) jobs

-- Every server is in the book's lists, every poller has its slot, and each reading, each source and each job is of the
-- servers. The jobs' numbers rise from 1 on up to that of the last job, and so do their entries, which aren't ended.
-- The ids of recoveries rise from 1 on below the next one, which is in its type's range. Each recovery began by 2^63,
-- and the moment never passes that. Block periods are at most 1,000,000,000 seconds.
pub record IsState (s : State) : Type 0 where
  pub names : length s.book.names ≡ length s.world.servers
  pub settings : length s.book.settings ≡ length s.world.servers
  pub slots : length s.slots ≡ pollers
  pub observed : All (IsSlot (length s.world.servers)) s.slots
  pub sources : All (HasKnownSource (length s.world.servers)) s.world.servers
  pub jobs : All (IsUnended (length s.world.servers)) s.jobs
  pub rising : Rise 0 s.jobs s.last_job
  pub audit : IsAudit s.audit
  pub entries : HaveEntries s.audit 0 s.jobs
  pub next : s.audit.next < 2 ^ 64
  pub begun : All (λ r. r.begun.0 ≤ 2 ^ 63) s.audit.recoveries
  pub moment : s.moment ≤ 2 ^ 63
  pub block : s.configuration.block ≤ longest_block
  pub blocks : All (λ b. b.seconds ≤ longest_block) s.configuration.blocks
