-- What orchestrator knows, and what a command or a scan makes of it.
use Rattle.std.specs.Prelude.{◌≡◌, ◌<◌, ◌≤◌, ℕ, ⊤, true, fold, length, map, List, [], ◌∷◌, ◌++◌, All, Some, None}
use Rattle.command_outcomes.specs.OrchBase.declared.server.ServerNo.{ServerNo}
use Rattle.command_outcomes.specs.KeptRows.Servers.{are_known, fits, observed_servers}
use Rattle.command_outcomes.specs.InstanceKeeper.Book.{BookState, after_change, after_discovery}
use Rattle.command_outcomes.specs.InstanceKeeper.Leases.{first_busy, taken}
use Rattle.command_outcomes.specs.AuditLog.Audits.{AuditState}
use Rattle.command_outcomes.specs.BookCommands.declared.decided.Effect.{Effect}
use Rattle.command_outcomes.specs.BookCommands.declared.decided.Effect.TheVariants as effect
use Rattle.command_outcomes.specs.BookCommands.Decisions.{audit_after as audit_decided, book_after as book_decided}
use Rattle.command_outcomes.specs.UnendedJobs.declared.unended.Unended.{Unended}
use Rattle.command_outcomes.specs.UnendedJobs.declared.unended.Unended.TheVariants as unended
use Rattle.command_outcomes.specs.UnendedJobs.Unended.{number_of}
use Rattle.command_outcomes.specs.RecoveryCore.Begun.{BeginInTurn, audit_after, leases_after}
use Rattle.command_outcomes.specs.RecoveryCore.Tries.{Begins as RecoveryBegins}
use Rattle.command_outcomes.specs.declared.command.Update.{Update}
use Rattle.command_outcomes.specs.declared.command.Update.TheVariants as update

-- the book, the recoveries that were begun, the unended jobs by rising number, and the number of the last job
pub record Knowledge : Type 0 where
  pub book : BookState
  pub audit : AuditState
  pub jobs : List Unended
  pub last_job : ℕ

-- the job of a recovery that begins, with its entry in the audit and its hooks
abbrev pub recovery_job : RecoveryBegins → Unended
recovery_job x = unended.Recovery x.job (record { entry = Some x.entry.id; hooks = x.hooks })

-- After what a command or a scan makes of it: a job that begins has the leases of its list, and a decision may
-- acknowledge recoveries. A recovery that begins has its leases and its entry in the audit.
abbrev pub updated : Knowledge → Update → Knowledge
updated k update.Stays = k
updated k (update.Change c) = record k { book = after_change k.book c }
updated k (update.Discovery o) = record k { book = after_discovery k.book o }
updated k (update.Decides e) = record k { book = book_decided k.book e; audit = audit_decided k.audit e }
updated k (update.Begins x) = record k {
  book = record (k.book) { leases = taken k.book.leases x.list (number_of x.job) };
  jobs = k.jobs ++ x.job ∷ [];
  last_job = number_of x.job;
}
updated k (update.Recovers xs) = record {
  book = record (k.book) { leases = leases_after k.book.leases xs };
  audit = audit_after k.audit xs;
  jobs = k.jobs ++ map recovery_job xs;
  last_job = fold (λ l x. x.job.core.id) k.last_job xs;
}

-- each server of the list is one of the book's, and no job has a lease of it
pub record MayTake (b : BookState) (list : List ServerNo) : Type 0 where
  pub known : All (λ n. n.0 < length b.names) list
  pub free : first_busy b.leases list ≡ None

-- the book takes the change of a decision, if it makes one
abbrev pub IsEffect : BookState → Effect → Type 0
IsEffect b effect.Stays = ⊤
IsEffect b (effect.Change c) = fits (length b.names) c ≡ true
IsEffect b (effect.Acks cluster) = ⊤

-- the book takes it, and the audit what begins, after the last job
abbrev pub IsUpdate : Knowledge → Update → Type 0
IsUpdate k update.Stays = ⊤
IsUpdate k (update.Change c) = fits (length k.book.names) c ≡ true
IsUpdate k (update.Discovery o) = are_known (length k.book.names) (observed_servers o) ≡ true
IsUpdate k (update.Decides e) = IsEffect k.book e
IsUpdate k (update.Begins x) = MayTake k.book x.list
IsUpdate k (update.Recovers xs) = BeginInTurn (length k.book.names) k.book.leases k.audit k.last_job xs

-- there is room for so many more jobs and so many more entries
abbrev pub HasRoomFor : ℕ → ℕ → Update → Type 0
HasRoomFor jobs entries update.Stays = ⊤
HasRoomFor jobs entries (update.Change c) = ⊤
HasRoomFor jobs entries (update.Discovery o) = ⊤
HasRoomFor jobs entries (update.Decides e) = ⊤
HasRoomFor jobs entries (update.Begins x) = 1 ≤ jobs
HasRoomFor jobs entries (update.Recovers xs) = (length xs ≤ jobs) × (length xs ≤ entries)
