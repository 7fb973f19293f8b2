-- What this crate's definitions and contracts cite of others.
pub use Rattle.std.specs.List.{list_any}
pub use Rattle.audit_log.specs.Apart.{IsApart, MayBegin}
pub use Rattle.audit_log.specs.Audits.{AuditState, begun, ended, is_open, longest_block, may_begin}
pub use Rattle.audit_log.specs.declared.held.Held.{Held}
pub use Rattle.audit_log.specs.declared.held.Held.TheVariants as held
pub use Rattle.failure_analysis.specs.Analysis.{entry_at}
unfoldable pub use Rattle.failure_analysis.specs.Analysis.{analysis}
pub use Rattle.failure_analysis.specs.Table.{action_of}
pub use Rattle.failure_analysis.specs.declared.code.Action.{Action}
pub use Rattle.failure_analysis.specs.declared.code.Action.TheVariants.{IntermediateRecovery, MasterRecovery, Nothing}
pub use Rattle.failure_analysis.specs.declared.entry.Entry.{Entry}
pub use Rattle.permission.specs.BookViews.Sources.{is_replica_of, label_at}
pub use Rattle.permission.specs.Candidates.{has_candidate}
pub use Rattle.permission.specs.Checks.{Case, busy_by, first_refusal, is_given, permit_fault, permitted}
pub use Rattle.permission.specs.Commands.Causes.{cause_name}
pub use Rattle.permission.specs.Commands.Turns.{is_within}
pub use Rattle.permission.specs.Commands.declared.line.Line.TheVariants as line
pub use Rattle.permission.specs.Commands.declared.refusal.Refusal.TheVariants.{NotActionable, UnknownInstance}
pub use Rattle.permission.specs.Commands.declared.refusal.Refusal.TheVariants as refusal
pub use Rattle.permission.specs.InstanceKeeper.Book.{IsBook, downtime_at}
pub use Rattle.permission.specs.InstanceKeeper.Leases.{first_busy, taken}
pub use Rattle.permission.specs.KeptRows.Servers.{are_known, source_servers}
pub use Rattle.permission.specs.KeptRows.declared.recovery.Recovery as KeptRows
pub use Rattle.permission.specs.Lists.{first_about, first_of, moves_to, only_if}
unfoldable pub use Rattle.permission.specs.NameOrder.NameOrder.{by_name}
pub use Rattle.permission.specs.Operations.declared.step.JobStep.TheVariants as step
pub use Rattle.permission.specs.OrchBase.declared.code.Code.{Code}
pub use Rattle.permission.specs.OrchBase.declared.recovery.CauseName.TheVariants as named
pub use Rattle.permission.specs.OrchBase.declared.recovery.Ending.{Ending}
pub use Rattle.permission.specs.OrchBase.declared.recovery.Ending.TheVariants.{Unended}
pub use Rattle.permission.specs.OrchBase.declared.recovery.Ending.TheVariants as ending
pub use Rattle.permission.specs.OrchBase.declared.recovery.Kind.{Kind}
pub use Rattle.permission.specs.OrchBase.declared.recovery.Kind.TheVariants as kind
pub use Rattle.permission.specs.Prelude.{Gives, Refusal, is_instance, option_or, replicas_of}
unfoldable pub use Rattle.permission.specs.Prelude.{book_forest}
pub use Rattle.permission.specs.Views.{attached_of, has_log, is_valid, same_label, source_of}
pub use Rattle.permission.specs.declared.case.Check.{Check}
pub use Rattle.permission.specs.declared.case.Check.TheVariants.{Busy, DestNotLogging, SameInstance, SameServerId, Unreachable, VersionLower}
pub use Rattle.recovery_hooks.specs.Runs.{HookState}
pub use Rattle.recovery_plans.specs.Beginning.{begun_recovery, is_takeover}
pub use Rattle.recovery_plans.specs.Named.{IsListOf, IsNamedRecovery}
pub use Rattle.recovery_plans.specs.Prelude.{Attached, BookState, Detached, JobStep, Line, Moment, ServerNo, SourceState, Without, World, is_going}
pub use Rattle.recovery_plans.specs.Recoveries.{Recovery}
pub use Rattle.recovery_plans.specs.declared.means.Means.TheVariants as means
pub use Rattle.recovery_plans.specs.declared.purpose.Purpose.{Purpose}
pub use Rattle.recovery_plans.specs.declared.purpose.Purpose.TheVariants as purpose
