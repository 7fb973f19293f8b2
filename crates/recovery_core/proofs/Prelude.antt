-- What its proofs cite of others.
pub use Rattle.std.proofs.lemmas.List.{get_or-replicate, get_or-set_same, length-replicate}
pub use Rattle.std.proofs.lemmas.List.Elements.{All-contains, All-filter, All-map, All-push, Contains-get_or, filter_more}
pub use Rattle.std.proofs.lemmas.List.Folds.{list_any_at}
pub use Rattle.std.proofs.lemmas.List.FromFn.{get_or-range_with_len, length-range_with_len}
pub use Rattle.std.proofs.lemmas.List.Sorted.{Contains-permutation, list_any-IsPermutation}
pub use Rattle.std.proofs.lemmas.List.Sums.{fold_more}
pub use Rattle.std.proofs.lemmas.Result.{err_from_is_err_and}
pub use Rattle.std.specs.declared.alloc.AllocError.{AllocError}
pub use Rattle.audit_log.proofs.Finding.{All-found, found-passes, none-passes}
pub use Rattle.audit_log.proofs.Parting.{apart-begins, begun-apart, ended-apart}
pub use Rattle.failure_analysis.proofs.Prelude.{All-cons, All-head, All-nil, All-tail, Instance, IsOrder-by_name, append-nil, cons_option, eq-eqb}
pub use Rattle.failure_analysis.proofs.Prelude.{eqb-true, false≢true, get_or-set_other, instance_at, is_attached_to, length-by_name, length-set}
pub use Rattle.failure_analysis.proofs.Prelude.{option_map, range_with_len, same_Some, seen_source, take_all}
pub use Rattle.failure_analysis.specs.Analysis
pub use Rattle.failure_analysis.specs.declared.code.Action.TheVariants as action
pub use Rattle.permission.proofs.Free.{free-list, neither}
pub use Rattle.permission.proofs.NameOrder.Arranged.{by_name-within}
pub use Rattle.permission.proofs.Within.{cons-within, replicas-within, source-within}
pub use Rattle.permission.specs.Checks.{busy}
pub use Rattle.permission.specs.Commands.declared.refusal.Refusal.TheVariants.{NotReplica}
pub use Rattle.permission.specs.InstanceKeeper.Leases
pub use Rattle.permission.specs.InstanceKeeper.declared.lease.LeaseFault.TheVariants as fault
pub use Rattle.permission.specs.KeptRows.declared.recovery.Recovery.{Recovery}
pub use Rattle.permission.specs.Operations.declared.step.JobStep.TheVariants as step
pub use Rattle.permission.specs.OrchBase.Names.{HostPort}
pub use Rattle.permission.specs.OrchBase.declared.recovery.Ending.TheVariants as ending
pub use Rattle.permission.specs.Views.{attached_in}
pub use Rattle.permission.specs.declared.row.PermitFault.{PermitFault}
pub use Rattle.permission.specs.declared.row.PermitFault.TheVariants as permitfault
pub use Rattle.recovery_core.specs.Asks.{attempt_by}
pub use Rattle.recovery_core.specs.Begun.{BeginInTurn, CanBegin, IsListed, audit_after, leases_after}
pub use Rattle.recovery_core.specs.Checks.{code_at, held_back, held_by, no_master, no_replica}
pub use Rattle.recovery_core.specs.Endings.{done_with, ending_of, is_acknowledged}
pub use Rattle.recovery_core.specs.Groups.{joined}
pub use Rattle.recovery_core.specs.Prelude.{Action, Attached, AuditState, BookState, Code, Detached, Ending, Entry, Gives, Held, IsApart, IsBook}
pub use Rattle.recovery_core.specs.Prelude.{IsListOf, JobStep, Kind, MayBegin, Moment, Nothing, Refusal, ServerNo, SourceState, UnknownInstance}
pub use Rattle.recovery_core.specs.Prelude.{Without, World, action_of, are_known, attached_of, begun, busy_by, cause_name, ended, entry_at}
pub use Rattle.recovery_core.specs.Prelude.{first_about, first_busy, first_of, first_refusal, is_given, is_going, is_instance, is_open, is_replica_of}
pub use Rattle.recovery_core.specs.Prelude.{is_takeover, label_at, list_any, longest_block, may_begin, only_if, option_or, permit_fault, permitted}
pub use Rattle.recovery_core.specs.Prelude.{replicas_of, source_of, source_servers, taken}
unfoldable pub use Rattle.recovery_core.specs.Prelude.{analysis, by_name}
pub use Rattle.recovery_core.specs.Recoveries.{held_off, purpose_by, recovery_list, recovery_purpose, recovery_refusal, refusal_by, refusal_for}
pub use Rattle.recovery_core.specs.Recoveries.{unasked}
pub use Rattle.recovery_core.specs.Scans.{HasRoom, IsEntryIn, IsReady, Staged, actionable_in, after_try, attempt_of, from_start, is_asked, scan_step}
pub use Rattle.recovery_core.specs.Scans.{scanned, scanned_over, staged_refusal, staged_try}
pub use Rattle.recovery_core.specs.Takeovers.{case_of, followers_of, row, takeover_refusal}
pub use Rattle.recovery_core.specs.Tries.{Begins, entry_of, recovery_begins, recovery_kind, recovery_try, takeover_begins, takeover_try}
pub use Rattle.recovery_core.specs.Tries.{unless_refused}
pub use Rattle.recovery_core.specs.declared.attempt.Attempt.{Attempt}
pub use Rattle.recovery_plans.proofs.Begun.{begun-of}
pub use Rattle.recovery_plans.specs.Recoveries
pub use Rattle.recovery_plans.specs.declared.means.Means.TheVariants as means
pub use Rattle.recovery_plans.specs.declared.purpose.Purpose.TheVariants as purpose
