-- What this crate's definitions and contracts cite of others.
pub use Rattle.asking_commands.specs.Answers.{allowed, lines_of, permitted, unknown_in}
pub use Rattle.asking_commands.specs.Prelude.{Asks, CommandTurn, Decides, Discovers, Forgets, Recovers, Route, TakesOver, instance_at}
pub use Rattle.book_commands.specs.Decisions.{decided_of, rows_of}
pub use Rattle.book_commands.specs.Prelude.{Change, Decision, put_recovery}
pub use Rattle.book_commands.specs.declared.decided.Decided.{Decided}
pub use Rattle.moves_coords.specs.Permits as coords
pub use Rattle.moves_coords.specs.Plans as coords_plans
pub use Rattle.moves_gtid.specs.Permits as gtids
pub use Rattle.moves_gtid.specs.Plans as gtid_plans
pub use Rattle.pseudo_match.specs.Permits as matches
pub use Rattle.pseudo_match.specs.Plans as match_plans
pub use Rattle.recovery_core.specs.Commands.declared.line.Line.TheVariants as line
pub use Rattle.recovery_core.specs.Commands.declared.refusal.Refusal.TheVariants.{Unreachable}
pub use Rattle.recovery_core.specs.Commands.declared.route.Planner.TheVariants.{Coordinates, Gtids, Matches, Paths}
pub use Rattle.recovery_core.specs.Commands.declared.route.Route.TheVariants
pub use Rattle.recovery_core.specs.InstanceKeeper.Book.{discovery_change}
pub use Rattle.recovery_core.specs.KeptRows.Seeing.{seen_in}
pub use Rattle.recovery_core.specs.KeptRows.declared.row.Change.TheVariants as change
pub use Rattle.recovery_core.specs.KeptRows.declared.row.Key.TheVariants as key
pub use Rattle.recovery_core.specs.KeptRows.declared.row.Table.TheVariants as table
pub use Rattle.recovery_core.specs.OrchBase.Memory.{next_count}
pub use Rattle.recovery_core.specs.OrchBase.Words.{code_text}
pub use Rattle.recovery_core.specs.Permission.Checks.{busy, looks_at}
pub use Rattle.recovery_core.specs.Permission.declared.case.Lead.{Lead}
pub use Rattle.recovery_core.specs.Prelude.{AuditState, BookState, Case, Code, Gives, HookState, IsNamedRecovery, Kind, Line, Moment, Recovery}
pub use Rattle.recovery_core.specs.Prelude.{Refusal, ServerNo, UnknownInstance, World, begun_recovery, is_within, label_at, longest_block}
pub use Rattle.recovery_core.specs.Prelude.{permit_fault, replicas_of}
unfoldable pub use Rattle.recovery_core.specs.Prelude.{book_forest}
pub use Rattle.recovery_core.specs.Scans.{HasRoom, Staged, attempt_of, scanned}
pub use Rattle.recovery_core.specs.ServerModel.Gtids.{status}
pub use Rattle.recovery_core.specs.ServerWords.declared.status.Status.{Status}
pub use Rattle.recovery_core.specs.Tries.{Begins, given_try, kind_try, recovery_try}
pub use Rattle.recovery_core.specs.declared.attempt.Attempt.{Attempt}
pub use Rattle.recovery_core.specs.declared.scanning.Terms.{Terms}
pub use Rattle.regroup.specs.Permits as paths
pub use Rattle.regroup.specs.Plans as path_plans
pub use Rattle.regroup.specs.Prelude.{Command, Op, Planner, about, option_to_list, refused, route_of}
pub use Rattle.scenarios.specs.Aliases.{alias_of}
pub use Rattle.scenarios.specs.Blocks.{period_in}
pub use Rattle.scenarios.specs.Turns.declared.reply.Reply.{Reply}
pub use Rattle.scenarios.specs.Turns.declared.reply.Reply.TheVariants as answered
pub use Rattle.unended_jobs.specs.HookTexts.declared.values.Values.{Values}
pub use Rattle.unended_jobs.specs.Hooked.{no_docket}
pub use Rattle.unended_jobs.specs.Operations.Jobs.{job_with}
pub use Rattle.unended_jobs.specs.Prelude.{CanTake, HostPort, Observation, foretold, option_map, run, taken}
pub use Rattle.unended_jobs.specs.RecoveryHooks.Runs.{begun_hooks}
pub use Rattle.unended_jobs.specs.RecoveryPlans.declared.means.Means.{Means}
pub use Rattle.unended_jobs.specs.RecoveryPlans.declared.means.Means.TheVariants as means
pub use Rattle.unended_jobs.specs.RecoveryPlans.declared.purpose.Purpose.TheVariants as purpose
pub use Rattle.unended_jobs.specs.declared.unended.Unended.{Unended}
pub use Rattle.unended_jobs.specs.declared.unended.Unended.TheVariants as unended
