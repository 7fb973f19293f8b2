-- What its proofs cite of others.
pub use Rattle.std.proofs.lemmas.Result.{IfOk-weaker}
pub use Rattle.asking_commands.specs.Answers.{allowed, is_known, lines_of, permitted, unknown_in, unless_refused}
pub use Rattle.command_outcomes.specs.Ids.{LeavesIds}
pub use Rattle.command_outcomes.specs.Jobs.{job_by, job_in, leases_by, list_of, means_of, plan_by, refusal_about, refusal_by, regroup_about}
pub use Rattle.command_outcomes.specs.Outcomes.{Outcome, asked, begun, begun_by, busy_given, decided, decision, discovered, first_of}
pub use Rattle.command_outcomes.specs.Outcomes.{forgotten, next_reading, only_lines, question, refusal, removal_refusal}
pub use Rattle.command_outcomes.specs.Prelude.{BookState, Change, Command, Coordinates, Gtids, Matches, Means, Moment, Op, Paths, Planner, ServerNo}
pub use Rattle.command_outcomes.specs.Prelude.{World, busy, is_within, job_with, replicas_of}
pub use Rattle.command_outcomes.specs.declared.command.Numbers.{Numbers}
pub use Rattle.moves_coords.proofs.Free as free_coords
pub use Rattle.moves_coords.proofs.Named as named_coords
pub use Rattle.moves_gtid.proofs.Free as free_gtids
pub use Rattle.moves_gtid.proofs.Named as named_gtids
pub use Rattle.pseudo_match.proofs.Free as free_matches
pub use Rattle.pseudo_match.proofs.Named as named_matches
pub use Rattle.pseudo_match.specs.Permits as matches
pub use Rattle.recovery_core.proofs.PermissionProofs.Rows.{about-free, about-is}
pub use Rattle.recovery_core.proofs.PermissionProofs.Within.{AllWithin, Within, given-within, none-within}
pub use Rattle.recovery_core.proofs.Prelude.{All-nil, IsBook, begun-of, first_about, first_busy, neither, replicas-within}
pub use Rattle.recovery_core.specs.Commands.declared.kinds.CoordsCommand.TheVariants as by_coords
pub use Rattle.recovery_core.specs.Commands.declared.kinds.GtidCommand.TheVariants as by_gtids
pub use Rattle.recovery_core.specs.Commands.declared.kinds.MatchCommand.TheVariants as by_matches
pub use Rattle.recovery_core.specs.Commands.declared.kinds.PathCommand.TheVariants as by_paths
pub use Rattle.recovery_core.specs.Commands.declared.refusal.Refusal.{Refusal}
pub use Rattle.regroup.proofs.Free as free_paths
pub use Rattle.regroup.proofs.Named as named_paths
pub use Rattle.regroup.specs.Permits as paths
pub use Rattle.unended_jobs.proofs.RecoveryEnds.Ended.{begun-shaped}
pub use Rattle.unended_jobs.specs.Operations.Named.{IsInRange, are_named}
pub use Rattle.unended_jobs.specs.RecoveryPlans.declared.purpose.Purpose.TheVariants as purpose
pub use Rattle.unended_jobs.specs.Unended.{IsReady, IsReadyJob, IsUnended, number_of}
pub use Rattle.unended_jobs.specs.declared.unended.Unended.{Unended}
