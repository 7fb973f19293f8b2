-- What this crate's definitions and contracts cite of others.
pub use Rattle.std.specs.declared.cmp.Ordering.TheVariants.{Less}
unfoldable pub use Rattle.asking_commands.specs.Labels.{clusters_of}
pub use Rattle.asking_commands.specs.Prelude.{Recovery, nat_cmp, slice_cmp}
pub use Rattle.circular_buffer.specs.Buffer.{last_item}
pub use Rattle.job_laws.specs.Leases.{Begins, leases_of}
pub use Rattle.job_laws.specs.Prelude.{Bridge, Deed, Job, auto, deed_of, server_at, swap}
pub use Rattle.moves_coords.specs.Commands.{coords_command}
pub use Rattle.moves_coords.specs.Permits.{by_gtids}
pub use Rattle.moves_coords.specs.Permits
pub use Rattle.moves_coords.specs.Plans
pub use Rattle.moves_gtid.specs.Commands.{gtid_command}
pub use Rattle.moves_gtid.specs.Permits.{leased_by, refusal_of, row_of}
pub use Rattle.moves_gtid.specs.Permits as gtids
pub use Rattle.moves_gtid.specs.Plans.{plan_of}
pub use Rattle.plan_parts.specs.Parts.{again_auto, matching, matchings, unders, ups}
pub use Rattle.pseudo_match.specs.Commands.{pseudo_command}
pub use Rattle.pseudo_match.specs.Permits.{last_row_of}
pub use Rattle.pseudo_match.specs.Permits as PseudoMatch
pub use Rattle.pseudo_match.specs.Plans as PseudoMatchPlans
pub use Rattle.recovery_core.specs.AuditLog.Apart.{IsFree, IsHeldBack}
pub use Rattle.recovery_core.specs.AuditLog.Audits.{is_unended}
pub use Rattle.recovery_core.specs.AuditLog.declared.held.Held.TheVariants as held
pub use Rattle.recovery_core.specs.Checks.{code_at, disabled, downtimed, filtered, held_back, no_master, no_replica, without_candidate}
pub use Rattle.recovery_core.specs.Checks.{without_successor}
pub use Rattle.recovery_core.specs.Commands.Refusals.{number_of}
pub use Rattle.recovery_core.specs.Commands.declared.kinds.CoordsCommand.{CoordsCommand}
pub use Rattle.recovery_core.specs.Commands.declared.kinds.GtidCommand.{GtidCommand}
pub use Rattle.recovery_core.specs.Commands.declared.kinds.MatchCommand.{MatchCommand}
pub use Rattle.recovery_core.specs.Commands.declared.line.Line.TheVariants.{Follows, Server}
pub use Rattle.recovery_core.specs.Commands.declared.line.Line.TheVariants as line
pub use Rattle.recovery_core.specs.Commands.declared.name.CommandName.TheVariants as name
pub use Rattle.recovery_core.specs.GtidSets.Sets.{holds}
pub use Rattle.recovery_core.specs.InstanceKeeper.Bridges.{is_same, latest_that, with_bridge}
pub use Rattle.recovery_core.specs.Operations.Deeds as deed
pub use Rattle.recovery_core.specs.Operations.Jobs.{job_with}
pub use Rattle.recovery_core.specs.Operations.declared.op.Crossing.TheVariants as cross
pub use Rattle.recovery_core.specs.Operations.declared.op.Op.TheVariants.{Detach, Finish, ReadOnly, Reattach, Reset, Start, Status, Stop}
pub use Rattle.recovery_core.specs.Permission.Checks.{check_number, refusal_by, unknown_in}
pub use Rattle.recovery_core.specs.Permission.Replicas.{siblings_of}
pub use Rattle.recovery_core.specs.Permission.Views.{exec_seen, first_seen, is_below, purged_seen, set_seen}
pub use Rattle.recovery_core.specs.Prelude.{Action, AuditState, BookState, Busy, Case, Check, Code, Entry, IntermediateRecovery, IsBook, Line}
pub use Rattle.recovery_core.specs.Prelude.{MasterRecovery, Moment, NotActionable, Nothing, Refusal, ServerNo, UnknownInstance, World, action_of}
pub use Rattle.recovery_core.specs.Prelude.{attached_of, begun, first_refusal, is_given, is_instance, label_at, may_begin, only_if, replicas_of}
pub use Rattle.recovery_core.specs.Prelude.{source_of, taken}
pub use Rattle.recovery_core.specs.Recoveries.{recovery_refusal}
pub use Rattle.recovery_core.specs.Recoveries as recovery
pub use Rattle.recovery_core.specs.Scans.{actionable_in, scanned}
pub use Rattle.recovery_core.specs.Takeovers.{takeover_refusal}
pub use Rattle.recovery_core.specs.Takeovers as takeover
pub use Rattle.recovery_core.specs.declared.attempt.Attempt.{Attempt}
pub use Rattle.regroup.specs.Commands.{regroup_command}
pub use Rattle.regroup.specs.Permits as paths
pub use Rattle.regroup.specs.Plans.{arrived, travelled}
pub use Rattle.regroup.specs.Plans as path_plans
pub use Rattle.regroup.specs.Prelude.{Command, CommandName, Op, PathCommand, PurgedPlace, PurgedSet, about, again, autos, finished, flat_map}
pub use Rattle.regroup.specs.Prelude.{following, replicas_but, under, up}
pub use Rattle.regroup.specs.Ways.{Path, parent_at, passed_in, path_of, way_up}
