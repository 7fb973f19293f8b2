-- What this crate's definitions and contracts cite of others.
pub use Rattle.std.specs.Option.{option_copied, option_map}
pub use Rattle.job_plans.specs.Acts.{CanFollow, IsSpare, exchanges_of, foretold, job_after, rest_of, takes_memory}
pub use Rattle.job_plans.specs.JobsSeen.{seen_after}
pub use Rattle.job_plans.specs.declared.act.Look.{Look}
pub use Rattle.recovery_parts.specs.Doings.{exchange_of}
pub use Rattle.recovery_parts.specs.Doings
pub use Rattle.recovery_parts.specs.Fates.{fate_told}
pub use Rattle.recovery_parts.specs.Grounds.{ground_by}
pub use Rattle.recovery_parts.specs.Infos.{back_told, bar_told, made_told}
pub use Rattle.recovery_plans.specs.Beginning.{begun_recovery, but, first_ops, first_source, first_stage, first_tasks, is_master}
pub use Rattle.recovery_plans.specs.Commands.declared.line.Line.TheVariants as line
pub use Rattle.recovery_plans.specs.Deciding.{at_last, better_of, by_task, choose, chosen_of, closing, crown, decided, expels, hand, hand_over}
pub use Rattle.recovery_plans.specs.Deciding.{look_at, moving, once, rejoin, releases, sort, stuck, swap, swap_by, swap_or_crown, why_of, yield}
pub use Rattle.recovery_plans.specs.Moves.{borne}
pub use Rattle.recovery_plans.specs.Named.{IsNamedRecovery}
pub use Rattle.recovery_plans.specs.Operations.Turns.{Turned, hands_after, next, saw_at, with_match}
pub use Rattle.recovery_plans.specs.Operations.declared.step.JobStep.TheVariants as step
pub use Rattle.recovery_plans.specs.Prelude.{AllAllowed, Bridge, Cause, Exchange, Job, JobStep, Line, Observation, Op, ServerNo, Sight, World}
pub use Rattle.recovery_plans.specs.Prelude.{deed_of, ended, job_with, option_to_list, seen_of, server_of, with_seen}
pub use Rattle.recovery_plans.specs.Recoveries.{Recovery, follows, follows_no_more, loses, without_follower, working}
pub use Rattle.recovery_plans.specs.ServerModel.Run.{run}
pub use Rattle.recovery_plans.specs.Stages.{ends, moved, with_bridge}
pub use Rattle.recovery_plans.specs.Taking.{Taken, at_end, back_by, bar_by, barred_by, completed, entered, expelled, fails, fate, frees, gathered}
pub use Rattle.recovery_plans.specs.Taking.{goes_back, goes_on, halted, idle, is_below, is_waiting, last_exchanges, last_looks, lead_under, looked}
pub use Rattle.recovery_plans.specs.Taking.{made_of, marked, met, settled, swapped, taken, undone}
pub use Rattle.recovery_plans.specs.Telling.{follower_line, lost_line, replica_line, result_lines, told_why}
pub use Rattle.recovery_plans.specs.Whys.{cause_of}
pub use Rattle.recovery_plans.specs.declared.purpose.Purpose.{Purpose}
pub use Rattle.recovery_plans.specs.declared.purpose.Purpose.TheVariants as purpose
pub use Rattle.recovery_plans.specs.declared.stage.Stage.TheVariants as stage
pub use Rattle.recovery_plans.specs.declared.task.Task.{Task}
