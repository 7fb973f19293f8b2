-- What this crate's definitions and contracts cite of others.
pub use Rattle.std.specs.List.{flat_map, remove}
pub use Rattle.hook_texts.specs.declared.hooks.Hook.{Hook}
pub use Rattle.job_plans.specs.Acts.{CanTurn}
pub use Rattle.job_plans.specs.Acts
pub use Rattle.recovery_ends.specs.Ends.{IsShaped, turns_to_end}
pub use Rattle.recovery_hooks.specs.Runs.{HookState, checked, done_lines, due_after, due_before, failed_lines, hooks_left, ran_after, ran_before}
pub use Rattle.recovery_plans.specs.Commands.declared.cause.Cause.TheVariants as cause
pub use Rattle.recovery_plans.specs.InstanceKeeper.Book.{BookState, after_store}
pub use Rattle.recovery_plans.specs.Operations.Ending.{turns_left}
pub use Rattle.recovery_plans.specs.Operations.Named.{IsInRange, IsNamed}
pub use Rattle.recovery_plans.specs.Operations.Turns.{is_going, observed, turned}
pub use Rattle.recovery_plans.specs.Operations.declared.step.JobStep.TheVariants as step
pub use Rattle.recovery_plans.specs.OrchBase.Names.{HostPort}
pub use Rattle.recovery_plans.specs.OrchBase.declared.server.Moment.{Moment}
pub use Rattle.recovery_turns.specs.Looks.{CanTake, foretold}
pub use Rattle.recovery_turns.specs.Prelude.{AllAllowed, Exchange, IsNamedRecovery, Job, JobStep, Observation, Recovery, ServerNo, Taken, Turned}
pub use Rattle.recovery_turns.specs.Prelude.{World, option_copied, option_map, run, taken}
