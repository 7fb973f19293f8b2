-- What its proofs cite of others.
pub use Rattle.std.proofs.lemmas.Bool.{and_parts, eq-eqb, eqb-true, ltb-false, ltb-true}
pub use Rattle.std.proofs.lemmas.Option.{same_Some, slice_get-get_or, slice_get_within}
pub use Rattle.std.specs.List.{flat_map, remove}
pub use Rattle.recovery_ends.proofs.Ended.{taken-ends, taken-shaped}
pub use Rattle.recovery_ends.proofs.Observing.{attempted-observes}
pub use Rattle.recovery_plans.proofs.OperationsProofs.Allowing.{turn-allowed}
pub use Rattle.recovery_plans.proofs.OperationsProofs.Attempts.{Attempts, attempts}
pub use Rattle.recovery_plans.proofs.OperationsProofs.Attempts as doing
pub use Rattle.recovery_plans.proofs.OperationsProofs.Ending.{turn-moves}
pub use Rattle.recovery_plans.proofs.OperationsProofs.Named.{id-after, named-after, range-after}
pub use Rattle.recovery_plans.proofs.Promoting.{taken-leads}
pub use Rattle.recovery_plans.specs.Operations.Deeds as deed
pub use Rattle.recovery_plans.specs.Operations.Turns.{settled}
pub use Rattle.recovery_plans.specs.Operations.declared.step.JobStep.TheVariants as step
pub use Rattle.recovery_turns.proofs.Prelude.{All-head, AllAllowed, Attempt, BookState, Deed, IsNamedRecovery, IsOpOf, Job, JobStep, Line, Moment, Op}
pub use Rattle.recovery_turns.proofs.Prelude.{Recovery, ServerNo, Taken, World, acted, after_step, are_named, by_deed, by_ops, decided, decided-of}
pub use Rattle.recovery_turns.proofs.Prelude.{decided_on, deed_of, ground_of, is_named, renumbered, spoken_to, taken, taken-allowed, taken-of, turned}
pub use Rattle.recovery_turns.proofs.Purposes.{done-purpose}
pub use Rattle.recovery_turns.specs.Looks
pub use Rattle.recovery_turns.specs.declared.look.RecoveryLook.{RecoveryLook}
pub use Rattle.recovery_turns.specs.declared.look.Then.{Then}
pub use Rattle.unended_jobs.specs.Hooked.{CanRun, Hooked, front_hook, front_turn, hooked, left_of, name_of, own_turn, promoted_in, quiet, rear_hook}
pub use Rattle.unended_jobs.specs.Hooked.{rear_turn, step_before, step_with, told_with, with_hooks, with_hooks_of}
pub use Rattle.unended_jobs.specs.Looks.{CanGo, foretold, hooked_by, observation_of, step_of}
pub use Rattle.unended_jobs.specs.Prelude.{Hook, HookState, HostPort, Observation, checked, due_after, due_before, hooks_left, is_going, observed}
pub use Rattle.unended_jobs.specs.Prelude.{option_map, ran_after, ran_before, turns_to_end}
pub use Rattle.unended_jobs.specs.Rounds.{polls, replicates}
pub use Rattle.unended_jobs.specs.Unended.{Flown, IsReady, IsReadyRecovery, IsUnended, flown, number_of, turns_of}
pub use Rattle.unended_jobs.specs.declared.docket.Docket.{Docket}
pub use Rattle.unended_jobs.specs.declared.look.Place.TheVariants as place
pub use Rattle.unended_jobs.specs.declared.look.UnendedLook.{UnendedLook}
pub use Rattle.unended_jobs.specs.declared.look.UnendedLook.TheVariants as look
pub use Rattle.unended_jobs.specs.declared.unended.Unended.{Unended}
pub use Rattle.unended_jobs.specs.declared.unended.Unended.TheVariants as unended
