-- What its proofs cite of others.
pub use Rattle.std.proofs.lemmas.Bool.{lt-ltb}
pub use Rattle.std.proofs.lemmas.Fn.{filter_same}
pub use Rattle.std.proofs.lemmas.List.{drop-drop}
pub use Rattle.std.proofs.lemmas.Option.{slice_get_past, slice_get_within}
pub use Rattle.job_plans.specs.Acts.{rest_of}
pub use Rattle.job_plans.specs.Compared.{Compared}
pub use Rattle.job_plans.specs.Entries.{kept_from}
pub use Rattle.job_plans.specs.JobsBy.{job_of}
pub use Rattle.job_plans.specs.JobsSeen.{or_seen, seen_after, seen_last}
pub use Rattle.job_plans.specs.Prelude.{Job, Op, Position, Server, ServerNo, Sight, World, alike, first_not, hands_after, holds_seen, last_mark}
pub use Rattle.job_plans.specs.Prelude.{logged_by, matched_at, next, option_copied, place_of_mark, purged_len, seen_of, server_at, shows_same}
pub use Rattle.job_plans.specs.Prelude.{turns_left, with_seen}
pub use Rattle.job_plans.specs.declared.job.Job.TheInside.{Inside}
pub use Rattle.operations.proofs.Marks.{entry-is, last-is, last-none, mark-there, match-behind, match-of-both, match-unlogged, same-there}
pub use Rattle.operations.proofs.Prelude.{Txn, holds, is_mark_there, is_same_there, is_within, last_below, le-ltb, others, same_Some, turns_for}
pub use Rattle.operations.proofs.ServerModel.ExecutedSets.{server-there}
pub use Rattle.operations.proofs.Sets.{decided, holds-within, within-holds}
pub use Rattle.operations.proofs.Sights.{seen-at}
pub use Rattle.operations.specs.ServerModel.Plains.{log_of}
pub use Rattle.operations.specs.declared.matching.Match.{Match}
