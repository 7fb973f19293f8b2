-- What its proofs cite of others.
pub use Rattle.std.proofs.Math.Seq.{drop-cons}
pub use Rattle.std.proofs.lemmas.List.Elements.{filter-append}
pub use Rattle.std.proofs.lemmas.Option.{IfSome_then}
pub use Rattle.live_desk.specs.DeskBy.{IsAt, desk_of, left_from}
pub use Rattle.live_desk.specs.Desks.{DeskState, IsDesk, IsDriven, IsNext, IsNextOfAny, MayTake, held_of, made, opening, run_of, taken}
pub use Rattle.live_desk.specs.Ends.{Finishes, IsLive, RunsOn, rows_after, state_after}
pub use Rattle.live_desk.specs.Entries.{Entry, Stands, commands_in, driver_entries, driver_list, drives, entries_of, is_of, others_in, pairs_in}
pub use Rattle.live_desk.specs.Entries.{places_from, places_of, those_in, turns_in}
pub use Rattle.live_desk.specs.Kinds.{is_command}
pub use Rattle.live_desk.specs.Works.{IsOver, more_work}
pub use Rattle.orch_core.proofs.Finishing.{named-round, turns-round}
pub use Rattle.orch_core.proofs.Others.{without-less}
pub use Rattle.orch_core.proofs.Prelude.{All-append, All-cons, All-nil, Held, IsScenario, IsTurn, NamesOneOf, Recorded, Reply, Row, Scenario}
pub use Rattle.orch_core.proofs.Prelude.{ServerNo, State, Turn, Unended, changed, changes_of, eq-eqb, flat_map, fold-append, held_run, held_step}
pub use Rattle.orch_core.proofs.Prelude.{is_open, job_at, length-append, map-append, next_count, nodes_of, number_of, polls, recorder, replicates}
pub use Rattle.orch_core.proofs.Prelude.{reply_of, round_of, round_over, same_Some, slice_get-get_or, start, start_changes, times}
unfoldable pub use Rattle.orch_core.proofs.Prelude.{by_name}
pub use Rattle.orch_core.specs.Due.{IsDue}
pub use Rattle.orch_core.specs.KeptRows.Keeping.{Kept, after_call}
pub use Rattle.orch_core.specs.OrchBase.Memory.{fails_next}
pub use Rattle.orch_core.specs.Rounds.{Finished, IsFinish}
pub use Rattle.orch_core.specs.Runs.{record_turn}
