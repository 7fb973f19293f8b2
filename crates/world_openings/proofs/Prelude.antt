-- What its proofs cite of others.
pub use Rattle.std.proofs.lemmas.List.{append-nil}
pub use Rattle.openings.proofs.ListedCounts.{length-listed_history}
pub use Rattle.openings.proofs.Members.{get-push_new}
pub use Rattle.openings.proofs.Prelude.{IsChecked, IsListed, IsSound, IsUnder, Opened, PartsInRange, cases_lt, count_at, count_of, drop_all, exec_of}
pub use Rattle.openings.proofs.Prelude.{flushed_at, flushed_times, history_at, laid, laid_after, listed_history, log_at, log_in, number_of, parts_at}
pub use Rattle.openings.proofs.Prelude.{parts_of, read_of, root_of, source_of, sources, sum_by-cons, take_all, transactions}
pub use Rattle.openings.proofs.ServerHistories.{history_numbered, history_of}
pub use Rattle.openings.proofs.Soundness.{sound_checked}
pub use Rattle.openings.specs.Opening.{IsAlone}
pub use Rattle.openings.specs.Servers.{exec_in, log_by, logged_by, read_in}
pub use Rattle.openings.specs.Taking
pub use Rattle.openings.specs.declared.init.ServerInit.{ServerInit}
pub use Rattle.server_model.proofs.Chains.{not_self}
pub use Rattle.server_model.proofs.Lists.{set_other, set_same, slice_get-index}
pub use Rattle.server_model.proofs.LogSizes.{files-push, length-push}
pub use Rattle.server_model.proofs.Prelude.{All-head, All-tail, CanStand, Coord, Grown, HasSize, Index, IsFit, IsNumbered, KeepsFrom, Kept, Log}
pub use Rattle.server_model.proofs.Prelude.{ServerNo, Settings, SourceState, Txn, World, cases_eq, count_by-le-length, count_own, file_start}
pub use Rattle.server_model.proofs.Prelude.{get_or_from_slice_get, is_at_or_before, length-set, length-take, nat_tests, opened, place, place-monotone}
pub use Rattle.server_model.proofs.Prelude.{push, same_Some, server_at, server_of, slice_get-get_or, slice_get_within, source_no}
pub use Rattle.server_model.proofs.Told.{log-logged}
pub use Rattle.server_model.specs.Standing.{IsServer, IsSourceOf, world_with}
pub use Rattle.server_model.specs.declared.server.Server.{Server}
pub use Rattle.server_words.specs.BinlogCoords.Grown as grown
pub use Rattle.world_openings.specs.Makings.{AreBare, ArePlaced, HaveLogs, IsPlacedIn, bare_server, placed_by}
pub use Rattle.world_openings.specs.Opening.{Fits, opened_from, opened_server, opened_world, source_state}
