-- What its proofs cite of others.
pub use Rattle.std.proofs.lemmas.Bool.{cases_order}
pub use Rattle.std.proofs.lemmas.List.{same_from_push, take-take}
pub use Rattle.std.proofs.lemmas.List.Sums.{get_or-le-sum_by}
pub use Rattle.openings.proofs.Agreements.{agree-get, same_txn-swap}
pub use Rattle.openings.proofs.Fronts.{slice_get-take, slice_get-take_within, take-more}
pub use Rattle.openings.proofs.Joined.{count_own-push, tick}
pub use Rattle.openings.proofs.ListedCounts.{IsNumbered, listed_numbered}
pub use Rattle.openings.specs.Kin.{histories_agree, links_after, links_agree, same_before}
pub use Rattle.openings.specs.Servers.{count_under}
pub use Rattle.openings.specs.Servers as listed
pub use Rattle.replication_laws.proofs.Files.{not_full-files}
pub use Rattle.replication_laws.proofs.Histories.{count_own-take-le, holds-at}
pub use Rattle.replication_laws.proofs.Keeping.{Placed-safe}
pub use Rattle.replication_laws.proofs.Prelude.{AllAllowed, AllFit, AllJoinWell, AttachedWell, Exchange, Fitting, Grounded, HasFiles, IsKin}
pub use Rattle.replication_laws.proofs.Prelude.{IsNotFull, IsQuiet, IsSource, KeepFiles, LaysOut, Root, Rotate, Safe, Under, and_parts, eq-eqb}
pub use Rattle.replication_laws.proofs.Prelude.{eqb-true, histories, history_of, is_rotate, rotate_answer, run, same_txn, take-length}
pub use Rattle.replication_laws.proofs.Rooms.{not_full-run}
pub use Rattle.server_model.specs.Layout as layout
pub use Rattle.server_model.specs.Safe as ServerModel
pub use Rattle.server_model.specs.Worlds
pub use Rattle.server_words.specs.declared.answers.RotateAnswer.TheVariants as rotating
pub use Rattle.world_openings.proofs.Opened.{given-opened, server_at-opened}
pub use Rattle.world_openings.proofs.OpenedWorlds.{keeps-opened, length-history_at, log_at-is, sized, source-given}
pub use Rattle.world_openings.proofs.Prelude.{All-head, All-tail, Coord, Fits, HasSize, IsChecked, IsSound, IsUnder, KeepsFrom, Log, Opened, Server}
pub use Rattle.world_openings.proofs.Prelude.{ServerInit, ServerNo, Txn, World, append-nil, cases_eq, count_at, count_of, count_own, exec_of}
pub use Rattle.world_openings.proofs.Prelude.{flushed_at, flushed_times, get_or_from_slice_get, history_at, history_numbered, is_at_or_before, laid}
pub use Rattle.world_openings.proofs.Prelude.{laid_after, length-take, listed_history, log_at, log_by, nat_tests, number_of, opened, opened_server}
pub use Rattle.world_openings.proofs.Prelude.{opened_world, parts_at, parts_of, place, push, read_of, root_of, same_Some, server_at, slice_get_within}
pub use Rattle.world_openings.proofs.Prelude.{sound_checked, source_no, source_of, source_state, sources, transactions}
pub use Rattle.world_openings.specs.Room.{LeavesFiles, room_for}
