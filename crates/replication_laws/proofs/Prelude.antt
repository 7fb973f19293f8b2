-- What its proofs cite of others.
pub use Rattle.std.proofs.Math.Seq.{take-append_seam, take-length}
pub use Rattle.std.proofs.lemmas.Bool.{and_parts, cases_eq, eq-eqb, eqb-false, eqb-true, false_from_ne_true, false≢true, ne_eqb, or_cases, or_parts}
pub use Rattle.std.proofs.lemmas.Bool.{or_right}
pub use Rattle.std.proofs.lemmas.Bool.Decides.{nat_tests}
pub use Rattle.std.proofs.lemmas.List.{length-set, length-take, length-take-le, nil_from_length, take-append-drop, take-append-le}
pub use Rattle.std.proofs.lemmas.List.Folds.{list_any-append, list_any_at}
pub use Rattle.std.proofs.lemmas.List.Sums.{sum_by-cons, sum_by-take-le}
pub use Rattle.std.proofs.lemmas.Map.Steps.{length-le_from_distinct_below}
pub use Rattle.std.proofs.lemmas.Option.{get_or_from_slice_get, same_Some, slice_get-get_or, slice_get_past, slice_get_within}
pub use Rattle.std.specs.List.{list_any}
unfoldable pub use Rattle.std.specs.List.{IsDistinct}
pub use Rattle.replication_laws.specs.Below.{Here, IsReadyAt, IsReadyAuto, Reaches, Up}
pub use Rattle.replication_laws.specs.Bridges.{Bridges, Stands}
pub use Rattle.replication_laws.specs.Faults.{is_fault, no_new_file, nothing_applied, nothing_done, nothing_purged, nothing_read, nothing_written}
pub use Rattle.replication_laws.specs.Growth.{GoesOn, Grows}
pub use Rattle.replication_laws.specs.Observed.{HasExecuted}
pub use Rattle.replication_laws.specs.Prelude.{AllAllowed, AllJoinWell, Allowed, Apply, Attach, AttachAuto, Befall, Entry, Exchange, Fetch}
pub use Rattle.replication_laws.specs.Prelude.{IsAutoTarget, IsQuiet, IsTarget, JoinsWell, Placed, Purge, Request, Rotate, Safe, Server, World, Write}
pub use Rattle.replication_laws.specs.Prelude.{after, apply_step, can_reach, chain_meets, errant_set, has_gtid, held_of, histories, is_rotate}
pub use Rattle.replication_laws.specs.Prelude.{is_write, live_spot, run, same_spot, server_at, shown, source_no, sources, status, uuids, with_server}
pub use Rattle.replication_laws.specs.Purged.{Beyond, InPurged, IsActive, IsGone, IsLogged, IsRefused, Unlogged}
pub use Rattle.replication_laws.specs.Room.{AllFit, Fitting, HasFiles, IsNotFull}
pub use Rattle.replication_laws.specs.Showing.{IsPosition, Shows}
pub use Rattle.server_model.proofs.AutoAttached.{held-within}
pub use Rattle.server_model.proofs.Chains.{not_self}
pub use Rattle.server_model.proofs.Changes.{Asked, Becomes, Befallen, Leaves, does-ask, does-befall, leaves}
pub use Rattle.server_model.proofs.Counts.{servers-after}
pub use Rattle.server_model.proofs.Errants.{none-errant}
pub use Rattle.server_model.proofs.ExecutedSets.{holds-set_of, is_gtid, server-there, set_of-same, told-set_of}
pub use Rattle.server_model.proofs.Fetched.{fetch_step-on}
pub use Rattle.server_model.proofs.Lists.{slice_get-front, slice_get-set, slice_get-snoc_cases, slice_get-take, take-more}
pub use Rattle.server_model.proofs.LogSizes.{length-push}
pub use Rattle.server_model.proofs.PurgedFiles.{KeepsFrom-took, from_file, has_place-file_start, purged-place, purged_len-few, purged_len-is}
pub use Rattle.server_model.proofs.Purges.{greater-right, kept_from-rises, kept_from-within, least-each, least-first, least-least, listed-read}
pub use Rattle.server_model.proofs.Purges.{read-listed}
pub use Rattle.server_model.proofs.Takes.{count_own-push}
pub use Rattle.server_model.specs.Attach.{after_attach, attach_answer, attached_to, chain_on, first_kept, purged_answer, spot_below}
pub use Rattle.server_model.specs.Desk.{after_change, after_desk, after_rotate, asked, befallen, desk_answer, rotate_answer, rotated, without_source}
pub use Rattle.server_model.specs.Exchanges.{after_apply, after_fetch, after_write, applied, apply_answer, apply_from, apply_txn, attached_at}
pub use Rattle.server_model.specs.Exchanges.{fetch_answer, fetch_from, fetch_kept, fetch_step, is_attached, is_reached, is_receiving, own_txn, took}
pub use Rattle.server_model.specs.Exchanges.{write_answer}
pub use Rattle.server_model.specs.Gtids.{after_attach_auto, answer_by_sets, attach_auto_answer, attached_auto, auto_coord, auto_purged, executed_set}
pub use Rattle.server_model.specs.Gtids.{held_len, kept_coord, own_end_of, purged_len, purged_of, purged_txns, set_of, shown_of, status_in, uuid_of}
pub use Rattle.server_model.specs.Kept.{Kept}
pub use Rattle.server_model.specs.Layout.{Flushed, LaysOut, Opened, Took}
pub use Rattle.server_model.specs.Plains.{logged_by, logged_in}
pub use Rattle.server_model.specs.Prelude.{Ask, Attached, AttachFault, Coord, Detached, Event, Grown, Index, Interval, Log, Next, PurgeAnswer}
pub use Rattle.server_model.specs.Prelude.{RotateAnswer, ServerNo, Settings, SourceState, Spot, Status, Txn, Unreachable, Without, WriteAnswer}
pub use Rattle.server_model.specs.Prelude.{coord_after, count_own, end_of, file_start, flush, has_place, holds, is_at_or_before, next_after, place}
pub use Rattle.server_model.specs.Prelude.{prefix_len, push, same_coord, same_txn}
pub use Rattle.server_model.specs.Purging.{after_purge, files_read, greater, is_attached_to, is_reading, kept_from, least_read, purge_answer}
pub use Rattle.server_model.specs.Run.{IsJunction, IsObserved}
pub use Rattle.server_model.specs.Safe.{AttachedWell, Grounded, HaveOwnUuids, IsKin, IsSource, KeepFiles, Root, StandsIn, Under}
pub use Rattle.server_model.specs.Worlds.{KeepsFrom, has_source, history_of, source_of}
pub use Rattle.server_model.specs.declared.decisions.ApplyStep.{ApplyStep}
pub use Rattle.server_model.specs.declared.decisions.ApplyStep.TheVariants as applying
pub use Rattle.server_model.specs.declared.decisions.FetchStep.{FetchStep}
pub use Rattle.server_model.specs.declared.decisions.FetchStep.TheVariants as receiving
pub use Rattle.server_words.proofs.BinlogCoords.Places.{Appended, Laid, Laid-files, Laid-Grown, has_place-of_end, next_after-reaches, next_after-step}
pub use Rattle.server_words.proofs.BinlogCoords.Places.{place-coord_after, place-from, place-monotone, place-of_end, place-parts, same_coord-refl}
pub use Rattle.server_words.proofs.BinlogCoords.Places.{same_coord-true, stable_flush, stable_push}
pub use Rattle.server_words.proofs.BinlogCoords.Places
pub use Rattle.server_words.proofs.BinlogCoords.Steps.{next_after-entry}
pub use Rattle.server_words.specs.BinlogCoords.Grown as grown
pub use Rattle.server_words.specs.BinlogCoords.Log.{ReachesBy, StepFrom, end_coord, ends_by, entry_at_end, is_before, is_file_start, start_coord}
pub use Rattle.server_words.specs.BinlogCoords.Log.{touches}
pub use Rattle.server_words.specs.BinlogCoords.declared.Next.TheVariants as next
pub use Rattle.server_words.specs.OrchBase.Histories
pub use Rattle.server_words.specs.declared.answers.ApplyAnswer.TheVariants as answers
pub use Rattle.server_words.specs.declared.answers.FetchAnswer.TheVariants as fetching
pub use Rattle.server_words.specs.declared.answers.PurgeAnswer.TheVariants as purging
pub use Rattle.server_words.specs.declared.answers.RotateAnswer.TheVariants as rotating
pub use Rattle.server_words.specs.declared.answers.WriteAnswer.TheVariants as wrote
pub use Rattle.server_words.specs.declared.attach.AttachFault.TheVariants as attaching
pub use Rattle.server_words.specs.declared.attach.Spot.TheVariants as spot
pub use Rattle.server_words.specs.declared.status.StatusFault.TheVariants as seeing
