-- What its proofs cite of others.
pub use Rattle.std.proofs.Math.Nat.{mul-le-mul_right}
pub use Rattle.std.proofs.lemmas.Bool.{and_parts, cases_eq, eq-eqb, eqb-true, false≢true, ne_eqb, or_right}
pub use Rattle.std.proofs.lemmas.Bool.Decides.{nat_tests}
pub use Rattle.std.proofs.lemmas.List.{drop-take, length-set, length-take, map-append, take-append-drop, take-append-le, take-take, take_more}
pub use Rattle.std.proofs.lemmas.List.Elements.{All-head, All-nil, All-push, All-set, All-tail}
pub use Rattle.std.proofs.lemmas.List.Sums.{count_by-le-length, fold-append, prefix_len-le-length, sum_by-le, sum_by-set, sum_by_push}
pub use Rattle.std.proofs.lemmas.Option.{get_or_from_slice_get, same_Some, slice_get-get_or, slice_get_within}
pub use Rattle.std.proofs.lemmas.Result.{err_from_is_err_and}
pub use Rattle.std.specs.List.{list_any}
pub use Rattle.server_model.specs.Attach.{IsTarget, after_attach, attach_answer, attach_decision, attached_to, chain_meets, chain_on, first_kept}
pub use Rattle.server_model.specs.Attach.{live_spot, purged_answer, same_spot, spot_below}
pub use Rattle.server_model.specs.Desk.{after_change, after_desk, after_rotate, asked, attached_source, befall, befallen, desk_answer}
pub use Rattle.server_model.specs.Desk.{detached_source, is_detached, rotate_answer, rotated, without_source}
pub use Rattle.server_model.specs.Exchanges.{IsReady, after_apply, after_fetch, after_write, applied, apply_from, apply_step, apply_txn, attached_at}
pub use Rattle.server_model.specs.Exchanges.{fetch_from, fetch_kept, fetch_step, is_applying, is_attached, is_reached, is_receiving, own_txn, took}
pub use Rattle.server_model.specs.Exchanges.{write_answer}
pub use Rattle.server_model.specs.Fit.{HasPlaces, HasSize, IsFit, IsKept, own_counts, own_from}
pub use Rattle.server_model.specs.Gtids.{AreGtids, IsAutoTarget, IsNumbered, IsSetOf, TellsExecuted, after_attach_auto, answer_by_sets}
pub use Rattle.server_model.specs.Gtids.{attach_auto_answer, attach_fault, attached_auto, auto_coord, auto_decision, auto_purged, auto_readiness}
pub use Rattle.server_model.specs.Gtids.{errant_answer, errant_set, has_gtid, held_len, held_of, kept_coord, purged_len, purged_txns, reserved_set}
pub use Rattle.server_model.specs.Gtids.{seen_purged, seen_set, set_of, shown, shown_of, source_at, status_of, uuid_of, uuids, uuids_in, with_gtid}
pub use Rattle.server_model.specs.Gtids.{with_gtids}
pub use Rattle.server_model.specs.Kept.{Kept}
pub use Rattle.server_model.specs.Prelude.{Ask, Attached, AttachFault, Coord, Detached, Event, Gives, Grown, Index, Interval, Log, Next, PurgeAnswer}
pub use Rattle.server_model.specs.Prelude.{Reserved, RotateAnswer, ServerNo, Settings, SourceState, Spot, Status, Txn, Unreachable, Without}
pub use Rattle.server_model.specs.Prelude.{WriteAnswer, coord_after, count_own, end_of, file_start, filter, flush, fold, has_place, holds}
pub use Rattle.server_model.specs.Prelude.{is_at_or_before, next_after, opened, option_copied, place, push, same_coord, same_txn, with_pair}
pub use Rattle.server_model.specs.Purging.{after_purge, files_read, greater, is_reading, kept_from, least_read, lesser, purge_answer}
pub use Rattle.server_model.specs.Run.{AllAllowed, Allowed, Apply, Attach, AttachAuto, Befall, Exchange, Fetch, Purge, Request, Rotate, Write, after}
pub use Rattle.server_model.specs.Run.{run}
pub use Rattle.server_model.specs.Safe.{StandsIn}
pub use Rattle.server_model.specs.ServerBy.{server_of}
pub use Rattle.server_model.specs.Standing.{CanStand}
pub use Rattle.server_model.specs.Steps.{applier_did, receiver_did}
pub use Rattle.server_model.specs.Worlds.{KeepsFrom, World, has_source, server_at, source_no, sources, sources_in, with_server}
pub use Rattle.server_model.specs.declared.decisions.ApplyStep.{ApplyStep}
pub use Rattle.server_model.specs.declared.decisions.ApplyStep.TheVariants as applying
pub use Rattle.server_model.specs.declared.decisions.FetchStep.{FetchStep}
pub use Rattle.server_model.specs.declared.decisions.FetchStep.TheVariants as receiving
pub use Rattle.server_model.specs.declared.server.Server.{Server}
pub use Rattle.server_model.specs.declared.server.Server.TheInside.{Inside}
pub use Rattle.server_words.proofs.BinlogCoords.Places.{Laid-Grown, next_after-step, place-coord_after, place-from, place-monotone, place-parts}
pub use Rattle.server_words.proofs.BinlogCoords.Places.{place-within, stable_flush, stable_push}
pub use Rattle.server_words.proofs.GtidSets.Inserts.{IsSet-with_pair, Rises, Rises-inserted, holds-with_pair, length-inserted}
pub use Rattle.server_words.proofs.GtidSets.SameSets.{same_sets_lem}
pub use Rattle.server_words.specs.BinlogCoords.Grown as grown
pub use Rattle.server_words.specs.BinlogCoords.Log.{StepFrom, appended, ends_by, entry_at_end, is_file_start, touches}
pub use Rattle.server_words.specs.BinlogCoords.declared.Next.TheVariants as next
pub use Rattle.server_words.specs.GtidSets.Adding.{single}
pub use Rattle.server_words.specs.GtidSets.Sets.{IsInterval, IsSet, largest, spans}
pub use Rattle.server_words.specs.OrchBase.Chains.{Grounded, Root, Under}
pub use Rattle.server_words.specs.OrchBase.Histories
pub use Rattle.server_words.specs.declared.answers.PurgeAnswer.TheVariants as purging
pub use Rattle.server_words.specs.declared.answers.RotateAnswer.TheVariants as rotating
pub use Rattle.server_words.specs.declared.answers.WriteAnswer.TheVariants as wrote
pub use Rattle.server_words.specs.declared.attach.AttachFault.TheVariants as attaching
pub use Rattle.server_words.specs.declared.changes.Ask.TheVariants as asking
pub use Rattle.server_words.specs.declared.changes.Event.TheVariants as event
pub use Rattle.server_words.specs.declared.changes.Link.TheVariants as link
pub use Rattle.server_words.specs.declared.changes.Threads.TheVariants as threads
