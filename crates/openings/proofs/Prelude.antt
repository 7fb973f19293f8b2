-- What its proofs cite of others.
pub use Rattle.std.proofs.lemmas.Bool.{and_from, and_parts, cases_Bool, cases_eq, cases_lt, cases_order, eq-eqb, eqb-true, le-leb, leb-true}
pub use Rattle.std.proofs.lemmas.Bool.{ltb-false, ne_eqb, not-false, or_cases, or_left, or_parts, or_right}
pub use Rattle.std.proofs.lemmas.Bool.Decides.{nat_tests}
pub use Rattle.std.proofs.lemmas.List.{drop_all, drop_more, get_or-drop, get_or-replicate, get_or-set_other, get_or-set_same, length-drop}
pub use Rattle.std.proofs.lemmas.List.{length-replicate, length-set, length-take, length-take-le, take-append-le, take-take, take_all, take_at}
pub use Rattle.std.proofs.lemmas.List.{take_more}
pub use Rattle.std.proofs.lemmas.List.Elements.{All-append, All-head, All-nil, All-replicate, All-tail}
pub use Rattle.std.proofs.lemmas.List.Sums.{count_by-le-length, sum_by-cons, sum_by_push}
pub use Rattle.std.proofs.lemmas.Map.Steps.{length-le_from_distinct_below}
pub use Rattle.std.proofs.lemmas.Option.{get_or_from_slice_get, same_Some, slice_get-get_or, slice_get_within}
pub use Rattle.std.proofs.lemmas.Result.{IfOk-weaker}
unfoldable pub use Rattle.std.specs.List.{IsDistinct}
pub use Rattle.binlog_coords.specs.Index.{Index}
pub use Rattle.binlog_coords.specs.Log.{appended}
pub use Rattle.binlog_coords.specs.OrchBase.Chains.{Root, Under}
pub use Rattle.openings.specs.Flaws.{at_server, at_source, bad_coords, bad_coords_in, bad_flushes, bad_purged, below_itself, both_given}
pub use Rattle.openings.specs.Flaws.{falls_or_passes, first_flaw, first_met, flaw_in, flaw_or, flaws, has_place_of, is_reached, is_reached_on}
pub use Rattle.openings.specs.Flaws.{not_kin, of_source, source_not_logging, too_many}
pub use Rattle.openings.specs.Kin.{agrees_with, all_below, histories_agree, is_home, is_kin, links, links_agree, same_before}
pub use Rattle.openings.specs.Laying.{SameBehind, rises_from}
pub use Rattle.openings.specs.Listed.{joined_by, listed_history, next_txn, singles, transactions}
pub use Rattle.openings.specs.Logs.{flushed_at, flushed_times, laid, laid_after}
pub use Rattle.openings.specs.Opening.{IsChecked, IsListed, IsPart, Opened}
pub use Rattle.openings.specs.Prelude.{Coord, Grounded, Log, ServerNo, Txn, count_own, flush, is_at_or_before, is_before, list_all, list_any, opened}
pub use Rattle.openings.specs.Prelude.{place, push, same_txn}
pub use Rattle.openings.specs.Servers.{count_at, count_of, count_under, exec_of, follow_on, history_at, log_at, log_in, number_of, parts_at, parts_of}
pub use Rattle.openings.specs.Servers.{reached_from, read_of, root_of, source_of, sources}
pub use Rattle.openings.specs.Sound.{IsSound, IsUnder}
pub use Rattle.openings.specs.Taking.{CountsOwn, HasSize, PartsInRange}
pub use Rattle.openings.specs.declared.init.ServerInit.{ServerInit}
pub use Rattle.openings.specs.declared.opening.Flaw.{Flaw}
pub use Rattle.openings.specs.declared.part.Part.{Part}
