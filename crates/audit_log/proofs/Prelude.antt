-- What its proofs cite of others.
pub use Rattle.std.proofs.Math.Numerals.{add-one}
pub use Rattle.std.proofs.Math.Seq.{drop-cons, get_or-append_seam}
pub use Rattle.std.proofs.lemmas.Bool.{and_parts, cases_eq, cases_lt, eq-eqb, eqb-true, false≢true, le-ltb, ltb-false, ne_eqb, not-true}
pub use Rattle.std.proofs.lemmas.Bool.Decides.{nat_tests}
pub use Rattle.std.proofs.lemmas.Cmp.{nat_cmp_total, ranked}
pub use Rattle.std.proofs.lemmas.List.{append-nil, append_assoc, drop_all, get_or-append-add, get_or-map, get_or-reverse, get_or-set_other}
pub use Rattle.std.proofs.lemmas.List.{get_or-set_same, get_or_append_left, length-append, length-drop, length-map, length-reverse, length-set}
pub use Rattle.std.proofs.lemmas.List.{map-append, reverse-append, take_all, take_more}
pub use Rattle.std.proofs.lemmas.List.Elements.{All-cons, All-contains_itself, All-head, All-map, All-nil, All-push, All-tail, All-weaker, at_read}
pub use Rattle.std.proofs.lemmas.List.Elements.{filter_map-append}
pub use Rattle.std.proofs.lemmas.List.Folds.{find-append}
pub use Rattle.std.proofs.lemmas.List.Quantifiers.{all_pairs_push}
pub use Rattle.std.proofs.lemmas.List.Sorted.{answers_always, searchable_from_sorted}
pub use Rattle.std.proofs.lemmas.List.Sums.{count_by-le-length, sum_by-cons, sum_by_push}
pub use Rattle.std.proofs.lemmas.Option.{IfSome_then, get_or_from_slice_get, same_Some, slice_get-get_or, slice_get_within}
pub use Rattle.std.specs.Cmp.Lexicographic.{nat_list_eq_equiv, pointwise, same_text}
pub use Rattle.std.specs.List.{AllWithin, HoldsAt}
pub use Rattle.std.specs.List.Sorted.{IsBinarySearchResult, IsSearchInRange, IsSortedBy}
pub use Rattle.std.specs.Option.{option_copied, option_or, option_to_list}
pub use Rattle.std.specs.Ordering.{is_lt, nat_cmp}
pub use Rattle.std.specs.Result.{result_ok}
pub use Rattle.std.specs.declared.cmp.Ordering.TheVariants.{Equal, Greater, Less}
pub use Rattle.audit_log.specs.Apart.{IsApart, IsClear, IsFree, IsHeldBack, MayBegin, count_unended}
pub use Rattle.audit_log.specs.Audits.{AuditRoom, AuditState, IsAudit, StandsAt, acked_so, acknowledged, acknowledged_at, acknowledged_for, begun}
pub use Rattle.audit_log.specs.Audits.{closed, ended, ended_so, finished, finished_so, held_by, interrupted, is_blocking, is_new, is_of, is_open}
pub use Rattle.audit_log.specs.Audits.{is_unended, last_blocking, longest_block, may_begin, recovery_at, unended_of}
pub use Rattle.audit_log.specs.Extended.{either_held, extended}
pub use Rattle.audit_log.specs.Index.{DoneIn, DoneOf, IsFound, IsIndex, IsLastBut, IsLink, IsLinked, clear_at, clear_in, is_done}
unfoldable pub use Rattle.audit_log.specs.Index.{bucket_of, mixed}
pub use Rattle.audit_log.specs.Loading.{loaded_by, recoveries_in, recovery_row_in, recovery_rows_in}
pub use Rattle.audit_log.specs.declared.held.Held.{Held}
pub use Rattle.audit_log.specs.declared.held.Held.TheVariants as held
pub use Rattle.audit_log.specs.declared.index.Index.{Index}
pub use Rattle.audit_log.specs.declared.index.Link.{Link}
pub use Rattle.kept_rows.proofs.Lists.{pairs_head, pairs_tail}
pub use Rattle.kept_rows.specs.OrchBase.declared.recovery.Ending.{Ending}
pub use Rattle.kept_rows.specs.OrchBase.declared.recovery.Ending.TheVariants as ending
pub use Rattle.kept_rows.specs.OrchBase.declared.server.Moment.{Moment}
pub use Rattle.kept_rows.specs.Rows.{IsRising, sort_key_of}
pub use Rattle.kept_rows.specs.declared.recovery.Recovery.{Recovery}
pub use Rattle.kept_rows.specs.declared.recovery.RecoveryRow.{RecoveryRow}
pub use Rattle.kept_rows.specs.declared.row.Row.{Row}
pub use Rattle.kept_rows.specs.declared.row.Row.TheVariants as row
