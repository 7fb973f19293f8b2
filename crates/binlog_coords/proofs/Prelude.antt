-- What its proofs cite of others.
pub use Rattle.std.proofs.lemmas.Bool.{and_parts, and_right, cases_Bool, cases_eq, cases_lt, eq-eqb, eqb-true, false_from_ne_true, false≢true, le-leb}
pub use Rattle.std.proofs.lemmas.Bool.{le-ltb, leb-true, lt-ltb, ltb-true, ne_eqb, not_from_false, or_cases, or_from, or_left, or_right}
pub use Rattle.std.proofs.lemmas.Bool.Decides.{nat_tests}
pub use Rattle.std.proofs.lemmas.Fmt.{decimal-digits_value, digits_decimal, digits_value-decimal, first_decimal}
pub use Rattle.std.proofs.lemmas.List.{append_assoc, drop-replicate, drop_at, get_or-append_right, get_or_at, length-append, length-map}
pub use Rattle.std.proofs.lemmas.List.{length-replicate, map-append, take-append-drop, take_at}
pub use Rattle.std.proofs.lemmas.List.Folds.{list_any-append}
pub use Rattle.std.proofs.lemmas.List.Sorted.{IsPartitionPoint-from_clause}
pub use Rattle.std.proofs.lemmas.List.Sums.{count_by-le-length, prefix_len_is, suffix_len_is, sum_by-append}
pub use Rattle.std.proofs.lemmas.Option.{get_or_from_slice_get, same_Some, slice_get-get_or, slice_get-map, slice_get_past, slice_get_within}
pub use Rattle.std.proofs.lemmas.Str.Parse.{IsDigitsTest, IsNumeralModel, not_in_digits, numerals_by_value, parse_digits}
pub use Rattle.std.proofs.lemmas.Str.Pattern.{NoCharPasses-char, drop_at_char}
pub use Rattle.std.specs.Borrow.{Bor}
pub use Rattle.std.specs.Char.{is_ascii_digit}
pub use Rattle.std.specs.Cmp.Lexicographic.{same_text}
pub use Rattle.std.specs.Int.{from_bool}
pub use Rattle.std.specs.List.{after_last, before_last, list_all, list_any, prefix_len, starts_with, suffix_len}
pub use Rattle.std.specs.List.Sorted.{IsPartitionedBy, IsPartitionPoint}
pub use Rattle.std.specs.Result.{result_ok}
pub use Rattle.std.specs.Str.Parse.{ParsesUnsigned, digits_value}
pub use Rattle.std.specs.Str.Pattern.{RFindsChar}
pub use Rattle.binlog_coords.specs.Entries.{LieBetween, starts_at}
pub use Rattle.binlog_coords.specs.Grammar.{HasText, begins_above_zero, coord_of, file_at, is_extension, is_plain, number_at, pos_at, value_within}
pub use Rattle.orch_base.specs.Names.{is_colon}
unfoldable pub use Rattle.binlog_coords.specs.Grammar.{coord_at}
pub use Rattle.binlog_coords.specs.Grown.{Grown}
pub use Rattle.binlog_coords.specs.Grown as grown
pub use Rattle.binlog_coords.specs.Index.{Index}
pub use Rattle.binlog_coords.specs.Log.{EndsFile, Log, ReachesBy, Spans, StepFrom, appended, coord_after, end_coord, end_of, end_or_first, ends_by}
pub use Rattle.binlog_coords.specs.Log.{entry_at_end, entry_from, file_start, flush, has_place, is_at_or_before, is_before, is_file_start, next_after}
pub use Rattle.binlog_coords.specs.Log.{next_file, opened, place, push, same_coord, start_coord, touches}
pub use Rattle.binlog_coords.specs.Relay.{Empty, IsRelay, Passed, Took}
pub use Rattle.binlog_coords.specs.Slots.{entry_of, txn_of}
pub use Rattle.binlog_coords.specs.Text.{coord_text, six_digits}
pub use Rattle.binlog_coords.specs.declared.Coord.{Coord}
pub use Rattle.binlog_coords.specs.declared.Entry.{Entry}
pub use Rattle.binlog_coords.specs.declared.Next.{Next}
pub use Rattle.binlog_coords.specs.declared.Next.TheVariants as next
pub use Rattle.binlog_coords.specs.declared.index.Slot.{Slot}
pub use Rattle.binlog_coords.specs.declared.text.CoordFault.{CoordFault}
pub use Rattle.binlog_coords.specs.declared.text.CoordFault.TheVariants.{NoColon}
