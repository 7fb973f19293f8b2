-- What its proofs cite of others.
pub use Rattle.std.proofs.Math.ListN.{get_or-append}
pub use Rattle.std.proofs.Math.Seq.{drop-append-add, get_or-append_seam}
pub use Rattle.std.proofs.lemmas.Bool.{and_parts, cases_lt, eqb-true, false≢true, le-leb, le-ltb, lt-leb, lt-ltb, ltb-false, ltb-true, ne_eqb}
pub use Rattle.std.proofs.lemmas.Bool.{not-true, or_left}
pub use Rattle.std.proofs.lemmas.Bool.Decides.{nat_tests}
pub use Rattle.std.proofs.lemmas.Fmt.{digits_decimal, digits_value-decimal, first_decimal}
pub use Rattle.std.proofs.lemmas.Grind.{common_steps}
pub use Rattle.std.proofs.lemmas.List.{drop_all, get_or-drop, get_or-reverse, get_or_default, length-append, length-drop, length-reverse}
pub use Rattle.std.proofs.lemmas.List.{length-take-le, take_all, take_at}
pub use Rattle.std.proofs.lemmas.List.Edits.{get_or-remove_above, get_or-remove_below, length-remove}
pub use Rattle.std.proofs.lemmas.List.Elements.{All-append, All-cons, All-filter, All-head, All-push, All-tail}
pub use Rattle.std.proofs.lemmas.List.Folds.{list_all-append, list_any-append, list_any_at, list_any_more, list_any_none}
pub use Rattle.std.proofs.lemmas.List.FromFn.{length-range_with_len}
pub use Rattle.std.proofs.lemmas.List.Kept.{AllPairs-cons, AllPairs-filter}
pub use Rattle.std.proofs.lemmas.List.Quantifiers.{all_pairs_push}
pub use Rattle.std.proofs.lemmas.List.Sums.{AllPass-from_list_all, list_all-from_AllPass, sum_by-cons}
pub use Rattle.std.proofs.lemmas.Map.Views.{any-filter_same}
pub use Rattle.std.proofs.lemmas.Slice.Eq.{slice_eq-Decides}
pub use Rattle.std.proofs.lemmas.Str.Parse.{IsNumeralModel, numerals_by_fold, tells_all_ascii_digits}
pub use Rattle.std.specs.Bool.{Decides, OnFalse}
pub use Rattle.std.specs.Char.{is_ascii_digit}
pub use Rattle.std.specs.Int.{byte_at, bytes_high_first, from_be_bytes, to_be_bytes, w128}
pub use Rattle.std.specs.List.{All, AllPairs, AllWithin, fold, list_all, list_any, position_or_len, range_with_len, remove}
pub use Rattle.std.specs.Str.{all_ascii_digits}
pub use Rattle.gtid_sets.specs.Adding.{inserted, is_before, merged, single, touches, touches_first, with_pair}
pub use Rattle.gtid_sets.specs.Gives.{Gives}
pub use Rattle.gtid_sets.specs.Grammar.{HasThose, begin_of, behind, end_of, fault_of, inner, interval_of, is_blank, is_colon, is_comma, is_dash}
pub use Rattle.gtid_sets.specs.Grammar.{leading, listed_at, number_at, number_or, onto_first, pieces, trailing, uuid_or, value_of}
unfoldable pub use Rattle.gtid_sets.specs.Grammar.{filled_at, interval_at, intervals_at, part_at, parts_at, text_at}
pub use Rattle.gtid_sets.specs.Pairs.{pairs}
pub use Rattle.gtid_sets.specs.Printed.{head_text, printed, range_text, uuid_text}
unfoldable pub use Rattle.gtid_sets.specs.Printed.{texts}
pub use Rattle.gtid_sets.specs.Reserved.{Reserved}
pub use Rattle.gtid_sets.specs.Sets.{IsInterval, IsSet, Misses, between, high, holds, largest, low, on_line, size, spans}
unfoldable pub use Rattle.gtid_sets.specs.Sets.{point}
pub use Rattle.gtid_sets.specs.declared.fault.GtidFault.{GtidFault}
pub use Rattle.gtid_sets.specs.declared.fault.GtidFault.TheVariants.{BadInterval, BadUuid, Memory, TooLarge, Zero}
pub use Rattle.gtid_sets.specs.declared.interval.Interval.{Interval}
pub use Rattle.uuid.proofs.OrderLemmas.{from_be_bytes-to_be_bytes_16}
pub use Rattle.uuid.proofs.RoundTrips.{parses_hyphenated_text}
pub use Rattle.uuid.proofs.TextLemmas.{by_index_at, by_index_length, nibble_small}
pub use Rattle.uuid.specs.Text.{digit_place, hex_digit, hyphenated_text, is_hyphen_place, lower, nibble, parsed, parsed_hyphenated}
