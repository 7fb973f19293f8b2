-- What its proofs cite of others.
pub use Rattle.std.proofs.lemmas.Bool.{and_parts, eq-eqb, eqb-false, eqb-true, false≢true, le-leb, leb-true, lt-ltb, ltb-false, ltb-true}
pub use Rattle.std.proofs.lemmas.Fmt.{IsAscii-decimal, decimal-digits_value, digits_decimal, digits_value-decimal, first_decimal}
pub use Rattle.std.proofs.lemmas.List.{take_all}
pub use Rattle.std.proofs.lemmas.List.Elements.{All-cons, All-head, All-tail}
pub use Rattle.std.proofs.lemmas.List.Kept.{AllPairs-cons}
pub use Rattle.std.proofs.lemmas.List.Quantifiers.{position-Some}
pub use Rattle.std.proofs.lemmas.List.Sums.{AllPass-from_list_all, list_all-from_AllPass, position_or_len_is, split_at_first}
pub use Rattle.std.proofs.lemmas.Str.{IsAscii-append, IsAscii-drop, IsUtf8-from_ascii, IsUtf8-from_is_utf8, is_utf8-from_IsUtf8}
pub use Rattle.std.proofs.lemmas.Str.Ascii.{IsAscii-cons, IsAscii-nil}
pub use Rattle.std.proofs.lemmas.Str.Parse.{parse_plain}
pub use Rattle.std.specs.Cmp.Lexicographic.{same_text}
pub use Rattle.std.specs.Int.{to_be_bytes, w128}
pub use Rattle.std.specs.List.{slice_get}
pub use Rattle.std.specs.Str.{IsAscii, IsUtf8}
pub use Rattle.std.specs.Str.Parse.{ParsesUnsigned}
pub use Rattle.std.specs.declared.alloc.Global.{Global}
pub use Rattle.kept_rows.proofs.GtidSets.RoundTrip
pub use Rattle.kept_rows.proofs.GtidSets.SameSets.{same_sets_lem}
pub use Rattle.kept_rows.proofs.OrchBase.NameLemmas.{by_tests, not_empty, own}
pub use Rattle.kept_rows.proofs.OrchBase.Printed.{printed_is_utf8}
pub use Rattle.kept_rows.proofs.OrchBase.RoundTrip.{printed_reads_lem}
pub use Rattle.kept_rows.proofs.OrchBase.SameNames.{same_name_tells}
pub use Rattle.kept_rows.specs.BinlogCoords.Text.{six_digits}
pub use Rattle.kept_rows.specs.GtidSets.Grammar.{HasThose}
pub use Rattle.kept_rows.specs.GtidSets.Printed.{head_text, range_text, uuid_text}
unfoldable pub use Rattle.kept_rows.specs.GtidSets.Printed.{texts}
pub use Rattle.kept_rows.specs.GtidSets.Sets.{IsInterval}
pub use Rattle.kept_rows.specs.OrchBase.Names
pub use Rattle.kept_rows.specs.OrchBase.Words.{cause_name_text, kind_text, rule_text}
pub use Rattle.kept_rows.specs.OrchBase.declared.recovery.CauseName.TheVariants as cause
pub use Rattle.kept_rows.specs.OrchBase.declared.recovery.Ending.TheVariants as ending
pub use Rattle.kept_rows.specs.OrchBase.declared.recovery.Kind.TheVariants as kind
pub use Rattle.kept_rows.specs.OrchBase.declared.rule.Rule.TheVariants as rule
pub use Rattle.kept_rows.specs.OrchBase.declared.server.IoState.TheVariants as io
pub use Rattle.kept_rows.specs.OrchBase.declared.server.SourceState.TheVariants as state
pub use Rattle.kept_rows.specs.declared.row.Row.TheVariants as row
pub use Rattle.kept_rows.specs.declared.row.Table.TheVariants as table
pub use Rattle.row_texts.specs.Fields.{coord_form, empty_form, key_id, key_name, key_word, moment_form, name_form, none_of, none_or, number_within}
pub use Rattle.row_texts.specs.Fields.{or_else, or_null, outcome_form, set_form, small_form, up_to, whole_form, word_form}
unfoldable pub use Rattle.row_texts.specs.Fields.{end_at, field_at, server_of}
pub use Rattle.row_texts.specs.Kept.{AreNames, CanBeKept, IsOldValue, IsPrintable, IsTextOf, IsValueOf, ends_recoveries, is_end}
pub use Rattle.row_texts.specs.Prelude.{CauseName, Coord, Data, Ending, GtidFault, HasText, HostPort, Instance, Interval, IoState, IsName, IsSet}
pub use Rattle.row_texts.specs.Prelude.{Items, Kind, Members, Moment, NameFault, RecoveryRow, Row, Rule, ServerNo, SourceState, Table, after_first}
pub use Rattle.row_texts.specs.Prelude.{all_ascii_digits, are_known, array, as_array, as_bool, as_number, as_object, as_str, as_u64, at, boolean}
pub use Rattle.row_texts.specs.Prelude.{bytes_eq, compact_text, coord_text, digits_value, ending_servers, high, is_utf8, item, key_of, key_servers}
pub use Rattle.row_texts.specs.Prelude.{largest, list_all, low, member, members_view, no_items, no_members, null, number, object, position_or_len}
pub use Rattle.row_texts.specs.Prelude.{printed, read, result_ok, same_name, servers_of, source_servers, string, table_of, unsigned, view}
unfoldable pub use Rattle.row_texts.specs.Prelude.{coord_at, name_at, text_at}
pub use Rattle.row_texts.specs.Reading.{named, pair_of, row_at, value_of, with_list}
unfoldable pub use Rattle.row_texts.specs.Reading.{read_row, row_in, shape_of, two_of, version_of}
pub use Rattle.row_texts.specs.Tables.{block_at, ending_of, state_of, tail_at}
unfoldable pub use Rattle.row_texts.specs.Tables.{active_at, candidate_at, downtime_at, first_block, instance_at, recovery_at, second_block}
unfoldable pub use Rattle.row_texts.specs.Tables.{source_at, switch_at}
pub use Rattle.row_texts.specs.Words.{as_printed, as_set, causes, io_states, io_text, is_id, is_interval, is_set, is_space, kinds}
pub use Rattle.row_texts.specs.Words.{named_among, outcome_of, outcome_text, rest_of, rules, source_text, source_words, word_of}
unfoldable pub use Rattle.row_texts.specs.Words.{coord_printed, id_printed, name_printed, outcome_printed, set_printed}
pub use Rattle.row_texts.specs.Written.{block_items, block_version, coord_data, ending_name, instance_items, key_text, maybe_data, moment_data}
pub use Rattle.row_texts.specs.Written.{name_of, name_text, old_instance_data, recovery_list, row_data, source_name, source_word, whole, wrapped}
unfoldable pub use Rattle.row_texts.specs.Written.{row_text}
pub use Rattle.row_texts.specs.declared.fault.RowFault.{RowFault}
pub use Rattle.row_texts.specs.declared.fault.RowFault.TheVariants.{NotJson}
pub use Rattle.row_texts.specs.declared.fault.RowFault.TheVariants as fault
pub use Rattle.row_texts.specs.declared.word.Outcome.{Outcome}
pub use Rattle.row_texts.specs.declared.word.Outcome.TheVariants as outcome
pub use Rattle.row_texts.specs.declared.word.Source.{Source}
pub use Rattle.row_texts.specs.declared.word.Source.TheVariants as source
pub use Rattle.row_texts.specs.declared.word.SourceWord.{SourceWord}
pub use Rattle.row_texts.specs.declared.word.SourceWord.TheVariants as sourceword
pub use Rattle.serde_json.specs.Data.{depth, float, negative}
pub use Rattle.serde_json.specs.Find.{get_item}
pub use Rattle.serde_json.specs.Read.{max_depth}
pub use Rattle.serde_json.specs.Written.{has_float}
pub use Rattle.serde_json.specs.declared.value.Value.{Value}
pub use Rattle.uuid.proofs.TextLemmas.{hyphenated_ascii}
pub use Rattle.uuid.specs.Text.{lower}
