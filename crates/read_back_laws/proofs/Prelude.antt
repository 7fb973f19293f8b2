-- What its proofs cite of others.
pub use Rattle.std.proofs.Math.Seq.{drop-append-add}
pub use Rattle.std.proofs.Math.Utf8.{encode, encodes, scalar, scalars}
pub use Rattle.std.proofs.lemmas.Bool.{and_from, cases_Bool, cases_lt, false_from_ne_true, le-leb, lt-ltb, ltb-false, ltb-true, not_from_false}
pub use Rattle.std.proofs.lemmas.Bool.{not_from_true, or_from, or_left, or_parts, or_right}
pub use Rattle.std.proofs.lemmas.Bool.Decides.{nat_tests}
pub use Rattle.std.proofs.lemmas.Fmt.{decimal_nonempty, digits_decimal, digits_value-decimal}
pub use Rattle.std.proofs.lemmas.List.{length-take, length-take-le, replicate-append-replicate, take-take, take_at}
pub use Rattle.std.proofs.lemmas.List.Elements.{All-cons, All-head, All-tail}
pub use Rattle.std.proofs.lemmas.List.Folds.{list_any_none}
pub use Rattle.std.proofs.lemmas.List.Sums.{count_by-le-length, get_or-le-sum_by, sum_by-cons, sum_by_push}
pub use Rattle.std.proofs.lemmas.Map.Keys.{any_passes_from_place}
pub use Rattle.std.proofs.lemmas.Nat.{mul-le}
pub use Rattle.std.proofs.lemmas.Option.{slice_get-get_or, slice_get_cases}
pub use Rattle.std.proofs.lemmas.Str.{IsCharBoundary-after_ascii, IsUtf8-drop, IsUtf8-encode, encode_ascii, inside_one, len_utf8_bounds}
pub use Rattle.std.proofs.lemmas.Str.{length-encode}
pub use Rattle.std.proofs.lemmas.Str.Parse.{IsNumeralModel, not_in_digits, numerals_by_fold, tells_all_ascii_digits}
pub use Rattle.std.specs.Char.{IsScalar, digit_value, is_ascii_digit, is_digit}
unfoldable pub use Rattle.std.specs.Char.{encode_utf8}
pub use Rattle.std.specs.Cmp.Lexicographic.{nat_list_eq_equiv, pointwise}
pub use Rattle.std.specs.Int.{byte_at, bytes_high_first, from_be_bytes}
pub use Rattle.std.specs.List.{before_first, fold, list_any, starts_with}
pub use Rattle.std.specs.Option.{option_map_or, option_or}
pub use Rattle.std.specs.Ordering.{match_ordering}
pub use Rattle.std.specs.Str.{all_ascii_digits}
pub use Rattle.json.proofs.Unique.Spelling.{value-json_tokens_back}
pub use Rattle.json.specs.Ascii as ascii
pub use Rattle.json.specs.Json.{Json, value}
pub use Rattle.json.specs.Json as json
pub use Rattle.json.specs.Lex.{Class, Mode, Place, begins_colon, class, if_allowed, lex_byte, may_begin, may_close, operator_lexeme, place_token}
unfoldable pub use Rattle.json.specs.Lex.{punctuate}
pub use Rattle.json.specs.Lex as lexing
pub use Rattle.json.specs.Text.{after_backslash, after_high, after_u, is_high_surrogate, is_low_surrogate, plain, prepend, surrogate_pair}
unfoldable pub use Rattle.json.specs.Text.{code_unit, content, short_escape}
pub use Rattle.json.specs.Token as tok
pub use Rattle.json.specs.Tree.{items_tokens, members_tokens}
pub use Rattle.json.specs.Word.{after_number, head, number_before}
pub use Rattle.read_back_laws.specs.Drawn.{given_of, givens_from, inits_from_drawn, listed_turns, name_of, names_from, server_no, turn_of}
pub use Rattle.read_back_laws.specs.Drawn
pub use Rattle.read_back_laws.specs.Prelude.{Apply, DrawnServer, DrawnTurn, Fetch, Given, Head, Identity, IsScenario, One, PollRead, PollStore}
pub use Rattle.read_back_laws.specs.Prelude.{Replica, Replication, Rotate, Setup, Turn, Write, default_version, flaw_in, inits_of, is_drawable}
pub use Rattle.read_back_laws.specs.Prelude.{is_small, listed_count, no_filters, no_hooks, opening, servers_data, turns_data}
unfoldable pub use Rattle.read_back_laws.specs.Prelude.{scenario_in, scenario_text, scenario_with, server_name, servers_from, servers_in, turn_in}
unfoldable pub use Rattle.read_back_laws.specs.Prelude.{turns_from}
pub use Rattle.read_back_laws.specs.Reading.{IsTold, IsToldAct, IsToldTurn, NamesRead, listed_of}
pub use Rattle.read_back_laws.specs.Whole.{drawn_head, drawn_scenario}
pub use Rattle.scenario_dump.proofs.Prelude.{Alias, Block, ClusterFilters, Coord, Data, Entry, Equal, Greater, HasTexts, Hook, Hooks, HostPort}
pub use Rattle.scenario_dump.proofs.Prelude.{IsName, IsReadable, IsUtf8-append, IsUtf8-are_ascii, IsUtf8-nil, Items, Less, Log, Members, Ordering}
pub use Rattle.scenario_dump.proofs.Prelude.{Part, Scenario, Server, ServerInit, ServerNo, Settings, Token, Txn, Version, Without, World}
pub use Rattle.scenario_dump.proofs.Prelude.{aliases_data, and_parts, array, behind, blocks_data, boolean, coord_after, coord_data, coord_text}
pub use Rattle.scenario_dump.proofs.Prelude.{count_data, eqb-true, false≢true, file_behind, filters_data, flushed_from, get_or_from_slice_get}
pub use Rattle.scenario_dump.proofs.Prelude.{history_of, hook_data, hooks_data, init_by, is_detached, is_like, is_utf8, item, items_of, json_tokens}
pub use Rattle.scenario_dump.proofs.Prelude.{length-map, list_all, list_data, lower, max_depth, member, member_for, member_if, name_text, nat_cmp}
pub use Rattle.scenario_dump.proofs.Prelude.{nat_list_cmp_total, no_items, no_members, null, number, object, of_items, of_json, of_members}
pub use Rattle.scenario_dump.proofs.Prelude.{ordering_reverse, part_data, part_of, points_of, printed, put, read, same_Some, server_at, slice_cmp}
pub use Rattle.scenario_dump.proofs.Prelude.{slice_get-map, slice_get_within, source_in, string, to_be_bytes, tokens, uuid_text, version_text, w128}
unfoldable pub use Rattle.scenario_dump.proofs.Prelude.{by_index, dump_data, dump_text, flush_points, init_of, opening_of, parts_of, server_data}
pub use Rattle.scenario_dump.specs.Prelude.{Attached, Detached, IsQuiet, Rule, Safe, SourceState, flush, opened, push, settings_of, source_no}
pub use Rattle.scenario_dump.specs.Prelude.{transactions}
pub use Rattle.scenario_dump.specs.Promises.{HasNumbers}
pub use Rattle.scenario_dump.specs.Reading.{IsWithinLimits, IsWorldOf, all_known, no_rules, refitted_server}
unfoldable pub use Rattle.scenario_dump.specs.Reading.{dumped_scenario, refitted}
pub use Rattle.scenario_dump.specs.Tidy.{CanPrint, IsBare, IsOf, IsWritten}
unfoldable pub use Rattle.scenario_dump.specs.Tidy.{IsTidy}
pub use Rattle.scenario_generator.proofs.Lines.{text_short, text_utf8}
pub use Rattle.scenario_generator.proofs.Names.{name_reads}
pub use Rattle.scenario_generator.proofs.Prelude.{ArePlaced, AreTurnsOf, IsPlaced, IsTurnOf, Lexeme, append-nil, decimal_is_IsNumeral, digits_value}
pub use Rattle.scenario_generator.proofs.Prelude.{ends_word, eqb_tells, host_at, host_of, le-ltb, length-append, length-decimal-le, ne_eqb, port_of}
pub use Rattle.scenario_generator.proofs.Prelude.{position_or_len, string_token, take_all, turn_data}
unfoldable pub use Rattle.scenario_generator.proofs.Prelude.{drawn_data, lex, name_at, word}
pub use Rattle.scenario_generator.proofs.Promises.{counts_few, names_apart, placed, turns_are}
pub use Rattle.scenario_generator.proofs.Servers.{servers_from-count}
pub use Rattle.scenario_generator.proofs.Turns.{turns_from-count}
pub use Rattle.scenario_generator.proofs.Values.{text_reads}
pub use Rattle.scenario_generator.specs.Servers as drawn
pub use Rattle.scenario_reader.proofs.BinlogCoords.Places.{Laid-Grown, place-coord_after}
pub use Rattle.scenario_reader.proofs.OpeningChecks.Flawed.{in_range, within_product}
pub use Rattle.scenario_reader.proofs.OpeningChecks.ListTests.{all_below-from_each}
pub use Rattle.scenario_reader.proofs.OpeningsProofs.Files.{log_at-files}
pub use Rattle.scenario_reader.proofs.OpeningsProofs.Laid.{good-points}
pub use Rattle.scenario_reader.proofs.OpeningsProofs.Members.{get-append, get-replicate}
pub use Rattle.scenario_reader.proofs.OpeningsProofs.Sizes.{history_at-sized, joined_by-each, length-history_at, length-singles, parts_at-few}
pub use Rattle.scenario_reader.proofs.OpeningsProofs.Soundness.{sound_checked}
pub use Rattle.scenario_reader.proofs.OrchBase.NameLemmas.{own}
pub use Rattle.scenario_reader.proofs.OrchBase.ReadNames.{read_is_name}
pub use Rattle.scenario_reader.proofs.OrchBase.RoundTrip.{printed_reads_lem}
pub use Rattle.scenario_reader.proofs.OrchBase.RoundTrip as names
pub use Rattle.scenario_reader.proofs.OrchBase.SameNames.{same_name_tells}
pub use Rattle.scenario_reader.proofs.Parts.{from-ok, head-ok, hook-ok, hooks-ok, made_of, opening-same, with-ok}
pub use Rattle.scenario_reader.proofs.Prelude.{All-nil, AllPass-from_list_all, BadHook, BadNumber, Flaw, IsChecked, IsListed, IsUtf8-from_is_utf8}
pub use Rattle.scenario_reader.proofs.Prelude.{MAX_SCENARIO_LEN, NotJson, Opened, TooLong, answered, bind-ok, bool_in, each_from, each_from-length}
pub use Rattle.scenario_reader.proofs.Prelude.{eq-eqb, exit_or_fails, expanded, fails, get, holds, holds-ok, in_order, inits_from, is_hook_text}
pub use Rattle.scenario_reader.proofs.Prelude.{is_write, item_count, items_in, json_in, known_of, label_or_fails, leb-true, listed_names}
pub use Rattle.scenario_reader.proofs.Prelude.{listed_uuids, members_in, needed, needed-ok, number-ok, only_keys, optional, optional-ok, period_in}
pub use Rattle.scenario_reader.proofs.Prelude.{printed_of, rules_of, same_Ok, text_in, two_of, under, under-ok}
unfoldable pub use Rattle.scenario_reader.proofs.Prelude.{aliases_in, block_in, blocks_in, bounded, filters_in, head_in, hook_in, hook_list_in}
unfoldable pub use Rattle.scenario_reader.proofs.Prelude.{hooks_in, keys_in, listed_in, number_in, one_in, opening_in, scenario_from, server_in}
unfoldable pub use Rattle.scenario_reader.proofs.Prelude.{turns_in, whole_of}
pub use Rattle.scenario_reader.proofs.OrchBase.Printed.{printed_is_utf8}
pub use Rattle.scenario_reader.proofs.ScenarioServers.ServerSteps.{ReadsIdentity, named-ok, server-ok}
pub use Rattle.scenario_reader.proofs.ScenarioServers.Steps.{Same, each_from-get, each_from-ok, maybe-ok, or_fails-ok}
pub use Rattle.scenario_reader.proofs.Sound.{scenario_in_sound}
pub use Rattle.scenario_reader.specs.Aliases.{alias_of}
unfoldable pub use Rattle.scenario_reader.specs.Aliases.{alias_in}
pub use Rattle.scenario_reader.specs.BinlogCoords.Grammar.{HasText}
unfoldable pub use Rattle.scenario_reader.specs.BinlogCoords.Grammar.{coord_at}
pub use Rattle.scenario_reader.specs.BinlogCoords.Grown.{Grown, Pushed}
pub use Rattle.scenario_reader.specs.ClusterFilters.Forms.{form_of, forms_of, has_pattern, some_matches}
pub use Rattle.scenario_reader.specs.Filters.{HavePatterns, everything, filter_keys, passes}
unfoldable pub use Rattle.scenario_reader.specs.Filters.{filter_in, list_in}
pub use Rattle.scenario_reader.specs.Openings.Opening.{IsAlone, IsPart, IsServer}
pub use Rattle.scenario_reader.specs.Openings.Servers.{count_at, count_of, count_under, exec_of, follow_on, history_at, log_at, log_by, log_in}
pub use Rattle.scenario_reader.specs.Openings.Servers.{logged_by, parts_at, reached_from, read_of, root_of}
pub use Rattle.scenario_reader.specs.Openings.Servers
pub use Rattle.scenario_reader.specs.Openings.Taking.{PartsInRange}
pub use Rattle.scenario_reader.specs.OrchBase.Names.{port_at, same_name}
pub use Rattle.scenario_reader.specs.OrchBase.declared.name.NameFault.{NameFault}
pub use Rattle.scenario_reader.specs.ScenarioServers.Names.{first_named, has_uuid, is_earlier, listed_name, new_uuid, number_or_fails, read_name}
pub use Rattle.scenario_reader.specs.ScenarioServers.Names.{read_uuid, uuid_at}
unfoldable pub use Rattle.scenario_reader.specs.ScenarioServers.Names.{own_name, own_uuid, server_named}
pub use Rattle.scenario_reader.specs.ScenarioServers.Openings.{init_under, label_at, label_of, root_in}
pub use Rattle.scenario_reader.specs.ScenarioServers.Openings
unfoldable pub use Rattle.scenario_reader.specs.ScenarioServers.Rules.{rule_in}
pub use Rattle.scenario_reader.specs.ScenarioServers.Servers.{has_source, own_keys, replica_keys, server_keys}
unfoldable pub use Rattle.scenario_reader.specs.ScenarioServers.Servers.{auto_in, flushes_in, history_in, identity_in, part_in, replication_in}
unfoldable pub use Rattle.scenario_reader.specs.ScenarioServers.Servers.{server_from, setup_in}
pub use Rattle.scenario_reader.specs.ScenarioTurns.Commands.{command_keys}
unfoldable pub use Rattle.scenario_reader.specs.ScenarioTurns.Commands.{command_in, duration_in, given_in, instances_in, pattern_in}
unfoldable pub use Rattle.scenario_reader.specs.ScenarioTurns.Found.{found_in}
pub use Rattle.scenario_reader.specs.ScenarioTurns.KnownPatterns.{IsKnown}
unfoldable pub use Rattle.scenario_reader.specs.ScenarioTurns.Turns.{amount_of, job_of, link_in, link_of, poll_of, poller_of, seconds_of, server_of}
unfoldable pub use Rattle.scenario_reader.specs.ScenarioTurns.Turns.{turn_with}
unfoldable pub use Rattle.scenario_reader.specs.ScenarioTurns.Words.{word_named}
pub use Rattle.scenario_reader.specs.ScenarioValues.Faults.{each_member, is_key, maybe, maybe_in, needed_in, optional_in}
pub use Rattle.scenario_reader.specs.ScenarioValues.Values.{behind_dot, coord_or_fails, is_dot, name_or_fails, text_within, uuid_or_fails, version_at}
pub use Rattle.scenario_reader.specs.ScenarioValues.Values.{version_of, version_part, within}
unfoldable pub use Rattle.scenario_reader.specs.ScenarioValues.Values.{coord_in, label_in, name_in, short_in, uuid_in, version_in, whole_in}
pub use Rattle.scenario_reader.specs.ScenarioValues.declared.fault.Fault.{Fault}
pub use Rattle.scenario_reader.specs.ScenarioValues.declared.fault.FaultCode.TheVariants.{BadPattern, DuplicateName, DuplicateUuid}
pub use Rattle.scenario_reader.specs.Scenarios.ValidTurns.{IsStep}
pub use Rattle.scenario_reader.specs.declared.filters.FilterTexts.{FilterTexts}
pub use Rattle.scenarios.proofs.CommandsProofs.Words.{name_of-word_of}
pub use Rattle.scenarios.proofs.OpeningsProofs.Agreements.{list_all-from_get}
pub use Rattle.scenarios.proofs.OpeningsProofs.Chains.{reached_from-root}
pub use Rattle.scenarios.proofs.OpeningsProofs.Fronts.{slice_get-front, slice_get-take}
pub use Rattle.scenarios.proofs.OpeningsProofs.ListedCounts.{IsNumbered, length-listed_history}
pub use Rattle.scenarios.proofs.OpeningsProofs.Roots.{IsLoopless, same-end}
pub use Rattle.scenarios.proofs.OrchBase.Chains.{reached-follows}
pub use Rattle.scenarios.specs.BinlogCoords.Log.{appended, entry_at_end, is_at_or_before, is_before, place}
pub use Rattle.scenarios.specs.Commands.Names.{needs_of, word_of}
pub use Rattle.scenarios.specs.Commands.Turns.{has_needed, is_there, is_within}
pub use Rattle.scenarios.specs.Commands.Values.{before, number_and_unit, number_at, seconds_at}
unfoldable pub use Rattle.scenarios.specs.Commands.Values.{rule_at}
pub use Rattle.scenarios.specs.Commands.declared.turn.CommandTurn.{CommandTurn}
pub use Rattle.scenarios.specs.Commands.declared.turn.Found.{Found}
pub use Rattle.scenarios.specs.Openings.Flaws.{at_server, at_source, bad_coords, bad_coords_in, bad_files, bad_flushes, bad_purged, below_itself}
pub use Rattle.scenarios.specs.Openings.Flaws.{both_given, falls_or_passes, first_met, flaw_or, has_place_of, not_kin, of_source, origin_elsewhere}
pub use Rattle.scenarios.specs.Openings.Flaws.{other_cluster, same_cluster, source_not_logging, too_many}
pub use Rattle.scenarios.specs.Openings.Kin.{agrees_with, all_below, histories_agree, is_home, is_kin, links, links_after, links_agree, same_before}
pub use Rattle.scenarios.specs.Openings.Listed.{joined_by, listed_history, next_txn, singles}
pub use Rattle.scenarios.specs.Openings.Logs.{flushed_at, flushed_times, laid, laid_after}
pub use Rattle.scenarios.specs.OrchBase.Chains.{Direct, Follows, Further, Grounded, Root, Under, is_reached, is_reached_on}
pub use Rattle.scenarios.specs.OrchBase.Histories.{count_own, same_txn}
pub use Rattle.scenarios.specs.OrchBase.Words.{rule_text}
pub use Rattle.scenarios.specs.OrchBase.declared.rule.Rule.TheVariants as rule
pub use Rattle.scenarios.specs.ServerWords.declared.changes.Link.TheVariants as link
pub use Rattle.scenarios.specs.Turns.declared.turn.Act.{Act}
pub use Rattle.scenarios.specs.Turns.declared.turn.Act.TheVariants as act
pub use Rattle.scenarios.specs.Turns.declared.turn.Step.{Step}
pub use Rattle.scenarios.specs.Turns.declared.turn.Step.TheVariants as step
pub use Rattle.scenarios.specs.Turns.declared.turn.Turn.TheVariants as turn
pub use Rattle.schedules.specs.Turns.{act_data, given_data, given_members, name_data, step_data, with_given}
pub use Rattle.serde_json.proofs.Views.{get_member-put, get_member-put_other}
pub use Rattle.serde_json.specs.Find.{as_str, get_item, get_member}
pub use Rattle.serde_json.specs.Read.{number_of}
pub use Rattle.server_model.proofs.LogSizes.{length-push}
pub use Rattle.server_model.specs.Layout.{Flushed, LaysOut, Took}
pub use Rattle.server_model.specs.Safe.{AttachedWell, IsKin}
pub use Rattle.server_model.specs.Worlds.{histories, source_of, sources}
pub use Rattle.uuid.proofs.OrderLemmas.{from_be_bytes-to_be_bytes_16}
pub use Rattle.uuid.proofs.RoundTrips.{parses_hyphenated_text}
pub use Rattle.uuid.specs.Text.{byte_of_digits, digits_of, has_hyphens, is_hex_digit, parsed_hyphenated, parsed_simple, value_of}
pub use Rattle.world_openings.proofs.LaidLogs.{IsLaid, IsLaid-log_by}
pub use Rattle.world_openings.specs.Opening.{opened_from, opened_server, opened_world, source_state}
