-- What its proofs cite of others.
pub use Rattle.std.proofs.lemmas.List.{length-map, map-append, take_more}
pub use Rattle.std.proofs.lemmas.List.Elements.{All-get_or, All-head, All-map, All-push, All-tail, All-weaker}
pub use Rattle.std.proofs.lemmas.List.Sums.{AllPass-from_list_all}
pub use Rattle.std.proofs.lemmas.Map.Text.{hash_map_updates_str, is_eq-slice_cmp}
pub use Rattle.std.proofs.lemmas.Slice.Eq.{bytes_eq-Decides}
pub use Rattle.std.proofs.lemmas.Str.{IsUtf8-from_is_utf8, is_utf8-from_IsUtf8}
pub use Rattle.std.specs.Cmp.Lexicographic.{pointwise, slice_cmp}
pub use Rattle.std.specs.Map.{remove_entry, update}
pub use Rattle.cluster_filters.specs.declared.judge.Judged.{Judged}
pub use Rattle.opening_checks.specs.Checked.{found_of, opening_or}
pub use Rattle.opening_checks.specs.Values.{value_at}
pub use Rattle.scenario_reader.specs.Aliases.{alias_in, alias_of}
unfoldable pub use Rattle.scenario_reader.specs.Aliases.{aliases_in}
pub use Rattle.scenario_reader.specs.Blocks.{period_in}
unfoldable pub use Rattle.scenario_reader.specs.Blocks.{block_in, blocks_in}
pub use Rattle.scenario_reader.specs.Filters.{HavePatterns, answered, answered_list, filter_in, no_filters}
unfoldable pub use Rattle.scenario_reader.specs.Filters.{filters_in}
pub use Rattle.scenario_reader.specs.Hooks.{exit_or_fails, hook_keys, is_hook_text, is_printable, two_of}
unfoldable pub use Rattle.scenario_reader.specs.Hooks.{hook_in, hook_list_in, hooks_in, whole_of}
pub use Rattle.scenario_reader.specs.Prelude.{BadHook, BadNumber, Block, Data, Given, Gives, Hook, Hooks, HostPort, IsGiven, IsScenario, Items}
pub use Rattle.scenario_reader.specs.Prelude.{MAX_SCENARIO_LEN, NotJson, Scenario, ServerInit, TooLarge, TooLong, Turn, bool_in, each, expanded}
pub use Rattle.scenario_reader.specs.Prelude.{fails, fault_of, get, holds, in_order, inits_of, is_utf8, is_write, items_in, items_view, known_of}
pub use Rattle.scenario_reader.specs.Prelude.{label_or_fails, list_all, members_in, needed, needed_in, no_hooks, no_items, only_keys, optional}
pub use Rattle.scenario_reader.specs.Prelude.{or_fails, printed_of, read, rules_of, text_in, under, under_item, view}
unfoldable pub use Rattle.scenario_reader.specs.Prelude.{number_in, servers_in, turn_in}
pub use Rattle.scenario_reader.specs.ReadOpenings.{code_of, fails_at, is_small, keys_of, listed_count, opening_or_fails}
unfoldable pub use Rattle.scenario_reader.specs.ReadOpenings.{opening_in}
pub use Rattle.scenario_reader.specs.ReadScenarios.{json_in}
unfoldable pub use Rattle.scenario_reader.specs.ReadScenarios.{bounded, head_in, keys_in, one_in, scenario_from, scenario_in, scenario_with, turns_in}
pub use Rattle.scenario_reader.specs.declared.head.Head.{Head}
pub use Rattle.scenario_servers.proofs.Prelude.{All-nil, FaultCode, IsReadTo, IsUtf8, Value, and_parts, each_from, eq-eqb, false≢true, inits_from}
pub use Rattle.scenario_servers.proofs.Prelude.{item_count, leb-true, listed_names, listed_uuids, printed}
unfoldable pub use Rattle.scenario_servers.proofs.Prelude.{listed_in, server_in}
pub use Rattle.scenario_servers.proofs.Reading.{length-inits_from, read_given}
pub use Rattle.scenario_servers.proofs.Steps.{bind-ok, each_from-all, each_from-length, each_member-all, holds-ok, needed-ok, number-ok, optional-ok}
pub use Rattle.scenario_servers.proofs.Steps.{same_Ok, under-ok}
pub use Rattle.scenario_turns.proofs.Expansions.{expanded-are}
pub use Rattle.scenario_turns.proofs.Order.{order_within}
pub use Rattle.scenario_turns.proofs.ReadTurns.{turn-has}
pub use Rattle.scenario_turns.specs.Expansion.{IsListedTurn, server_names}
pub use Rattle.scenario_values.proofs.Each.{AreReadTo, next_read}
pub use Rattle.scenario_values.specs.declared.fault.ReadFault.{ReadFault}
pub use Rattle.scenarios.specs.HookTexts.Hooks.{AreHooks, IsHook}
pub use Rattle.scenarios.specs.Openings.Flaws.{flaw_in}
pub use Rattle.scenarios.specs.Openings.Opening.{IsChecked, IsListed, Opened, opening}
pub use Rattle.scenarios.specs.Openings.declared.opening.Flaw.{Flaw}
pub use Rattle.scenarios.specs.ValidTurns.{IsTurn, IsTurnOf, NamesOneOf}
pub use Rattle.serde_json.proofs.Views.{member_later, view-lookup}
pub use Rattle.serde_json.specs.Find.{get_member}
