-- What its proofs cite of others.
pub use Rattle.std.proofs.lemmas.Cmp.{nat_list_cmp_total}
pub use Rattle.std.proofs.lemmas.List.{drop_all, length-map}
pub use Rattle.std.proofs.lemmas.Option.{get_or_from_slice_get, same_Some, slice_get-map, slice_get_past, slice_get_read}
pub use Rattle.std.specs.Int.{to_be_bytes, w128}
pub use Rattle.std.specs.Ordering.{ordering_reverse}
pub use Rattle.std.specs.declared.cmp.Ordering.{Ordering}
pub use Rattle.std.specs.declared.cmp.Ordering.TheVariants.{Equal, Greater}
pub use Rattle.json.proofs.Printed.Utf8.{IsUtf8-boolean, IsUtf8-quoted}
pub use Rattle.json.specs.Json as json
pub use Rattle.json.specs.Token as Json
pub use Rattle.json.specs.Tree.{MembersHaveNumbers}
pub use Rattle.json.specs.Tree as tree
pub use Rattle.scenario_dump.specs.Files.{file_behind, flushed_from}
unfoldable pub use Rattle.scenario_dump.specs.Files.{flush_points}
pub use Rattle.scenario_dump.specs.Histories.{behind, is_like, part_of}
unfoldable pub use Rattle.scenario_dump.specs.Histories.{parts_of}
pub use Rattle.scenario_dump.specs.Parts.{end_text, fixed_text, flag_text, flushes_of, flushes_text, history_text, servers_text, until_text}
unfoldable pub use Rattle.scenario_dump.specs.Parts.{server_text}
pub use Rattle.scenario_dump.specs.Prelude.{Alias, Block, ClusterFilters, Coord, Data, Entry, Hook, Hooks, IsName, IsUtf8, Items, Less, Log, Members}
pub use Rattle.scenario_dump.specs.Prelude.{Part, Scenario, Server, ServerInit, ServerNo, Settings, Txn, Without, World, array, boolean, comma_if}
pub use Rattle.scenario_dump.specs.Prelude.{compact_text, coord_text, history_of, is_utf8, item, items_text, member, nat_cmp, no_items, no_members}
pub use Rattle.scenario_dump.specs.Prelude.{number, object, printed, quoted, read, server_at, slice_cmp, string, unsigned, uuid_text}
pub use Rattle.scenario_dump.specs.Promises.{HasTexts, IsReadable, IsRising}
pub use Rattle.scenario_dump.specs.Promises
pub use Rattle.scenario_dump.specs.Servers.{init_by, points_of, source_in}
unfoldable pub use Rattle.scenario_dump.specs.Servers.{init_of, opening_of}
pub use Rattle.scenario_dump.specs.Texts.{aliases_data, blocks_data, coord_data, count_data, filters_data, hook_data, hooks_data, items_of, list_data}
pub use Rattle.scenario_dump.specs.Texts.{member_for, member_if, name_text, part_data}
unfoldable pub use Rattle.scenario_dump.specs.Texts.{dump_data, dump_text, server_data}
pub use Rattle.scenario_generator.proofs.Prelude.{IsUtf8-append, IsUtf8-are_ascii}
pub use Rattle.scenario_generator.proofs.Prelude.{IsUtf8-from_ascii, IsUtf8-nil, Token, and_parts, are_ascii, common_steps}
pub use Rattle.scenario_generator.proofs.Prelude.{digit_glyph, digits_onto, drop-nil, eqb-true, escape, escape_byte_plain, false≢true, is_host_byte}
pub use Rattle.scenario_generator.proofs.Prelude.{is_utf8-from_IsUtf8, json_tokens, list_all, max_depth, of_items}
pub use Rattle.scenario_generator.proofs.Prelude.{of_json, print, put, slice_get_within, tokens}
unfoldable pub use Rattle.scenario_generator.proofs.Prelude.{digits, escape_byte, print_from}
pub use Rattle.scenarios.specs.BinlogCoords.Log.{end_coord, end_or_first}
pub use Rattle.scenarios.specs.BinlogCoords.Text.{six_digits}
pub use Rattle.scenarios.specs.OrchBase.Names.{HostPort}
pub use Rattle.scenarios.specs.OrchBase.Words.{version_text}
pub use Rattle.scenarios.specs.OrchBase.declared.server.Version.{Version}
pub use Rattle.serde_json.specs.Data.{float, negative, null}
pub use Rattle.serde_json.specs.Read.{of_members}
pub use Rattle.serde_json.specs.Written.{members_outline, members_text}
pub use Rattle.server_model.proofs.Lists.{slice_get-drop}
pub use Rattle.server_model.specs.Desk.{is_detached}
pub use Rattle.server_model.specs.Plains.{log_of, plain_of}
pub use Rattle.server_model.specs.Prelude.{Index, Plain, coord_after, option_copied}
pub use Rattle.uuid.proofs.TextLemmas.{hyphenated_ascii, nibble_small}
pub use Rattle.uuid.specs.Text.{digit_place, hex_digit, is_hyphen_place, lower, nibble}
unfoldable pub use Rattle.uuid.specs.Text.{by_index}
