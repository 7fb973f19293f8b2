-- What its proofs cite of others.
pub use Rattle.std.proofs.lemmas.Bool.{and_parts, cases_order, eq-eqb, false_from_ne_true, false≢true, leb-true, lt-ltb, or_left, or_right}
pub use Rattle.std.proofs.lemmas.Bool.Decides.{nat_tests}
pub use Rattle.std.proofs.lemmas.Grind.{common_steps}
pub use Rattle.std.proofs.lemmas.Iterator.{YieldsList-from_map, YieldsList-from_slice, YieldsList-from_zip, items_from_collect}
pub use Rattle.std.proofs.lemmas.Iterator.Adapters.{YieldsList-from_vec}
pub use Rattle.std.proofs.lemmas.Iterator.Consumers.{YieldsList-at, YieldsList-end}
pub use Rattle.std.proofs.lemmas.List.{length_push}
pub use Rattle.std.proofs.lemmas.List.Elements.{All-cons, All-nil}
pub use Rattle.std.proofs.lemmas.Map.Text.{hash_map_updates_text, is_eq-slice_cmp}
pub use Rattle.std.proofs.lemmas.Option.{gets, same_Some}
pub use Rattle.std.proofs.lemmas.Slice.Eq.{bytes_eq-Decides}
pub use Rattle.std.specs.Cmp.Lexicographic.{pointwise, same_text, slice_cmp}
pub use Rattle.std.specs.List.{zip}
pub use Rattle.std.specs.Map.{update}
pub use Rattle.std.specs.Ordering.{match_ordering, nat_cmp}
pub use Rattle.std.specs.Str.{IsUtf8, bytes_eq}
pub use Rattle.std.specs.Vec.Iter.{into_iter_items, into_iter_len}
pub use Rattle.std.specs.declared.cmp.Ordering.{Ordering}
pub use Rattle.std.specs.declared.cmp.Ordering.TheVariants.{Equal, Greater, Less}
pub use Rattle.openings.proofs.Chains.{reached_from-on}
pub use Rattle.openings.specs.Apart.{IsApart}
pub use Rattle.openings.specs.Opening.{IsAlone, IsPart}
pub use Rattle.scenario_servers.specs.Labels.{labels_from, labels_of}
pub use Rattle.scenario_servers.specs.NameTable.{AddsName, AddsText, AreTexts, IsFound, IsTableOf, number_at, number_of_name, text_named, text_number}
pub use Rattle.scenario_servers.specs.Names.{first_named, has_uuid, is_earlier, is_named, listed_name, listed_names, listed_uuids}
pub use Rattle.scenario_servers.specs.Names.{name_in_text, new_uuid, number_or_fails, read_name, read_uuid, uuid_at}
unfoldable pub use Rattle.scenario_servers.specs.Names.{own_name, own_uuid, server_named}
pub use Rattle.scenario_servers.specs.Openings.{IsGiven, init_of, init_under, inits_from, inits_of, root_in, source_in}
pub use Rattle.scenario_servers.specs.Prelude.{AutoWithoutGtid, BadNumber, Data, DuplicateName, DuplicateUuid, Fault, Global, HashMap}
pub use Rattle.scenario_servers.specs.Prelude.{HostPort, IsServer, Items, NameFault, Part, ServerInit, ServerNo, as_str, bool_in, each_from, fails}
pub use Rattle.scenario_servers.specs.Prelude.{get, get_by_text, holds, item, item_count, items_in, items_view, list_any, maybe, members_in}
pub use Rattle.scenario_servers.specs.Prelude.{name_or_fails, needed, no_items, only_keys, option_or, optional, or_fails, printed}
pub use Rattle.scenario_servers.specs.Prelude.{members_view, reached_from, same_name, text_in, under, under_item, view}
unfoldable pub use Rattle.scenario_servers.specs.Prelude.{coord_in, label_in, name_at, name_in, number_in, short_in, version_in, whole_in}
unfoldable pub use Rattle.scenario_servers.specs.Rules.{rule_in}
pub use Rattle.scenario_servers.specs.Servers.{default_version, has_source, own_keys, plain_keys, plain_replication, plain_setup, replica_keys, server_keys, three_of}
unfoldable pub use Rattle.scenario_servers.specs.Servers.{auto_in, flushes_in, history_in, identity_in, listed_in, part_in, plain_from}
unfoldable pub use Rattle.scenario_servers.specs.Servers.{plain_identity, replication_in, server_from, server_in, servers_in, setup_in}
pub use Rattle.scenario_servers.specs.UuidTable.{AddsUuid, IsUuidTable, first_with, is_before, number_with}
pub use Rattle.scenario_servers.specs.declared.given.Given.{Given}
pub use Rattle.scenario_servers.specs.declared.given.Identity.{Identity}
pub use Rattle.scenario_servers.specs.declared.given.Replication.{Replication}
pub use Rattle.scenario_servers.specs.declared.given.Setup.{Setup}
pub use Rattle.scenario_servers.specs.declared.names.NameKey.{NameKey}
pub use Rattle.scenario_values.proofs.Each.{IsReadTo, rest_at, with_front}
pub use Rattle.scenario_values.specs.Faults.{each_member, fault_of, is_key, maybe_in, needed_in, optional_in}
pub use Rattle.scenario_values.specs.Values.{within}
pub use Rattle.scenario_values.specs.declared.fault.FaultCode.{FaultCode}
pub use Rattle.scenario_values.specs.declared.fault.FaultCode.TheVariants.{UnknownKey}
pub use Rattle.serde_json.specs.Data.{Members, array, boolean, member, no_members, null, number, object, string}
pub use Rattle.serde_json.specs.Find.{get_item, get_member}
pub use Rattle.serde_json.specs.declared.value.Value.{Value}
pub use Rattle.server_words.proofs.OrchBase.Printed.{printed_is_utf8}
pub use Rattle.server_words.proofs.OrchBase.SameNames.{same_name_tells}
