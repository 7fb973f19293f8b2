-- What its proofs cite of others.
pub use Rattle.std.proofs.lemmas.Map.Text.{is_eq-slice_cmp}
pub use Rattle.std.specs.Cmp.Lexicographic.{pointwise, slice_cmp}
pub use Rattle.std.specs.Map.{keys_of}
pub use Rattle.std.specs.Ordering.{match_ordering, nat_cmp}
pub use Rattle.std.specs.Str.{all_ascii_digits}
pub use Rattle.std.specs.declared.alloc.Global.{Global}
pub use Rattle.std.specs.declared.cmp.Ordering.{Ordering}
pub use Rattle.std.specs.declared.cmp.Ordering.TheVariants.{Equal, Greater, Less}
pub use Rattle.binlog_coords.proofs.OrchBase.NameLemmas.{by_tests, own}
pub use Rattle.binlog_coords.proofs.Prelude.{ParsesUnsigned, digits_value, false≢true, is_ascii_digit, le-leb, leb-true, list_all, list_any}
pub use Rattle.binlog_coords.proofs.Prelude.{parse_digits, result_ok, same_text}
pub use Rattle.binlog_coords.specs.OrchBase.Gives.{Gives}
pub use Rattle.scenario_values.specs.Faults.{IsUnder, each_from, each_member, escaped, fails, fault_of, has_none, has_none_at, is_key, item_count}
pub use Rattle.scenario_values.specs.Faults.{only_keys, under, under_item}
unfoldable pub use Rattle.scenario_values.specs.Faults.{escaped_byte}
pub use Rattle.scenario_values.specs.Values.{uuid_or_fails, version_part}
pub use Rattle.scenario_values.specs.declared.fault.Fault.{Fault}
pub use Rattle.scenario_values.specs.declared.fault.FaultCode.TheVariants.{BadUuid, UnknownKey}
pub use Rattle.scenario_values.specs.declared.fault.ReadFault.{ReadFault}
pub use Rattle.scenario_values.specs.declared.fault.ReadFault.TheVariants as read_fault
pub use Rattle.serde_json.specs.Data.{Data, Members, array, boolean, member, no_members, null, number, object, string}
pub use Rattle.serde_json.specs.Find.{as_object, get, get_member}
pub use Rattle.serde_json.specs.View.{items_view, members_view, view}
pub use Rattle.serde_json.specs.declared.value.Value.{Value}
pub use Rattle.uuid.specs.Text.{parsed, parsed_hyphenated}
