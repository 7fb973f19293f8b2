-- What its proofs cite of others.
pub use Rattle.std.proofs.lemmas.Bool.{cases_lt, false≢true, lt-ltb, ltb-false}
pub use Rattle.std.proofs.lemmas.Bool.Decides.{nat_tests}
pub use Rattle.std.proofs.lemmas.Grind.{common_steps}
pub use Rattle.std.proofs.lemmas.List.{get_or-map, get_or_default, map-append, take_more}
pub use Rattle.std.proofs.lemmas.List.Elements.{All-head, All-tail}
pub use Rattle.std.proofs.lemmas.List.Folds.{find_at}
pub use Rattle.std.proofs.lemmas.List.Sorted.{IsPartitionedBy-ltb, IsPartitionPoint-from_clause, searchable_from_sorted}
pub use Rattle.std.proofs.lemmas.List.Sums.{count_by-le-length}
pub use Rattle.std.proofs.lemmas.Map.Text.{is_eq-slice_cmp}
pub use Rattle.std.proofs.lemmas.Option.{gets, same_Some, slice_get_past}
pub use Rattle.std.specs.Arc.{arc_value}
pub use Rattle.std.specs.Cmp.Lexicographic.{nat_list_cmp_total, pointwise, same_text, slice_cmp}
pub use Rattle.std.specs.List.{position_or_len}
pub use Rattle.std.specs.List.Sorted.{IsNonDecreasingBy, IsPartitionedBy, IsSortedWithin}
pub use Rattle.std.specs.Ordering.{is_eq, is_lt, nat_cmp, ordering_index}
pub use Rattle.std.specs.declared.cmp.Ordering.{Ordering}
pub use Rattle.std.specs.declared.cmp.Ordering.TheVariants.{Equal, Greater, Less}
pub use Rattle.openings.specs.declared.init.ServerInit.{ServerInit}
pub use Rattle.scenarios.specs.Aliases.{alias_of}
pub use Rattle.scenarios.specs.Blocks.{period_in}
pub use Rattle.scenarios.specs.Labels.{ArePlaces, AreRising, IsPoint, alias_label, block_label, entry_at, place_in, seconds_of, text_of}
pub use Rattle.scenarios.specs.Scenarios.{IsScenario, flushes_of, listed_in, longest_flushes, room_of}
pub use Rattle.scenarios.specs.ValidTurns.{is_rotate, is_write}
pub use Rattle.scenarios.specs.declared.blocks.Block.{Block}
pub use Rattle.scenarios.specs.declared.filters.Alias.{Alias}
pub use Rattle.scenarios.specs.declared.labels.ServerPlace.{ServerPlace}
pub use Rattle.scenarios.specs.declared.scenario.Scenario.{Scenario}
pub use Rattle.turns.specs.declared.turn.Turn.{Turn}
