-- What its proofs cite of others.
pub use Rattle.std.proofs.lemmas.Bool.{and_left, and_parts, false≢true, not-true}
pub use Rattle.std.proofs.lemmas.Cmp.{back_total, nat_cmp_total, on_total, then_total, tied_itself}
pub use Rattle.std.proofs.lemmas.List.{append-nil, take_more}
pub use Rattle.std.proofs.lemmas.List.Elements.{All-cons, All-contains, All-contains_itself, All-filter, All-head, All-nil, All-push, All-tail}
pub use Rattle.std.proofs.lemmas.List.Elements.{All-weaker, filter_map-append, filter_more, filter_passes}
pub use Rattle.std.proofs.lemmas.List.Folds.{find-append, list_all-append}
pub use Rattle.std.proofs.lemmas.List.Sorted.{ranks_by}
pub use Rattle.std.proofs.lemmas.Option.{same_Some}
pub use Rattle.std.specs.Cmp.{IsStrictWeakOrder, IsTotalOrder}
pub use Rattle.std.specs.List.{list_all}
pub use Rattle.std.specs.Option.{option_or}
pub use Rattle.std.specs.Ordering.{is_lt, nat_cmp, ordering_then}
pub use Rattle.std.specs.declared.cmp.Ordering.{Ordering}
pub use Rattle.std.specs.declared.cmp.Ordering.TheVariants.{Equal, Greater, Less}
pub use Rattle.instance_keeper.proofs.NameOrder.ByName.{order_total}
pub use Rattle.instance_keeper.specs.BinlogCoords.Log.{is_before}
pub use Rattle.instance_keeper.specs.NameOrder.NameOrder.{named}
pub use Rattle.instance_keeper.specs.OrchBase.declared.rule.Rule.TheVariants.{Prefer}
pub use Rattle.instance_keeper.specs.Prelude.{Coord, HostPort, ServerNo, option_to_list}
pub use Rattle.promotion_rules.specs.Choice.{advance_order, comes_first, coord_order, first_by, is_better, is_eligible, nearer_order, precedence}
pub use Rattle.promotion_rules.specs.Choice.{rank, rank_order, server_order}
pub use Rattle.promotion_rules.specs.Chosen.{HasExecutedMost, IsChoice}
pub use Rattle.promotion_rules.specs.Groups.{ahead_at, ahead_in, behind_at, behind_in, follow_at, follow_in, group_of}
pub use Rattle.promotion_rules.specs.declared.drained.Drained.{Drained}
pub use Rattle.promotion_rules.specs.declared.groups.Group.{Group}
