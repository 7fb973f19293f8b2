-- What its proofs cite of others.
pub use Rattle.std.proofs.lemmas.Bool.{cases_Bool, cases_eq, cases_lt, cond-false, cond-true, eq-eqb, eqb-true, false≢true, ne_eqb, or_cases}
pub use Rattle.std.proofs.lemmas.Bool.{or_right}
pub use Rattle.std.proofs.lemmas.Bool.Decides.{Decides-eqb}
pub use Rattle.std.proofs.lemmas.Grind.{common_steps}
pub use Rattle.std.proofs.lemmas.List.{append-nil, ext_get_or, map-append, reverse-append, with_items_is}
pub use Rattle.std.proofs.lemmas.List.Elements.{All-append, All-cons, All-head, All-map, All-nil, All-push, All-tail, All-weaker}
pub use Rattle.std.proofs.lemmas.List.Elements.{Contains-append_cases, Contains-append_left, Contains-append_right, Contains-push}
pub use Rattle.std.proofs.lemmas.List.Elements.{Contains-push_cases, filter-append, filter_passes}
pub use Rattle.std.proofs.lemmas.List.FromFn.{get_or-map-range_with_len, length-map-range_with_len}
pub use Rattle.std.proofs.lemmas.Map.Made.{AllPairs-from_IsDistinct}
pub use Rattle.std.proofs.lemmas.Map.Steps.{length-le_from_distinct_below}
pub use Rattle.std.proofs.lemmas.Option.{same_Some}
pub use Rattle.std.specs.List.{All, AllByRecursion, Contains, enumerate_from, flat_map, list_any}
unfoldable pub use Rattle.std.specs.List.{IsDistinct}
pub use Rattle.std.specs.Vec.{with_items}
pub use Rattle.orch_base.specs.Chains.{is_reached, is_reached_on}
pub use Rattle.topology_tree.specs.Following.{ComesBack, Direct, Follows, Further, Grounded, Root, Under}
pub use Rattle.topology_tree.specs.Forests.{IsClosed, IsForestOf, IsParent, above, children_of, edges_of, is_child, is_node, nodes_below, walk_at}
pub use Rattle.topology_tree.specs.Forests.{walk_of}
pub use Rattle.topology_tree.specs.Links.{IsForest, IsLinked, last_below}
pub use Rattle.topology_tree.specs.Making.{comes_back, parent_of}
unfoldable pub use Rattle.topology_tree.specs.Making.{forest_of}
pub use Rattle.topology_tree.specs.Marks.{Ending, Finished, Following, IsBefore, IsMarked, LeadsTo, Looping, MarksLoops, Settles, Walked}
pub use Rattle.topology_tree.specs.Trees.{HasParentIn, ListsTree, node_of}
