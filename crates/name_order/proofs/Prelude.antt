-- What its proofs cite of others.
pub use Rattle.std.proofs.lemmas.Bool.{cases_lt, eqb-true, false≢true}
pub use Rattle.std.proofs.lemmas.Bool.Decides.{eqb_tells}
pub use Rattle.std.proofs.lemmas.Cmp.{nat_cmp_total, nat_eq_equiv, on_total, ranked, then_total, tied_itself}
pub use Rattle.std.proofs.lemmas.List.{get_or-map, get_or-set_other, get_or-set_same, get_or_default, length-map, length-set, length-take, map-append}
pub use Rattle.std.proofs.lemmas.List.{take_more}
pub use Rattle.std.proofs.lemmas.List.Elements.{All-cons, All-head, All-nil, All-tail, All-weaker}
pub use Rattle.std.proofs.lemmas.List.FromFn.{fill_by_all, get_or-enumerate_from, get_or-range_with_len, length-enumerate_from, length-range_with_len}
pub use Rattle.std.proofs.lemmas.List.Sorted.{All-permutation, Contains-permutation, IsPermutation-cons, IsPermutation-map, IsPermutation-middle}
pub use Rattle.std.proofs.lemmas.List.Sorted.{IsPermutation-refl, IsPermutation-sym, IsPermutation-trans, answers_always, length_permutation}
pub use Rattle.std.proofs.lemmas.List.Sorted.{ranks_by, sorted_far, sum_by-IsPermutation}
pub use Rattle.std.proofs.lemmas.List.Sums.{position_or_len_is, sum_by-cons}
pub use Rattle.std.proofs.lemmas.Map.Keys.{IsDistinct-IsPermutation}
pub use Rattle.std.proofs.lemmas.Map.Made.{AllPairs-from_IsDistinct, IsDistinct-from_AllPairs}
pub use Rattle.std.proofs.lemmas.Result.{IfOk-weaker}
pub use Rattle.std.specs.Bool.{Decides}
pub use Rattle.std.specs.Cmp.{IsStrictWeakOrder, IsTotalOrder}
pub use Rattle.std.specs.Cmp.Lexicographic.{on_texts, same_text, slice_cmp, texts_ties}
pub use Rattle.std.specs.List.{enumerate_from, range_with_len, sum_by}
pub use Rattle.std.specs.List.Sorted.{IsPermutation, IsSortedBy}
pub use Rattle.std.specs.Ordering.{is_eq, is_gt, is_lt, nat_cmp, ordering_reverse, ordering_then}
pub use Rattle.std.specs.declared.cmp.Ordering.{Ordering}
pub use Rattle.std.specs.declared.cmp.Ordering.TheVariants.{Equal, Greater, Less}
pub use Rattle.name_order.specs.NameOrder.{IsOrder, IsRising, named, order_of, rank_of, ranks_of, server_of}
unfoldable pub use Rattle.name_order.specs.NameOrder.{by_name}
pub use Rattle.name_order.specs.Sorts.{insert_by, sort_by}
pub use Rattle.orch_base.specs.Names.{HostPort, name_cmp}
pub use Rattle.orch_base.specs.declared.server.ServerNo.{ServerNo}
