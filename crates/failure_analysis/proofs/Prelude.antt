-- What its proofs cite of others.
pub use Rattle.std.proofs.Math.Bool.{and-true}
pub use Rattle.std.proofs.Math.Nat.{add-zero}
pub use Rattle.std.proofs.lemmas.Bool.{eq-eqb, eqb-true, false≢true}
pub use Rattle.std.proofs.lemmas.Grind.{get_or-set_at}
pub use Rattle.std.proofs.lemmas.List.{append-nil, get_or-set_other, get_or_default, length-set, length-take, take_more}
pub use Rattle.std.proofs.lemmas.List.Elements.{All-cons, All-head, All-nil, All-tail, filter_map-append}
pub use Rattle.std.proofs.lemmas.List.Sorted.{sum_by-IsPermutation}
pub use Rattle.std.proofs.lemmas.List.Sums.{count_by-le-length, length-filter, sum_by-cons, sum_by-le-sum_by, sum_by_more}
pub use Rattle.std.specs.List.{cons_option, range_with_len, sum_by}
pub use Rattle.std.specs.Option.{option_map, option_to_list}
pub use Rattle.book_views.proofs.Prelude.{Attached, BookState, Detached, HasKnownSource, Instance, IsBook, IsOrder-by_name, ServerNo, SourceState}
pub use Rattle.book_views.proofs.Prelude.{Without, are_known, by_name, instance_at, is_instance, is_replica_of, length-by_name, nat_tests, same_Some}
pub use Rattle.book_views.proofs.Prelude.{seen_source, source_servers, take_all}
pub use Rattle.book_views.proofs.Reading.{known-below, place-at, places-all}
pub use Rattle.book_views.specs.Sources.{is_attached_to, replicas_of}
pub use Rattle.failure_analysis.specs.Analysis.{count_of, entry_at, entry_of, is_any, is_replica_that, is_valid, lags, replicates}
unfoldable pub use Rattle.failure_analysis.specs.Analysis.{analysis}
pub use Rattle.failure_analysis.specs.Table.{AreCounts, action_by, action_of, conditions, is_of_row, problems}
unfoldable pub use Rattle.failure_analysis.specs.Table.{code_of}
pub use Rattle.failure_analysis.specs.Tallies.{AreParts, counts_by, no_replicas, raised, tally_of}
pub use Rattle.failure_analysis.specs.declared.code.Counts.{Counts}
pub use Rattle.failure_analysis.specs.declared.entry.Entry.{Entry}
pub use Rattle.failure_analysis.specs.declared.tally.Tally.{Tally}
pub use Rattle.instance_keeper.proofs.Books.{known_at}
pub use Rattle.instance_keeper.specs.OrchBase.declared.code.Code.{Code}
pub use Rattle.instance_keeper.specs.OrchBase.declared.code.Code.TheVariants.{NoProblem}
