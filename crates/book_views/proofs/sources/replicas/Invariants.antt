use Rattle.std.proofs.Common.{◌≡◌, take, filter}
use Rattle.book_views.proofs.Prelude.{is_replica_of}
use Rattle.book_views.proofs.sources.replicas.Given as goal

abbrev pub invariant-loop-no : goal.invariant-loop-no
invariant-loop-no l = l.replicas.items ≡ filter (is_replica_of l.book l.i) (take l.no-index l.order)
