use Rattle.std.proofs.Common.{◌<◌, length, subst, arith, nat_lt}
use Rattle.permission.proofs.Prelude.{IsForest, above, book_forest, is_reached, length-forest, nat_tests, node_at, rank-below}
use Rattle.permission.proofs.Below.{below-test, tested}
use Rattle.permission.proofs.by_book.is_below.Goals as goal

pub returns-then-other-count-clause-is : goal.returns-then-other-count-clause-is
returns-then-other-count-clause-is c =
    let b = c.args.book.now in
    let no = c.args.no in
    let other = c.args.other in
    let one_in : no.0 < length b.names = omega (arith, c.if-other-count.true.0, c.servers-count.ensures.count) in
    let other_in : other.0 < length b.names = omega (arith, c.if-other-count.true.1, c.servers-count.ensures.count) in
    let is : IsForest (book_forest b) = subst IsForest c.requires c.edges_have_no_loop.ensures.forest in
    tested (nat_lt no.0 (length b.names)) (nat_lt other.0 (length b.names)) c.is_below.result
    (is_reached (above (book_forest b)) (length (book_forest b)) (node_at b other) (node_at b no))
    (grind (arith, nat_tests)) (grind (arith, nat_tests))
    (below-test (book_forest b) is (node_at b other) (node_at b no) c.is_below.result (omega (arith, rank-below b no one_in, length-forest b)) c.is_below.ensures)
