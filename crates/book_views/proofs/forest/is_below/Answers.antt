use Rattle.std.proofs.Common.{length, ap, arith}
use Rattle.book_views.proofs.Nodes.{length-forest, rank-below}
use Rattle.book_views.proofs.forest.is_below.Goals as goal

pub below-requires-clause-a : goal.below-requires-clause-a
below-requires-clause-a c =
    omega (arith, rank-below c.args.book.now c.args.no c.requires.no, length-forest c.args.book.now, ap length c.requires.forest, c.rank.ensures)

pub below-requires-clause-b : goal.below-requires-clause-b
below-requires-clause-b c =
    omega (arith, rank-below c.args.book.now c.args.other c.requires.other, length-forest c.args.book.now, ap length c.requires.forest, c.rank-2.ensures)
