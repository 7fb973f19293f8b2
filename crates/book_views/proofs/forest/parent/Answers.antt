use Rattle.std.proofs.Common.{length, ap, arith}
use Rattle.book_views.proofs.Nodes.{length-forest, rank-below}
use Rattle.book_views.proofs.forest.parent.Goals as goal

pub parent-requires : goal.parent-requires
parent-requires c =
    omega (arith, rank-below c.args.book.now c.args.no c.requires.no, length-forest c.args.book.now, ap length c.requires.forest, c.rank.ensures)
