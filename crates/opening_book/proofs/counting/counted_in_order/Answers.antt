use Rattle.std.proofs.Common.{◌∙◌, List, ap, sym, filter}
use Rattle.opening_book.proofs.Prelude.{Row, counts, map_of-risen}
use Rattle.opening_book.proofs.counting.counted_in_order.Goals as goal

pub returns : goal.returns
returns c =
    c.counting.ensures
    ∙ ap (λ (rows : List Row). filter (counts c.args.servers c.args.last) rows) (sym (map_of-risen c.args.rows.items c.requires))
