use Rattle.std.proofs.Common.{◌∙◌, List, ap, filter}
use Rattle.opening_book.proofs.Prelude.{Row, counts}
use Rattle.opening_book.proofs.counting.counted.Goals as goal

pub returns : goal.returns
returns c =
    c.counting.ensures
    ∙ ap (λ (rows : List Row). filter (counts c.args.servers c.args.last) rows) c.in_ok-map.ensures
