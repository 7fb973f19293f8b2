use Rattle.std.proofs.Common.{◌++◌, ◌∙◌, ap, sym, take, List}
use Rattle.opening_book.proofs.Prelude.{Change, Row, block_given, blocks_given, option_to_list}
use Rattle.opening_book.proofs.Missing.{map-more}
use Rattle.opening_book.proofs.opening.give_blocks.Goals as goal

pub loop-row-preserved : goal.loop-row-preserved
loop-row-preserved g c =
    let period = g.P.Periods.period_of c.args.periods.now in
    let rows = c.args.rows.now in
    let at = c.loop-row.row-index in
    c.in_ok-give_block.ensures
    ∙ ap (λ (xs : List Change). xs ++ option_to_list (block_given period c.row-item.result)) c.loop-row.invariant
    ∙ ap (λ (r : Row). blocks_given period (take at rows) ++ option_to_list (block_given period r)) c.row-item.is
    ∙ sym (map-more (block_given period) rows at c.row-item.result c.loop-row-test.true)
