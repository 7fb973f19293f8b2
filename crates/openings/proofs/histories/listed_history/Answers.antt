use Rattle.std.proofs.Common.{◌∙◌, ap, arith, length}
use Rattle.openings.proofs.Prelude.{IfOk-weaker}
use Rattle.openings.proofs.Sizes.{length-listed, listed-all}
use Rattle.openings.proofs.histories.listed_history.Goals as goal

pub history_of-requires-clause-fits : goal.history_of-requires-clause-fits
history_of-requires-clause-fits c =
    let all = ap length (listed-all c.args.parts.now c.transactions-count.result c.transactions-count.ensures) in
    let size = length-listed c.args.parts.now in
    omega (arith, c.transactions-count.ensures)

pub returns : goal.returns
returns c = IfOk-weaker c.history_of.result _ _ (λ v e. e ∙ listed-all c.args.parts.now c.transactions-count.result c.transactions-count.ensures) c.history_of.ensures.history
