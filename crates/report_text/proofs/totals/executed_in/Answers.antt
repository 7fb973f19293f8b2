use Rattle.std.proofs.Common.{◌∙◌, ap, arith, Some, sym}
use Rattle.report_text.proofs.ServerLines.{executed_go_on}
use Rattle.report_text.proofs.totals.executed_in.Goals as goal

pub loop-no-preserved : goal.loop-no-preserved
loop-no-preserved c = record {
  sum = executed_go_on c.args.world.now.servers c.loop-no.no c.loop-no.executed c.from-executed.result c.loop-no.invariant.sum (c.executed.ensures ∙ ap Some (sym c.from-executed.ensures));
  within = omega (arith, c.loop-no.invariant.within, c.from-executed.ensures);
}
