use Rattle.std.proofs.Common.{◌∙◌, sym}
use Rattle.plan_lines.proofs.Prelude.{ground_by}
use Rattle.plan_lines.proofs.Within.{chosen-there, others-there}
use Rattle.plan_lines.proofs.branches.add_choice.Goals as goal

pub add_below-requires : goal.add_below-requires
add_below-requires c = record {
  p = chosen-there (ground_by c.args.by.now) c.args.failed c.args.list.now c.in-Some.p (sym c.in_ok-p.ensures ∙ c.in-Some.is) c.requires;
  others =
      others-there c.args.by.now.book.now c.args.list.now c.deref.result.now c.in-Some.p.no (c.deref.ensures.value ∙ c.in_ok-others-in-Some.ensures) c.requires;
}
