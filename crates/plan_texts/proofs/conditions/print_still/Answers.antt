use Rattle.std.proofs.Common.{◌≡◌, ◌++◌, Option, append_assoc, subst, OnOk, codes}
use Rattle.plan_texts.specs.Prelude.{ExecOf, ServerNo}
use Rattle.plan_texts.specs.Conditions.{below_at_words, source_letter}
use Rattle.plan_texts.proofs.conditions.print_still.Goals as goal

pub returns : goal.returns
returns c =
    let still = λ (o : Option ServerNo). codes "; " ++ below_at_words c.args.order.now c.args.no (source_letter c.args.order.now c.args.no o) (ExecOf c.args.no) in
    subst (λ (o : Option ServerNo). OnOk c.print_below_at.result (c.print_below_at.new.out.items ≡ c.args.out.now.items ++ still o)) c.latest_source.ensures
    (simp (c.in_ok-extend_from_slice.ensures.items, append_assoc) at c.print_below_at.ensures)
