use Rattle.std.proofs.Common.{◌≡◌, ◌∙◌, ◌++◌, ◌||◌, ap, arith, decimal, nat_lt}
use Rattle.scenario_dump.proofs.Prelude.{comma_if}
use Rattle.scenario_dump.proofs.Lists.{repeated_goes_on}
use Rattle.scenario_dump.proofs.Points.{either_first, either_last}
use Rattle.scenario_dump.proofs.files.print_repeated.Goals.{then-later, else-later}
use Rattle.scenario_dump.proofs.files.print_repeated.Goals as goal

pub loop-n-preserved : goal.loop-n-preserved
loop-n-preserved c rest =
    let is : c.if-later.comma ≡ (c.args.later || nat_lt 0 c.loop-n.n) = elim c.if-later.branch [ then-later w ↦ either_first _ _ _ w.if-later.true w.comma-is | else-later w ↦ either_last _ _ _ w.if-later.false w.comma-is ] in
    repeated_goes_on c.args.count c.args.times c.loop-n.n c.args.later rest c.loop-n.out.items c.print_number.new.out.items _ (omega (arith, c.loop-n-test.true))
    (c.in_ok-print_number.ensures ∙ ap (λ v. c.loop-n.out.items ++ (v ++ decimal c.args.count)) (c.comma.ensures ∙ ap comma_if is)) (c.loop-n.invariant rest)
