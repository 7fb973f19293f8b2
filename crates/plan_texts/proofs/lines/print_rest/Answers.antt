use Rattle.std.proofs.Common.{append_assoc}
use Rattle.plan_texts.proofs.lines.print_rest.Goals as goal

pub returns : goal.returns
returns c = simp append_assoc (simp (c.in_ok-extend_from_slice-2.ensures.items, c.in_ok-print_expected.ensures, c.in_ok-extend_from_slice.ensures.items, append_assoc) at c.print_expectation.ensures)
