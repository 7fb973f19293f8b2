use Rattle.std.proofs.Common.{append_assoc}
use Rattle.plan_texts.proofs.statements.print_auto_change.Goals as goal

pub returns : goal.returns
returns c = simp append_assoc (simp (c.in_ok-extend_from_slice-3.ensures.items, c.in_ok-extend_from_slice-2.ensures.items, c.in_ok-extend_from_slice.ensures.items, c.reading.ensures, append_assoc) at c.print_own.ensures)
