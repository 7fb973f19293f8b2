use Rattle.std.proofs.Common.{append_assoc}
use Rattle.plan_texts.proofs.statements.print_by_hand.Goals as goal

pub returns : goal.returns
returns c = simp append_assoc (simp (c.in_ok-extend_from_slice.ensures.items, append_assoc) at c.print_matched.ensures)
