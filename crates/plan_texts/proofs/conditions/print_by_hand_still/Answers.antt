use Rattle.std.proofs.Common.{append_assoc}
use Rattle.plan_texts.proofs.conditions.print_by_hand_still.Goals as goal

pub returns : goal.returns
returns c = simp append_assoc (simp (c.in_ok-print_by_hand.ensures, append_assoc) at c.print_still.ensures)
