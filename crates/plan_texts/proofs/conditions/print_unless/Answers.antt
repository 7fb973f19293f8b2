use Rattle.std.proofs.Common.{append_assoc}
use Rattle.plan_texts.proofs.conditions.print_unless.Goals as goal

pub returns : goal.returns
returns c = simp append_assoc (simp (c.in_ok-extend_from_slice.ensures.items, append_assoc) at c.print_reaches.ensures)
