use Rattle.std.proofs.Common.{append_assoc}
use Rattle.plan_texts.proofs.conditions.print_stands.Goals as goal

pub returns : goal.returns
returns c = simp (c.in_ok-extend_from_slice.ensures.items, append_assoc) at c.print_below_at.ensures
