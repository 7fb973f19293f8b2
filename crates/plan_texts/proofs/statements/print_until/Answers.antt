use Rattle.std.proofs.Common.{append_assoc}
use Rattle.plan_texts.proofs.statements.print_until.Goals as goal

pub returns : goal.returns
returns c = simp (c.in_ok-extend_from_slice.ensures.items, append_assoc) at c.print_spot.ensures
