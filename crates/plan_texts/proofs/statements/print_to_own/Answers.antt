use Rattle.std.proofs.Common.{append_assoc}
use Rattle.plan_texts.specs.Statements.{change_words}
use Rattle.plan_texts.proofs.statements.print_to_own.Goals as goal

pub returns : goal.returns
unfolding change_words
returns c = simp append_assoc (simp (c.in_ok-print_own.ensures, c.in_ok-extend_from_slice.ensures.items, append_assoc) at c.print_place.ensures)
