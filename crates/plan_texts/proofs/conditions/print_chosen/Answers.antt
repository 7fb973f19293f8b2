use Rattle.std.proofs.Common.{append_assoc}
use Rattle.plan_texts.specs.Conditions.{chosen_words}
use Rattle.plan_texts.proofs.conditions.print_chosen.Goals as goal

pub returns : goal.returns
unfolding chosen_words
returns c = simp append_assoc (simp (c.in_ok-print_lettered.ensures, append_assoc) at c.print_passes.ensures)
