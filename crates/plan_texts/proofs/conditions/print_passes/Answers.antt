use Rattle.std.proofs.Common.{append_assoc, codes}
use Rattle.plan_texts.proofs.Written.{appended}
use Rattle.plan_texts.specs.Conditions.{passes_words}
use Rattle.plan_texts.proofs.conditions.print_passes.Goals as goal

pub returns : goal.returns
unfolding passes_words
returns c = simp append_assoc (simp (c.in_ok-print_letter.ensures, c.in_ok-extend_from_slice.ensures.items, c.over.ensures, c.in_ok-print_lettered.ensures, append_assoc) at (appended c.extend_from_slice-2.result c.extend_from_slice-2.new.self.items c.print_letter.new.out.items (codes ".exec") c.extend_from_slice-2.ensures.items))
