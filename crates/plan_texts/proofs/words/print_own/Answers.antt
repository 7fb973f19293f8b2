use Rattle.std.proofs.Common.{append_assoc, codes}
use Rattle.plan_texts.proofs.Written.{appended}
use Rattle.plan_texts.specs.Statements.{own_words}
use Rattle.plan_texts.proofs.words.print_own.Goals as goal

pub returns : goal.returns
unfolding own_words
returns c = simp append_assoc (simp (c.in_ok-print_lettered-2.ensures, c.in_ok-print_lettered.ensures, c.in_ok-extend_from_slice-2.ensures.items, c.in_ok-extend_from_slice.ensures.items, append_assoc) at (appended c.extend_from_slice-3.result c.extend_from_slice-3.new.self.items c.print_lettered-2.new.out.items (codes ".source.port") c.extend_from_slice-3.ensures.items))
