use Rattle.std.proofs.Common.{append_assoc}
use Rattle.plan_texts.proofs.Written.{appended}
use Rattle.plan_texts.proofs.conditions.print_noted.Goals as goal

pub returns : goal.returns
returns c = simp append_assoc (simp (c.in_ok-print_lettered.ensures, c.in_ok-print_note.ensures, append_assoc) at (appended c.extend_from_slice.result c.extend_from_slice.new.self.items c.print_lettered.new.out.items c.args.word.now c.extend_from_slice.ensures.items))
