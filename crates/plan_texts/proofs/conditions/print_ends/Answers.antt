use Rattle.std.proofs.Common.{append_assoc, codes}
use Rattle.plan_texts.proofs.Written.{appended}
use Rattle.plan_texts.proofs.conditions.print_ends.Goals as goal

pub returns : goal.returns
returns c = simp append_assoc (simp (c.in_ok-print_aim.ensures, c.in_ok-extend_from_slice.ensures.items, c.in_ok-print_lettered.ensures, append_assoc) at (appended c.extend_from_slice-2.result c.extend_from_slice-2.new.self.items c.print_aim.new.out.items (codes ", stopped") c.extend_from_slice-2.ensures.items))
