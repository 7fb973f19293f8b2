use Rattle.std.proofs.Common.{append_assoc, codes}
use Rattle.plan_texts.proofs.Written.{appended}
use Rattle.plan_texts.proofs.conditions.print_contained.Goals as goal

pub returns : goal.returns
returns c = simp append_assoc (simp (c.in_ok-print_lettered-4.ensures, c.in_ok-print_lettered-3.ensures, c.in_ok-print_lettered-2.ensures, c.in_ok-print_lettered.ensures, append_assoc) at (appended c.extend_from_slice.result c.extend_from_slice.new.self.items c.print_lettered-4.new.out.items (codes ".gtids") c.extend_from_slice.ensures.items))
