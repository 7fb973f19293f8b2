use Rattle.std.proofs.Common.{append_assoc, codes}
use Rattle.plan_texts.proofs.Written.{appended}
use Rattle.plan_texts.proofs.statements.print_auto.Goals as goal

pub returns : goal.returns
returns c = simp append_assoc (simp (c.in_ok-print_named.ensures, c.in_ok-extend_from_slice.ensures.items, append_assoc) at (appended c.extend_from_slice-2.result c.extend_from_slice-2.new.self.items c.print_named.new.out.items (codes ", SOURCE_AUTO_POSITION=1") c.extend_from_slice-2.ensures.items))
