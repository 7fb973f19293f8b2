use Rattle.std.proofs.Common.{append_assoc}
use Rattle.plan_texts.proofs.words.print_address.Goals as goal

pub returns : goal.returns
returns c =
    simp append_assoc
    (simp (c.in_ok-extend_from_slice-3.ensures.items, c.in_ok-extend_from_slice-2.ensures.items, c.in_ok-extend_from_slice.ensures.items, c.as_bytes.ensures.value, c.host.ensures, c.from.ensures, c.port.ensures, append_assoc) at c.print_number.ensures)
