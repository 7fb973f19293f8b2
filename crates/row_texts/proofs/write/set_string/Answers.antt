use Rattle.row_texts.proofs.Printed.{set_is_utf8}
use Rattle.row_texts.proofs.write.set_string.Goals as goal

pub unwrap-requires : goal.unwrap-requires
unwrap-requires c = c.from_utf8.ensures.succeeds (rw (c.in_ok-print.ensures.ok, c.new-text.ensures.items) (set_is_utf8 c.args.set.now c.show_order.ensures))
