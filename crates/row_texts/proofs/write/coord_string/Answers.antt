use Rattle.std.proofs.Common.{arith}
use Rattle.row_texts.proofs.Printed.{coord_is_utf8}
use Rattle.row_texts.proofs.write.coord_string.Goals as goal

pub unwrap-requires : goal.unwrap-requires
unwrap-requires c = c.from_utf8.ensures.succeeds (rw (c.in_ok-print_coord.ensures.ok, c.new-text.ensures.items) (coord_is_utf8 c.args.coord (omega arith) (omega arith)))
