use Rattle.std.proofs.Common.{subst, sym}
use Rattle.kept_rows.proofs.Prelude.{IsRising}
use Rattle.kept_rows.proofs.Rising.{map_of-risen}
use Rattle.kept_rows.proofs.memory.row_map.Goals as goal

pub returns-then-is_rising : goal.returns-then-is_rising
returns-then-is_rising c = sym (map_of-risen c.args.rows.items (subst IsRising c.deref.ensures.value c.if-is_rising.ensures))
