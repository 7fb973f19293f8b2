use Rattle.std.proofs.Common.{[], ◌∷◌}
use Rattle.scenario_dump.proofs.Prelude.{coord_text}
use Rattle.scenario_dump.proofs.Printed.{appended, in_quotes, map_ok}
use Rattle.scenario_dump.proofs.Quotes.{escape-coord_text}
use Rattle.scenario_dump.proofs.values.print_place.Goals as goal

pub returns : goal.returns
returns c =
    map_ok c.extend_from_slice-3.result
    (in_quotes c.args.out.now.items _ _ _ _ c.args.before.now (coord_text c.args.c) (escape-coord_text c.args.c) c.in_ok-extend_from_slice.ensures.items c.in_ok-extend_from_slice-2.ensures.items c.in_ok-print_coord.ensures.ok)
    (appended c.extend_from_slice-3.result c.extend_from_slice-3.new.self.items c.print_coord.new.out.items (34 ∷ []) c.extend_from_slice-3.ensures.items)
