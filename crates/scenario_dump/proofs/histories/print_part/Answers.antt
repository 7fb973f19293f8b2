use Rattle.std.proofs.Common.{[], ◌∷◌, refl}
use Rattle.scenario_dump.proofs.Printed.{appended, map_ok, part_shape}
use Rattle.scenario_dump.proofs.histories.print_part.Goals as goal

pub returns : goal.returns
returns c =
    map_ok c.extend_from_slice-2.result
    (part_shape c.args.out.now.items _ _ _ _ _ c.args.later _ _ _ _ _ _ c.comma.ensures refl c.from.ensures c.in_ok-extend_from_slice.ensures.items c.in_ok-print_named.ensures c.in_ok-print_number.ensures c.in_ok-print_number-2.ensures)
    (appended c.extend_from_slice-2.result c.extend_from_slice-2.new.self.items c.print_number-2.new.out.items (93 ∷ []) c.extend_from_slice-2.ensures.items)
