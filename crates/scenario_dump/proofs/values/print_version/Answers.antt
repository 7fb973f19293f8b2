use Rattle.std.proofs.Common.{[], ◌∷◌}
use Rattle.scenario_dump.proofs.Printed.{appended, map_ok, version_printed}
use Rattle.scenario_dump.proofs.values.print_version.Goals as goal

pub returns : goal.returns
returns c =
    map_ok c.extend_from_slice-2.result
    (version_printed c.args.out.now.items _ _ _ _ _ c.args.before.now c.args.version _ _ _ c.from.ensures c.from-2.ensures c.from-3.ensures c.in_ok-extend_from_slice.ensures.items c.in_ok-print_number.ensures c.in_ok-print_number-2.ensures c.in_ok-print_number-3.ensures)
    (appended c.extend_from_slice-2.result c.extend_from_slice-2.new.self.items c.print_number-3.new.out.items (34 ∷ []) c.extend_from_slice-2.ensures.items)
