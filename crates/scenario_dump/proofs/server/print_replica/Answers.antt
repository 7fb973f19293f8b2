use Rattle.std.proofs.Common.{◌∙◌, ◌++◌, ap, sym, codes}
use Rattle.scenario_dump.proofs.Printed.{First, Once, grew_by, map_ok, number_as, quoted_as}
use Rattle.scenario_dump.proofs.Servers.{replica_parts, replica_text}
use Rattle.scenario_dump.proofs.Worlds.{there_is}
use Rattle.scenario_dump.proofs.server.print_replica.Goals as goal

pub returns : goal.returns
returns c =
    let w = c.args.world.now in
    let n = c.args.no.0 in
    let r = c.settings-settings.result.now in
    let p = c.plain-plain.result in
    let s = there_is w n c.requires.server in
    map_ok c.print_end.result
    (λ last. grew_by c.args.out.now.items c.print_end.new.out.items (replica_parts w n r p c.args.source c.args.detached c.executed.result)
    (First _ _ _ _ _ _ c.in_ok-print_place.ensures
    (First _ _ _ _ _ _ c.in_ok-print_flag.ensures
    (First _ _ _ _ _ _ (quoted_as _ c.print_flag.new.out.items (codes ",\"cluster\":") _ _ c.in_ok-print_text.ensures c.as_str.ensures)
    (First _ _ _ _ _ _ (quoted_as _ c.print_text.new.out.items (codes ",\"dc\":") _ _ c.in_ok-print_text-2.ensures c.as_str-2.ensures)
    (First _ _ _ _ _ _ c.in_ok-print_flag-2.ensures
    (First _ _ _ _ _ _ c.in_ok-print_flag-3.ensures
    (First _ _ _ _ _ _ c.in_ok-print_number.ensures
    (First _ _ _ _ _ _ c.in_ok-print_flag-4.ensures
    (First _ _ _ _ _ _ c.in_ok-extend_from_slice.ensures.items
    (First _ _ _ _ _ _ c.in_ok-print_flushes.ensures
    (First _ _ _ _ _ _ c.in_ok-print_flag-5.ensures
    (First _ _ _ _ _ _ c.in_ok-print_fixed.ensures
    (First _ _ _ _ _ _ c.in_ok-print_place-2.ensures
    (First _ _ _ _ _ _ c.in_ok-print_flag-6.ensures
    (First _ _ _ _ _ _ (number_as _ c.print_flag-6.new.out.items (codes ",\"server_id\":") _ _ c.in_ok-print_number-2.ensures c.from.ensures)
    (First _ _ _ _ _ _ c.in_ok-print_named.ensures
    (First _ _ _ _ _ _ c.in_ok-print_flag-7.ensures
    (First _ _ _ _ _ _ c.in_ok-print_until.ensures
    (Once _ _ _ last)))))))))))))))))))
    ∙ ap (λ v. c.args.out.now.items ++ v) (sym (replica_text w n s.0 r p c.args.source c.args.detached c.executed.result s.1 c.settings-settings.ensures c.plain-plain.ensures c.requires.source c.requires.state c.executed.ensures))) c.print_end.ensures
