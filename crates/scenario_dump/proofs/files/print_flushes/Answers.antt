use Rattle.std.proofs.Common.{◌∙◌, ◌++◌, [], ◌∷◌, ap, sym, Some}
use Rattle.scenario_dump.proofs.Prelude.{compact_text, count_data, list_data, option_copied}
use Rattle.scenario_dump.proofs.Printed.{appended, map_ok}
use Rattle.scenario_dump.proofs.Worlds.{logged_points, there_is, unlogged_points}
use Rattle.scenario_dump.proofs.files.print_flushes.Goals as goal

pub returns-in-Some : goal.returns-in-Some
returns-in-Some c =
    let w = c.args.world.now in
    let s = there_is w c.args.no.0 c.requires in
    let points = logged_points w c.args.no.0 s.0 c.in-Some.log.now c.settings.result.now s.1 (c.log.ensures ∙ ap (λ o. Some (option_copied o)) c.in-Some.is) c.settings.ensures in
    map_ok c.print_points.result (λ last. last ∙ ap (λ v. c.args.out.now.items ++ compact_text (list_data count_data v)) (sym points)) c.print_points.ensures

pub returns-in-None : goal.returns-in-None
returns-in-None c =
    let w = c.args.world.now in
    let s = there_is w c.args.no.0 c.requires in
    let none = unlogged_points w c.args.no.0 s.0 s.1 (c.log.ensures ∙ ap (λ o. Some (option_copied o)) c.in-None.is) in
    map_ok c.extend_from_slice.result (λ last. last ∙ ap (λ v. c.args.out.now.items ++ compact_text (list_data count_data v)) (sym none)) (appended c.extend_from_slice.result c.extend_from_slice.new.self.items c.args.out.now.items (91 ∷ 93 ∷ []) c.extend_from_slice.ensures.items)
