use Rattle.std.proofs.Common.{◌∙◌, ◌++◌, List, ℕ, [], ◌∷◌, ap, append_assoc, arith, sym}
use Rattle.scenario_dump.proofs.Prelude.{quoted}
use Rattle.scenario_dump.proofs.Printed.{appended, map_ok, quoted_as}
use Rattle.scenario_dump.proofs.Worlds.{name_past, name_there}
use Rattle.scenario_dump.proofs.values.print_named.Goals as goal

pub returns-then-no-servers : goal.returns-then-no-servers
returns-then-no-servers c =
    let w = c.args.world.now in
    let n = c.args.no.0 in
    let name = name_there w n c.settings.result.now (omega (arith, c.if-no-servers.true, c.servers.ensures)) c.settings.ensures in
    map_ok c.print_name.result (λ last. quoted_as c.print_name.new.out.items c.args.out.now.items c.args.before.now _ _ last name) c.print_name.ensures

pub returns : goal.returns
returns c =
    let w = c.args.world.now in
    let old = c.args.out.now.items in
    let before = c.args.before.now in
    let none = name_past w c.args.no.0 (omega (arith, c.if-no-servers.false, c.servers.ensures)) in
    map_ok c.extend_from_slice-2.result
    (λ last. last ∙ (ap (λ (v : List ℕ). v ++ 34 ∷ 34 ∷ []) c.in_ok-extend_from_slice.ensures.items ∙ (append_assoc old before (34 ∷ 34 ∷ []) ∙ ap (λ (v : List ℕ). old ++ (before ++ quoted v)) (sym none))))
    (appended c.extend_from_slice-2.result c.extend_from_slice-2.new.self.items c.extend_from_slice.new.self.items (34 ∷ 34 ∷ []) c.extend_from_slice-2.ensures.items)
