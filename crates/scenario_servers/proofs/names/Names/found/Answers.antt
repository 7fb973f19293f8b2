use Rattle.std.proofs.Common.{rules, ◌≡◌, ◌∙◌, ap, arith, List, Option, Some, slice_get, subst}
use Rattle.scenario_servers.proofs.Prelude.{HostPort, IsFound, common_steps, get_by_text, gets}
use Rattle.scenario_servers.proofs.TextTables.{found}
use Rattle.scenario_servers.proofs.names.Names.found.Goals as goal

pub returns : goal.returns
returns c =
    let listed = c.self.inside.listed.items in
    let text = c.args.text.now in
    let first = c.in_ok-first.first in
    let name = c.in_ok-name.name.now in
    let kept : get_by_text c.self.inside.texts text ≡ Some first = search rules in
    let item : slice_get listed first ≡ Some c.in_ok-get.field-0.now = grind (arith, common_steps, gets, c.in_ok-get.ensures.lookup, c.deref.ensures.value) in
    let is : c.in_ok-get.field-0.now ≡ Some name = search rules in
    subst (λ (names : List (Option HostPort)). IsFound names text name first) c.self.view_is (found listed text name first (c.self.invariant.1 text first kept) (item ∙ ap Some is))
