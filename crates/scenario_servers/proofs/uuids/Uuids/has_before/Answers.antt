use Rattle.std.proofs.Common.{◌≡◌, ◌∙◌, Some, None, ap, sym, take, zero-add}
use Rattle.scenario_servers.proofs.Prelude.{first_with, has_uuid, is_before, list_any, number_with}
use Rattle.scenario_servers.proofs.UuidTables.{taken_before}
use Rattle.scenario_servers.proofs.uuids.Uuids.has_before.Goals as goal

pub returns-in-Some : goal.returns-in-Some
returns-in-Some c =
    let listed = c.self.inside.listed.items in
    let uuid = c.args.uuid in
    let found : number_with c.self.inside.numbers uuid ≡ Some c.in-Some.first.now = sym c.in-Some.ensures.value in
    ap (λ o. is_before o c.args.number) (sym found ∙ c.self.invariant uuid)
    ∙ sym (taken_before uuid 0 c.args.number listed ∙ ap (is_before (first_with uuid 0 listed)) (zero-add c.args.number))
    ∙ ap (λ xs. list_any (has_uuid uuid) (take c.args.number xs)) c.self.view_is

pub returns-in-None : goal.returns-in-None
returns-in-None c =
    let listed = c.self.inside.listed.items in
    let uuid = c.args.uuid in
    let found : number_with c.self.inside.numbers uuid ≡ None = sym c.in-None.ensures.value in
    ap (λ o. is_before o c.args.number) (sym found ∙ c.self.invariant uuid)
    ∙ sym (taken_before uuid 0 c.args.number listed ∙ ap (is_before (first_with uuid 0 listed)) (zero-add c.args.number))
    ∙ ap (λ xs. list_any (has_uuid uuid) (take c.args.number xs)) c.self.view_is
