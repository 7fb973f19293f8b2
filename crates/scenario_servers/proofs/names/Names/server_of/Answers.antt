use Rattle.std.proofs.Common.{◌≡◌, ◌∙◌, Ok, List, Option, subst, sym}
use Rattle.scenario_servers.proofs.Prelude.{HostPort, text_named}
use Rattle.scenario_servers.proofs.names.Names.server_of.Goals as goal

pub returns-in-Some : goal.returns-in-Some
returns-in-Some c =
    subst (λ (names : List (Option HostPort)). text_named names c.args.text.now ≡ Ok (record { 0 = c.in-Some.number })) c.self.view_is
    (c.self.invariant.1 c.args.text.now c.in-Some.number (sym c.get.ensures.value ∙ sym c.copied.ensures ∙ c.in-Some.is))
