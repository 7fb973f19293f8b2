use Rattle.std.proofs.Common.{◌≡◌, Ok, List, ℕ, subst, rules}
use Rattle.scenario_turns.proofs.Prelude.{found_in}
use Rattle.scenario_turns.proofs.KnownPatterns.{known-found}
use Rattle.scenario_turns.proofs.patterns.Patterns.found.Goals as goal

pub returns-in_ok-copy-in-Some : goal.returns-in_ok-copy-in-Some
returns-in_ok-copy-in-Some c =
    let known = c.self.invariant c.args.text.now c.in-Some.answers.now (search rules) in
    subst (λ (ps : List (List ℕ)). found_in ps c.args.text.now ≡ Ok (record { text = c.new.result; answers = c.in_ok-copy-in-Some.field-0 })) c.self.view_is
    (known-found c.self.inside.printed.items c.args.text.now c.new.result c.in_ok-copy-in-Some.field-0 c.in-Some.answers.now (search rules) c.in_ok-copy-in-Some.ensures known)
