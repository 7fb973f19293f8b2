use Rattle.std.proofs.Common.{◌≡◌, ◌∙◌, sym, ap, subst}
use Rattle.orch_core.proofs.Prelude.{CanSettle, IsUpdate, Knowledge, State, known, known_of, outcome, settled, state_of, updated, with_known}
use Rattle.orch_core.proofs.Outcomes.{IsState-settled}
use Rattle.orch_core.proofs.engine.Engine.settle.Goals as goal

pub update-requires-clause-update : goal.update-requires-clause-update
update-requires-clause-update g c =
    let can : CanSettle (state_of c.self.inside) (outcome c.args.outcome) = subst (λ (s : State). CanSettle s (outcome c.args.outcome)) (sym c.self.view_is) c.requires.outcome in
    subst (λ (k : Knowledge). IsUpdate k c.args.outcome.book) (sym c.keep_outcome.ensures.known) can.update

pub invariant_of-self-2 : goal.invariant_of-self-2
invariant_of-self-2 g c =
    let can : CanSettle (state_of c.self.inside) (outcome c.args.outcome) = subst (λ (s : State). CanSettle s (outcome c.args.outcome)) (sym c.self.view_is) c.requires.outcome in
    let known_then : known c.update.new.self ≡ updated (known_of (state_of c.self.inside)) c.args.outcome.book =
    c.update.ensures ∙ ap (λ (k : Knowledge). updated k c.args.outcome.book) c.keep_outcome.ensures.known in
    IsState-settled (state_of c.self.inside) (outcome c.args.outcome) (known c.update.new.self) c.self.invariant can c.requires.ids c.is_number.ensures known_then

pub returns-clause-ok : goal.returns-clause-ok
returns-clause-ok g c =
    let before = state_of c.self.inside in
    ap (λ (k : Knowledge). with_known (record before { reads = c.args.outcome.reads }) k) (c.update.ensures ∙ ap (λ (k : Knowledge). updated k c.args.outcome.book) c.keep_outcome.ensures.known)
    ∙ ap (λ (s : State). settled s (outcome c.args.outcome)) c.self.view_is
