use Rattle.std.proofs.Common.{◌≡◌, ◌∙◌, ◌≤◌, ◌^◌, refl, sym, ap, subst}
use Rattle.orch_core.proofs.Prelude.{CanSettle, Numbers, State, numbers_of, outcome, scan_by, scan_outcome, state_of}
use Rattle.orch_core.proofs.Prelude.act
use Rattle.orch_core.proofs.Outcomes.{scan-settles}
use Rattle.orch_core.proofs.Periods.{period-short}
use Rattle.orch_core.proofs.Taking.{Takes-settled}
use Rattle.orch_core.proofs.engine.Engine.scan.Goals as goal

pub scan_by-requires-clause-moment : goal.scan_by-requires-clause-moment
scan_by-requires-clause-moment g c =
    subst (λ (n : Numbers). n.moment.0 ≤ 2 ^ 63) (sym (c.numbers-numbers.ensures ∙ ap numbers_of (sym c.self.view_is))) c.self.invariant.moment

pub scan_by-requires-clause-periods : goal.scan_by-requires-clause-periods
scan_by-requires-clause-periods g c = λ cluster. period-short (state_of c.self.inside) c.self.invariant cluster

pub settle-requires-clause-outcome : goal.settle-requires-clause-outcome
settle-requires-clause-outcome g c =
    let before = state_of c.self.inside in
    let numbers : c.numbers-numbers.result ≡ numbers_of before = c.numbers-numbers.ensures ∙ ap numbers_of (sym c.self.view_is) in
    let same : outcome c.in_ok-outcome.outcome ≡ scan_outcome before =
    c.in_ok-outcome.ensures.outcome ∙ ap (scan_by before.world before.book before.audit before.configuration) numbers in
    subst (λ (s : State). CanSettle s (outcome c.in_ok-outcome.outcome)) c.self.view_is
    (subst (CanSettle before) (sym same) (scan-settles before c.self.invariant c.servers.ensures.holds))

pub returns : goal.returns
returns g c =
    let before = state_of c.self.inside in
    let numbers : c.numbers-numbers.result ≡ numbers_of before = c.numbers-numbers.ensures ∙ ap numbers_of (sym c.self.view_is) in
    let here : outcome c.in_ok-outcome.outcome ≡ scan_outcome before =
    c.in_ok-outcome.ensures.outcome ∙ ap (scan_by before.world before.book before.audit before.configuration) numbers in
    let same : outcome c.in_ok-outcome.outcome ≡ scan_outcome c.args.self.now = here ∙ ap scan_outcome c.self.view_is in
    Takes-settled _ _ _ _ c.args.self.now c.settle.new.self act.Scan c.args.written (outcome c.in_ok-outcome.outcome) (scan_outcome c.args.self.now) c.settle.result same refl (λ given. refl) (λ given. refl) refl
    c.settle.ensures.reply c.settle.ensures.ok c.settle.ensures.err c.settle.ensures.keeps
