use Rattle.std.proofs.Common.{◌≡◌, ◌∙◌, ℕ, ◌<◌, ◌≤◌, ◌^◌, length, refl, sym, ap, subst, true, IfSome}
use Rattle.orch_core.proofs.Prelude.{CanSettle, CommandTurn, IsCommand, Numbers, State, command_outcome, is_within, numbers_of, outcome, outcome_of}
use Rattle.orch_core.proofs.Prelude.{state_of}
use Rattle.orch_core.proofs.Prelude.act
use Rattle.orch_core.proofs.Outcomes.{command-settles, destination-within, given-duration, given-within}
use Rattle.orch_core.proofs.Taking.{Takes-settled}
use Rattle.orch_core.proofs.engine.Engine.command.Goals as goal

pub outcome_of-requires-clause-i : goal.outcome_of-requires-clause-i
outcome_of-requires-clause-i g c =
    let before = state_of c.self.inside in
    let command = subst (λ (s : State). IsCommand (length s.world.servers) c.args.t.now) (sym c.self.view_is) c.requires in
    let over = subst (λ (n : ℕ). IsCommand n c.args.t.now) (sym c.self.invariant.names) command in
    subst (λ (t : CommandTurn). is_within (length before.book.names) t.command.i ≡ true) (sym c.as_turn.ensures) (given-within (length before.book.names) c.args.t.now over)

pub outcome_of-requires-clause-d : goal.outcome_of-requires-clause-d
outcome_of-requires-clause-d g c =
    let before = state_of c.self.inside in
    let command = subst (λ (s : State). IsCommand (length s.world.servers) c.args.t.now) (sym c.self.view_is) c.requires in
    let over = subst (λ (n : ℕ). IsCommand n c.args.t.now) (sym c.self.invariant.names) command in
    subst (λ (t : CommandTurn). is_within (length before.book.names) t.command.d ≡ true) (sym c.as_turn.ensures) (destination-within (length before.book.names) c.args.t.now over)

pub outcome_of-requires-clause-moment : goal.outcome_of-requires-clause-moment
outcome_of-requires-clause-moment g c =
    subst (λ (n : Numbers). n.moment.0 ≤ 2 ^ 63) (sym (c.numbers-numbers.ensures ∙ ap numbers_of (sym c.self.view_is))) c.self.invariant.moment

pub outcome_of-requires-clause-duration : goal.outcome_of-requires-clause-duration
outcome_of-requires-clause-duration g c =
    let before = state_of c.self.inside in
    let command = subst (λ (s : State). IsCommand (length s.world.servers) c.args.t.now) (sym c.self.view_is) c.requires in
    subst (λ (t : CommandTurn). IfSome t.keys.duration (λ n. n ≤ 31536000)) (sym c.as_turn.ensures) (given-duration (length before.world.servers) c.args.t.now command)

pub settle-requires-clause-outcome : goal.settle-requires-clause-outcome
settle-requires-clause-outcome g c =
    let before = state_of c.self.inside in
    let command = subst (λ (s : State). IsCommand (length s.world.servers) c.args.t.now) (sym c.self.view_is) c.requires in
    let numbers : c.numbers-numbers.result ≡ numbers_of before = c.numbers-numbers.ensures ∙ ap numbers_of (sym c.self.view_is) in
    let same : outcome c.in_ok-outcome.outcome ≡ command_outcome before c.args.t.now =
    c.in_ok-outcome.ensures.outcome
    ∙ ap (λ (t : CommandTurn). outcome_of before.world before.book before.audit before.configuration c.numbers-numbers.result t) c.as_turn.ensures
    ∙ ap (λ (n : Numbers). outcome_of before.world before.book before.audit before.configuration n c.args.t.now) numbers in
    let wait : before.configuration.wait < 2 ^ 32 = subst (λ (n : Numbers). n.wait < 2 ^ 32) numbers c.is_bound.ensures in
    subst (λ (s : State). CanSettle s (outcome c.in_ok-outcome.outcome)) c.self.view_is
    (subst (CanSettle before) (sym same) (command-settles before c.args.t.now c.self.invariant c.servers.ensures.holds wait command))

pub returns : goal.returns
returns g c =
    let before = state_of c.self.inside in
    let numbers : c.numbers-numbers.result ≡ numbers_of before = c.numbers-numbers.ensures ∙ ap numbers_of (sym c.self.view_is) in
    let here : outcome c.in_ok-outcome.outcome ≡ command_outcome before c.args.t.now =
    c.in_ok-outcome.ensures.outcome
    ∙ ap (λ (t : CommandTurn). outcome_of before.world before.book before.audit before.configuration c.numbers-numbers.result t) c.as_turn.ensures
    ∙ ap (λ (n : Numbers). outcome_of before.world before.book before.audit before.configuration n c.args.t.now) numbers in
    let same : outcome c.in_ok-outcome.outcome ≡ command_outcome c.args.self.now c.args.t.now = here ∙ ap (λ (s : State). command_outcome s c.args.t.now) c.self.view_is in
    Takes-settled _ _ _ _ c.args.self.now c.settle.new.self (act.Command c.args.t.now) c.args.written (outcome c.in_ok-outcome.outcome) (command_outcome c.args.self.now c.args.t.now) c.settle.result same refl (λ given. refl) (λ given. refl) refl
    c.settle.ensures.reply c.settle.ensures.ok c.settle.ensures.err c.settle.ensures.keeps
