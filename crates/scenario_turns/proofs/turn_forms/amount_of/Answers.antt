use Rattle.std.proofs.Common.{◌≡◌, arith, rules}
use Rattle.scenario_turns.proofs.Prelude.{number-ok, number_in, under-ok, view}
use Rattle.scenario_turns.proofs.turn_forms.amount_of.Goals as goal

pub overflow_cast-result : goal.overflow_cast-result
overflow_cast-result c =
    let most : c.from.result ≡ c.args.most = search rules in
    let bounds = number-ok 1 c.from.result (view c.in_ok-server.amount.now) c.in_ok-amount.amount (under-ok _ (number_in 1 c.from.result (view c.in_ok-server.amount.now)) c.in_ok-amount.amount c.in_ok-amount.ensures) in
    omega (arith, bounds.1, most)
