use Rattle.scenario_values.proofs.Prelude.{false≢true}
use Rattle.scenario_values.proofs.Texts.{uuid_none}
use Rattle.scenario_values.proofs.value.uuid_or_fails.Goals as goal

pub returns-in-Err : goal.returns-in-Err
returns-in-Err c =
    rw c.fails-in-Err.ensures (uuid_none c.args.text.now c.if-text-ne36.false (λ u e. false≢true (c.in-Err.ensures.ok.1 (u, e))))
