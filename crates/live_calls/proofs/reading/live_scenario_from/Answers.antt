use Rattle.std.proofs.Common.{Err, subst, sym}
use Rattle.live_calls.proofs.Prelude.{ReadsAs, Stop, err_from_is_err_and, lifted, live_scenario}
use Rattle.live_calls.proofs.LiveScenarios.{one_read, several_read, stays_read}
use Rattle.live_calls.proofs.reading.live_scenario_from.Goals as goal

pub returns-in_err-scenario-clause-read : goal.returns-in_err-scenario-clause-read
returns-in_err-scenario-clause-read g c =
    let p = err_from_is_err_and c.from_residual.result c.from_residual.ensures.1 in
    rw (p.1, p.2) (lifted (g.S.Source.left c.args.source.now) _ _ (λ bytes r. stays_read bytes c.in_err-scenario.field-0.0 r) c.in_err-scenario.ensures.read)

pub returns-in-Ok-clause-read : goal.returns-in-Ok-clause-read
returns-in-Ok-clause-read g c = lifted (g.S.Source.left c.args.source.now) _ _ (λ bytes r. one_read bytes c.in_ok-scenario.scenario r c.in-Ok.ensures) c.in_ok-scenario.ensures.read

pub returns-in-Err-clause-read : goal.returns-in-Err-clause-read
returns-in-Err-clause-read g c =
    lifted (g.S.Source.left c.args.source.now) _ _
    (λ bytes r. subst (λ (x : Stop). ReadsAs (live_scenario bytes) (Err x)) (sym c.stop_by.ensures) (several_read bytes c.in_ok-scenario.scenario r c.in-Err.fault c.in-Err.ensures)) c.in_ok-scenario.ensures.read
