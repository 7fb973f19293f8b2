use Rattle.std.proofs.Common.{◌≡◌, ℕ, subst, IfOk}
use Rattle.live_desk.proofs.Prelude.{Scenario, rows_after, state_after}
use Rattle.live_desk.proofs.live_run.live_to_end.Goals as goal

pub returns-clause-rows : goal.returns-clause-rows
returns-clause-rows g c =
    let here = subst (λ (s : Scenario). IfOk c.finish.result (λ e. e.rows.items ≡ rows_after s c.in_ok-desk.desk.wait e.journal.entries.items)) c.in_ok-desk.ensures.scenario c.finish.ensures.rows in
    subst (λ (w : ℕ). IfOk c.finish.result (λ e. e.rows.items ≡ rows_after c.args.s.now w e.journal.entries.items)) c.in_ok-desk.ensures.wait here

pub returns-clause-state : goal.returns-clause-state
returns-clause-state g c =
    let here = subst (λ (s : Scenario). IfOk c.finish.result (λ e. e.engine ≡ state_after s c.in_ok-desk.desk.wait e.journal.entries.items)) c.in_ok-desk.ensures.scenario c.finish.ensures.state in
    subst (λ (w : ℕ). IfOk c.finish.result (λ e. e.engine ≡ state_after c.args.s.now w e.journal.entries.items)) c.in_ok-desk.ensures.wait here
