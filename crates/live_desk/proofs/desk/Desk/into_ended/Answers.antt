use Rattle.std.proofs.Common.{◌≡◌, ◌∙◌, ℕ, List, length, sym, ap, subst}
use Rattle.live_desk.proofs.Prelude.{Entry, Held, IsLive, Recorded, Row, RunsOn, entries_of, held_of, rows_after, state_after}
use Rattle.live_desk.proofs.Ends.{ended-run, live-end}
use Rattle.live_desk.proofs.desk.Desk.into_ended.Goals as goal

-- the state to which the caller's last turns led
abbrev last : goal.After-drop-rows-inside-2 → Held Recorded
last c = record { rows = c.finish_jobs.new.rows; state = c.finish_jobs.new.orch }

on : (c : goal.After-drop-rows-inside-2) → RunsOn (held_of c.args.self) (last c)
on c =
    let d = c.args.self in
    let parts = c.into_parts-orch.ensures in
    let held : record { rows = c.into_parts-orch.result.1; state = c.into_parts-orch.result.0 } ≡ held_of d =
    ap (λ (rows : List Row). record { rows = rows; state = c.into_parts-orch.result.0 }) parts.rows ∙ ap (λ (r : Recorded). record { rows = d.rows; state = r }) parts.orch in
    subst (λ (h : Held Recorded). RunsOn h (last c)) held c.in_ok-finish_jobs.ensures.ran

long : (c : goal.After-drop-rows-inside-2) → length c.into_parts-orch.result.2.items ≡ length c.args.self.run.journal
long c = c.into_parts-orch.ensures.numbers ∙ ap (λ (r : Recorded). length r.journal) c.into_parts-orch.ensures.orch

before : (c : goal.After-drop-rows-inside-2) → c.args.self.entries ≡ entries_of c.into_parts-orch.result.2.items c.args.self.run.journal
before c = c.into_parts-orch.ensures.entries ∙ ap (λ (r : Recorded). entries_of c.into_parts-orch.result.2.items r.journal) c.into_parts-orch.ensures.orch

entries : (c : goal.After-drop-rows-inside-2) → c.in_ok-entries.entries.items ≡ entries_of c.into_parts-orch.result.2.items c.finish_jobs.new.orch.journal
entries c = c.in_ok-entries.ensures ∙ ap (λ (xs : List ℕ). entries_of xs c.into_parts-engine.result.1.items) c.deref.ensures.value ∙ ap (entries_of c.into_parts-orch.result.2.items) c.into_parts-engine.ensures.journal

pub returns-clause-live : goal.returns-clause-live
returns-clause-live c =
    subst (IsLive c.args.self.scenario c.args.self.wait) (sym (entries c))
    (live-end c.args.self c.into_parts-orch.result.2.items (last c) c.into_parts-orch.ensures.desk c.requires.commands c.requires.listed (before c) (long c) (on c) c.in_ok-finish_jobs.ensures.ended)

pub returns-clause-rows : goal.returns-clause-rows
returns-clause-rows c =
    c.in_ok-kept.ensures ∙ sym (ap (λ (es : List Entry). rows_after c.args.self.scenario c.args.self.wait es) (entries c)
    ∙ ap (λ (h : Held Recorded). h.rows) (ended-run c.args.self c.into_parts-orch.result.2.items (last c) c.into_parts-orch.ensures.desk (before c) (long c) (on c)))

pub returns-clause-state : goal.returns-clause-state
returns-clause-state c =
    c.into_parts-engine.ensures.state ∙ sym (ap (λ (es : List Entry). state_after c.args.self.scenario c.args.self.wait es) (entries c)
    ∙ ap (λ (h : Held Recorded). h.state.state) (ended-run c.args.self c.into_parts-orch.result.2.items (last c) c.into_parts-orch.ensures.desk (before c) (long c) (on c)))
