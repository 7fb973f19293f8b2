use Rattle.std.proofs.Common.{◌≡◌, ◌∙◌, ℕ, List, length, map, ap, sym, subst}
use Rattle.live_desk.proofs.Prelude.{DeskState, IsDue, Reply, Turn, desk_of, turns_in}
use Rattle.live_desk.proofs.Entries.{turns-pairs}
use Rattle.live_desk.proofs.desk.Desk.due.Goals as goal

pub returns : goal.returns
returns c =
    let d : DeskState = desk_of c.self.inside in
    let is = c.self.invariant.desk in
    let turns : map (λ (p : Turn × Reply). p.0) d.run.journal ≡ turns_in d.entries = sym (turns-pairs d.entries ∙ ap (map (λ (p : Turn × Reply). p.0)) is.journal) in
    subst (λ (e : DeskState). IsDue (length e.scenario.opening.servers) (turns_in e.entries) c.due.result.0) c.self.view_is
    (subst (λ (ts : List Turn). IsDue (length d.scenario.opening.servers) ts c.due.result.0) turns
    (subst (λ (n : ℕ). IsDue n (map (λ (p : Turn × Reply). p.0) d.run.journal) c.due.result.0) is.servers c.due.ensures))
