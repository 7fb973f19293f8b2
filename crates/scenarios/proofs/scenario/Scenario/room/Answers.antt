use Rattle.std.proofs.Common.{◌+◌, ◌≤◌, ℕ, List, ap, sym, subst, ◌∙◌, count_by}
use Rattle.scenarios.proofs.Prelude.{Turn, is_write, listed_in}
use Rattle.scenarios.proofs.Rooms.{room_of-few}
use Rattle.scenarios.proofs.scenario.Scenario.room.Goals as goal

pub returns-clause-room : goal.returns-clause-room
returns-clause-room c =
    let listed = c.listed.ensures ∙ ap listed_in c.servers.ensures.value in
    let writes = c.writes.ensures ∙ ap (λ (ts : List Turn). count_by is_write ts) c.as_slice.ensures in
    ap (λ (n : ℕ). n + c.writes.result) listed
    ∙ ap (λ (n : ℕ). listed_in c.args.self.now.opening.servers + n) writes

pub returns-clause-within : goal.returns-clause-within
returns-clause-within c = subst (λ (n : ℕ). n ≤ 4000000) (sym (returns-clause-room c)) (room_of-few c.args.self.now c.requires)
