use Rattle.std.proofs.Common.{◌≡◌, ◌+◌, ◌≤◌, ℕ, List, ap, sym, subst, ◌∙◌, arith, count_by}
use Rattle.scenarios.proofs.Prelude.{Turn, flushes_of, is_rotate, longest_flushes}
use Rattle.scenarios.proofs.Rooms.{flushes_of-few}
use Rattle.scenarios.proofs.scenario.Scenario.flushes.Goals as goal

pub returns-clause-flushes : goal.returns-clause-flushes
returns-clause-flushes c =
    let points = c.longest_flushes.ensures ∙ ap longest_flushes c.servers.ensures.value in
    let rotations = c.rotations.ensures.value ∙ ap (λ (ts : List Turn). count_by is_rotate ts) c.as_slice.ensures in
    ap (λ (n : ℕ). n + c.rotations.result) points
    ∙ ap (λ (n : ℕ). longest_flushes c.args.self.now.opening.servers + n) rotations

pub returns-clause-within : goal.returns-clause-within
returns-clause-within c = subst (λ (n : ℕ). n ≤ 4000000) (sym (returns-clause-flushes c)) (flushes_of-few c.args.self.now c.requires)

pub overflow_add-result : goal.overflow_add-result
overflow_add-result c =
    let points = c.longest_flushes.ensures ∙ ap longest_flushes c.servers.ensures.value in
    let rotations = c.rotations.ensures.value ∙ ap (λ (ts : List Turn). count_by is_rotate ts) c.as_slice.ensures in
    let sum : c.longest_flushes.result + c.rotations.result ≡ flushes_of c.args.self.now =
    ap (λ (n : ℕ). n + c.rotations.result) points
    ∙ ap (λ (n : ℕ). longest_flushes c.args.self.now.opening.servers + n) rotations in
    let few = flushes_of-few c.args.self.now c.requires in
    omega arith
