use Rattle.std.proofs.Common.{◌≤◌, ℕ, ap, sym, subst, arith, length, All}
use Rattle.openings.proofs.Prelude.{Index}
use Rattle.openings.proofs.Laid.{good-points}
use Rattle.openings.proofs.logs.laid_history.Goals as goal

pub lay-requires-clause-rises : goal.lay-requires-clause-rises
lay-requires-clause-rises c = rw c.as_slice.ensures (good-points c.args.init.now c.requires.points).0

pub returns-clause-flushes : goal.returns-clause-flushes
returns-clause-flushes c = λ counts.
    let init = c.args.init.now in
    let all : All (λ k. k ≤ length c.args.history.now) init.flushes = subst (λ (n : ℕ). All (λ k. k ≤ n) init.flushes) counts (good-points init c.requires.points).1 in
    let left = c.lay.ensures.flushes (subst (All (λ k. k ≤ length c.args.history.now)) (sym c.as_slice.ensures) all) in
    let size = ap length c.as_slice.ensures in
    let before = ap (λ (l : Index). l.flushes) c.in_ok-log.ensures in
    omega (arith, left, size, before, c.requires.left)
