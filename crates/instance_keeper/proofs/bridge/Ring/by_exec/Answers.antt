use Rattle.std.proofs.Common.{◌≡◌, ◌<◌, ◌+◌, ℕ, Option, length, take, ap, ◌∙◌, rules, suc, arith, slice_get}
use Rattle.instance_keeper.proofs.Prelude.{Bridge, has_exec, latest_that, over}
use Rattle.instance_keeper.proofs.Ringed.{latest_more}
use Rattle.instance_keeper.proofs.bridge.Ring.by_exec.Goals as goal

pub loop-k-preserved : goal.loop-k-preserved
loop-k-preserved c =
    let passes = has_exec c.args.source c.args.exec in
    let ring = c.args.self.now in
    let k = c.loop-k.k in
    let at : c.copied.result ≡ slice_get ring k = search rules in
    let within : k < length ring = omega (arith, c.loop-k-test.true, c.len-k-end.ensures.len, ap length c.self.view_is) in
    let next : suc k ≡ k + 1 = omega arith in
    c.exec_over-found.ensures
    ∙ ap (λ (found : Option Bridge). over passes found c.copied.result) c.loop-k.invariant
    ∙ ap (over passes (latest_that passes (take k ring))) at
    ∙ latest_more passes ring k within
    ∙ ap (λ (n : ℕ). latest_that passes (take n ring)) next
