use Rattle.std.proofs.Common.{◌≡◌, ℕ, ◌<◌, ◌∙◌, sym, Some, Option, length, arith, slice_get}
use Rattle.scenario_servers.proofs.Prelude.{reached_from-on, source_in}
use Rattle.scenario_servers.proofs.labels.root_in.Goals as goal

pub loop-preserved : goal.loop-preserved
loop-preserved c =
    let given = c.args.given.now in
    let up : ℕ → Option ℕ = λ m. source_in (slice_get given m) in
    let less : c.loop.counter < length given = omega arith in
    let some : up c.loop.at ≡ Some c.in-Some.m = sym c.in-Some.ensures in
    sym (reached_from-on up (length given) c.loop.counter c.loop.at c.in-Some.m less some) ∙ c.loop.invariant
