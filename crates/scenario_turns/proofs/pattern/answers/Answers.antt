use Rattle.std.proofs.Common.{◌≡◌, ◌∙◌, refl}
use Rattle.scenario_turns.proofs.Prelude.{is_found, map_more}
use Rattle.scenario_turns.proofs.pattern.answers.Goals as goal

pub loop-name-preserved : goal.loop-name-preserved
loop-name-preserved c =
    let pattern = c.args.pattern.now in
    let name = c.name-item.result in
    let same : c.loop-name.search ≡ pattern = c.loop-name.invariant.0 in
    let told : c.found.result ≡ is_found pattern name = rw (← same, ← c.as_str.ensures) c.found.ensures.found in (
      c.found.ensures.same ∙ same,
      c.in_ok-push.ensures.items ∙ rw (map_more (is_found pattern) c.args.printed.now c.loop-name.name-index name c.loop-name-test.true, ← c.name-item.is, told, c.loop-name.invariant.1) refl,
    )
