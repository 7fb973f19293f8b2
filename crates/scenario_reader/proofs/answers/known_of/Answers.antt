use Rattle.std.proofs.Common.{subst, sym, All}
use Rattle.scenario_reader.specs.AliasTable.{alias_at, AreUnjudged, IsAnswer}
use Rattle.scenario_reader.proofs.AliasTables.{judged-answers}
use Rattle.scenario_reader.proofs.answers.known_of.Goals as goal

pub returns : goal.returns
returns c =
    let alias = alias_at c.args.aliases.now in
    let unjudged = subst (AreUnjudged alias) (sym c.as_mut_slice-judged.ensures.value) c.in_ok-clusters.ensures in
    c.in_ok-known.ensures alias c.args.filters.now
    (subst (All (IsAnswer alias c.args.filters.now)) (sym c.in_ok-judge.ensures) (judged-answers alias c.args.filters.now _ unjudged))
