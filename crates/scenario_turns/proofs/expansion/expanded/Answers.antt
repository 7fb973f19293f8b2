use Rattle.std.proofs.Common.{◌<◌, ◌++◌, ◌∙◌, length, sym, rules}
use Rattle.scenario_turns.proofs.Prelude.{YieldsList-from_vec, YieldsList-so_far, YieldsList-turn, expanded, expansion_of, map-id}
use Rattle.scenario_turns.proofs.Expansions.{too_many}
use Rattle.scenario_turns.proofs.expansion.expanded.Goals as goal

pub returns-then-len-gt-MOST_TURNS-clause-turns : goal.returns-then-len-gt-MOST_TURNS-clause-turns
returns-then-len-gt-MOST_TURNS-clause-turns c =
    let ns = c.args.ordered.now in
    let listed = c.args.listed.items in
    let seen = c.loop-one.yielded in
    let one = c.in-Some.one in
    let road = YieldsList-from_vec {s = c.into_iter-one-iterator.result} listed (search rules) (search rules) in
    let front = YieldsList-so_far road seen c.loop-one.one-iterator c.loop-one.yielded_by in
    let turn = YieldsList-turn road seen c.loop-one.one-iterator c.loop-one.yielded_by c.next.result c.next.new.self one c.in-Some.is c.next.ensures.steps in
    let over : 1000000 < length (expanded ns seen ++ expansion_of ns one) = search rules in
    too_many ns listed seen one turn.0 (sym (map-id seen) ∙ front) turn.1 over
