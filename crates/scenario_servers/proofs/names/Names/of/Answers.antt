use Rattle.std.proofs.Common.{◌≡◌, ◌∙◌, ◌++◌, ◌∷◌, [], rules, ap, option_map}
use Rattle.scenario_servers.proofs.NameTables.{next_listed}
use Rattle.scenario_servers.proofs.Prelude.{AddsName, number_of_name}
use Rattle.scenario_servers.proofs.TextTables.{next_texts}
use Rattle.scenario_servers.proofs.names.Names.of.Goals as goal

pub loop-value-preserved : goal.loop-value-preserved
loop-value-preserved c =
    let listed = c.loop-value.listed.items in
    let after = c.push.new.self.items in
    let numbers = c.add_name.new.numbers in
    let name = option_map (λ n. n.now) c.as_ref.result in
    let text = option_map (λ t. t.now) c.listed_text-text.result in
    let pushed : after ≡ listed ++ c.in_ok-name.name ∷ [] = search rules in
    let same : name ≡ c.in_ok-name.name = search rules in
    let adds : AddsName c.loop-value.numbers numbers name c.len.result c.in_ok-first.first = search rules in
    let listed-on = next_listed c.args.items.now c.loop-value.value-index c.value-item.result c.in_ok-name.name name c.len.result c.in_ok-first.first listed after c.loop-value.numbers numbers
    pushed (search rules) c.value-item.is (search rules) same (search rules) adds c.loop-value.invariant.0 in (
      listed-on,
      next_texts c.loop-value.texts c.add_text.new.texts numbers listed after text c.in_ok-name.name c.in_ok-first.first pushed (search rules) (adds.answer ∙ ap (number_of_name numbers) same) listed-on.tabled (search rules) c.loop-value.invariant.1,
    )
