use Rattle.std.proofs.Common.{refl}
use Rattle.scenario_generator.proofs.Prelude.{below, digits, drawn_data, escape_byte, next, scenario_text, server_name, servers_from, turns_from}
use Rattle.scenario_generator.proofs.laws.small_scenarios_are_known.Goals as goal

pub returns : goal.returns
unfolding below digits drawn_data escape_byte next scenario_text server_name servers_from turns_from
returns c = record {
  one = refl;
  two = refl;
  five = refl;
}
