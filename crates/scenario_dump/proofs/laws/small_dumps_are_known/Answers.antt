use Rattle.std.proofs.Common.{refl}
use Rattle.scenario_dump.proofs.Prelude.{by_index, digits, dump_data, dump_text, escape_byte, flush_points, init_of, opening_of, parts_of}
use Rattle.scenario_dump.proofs.Prelude.{server_data}
use Rattle.scenario_dump.proofs.laws.small_dumps_are_known.Goals as goal

pub returns : goal.returns
unfolding by_index digits dump_data dump_text escape_byte flush_points init_of opening_of parts_of server_data
returns c = record {
  one = refl;
  two = refl;
}
