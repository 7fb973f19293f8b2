use Rattle.name_order.proofs.ByName.{length-by_name, IsOrder-by_name, IsRising-by_name}
use Rattle.name_order.proofs.laws.servers_stand_in_name_order.Goals as goal

pub returns : goal.returns
returns c = record {
  count = length-by_name;
  once = IsOrder-by_name;
  rising = IsRising-by_name;
}
