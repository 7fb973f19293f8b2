use Rattle.instance_keeper.proofs.InstanceRows.{instance_row}
use Rattle.instance_keeper.proofs.laws.instances_are_rows.Goals as goal

pub returns : goal.returns
returns c = instance_row
