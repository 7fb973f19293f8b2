use Rattle.instance_keeper.proofs.HadRows.{told_instance}
use Rattle.instance_keeper.proofs.had.same_instance.Goals as goal

pub returns : goal.returns
returns c = told_instance c.args.kept.now c.args.instance.now c.is_same.result c.is_same.ensures
