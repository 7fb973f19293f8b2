use Rattle.binlog_coords.proofs.Colons.{split_divides, halves_are}
use Rattle.binlog_coords.proofs.text.halves.Goals as goal

pub returns : goal.returns
returns c = halves_are c.args.text.now c.rsplit_once.result (split_divides c.args.text.now c.rsplit_once.result c.rsplit_once.ensures.cases)
