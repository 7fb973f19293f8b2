use Rattle.move_laws.proofs.Blocking.{last-block}
use Rattle.move_laws.proofs.last_kept.last_blocks_are_told.Goals as goal

pub returns : goal.returns
returns c a cluster now id until = last-block cluster now a id until
