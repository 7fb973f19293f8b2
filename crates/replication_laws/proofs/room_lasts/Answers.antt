use Rattle.replication_laws.proofs.Files.{not_full-files}
use Rattle.replication_laws.proofs.Rooms.{not_full-run}
use Rattle.replication_laws.proofs.room_lasts.Goals as goal

pub returns-clause-histories : goal.returns-clause-histories
returns-clause-histories c = λ room total w es k e fit safe allowed joins more at quiet. not_full-run room es k e total w fit safe allowed joins more at quiet

pub returns-clause-files : goal.returns-clause-files
returns-clause-files c = λ w es k n has h. not_full-files es k n w has h
