use Rattle.read_back_laws.proofs.ScheduledTurns.{turns-read}
use Rattle.read_back_laws.proofs.scheduled.schedules_read.Goals as goal

pub returns : goal.returns
returns c = λ listed names printed ts read all. turns-read listed names printed read ts all
