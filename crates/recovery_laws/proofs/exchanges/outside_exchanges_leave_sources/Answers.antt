use Rattle.recovery_laws.proofs.Standing.{outside-stays}
use Rattle.recovery_laws.proofs.exchanges.outside_exchanges_leave_sources.Goals as goal

pub returns : goal.returns
returns c w e n h = outside-stays w e h n
