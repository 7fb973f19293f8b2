use Rattle.recovery_covers.proofs.Staying.{taken-aim}
use Rattle.recovery_covers.proofs.aims.replicas_stay.Goals as goal

pub returns : goal.returns
returns c = taken-aim
