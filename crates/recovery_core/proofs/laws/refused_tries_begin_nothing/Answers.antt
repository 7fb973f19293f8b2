use Rattle.std.proofs.Common.{ap}
use Rattle.recovery_core.proofs.Prelude.{after_try}
use Rattle.recovery_core.proofs.InTurn.{scan-idle}
use Rattle.recovery_core.proofs.laws.refused_tries_begin_nothing.Goals as goal

pub returns-clause-refused : goal.returns-clause-refused
returns-clause-refused c w b a wait s e why h = ap (after_try s e) h

pub returns-clause-idle : goal.returns-clause-idle
returns-clause-idle c w b audit by wait last = scan-idle w b by wait audit last
