use Rattle.std.proofs.Common.{sym, subst}
use Rattle.recovery_turns.proofs.Prelude.{IsRoomy, Recovery}
use Rattle.recovery_turns.proofs.Rooms.{roomy_after}
use Rattle.recovery_turns.proofs.recovery.RecoveryJob.go_ahead.Goals as goal

pub progress-requires-clause-room : goal.progress-requires-clause-room
progress-requires-clause-room c =
    subst (λ (x : Recovery). IsRoomy 1 x) (sym c.go_on.ensures) (roomy_after c.args.self.now c.in-Some-Follow.act c.requires.room)
