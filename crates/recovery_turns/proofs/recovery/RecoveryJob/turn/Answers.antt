use Rattle.std.proofs.Common.{◌<◌, length, sym, subst}
use Rattle.recovery_turns.proofs.Prelude.{Fits, IsRoomy, Recovery, RecoveryLook, room_for}
use Rattle.recovery_turns.proofs.Rooms.{hands_decided, matches_decided, roomy_decided}
use Rattle.recovery_turns.proofs.recovery.RecoveryJob.turn.Goals as goal

pub go_ahead-requires-clause-room : goal.go_ahead-requires-clause-room
go_ahead-requires-clause-room c =
    let fits = subst (λ (l : RecoveryLook). Fits c.args.self.now l.decided) (sym c.into_look-step.ensures) c.requires.fits in
    subst (λ (x : Recovery). IsRoomy 2 x) (sym c.adopt.ensures) (roomy_decided c.args.self.now c.into_look-step.result.decided fits)

pub go_ahead-requires-clause-hands : goal.go_ahead-requires-clause-hands
go_ahead-requires-clause-hands c =
    let fits = subst (λ (l : RecoveryLook). Fits c.args.self.now l.decided) (sym c.into_look-step.ensures) c.requires.fits in
    subst (λ (x : Recovery). length x.core.hands < room_for x.replicas) (sym c.adopt.ensures) (hands_decided c.args.self.now c.into_look-step.result.decided fits)

pub go_ahead-requires-clause-matches : goal.go_ahead-requires-clause-matches
go_ahead-requires-clause-matches c =
    let fits = subst (λ (l : RecoveryLook). Fits c.args.self.now l.decided) (sym c.into_look-step.ensures) c.requires.fits in
    subst (λ (x : Recovery). length x.core.matches < room_for x.replicas) (sym c.adopt.ensures) (matches_decided c.args.self.now c.into_look-step.result.decided fits)
