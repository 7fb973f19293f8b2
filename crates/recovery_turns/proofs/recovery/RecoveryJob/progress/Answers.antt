use Rattle.std.proofs.Common.{◌≡◌, ◌-◌, ◌<◌, drop, length, length-drop, sym, ap, subst, ◌∙◌, arith}
use Rattle.recovery_turns.proofs.Prelude.{IsRoomy, IsTold, Recovery, info, made_told, progressed_by, stepped_by}
use Rattle.recovery_turns.proofs.Prelude.table
use Rattle.recovery_turns.proofs.Rooms.{roomy_stepped}
use Rattle.recovery_turns.proofs.Stepped.{opened-told, stays}
use Rattle.recovery_turns.proofs.recovery.RecoveryJob.progress.Goals as goal

pub complete-requires-clause-room : goal.complete-requires-clause-room
complete-requires-clause-room c = subst (λ (x : Recovery). IsRoomy 1 x) (sym c.step.ensures) (roomy_stepped c.args.self.now c.args.ending c.requires.room)

pub complete-requires-clause-told : goal.complete-requires-clause-told
complete-requires-clause-told c = λ n is.
    let at : (info (stepped_by c.args.self.now c.args.ending).stage).made ≡ table.Opened n =
    ap (λ (x : Recovery). (info x.stage).made) (sym c.step.ensures)
    ∙ subst (λ (x : Recovery). (info x.stage).made ≡ table.Opened n) c.self.view_is (sym c.info_of-made.ensures.made ∙ ap made_told is) in
    subst (λ (x : Recovery). IsTold x c.args.lines) (sym c.step.ensures) (opened-told c.args.self.now c.args.ending c.args.lines c.requires.told n at)

pub returns-else-self-len : goal.returns-else-self-len
returns-else-self-len c =
    let a = c.self.inside in
    let long : length (drop a.core.done a.core.ops.items) ≡ length a.core.ops.items - a.core.done = length-drop a.core.done a.core.ops.items in
    let due : 0 < length (drop a.core.done a.core.ops.items) = omega arith in
    stays c.args.self.now c.step.new.self c.args.ending c.step.ensures (subst (λ (x : Recovery). 0 < length x.core.ops) c.self.view_is due)
    ∙ ap (progressed_by c.args.self.now c.args.ending) (sym c.if-waiting.false)
