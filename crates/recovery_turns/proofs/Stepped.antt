-- A recovery whose stage goes on.
use Rattle.std.proofs.Common.{◌≡◌, ◌<◌, Bool, true, false, List, [], ◌∷◌, length, Option, Some, None, refl, sym, ap, subst, ◌∙◌, arith}
use Rattle.recovery_turns.proofs.Prelude.{IsTold, LastLines, Op, Recovery, ServerNo, Stage, at_end, entered, info, moved, progressed_by, stepped_by}
use Rattle.recovery_turns.proofs.Prelude.stage
use Rattle.recovery_turns.proofs.Prelude.table

stays-due : (r : Recovery) (ops : List Op) → 0 < length ops → r ≡ at_end r ops
stays-due r [] due = absurd (omega (arith, due))
stays-due r (o ∷ ops) due = refl

-- while an operation is left
pub stays : (r s : Recovery) (ending : Bool) → s ≡ stepped_by r ending → 0 < length s.core.ops → s ≡ progressed_by r ending false
stays r s ending is due = is ∙ stays-due (stepped_by r ending) (stepped_by r ending).core.ops (subst (λ (x : Recovery). 0 < length x.core.ops) is due)

-- ---- the lines that are given then

opened-at : (s : Stage) (n : ServerNo) → (info s).made ≡ table.Opened n → s ≡ stage.Opened n
opened-at (stage.Opened m) n h = cc
opened-at s n h = cc

told-on : (r : Recovery) (s : Stage) (o : Option LastLines) → IsTold r o → IsTold (record r { stage = s }) o
told-on r s None h = h
told-on r s (Some l) h = h

-- if the new source takes writes at the end of the stage that begins
pub opened-told : (r : Recovery) (ending : Bool) (o : Option LastLines) → ((n : ServerNo) → moved r.stage ≡ stage.Opened n → IsTold r o)
    → (n : ServerNo) → (info (stepped_by r ending).stage).made ≡ table.Opened n → IsTold (stepped_by r ending) o
opened-told r false o told n is = told n (ap moved (opened-at r.stage n is))
opened-told r true o told n is =
    let at = opened-at (moved r.stage) n is in
    subst (λ (s : Stage). IsTold (entered r s) o) (sym at) (told-on r (stage.Opened n) o (told n at))
