-- The parts of a recovery's job after an operation.
use Rattle.std.proofs.Common.{◌≡◌, ◌+◌, List, sym, ◌∙◌, ap}
use Rattle.recovery_turns.proofs.Prelude.{JobParts, Op, core_of, drop-drop, next, rest_of}

-- the operation that was due is done
pub passed : (c d : JobParts) → d ≡ record c { done = c.done + 1; waited = 0 } → core_of d ≡ next (core_of c) (rest_of (core_of c))
passed c d is =
    ap core_of is ∙ ap (λ (xs : List Op). record (core_of c) { ops = xs; waited = 0 }) (sym (drop-drop 1 c.done c.ops.items))
