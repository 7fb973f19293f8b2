-- Causes of several calls of a row store, one after the other.
use Rattle.std.proofs.Common.{◌≡◌, ℕ, ◌≤◌, Result, Ok, Err, ap, subst, arith}
use Rattle.command_outcomes.specs.OrchBase.Causes.{Rose}
use Rattle.knowledge.specs.Faults.{HasTurnCause}
use Rattle.knowledge.specs.declared.fault.TurnFault.{TurnFault}
use Rattle.knowledge.specs.declared.fault.TurnFault.TheVariants as fault

-- all went well
pub cause-fine : {A : Type 0} (before now : ℕ) (x : A) → before ≤ now → HasTurnCause {A = A} before now (Ok x)
cause-fine before now x later = record { later = later; failed = λ k. absurd cc }

-- memory ran out after a call
pub cause-stays : {A : Type 0} (before now : ℕ) → before ≤ now → HasTurnCause {A = A} before now (Err fault.Memory)
cause-stays before now later = record { later = later; failed = λ k. absurd cc }

-- a fault that is handed on has the cause that it had
pub cause-later : {A B : Type 0} (before mid now : ℕ) (e : TurnFault) → before ≤ mid → HasTurnCause {A = B} mid now (Err e) → HasTurnCause {A = A} before now (Err e)
cause-later before mid now e later h = record {
  later = let on = h.later in omega (arith, later, on);
  failed = λ k.
      let same : e ≡ fault.Keeper = cc in
      let rose : Rose mid now = h.failed (ap Err same) in
      omega (arith, later, rose);
}

pub cause-carried : {A B : Type 0} (before mid now : ℕ) (r : Result B TurnFault) (e : TurnFault) → before ≤ mid → r ≡ Err e → HasTurnCause mid now r → HasTurnCause {A = A} before now (Err e)
cause-carried {A} {B} before mid now r e later was h = cause-later before mid now e later (subst (HasTurnCause {A = B} mid now) was h)

-- an answer of either kind
pub cause-behind : {A : Type 0} (before mid now : ℕ) (r : Result A TurnFault) → before ≤ mid → HasTurnCause mid now r → HasTurnCause before now r
cause-behind before mid now (Ok x) later h = cause-fine before now x (let on = h.later in omega (arith, later, on))
cause-behind before mid now (Err e) later h = cause-later before mid now e later h
