-- What refuses a try, and what may begin if nothing does.
pub use Rattle.std.proofs.lemmas.Result.{on_ok_weaker as on-ok}
use Rattle.std.proofs.Common.{◌≡◌, ℕ, ◌<◌, ◌≤◌, Bool, List, length, refl, sym, ◌∙◌, ap, subst, Option, Some, None, Result, Ok, Err, All, slice_index_or}
use Rattle.recovery_core.proofs.Prelude.{Action, All-push, Attempt, AuditState, Begins, BookState, Code, Entry, Gives, HasRoom, Held, Kind, MayBegin}
use Rattle.recovery_core.proofs.Prelude.{PermitFault, Recovery as KeptRecovery, Refusal, ServerNo, Staged, World, action_of, after_try, apart-begins}
use Rattle.recovery_core.proofs.Prelude.{busy_by, code_at, cons-within, entry_of, first_about, held_back, held_by, held_off, label_at, longest_block}
use Rattle.recovery_core.proofs.Prelude.{may_begin, neither, option_or, permit_fault, permitted, recovery_list, recovery_refusal, refusal_by}
use Rattle.recovery_core.proofs.Prelude.{refusal_for, replicas-within, replicas_of, takeover_refusal, unasked, unless_refused}
use Rattle.recovery_core.proofs.Prelude.action
use Rattle.recovery_core.proofs.Prelude.permitfault as fault

-- a permit that is refused, or wants memory, is a try that is or does
pub refused-try : (o : Option Refusal) (x : Begins) (e : PermitFault) → Gives {X = Unit {0}} {Y = Unit {0}} (λ _. tt) permit_fault (Err e) (permitted o)
    → Gives {X = Begins} {Y = Begins} (λ y. y) permit_fault (Err e) (unless_refused o x)
refused-try o x fault.Memory h = tt
refused-try None x (fault.Refused r) h = cc
refused-try (Some s) x (fault.Refused r) h = cc

-- ---- on leases that a scan has taken

module _ (w : World) (b : BookState) (a : Attempt) (leases : List (Option ℕ)) (audit : AuditState) (f : ServerNo) (code : Code) (at : code_at b f ≡ Some code) where
  abbrev there : BookState
  there = record b { leases = leases }

  abbrev first_lease : Option Refusal
  first_lease = first_about (λ (n : ServerNo). busy_by n (slice_index_or leases n.0 None)) (recovery_list b f)

  by-lease : (o : Option Refusal) → first_lease ≡ o → recovery_refusal w there audit a f ≡ option_or (option_or o None) (refusal_for w b audit a f code (action_of code))
  by-lease o e = ap (refusal_by w there audit a f) at ∙ ap (λ x. option_or (option_or x None) (refusal_for w b audit a f code (action_of code))) e

  pub refused-busy : (r : Refusal) → first_lease ≡ Some r → Some r ≡ recovery_refusal w there audit a f
  refused-busy r e = sym (by-lease (Some r) e)

  pub refused-else : first_lease ≡ None → refusal_for w b audit a f code (action_of code) ≡ recovery_refusal w there audit a f
  refused-else e = sym (by-lease None e)

-- ---- the audit of what begins

module _ (b : BookState) (audit : AuditState) (a : Attempt) (f : ServerNo) where
  -- the answer of the audit
  abbrev answer : Result ℕ Held
  answer = may_begin audit (label_at b f) a.now.0

  abbrev Answers : Type 0
  Answers = may_begin audit (label_at b f) a.now.0 ≡ Ok audit.next

  pub unheld : held_back b audit a f ≡ None → Answers
  unheld h = go answer refl h
    where
      go : (r : Result ℕ Held) → answer ≡ r → held_by r ≡ None → answer ≡ Ok audit.next
      go (Ok id) e h = e ∙ ap (λ n. Ok n) (apart-begins (label_at b f) a.now.0 audit id e).0
      go (Err x) e h = cc

  unheld-off : (passes : Bool) → held_off b audit a f passes ≡ None → Answers
  unheld-off passes h = unheld (neither (unasked b a f passes) (held_back b audit a f) h).1

  module _ (w : World) where
    unheld-for : (code : Code) (what : Action) → refusal_for w b audit a f code what ≡ None → Answers
    unheld-for code action.Nothing h = cc
    unheld-for code action.MasterRecovery h = unheld-off a.by_master (neither _ _ h).0
    unheld-for code action.IntermediateRecovery h = unheld-off a.by_intermediate (neither _ _ h).0

    unheld-by : (o : Option Code) → refusal_by w b audit a f o ≡ None → Answers
    unheld-by None h = cc
    unheld-by (Some code) h = unheld-for code (action_of code) (neither _ _ h).1

    -- a recovery that isn't refused may begin
    pub recovery-may : recovery_refusal w b audit a f ≡ None → Answers
    recovery-may h = unheld-by (code_at b f) h

    -- so may a takeover
    pub takeover-may : (d : ServerNo) → takeover_refusal w b audit a f d ≡ None → Answers
    takeover-may d h = unheld (neither _ _ (neither _ _ (neither _ _ h).1).1).0

-- ---- what a scan keeps

pub list-within : (b : BookState) (f : ServerNo) → f.0 < length b.names → All (λ (n : ServerNo). n.0 < length b.names) (recovery_list b f)
list-within b f within = cons-within b f (replicas_of b f) within (replicas-within b f)

pub room-kept : (old new : Staged) (e : Entry) (x : Begins) → x.entry.id < 18446744073709551615 → new ≡ after_try old e (Ok x) → HasRoom old.begun → HasRoom new.begun
room-kept old new e x small is room =
    subst (λ (s : Staged). HasRoom s.begun) (sym is) (All-push (λ (y : Begins). y.entry.id < 18446744073709551615) old.begun x room small)

-- ---- an entry that begins

pub entry-may : (b : BookState) (audit : AuditState) (a : Attempt) (what : Kind) (f : ServerNo) (r : KeptRecovery) → may_begin audit (label_at b f) a.now.0 ≡ Ok audit.next
    → a.block ≤ longest_block → r ≡ entry_of b audit a.now a.block what f → MayBegin audit r
entry-may b audit a what f r free short is = subst (MayBegin audit) (sym is) (record { answered = free; short = short })

pub none-there : {A : Type 0} (o : Option A) → ((x : A) → o ≡ Some x → ⊥) → o ≡ None
none-there None never = refl
none-there (Some x) never = absurd (never x refl)

-- what isn't refused begins
pub passed-try : (o : Option Refusal) (x y : Begins) → permitted o ≡ Ok tt → y ≡ x → unless_refused o x ≡ Ok y
passed-try None x y e same = ap (λ (z : Begins). let made : Result Begins Refusal = Ok z in made) (sym same)
passed-try (Some r) x y e same = cc
