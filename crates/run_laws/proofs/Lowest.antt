-- What refuses a command has the lowest number of what its checks refuse.
use Rattle.std.proofs.Common.{◌≡◌, ℕ, ◌≤◌, Bool, true, false, List, [], ◌∷◌, refl, ap, Option, Some, None, arith, Any, is_some, if◌then◌else◌}
use Rattle.run_laws.proofs.Prelude.{All-cons, All-nil, Asks, Command, Coordinates, Decides, Discovers, Forgets, Gtids, IsAnswer, IsNoLower, Matches}
use Rattle.run_laws.proofs.Prelude.{Paths, Planner, Recovers, Refusal, RefusedByLowest, Route, ServerNo, State, TakesOver, busy_by, busy_given}
use Rattle.run_laws.proofs.Prelude.{by_hand, checks_by, coords-lowest, first_of, gtid-lowest, is_known, is_unknown, lease_at, match-lowest}
use Rattle.run_laws.proofs.Prelude.{numbers_of, path-lowest, plan_checks, recover_checks, recovery-lowest, recovery_refused}
use Rattle.run_laws.proofs.Prelude.{refusal_by as planned_refusal, route_of, same_Some, seen_in, status, takeover-lowest, takeover_checks_by}
use Rattle.run_laws.proofs.Prelude.{takeover_given, takeover_refused, takes_checks, unknown_in, unreached}
use Rattle.run_laws.proofs.Prelude.RefusedCommands.{refusal_by}
use Rattle.run_laws.proofs.Prelude.Refusals.{number_of}
use Rattle.run_laws.proofs.Prelude.route.{Begins}
use Rattle.run_laws.proofs.Prelude.commands_refusal as refusal

-- ---- one check, and two

any-first : (P : Option Refusal → Type 0) (x : Option Refusal) (xs : List (Option Refusal)) → P x → Any P (x ∷ xs)
any-first P x xs h = (0, x, omega arith, refl, h)

any-second : (P : Option Refusal → Type 0) (x y : Option Refusal) → P y → Any P (x ∷ y ∷ [])
any-second P x y h = (1, y, omega arith, refl, h)

-- a check refuses with no lower number than itself
itself : (r : Refusal) → IsNoLower r (Some r)
itself r s e = let n : number_of r ≡ number_of s = ap number_of (same_Some r s e) in omega (arith, n)

one-check : (x : Option Refusal) → IsAnswer (x ∷ []) x
one-check None = All-cons (λ y. y ≡ None) None [] refl (All-nil (λ y. y ≡ None))
one-check (Some r) = record {
  one = any-first (λ y. y ≡ Some r) (Some r) [] refl;
  lowest = All-cons (IsNoLower r) (Some r) [] (itself r) (All-nil (IsNoLower r));
}

-- the first refuses with 2, and the second with a greater number
two-checks : (unknown : Bool) (x : Option Refusal) → ((r : Refusal) → x ≡ Some r → 2 ≤ number_of r)
    → IsAnswer ((if unknown then Some refusal.UnknownInstance else None) ∷ x ∷ []) (first_of (if unknown then Some refusal.UnknownInstance else None) x)
two-checks true x more = record {
  one = any-first (λ y. y ≡ Some refusal.UnknownInstance) (Some refusal.UnknownInstance) (x ∷ []) refl;
  lowest = All-cons (IsNoLower refusal.UnknownInstance) (Some refusal.UnknownInstance) (x ∷ []) (itself refusal.UnknownInstance)
      (All-cons (IsNoLower refusal.UnknownInstance) x [] more (All-nil (IsNoLower refusal.UnknownInstance)));
}
two-checks false None more = All-cons (λ y. y ≡ None) None (None ∷ []) refl (All-cons (λ y. y ≡ None) None [] refl (All-nil (λ y. y ≡ None)))
two-checks false (Some r) more = record {
  one = any-second (λ y. y ≡ Some r) None (Some r) refl;
  lowest = All-cons (IsNoLower r) None (Some r ∷ []) (λ s e. cc) (All-cons (IsNoLower r) (Some r) [] (itself r) (All-nil (IsNoLower r)));
}

-- ---- each command

module _ (s : State) (c : Command) where
  abbrev unknown : Bool
  unknown = is_unknown c (is_known s.book c.i) (is_known s.book c.d)

  -- of a plan
  by-plan : (p : Planner) → IsAnswer (plan_checks s c p) (planned_refusal s.world s.book (record { 0 = s.moment }) s.configuration.every c p)
  by-plan (Coordinates kind) = coords-lowest s.world s.book (Some kind) c
  by-plan (Gtids kind) = gtid-lowest s.world s.book (Some kind) c
  by-plan (Paths kind) = path-lowest s.world s.book (record { 0 = s.moment }) (Some kind) c
  by-plan (Matches kind) = match-lowest s.world s.book (record { 0 = s.moment }) s.configuration.every (Some kind) c

  by-recovery : (i : Option ServerNo) → IsAnswer (recover_checks s i) (recovery_refused s.world s.book s.audit s.configuration (numbers_of s) i)
  by-recovery None = one-check (Some refusal.UnknownInstance)
  by-recovery (Some i) = recovery-lowest s.world s.book s.audit (by_hand s.book s.configuration (numbers_of s) i) i

  by-given : (i : ServerNo) (d : Option ServerNo) → IsAnswer (takeover_checks_by s i d) (takeover_given s.world s.book s.audit s.configuration (numbers_of s) i d)
  by-given i None = one-check (Some refusal.UnknownInstance)
  by-given i (Some d) = takeover-lowest s.world s.book s.audit (by_hand s.book s.configuration (numbers_of s) i) i d

  by-takeover : (i d : Option ServerNo) → IsAnswer (takes_checks s i d) (takeover_refused s.world s.book s.audit s.configuration (numbers_of s) i d)
  by-takeover None d = one-check (Some refusal.UnknownInstance)
  by-takeover (Some i) d = by-given i d

  reaches : (i : Option ServerNo) (r : Refusal) → unreached s.world i ≡ Some r → 2 ≤ number_of r
  reaches None r e = cc
  reaches (Some i) r e = go (is_some (seen_in (status s.world i.0))) e
    where
      go : (b : Bool) → (if b then None else Some (refusal.Unreachable i)) ≡ Some r → 2 ≤ number_of r
      go true e = cc
      go false e = let n : 5 ≡ number_of r = ap number_of (same_Some (refusal.Unreachable i) r e) in omega (arith, n)

  leaves : (i : Option ServerNo) (r : Refusal) → busy_given s.book i ≡ Some r → 2 ≤ number_of r
  leaves None r e = cc
  leaves (Some i) r e = go (lease_at s.book i) e
    where
      go : (o : Option ℕ) → busy_by i o ≡ Some r → 2 ≤ number_of r
      go None e = cc
      go (Some job) e = let n : 4 ≡ number_of r = ap number_of (same_Some (refusal.Busy i job) r e) in omega (arith, n)

  by-route : (r : Route) → IsAnswer (checks_by s c r) (refusal_by s.world s.book s.audit s.configuration (numbers_of s) c r)
  by-route Discovers = two-checks unknown (unreached s.world c.i) (reaches c.i)
  by-route Forgets = two-checks unknown (busy_given s.book c.i) (leaves c.i)
  by-route (Asks question) = one-check (unknown_in s.book c)
  by-route (Decides decision) = one-check (unknown_in s.book c)
  by-route (Begins p) = by-plan p
  by-route Recovers = by-recovery c.i
  by-route TakesOver = by-takeover c.i c.d

  pub lowest-refuses : RefusedByLowest s c
  lowest-refuses = by-route (route_of c.name)
