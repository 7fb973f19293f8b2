-- What begins with a turn can begin, at its moment, and doesn't overlap.
use Rattle.std.proofs.Common.{◌≡◌, ℕ, ◌+◌, ◌<◌, ◌≤◌, ◌^◌, List, [], ◌∷◌, length, refl, sym, ap, subst, Option, Some, None, arith, All, IfSome}
use Rattle.run_laws.proofs.Prelude.{Act, All-cons, All-map, All-nil, All-weaker, AuditState, BeginApartInTurn, BeginInTurn, Begins as RecoveryBegins}
use Rattle.run_laws.proofs.Prelude.{BeginsApart, Command, IsAct, IsAskedFor, IsTurn, Moment, Ready, Recovery as KeptRecovery, Refusal, State, Turn}
use Rattle.run_laws.proofs.Prelude.{act-fits, act_in, attempt_in, audit_after, begun, by_hand, entries_begun, entries_of, label_at, longest_block}
use Rattle.run_laws.proofs.Prelude.{numbers_of, period_by, recoveries_begun, recoveries_done, recoveries_in_act, scan-blocks, scan-in-turn, scan_in}
use Rattle.run_laws.proofs.Prelude.{told-in-turn, unless_refused, with_told}
use Rattle.run_laws.proofs.Prelude.act
use Rattle.run_laws.proofs.Prelude.turn
use Rattle.run_laws.proofs.Prelude.comes
use Rattle.run_laws.proofs.ReadyOutcomes.{asked-begins}
use Rattle.run_laws.proofs.Periods.{short-by}
use Rattle.run_laws.proofs.Apart.{recovery-apart, scan-apart, takeover-apart}
use Rattle.run_laws.proofs.Told.{told-entries}
use Rattle.run_laws.proofs.Logged.{command-begins}

-- ---- each can begin, in turn

abbrev Can : State → List RecoveryBegins → Type 0
Can s xs = BeginInTurn (length s.book.names) s.book.leases s.audit s.last_job xs

act-can : (count : ℕ) (s : State) (a : Act) → Ready count s → IsAct count a → Can s (recoveries_in_act s a)
act-can count s (act.Command c) ready is = command-begins s c (Can s) tt (λ x asked. (asked-begins count s ready c is x asked, tt))
act-can count s act.Scan ready is =
    told-in-turn s.configuration s.book (length s.book.names) s.book.leases s.audit s.last_job (scan_in s).begun
    (scan-in-turn s.world s.book (attempt_in s) s.configuration.wait s.audit s.last_job ready.book (λ n. short-by s.configuration ready.periods (label_at s.book n)))
act-can count s _ ready is = tt

done-can : (count : ℕ) (s : State) (o : Option Act) → Ready count s → IfSome o (IsAct count) → Can s (recoveries_done s o)
done-can count s None ready is = tt
done-can count s (Some a) ready is = act-can count s a ready is

pub turn-can : (count : ℕ) (s : State) (t : Turn) → Ready count s → IsTurn count t → Can s (recoveries_begun s t)
turn-can count s (turn.Act a) ready is = act-can count s a ready is
turn-can count s (turn.As node a) ready is = done-can count s (act_in s (turn.As node a)) ready (act-fits count s (turn.As node a) is)
turn-can count s (turn.Claim node) ready is = done-can count s (act_in s (turn.Claim node)) ready (act-fits count s (turn.Claim node) is)
turn-can count s _ ready is = tt

-- ---- and without overlap, at the moment of the turn

abbrev Apart : State → List RecoveryBegins → Type 0
Apart s xs = BeginApartInTurn (record { 0 = s.moment }) s.audit (entries_of xs)

asked-apart : (s : State) (c : Command) (x : RecoveryBegins) → IsAskedFor s c x → BeginsApart (record { 0 = s.moment }) s.audit x.entry
asked-apart s c x (comes.Fails i route at free) =
    recovery-apart s.world s.book s.audit (by_hand s.book s.configuration (numbers_of s) i) s.configuration.wait (s.last_job + 1) i x (ap (λ (o : Option Refusal). unless_refused o x) free)
asked-apart s c x (comes.Passes i d route at there free) =
    takeover-apart s.world s.book s.audit (by_hand s.book s.configuration (numbers_of s) i) s.configuration.wait (s.last_job + 1) i d x (ap (λ (o : Option Refusal). unless_refused o x) free)

act-apart : (s : State) (a : Act) → Apart s (recoveries_in_act s a)
act-apart s (act.Command c) = command-begins s c (Apart s) tt (λ x asked. (asked-apart s c.command x asked, tt))
act-apart s act.Scan =
    subst (BeginApartInTurn (record { 0 = s.moment }) s.audit) (sym (told-entries s.configuration s.book (scan_in s).begun))
    (scan-apart s.world s.book (attempt_in s) s.configuration.wait (record { 0 = s.moment }) (λ n. refl) s.audit s.last_job)
act-apart s _ = tt

done-apart : (s : State) (o : Option Act) → Apart s (recoveries_done s o)
done-apart s None = tt
done-apart s (Some a) = act-apart s a

pub turn-apart : (s : State) (t : Turn) → Apart s (recoveries_begun s t)
turn-apart s (turn.Act a) = act-apart s a
turn-apart s (turn.As node a) = done-apart s (act_in s (turn.As node a))
turn-apart s (turn.Claim node) = done-apart s (act_in s (turn.Claim node))
turn-apart s _ = tt

-- ---- with the block periods of their clusters

abbrev HasPeriod : State → RecoveryBegins → Type 0
HasPeriod s x = x.entry.block ≡ period_by s.configuration x.entry.cluster

abbrev HavePeriods : State → List RecoveryBegins → Type 0
HavePeriods s xs = All (HasPeriod s) xs

none-periods : (s : State) → HavePeriods s []
none-periods s = All-nil (HasPeriod s)

asked-period : (s : State) (c : Command) (x : RecoveryBegins) → IsAskedFor s c x → HasPeriod s (with_told s.configuration s.book x)
asked-period s c x (comes.Fails i route at free) = refl
asked-period s c x (comes.Passes i d route at there free) = refl

act-periods : (s : State) (a : Act) → HavePeriods s (recoveries_in_act s a)
act-periods s (act.Command c) = command-begins s c (HavePeriods s) (none-periods s) (λ x asked. All-cons (HasPeriod s) (with_told s.configuration s.book x) [] (asked-period s c.command x asked) (none-periods s))
act-periods s act.Scan =
    All-map (HasPeriod s) (with_told s.configuration s.book) (scan_in s).begun
    (scan-blocks s.world s.book (attempt_in s) s.configuration.wait s.audit s.last_job (period_by s.configuration) (λ n. refl))
act-periods s _ = none-periods s

done-periods : (s : State) (o : Option Act) → HavePeriods s (recoveries_done s o)
done-periods s None = none-periods s
done-periods s (Some a) = act-periods s a

pub turn-periods : (s : State) (t : Turn) → HavePeriods s (recoveries_begun s t)
turn-periods s (turn.Act a) = act-periods s a
turn-periods s (turn.As node a) = done-periods s (act_in s (turn.As node a))
turn-periods s (turn.Claim node) = done-periods s (act_in s (turn.Claim node))
turn-periods s _ = none-periods s

-- so none is too long
pub turn-short : (count : ℕ) (s : State) (t : Turn) → Ready count s → All (λ x. x.entry.block ≤ longest_block) (recoveries_begun s t)
turn-short count s t ready =
    All-weaker (HasPeriod s) (λ x. x.entry.block ≤ longest_block)
    (λ x is. subst (λ (n : ℕ). n ≤ longest_block) (sym is) (short-by s.configuration ready.periods x.entry.cluster)) (recoveries_begun s t) (turn-periods s t)

module _ (now : Moment) where
  -- ids go on
  pub next-after : (a : AuditState) (xs : List RecoveryBegins) → BeginApartInTurn now a (entries_of xs) → a.next ≤ (audit_after a xs).next
  next-after a [] each = omega arith
  next-after a (x ∷ xs) each =
      let rest = next-after (begun a x.entry) xs each.1 in
      let same = each.0.number in
      omega (arith, rest, same)

  -- and each is below the next one
  pub ids-after : (a : AuditState) (xs : List RecoveryBegins) → BeginApartInTurn now a (entries_of xs) → All (λ r. r.id < (audit_after a xs).next) (entries_of xs)
  ids-after a [] each = All-nil (λ (r : KeptRecovery). r.id < a.next)
  ids-after a (x ∷ xs) each =
      let more = next-after (begun a x.entry) xs each.1 in
      All-cons (λ (r : KeptRecovery). r.id < (audit_after a (x ∷ xs)).next) x.entry (entries_of xs) (omega (arith, more)) (ids-after (begun a x.entry) xs each.1)

  -- they began then
  pub began-then : (a : AuditState) (xs : List RecoveryBegins) → BeginApartInTurn now a (entries_of xs) → All (λ x. x.entry.begun ≡ now) xs
  began-then a [] each = All-nil (λ (x : RecoveryBegins). x.entry.begun ≡ now)
  began-then a (x ∷ xs) each = All-cons (λ (y : RecoveryBegins). y.entry.begun ≡ now) x xs each.0.moment (began-then (begun a x.entry) xs each.1)

-- ids in their type's range, if the next one after the turn is
pub small-ids : (s : State) (t : Turn) → (audit_after s.audit (recoveries_begun s t)).next ≤ 2 ^ 64 → All (λ r. r.id < 2 ^ 64) (entries_begun s t)
small-ids s t most =
    All-weaker (λ (r : KeptRecovery). r.id < (audit_after s.audit (recoveries_begun s t)).next) (λ r. r.id < 2 ^ 64) (λ r less. omega (arith, less, most)) (entries_begun s t)
    (ids-after (record { 0 = s.moment }) s.audit (recoveries_begun s t) (turn-apart s t))
