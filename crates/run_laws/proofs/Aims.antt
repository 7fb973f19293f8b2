-- What a turn begins is about whom it was asked for.
use Rattle.std.proofs.Common.{◌≡◌, ℕ, ◌+◌, List, [], ◌∷◌, refl, subst, false, Option, Some, None, sym, All, Contains}
use Rattle.run_laws.proofs.Prelude.{Act, All-cons, All-contains_itself, All-head, All-map, All-nil, All-push, All-tail, All-weaker, Attempt}
use Rattle.run_laws.proofs.Prelude.{AuditState, Begins as RecoveryBegins, BookState, Command, Configuration, Entry, IsAbout, IsAimed, IsAskedBy}
use Rattle.run_laws.proofs.Prelude.{IsAskedFor, IsAskedIn, IsAskedOf, IsFor, Kind, Moment, Purpose, Refusal, Route, ServerNo, Staged, State, Turn}
use Rattle.run_laws.proofs.Prelude.{World, act_in, actionable_in, after_try, attempt_in, from_start, is_takeover, kind_by, label_at, period_by}
use Rattle.run_laws.proofs.Prelude.{purpose_by, recoveries_begun, recoveries_done, recoveries_in_act, recovery_begins, route_of, scan_in, scan_step}
use Rattle.run_laws.proofs.Prelude.{scanned, scanned_over, source_of, staged_refusal, takeover_begins, unless_refused, with_told}
use Rattle.run_laws.proofs.Prelude.act
use Rattle.run_laws.proofs.Prelude.purpose
use Rattle.run_laws.proofs.Prelude.turn
use Rattle.run_laws.proofs.Prelude.comes
use Rattle.run_laws.proofs.Logged.{command-begins}

-- ---- by a scan

-- what holds of each recovery as it is tried holds of all that begin
module _ (w : World) (b : BookState) (by : ServerNo → Attempt) (wait : ℕ) (Q : RecoveryBegins → Type 0)
    (each : (s : Staged) (e : Entry) → Contains (actionable_in b) e → Q (recovery_begins (record b { leases = s.leases }) s.audit (by e.no).now (by e.no).block wait (s.last + 1) e.no)) where
  step-each : (s : Staged) (e : Entry) → Contains (actionable_in b) e → All Q s.begun → All Q (scan_step w b by wait s e).begun
  step-each s e asks all = go (staged_refusal w b (by e.no) s e.no)
    where
      new : RecoveryBegins
      new = recovery_begins (record b { leases = s.leases }) s.audit (by e.no).now (by e.no).block wait (s.last + 1) e.no

      go : (o : Option Refusal) → All Q (after_try s e (unless_refused o new)).begun
      go None = All-push Q s.begun new all (each s e asks)
      go (Some r) = all

  over-each : (s : Staged) (es : List Entry) → All (Contains (actionable_in b)) es → All Q s.begun → All Q (scanned_over w b by wait s es).begun
  over-each s [] asks all = all
  over-each s (e ∷ es) asks all =
      over-each (scan_step w b by wait s e) es (All-tail (Contains (actionable_in b)) e es asks) (step-each s e (All-head (Contains (actionable_in b)) e es asks) all)

  pub scan-each : (audit : AuditState) (last : ℕ) → All Q (scanned w b audit by wait last).begun
  scan-each audit last = over-each (from_start b audit last) (actionable_in b) (All-contains_itself (actionable_in b)) (All-nil Q)

-- ---- what is tried

module _ (b : BookState) (audit : AuditState) (now : Moment) (block wait job : ℕ) where
  recovery-about : (f : ServerNo) → IsAbout b (recovery_begins b audit now block wait job f)
  recovery-about f = record { failed = refl; cluster = refl; purpose = go (source_of b f) refl }
    where
      go : (o : Option ServerNo) → source_of b f ≡ o → IsFor b f (kind_by o) (purpose_by o)
      go None at = (refl, at)
      go (Some s) at = (refl, at)

  takeover-about : (i d : ServerNo) → IsAbout b (takeover_begins b audit now block wait job i d)
  takeover-about i d = record { failed = refl; cluster = refl; purpose = refl }

no-takeover : (o : Option ServerNo) → is_takeover (purpose_by o) ≡ false
no-takeover None = refl
no-takeover (Some s) = refl

-- whatever values its hooks get
module _ (k : Configuration) (b : BookState) where
  with-told-about : (x : RecoveryBegins) → IsAbout b x → IsAbout b (with_told k b x)
  with-told-about x about = record { failed = about.failed; cluster = about.cluster; purpose = about.purpose }

-- ---- by a command

asked-aimed : (s : State) (c : Command) (x : RecoveryBegins) → IsAskedFor s c x → IsAskedBy c (route_of c.name) (with_told s.configuration s.book x) × IsAbout s.book (with_told s.configuration s.book x)
asked-aimed s c x (comes.Fails i route at free) = (
  subst (λ (r : Route). IsAskedBy c r (with_told s.configuration s.book x)) (sym route) (at, no-takeover (source_of s.book i)),
  with-told-about s.configuration s.book _ (recovery-about s.book s.audit (record { 0 = s.moment }) (period_by s.configuration (label_at s.book i)) s.configuration.wait (s.last_job + 1) i),
)
asked-aimed s c x (comes.Passes i d route at there free) = (
  subst (λ (r : Route). IsAskedBy c r (with_told s.configuration s.book x)) (sym route) (at, (d, there, refl)),
  with-told-about s.configuration s.book _ (takeover-about s.book s.audit (record { 0 = s.moment }) (period_by s.configuration (label_at s.book i)) s.configuration.wait (s.last_job + 1) i d),
)

-- ---- by a turn

abbrev AimedIn : State → Act → RecoveryBegins → Type 0
AimedIn s a x = IsAskedIn s a x × IsAbout s.book x

scan-aimed : (s : State) → All (AimedIn s act.Scan) (recoveries_in_act s act.Scan)
scan-aimed s =
    All-map (AimedIn s act.Scan) (with_told s.configuration s.book) (scan_in s).begun
    (scan-each s.world s.book (attempt_in s) s.configuration.wait (λ x. AimedIn s act.Scan (with_told s.configuration s.book x))
    (λ z e asks. (
      (e, asks, refl, no-takeover (source_of s.book e.no)),
      with-told-about s.configuration s.book
          (recovery_begins (record (s.book) { leases = z.leases }) z.audit (attempt_in s e.no).now (attempt_in s e.no).block s.configuration.wait (z.last + 1) e.no)
          (along z.leases (recovery_begins (record (s.book) { leases = z.leases }) z.audit (attempt_in s e.no).now (attempt_in s e.no).block s.configuration.wait (z.last + 1) e.no)
          (recovery-about (record (s.book) { leases = z.leases }) z.audit (attempt_in s e.no).now (attempt_in s e.no).block s.configuration.wait (z.last + 1) e.no)),
    ))
    s.audit s.last_job)
  where
    for : (leases : List (Option ℕ)) (f : ServerNo) (k : Kind) (u : Purpose) → IsFor (record (s.book) { leases = leases }) f k u → IsFor s.book f k u
    for leases f k purpose.Regroup is = is
    for leases f k _ is = is

    -- leases make no difference
    along : (leases : List (Option ℕ)) (x : RecoveryBegins) → IsAbout (record (s.book) { leases = leases }) x → IsAbout s.book x
    along leases x is = record { failed = is.failed; cluster = is.cluster; purpose = for leases x.job.failed x.entry.kind x.job.purpose is.purpose }

act-aimed : (s : State) (a : Act) → All (AimedIn s a) (recoveries_in_act s a)
act-aimed s (act.Command c) =
    let P = AimedIn s (act.Command c) in
    command-begins s c (All P) (All-nil P) (λ x asked. All-cons P (with_told s.configuration s.book x) [] (asked-aimed s c.command x asked) (All-nil P))
act-aimed s act.Scan = scan-aimed s
act-aimed s a = All-nil (AimedIn s a)

abbrev AimedOf : State → Option Act → RecoveryBegins → Type 0
AimedOf s o x = IsAskedOf s o x × IsAbout s.book x

done-aimed : (s : State) (o : Option Act) → All (AimedOf s o) (recoveries_done s o)
done-aimed s None = All-nil (AimedOf s None)
done-aimed s (Some a) = act-aimed s a

pub turn-aimed : (s : State) (t : Turn) → All (IsAimed s t) (recoveries_begun s t)
turn-aimed s (turn.Act a) = All-weaker (AimedIn s a) (IsAimed s (turn.Act a)) (λ x is. record { asked = is.0; about = is.1 }) (recoveries_in_act s a) (act-aimed s a)
turn-aimed s (turn.As node a) =
    let o = act_in s (turn.As node a) in
    All-weaker (AimedOf s o) (IsAimed s (turn.As node a)) (λ x is. record { asked = is.0; about = is.1 }) (recoveries_done s o) (done-aimed s o)
turn-aimed s (turn.Claim node) =
    let o = act_in s (turn.Claim node) in
    All-weaker (AimedOf s o) (IsAimed s (turn.Claim node)) (λ x is. record { asked = is.0; about = is.1 }) (recoveries_done s o) (done-aimed s o)
turn-aimed s t = All-nil (IsAimed s t)
