-- What becomes of an entry of the audit with a turn.
use Rattle.std.proofs.Common.{◌≡◌, ◌∙◌, ℕ, ◌+◌, Bool, true, false, List, [], ◌∷◌, ◌++◌, append_assoc, length, map, refl, sym, ap, subst, Option, Some, None, Result, Ok, Err, ◌==◌, ◌||◌, if◌then◌else◌}
use Rattle.run_laws.proofs.Prelude.{Act, AuditIs, AuditState, Begins as RecoveryBegins, Change, Comes, ComesTo, CommandTurn, Decided, Decides}
use Rattle.run_laws.proofs.Prelude.{Decision, Ending, JobStep, Knowledge, Line, Moment, Outcome, Recovery as KeptRecovery, Refusal, RestartKeepsAll}
use Rattle.run_laws.proofs.Prelude.{Route, Row, Scenario, ServerNo, State, Taken, Turn, Unended, Update, acked_in, act_asks, act_in, after_act}
use Rattle.run_laws.proofs.Prelude.{after_done, append-nil, asks, audit_after, begun, candidate_of, cause_name, closed, closed_by, closing_at}
use Rattle.run_laws.proofs.Prelude.{closing_for, closing_of, cluster_acked, cluster_decided, cluster_of, command-comes, command_outcome, decided}
use Rattle.run_laws.proofs.Prelude.{decided_of, done_asks, done_with, downtime_begun, downtime_ended, downtime_of, effect_by, entries_of}
use Rattle.run_laws.proofs.Prelude.{entry_by_job, entry_in_act, entry_in_done, entry_of_turn, entry_then, false≢true, flown-entry, hooked}
use Rattle.run_laws.proofs.Prelude.{interrupted_at, is_takeover, job_at, known_of, next_count, numbers_of, option_map, outcome_by, outcome_of}
use Rattle.run_laws.proofs.Prelude.{permitted, recoveries_begun, recoveries_done, recoveries_in_act, recoveries_scanned, route_of, turn_of, updated}
use Rattle.run_laws.proofs.Prelude.RecoveryPlans.{Recovery}
use Rattle.run_laws.proofs.Prelude.act
use Rattle.run_laws.proofs.Prelude.decision
use Rattle.run_laws.proofs.Prelude.ending
use Rattle.run_laws.proofs.Prelude.jobstep as step
use Rattle.run_laws.proofs.Prelude.turn
use Rattle.run_laws.proofs.Prelude.unended
use Rattle.run_laws.proofs.Prelude.comes
use Rattle.run_laws.proofs.Prelude.update
use Rattle.run_laws.proofs.Closings.{ended-map, ended_as, ended_in, ended_with}
use Rattle.run_laws.proofs.Reloads.{reloaded-comes}
use Rattle.run_laws.proofs.Logged.{begun_in, command-begun}
use Rattle.run_laws.proofs.Prelude.Decisions.{about as decided_about, registered}
use Rattle.run_laws.proofs.Prelude.effect

-- ---- lists

map-same : (xs : List KeptRecovery) → map (λ k. k) xs ≡ xs
map-same [] = refl
map-same (x ∷ xs) = ap (λ (ys : List KeptRecovery). x ∷ ys) (map-same xs)

map-alike : (f g : KeptRecovery → KeptRecovery) → ((k : KeptRecovery) → f k ≡ g k) → (xs : List KeptRecovery) → map f xs ≡ map g xs
map-alike f g same [] = refl
map-alike f g same (x ∷ xs) = λ i. same x i ∷ map-alike f g same xs i

-- nothing becomes of any, and nothing begins
stays : (xs : List KeptRecovery) → xs ≡ map (λ k. k) xs ++ []
stays xs = sym (append-nil (map (λ (k : KeptRecovery). k) xs) ∙ map-same xs)

after-all : (a : AuditState) (xs : List RecoveryBegins) → (audit_after a xs).recoveries ≡ a.recoveries ++ entries_of xs
after-all a [] = sym (append-nil a.recoveries)
after-all a (x ∷ xs) = after-all (begun a x.entry) xs ∙ append_assoc a.recoveries (x.entry ∷ []) (entries_of xs)

-- some begin
joins : (a : AuditState) (xs : List RecoveryBegins) → (audit_after a xs).recoveries ≡ map (λ k. k) a.recoveries ++ entries_of xs
joins a xs = after-all a xs ∙ ap (λ (ys : List KeptRecovery). ys ++ entries_of xs) (sym (map-same a.recoveries))

-- ---- a command

-- the cluster that an update acknowledges
abbrev acks_in : Update → Option (List ℕ)
acks_in (update.Decides (effect.Acks cluster)) = Some cluster
acks_in _ = None

update-fates : (k : Knowledge) (u : Update) → (updated k u).audit.recoveries ≡ map (acked_in (acks_in u)) k.audit.recoveries ++ entries_of (begun_in u)
update-fates k (update.Decides (effect.Acks cluster)) = sym (append-nil (map (acked_in (Some cluster)) k.audit.recoveries))
update-fates k (update.Recovers xs) = joins k.audit xs
update-fates k _ = stays k.audit.recoveries

module _ (s : State) (c : CommandTurn) where
  -- that of a command is the one that it acknowledges
  abbrev Acks : Option (List ℕ) → Outcome → Type 0
  Acks cluster o = cluster ≡ acks_in o.book

  acks : (p : Result Unit Refusal) (i : Option ServerNo) → Acks (cluster_of s.book p i) (decided s.reads s.audit p (decided_of s.book s.audit (record { 0 = s.moment }) c.keys i decision.AckRecoveries))
  acks (Err r) i = refl
  acks (Ok permit) None = refl
  acks (Ok permit) (Some i) = refl

  -- one that changes a row acknowledges none
  plain : (x : Option Change) → None ≡ acks_in (update.Decides (effect_by x))
  plain None = refl
  plain (Some x) = refl

  plain-about : (f : ServerNo → Decided) → ((i : ServerNo) → None ≡ acks_in (update.Decides (f i).effect)) → (i : Option ServerNo) → None ≡ acks_in (update.Decides (decided_about f i).effect)
  plain-about f each None = refl
  plain-about f each (Some i) = each i

  others : (p : Result Unit Refusal) (d : Decided) → None ≡ acks_in (update.Decides d.effect) → Acks None (decided s.reads s.audit p d)
  others (Err r) d none = refl
  others (Ok permit) d none = none

  by-decision : (d : Decision) → Acks (cluster_decided s c d) (decided s.reads s.audit (permitted s.book c.command) (decided_of s.book s.audit (record { 0 = s.moment }) c.keys c.command.i d))
  by-decision decision.AckRecoveries = acks (permitted s.book c.command) c.command.i
  by-decision decision.BeginDowntime = others (permitted s.book c.command) _ (plain-about (λ n. downtime_begun s.book (downtime_of (record { 0 = s.moment }) c.keys n)) (λ n. plain _) c.command.i)
  by-decision decision.EndDowntime = others (permitted s.book c.command) _ (plain-about (downtime_ended s.book) (λ n. plain _) c.command.i)
  by-decision decision.RegisterCandidate = others (permitted s.book c.command) _ (plain-about (λ n. registered s.book (candidate_of (record { 0 = s.moment }) c.keys n)) (λ n. plain _) c.command.i)
  by-decision decision.DisableRecoveries = others (permitted s.book c.command) _ (plain _)
  by-decision decision.EnableRecoveries = others (permitted s.book c.command) _ (plain _)

  without : (o : Outcome) → Comes s c o → ((d : Decision) → route_of c.command.name ≡ Decides d → ⊥) → Acks None o
  without o (comes.Decided d at may) none = absurd (none d at)
  without o _ none = refl

  by-route : (r : Route) → route_of c.command.name ≡ r → Acks (cluster_acked s c r) (command_outcome s c)
  unfolding outcome_of
  by-route (Decides d) at = subst (λ (r : Route). Acks (cluster_decided s c d) (outcome_by s.world s.book s.audit s.configuration (numbers_of s) c r)) (sym at) (by-decision d)
  by-route r at = without (command_outcome s c) (command-comes s c) (λ d is. let same = sym at ∙ is in cc)

  by-command : (updated (known_of s) (command_outcome s c).book).audit.recoveries
      ≡ map (acked_in (cluster_acked s c (route_of c.command.name))) s.audit.recoveries ++ entries_of (recoveries_begun s (turn.Act (act.Command c)))
  by-command =
      update-fates (known_of s) (command_outcome s c).book
      ∙ (ap (λ (cluster : Option (List ℕ)). map (acked_in cluster) s.audit.recoveries ++ entries_of (begun_in (command_outcome s c).book)) (sym (by-route (route_of c.command.name) refl))
      ∙ ap (λ (xs : List RecoveryBegins). map (acked_in (cluster_acked s c (route_of c.command.name))) s.audit.recoveries ++ entries_of xs) (sym (command-begun s c)))

-- ---- a job

module _ (s : State) where
  abbrev now : Moment
  now = record { 0 = s.moment }

  abbrev Ends : AuditState → (KeptRecovery → KeptRecovery) → Type 0
  Ends a f = a.recoveries ≡ map f s.audit.recoveries ++ []

  -- an entry ends
  ends : (e : ℕ) (o : Ending) (acked : Bool) (f : KeptRecovery → KeptRecovery) → ((k : KeptRecovery) → ended_in now e o acked k ≡ f k) → Ends (ended_with s.audit now e o acked) f
  ends e o acked f same =
      ap (λ (a : AuditState). a.recoveries) (ended-map now e o s.audit acked)
      ∙ (map-alike (ended_in now e o acked) f same s.audit.recoveries ∙ sym (append-nil (map f s.audit.recoveries)))

  module _ (e : ℕ) (r : Recovery) where
    abbrev becomes : JobStep → KeptRecovery → KeptRecovery
    becomes x k = if k.id == e then entry_then now r x k else k

    goes : (k : KeptRecovery) → becomes step.Going k ≡ k
    goes k = by (k.id == e)
      where
        by : (b : Bool) → (if b then k else k) ≡ k
        by true = refl
        by false = refl

    is-done : (lines : List Line) (k : KeptRecovery) → ended_in now e (done_with r.outcome.promoted) (is_takeover r.purpose) k ≡ becomes (step.Done lines) k
    is-done lines k = by (k.id == e) (is_takeover r.purpose)
      where
        by : (b acked : Bool) → (if b then ended_as now (done_with r.outcome.promoted) acked k else k)
            ≡ (if b then record k { ended = Some now; outcome = done_with r.outcome.promoted; acked = acked || k.acked } else k)
        by true true = refl
        by true false = refl
        by false acked = refl

    by-step : (x : JobStep) → Ends (closed_by s.audit now (closing_at r x e)) (becomes x)
    by-step step.Going = stays s.audit.recoveries ∙ ap (λ (ys : List KeptRecovery). ys ++ []) (map-alike (λ k. k) (becomes step.Going) (λ k. sym (goes k)) s.audit.recoveries)
    by-step (step.Done lines) = ends e (done_with r.outcome.promoted) (is_takeover r.purpose) (becomes (step.Done lines)) (is-done lines)
    by-step (step.Failed c lines) = ends e (ending.Failed (cause_name c)) false (becomes (step.Failed c lines)) (λ k. refl)

  by-entry : (t : Taken) (o : Option ℕ) → Ends (closed_by s.audit now (closing_for t.recovery t.step o)) (entry_of_turn now o t)
  by-entry t None = stays s.audit.recoveries
  by-entry t (Some e) = by-step e t.recovery t.step

  by-job-turn : (o : Option Unended) → Ends (closed_by s.audit now (closing_of (option_map (turn_of s) o))) (entry_by_job s o)
  by-job-turn None = stays s.audit.recoveries
  by-job-turn (Some (unended.Plan j)) = stays s.audit.recoveries
  by-job-turn (Some (unended.Recovery r d)) =
      let h = hooked s.world s.book (next_count s.reads) now r d in
      subst (λ (o : Option ℕ). Ends (closed_by s.audit now (closing_for h.taken.recovery h.taken.step o)) (entry_of_turn now d.entry h.taken))
      (sym (flown-entry s.world s.book (next_count s.reads) now (unended.Recovery r d))) (by-entry h.taken d.entry)

-- ---- each turn

act-fates : (rows : List Row) (s : State) (a : Act) → act_asks a ≡ false → (after_act rows s a).audit.recoveries ≡ map (entry_in_act s a) s.audit.recoveries ++ entries_of (recoveries_in_act s a)
act-fates rows s (act.PollRead p n) off = stays s.audit.recoveries
act-fates rows s (act.PollStore p) off = stays s.audit.recoveries
act-fates rows s (act.Command c) off = by-command s c
act-fates rows s (act.Job job) off = by-job-turn s (job_at s.jobs job)
act-fates rows s act.Scan off = joins s.audit (recoveries_scanned s)
act-fates rows s act.Restart off = absurd (false≢true (sym off))

done-fates : (rows : List Row) (s : State) (o : Option Act) → done_asks o ≡ false → (after_done rows s o).audit.recoveries ≡ map (entry_in_done s o) s.audit.recoveries ++ entries_of (recoveries_done s o)
done-fates rows s None off = stays s.audit.recoveries
done-fates rows s (Some a) off = act-fates rows s a off

pub turn-fates : (rows : List Row) (s : State) (t : Turn) → asks s t ≡ false → AuditIs rows s t
turn-fates rows s (turn.Act a) off = act-fates rows s a off
turn-fates rows s (turn.As node a) off = done-fates rows s (act_in s (turn.As node a)) off
turn-fates rows s (turn.Claim node) off = done-fates rows s (act_in s (turn.Claim node)) off
turn-fates rows s _ off = stays s.audit.recoveries

pub restart-comes : (s : Scenario) (xs : List (List Row × Turn)) (last : State) (rows : List Row) → ComesTo s xs last → RestartKeepsAll (length s.opening.servers) rows last
restart-comes s xs last rows comes rising follow = ap (λ (a : AuditState). closed a (interrupted_at rows last)) (reloaded-comes s xs last rows comes rising follow)
