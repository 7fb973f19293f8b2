-- What begins names no replica twice.
use Rattle.orch_core.proofs.RecoveryCore.Beginning.{passed}
use Rattle.run_laws.proofs.Prelude.{Action, All-nil, All-push, AreCounts, AreReplicas, Attached, Attempt, AuditState, Begins, BookState, Code}
use Rattle.run_laws.proofs.Prelude.{Detached, Entry, Instance, NamesLogging, NamesReplicasOnce, NoCandidate, NotMaster, NotReplica, Refusal, Server}
use Rattle.run_laws.proofs.Prelude.{ServerNo, SourceState, Staged, UnknownInstance, Without, World, action-of, action_of, actionable_in, after_try}
use Rattle.run_laws.proofs.Prelude.{and_parts, attached-replica, attached_of, by_name, can_succeed, case_of, code_at, code_of, counts_of, entry_of}
use Rattle.run_laws.proofs.Prelude.{eqb-true, false≢true, first_refusal, from_start, has_log, has_successor, held_back, held_off, instance_at}
use Rattle.run_laws.proofs.Prelude.{is_attached_to, is_given, is_instance, is_replica_of, is_valid, logs_by, logs_in, neither, no_master, no_replica}
use Rattle.run_laws.proofs.Prelude.{none-some, none_replicates, not-true, only_if, purpose_by, recovery_begins, recovery_purpose, recovery_refusal}
use Rattle.run_laws.proofs.Prelude.{recovery_try, refusal_for, replicas_of, row, same_label, same_Some, scan_step, scanned, scanned_over, seen_source}
use Rattle.run_laws.proofs.Prelude.{server_at, source_in, source_of, staged_refusal, takeover_begins, takeover_refusal, takeover_try, tally-parts}
use Rattle.run_laws.proofs.Prelude.{times, unless_refused, unrefused, without_log, without_successor}
use Rattle.run_laws.proofs.Prelude.Lists.{first_of}
use Rattle.run_laws.proofs.Prelude.Recoveries.{refusal_by}
use Rattle.run_laws.proofs.Prelude.action
use Rattle.run_laws.proofs.Prelude.check
use Rattle.run_laws.proofs.Prelude.commands_refusal as refusal
use Rattle.run_laws.proofs.Prelude.purpose
use Rattle.std.proofs.Common.{◌≡◌, ℕ, ◌+◌, ◌<◌, ◌≤◌, ◌∙◌, ◌&&◌, Bool, true, false, cond, not, List, [], ◌∷◌, length, refl, sym, ap, subst, Option, Some, None, Ok, arith, ◌==◌, All, is_some, nat_lt, option_map}
use Rattle.run_laws.proofs.Once.{few-none, filtered-all, filtered-few, filtered-none, hit-few, none-few, ordered-few, ordered-once}

-- ---- single tests

absent : (o : Option ServerNo) (r : Refusal) → only_if (is_some o) r ≡ None → o ≡ None
absent None r h = refl
absent (Some s) r h = cc

sourceless : (o : Option ServerNo) → is_some o ≡ false → o ≡ None
sourceless None h = refl
sourceless (Some s) h = absurd (false≢true (sym h))

unattached : (i : ServerNo) (s : SourceState) → source_in s ≡ None → is_attached_to i s ≡ false
unattached i Without h = refl
unattached i (Attached m) h = cc
unattached i (Detached m) h = refl

of-five : (x1 x2 x3 x4 x5 : Option Refusal) → first_of (x1 ∷ x2 ∷ x3 ∷ x4 ∷ x5 ∷ []) ≡ None → (x4 ≡ None) × (x5 ≡ None) × (x2 ≡ None)
of-five None None None None None h = (refl, refl, refl)
of-five _ _ _ _ _ h = cc

logged : (o : Option Server) → logs_in o ≡ true → logs_by o ≡ true
logged None h = h
logged (Some s) h = h

-- what is asked for of a server with a source is no master's recovery
abbrev is_masters : Action → Bool
is_masters action.MasterRecovery = true
is_masters action.IntermediateRecovery = false
is_masters action.Nothing = false

asked-without : (dead sourced : Bool) → cond dead (cond sourced action.IntermediateRecovery action.MasterRecovery) action.Nothing ≡ action.MasterRecovery → sourced ≡ false
asked-without true true h = absurd (false≢true (ap is_masters h))
asked-without true false h = refl
asked-without false sourced h = absurd (false≢true (ap is_masters h))

-- ---- by the book

module _ (b : BookState) where
  replicas-few : (f : ServerNo) (n : ℕ) → times n (replicas_of b f) ≤ 1
  replicas-few f n = let less = filtered-few n (is_replica_of b f) (by_name b.names) in let few = ordered-few n b.names in omega (arith, less, few)

  pub regroup-are : (f : ServerNo) → AreReplicas purpose.Regroup f (replicas_of b f)
  regroup-are f = record { distinct = replicas-few f; placed = tt }

  no-replica : (f s : ServerNo) → is_replica_of b f s ≡ false → times s.0 (replicas_of b f) ≡ 0
  no-replica f s fails = filtered-none (is_replica_of b f) s (by_name b.names) fails

  one-replica : (f d : ServerNo) → d.0 < length b.names → is_replica_of b f d ≡ true → times d.0 (replicas_of b f) ≡ 1
  one-replica f d within is = filtered-all (is_replica_of b f) d (by_name b.names) is ∙ ordered-once b.names d within

  counts : (f : ServerNo) (i : Instance) → AreCounts (counts_of b f i)
  counts f i = let parts = tally-parts b.instances f in record { lagging = parts.lagging; replicating = parts.replicating; valid = parts.valid }

  -- a master is what has no source
  master-source : (f : ServerNo) (code : Code) → code_at b f ≡ Some code → action_of code ≡ action.MasterRecovery → source_of b f ≡ None
  master-source f code at asks = go (instance_at b f) at
    where
      go : (o : Option Instance) → option_map (λ (e : Entry). e.code) (option_map (entry_of b f) o) ≡ Some code → source_in (seen_source o) ≡ None
      go None h = refl
      go (Some i) h =
          let c = counts_of b f i in
          sourceless (source_in i.seen.source)
          (asked-without (not i.valid && (nat_lt 0 c.valid_replicas && none_replicates c)) (is_some (source_in i.seen.source))
          (sym (action-of c (counts f i)) ∙ ap action_of (same_Some (code_of c) code h) ∙ asks))

-- ---- by what isn't refused

module _ (w : World) (b : BookState) (audit : AuditState) (a : Attempt) where
  -- the source of an intermediate master can take its replicas
  pub succeeds : (f s : ServerNo) → recovery_refusal w b audit a f ≡ None → source_of b f ≡ Some s → can_succeed w b f s ≡ true
  succeeds f s free at = by-code (code_at b f) refl free
    where
      by-action : (code : Code) (what : Action) → (what ≡ action.MasterRecovery → source_of b f ≡ None) → refusal_for w b audit a f code what ≡ None → can_succeed w b f s ≡ true
      by-action code action.Nothing masters h = cc
      by-action code action.MasterRecovery masters h = absurd (none-some s (sym (masters refl) ∙ at))
      by-action code action.IntermediateRecovery masters h =
          let has = passed (has_successor w b f (source_of b f)) NoCandidate (neither (held_off b audit a f a.by_intermediate) (without_successor w b f) h).1 in
          sym (ap (has_successor w b f) at) ∙ has

      by-code : (o : Option Code) → code_at b f ≡ o → refusal_by w b audit a f o ≡ None → can_succeed w b f s ≡ true
      by-code None e h = cc
      by-code (Some code) e h = by-action code (action_of code) (master-source b f code e) (neither _ (refusal_for w b audit a f code (action_of code)) h).1

  -- it logs, and is none of them
  successor : (f s : ServerNo) → recovery_refusal w b audit a f ≡ None → source_of b f ≡ Some s → (has_log w s ≡ true) × (is_replica_of b f s ≡ false)
  successor f s free at =
      let one = and_parts (is_valid b s) (has_log w s && (same_label w s f && not (is_replica_of b f s))) (succeeds f s free at) in
      let two = and_parts (has_log w s) (same_label w s f && not (is_replica_of b f s)) one.1 in
      (two.0, not-true (is_replica_of b f s) (and_parts (same_label w s f) (not (is_replica_of b f s)) two.1).1)

  recovery-are : (f : ServerNo) → recovery_refusal w b audit a f ≡ None → AreReplicas (recovery_purpose b f) f (replicas_of b f)
  recovery-are f free = go (source_of b f) refl
    where
      go : (o : Option ServerNo) → source_of b f ≡ o → AreReplicas (purpose_by o) f (replicas_of b f)
      go None e = record { distinct = replicas-few b f; placed = tt }
      go (Some s) e = record { distinct = replicas-few b f; placed = no-replica b f s (successor f s free e).1 }

  recovery-logs : (f : ServerNo) → recovery_refusal w b audit a f ≡ None → NamesLogging w (recovery_purpose b f)
  recovery-logs f free = go (source_of b f) refl
    where
      go : (o : Option ServerNo) → source_of b f ≡ o → NamesLogging w (purpose_by o)
      go None e = tt
      go (Some s) e = logged (server_at w s.0) (successor f s free e).0

  unrefused-takeover : (i d : ServerNo) → takeover_refusal w b audit a i d ≡ None → (no_master b i ≡ None) × (no_replica b i d ≡ None) × (first_refusal w b (case_of b i d) row ≡ None)
  unrefused-takeover i d free =
      of-five (only_if (not (is_instance b i && is_instance b d)) UnknownInstance) (first_refusal w b (case_of b i d) row) (held_back b audit a i) (no_master b i)
      (no_replica b i d) free

  -- the master is an instance of the book
  pub takeover-knows : (i d : ServerNo) → takeover_refusal w b audit a i d ≡ None → is_instance b i ≡ true
  takeover-knows i d free =
      (and_parts (is_instance b i) (is_instance b d) (passed (is_instance b i && is_instance b d) UnknownInstance (neither (only_if (not (is_instance b i && is_instance b d)) UnknownInstance) _ free).0)).0

  takeover-logs : (i d : ServerNo) → takeover_refusal w b audit a i d ≡ None → NamesLogging w (purpose.Takeover d)
  takeover-logs i d free =
      let one = neither _ (first_refusal w b (case_of b i d) (check.Busy ∷ check.Unreachable ∷ check.DestNotLogging ∷ check.SameServerId ∷ check.VersionLower ∷ [])) (unrefused-takeover i d free).2 in
      let two = neither _ (first_refusal w b (case_of b i d) (check.Unreachable ∷ check.DestNotLogging ∷ check.SameServerId ∷ check.VersionLower ∷ [])) one.1 in
      let three = neither _ (first_refusal w b (case_of b i d) (check.DestNotLogging ∷ check.SameServerId ∷ check.VersionLower ∷ [])) two.1 in
      let logs = (neither (without_log w d) None (neither _ (first_refusal w b (case_of b i d) (check.SameServerId ∷ check.VersionLower ∷ [])) three.1).0).0 in
      logged (server_at w d.0) (passed (has_log w d) refusal.DestNotLogging logs)

  takeover-are : (i d : ServerNo) → d.0 < length b.names → takeover_refusal w b audit a i d ≡ None → AreReplicas (purpose.Takeover d) i (replicas_of b i)
  takeover-are i d within free = record { distinct = λ n. few n (i.0 == n) refl; placed = one-replica b i d within attached }
    where
      two : (no_master b i ≡ None) × (no_replica b i d ≡ None) × (first_refusal w b (case_of b i d) row ≡ None)
      two = unrefused-takeover i d free

      attached : is_replica_of b i d ≡ true
      attached = sym (attached-replica i (seen_source (instance_at b d))) ∙ passed (is_given i (attached_of b d)) NotReplica two.1

      -- a master is no replica of its own
      own : is_replica_of b i i ≡ false
      own = unattached i (seen_source (instance_at b i)) (absent (source_of b i) NotMaster two.0)

      few : (n : ℕ) (c : Bool) → (i.0 == n) ≡ c → times n (i ∷ replicas_of b i) ≤ 1
      few n true e =
          few-none (cond (i.0 == n) 1 0) (times n (replicas_of b i)) (hit-few n i.0) (ap (λ m. times m (replicas_of b i)) (sym (eqb-true i.0 n e)) ∙ no-replica b i i own)
      few n false e = none-few (cond (i.0 == n) 1 0) (times n (replicas_of b i)) (ap (λ c. cond c 1 0) e) (replicas-few b i n)

  pub recovery-names : (wait job : ℕ) (f : ServerNo) (x : Begins) → recovery_try w b audit a wait job f ≡ Ok x → NamesReplicasOnce b x
  recovery-names wait job f x h =
      let parts = unrefused (recovery_refusal w b audit a f) (recovery_begins b audit a.now a.block wait job f) x h in
      subst (NamesReplicasOnce b) parts.1 (record { replicas = refl; once = recovery-are f parts.0 })

  -- the new source that is named logs
  pub try-logs : (wait job : ℕ) (f : ServerNo) (x : Begins) → recovery_try w b audit a wait job f ≡ Ok x → NamesLogging w x.job.purpose
  try-logs wait job f x h =
      let parts = unrefused (recovery_refusal w b audit a f) (recovery_begins b audit a.now a.block wait job f) x h in
      subst (λ (y : Begins). NamesLogging w y.job.purpose) parts.1 (recovery-logs f parts.0)

  pub taking-logs : (wait job : ℕ) (i d : ServerNo) (x : Begins) → takeover_try w b audit a wait job i d ≡ Ok x → NamesLogging w x.job.purpose
  taking-logs wait job i d x h =
      let parts = unrefused (takeover_refusal w b audit a i d) (takeover_begins b audit a.now a.block wait job i d) x h in
      subst (λ (y : Begins). NamesLogging w y.job.purpose) parts.1 (takeover-logs i d parts.0)

  pub takeover-names : (wait job : ℕ) (i d : ServerNo) (x : Begins) → d.0 < length b.names → takeover_try w b audit a wait job i d ≡ Ok x → NamesReplicasOnce b x
  takeover-names wait job i d x within h =
      let parts = unrefused (takeover_refusal w b audit a i d) (takeover_begins b audit a.now a.block wait job i d) x h in
      subst (NamesReplicasOnce b) parts.1 (record { replicas = refl; once = takeover-are i d within parts.0 })

-- ---- by a scan

module _ (w : World) (b : BookState) (by : ServerNo → Attempt) (wait : ℕ) where
  abbrev begins_at : Staged → Entry → Begins
  begins_at s e = recovery_begins (record b { leases = s.leases }) s.audit (by e.no).now (by e.no).block wait (s.last + 1) e.no

  -- what holds of each recovery that isn't refused as it is tried holds of all that begin
  module _ (Q : Begins → Type 0)
      (each : (s : Staged) (e : Entry) → recovery_refusal w (record b { leases = s.leases }) s.audit (by e.no) e.no ≡ None → Q (begins_at s e)) where
    step-all : (s : Staged) (e : Entry) → All Q s.begun → All Q (scan_step w b by wait s e).begun
    step-all s e all = go (staged_refusal w b (by e.no) s e.no) refl
      where
        go : (o : Option Refusal) → staged_refusal w b (by e.no) s e.no ≡ o → All Q (after_try s e (unless_refused o (begins_at s e))).begun
        go None free = All-push Q s.begun (begins_at s e) all (each s e free)
        go (Some r) why = all

    over-all : (s : Staged) (es : List Entry) → All Q s.begun → All Q (scanned_over w b by wait s es).begun
    over-all s [] all = all
    over-all s (e ∷ es) all = over-all (scan_step w b by wait s e) es (step-all s e all)

    scan-all : (audit : AuditState) (last : ℕ) → All Q (scanned w b audit by wait last).begun
    scan-all audit last = over-all (from_start b audit last) (actionable_in b) (All-nil Q)

  pub scan-names : (audit : AuditState) (last : ℕ) → All (NamesReplicasOnce b) (scanned w b audit by wait last).begun
  scan-names =
      scan-all (NamesReplicasOnce b) (λ s e free. record { replicas = refl; once = recovery-are w (record b { leases = s.leases }) s.audit (by e.no) e.no free })

  pub scan-logs : (audit : AuditState) (last : ℕ) → All (λ x. NamesLogging w x.job.purpose) (scanned w b audit by wait last).begun
  scan-logs = scan-all (λ x. NamesLogging w x.job.purpose) (λ s e free. recovery-logs w (record b { leases = s.leases }) s.audit (by e.no) e.no free)
