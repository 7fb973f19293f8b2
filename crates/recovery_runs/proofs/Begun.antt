-- What a turn begins is plans, and recoveries as they begin, which name no replica twice.
use Rattle.std.proofs.Common.{◌≡◌, ℕ, ◌+◌, ◌<◌, true, List, [], ◌∷◌, length, map, refl, Option, Some, None, ◌∙◌, ◌⊎◌, inl, inr, ap, arith, All, IfSome, slice_get, get_or, ◌≤◌}
use Rattle.std.specs.Prelude.{is_some}
use Rattle.recovery_runs.proofs.Prelude.{Act, All-cons, All-contains, All-head, All-nil, All-tail, AreHooksOf, AreShort, AuditState, BeginInTurn}
use Rattle.recovery_runs.proofs.Prelude.{Begins as RecoveryBegins, BeginsOnce, BookState, Code, Comes, Command, CommandTurn, Configuration, HasHooks}
use Rattle.recovery_runs.proofs.Prelude.{HostPort, IsAct, IsAskedFor, IsBook, IsCommand, IsEntryIn, IsFresh, IsTurn, Means, NamesReplicasOnce}
use Rattle.recovery_runs.proofs.Prelude.{Outcome, Planner, Ready, Refusal, ServerNo, State, TellsAll, Turn, Unended, World, act-fits, act_in}
use Rattle.recovery_runs.proofs.Prelude.{actionable-entries, actionable_in, asked, attempt_in, begun_hooks, begun_recovery, by_hand, code_at}
use Rattle.recovery_runs.proofs.Prelude.{command-comes, command_outcome, false≢true, given-in, given-there, hooks_by, instance_at, is_takeover, job_by, job_in, jobs_begun, jobs_done}
use Rattle.recovery_runs.proofs.Prelude.{jobs_in_act, jobs_of, label_at, means_of, numbers_of, option_map, purpose_by, recovery-names}
use Rattle.recovery_runs.proofs.Prelude.{recovery_begins, recovery_job, recovery_refusal, regroup-are, regroup_about, replicas_of, scan-each}
use Rattle.recovery_runs.proofs.Prelude.{scan-in-turn, scan-names, scan_in, scan_outcome, short-by, slice_get_cases, source_of, takeover-knows, takeover-names}
use Rattle.recovery_runs.proofs.Prelude.{takeover_begins, takeover_refusal, told_of, unless_refused, with_told, within-book}
use Rattle.recovery_runs.proofs.Prelude.Audits.{begun as begun_audit}
use Rattle.recovery_runs.proofs.Prelude.Leases.{taken}
use Rattle.recovery_runs.proofs.Prelude.Recoveries.{refusal_by as recovery_refusal_by}
use Rattle.recovery_runs.proofs.Prelude.RecoveryPermits.{Attempt}
use Rattle.recovery_runs.proofs.Prelude.act
use Rattle.recovery_runs.proofs.Prelude.means
use Rattle.recovery_runs.proofs.Prelude.turn
use Rattle.recovery_runs.proofs.Prelude.comes
use Rattle.recovery_runs.proofs.Tellings.{listed, tells-own}

-- what an outcome begins in a state
module _ (state : State) where
  abbrev b : BookState
  b = state.book

  abbrev c : Configuration
  c = state.configuration

  abbrev Once : Unended → Type 0
  Once u = BeginsOnce state u

  none-new : All Once []
  none-new = All-nil Once

  -- ---- the job of a command

  regroup-once : (by : Means) (id wait : ℕ) (i : Option ServerNo) → Once (regroup_about b by id wait i)
  regroup-once by id wait None = tt
  regroup-once by id wait (Some i) = record {
    fresh = refl;
    replicas = refl;
    once = regroup-are b i;
    tells = tells-own None (replicas_of b i);
    hooks = refl;
    known = λ over. absurd (false≢true over);
  }

  job-once : (w : World) (c : Command) (p : Planner) (id wait every : ℕ) → Once (job_by w b c p id wait every)
  job-once w c p id wait every = go (means_of every p)
    where
      go : (by : Option Means) → Once (job_in w b c p id wait every by)
      go None = tt
      go (Some by) = regroup-once by id wait c.i

  -- ---- recoveries

  abbrev Hooked : RecoveryBegins → Type 0
  Hooked x = HasHooks state x.job.purpose x.job.failed (hooks_by c b x x.code)

  abbrev Known : RecoveryBegins → Type 0
  Known x = is_takeover x.job.purpose ≡ true → is_some (instance_at b x.job.failed) ≡ true

  begins-once : (x : RecoveryBegins) → IsFresh x.job → NamesReplicasOnce b x → TellsAll x.job → Hooked x → Known x → Once (recovery_job (with_told c b x))
  begins-once x fresh names tells hooks known = record { fresh = fresh; replicas = names.replicas; once = names.once; tells = tells; hooks = hooks; known = known }

  -- one that isn't asked for as a takeover is none
  no-takeover : (o : Option ServerNo) → is_takeover (purpose_by o) ≡ true → ⊥
  no-takeover None over = false≢true over
  no-takeover (Some s) over = false≢true over

  -- of a server that is there and has an analysis
  module _ (audit : AuditState) (a : Attempt) (wait job : ℕ) (f : ServerNo) where
    abbrev new : RecoveryBegins
    new = recovery_begins b audit a.now a.block wait job f

    are-hooks : (code : Code) → f.0 < length b.names → code_at b f ≡ Some code → AreHooksOf state f (hooks_by c b new new.code)
    are-hooks code here at = go (slice_get_cases b.names f.0).1
      where
        go : ((n : HostPort) × (f.0 < length b.names) × (slice_get b.names f.0 ≡ Some n) × (get_or b.names f.0 n ≡ n)) ⊎ ((length b.names ≤ f.0) × (slice_get b.names f.0 ≡ None)) → AreHooksOf state f (hooks_by c b new new.code)
        go (inl (n, within, got, same)) = record {
          code = code;
          name = n;
          is_code = at;
          is_name = got;
          hooks = ap (hooks_by c b new) at ∙ ap (option_map (λ m. begun_hooks c.hooks (told_of c m (label_at b f) code))) got;
        }
        go (inr (past, none)) = absurd (omega (arith, past, here))

    -- by whether it has a source
    hooks-by : (o : Option ServerNo) (code : Code) → f.0 < length b.names → code_at b f ≡ Some code → HasHooks state (purpose_by o) f (hooks_by c b new new.code)
    hooks-by None code here at = are-hooks code here at
    hooks-by (Some s) code here at = are-hooks code here at

  -- by whether the failed server has a source
  tells-by : (o : Option ServerNo) (job wait : ℕ) (f : ServerNo) → TellsAll (begun_recovery (purpose_by o) means.Bridges job wait f (replicas_of b f) (replicas_of b f))
  tells-by None job wait f = tells-own None (replicas_of b f)
  tells-by (Some s) job wait f = tells-own (Some s) (replicas_of b f)

  module _ (w : World) (audit : AuditState) (a : Attempt) (wait job : ℕ) where
    -- what isn't refused has an analysis
    analysed : (f : ServerNo) → recovery_refusal w b audit a f ≡ None → (code : Code) × (code_at b f ≡ Some code)
    analysed f free = go (code_at b f) refl free
      where
        go : (o : Option Code) → code_at b f ≡ o → recovery_refusal_by w b audit a f o ≡ None → (code : Code) × (code_at b f ≡ Some code)
        go None at h = absurd cc
        go (Some code) at h = (code, at)

    recovery-once : (f : ServerNo) → f.0 < length b.names → recovery_refusal w b audit a f ≡ None → Once (recovery_job (with_told c b (recovery_begins b audit a.now a.block wait job f)))
    recovery-once f here free =
        let x = recovery_begins b audit a.now a.block wait job f in
        let has = analysed f free in
        begins-once x refl (recovery-names w b audit a wait job f x (ap (λ (o : Option Refusal). unless_refused o x) free)) (tells-by (source_of b f) job wait f) (hooks-by audit a wait job f (source_of b f) has.0 here has.1)
        (λ over. absurd (no-takeover (source_of b f) over))

    takeover-once : (i d : ServerNo) → i.0 < length b.names → d.0 < length b.names → takeover_refusal w b audit a i d ≡ None → Once (recovery_job (with_told c b (takeover_begins b audit a.now a.block wait job i d)))
    takeover-once i d here there free =
        let x = takeover_begins b audit a.now a.block wait job i d in
        begins-once x refl (takeover-names w b audit a wait job i d x there (ap (λ (o : Option Refusal). unless_refused o x) free)) (listed b i d here) refl (λ over. takeover-knows w b audit a i d free)

  -- of several, each as it begins
  all-once : (count : ℕ) (leases : List (Option ℕ)) (a : AuditState) (last : ℕ) (xs : List RecoveryBegins) → BeginInTurn count leases a last xs → All (NamesReplicasOnce b) xs
      → All (λ x. TellsAll x.job) xs → All Hooked xs → All Known xs → All Once (map recovery_job (map (with_told c b) xs))
  all-once count leases a last [] each names tells hooks known = none-new
  all-once count leases a last (x ∷ xs) each names tells hooks known =
      All-cons Once (recovery_job (with_told c b x)) (map recovery_job (map (with_told c b) xs))
      (begins-once x each.0.fresh (All-head (NamesReplicasOnce b) x xs names) (All-head (λ (y : RecoveryBegins). TellsAll y.job) x xs tells) (All-head Hooked x xs hooks) (All-head Known x xs known))
      (all-once count (taken leases x.list x.job.core.id) (begun_audit a x.entry) x.job.core.id xs each.1 (All-tail (NamesReplicasOnce b) x xs names)
      (All-tail (λ (y : RecoveryBegins). TellsAll y.job) x xs tells) (All-tail Hooked x xs hooks) (All-tail Known x xs known))

-- ---- in a state

scan-new : (s : State) → IsBook s.book → AreShort s.configuration → All (BeginsOnce s) (jobs_of s (scan_outcome s))
scan-new s is periods =
    all-once s (length s.book.names) s.book.leases s.audit s.last_job (scan_in s).begun
    (scan-in-turn s.world s.book (attempt_in s) s.configuration.wait s.audit s.last_job is (λ n. short-by s.configuration periods (label_at s.book n)))
    (scan-names s.world s.book (attempt_in s) s.configuration.wait s.audit s.last_job)
    (scan-each s.world s.book (attempt_in s) s.configuration.wait (λ x. TellsAll x.job) (λ z e asks. tells-by s (source_of s.book e.no) (z.last + 1) s.configuration.wait e.no) s.audit s.last_job)
    (scan-each s.world s.book (attempt_in s) s.configuration.wait (Hooked s)
    (λ z e asks.
    let in_book = All-contains (IsEntryIn s.book) (actionable_in s.book) e (actionable-entries s.book) asks in
    hooks-by s z.audit (attempt_in s e.no) s.configuration.wait (z.last + 1) e.no (source_of s.book e.no) e.code in_book.within in_book.code) s.audit s.last_job)
    (scan-each s.world s.book (attempt_in s) s.configuration.wait (Known s) (λ z e asks over. absurd (no-takeover s (source_of s.book e.no) over)) s.audit s.last_job)

-- ---- any turn

pub command-once : (count : ℕ) (s : State) → Ready count s → (c : CommandTurn) → IsCommand count c → All (BeginsOnce s) (jobs_of s (command_outcome s c))
command-once count s ready c command = by (command_outcome s c) (command-comes s c)
  where
    asked-once : (x : RecoveryBegins) → IsAskedFor s c.command x → BeginsOnce s (recovery_job (with_told s.configuration s.book x))
    asked-once x (comes.Fails i route at free) = recovery-once s s.world s.audit (by_hand s.book s.configuration (numbers_of s) i) s.configuration.wait (s.last_job + 1) i (given-in count s ready c command i at) free
    asked-once x (comes.Passes i d route at there free) =
        takeover-once s s.world s.audit (by_hand s.book s.configuration (numbers_of s) i) s.configuration.wait (s.last_job + 1) i d (given-in count s ready c command i at)
        (given-there (length s.book.names) c.command.d d there (within-book count s ready c command).1) free

    by : (o : Outcome) → Comes s c o → All (BeginsOnce s) (jobs_of s o)
    by o (comes.Begun p at free) =
        All-cons (BeginsOnce s) (job_by s.world s.book c.command p (s.last_job + 1) s.configuration.wait s.configuration.every) [] (job-once s s.world c.command p (s.last_job + 1) s.configuration.wait s.configuration.every) (none-new s)
    by o (comes.Recovered x asked) = All-cons (BeginsOnce s) (recovery_job (with_told s.configuration s.book x)) [] (asked-once x asked) (none-new s)
    by o _ = none-new s

pub scan-once : (count : ℕ) (s : State) → Ready count s → All (BeginsOnce s) (jobs_of s (scan_outcome s))
scan-once count s ready = scan-new s ready.book ready.periods

act-once : (count : ℕ) (s : State) (a : Act) → Ready count s → IsAct count a → All (BeginsOnce s) (jobs_in_act s a)
act-once count s (act.Command c) ready is = command-once count s ready c is
act-once count s act.Scan ready is = scan-once count s ready
act-once count s _ ready is = none-new s

done-once : (count : ℕ) (s : State) (o : Option Act) → Ready count s → IfSome o (IsAct count) → All (BeginsOnce s) (jobs_done s o)
done-once count s None ready is = none-new s
done-once count s (Some a) ready is = act-once count s a ready is

pub begun-once : (count : ℕ) (s : State) (t : Turn) → Ready count s → IsTurn count t → All (BeginsOnce s) (jobs_begun s t)
begun-once count s (turn.Act a) ready is = act-once count s a ready is
begun-once count s (turn.As node a) ready is = done-once count s (act_in s (turn.As node a)) ready (act-fits count s (turn.As node a) is)
begun-once count s (turn.Claim node) ready is = done-once count s (act_in s (turn.Claim node)) ready (act-fits count s (turn.Claim node) is)
begun-once count s _ ready is = none-new s
