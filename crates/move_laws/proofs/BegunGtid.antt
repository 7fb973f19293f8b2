-- Permitted commands by GTIDs begin with operations that have `Held`, over servers that are free.
use Rattle.std.proofs.Common.{◌≡◌, ℕ, true, not, List, [], ◌∷◌, ◌++◌, refl, Option, Some, None, map}
use Rattle.move_laws.proofs.Prelude.{Begins, BookState, Command, Follows, GtidCommand, Job, Op, Server, ServerNo, World, about as about_given, again}
use Rattle.move_laws.proofs.Prelude.{again-held, again_auto, auto, auto-held, autos, busy, case_of, disabled, each-matched, enabled, finished}
use Rattle.move_laws.proofs.Prelude.{finished-held, finished-matched, first_about, first_refusal, following, footing, job_with, leases_of, list_of}
use Rattle.move_laws.proofs.Prelude.{matched_in, only_if, ops_of, option_to_list, refusal_about, refusal_by, refused, replicas_but, replicas_moved}
use Rattle.move_laws.proofs.Prelude.{row_of, source_of, without_log}
use Rattle.move_laws.proofs.Prelude.gtid_plans.{moved}
use Rattle.move_laws.proofs.Prelude.gtids as command
use Rattle.move_laws.proofs.Prelude.refusal
use Rattle.move_laws.proofs.Beginning.{begins-with, logging}
use Rattle.move_laws.proofs.Firsts.{both-permitted, each-none, not-false, test-false}
use Rattle.move_laws.proofs.Lists.{again-listed, again_auto-held, again_auto-listed, among-before, among-first, auto-listed, autos-held, autos-listed, finished-listed}

module _ (w : World) (b : BookState) (jobs : List Job) (id wait : ℕ) where
  -- the check of the mode
  used : only_if (not w.gtid) refusal.GtidOff ≡ None → w.gtid ≡ true
  used h = not-false w.gtid (test-false (not w.gtid) refusal.GtidOff h)

  moved-begins : (i : ServerNo) (d : Option ServerNo) → w.gtid ≡ true → first_about (without_log w) (option_to_list d) ≡ None
      → first_about (busy b) (i ∷ option_to_list d) ≡ None → Begins w jobs (leases_of b.leases) (i ∷ option_to_list d) (job_with id wait (moved i d))
  moved-begins i None gtid logs free = begins-with w b jobs (i ∷ []) id wait [] refl refl refl free
  moved-begins i (Some d) gtid logs free =
      begins-with w b jobs (i ∷ d ∷ []) id wait (finished (auto i d) (Follows i d ∷ []))
      (finished-held (footing w []) (auto i d) (Follows i d ∷ []) (auto-held (footing w []) i d gtid (logging w b d [] logs)))
      refl
      (finished-listed (i ∷ d ∷ []) (auto i d) (Follows i d ∷ []) (auto-listed (i ∷ d ∷ []) i d (among-first i (d ∷ [])))) free

  replicas-begin : (rs : List ServerNo) (d : Option ServerNo) → w.gtid ≡ true → first_about (without_log w) (option_to_list d) ≡ None
      → first_about (busy b) (rs ++ option_to_list d) ≡ None
      → Begins w jobs (leases_of b.leases) (rs ++ option_to_list d) (job_with id wait (replicas_moved rs d))
  replicas-begin rs None gtid logs free = begins-with w b jobs (rs ++ []) id wait [] refl refl refl free
  replicas-begin rs (Some d) gtid logs free =
      begins-with w b jobs (rs ++ d ∷ []) id wait (finished (autos rs d) (following rs d))
      (finished-held (footing w []) (autos rs d) (following rs d) (autos-held (footing w []) rs d gtid (logging w b d [] logs)))
      (finished-matched (matched_in []) (autos rs d) (following rs d) (each-matched (λ r. auto r d) rs (λ more r. refl) (matched_in [])))
      (finished-listed (rs ++ d ∷ []) (autos rs d) (following rs d) (autos-listed (rs ++ d ∷ []) rs d (among-before rs (d ∷ [])))) free

  enabled-begins : (i : ServerNo) (x : Option ServerNo) → w.gtid ≡ true → first_about (busy b) (i ∷ option_to_list x) ≡ None
      → Begins w jobs (leases_of b.leases) (i ∷ option_to_list x) (job_with id wait (enabled i x))
  enabled-begins i None gtid free = begins-with w b jobs (i ∷ []) id wait [] refl refl refl free
  enabled-begins i (Some x) gtid free =
      begins-with w b jobs (i ∷ x ∷ []) id wait (finished (again_auto i x) (Server i ∷ []))
      (finished-held (footing w []) (again_auto i x) (Server i ∷ []) (again_auto-held (footing w []) i x gtid))
      refl
      (finished-listed (i ∷ x ∷ []) (again_auto i x) (Server i ∷ []) (again_auto-listed (i ∷ x ∷ []) i x (among-first i (x ∷ [])))) free

  disabled-begins : (i : ServerNo) (x : Option ServerNo) → first_about (busy b) (i ∷ []) ≡ None
      → Begins w jobs (leases_of b.leases) (i ∷ []) (job_with id wait (disabled i x))
  disabled-begins i None free = begins-with w b jobs (i ∷ []) id wait [] refl refl refl free
  disabled-begins i (Some x) free =
      begins-with w b jobs (i ∷ []) id wait (finished (again i x) (Server i ∷ []))
      (finished-held (footing w []) (again i x) (Server i ∷ []) (again-held (footing w []) i x))
      refl
      (finished-listed (i ∷ []) (again i x) (Server i ∷ []) (again-listed (i ∷ []) i x (among-first i []))) free

  -- a command's job begins, if each check of its row passes
  about : (c : GtidCommand) (i : ServerNo) (d : Option ServerNo) → first_refusal w b (case_of b c i d) (row_of c) ≡ None
      → Begins w jobs (leases_of b.leases) (list_of b c i d) (job_with id wait (ops_of b c i d))
  about command.MoveGtid i d h =
      let t = each-none (map (refusal_by w b (case_of b command.MoveGtid i d)) (row_of command.MoveGtid)) h in
      moved-begins i d (used t.1.1.1.1.1.1.1.1.0) t.1.1.1.1.1.0 t.1.0
  about command.MoveReplicasGtid i d h =
      let t = each-none (map (refusal_by w b (case_of b command.MoveReplicasGtid i d)) (row_of command.MoveReplicasGtid)) h in
      replicas-begin (replicas_but b i d) d (used t.1.1.1.1.1.1.1.1.0) t.1.1.1.1.1.0 t.1.0
  about command.EnableGtid i d h =
      let t = each-none (map (refusal_by w b (case_of b command.EnableGtid i d)) (row_of command.EnableGtid)) h in
      enabled-begins i (source_of b i) (used t.1.1.1.1.0) t.0
  about command.DisableGtid i d h =
      let t = each-none (map (refusal_by w b (case_of b command.DisableGtid i d)) (row_of command.DisableGtid)) h in
      disabled-begins i (source_of b i) t.0

pub permitted-begin : (w : World) (b : BookState) (jobs : List Job) (kind : Option GtidCommand) (given : Command) (id wait : ℕ) → refused b (refusal_about w b) kind given ≡ None
    → Begins w jobs (leases_of b.leases) (about_given [] (list_of b) kind given) (job_with id wait (about_given [] (ops_of b) kind given))
permitted-begin w b jobs kind given id wait h =
    both-permitted (λ (list : List ServerNo) (ops : List Op). Begins w jobs (leases_of b.leases) list (job_with id wait ops)) (refusal_about w b) [] (list_of b) [] (ops_of b) b given
    (begins-with w b jobs [] id wait [] refl refl refl refl) (λ c i. about w b jobs id wait c i given.d) kind h
