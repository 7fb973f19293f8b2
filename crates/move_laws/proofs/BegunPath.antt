-- Permitted commands begin with operations that have `Held`, over servers that are free.
use Rattle.std.proofs.Common.{◌≡◌, ℕ, Bool, true, false, List, [], ◌∷◌, ◌++◌, refl, Option, Some, None, map}
use Rattle.move_laws.proofs.Prelude.{Begins, BookState, Command, Job, Moment, Op, PathCommand, ServerNo, World, about as about_given, auto, autos}
use Rattle.move_laws.proofs.Prelude.{busy, each-matched, finished, finished-held, finished-matched, first_about, first_refusal, following, footing}
use Rattle.move_laws.proofs.Prelude.{job_with, leases_of, matched_in, moved_by, moving_list, option_to_list, passed_by, path_of, refusal_by, refused}
use Rattle.move_laws.proofs.Prelude.{relocate_row, relocated, replicas_but, replicas_of, replicas_row, travelled, without_log}
use Rattle.move_laws.proofs.Lists.{among-before, autos-held, autos-listed, finished-listed}
use Rattle.move_laws.proofs.Beginning.{begins-with, logging}
use Rattle.regroup.specs.Permits.{case_of, list_of, refusal_about, rest_refusal, row_of}
use Rattle.move_laws.proofs.Firsts.{both-permitted, each-none, neither}
use Rattle.regroup.specs.Plans.{ops_of}
use Rattle.recovery_core.specs.Commands.declared.kinds.PathCommand.TheVariants as command
use Rattle.move_laws.proofs.Plans.{among-last, among-middle, each-held, each-listed, travelled-matched}

module _ (w : World) (b : BookState) (now : Moment) (jobs : List Job) (id wait : ℕ) where
  -- servers go below another one that logs
  moved-begin : (movers : List ServerNo) (d : ServerNo) → first_about (without_log w) (d ∷ []) ≡ None → (gtid : Bool) → w.gtid ≡ gtid
      → first_about (busy b) (movers ++ d ∷ passed_by gtid b movers (Some d)) ≡ None
      → Begins w jobs (leases_of b.leases) (movers ++ d ∷ passed_by gtid b movers (Some d)) (job_with id wait (finished (moved_by gtid b movers d) (following movers d)))
  moved-begin movers d logs true used free =
      begins-with w b jobs (movers ++ d ∷ []) id wait (finished (autos movers d) (following movers d))
      (finished-held (footing w []) (autos movers d) (following movers d) (autos-held (footing w []) movers d used (logging w b d [] logs)))
      (finished-matched (matched_in []) (autos movers d) (following movers d) (each-matched (λ r. auto r d) movers (λ more r. refl) (matched_in [])))
      (finished-listed (movers ++ d ∷ []) (autos movers d) (following movers d) (autos-listed (movers ++ d ∷ []) movers d (among-before movers (d ∷ [])))) free
  moved-begin movers d logs false used free =
      let passed = passed_by false b movers (Some d) in
      let list = movers ++ d ∷ passed in
      let ops = moved_by false b movers d in
      begins-with w b jobs list id wait (finished ops (following movers d))
      (finished-held (footing w []) ops (following movers d) (each-held (footing w []) b movers d (logging w b d [] logs)))
      (finished-matched (matched_in []) ops (following movers d) (each-matched (λ n. travelled n d (path_of b n d)) movers (λ more n. travelled-matched more n d (path_of b n d)) (matched_in [])))
      (finished-listed list ops (following movers d)
      (each-listed list b movers d (among-before movers (d ∷ passed)) (among-middle movers passed d) (among-last movers passed d))) free

  relocated-begin : (movers : List ServerNo) (d : Option ServerNo) → first_about (without_log w) (option_to_list d) ≡ None
      → first_about (busy b) (moving_list w b movers d) ≡ None
      → Begins w jobs (leases_of b.leases) (moving_list w b movers d) (job_with id wait (relocated w.gtid b movers d))
  relocated-begin movers None logs free = begins-with w b jobs (moving_list w b movers None) id wait [] refl refl refl free
  relocated-begin movers (Some d) logs free = moved-begin movers d logs w.gtid refl free

  -- the checks on which a job rests
  abbrev Checked : PathCommand → ServerNo → Option ServerNo → Type 0
  Checked c i d = (first_about (busy b) (list_of w b c i d) ≡ None) × (first_about (without_log w) (option_to_list d) ≡ None)

  one-checked : (i : ServerNo) (d : Option ServerNo) (gtid : Bool) → first_refusal w b (case_of w b command.Relocate i d) (relocate_row gtid) ≡ None
      → Checked command.Relocate i d
  one-checked i d true h = let t = each-none (map (refusal_by w b (case_of w b command.Relocate i d)) (relocate_row true)) h in (t.1.0, t.1.1.1.1.1.0)
  one-checked i d false h = let t = each-none (map (refusal_by w b (case_of w b command.Relocate i d)) (relocate_row false)) h in (t.1.0, t.1.1.1.1.1.1.1.0)

  each-checked : (i : ServerNo) (d : Option ServerNo) (gtid : Bool) → first_refusal w b (case_of w b command.RelocateReplicas i d) (replicas_row gtid) ≡ None
      → Checked command.RelocateReplicas i d
  each-checked i d true h = let t = each-none (map (refusal_by w b (case_of w b command.RelocateReplicas i d)) (replicas_row true)) h in (t.1.0, t.1.1.1.1.1.0)
  each-checked i d false h = let t = each-none (map (refusal_by w b (case_of w b command.RelocateReplicas i d)) (replicas_row false)) h in (t.1.0, t.1.1.1.1.1.0)

  about : (c : PathCommand) (i : ServerNo) (d : Option ServerNo) → first_refusal w b (case_of w b c i d) (row_of w.gtid c) ≡ None
      → Begins w jobs (leases_of b.leases) (list_of w b c i d) (job_with id wait (ops_of w b c i d))
  about command.Relocate i d h = let t = one-checked i d w.gtid h in relocated-begin (i ∷ []) d t.1 t.0
  about command.RelocateReplicas i d h = let t = each-checked i d w.gtid h in relocated-begin (replicas_but b i d) d t.1 t.0
  about command.RegroupReplicas i d h =
      let t = each-none (map (refusal_by w b (case_of w b command.RegroupReplicas i d)) (row_of w.gtid command.RegroupReplicas)) h in
      begins-with w b jobs (i ∷ replicas_of b i) id wait [] refl refl refl t.0

pub permitted-begin : (w : World) (b : BookState) (now : Moment) (jobs : List Job) (kind : Option PathCommand) (given : Command) (id wait : ℕ)
    → refused b (refusal_about w b now) kind given ≡ None
    → Begins w jobs (leases_of b.leases) (about_given [] (list_of w b) kind given) (job_with id wait (about_given [] (ops_of w b) kind given))
permitted-begin w b now jobs kind given id wait h =
    both-permitted (λ (list : List ServerNo) (ops : List Op). Begins w jobs (leases_of b.leases) list (job_with id wait ops)) (refusal_about w b now) [] (list_of w b) [] (ops_of w b) b given
    (begins-with w b jobs [] id wait [] refl refl refl refl)
    (λ c i passed. about w b now jobs id wait c i given.d (neither (first_refusal w b (case_of w b c i given.d) (row_of w.gtid c)) (rest_refusal w b now c i given.d) passed).0) kind h
