-- Permitted commands by matches begin with operations that have `Held` and their matches, over servers that are free.
use Rattle.std.proofs.Common.{◌≡◌, ℕ, List, [], ◌∷◌, ◌++◌, refl, Option, Some, None, map}
use Rattle.move_laws.proofs.Prelude.{Begins, BookState, Command, Follows, Job, MatchCommand, Moment, Op, ServerNo, World, about as about_given, busy}
use Rattle.move_laws.proofs.Prelude.{each-matched, finished, finished-held, finished-matched, first_about, first_refusal, following, footing}
use Rattle.move_laws.proofs.Prelude.{job_with, leases_of, matched_in, matching, matchings, moved, option_to_list, refusal_by, refused, replicas_but}
use Rattle.move_laws.proofs.Prelude.{replicas_of, rest_refusal, row_refusal, source_above, sources_over, without_log}
use Rattle.move_laws.proofs.Prelude.Permits.{case_of, list_of, refusal_about, row_of}
use Rattle.move_laws.proofs.Prelude.Plans.{ops_of, replicas_moved}
use Rattle.move_laws.proofs.Prelude.pseudocommand as command
use Rattle.move_laws.proofs.Beginning.{begins-with, logging}
use Rattle.move_laws.proofs.Firsts.{both-permitted, each-none, neither}
use Rattle.move_laws.proofs.Lists.{Among, among-before, among-first, finished-listed, matching-held, matching-listed, matching-matched, matchings-held, matchings-listed}

module _ (w : World) (b : BookState) (jobs : List Job) (id wait every : ℕ) where
  moved-begins : (list : List ServerNo) (i : ServerNo) (d : Option ServerNo) → Among list i → first_about (without_log w) (option_to_list d) ≡ None
      → first_about (busy b) list ≡ None → Begins w jobs (leases_of b.leases) list (job_with id wait (moved i every d))
  moved-begins list i None among logs free = begins-with w b jobs list id wait [] refl refl refl free
  moved-begins list i (Some d) among logs free =
      begins-with w b jobs list id wait (finished (matching i d every) (Follows i d ∷ []))
      (finished-held (footing w []) (matching i d every) (Follows i d ∷ []) (matching-held (footing w []) i d every (logging w b d [] logs)))
      (finished-matched (matched_in []) (matching i d every) (Follows i d ∷ []) (matching-matched (matched_in []) i d every))
      (finished-listed list (matching i d every) (Follows i d ∷ []) (matching-listed list i d every among)) free

  replicas-begin : (rs : List ServerNo) (d : Option ServerNo) → first_about (without_log w) (option_to_list d) ≡ None
      → first_about (busy b) (rs ++ option_to_list d) ≡ None
      → Begins w jobs (leases_of b.leases) (rs ++ option_to_list d) (job_with id wait (replicas_moved rs every d))
  replicas-begin rs None logs free = begins-with w b jobs (rs ++ []) id wait [] refl refl refl free
  replicas-begin rs (Some d) logs free =
      begins-with w b jobs (rs ++ d ∷ []) id wait (finished (matchings rs d every) (following rs d))
      (finished-held (footing w []) (matchings rs d every) (following rs d) (matchings-held (footing w []) rs d every (logging w b d [] logs)))
      (finished-matched (matched_in []) (matchings rs d every) (following rs d) (each-matched (λ r. matching r d every) rs (λ more r. matching-matched more r d every) (matched_in [])))
      (finished-listed (rs ++ d ∷ []) (matchings rs d every) (following rs d) (matchings-listed (rs ++ d ∷ []) rs d every (among-before rs (d ∷ [])))) free

  -- a command's job begins, if each check of its row passes
  about : (c : MatchCommand) (i : ServerNo) (d : Option ServerNo) → first_refusal w b (case_of b c i d) (row_of c) ≡ None
      → Begins w jobs (leases_of b.leases) (list_of b c i d) (job_with id wait (ops_of b every c i d))
  about command.Match i d h =
      let t = each-none (map (refusal_by w b (case_of b command.Match i d)) (row_of command.Match)) h in
      moved-begins (i ∷ option_to_list d) i d (among-first i (option_to_list d)) t.1.1.1.1.1.0 t.1.0
  about command.MatchUp i d h =
      let t = each-none (map (refusal_by w b (case_of b command.MatchUp i d)) (row_of command.MatchUp)) h in
      moved-begins (i ∷ sources_over b i) i (source_above b i) (among-first i (sources_over b i)) t.1.1.1.1.1.0 t.0
  about command.MatchReplicas i d h =
      let t = each-none (map (refusal_by w b (case_of b command.MatchReplicas i d)) (row_of command.MatchReplicas)) h in
      replicas-begin (replicas_but b i d) d t.1.1.1.1.1.0 t.1.0
  about command.RegroupReplicas i d h =
      let t = each-none (map (refusal_by w b (case_of b command.RegroupReplicas i d)) (row_of command.RegroupReplicas)) h in
      begins-with w b jobs (i ∷ replicas_of b i) id wait [] refl refl refl t.0

pub permitted-begin : (w : World) (b : BookState) (jobs : List Job) (now : Moment) (every : ℕ) (kind : Option MatchCommand) (given : Command) (id wait : ℕ)
    → refused b (refusal_about w b now every) kind given ≡ None
    → Begins w jobs (leases_of b.leases) (about_given [] (list_of b) kind given) (job_with id wait (about_given [] (ops_of b every) kind given))
permitted-begin w b jobs now every kind given id wait h =
    both-permitted (λ (list : List ServerNo) (ops : List Op). Begins w jobs (leases_of b.leases) list (job_with id wait ops)) (refusal_about w b now every) [] (list_of b) [] (ops_of b every) b given
    (begins-with w b jobs [] id wait [] refl refl refl refl)
    (λ c i passed. about w b jobs id wait every c i given.d (neither (row_refusal w b c i given.d) (rest_refusal w b now every c i given.d) passed).0) kind h
