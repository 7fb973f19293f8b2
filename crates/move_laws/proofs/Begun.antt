-- Permitted commands by coordinates begin with operations that have `Held`, over servers that are free.
use Rattle.std.proofs.Common.{◌≡◌, ℕ, Bool, true, false, List, [], ◌∷◌, refl, sym, ◌∙◌, ap, Option, Some, None, ◌==◌, map}
use Rattle.move_laws.proofs.Prelude.{Begins, BookState, Case, Check, Command, CoordsCommand, Follows, Job, Move, Op, ServerNo, World}
use Rattle.move_laws.proofs.Prelude.{about as about_given, again, again-held, and_parts, are_held, are_listed, are_matched, attached_of, auto}
use Rattle.move_laws.proofs.Prelude.{auto-held, busy, by_gtids, each-matched, eq-eqb, filter_passes, finished, finished-held, finished-matched}
use Rattle.move_laws.proofs.Prelude.{first_about, first_of, first_refusal, following, footing, in_order, is_auto, is_first, is_replica_of, job_with}
use Rattle.move_laws.proofs.Prelude.{leases_of, master_taken, matched_in, moved_below, moved_up, moves_to, of_same_id, option_and_then, option_or}
use Rattle.move_laws.proofs.Prelude.{option_to_list, refusal_by, refused, replicas_moved_up, replicas_of, repointed, repointed_auto, repointed_by}
use Rattle.move_laws.proofs.Prelude.{siblings_of, siblings_taken, source_above, source_of, swap, swap-held, under, under-held, unders, up, up-held}
use Rattle.move_laws.proofs.Prelude.{ups, without_log}
use Rattle.move_laws.proofs.Prelude.coords_permits.{case_of, list_of, refusal_about, row_of}
use Rattle.move_laws.proofs.Prelude.coords_plans.{ops_of}
use Rattle.move_laws.proofs.Prelude.check
use Rattle.move_laws.proofs.Prelude.command
use Rattle.move_laws.proofs.Prelude.refusal
use Rattle.move_laws.proofs.Beginning.{above-by, apart-by, begins-with, logging, replicas-apart, same-apart}
use Rattle.move_laws.proofs.Firsts.{both-permitted, each-none, given-by, neither}
use Rattle.move_laws.proofs.Lists.{again-listed, among-behind, among-first, among-more, auto-listed, finished-listed, first-append, swap-listed, under-listed, unders-held, unders-listed, up-listed, ups-held, ups-listed}

self : (n : ℕ) → (n == n) ≡ true
self n = eq-eqb n n refl

module _ (w : World) (b : BookState) (jobs : List Job) (id wait : ℕ) (i : ServerNo) where
  -- a command's job begins, if each check of its row passes
  abbrev Permitted : CoordsCommand → Option ServerNo → Type 0
  Permitted c d = first_refusal w b (case_of b c i d) (row_of (by_gtids w b i) c) ≡ None

  abbrev IsBegun : CoordsCommand → Option ServerNo → Type 0
  IsBegun c d = Begins w jobs (leases_of b.leases) (list_of b c i d) (job_with id wait (ops_of w b c i d))

  up-begins : (x g : ServerNo) (list : List ServerNo) (ops : List Op) → list ≡ i ∷ x ∷ [] → ops ≡ finished (up i x g) (Follows i g ∷ []) → (i.0 == x.0) ≡ false
      → first_about (busy b) list ≡ None → Begins w jobs (leases_of b.leases) list (job_with id wait ops)
  up-begins x g list ops list_is ops_is apart free =
      begins-with w b jobs list id wait ops
      (ap (are_held (footing w [])) ops_is ∙ finished-held (footing w []) (up i x g) (Follows i g ∷ []) (up-held (footing w []) i x g apart))
      (ap (are_matched (matched_in [])) ops_is)
      (ap (λ l. are_listed l ops) list_is ∙ ap (are_listed (i ∷ x ∷ [])) ops_is
      ∙ finished-listed (i ∷ x ∷ []) (up i x g) (Follows i g ∷ []) (up-listed (i ∷ x ∷ []) i x g (among-first i (x ∷ [])) (among-more i x (x ∷ []) (among-first x []))))
      free

  moved-up : (d : Option ServerNo) → Permitted command.MoveUp d → IsBegun command.MoveUp d
  moved-up d h =
      let t = each-none (map (refusal_by w b (case_of b command.MoveUp i d)) (row_of (by_gtids w b i) command.MoveUp)) h in
      let x = given-by (source_of b i) refusal.NoSource t.1.1.0 in
      let g = given-by (option_and_then (attached_of b) (source_of b i)) refusal.SourceHasNoSource t.1.1.1.1.0 in
      let above = above-by b i x.0 g.0 x.1 g.1 in
      let ids = same-apart w b i (source_above b i) g.0 above t.1.1.1.1.1.0 in
      up-begins x.0 g.0 (list_of b command.MoveUp i d) (ops_of w b command.MoveUp i d)
      (ap (λ o. i ∷ option_to_list o) x.1)
      (ap (λ o. moved_up i o (source_above b i)) x.1 ∙ ap (moved_up i (Some x.0)) above)
      (apart-by w b i x.0 g.0 x.1 above ids) t.0

  replicas-up : (d : Option ServerNo) → Permitted command.MoveUpReplicas d → IsBegun command.MoveUpReplicas d
  replicas-up d h =
      let rs = replicas_of b i in
      let t = each-none (map (refusal_by w b (case_of b command.MoveUpReplicas i d)) (row_of (by_gtids w b i) command.MoveUpReplicas)) h in
      let x = given-by (source_of b i) refusal.NoSource t.1.1.0 in
      let moves : first_about (of_same_id w) (moves_to rs (Some x.0)) ≡ None = ap (λ o. first_about (of_same_id w) (moves_to rs o)) (sym x.1) ∙ t.1.1.1.1.0 in
      let apart = replicas-apart w b i x.0 rs x.1 (filter_passes (is_replica_of b i) _) moves in
      let ops_is : replicas_moved_up rs i (source_of b i) ≡ finished (ups rs i x.0) (following rs x.0) = ap (replicas_moved_up rs i) x.1 in
      begins-with w b jobs (i ∷ rs) id wait (replicas_moved_up rs i (source_of b i))
      (ap (are_held (footing w [])) ops_is ∙ finished-held (footing w []) (ups rs i x.0) (following rs x.0) (ups-held (footing w []) rs i x.0 apart))
      (ap (are_matched (matched_in [])) ops_is ∙ finished-matched (matched_in []) (ups rs i x.0) (following rs x.0) (each-matched (λ r. up r i x.0) rs (λ more r. refl) (matched_in [])))
      (ap (are_listed (i ∷ rs)) ops_is
      ∙ finished-listed (i ∷ rs) (ups rs i x.0) (following rs x.0) (ups-listed (i ∷ rs) rs i x.0 (among-behind i rs) (among-first i rs)))
      t.0

  moved-below : (d : Option ServerNo) → Permitted command.MoveBelow d → IsBegun command.MoveBelow d
  moved-below None h =
      let t = each-none (map (refusal_by w b (case_of b command.MoveBelow i None)) (row_of (by_gtids w b i) command.MoveBelow)) h in
      begins-with w b jobs (i ∷ []) id wait [] refl refl refl t.1.0
  moved-below (Some d) h =
      let t = each-none (map (refusal_by w b (case_of b command.MoveBelow i (Some d))) (row_of (by_gtids w b i) command.MoveBelow)) h in
      let logs = logging w b d [] t.1.1.1.1.1.1.1.1.0 in
      let x = given-by (source_of b i) refusal.NoSource t.1.1.1.0 in
      let ops_is : moved_below i (Some d) (source_of b i) ≡ finished (under i d x.0) (Follows i d ∷ []) = ap (moved_below i (Some d)) x.1 in
      begins-with w b jobs (i ∷ d ∷ []) id wait (moved_below i (Some d) (source_of b i))
      (ap (are_held (footing w [])) ops_is ∙ finished-held (footing w []) (under i d x.0) (Follows i d ∷ []) (under-held (footing w []) i d x.0 logs))
      (ap (are_matched (matched_in [])) ops_is)
      (ap (are_listed (i ∷ d ∷ [])) ops_is
      ∙ finished-listed (i ∷ d ∷ []) (under i d x.0) (Follows i d ∷ []) (under-listed (i ∷ d ∷ []) i d x.0 (among-first i (d ∷ [])) (among-more i d (d ∷ []) (among-first d []))))
      t.1.0

  -- by coordinates
  again-begins : (x : Option ServerNo) → first_about (busy b) (i ∷ []) ≡ None → Begins w jobs (leases_of b.leases) (i ∷ []) (job_with id wait (repointed i x))
  again-begins None free = begins-with w b jobs (i ∷ []) id wait [] refl refl refl free
  again-begins (Some x) free =
      begins-with w b jobs (i ∷ []) id wait (finished (again i x) (Follows i x ∷ []))
      (finished-held (footing w []) (again i x) (Follows i x ∷ []) (again-held (footing w []) i x))
      refl
      (finished-listed (i ∷ []) (again i x) (Follows i x ∷ []) (again-listed (i ∷ []) i x (among-first i []))) free

  -- by GTIDs
  auto-begins : (d : Option ServerNo) → w.gtid ≡ true → first_about (without_log w) (option_to_list d) ≡ None → first_about (busy b) (i ∷ []) ≡ None
      → Begins w jobs (leases_of b.leases) (i ∷ []) (job_with id wait (repointed_auto i d))
  auto-begins None gtid logs free = begins-with w b jobs (i ∷ []) id wait [] refl refl refl free
  auto-begins (Some d) gtid logs free =
      begins-with w b jobs (i ∷ []) id wait (finished (auto i d) (Follows i d ∷ []))
      (finished-held (footing w []) (auto i d) (Follows i d ∷ []) (auto-held (footing w []) i d gtid (logging w b d [] logs)))
      refl
      (finished-listed (i ∷ []) (auto i d) (Follows i d ∷ []) (auto-listed (i ∷ []) i d (among-first i []))) free

  repoint-begins : (d : Option ServerNo) → Permitted command.Repoint d → IsBegun command.Repoint d
  repoint-begins d h = go (by_gtids w b i) refl h
    where
      go : (way : Bool) → by_gtids w b i ≡ way → first_refusal w b (case_of b command.Repoint i d) (row_of way command.Repoint) ≡ None
          → Begins w jobs (leases_of b.leases) (i ∷ []) (job_with id wait (repointed_by way i d (source_of b i)))
      go true e h =
          let t = each-none (map (refusal_by w b (case_of b command.Repoint i d)) (row_of true command.Repoint)) h in
          auto-begins (option_or d (source_of b i)) (and_parts w.gtid (is_auto b i) e).0 t.1.1.1.1.1.1.1.0 t.1.0
      go false e h =
          let t = each-none (map (refusal_by w b (case_of b command.Repoint i d)) (row_of false command.Repoint)) h in
          again-begins (source_of b i) t.1.0

  siblings-begin : (d : Option ServerNo) → Permitted command.TakeSiblings d → IsBegun command.TakeSiblings d
  siblings-begin d h =
      let rs = siblings_of b i in
      let t = each-none (map (refusal_by w b (case_of b command.TakeSiblings i d)) (row_of (by_gtids w b i) command.TakeSiblings)) h in
      let logs = logging w b i [] t.1.1.1.1.0 in
      let x = given-by (source_of b i) refusal.NoSource t.1.1.0 in
      let ops_is : siblings_taken rs i (source_of b i) ≡ finished (unders rs i x.0) (following rs i) = ap (siblings_taken rs i) x.1 in
      begins-with w b jobs (i ∷ rs) id wait (siblings_taken rs i (source_of b i))
      (ap (are_held (footing w [])) ops_is ∙ finished-held (footing w []) (unders rs i x.0) (following rs i) (unders-held (footing w []) rs i x.0 logs))
      (ap (are_matched (matched_in [])) ops_is ∙ finished-matched (matched_in []) (unders rs i x.0) (following rs i) (each-matched (λ r. under r i x.0) rs (λ more r. refl) (matched_in [])))
      (ap (are_listed (i ∷ rs)) ops_is
      ∙ finished-listed (i ∷ rs) (unders rs i x.0) (following rs i) (unders-listed (i ∷ rs) rs i x.0 (among-behind i rs) (among-first i rs)))
      t.0

  -- the instance is one of two servers that move
  ordered : (first : Bool) (ms ns : List Move) → first_about (of_same_id w) (in_order first ms ns) ≡ None → first_about (of_same_id w) ms ≡ None
  ordered true ms ns h = (first-append (of_same_id w) ms ns h).0
  ordered false ms ns h = (first-append (of_same_id w) ns ms h).1

  swap-begins : (x g : ServerNo) (list : List ServerNo) (ops : List Op) → list ≡ i ∷ x ∷ [] → ops ≡ finished (swap i x g) (Follows i g ∷ Follows x i ∷ [])
      → (i.0 == x.0) ≡ false → (footing w []).logs i.0 ≡ true → first_about (busy b) list ≡ None → Begins w jobs (leases_of b.leases) list (job_with id wait ops)
  swap-begins x g list ops list_is ops_is apart logs free =
      let lines = Follows i g ∷ Follows x i ∷ [] in
      begins-with w b jobs list id wait ops
      (ap (are_held (footing w [])) ops_is ∙ finished-held (footing w []) (swap i x g) lines (swap-held (footing w []) i x g apart logs))
      (ap (are_matched (matched_in [])) ops_is)
      (ap (λ l. are_listed l ops) list_is ∙ ap (are_listed (i ∷ x ∷ [])) ops_is
      ∙ finished-listed (i ∷ x ∷ []) (swap i x g) lines (swap-listed (i ∷ x ∷ []) i x g (among-first i (x ∷ [])) (among-more i x (x ∷ []) (among-first x []))))
      free

  master-begins : (d : Option ServerNo) → Permitted command.TakeMaster d → IsBegun command.TakeMaster d
  master-begins d h =
      let t = each-none (map (refusal_by w b (case_of b command.TakeMaster i d)) (row_of (by_gtids w b i) command.TakeMaster)) h in
      let x = given-by (source_of b i) refusal.NoSource t.1.1.0 in
      let g = given-by (option_and_then (attached_of b) (source_of b i)) refusal.SourceHasNoSource t.1.1.1.1.0 in
      let above = above-by b i x.0 g.0 x.1 g.1 in
      let logs = logging w b i (option_to_list (source_above b i)) t.1.1.1.1.1.0 in
      let moves = ordered (is_first b i (source_of b i)) (moves_to (i ∷ []) (source_above b i)) (moves_to (option_to_list (source_of b i)) (Some i)) t.1.1.1.1.1.1.0 in
      let ids = same-apart w b i (source_above b i) g.0 above moves in
      swap-begins x.0 g.0 (list_of b command.TakeMaster i d) (ops_of w b command.TakeMaster i d)
      (ap (λ o. i ∷ option_to_list o) x.1)
      (ap (λ o. master_taken i o (source_above b i)) x.1 ∙ ap (master_taken i (Some x.0)) above)
      (apart-by w b i x.0 g.0 x.1 above ids) logs t.0

  -- an operation that asks one thing of the instance
  asked-begins : (ops : List Op) (row : List Check) (c : Case) → c.leased ≡ i ∷ [] → are_held (footing w []) ops ≡ true → are_matched (matched_in []) ops ≡ true
      → are_listed (i ∷ []) ops ≡ true
      → first_refusal w b c (check.Busy ∷ row) ≡ None → Begins w jobs (leases_of b.leases) (i ∷ []) (job_with id wait ops)
  asked-begins ops row c list held matched listed h =
      begins-with w b jobs (i ∷ []) id wait ops held matched listed
      (ap (first_about (busy b)) (sym list) ∙ (neither (refusal_by w b c check.Busy) (first_of (map (refusal_by w b c) row)) h).0)

  about : (c : CoordsCommand) (d : Option ServerNo) → Permitted c d → IsBegun c d
  about command.MoveUp d h = moved-up d h
  about command.MoveUpReplicas d h = replicas-up d h
  about command.MoveBelow d h = moved-below d h
  about command.Repoint d h = repoint-begins d h
  about command.TakeSiblings d h = siblings-begin d h
  about command.TakeMaster d h = master-begins d h
  about command.ReattachReplica d h =
      asked-begins (ops_of w b command.ReattachReplica i d) (check.Unreachable ∷ check.NoSource ∷ check.NotDetached ∷ []) (case_of b command.ReattachReplica i d) refl refl refl (simp (self) refl) h
  about command.ResetReplica d h =
      asked-begins (ops_of w b command.ResetReplica i d) (check.Unreachable ∷ check.NoSource ∷ []) (case_of b command.ResetReplica i d) refl refl refl (simp (self) refl) h
  about command.SetReadOnly d h =
      asked-begins (ops_of w b command.SetReadOnly i d) (check.Unreachable ∷ []) (case_of b command.SetReadOnly i d) refl refl refl (simp (self) refl) h
  about command.SetWriteable d h =
      asked-begins (ops_of w b command.SetWriteable i d) (check.Unreachable ∷ []) (case_of b command.SetWriteable i d) refl refl refl (simp (self) refl) h
  about x d h =
      asked-begins (ops_of w b x i d) (check.Unreachable ∷ check.NoSource ∷ check.AlreadyDetached ∷ []) (case_of b x i d) refl refl refl (simp (self) refl) h

pub permitted-begin : (w : World) (b : BookState) (jobs : List Job) (kind : Option CoordsCommand) (given : Command) (id wait : ℕ) → refused b (refusal_about w b) kind given ≡ None
    → Begins w jobs (leases_of b.leases) (about_given [] (list_of b) kind given) (job_with id wait (about_given [] (ops_of w b) kind given))
permitted-begin w b jobs kind given id wait h =
    both-permitted (λ (list : List ServerNo) (ops : List Op). Begins w jobs (leases_of b.leases) list (job_with id wait ops)) (refusal_about w b) [] (list_of b) [] (ops_of w b) b given
    (begins-with w b jobs [] id wait [] refl refl refl refl) (λ c i. about w b jobs id wait i c given.d) kind h
