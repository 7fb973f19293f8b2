-- What a permitted command, a recovery and a takeover begin stays within the cluster.
use Rattle.std.proofs.Common.{◌≡◌, ℕ, Bool, true, false, not, List, [], ◌∷◌, ◌+◌, ◌++◌, map, refl, sym, ◌∙◌, ap, subst, Option, Some, None, Ok, ◌&&◌, All}
use Rattle.tidy_laws.proofs.Prelude.{All-append, All-cons, All-head, All-nil, All-push, All-tail, AllWithin, AreAlike, AreDueWithin, AuditState}
use Rattle.tidy_laws.proofs.Prelude.{Begins, BookState, Clusters, Command, Coordinates, CoordsCommand, Deed, Follows, GtidCommand, Gtids, IsDueWithin}
use Rattle.tidy_laws.proofs.Prelude.{IsJobWithin, IsRecoveryWithin, IsTaskWithin, IsTrim, IsUnendedWithin, Line, MatchCommand, Matches, Means, Moment}
use Rattle.tidy_laws.proofs.Prelude.{Op, Path, PathCommand, Paths, Planner, Purpose, Refusal, Server as AServer, ServerNo, Staged, Stopped, Task}
use Rattle.tidy_laws.proofs.Prelude.{World, about-permitted, actionable_in, after_try, again, again_auto, and_parts, arrived, ascended, auto, autos}
use Rattle.tidy_laws.proofs.Prelude.{begun_recovery, but, climbed, cluster_in, deed_of, each-none, finished, first_about, first_refusal, flat_map}
use Rattle.tidy_laws.proofs.Prelude.{followers_of, from_start, has_log, is_replica_of, is_valid, job_by, job_in, job_with, label, label_in}
use Rattle.tidy_laws.proofs.Prelude.{master_taken, matching, matchings, means_of, moved_below, moved_by, moved_up, moves_to, neither, next_of}
use Rattle.tidy_laws.proofs.Prelude.{of_other_cluster, ops_of, option_or, path_of, plan_by, purpose_by, recovery_begins, recovery_purpose}
use Rattle.tidy_laws.proofs.Prelude.{recovery_refusal, recovery_try, refusal_about, refusal_by, regroup_about, relocate_row, relocated, replicas_but}
use Rattle.tidy_laws.proofs.Prelude.{replicas_moved_up, replicas_of, replicas_row, repointed, repointed_auto, repointed_by, rest_refusal, same_label}
use Rattle.tidy_laws.proofs.Prelude.{same_text, scan_step, scanned, scanned_over, server_at, siblings_of, siblings_taken, source_above, source_of}
use Rattle.tidy_laws.proofs.Prelude.{staged_refusal, succeeds, swap, takeover_begins, takeover_refusal, takeover_try, test-false, travelled, under}
use Rattle.tidy_laws.proofs.Prelude.{unders, unless_refused, unrefused, up, ups}
use Rattle.tidy_laws.proofs.Prelude.Checks.{refusal_by as check_refusal}
use Rattle.tidy_laws.proofs.Prelude.CommandsTheVariants.{Server}
use Rattle.tidy_laws.proofs.Prelude.FailureAnalysis.{Entry}
use Rattle.tidy_laws.proofs.Prelude.Firsts.{not-false}
use Rattle.tidy_laws.proofs.Prelude.RecoveryPermits.{Attempt}
use Rattle.tidy_laws.proofs.Prelude.commands_refusal as refusal
use Rattle.tidy_laws.proofs.Prelude.coords
use Rattle.tidy_laws.proofs.Prelude.coords_permits
use Rattle.tidy_laws.proofs.Prelude.coords_plans
use Rattle.tidy_laws.proofs.Prelude.deed
use Rattle.tidy_laws.proofs.Prelude.gtid_permits
use Rattle.tidy_laws.proofs.Prelude.gtid_plans
use Rattle.tidy_laws.proofs.Prelude.gtids
use Rattle.tidy_laws.proofs.Prelude.match_plans
use Rattle.tidy_laws.proofs.Prelude.matches
use Rattle.tidy_laws.proofs.Prelude.means
use Rattle.tidy_laws.proofs.Prelude.op
use Rattle.tidy_laws.proofs.Prelude.path_permits
use Rattle.tidy_laws.proofs.Prelude.path_plans
use Rattle.tidy_laws.proofs.Prelude.purpose
use Rattle.tidy_laws.proofs.Prelude.regroups
use Rattle.tidy_laws.proofs.Prelude.task

-- ---- labels

label-is : (c : Clusters) (w : World) → IsTrim c w → (n : ℕ) → label (c n) ≡ label_in (server_at w n)
label-is c w trim n = sym (ap label (trim.clusters n)) ∙ go (server_at w n)
  where
    go : (o : Option AServer) → label (cluster_in o) ≡ label_in o
    go None = refl
    go (Some s) = refl

alike-label : (c : Clusters) (w : World) → IsTrim c w → (n m : ServerNo) → same_label w n m ≡ true → AreAlike c n.0 m.0
alike-label c w trim n m h = label-is c w trim n.0 ∙ same_text (label_in (server_at w n.0)) (label_in (server_at w m.0)) (sym h) ∙ sym (label-is c w trim m.0)

-- servers that may move are of the cluster of their new source
module _ (c : Clusters) (w : World) (trim : IsTrim c w) (d : ServerNo) where
  abbrev IsLike : ServerNo → Type 0
  IsLike r = AreAlike c d.0 r.0

  alike-moves : (rs : List ServerNo) → first_about (of_other_cluster w) (moves_to rs (Some d)) ≡ None → All IsLike rs
  alike-moves [] h = All-nil IsLike
  alike-moves (r ∷ rs) h =
      let parts = neither (of_other_cluster w (record { no = r; source = d })) (first_about (of_other_cluster w) (moves_to rs (Some d))) h in
      let same = not-false (same_label w r d) (test-false (not (same_label w r d)) refusal.OtherCluster parts.0) in
      All-cons IsLike r rs (sym (alike-label c w trim r d same)) (alike-moves rs parts.1)

-- ---- operations that are due

module _ (c : Clusters) where
  due-more : (d : Deed) (A B : Type 0) → (A → B) → IsDueWithin c d A → IsDueWithin c d B
  due-more (deed.Look n None) A B f h = f h
  due-more (deed.Look n (Some m)) A B f h = λ same. f (h same)
  due-more (deed.Request n a) A B f h = (h.0, f h.1)
  due-more (deed.Until n to) A B f h = f h
  due-more (deed.Await n to) A B f h = f h
  due-more (deed.AwaitSet n m) A B f h = f h
  due-more (deed.Settle n) A B f h = f h
  due-more (deed.Cross d a b) A B f h = f h
  due-more (deed.Same n) A B f h = f h
  due-more (deed.Auto n m) A B f h = (h.0, f h.1)
  due-more (deed.Match n m every) A B f h = λ same. f (h same)
  due-more (deed.CrossMatch n m) A B f h = (h.0, f h.1)
  due-more (deed.Finish lines) A B f h = f h

  due-append : (xs ys : List Op) → AreDueWithin c xs → AreDueWithin c ys → AreDueWithin c (xs ++ ys)
  due-append [] ys first last = last
  due-append (x ∷ xs) ys first last = due-more (deed_of x) (AreDueWithin c xs) (AreDueWithin c (xs ++ ys)) (λ rest. due-append xs ys rest last) first

  finished-due : (ops : List Op) (lines : List Line) → AreDueWithin c ops → AreDueWithin c (finished ops lines)
  finished-due ops lines h = due-append ops (op.Finish lines ∷ []) h tt

  up-due : (i x g : ServerNo) → AreDueWithin c (up i x g)
  up-due i x g = (tt, (tt, λ first. λ next. (tt, (tt, (tt, tt)))))

  under-due : (i d s : ServerNo) → AreDueWithin c (under i d s)
  under-due i d s = (tt, (tt, λ first. λ next. (tt, (tt, λ last. (tt, (tt, tt))))))

  again-due : (i x : ServerNo) → AreDueWithin c (again i x)
  again-due i x = (tt, λ same. (tt, tt))

  auto-due : (r d : ServerNo) → AreAlike c d.0 r.0 → AreDueWithin c (auto r d)
  auto-due r d h = (tt, (h, (tt, tt)))

  swap-due : (i x g : ServerNo) → AreDueWithin c (swap i x g)
  swap-due i x g = (tt, (tt, λ first. λ next. (tt, λ last. (tt, (tt, tt)))))

  again_auto-due : (i x : ServerNo) → AreDueWithin c (again_auto i x)
  again_auto-due i x = (tt, λ same. (same, (tt, tt)))

  -- a match that is found means that both are of one cluster
  matching-due : (r d : ServerNo) (every : ℕ) → AreDueWithin c (matching r d every)
  matching-due r d every = (tt, λ same. (same, (tt, tt)))

  matchings-due : (rs : List ServerNo) (d : ServerNo) (every : ℕ) → AreDueWithin c (matchings rs d every)
  matchings-due [] d every = tt
  matchings-due (r ∷ rs) d every = due-append (matching r d every) (matchings rs d every) (matching-due r d every) (matchings-due rs d every)

  ups-due : (rs : List ServerNo) (i x : ServerNo) → AreDueWithin c (ups rs i x)
  ups-due [] i x = tt
  ups-due (r ∷ rs) i x = due-append (up r i x) (ups rs i x) (up-due r i x) (ups-due rs i x)

  unders-due : (rs : List ServerNo) (d s : ServerNo) → AreDueWithin c (unders rs d s)
  unders-due [] d s = tt
  unders-due (r ∷ rs) d s = due-append (under r d s) (unders rs d s) (under-due r d s) (unders-due rs d s)

  autos-due : (rs : List ServerNo) (d : ServerNo) → All (λ r. AreAlike c d.0 r.0) rs → AreDueWithin c (autos rs d)
  autos-due [] d all = tt
  autos-due (r ∷ rs) d all =
      due-append (auto r d) (autos rs d) (auto-due r d (All-head (λ (x : ServerNo). AreAlike c d.0 x.0) r rs all))
      (autos-due rs d (All-tail (λ (x : ServerNo). AreAlike c d.0 x.0) r rs all))

  -- ---- by paths

  climbed-due : (n : ServerNo) (xs : List ServerNo) (to : ServerNo) → AreDueWithin c (climbed n xs to)
  climbed-due n [] to = tt
  climbed-due n (x ∷ xs) to = due-append (up n x (next_of xs to)) (climbed n xs to) (up-due n x (next_of xs to)) (climbed-due n xs to)

  ascended-due : (n d : ServerNo) (xs : List ServerNo) → AreDueWithin c (ascended n d xs)
  ascended-due n d [] = again-due n d
  ascended-due n d (x ∷ xs) = climbed-due n (x ∷ xs) d

  arrived-due : (n d : ServerNo) (xs : List ServerNo) (o : Option ServerNo) → AreDueWithin c (arrived n d xs o)
  arrived-due n d xs None = ascended-due n d xs
  arrived-due n d xs (Some s) = due-append (climbed n xs s) (under n d s) (climbed-due n xs s) (under-due n d s)

  travelled-due : (n d : ServerNo) (o : Option Path) → AreDueWithin c (travelled n d o)
  travelled-due n d None = tt
  travelled-due n d (Some p) = arrived-due n d p.passed p.under

  paths-due : (b : BookState) (rs : List ServerNo) (d : ServerNo) → AreDueWithin c (flat_map (λ n. travelled n d (path_of b n d)) rs)
  paths-due b [] d = tt
  paths-due b (r ∷ rs) d =
      due-append (travelled r d (path_of b r d)) (flat_map (λ n. travelled n d (path_of b n d)) rs) (travelled-due r d (path_of b r d)) (paths-due b rs d)

  -- ---- a job that begins

  nothing-seen : AllWithin c []
  nothing-seen n p h = cc

  planned-within : (id wait : ℕ) (ops : List Op) → AreDueWithin c ops → IsJobWithin c (job_with id wait ops)
  planned-within id wait ops due = record { seen = nothing-seen; left = due }

-- ---- plans by coordinates

module _ (c : Clusters) (w : World) (trim : IsTrim c w) (b : BookState) (i : ServerNo) where
  up-planned : (x g : Option ServerNo) → AreDueWithin c (moved_up i x g)
  up-planned None g = tt
  up-planned (Some x) None = tt
  up-planned (Some x) (Some g) = finished-due c (up i x g) (Follows i g ∷ []) (up-due c i x g)

  ups-planned : (rs : List ServerNo) (x : Option ServerNo) → AreDueWithin c (replicas_moved_up rs i x)
  ups-planned rs None = tt
  ups-planned rs (Some x) = finished-due c (ups rs i x) _ (ups-due c rs i x)

  below-planned : (d x : Option ServerNo) → AreDueWithin c (moved_below i d x)
  below-planned None x = tt
  below-planned (Some d) None = tt
  below-planned (Some d) (Some x) = finished-due c (under i d x) (Follows i d ∷ []) (under-due c i d x)

  again-planned : (x : Option ServerNo) → AreDueWithin c (repointed i x)
  again-planned None = tt
  again-planned (Some x) = finished-due c (again i x) (Follows i x ∷ []) (again-due c i x)

  auto-planned : (d : Option ServerNo) → first_about (of_other_cluster w) (moves_to (i ∷ []) d) ≡ None → AreDueWithin c (repointed_auto i d)
  auto-planned None h = tt
  auto-planned (Some d) h =
      finished-due c (auto i d) (Follows i d ∷ []) (auto-due c i d (All-head (λ (x : ServerNo). AreAlike c d.0 x.0) i [] (alike-moves c w trim d (i ∷ []) h)))

  siblings-planned : (rs : List ServerNo) (x : Option ServerNo) → AreDueWithin c (siblings_taken rs i x)
  siblings-planned rs None = tt
  siblings-planned rs (Some x) = finished-due c (unders rs i x) _ (unders-due c rs i x)

  master-planned : (x g : Option ServerNo) → AreDueWithin c (master_taken i x g)
  master-planned None g = tt
  master-planned (Some x) None = tt
  master-planned (Some x) (Some g) = finished-due c (swap i x g) (Follows i g ∷ Follows x i ∷ []) (swap-due c i x g)

  repoint-planned : (d : Option ServerNo) → first_refusal w b (coords_permits.case_of b coords.Repoint i d) (coords_permits.row_of (coords_permits.by_gtids w b i) coords.Repoint) ≡ None
      → AreDueWithin c (repointed_by (coords_permits.by_gtids w b i) i d (source_of b i))
  repoint-planned d h = go (coords_permits.by_gtids w b i) h
    where
      go : (way : Bool) → first_refusal w b (coords_permits.case_of b coords.Repoint i d) (coords_permits.row_of way coords.Repoint) ≡ None → AreDueWithin c (repointed_by way i d (source_of b i))
      go true h =
          let t = each-none (map (check_refusal w b (coords_permits.case_of b coords.Repoint i d)) (coords_permits.row_of true coords.Repoint)) h in
          auto-planned (option_or d (source_of b i)) t.1.1.1.1.1.0
      go false h = again-planned (source_of b i)

  coords-planned : (k : CoordsCommand) (d : Option ServerNo) → first_refusal w b (coords_permits.case_of b k i d) (coords_permits.row_of (coords_permits.by_gtids w b i) k) ≡ None
      → AreDueWithin c (coords_plans.ops_of w b k i d)
  coords-planned coords.MoveUp d h = up-planned (source_of b i) (source_above b i)
  coords-planned coords.MoveUpReplicas d h = ups-planned (replicas_of b i) (source_of b i)
  coords-planned coords.MoveBelow d h = below-planned d (source_of b i)
  coords-planned coords.Repoint d h = repoint-planned d h
  coords-planned coords.TakeSiblings d h = siblings-planned (siblings_of b i) (source_of b i)
  coords-planned coords.TakeMaster d h = master-planned (source_of b i) (source_above b i)
  coords-planned coords.ReattachReplica d h = (tt, (tt, tt))
  coords-planned coords.RestartReplica d h = (tt, (tt, tt))
  coords-planned _ d h = (tt, tt)

  -- ---- by GTIDs

  moved-planned : (d : Option ServerNo) → first_about (of_other_cluster w) (moves_to (i ∷ []) d) ≡ None → AreDueWithin c (gtid_plans.moved i d)
  moved-planned None h = tt
  moved-planned (Some d) h =
      finished-due c (auto i d) (Follows i d ∷ []) (auto-due c i d (All-head (λ (x : ServerNo). AreAlike c d.0 x.0) i [] (alike-moves c w trim d (i ∷ []) h)))

  replicas-planned : (rs : List ServerNo) (d : Option ServerNo) → first_about (of_other_cluster w) (moves_to rs d) ≡ None → AreDueWithin c (gtid_plans.replicas_moved rs d)
  replicas-planned rs None h = tt
  replicas-planned rs (Some d) h = finished-due c (autos rs d) _ (autos-due c rs d (alike-moves c w trim d rs h))

  enabled-planned : (x : Option ServerNo) → AreDueWithin c (gtid_plans.enabled i x)
  enabled-planned None = tt
  enabled-planned (Some x) = finished-due c (again_auto i x) (Server i ∷ []) (again_auto-due c i x)

  disabled-planned : (x : Option ServerNo) → AreDueWithin c (gtid_plans.disabled i x)
  disabled-planned None = tt
  disabled-planned (Some x) = finished-due c (again i x) (Server i ∷ []) (again-due c i x)

  gtids-planned : (k : GtidCommand) (d : Option ServerNo) → first_refusal w b (gtid_permits.case_of b k i d) (gtid_permits.row_of k) ≡ None → AreDueWithin c (gtid_plans.ops_of b k i d)
  gtids-planned gtids.MoveGtid d h =
      let t = each-none (map (check_refusal w b (gtid_permits.case_of b gtids.MoveGtid i d)) (gtid_permits.row_of gtids.MoveGtid)) h in moved-planned d t.1.1.1.0
  gtids-planned gtids.MoveReplicasGtid d h =
      let t = each-none (map (check_refusal w b (gtid_permits.case_of b gtids.MoveReplicasGtid i d)) (gtid_permits.row_of gtids.MoveReplicasGtid)) h in replicas-planned (replicas_but b i d) d t.1.1.1.0
  gtids-planned gtids.EnableGtid d h = enabled-planned (source_of b i)
  gtids-planned gtids.DisableGtid d h = disabled-planned (source_of b i)

  -- ---- by matches

  matched-planned : (every : ℕ) (d : Option ServerNo) → AreDueWithin c (match_plans.moved i every d)
  matched-planned every None = tt
  matched-planned every (Some d) = finished-due c (matching i d every) (Follows i d ∷ []) (matching-due c i d every)

  each-matched : (rs : List ServerNo) (every : ℕ) (d : Option ServerNo) → AreDueWithin c (match_plans.replicas_moved rs every d)
  each-matched rs every None = tt
  each-matched rs every (Some d) = finished-due c (matchings rs d every) _ (matchings-due c rs d every)

  matches-planned : (every : ℕ) (k : MatchCommand) (d : Option ServerNo) → AreDueWithin c (match_plans.ops_of b every k i d)
  matches-planned every matches.Match d = matched-planned every d
  matches-planned every matches.MatchUp d = matched-planned every (source_above b i)
  matches-planned every matches.MatchReplicas d = each-matched (replicas_but b i d) every d
  matches-planned every matches.RegroupReplicas d = tt

  -- ---- by paths

  travel-planned : (gtid : Bool) (movers : List ServerNo) (d : Option ServerNo) → (gtid ≡ true → first_about (of_other_cluster w) (moves_to movers d) ≡ None) → AreDueWithin c (relocated gtid b movers d)
  travel-planned gtid movers None h = tt
  travel-planned true movers (Some d) h = finished-due c (autos movers d) _ (autos-due c movers d (alike-moves c w trim d movers (h refl)))
  travel-planned false movers (Some d) h = finished-due c (moved_by false b movers d) _ (paths-due c b movers d)

  paths-planned : (k : PathCommand) (d : Option ServerNo) → first_refusal w b (path_permits.case_of w b k i d) (path_permits.row_of w.gtid k) ≡ None → AreDueWithin c (path_plans.ops_of w b k i d)
  paths-planned regroups.Relocate d h =
      travel-planned w.gtid (i ∷ []) d
      (λ used. let t = each-none (map (check_refusal w b (path_permits.case_of w b regroups.Relocate i d)) (relocate_row true)) (subst (λ (g : Bool). first_refusal w b (path_permits.case_of w b regroups.Relocate i d) (relocate_row g) ≡ None) used h) in t.1.1.1.0)
  paths-planned regroups.RelocateReplicas d h =
      travel-planned w.gtid (replicas_but b i d) d
      (λ used. let t = each-none (map (check_refusal w b (path_permits.case_of w b regroups.RelocateReplicas i d)) (replicas_row true)) (subst (λ (g : Bool). first_refusal w b (path_permits.case_of w b regroups.RelocateReplicas i d) (replicas_row g) ≡ None) used h) in t.1.1.1.0)
  paths-planned regroups.RegroupReplicas d h = tt

-- ---- recoveries that begin

-- what is known of a successor
abbrev IsAimWithin : Clusters → Purpose → ServerNo → Type 0
IsAimWithin c (purpose.Intermediate s) f = AreAlike c s.0 f.0
IsAimWithin c _ f = Unit {0}

module _ (c : Clusters) (f : ServerNo) where
  mapped-within : (chosen : Option ServerNo) (t : ServerNo → Task) (ns : List ServerNo) → ((n : ServerNo) → IsTaskWithin c f chosen (t n)) → All (IsTaskWithin c f chosen) (map t ns)
  mapped-within chosen t [] each = All-nil (IsTaskWithin c f chosen)
  mapped-within chosen t (n ∷ ns) each = All-cons (IsTaskWithin c f chosen) (t n) (map t ns) (each n) (mapped-within chosen t ns each)

  -- tasks of replicas, and two after them
  behind-within : (chosen : Option ServerNo) (t : ServerNo → Task) (ns : List ServerNo) (x y : Task) → ((n : ServerNo) → IsTaskWithin c f chosen (t n)) → IsTaskWithin c f chosen x → IsTaskWithin c f chosen y
      → All (IsTaskWithin c f chosen) (map t ns ++ x ∷ y ∷ [])
  behind-within chosen t ns x y each one two =
      All-append (IsTaskWithin c f chosen) (map t ns) (x ∷ y ∷ []) (mapped-within chosen t ns each)
      (All-cons (IsTaskWithin c f chosen) x (y ∷ []) one (All-cons (IsTaskWithin c f chosen) y [] two (All-nil (IsTaskWithin c f chosen))))

  begun-within : (u : Purpose) (by : Means) (id wait : ℕ) (replicas order : List ServerNo) → IsAimWithin c u f → IsRecoveryWithin c (begun_recovery u by id wait f replicas order)
  begun-within purpose.Regroup by id wait replicas order aim = record {
    core = planned-within c id wait [] tt;
    stage = tt;
    queue = behind-within None task.Draining replicas task.Choosing task.Sorting (λ n. tt) tt tt;
    drained = All-nil (λ (d : Stopped). AreAlike c d.no.0 f.0);
    lead = tt;
  }
  begun-within purpose.Master by id wait replicas order aim = record {
    core = planned-within c id wait (op.Status f None ∷ []) tt;
    stage = tt;
    queue = behind-within None task.Draining replicas task.Choosing task.Sorting (λ n. tt) tt tt;
    drained = All-nil (λ (d : Stopped). AreAlike c d.no.0 f.0);
    lead = tt;
  }
  begun-within (purpose.Intermediate s) by id wait replicas order aim = record {
    core = planned-within c id wait (op.Status f None ∷ []) tt;
    stage = tt;
    queue =
        All-cons (IsTaskWithin c f (Some s)) (task.Reading s) (map task.Draining replicas ++ task.Handing ∷ task.Sorting ∷ []) tt
        (behind-within (Some s) task.Draining replicas task.Handing task.Sorting (λ n. tt) aim tt);
    drained = All-nil (λ (d : Stopped). AreAlike c d.no.0 f.0);
    lead = tt;
  }
  begun-within (purpose.Takeover d) by id wait replicas order aim = record {
    core = planned-within c id wait (op.Status f None ∷ []) tt;
    stage = tt;
    queue =
        All-append (IsTaskWithin c f (Some d)) (map task.Trailing (but replicas d)) (task.Yielding ∷ []) (mapped-within (Some d) task.Trailing (but replicas d) (λ n. tt))
        (All-cons (IsTaskWithin c f (Some d)) task.Yielding [] tt (All-nil (IsTaskWithin c f (Some d))));
    drained = All-nil (λ (x : Stopped). AreAlike c x.no.0 f.0);
    lead = tt;
  }

-- ---- the job of a command that isn't refused

module _ (c : Clusters) (w : World) (trim : IsTrim c w) (b : BookState) (now : Moment) (every : ℕ) (given : Command) (id wait : ℕ) where
  plan-due : (p : Planner) → refusal_by w b now every given p ≡ None → AreDueWithin c (plan_by w b every given p)
  plan-due p h = about-permitted (AreDueWithin c) (refusal_about w b now every) [] (ops_of w b every) b given tt each (Some p) h
    where
      each : (p : Planner) (i : ServerNo) → refusal_about w b now every p i given.d ≡ None → AreDueWithin c (ops_of w b every p i given.d)
      each (Coordinates k) i passed = coords-planned c w trim b i k given.d passed
      each (Gtids k) i passed = gtids-planned c w trim b i k given.d passed
      each (Paths k) i passed =
          paths-planned c w trim b i k given.d (neither (first_refusal w b (path_permits.case_of w b k i given.d) (path_permits.row_of w.gtid k)) (rest_refusal w b now k i given.d) passed).0
      each (Matches k) i passed = matches-planned c w trim b i every k given.d

  regroup-within : (by : Means) (i : Option ServerNo) → IsUnendedWithin c (regroup_about b by id wait i)
  regroup-within by None = planned-within c id wait [] tt
  regroup-within by (Some i) = begun-within c i purpose.Regroup by id wait (replicas_of b i) (replicas_of b i) tt

  pub job-within : (p : Planner) → refusal_by w b now every given p ≡ None → IsUnendedWithin c (job_by w b given p id wait every)
  job-within p h = go (means_of every p)
    where
      go : (by : Option Means) → IsUnendedWithin c (job_in w b given p id wait every by)
      go None = planned-within c id wait (plan_by w b every given p) (plan-due p h)
      go (Some by) = regroup-within by given.i

-- ---- what a recovery is for

module _ (c : Clusters) (w : World) (trim : IsTrim c w) where
  -- the source of an intermediate master is of its cluster
  successor : (b : BookState) (audit : AuditState) (a : Attempt) (f s : ServerNo) → recovery_refusal w b audit a f ≡ None → source_of b f ≡ Some s → AreAlike c s.0 f.0
  successor b audit a f s free at =
      let one = and_parts (is_valid b s) (has_log w s && (same_label w s f && not (is_replica_of b f s))) (succeeds w b audit a f s free at) in
      let two = and_parts (has_log w s) (same_label w s f && not (is_replica_of b f s)) one.1 in
      alike-label c w trim s f (and_parts (same_label w s f) (not (is_replica_of b f s)) two.1).0

  aim-within : (b : BookState) (audit : AuditState) (a : Attempt) (f : ServerNo) → recovery_refusal w b audit a f ≡ None → IsAimWithin c (recovery_purpose b f) f
  aim-within b audit a f free = go (source_of b f) refl
    where
      go : (o : Option ServerNo) → source_of b f ≡ o → IsAimWithin c (purpose_by o) f
      go None e = tt
      go (Some s) e = successor b audit a f s free e

  abbrev IsBegunWithin : Begins → Type 0
  IsBegunWithin x = IsRecoveryWithin c x.job

  begins-within : (b : BookState) (audit : AuditState) (a : Attempt) (now : Moment) (block wait job : ℕ) (f : ServerNo) → recovery_refusal w b audit a f ≡ None → IsBegunWithin (recovery_begins b audit now block wait job f)
  begins-within b audit a now block wait job f free = begun-within c f (recovery_purpose b f) means.Bridges job wait (replicas_of b f) (replicas_of b f) (aim-within b audit a f free)

  pub recovery-within : (b : BookState) (audit : AuditState) (a : Attempt) (wait job : ℕ) (f : ServerNo) (x : Begins) → recovery_try w b audit a wait job f ≡ Ok x → IsBegunWithin x
  recovery-within b audit a wait job f x h =
      let parts = unrefused (recovery_refusal w b audit a f) (recovery_begins b audit a.now a.block wait job f) x h in
      subst IsBegunWithin parts.1 (begins-within b audit a a.now a.block wait job f parts.0)

  pub takeover-within : (b : BookState) (audit : AuditState) (a : Attempt) (wait job : ℕ) (i d : ServerNo) (x : Begins) → takeover_try w b audit a wait job i d ≡ Ok x → IsBegunWithin x
  takeover-within b audit a wait job i d x h =
      let parts = unrefused (takeover_refusal w b audit a i d) (takeover_begins b audit a.now a.block wait job i d) x h in
      subst IsBegunWithin parts.1 (begun-within c i (purpose.Takeover d) means.Bridges job wait (replicas_of b i) (followers_of b i d) tt)

  -- ---- by a scan

  module _ (b : BookState) (by : ServerNo → Attempt) (wait : ℕ) where
    abbrev begins_at : Staged → Entry → Begins
    begins_at s e = recovery_begins (record b { leases = s.leases }) s.audit (by e.no).now (by e.no).block wait (s.last + 1) e.no

    step-within : (s : Staged) (e : Entry) → All IsBegunWithin s.begun → All IsBegunWithin (scan_step w b by wait s e).begun
    step-within s e all = go (staged_refusal w b (by e.no) s e.no) refl
      where
        go : (o : Option Refusal) → staged_refusal w b (by e.no) s e.no ≡ o → All IsBegunWithin (after_try s e (unless_refused o (begins_at s e))).begun
        go None free =
            All-push IsBegunWithin s.begun (begins_at s e) all
            (begins-within (record b { leases = s.leases }) s.audit (by e.no) (by e.no).now (by e.no).block wait (s.last + 1) e.no free)
        go (Some r) why = all

    over-within : (s : Staged) (es : List Entry) → All IsBegunWithin s.begun → All IsBegunWithin (scanned_over w b by wait s es).begun
    over-within s [] all = all
    over-within s (e ∷ es) all = over-within (scan_step w b by wait s e) es (step-within s e all)

    pub scan-within : (audit : AuditState) (last : ℕ) → All IsBegunWithin (scanned w b audit by wait last).begun
    scan-within audit last = over-within (from_start b audit last) (actionable_in b) (All-nil IsBegunWithin)
