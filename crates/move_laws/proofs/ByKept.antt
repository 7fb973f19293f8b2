-- Permitted moves go by what was seen to be kept.
use Rattle.std.proofs.Common.{◌≡◌, ◌≤◌, Bool, true, false, not, List, [], ◌∷◌, ◌++◌, refl, sym, ◌∙◌, ap, Option, Some, None, arith, All, nat_lt}
use Rattle.move_laws.proofs.Prelude.{All-cons, All-head, All-nil, All-tail, AllGoByKept, BookState, Command, CoordsCommand, Deed, Follows, GoesByKept}
use Rattle.move_laws.proofs.Prelude.{GtidCommand, IsPlaceKept, IsSetKept, Line, Op, PurgedPlace, PurgedSet, Server, ServerNo, World, again}
use Rattle.move_laws.proofs.Prelude.{again_auto, auto, autos, coords_command, deed_of, exec_seen, finished, first_about, first_refusal, first_seen}
use Rattle.move_laws.proofs.Prelude.{gtid_command, is_within, master_taken, moved_below, moved_up, moves_to, nat_tests, option_or, option_to_list}
use Rattle.move_laws.proofs.Prelude.{place_purged, purged_seen, purged_under, replicas_but, replicas_moved_up, replicas_of, repointed, repointed_auto}
use Rattle.move_laws.proofs.Prelude.{repointed_by, set_purged, set_seen, siblings_of, siblings_taken, source_above, source_of, swap, under, unders}
use Rattle.move_laws.proofs.Prelude.{up, ups, within-holds}
use Rattle.move_laws.proofs.Prelude.command as coords
use Rattle.move_laws.proofs.Prelude.coords_permits
use Rattle.move_laws.proofs.Prelude.coords_plans
use Rattle.move_laws.proofs.Prelude.cross
use Rattle.move_laws.proofs.Prelude.deed
use Rattle.move_laws.proofs.Prelude.gtid_permits
use Rattle.move_laws.proofs.Prelude.gtid_plans
use Rattle.move_laws.proofs.Prelude.gtids
use Rattle.move_laws.proofs.Prelude.op
use Rattle.move_laws.proofs.Prelude.refusal
use Rattle.move_laws.proofs.Firsts.{about-permitted, neither, not-false, test-false}
use Rattle.move_laws.proofs.Numbered.{row-passes}

-- ---- what passes the checks is kept

module _ (b : BookState) where
  pub kept-place : (n : ServerNo) → place_purged b n ≡ None → IsPlaceKept b n
  kept-place n h = λ s is. go s (sym (ap (purged_under b n) is) ∙ h)
    where
      go : (s : ServerNo) → purged_under b n (Some s) ≡ None → first_seen b s ≤ (exec_seen b n).file
      go s none =
          let late = test-false (nat_lt (exec_seen b n).file (first_seen b s)) (refusal.Purged s (first_seen b s)) none in
          grind (arith, nat_tests, late)

  kept-set : (n m : ServerNo) → set_purged b (record { no = n; source = m }) ≡ None → IsSetKept b n m
  kept-set n m h = λ u k has.
      within-holds (purged_seen b m) (set_seen b n)
      (not-false (is_within (purged_seen b m) (set_seen b n))
      (test-false (not (is_within (purged_seen b m) (set_seen b n))) (refusal.Purged m (first_seen b m)) h)) u k has

  pub kept-sets : (rs : List ServerNo) (d : ServerNo) → first_about (set_purged b) (moves_to rs (Some d)) ≡ None → All (λ r. IsSetKept b r d) rs
  kept-sets [] d h = All-nil (λ (r : ServerNo). IsSetKept b r d)
  kept-sets (r ∷ rs) d h =
      let parts = neither (set_purged b (record { no = r; source = d })) (first_about (set_purged b) (moves_to rs (Some d))) h in
      All-cons (λ (n : ServerNo). IsSetKept b n d) r rs (kept-set r d parts.0) (kept-sets rs d parts.1)

  kept-one : (o : Option ServerNo) (x : ServerNo) → o ≡ Some x → first_about (place_purged b) (option_to_list o) ≡ None → IsPlaceKept b x
  kept-one o x is h = kept-place x (neither (place_purged b x) None (sym (ap (λ (p : Option ServerNo). first_about (place_purged b) (option_to_list p)) is) ∙ h)).0

  -- ---- plans

  by-more : (d : Deed) (A B : Type 0) → (A → B) → GoesByKept b d A → GoesByKept b d B
  by-more (deed.Look n from) A B f h = f h
  by-more (deed.Request n a) A B f h = f h
  by-more (deed.Until n to) A B f h = f h
  by-more (deed.Await n to) A B f h = f h
  by-more (deed.AwaitSet n m) A B f h = f h
  by-more (deed.Settle n) A B f h = f h
  by-more (deed.Cross cross.Up n x) A B f h = (h.0, f h.1)
  by-more (deed.Cross cross.Down n x) A B f h = f h
  by-more (deed.Cross cross.About n x) A B f h = f h
  by-more (deed.Cross cross.Back n x) A B f h = f h
  by-more (deed.Same n) A B f h = (h.0, f h.1)
  by-more (deed.Auto n m) A B f h = (h.0, f h.1)
  by-more (deed.Match n m every) A B f h = f h
  by-more (deed.CrossMatch n m) A B f h = f h
  by-more (deed.Finish lines) A B f h = f h

  pub by-append : (xs ys : List Op) → AllGoByKept b xs → AllGoByKept b ys → AllGoByKept b (xs ++ ys)
  by-append [] ys first last = last
  by-append (x ∷ xs) ys first last = by-more (deed_of x) (AllGoByKept b xs) (AllGoByKept b (xs ++ ys)) (λ rest. by-append xs ys rest last) first

  pub finished-by : (ops : List Op) (lines : List Line) → AllGoByKept b ops → AllGoByKept b (finished ops lines)
  finished-by ops lines h = by-append ops (op.Finish lines ∷ []) h tt

  pub up-by : (i x g : ServerNo) → IsPlaceKept b x → AllGoByKept b (up i x g)
  up-by i x g h = (h, tt)

  pub under-by : (i d s : ServerNo) → AllGoByKept b (under i d s)
  under-by i d s = tt

  pub again-by : (i x : ServerNo) → IsPlaceKept b i → AllGoByKept b (again i x)
  again-by i x h = (h, tt)

  auto-by : (r d : ServerNo) → IsSetKept b r d → AllGoByKept b (auto r d)
  auto-by r d h = (h, tt)

  swap-by : (i x g : ServerNo) → IsPlaceKept b x → AllGoByKept b (swap i x g)
  swap-by i x g h = (h, tt)

  again_auto-by : (i x : ServerNo) → IsSetKept b i x → AllGoByKept b (again_auto i x)
  again_auto-by i x h = (h, tt)

  ups-by : (rs : List ServerNo) (i x : ServerNo) → IsPlaceKept b i → AllGoByKept b (ups rs i x)
  ups-by [] i x h = tt
  ups-by (r ∷ rs) i x h = by-append (up r i x) (ups rs i x) (up-by r i x h) (ups-by rs i x h)

  unders-by : (rs : List ServerNo) (d s : ServerNo) → AllGoByKept b (unders rs d s)
  unders-by [] d s = tt
  unders-by (r ∷ rs) d s = by-append (under r d s) (unders rs d s) (under-by r d s) (unders-by rs d s)

  pub autos-by : (rs : List ServerNo) (d : ServerNo) → All (λ r. IsSetKept b r d) rs → AllGoByKept b (autos rs d)
  autos-by [] d all = tt
  autos-by (r ∷ rs) d all =
      by-append (auto r d) (autos rs d) (auto-by r d (All-head (λ (n : ServerNo). IsSetKept b n d) r rs all))
      (autos-by rs d (All-tail (λ (n : ServerNo). IsSetKept b n d) r rs all))

-- ---- the commands

module _ (w : World) (b : BookState) (i : ServerNo) where
  up-planned : (x g : Option ServerNo) → first_about (place_purged b) (option_to_list x) ≡ None → AllGoByKept b (moved_up i x g)
  up-planned None g h = tt
  up-planned (Some x) None h = tt
  up-planned (Some x) (Some g) h = finished-by b (up i x g) (Follows i g ∷ []) (up-by b i x g (kept-one b (Some x) x refl h))

  ups-planned : (rs : List ServerNo) (x : Option ServerNo) → IsPlaceKept b i → AllGoByKept b (replicas_moved_up rs i x)
  ups-planned rs None h = tt
  ups-planned rs (Some x) h = finished-by b (ups rs i x) _ (ups-by b rs i x h)

  below-planned : (d x : Option ServerNo) → AllGoByKept b (moved_below i d x)
  below-planned None x = tt
  below-planned (Some d) None = tt
  below-planned (Some d) (Some x) = finished-by b (under i d x) (Follows i d ∷ []) (under-by b i d x)

  again-planned : (x : Option ServerNo) → IsPlaceKept b i → AllGoByKept b (repointed i x)
  again-planned None h = tt
  again-planned (Some x) h = finished-by b (again i x) (Follows i x ∷ []) (again-by b i x h)

  auto-planned : (d : Option ServerNo) → first_about (set_purged b) (moves_to (i ∷ []) d) ≡ None → AllGoByKept b (repointed_auto i d)
  auto-planned None h = tt
  auto-planned (Some d) h = finished-by b (auto i d) (Follows i d ∷ []) (auto-by b i d (All-head (λ (r : ServerNo). IsSetKept b r d) i [] (kept-sets b (i ∷ []) d h)))

  siblings-planned : (rs : List ServerNo) (x : Option ServerNo) → AllGoByKept b (siblings_taken rs i x)
  siblings-planned rs None = tt
  siblings-planned rs (Some x) = finished-by b (unders rs i x) _ (unders-by b rs i x)

  master-planned : (x g : Option ServerNo) → first_about (place_purged b) (option_to_list x) ≡ None → AllGoByKept b (master_taken i x g)
  master-planned None g h = tt
  master-planned (Some x) None h = tt
  master-planned (Some x) (Some g) h = finished-by b (swap i x g) (Follows i g ∷ Follows x i ∷ []) (swap-by b i x g (kept-one b (Some x) x refl h))

  of-itself : first_about (place_purged b) (i ∷ []) ≡ None → IsPlaceKept b i
  of-itself h = kept-one b (Some i) i refl h

  repoint-planned : (d : Option ServerNo) → first_refusal w b (coords_permits.case_of b coords.Repoint i d) (coords_permits.row_of (coords_permits.by_gtids w b i) coords.Repoint) ≡ None
      → AllGoByKept b (repointed_by (coords_permits.by_gtids w b i) i d (source_of b i))
  repoint-planned d h = go (coords_permits.by_gtids w b i) h
    where
      go : (way : Bool) → first_refusal w b (coords_permits.case_of b coords.Repoint i d) (coords_permits.row_of way coords.Repoint) ≡ None → AllGoByKept b (repointed_by way i d (source_of b i))
      go true h =
          auto-planned (option_or d (source_of b i)) (row-passes w b (coords_permits.case_of b coords.Repoint i d) (coords_permits.row_of true coords.Repoint) 11 PurgedSet h refl)
      go false h =
          again-planned (source_of b i) (of-itself (row-passes w b (coords_permits.case_of b coords.Repoint i d) (coords_permits.row_of false coords.Repoint) 6 PurgedPlace h refl))

  coords-planned : (k : CoordsCommand) (d : Option ServerNo) → first_refusal w b (coords_permits.case_of b k i d) (coords_permits.row_of (coords_permits.by_gtids w b i) k) ≡ None
      → AllGoByKept b (coords_plans.ops_of w b k i d)
  coords-planned coords.MoveUp d h =
      up-planned (source_of b i) (source_above b i)
      (row-passes w b (coords_permits.case_of b coords.MoveUp i d) (coords_permits.row_of (coords_permits.by_gtids w b i) coords.MoveUp) 7 PurgedPlace h refl)
  coords-planned coords.MoveUpReplicas d h =
      ups-planned (replicas_of b i) (source_of b i)
      (of-itself (row-passes w b (coords_permits.case_of b coords.MoveUpReplicas i d) (coords_permits.row_of (coords_permits.by_gtids w b i) coords.MoveUpReplicas) 6 PurgedPlace h refl))
  coords-planned coords.MoveBelow d h = below-planned d (source_of b i)
  coords-planned coords.Repoint d h = repoint-planned d h
  coords-planned coords.TakeSiblings d h = siblings-planned (siblings_of b i) (source_of b i)
  coords-planned coords.TakeMaster d h =
      master-planned (source_of b i) (source_above b i)
      (row-passes w b (coords_permits.case_of b coords.TakeMaster i d) (coords_permits.row_of (coords_permits.by_gtids w b i) coords.TakeMaster) 8 PurgedPlace h refl)
  coords-planned _ d h = tt

  -- ---- by GTIDs

  moved-planned : (d : Option ServerNo) → first_about (set_purged b) (moves_to (i ∷ []) d) ≡ None → AllGoByKept b (gtid_plans.moved i d)
  moved-planned None h = tt
  moved-planned (Some d) h = finished-by b (auto i d) (Follows i d ∷ []) (auto-by b i d (All-head (λ (r : ServerNo). IsSetKept b r d) i [] (kept-sets b (i ∷ []) d h)))

  replicas-planned : (rs : List ServerNo) (d : Option ServerNo) → first_about (set_purged b) (moves_to rs d) ≡ None → AllGoByKept b (gtid_plans.replicas_moved rs d)
  replicas-planned rs None h = tt
  replicas-planned rs (Some d) h = finished-by b (autos rs d) _ (autos-by b rs d (kept-sets b rs d h))

  enabled-planned : (x : Option ServerNo) → first_about (set_purged b) (moves_to (i ∷ []) x) ≡ None → AllGoByKept b (gtid_plans.enabled i x)
  enabled-planned None h = tt
  enabled-planned (Some x) h = finished-by b (again_auto i x) (Server i ∷ []) (again_auto-by b i x (All-head (λ (r : ServerNo). IsSetKept b r x) i [] (kept-sets b (i ∷ []) x h)))

  disabled-planned : (x : Option ServerNo) → IsPlaceKept b i → AllGoByKept b (gtid_plans.disabled i x)
  disabled-planned None h = tt
  disabled-planned (Some x) h = finished-by b (again i x) (Server i ∷ []) (again-by b i x h)

  gtids-planned : (k : GtidCommand) (d : Option ServerNo) → first_refusal w b (gtid_permits.case_of b k i d) (gtid_permits.row_of k) ≡ None → AllGoByKept b (gtid_plans.ops_of b k i d)
  gtids-planned gtids.MoveGtid d h = moved-planned d (row-passes w b (gtid_permits.case_of b gtids.MoveGtid i d) (gtid_permits.row_of gtids.MoveGtid) 10 PurgedSet h refl)
  gtids-planned gtids.MoveReplicasGtid d h =
      replicas-planned (replicas_but b i d) d (row-passes w b (gtid_permits.case_of b gtids.MoveReplicasGtid i d) (gtid_permits.row_of gtids.MoveReplicasGtid) 10 PurgedSet h refl)
  gtids-planned gtids.EnableGtid d h = enabled-planned (source_of b i) (row-passes w b (gtid_permits.case_of b gtids.EnableGtid i d) (gtid_permits.row_of gtids.EnableGtid) 6 PurgedSet h refl)
  gtids-planned gtids.DisableGtid d h =
      disabled-planned (source_of b i) (of-itself (row-passes w b (gtid_permits.case_of b gtids.DisableGtid i d) (gtid_permits.row_of gtids.DisableGtid) 5 PurgedPlace h refl))

pub coords-begin : (w : World) (b : BookState) (given : Command) → coords_permits.refusal_of w b given ≡ None → AllGoByKept b (coords_plans.plan_of w b given)
coords-begin w b given h =
    about-permitted (AllGoByKept b) (coords_permits.refusal_about w b) [] (coords_plans.ops_of w b) b given tt (λ k i. coords-planned w b i k given.d) (coords_command given.name) h

pub gtids-begin : (w : World) (b : BookState) (given : Command) → gtid_permits.refusal_of w b given ≡ None → AllGoByKept b (gtid_plans.plan_of b given)
gtids-begin w b given h =
    about-permitted (AllGoByKept b) (gtid_permits.refusal_about w b) [] (gtid_plans.ops_of b) b given tt (λ k i. gtids-planned w b i k given.d) (gtid_command given.name) h
