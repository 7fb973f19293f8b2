-- What is asked of servers beside the book are their settings, and whether GTIDs are used.
use Rattle.std.proofs.Common.{◌≡◌, ℕ, Bool, not, ◌&&◌, ◌||◌, List, [], ◌∷◌, ◌++◌, refl, ◌∙◌, ap, Option, Some, None}
use Rattle.move_laws.proofs.Prelude.{Action, Attempt, AuditState, BookState, Case, Check, Code, Command, CoordsCommand, GtidCommand}
use Rattle.move_laws.proofs.Prelude.{IntermediateRecovery, MasterRecovery, MatchCommand, Moment, Nothing, PathCommand, SameSettings, ServerNo, World}
use Rattle.move_laws.proofs.Prelude.{about, about_one, action_of, can_succeed, code_at, coords_command, first_refusal, going_by, gtid_command}
use Rattle.move_laws.proofs.Prelude.{has_candidate, has_log, has_successor, held_back, is_auto, is_barred, is_candidate, is_instance, is_replica_of}
use Rattle.move_laws.proofs.Prelude.{is_valid, list_any, moving, no_master, no_replica, only_if, option_or, option_to_list, pseudo_command}
use Rattle.move_laws.proofs.Prelude.{refusal_by, regroup_command, replicas_but, replicas_of, rule_at, same_label, source_of, unknown_in}
use Rattle.move_laws.proofs.Prelude.check
use Rattle.move_laws.proofs.Prelude.command as coord
use Rattle.move_laws.proofs.Prelude.coords_permits as coords
use Rattle.move_laws.proofs.Prelude.coords_plans
use Rattle.moves_gtid.specs.Permits as gtids
use Rattle.move_laws.proofs.Prelude.Permits as matches
use Rattle.recovery_core.specs.Commands.declared.kinds.MatchCommand.TheVariants as matching
use Rattle.move_laws.proofs.Prelude.path
use Rattle.move_laws.proofs.Prelude.path_plans
use Rattle.move_laws.proofs.Prelude.paths
use Rattle.move_laws.proofs.Prelude.recovery
use Rattle.move_laws.proofs.Prelude.refusal
use Rattle.move_laws.proofs.Prelude.takeover
use Rattle.move_laws.proofs.Checks.{about-same, by-logs, check-same, labels-same}

-- ---- lists

any-same : {A : Type 0} (f g : A → Bool) → ((a : A) → f a ≡ g a) → (xs : List A) → list_any f xs ≡ list_any g xs
any-same f g same [] = refl
any-same f g same (x ∷ xs) = ap (λ b. b || list_any f xs) (same x) ∙ ap (λ b. g x || b) (any-same f g same xs)

kinds-same : {K A : Type 0} (none : A) (f g : K → ServerNo → Option ServerNo → A) → ((c : K) (i : ServerNo) (d : Option ServerNo) → f c i d ≡ g c i d)
    → (kind : Option K) (given : Command) → about none f kind given ≡ about none g kind given
kinds-same none f g same None given = refl
kinds-same none f g same (Some c) given = go given.i
  where
    go : (i : Option ServerNo) → about_one none (f c) i given.d ≡ about_one none (g c) i given.d
    go None = refl
    go (Some i) = same c i given.d

module _ (w v : World) (same : SameSettings w v) where
  row-same : (b : BookState) (c : Case) (row : List Check) → first_refusal w b c row ≡ first_refusal v b c row
  row-same b c row = about-same (refusal_by w b c) (refusal_by v b c) (check-same w v same b c) row

  -- ---- by coordinates

  by-gtids : (b : BookState) (i : ServerNo) → coords.by_gtids w b i ≡ coords.by_gtids v b i
  by-gtids b i = ap (λ g. g && is_auto b i) same.gtid

  pub coords-same : (b : BookState) (given : Command) → coords.refusal_of w b given ≡ coords.refusal_of v b given
  coords-same b given = ap (option_or (unknown_in b given)) (kinds-same None (coords.refusal_about w b) (coords.refusal_about v b) one (coords_command given.name) given)
    where
      one : (c : CoordsCommand) (i : ServerNo) (d : Option ServerNo) → coords.refusal_about w b c i d ≡ coords.refusal_about v b c i d
      one c i d =
          row-same b (coords.case_of b c i d) (coords.row_of (coords.by_gtids w b i) c)
          ∙ ap (λ g. first_refusal v b (coords.case_of b c i d) (coords.row_of g c)) (by-gtids b i)

  ops-same : (b : BookState) (c : CoordsCommand) (i : ServerNo) (d : Option ServerNo) → coords_plans.ops_of w b c i d ≡ coords_plans.ops_of v b c i d
  ops-same b coord.Repoint i d = ap (λ g. coords_plans.repointed_by g i d (source_of b i)) (by-gtids b i)
  ops-same b _ i d = refl

  pub coords-plans-same : (b : BookState) (given : Command) → coords_plans.plan_of w b given ≡ coords_plans.plan_of v b given
  coords-plans-same b given = kinds-same [] (coords_plans.ops_of w b) (coords_plans.ops_of v b) (ops-same b) (coords_command given.name) given

  -- ---- by GTIDs

  pub gtids-same : (b : BookState) (given : Command) → gtids.refusal_of w b given ≡ gtids.refusal_of v b given
  gtids-same b given =
      ap (option_or (unknown_in b given))
      (kinds-same None (gtids.refusal_about w b) (gtids.refusal_about v b) (λ (c : GtidCommand) i d. row-same b (gtids.case_of b c i d) (gtids.row_of c)) (gtid_command given.name) given)

  -- ---- candidates

  candidates-same : (b : BookState) (now : Moment) (i : ServerNo) → has_candidate w b now i ≡ has_candidate v b now i
  candidates-same b now i =
      any-same (is_candidate w b now) (is_candidate v b now) (λ n. ap (λ x. is_valid b n && (x && not (is_barred (rule_at b n now)))) (by-logs w v same n.0)) (replicas_of b i)

  -- ---- by matches

  match-own-same : (b : BookState) (now : Moment) (c : MatchCommand) (i : ServerNo) → matches.own_refusal w b now c i ≡ matches.own_refusal v b now c i
  match-own-same b now matching.RegroupReplicas i = ap (λ x. only_if (not x) refusal.NoCandidate) (candidates-same b now i)
  match-own-same b now _ i = refl

  pub matches-same : (b : BookState) (now : Moment) (every : ℕ) (given : Command) → matches.refusal_of w b now every given ≡ matches.refusal_of v b now every given
  matches-same b now every given =
      ap (option_or (unknown_in b given)) (kinds-same None (matches.refusal_about w b now every) (matches.refusal_about v b now every) one (pseudo_command given.name) given)
    where
      one : (c : MatchCommand) (i : ServerNo) (d : Option ServerNo) → matches.refusal_about w b now every c i d ≡ matches.refusal_about v b now every c i d
      one c i d =
          ap (λ x. option_or x (matches.rest_refusal w b now every c i d)) (row-same b (matches.case_of b c i d) (matches.row_of c))
          ∙ (ap (λ x. option_or (matches.row_refusal v b c i d) (option_or x (matches.last_refusal w b every c i d))) (match-own-same b now c i)
          ∙ ap (λ x. option_or (matches.row_refusal v b c i d) (option_or (matches.own_refusal v b now c i) x)) (row-same b (matches.case_of b c i d) (matches.last_row_of every c)))

  -- ---- by paths

  case-same : (b : BookState) (c : PathCommand) (i : ServerNo) (d : Option ServerNo) → paths.case_of w b c i d ≡ paths.case_of v b c i d
  case-same b path.Relocate i d =
      ap (λ g. going_by (paths.crossed_by g b (i ∷ []) d) (moving i (i ∷ []) d ((i ∷ []) ++ (option_to_list d ++ paths.passed_by g b (i ∷ []) d)))) same.gtid
  case-same b path.RelocateReplicas i d =
      ap (λ g. going_by (paths.crossed_by g b (replicas_but b i d) d) (moving i (replicas_but b i d) d (replicas_but b i d ++ (option_to_list d ++ paths.passed_by g b (replicas_but b i d) d)))) same.gtid
  case-same b path.RegroupReplicas i d = refl

  own-same : (b : BookState) (now : Moment) (c : PathCommand) (i : ServerNo) (d : Option ServerNo) → paths.own_refusal w b now c i d ≡ paths.own_refusal v b now c i d
  own-same b now path.Relocate i d = ap (λ g. paths.astray g b (i ∷ []) d) same.gtid
  own-same b now path.RelocateReplicas i d = ap (λ g. paths.astray g b (replicas_but b i d) d) same.gtid
  own-same b now path.RegroupReplicas i d = ap (λ x. only_if (not x) refusal.NoCandidate) (candidates-same b now i)

  pub paths-same : (b : BookState) (now : Moment) (given : Command) → paths.refusal_of w b now given ≡ paths.refusal_of v b now given
  paths-same b now given = ap (option_or (unknown_in b given)) (kinds-same None (paths.refusal_about w b now) (paths.refusal_about v b now) one (regroup_command given.name) given)
    where
      row : (c : PathCommand) (i : ServerNo) (d : Option ServerNo) → paths.row_refusal w b c i d ≡ paths.row_refusal v b c i d
      row c i d =
          row-same b (paths.case_of w b c i d) (paths.row_of w.gtid c)
          ∙ (ap (λ x. first_refusal v b x (paths.row_of w.gtid c)) (case-same b c i d)
          ∙ ap (λ g. first_refusal v b (paths.case_of v b c i d) (paths.row_of g c)) same.gtid)

      last : (c : PathCommand) (i : ServerNo) (d : Option ServerNo) → paths.last_refusal w b c i d ≡ paths.last_refusal v b c i d
      last c i d =
          row-same b (paths.case_of w b c i d) (paths.last_row_of w.gtid c)
          ∙ (ap (λ x. first_refusal v b x (paths.last_row_of w.gtid c)) (case-same b c i d)
          ∙ ap (λ g. first_refusal v b (paths.case_of v b c i d) (paths.last_row_of g c)) same.gtid)

      one : (c : PathCommand) (i : ServerNo) (d : Option ServerNo) → paths.refusal_about w b now c i d ≡ paths.refusal_about v b now c i d
      one c i d =
          ap (λ x. option_or x (paths.rest_refusal w b now c i d)) (row c i d)
          ∙ (ap (λ x. option_or (paths.row_refusal v b c i d) (option_or x (paths.last_refusal w b c i d))) (own-same b now c i d)
          ∙ ap (λ x. option_or (paths.row_refusal v b c i d) (option_or (paths.own_refusal v b now c i d) x)) (last c i d))

  pub lists-same : (b : BookState) (given : Command) → paths.leased_by w b given ≡ paths.leased_by v b given
  lists-same b given =
      kinds-same [] (paths.list_of w b) (paths.list_of v b) (λ (c : PathCommand) i d. ap (λ (x : Case). x.leased) (case-same b c i d)) (regroup_command given.name) given

  path-ops-same : (b : BookState) (c : PathCommand) (i : ServerNo) (d : Option ServerNo) → path_plans.ops_of w b c i d ≡ path_plans.ops_of v b c i d
  path-ops-same b path.Relocate i d = ap (λ g. path_plans.relocated g b (i ∷ []) d) same.gtid
  path-ops-same b path.RelocateReplicas i d = ap (λ g. path_plans.relocated g b (replicas_but b i d) d) same.gtid
  path-ops-same b path.RegroupReplicas i d = refl

  pub path-plans-same : (b : BookState) (given : Command) → path_plans.plan_of w b given ≡ path_plans.plan_of v b given
  path-plans-same b given = kinds-same [] (path_plans.ops_of w b) (path_plans.ops_of v b) (path-ops-same b) (regroup_command given.name) given

  -- ---- recoveries and takeovers

  succeeds-same : (b : BookState) (f s : ServerNo) → can_succeed w b f s ≡ can_succeed v b f s
  succeeds-same b f s =
      ap (λ x. is_valid b s && (x && (same_label w s f && not (is_replica_of b f s)))) (by-logs w v same s.0)
      ∙ ap (λ x. is_valid b s && (has_log v s && (x && not (is_replica_of b f s)))) (labels-same w v same s f)

  successor-same : (b : BookState) (f : ServerNo) (o : Option ServerNo) → has_successor w b f o ≡ has_successor v b f o
  successor-same b f None = refl
  successor-same b f (Some s) = succeeds-same b f s

  action-same : (b : BookState) (audit : AuditState) (a : Attempt) (f : ServerNo) (code : Code) (act : Action) → recovery.refusal_for w b audit a f code act ≡ recovery.refusal_for v b audit a f code act
  action-same b audit a f code Nothing = refl
  action-same b audit a f code MasterRecovery =
      ap (λ x. option_or (recovery.held_off b audit a f a.by_master) (only_if (not x) refusal.NoCandidate)) (candidates-same b a.now f)
  action-same b audit a f code IntermediateRecovery =
      ap (λ x. option_or (recovery.held_off b audit a f a.by_intermediate) (only_if (not x) refusal.NoCandidate)) (successor-same b f (source_of b f))

  code-same : (b : BookState) (audit : AuditState) (a : Attempt) (f : ServerNo) (o : Option Code) → recovery.refusal_by w b audit a f o ≡ recovery.refusal_by v b audit a f o
  code-same b audit a f None = refl
  code-same b audit a f (Some code) =
      ap (λ x. option_or x (recovery.refusal_for w b audit a f code (action_of code))) (row-same b (recovery.case_of b f) (check.Busy ∷ []))
      ∙ ap (option_or (first_refusal v b (recovery.case_of b f) (check.Busy ∷ []))) (action-same b audit a f code (action_of code))

  pub recovery-same : (b : BookState) (audit : AuditState) (a : Attempt) (f : ServerNo) → recovery.recovery_refusal w b audit a f ≡ recovery.recovery_refusal v b audit a f
  recovery-same b audit a f = code-same b audit a f (code_at b f)

  pub takeover-same : (b : BookState) (audit : AuditState) (a : Attempt) (i d : ServerNo) → takeover.takeover_refusal w b audit a i d ≡ takeover.takeover_refusal v b audit a i d
  takeover-same b audit a i d =
      ap (λ x. option_or (only_if (not (is_instance b i && is_instance b d)) refusal.UnknownInstance)
      (option_or x (option_or (held_back b audit a i) (option_or (no_master b i) (option_or (no_replica b i d) None)))))
      (row-same b (takeover.case_of b i d) takeover.row)
