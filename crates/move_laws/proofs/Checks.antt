-- Each check: the number of its refusal; and servers' settings are all that it asks of servers beside the book.
use Rattle.std.proofs.Common.{◌≡◌, ℕ, Bool, true, false, not, List, [], ◌∷◌, refl, sym, ◌∙◌, ap, subst, Option, Some, None, ◌==◌, is_some, nat_lt, option_map, nat_eq}
use Rattle.move_laws.proofs.Prelude.{BookState, Check, Interval, Refusal, SameSettings, ServerNo, Settings, Version, World, attached_of, exec_seen}
use Rattle.move_laws.proofs.Prelude.{first_about, first_seen, has_log, id_in, instance_at, is_attached_in, is_below, is_detached_in, is_lower}
use Rattle.move_laws.proofs.Prelude.{is_valid, is_within, label_in, lease_at, logs_in, lower_version, number_of, only_if, option_and_then, option_or}
use Rattle.move_laws.proofs.Prelude.{own_missing, pointwise, purged_seen, same_Some, same_id, same_label, seen_source, server_at, set_seen, source_of}
use Rattle.move_laws.proofs.Prelude.{uuid_in, uuid_of, version_in}
use Rattle.recovery_core.specs.Permission.Checks.{Case, are_one, busy, busy_by, check_number, errant, errant_by, is_given, of_below, of_lower_version}
use Rattle.recovery_core.specs.Permission.Checks.{of_other_cluster, of_same_id, place_purged, purged_under, refusal_by, set_purged, unlogged}
use Rattle.recovery_core.specs.Permission.Checks.{unreached, without_log}
use Rattle.move_laws.proofs.Prelude.check
use Rattle.move_laws.proofs.Prelude.refusal
use Rattle.recovery_core.specs.ServerModel.declared.server.Server.{Server}

-- ---- a check's refusal has its number

abbrev Has : ℕ → Refusal → Type 0
Has n r = number_of r ≡ n

of-test : (n : ℕ) (b : Bool) (x r : Refusal) → Has n x → only_if b x ≡ Some r → Has n r
of-test n true x r has h = subst (Has n) (same_Some x r h) has
of-test n false x r has h = cc

of-list : {A : Type 0} (n : ℕ) (f : A → Option Refusal) (xs : List A) (r : Refusal) → ((a : A) (s : Refusal) → f a ≡ Some s → Has n s) → first_about f xs ≡ Some r → Has n r
of-list n f [] r each h = cc
of-list n f (a ∷ xs) r each h = go (f a) refl h (of-list n f xs r each)
  where
    go : (o : Option Refusal) → f a ≡ o → option_or o (first_about f xs) ≡ Some r → (first_about f xs ≡ Some r → Has n r) → Has n r
    go None e h rest = rest h
    go (Some s) e h rest = each a r (e ∙ h)

of-busy : (n : ServerNo) (o : Option ℕ) (r : Refusal) → busy_by n o ≡ Some r → Has 4 r
of-busy n None r h = cc
of-busy n (Some job) r h = subst (Has 4) (same_Some (refusal.Busy n job) r h) refl

of-errant : (xs : List Interval) (r : Refusal) → errant_by xs ≡ Some r → Has 18 r
of-errant [] r h = cc
of-errant (x ∷ xs) r h = subst (Has 18) (same_Some (refusal.Errant (x ∷ xs)) r h) refl

of-place : (b : BookState) (n : ServerNo) (o : Option ServerNo) (r : Refusal) → purged_under b n o ≡ Some r → Has 30 r
of-place b n None r h = cc
of-place b n (Some s) r h = of-test 30 (nat_lt (exec_seen b n).file (first_seen b s)) (refusal.Purged s (first_seen b s)) r refl h

pub check-number : (w : World) (b : BookState) (c : Case) (k : Check) (r : Refusal) → refusal_by w b c k ≡ Some r → Has (check_number k) r
check-number w b c check.SameInstance r h = of-test 3 (is_given c.i c.to) refusal.SameInstance r refl h
check-number w b c check.Busy r h = of-list 4 (busy b) c.leased r (λ n s. of-busy n (lease_at b n) s) h
check-number w b c check.Unreachable r h = of-list 5 (unreached b) c.reached r (λ n s. of-test 5 (not (is_valid b n)) (refusal.Unreachable n) s refl) h
check-number w b c check.NoSource r h = of-test 6 (not (is_some (source_of b c.i))) refusal.NoSource r refl h
check-number w b c check.NotDetached r h = of-test 7 (is_attached_in (seen_source (instance_at b c.i))) refusal.NotDetached r refl h
check-number w b c check.AlreadyDetached r h = of-test 8 (is_detached_in (seen_source (instance_at b c.i))) refusal.AlreadyDetached r refl h
check-number w b c check.OtherCluster r h = of-list 9 (of_other_cluster w) c.moves r (λ m s. of-test 9 (not (same_label w m.no m.source)) refusal.OtherCluster s refl) h
check-number w b c check.Below r h = of-list 10 (of_below b) c.moves r (λ m s. of-test 10 (is_below b m.source m.no) refusal.Below s refl) h
check-number w b c check.SourceHasNoSource r h = of-test 11 (not (is_some (option_and_then (attached_of b) (source_of b c.i)))) refusal.SourceHasNoSource r refl h
check-number w b c check.NotSibling r h = of-test 12 (not (are_one (source_of b c.i) (option_and_then (attached_of b) c.to))) refusal.NotSibling r refl h
check-number w b c check.NotSameLog r h = of-test 13 (not (are_one (source_of b c.i) c.to)) refusal.NotSameLog r refl h
check-number w b c check.DestNotLogging r h = of-list 14 (without_log w) c.sources r (λ n s. of-test 14 (not (has_log w n)) refusal.DestNotLogging s refl) h
check-number w b c check.SameServerId r h = of-list 15 (of_same_id w) c.moves r (λ m s. of-test 15 (same_id w m.no m.source) (refusal.SameServerId m.no) s refl) h
check-number w b c check.VersionLower r h = of-list 16 (of_lower_version w) c.moves r (λ m s. of-test 16 (is_lower w m.no m.source) (refusal.VersionLower m.no) s refl) h
check-number w b c check.GtidOff r h = of-test 17 (not w.gtid) refusal.GtidOff r refl h
check-number w b c check.Errant r h =
    of-list 18 (errant w b) c.moves r (λ m s. of-errant (own_missing (uuid_of w m.no) (set_seen b m.no) (set_seen b m.source)) s) h
check-number w b c check.PurgedPlace r h = of-list 30 (place_purged b) c.crossed r (λ n s. of-place b n (source_of b n) s) h
check-number w b c check.PurgedSet r h =
    of-list 30 (set_purged b) c.moves r
    (λ m s. of-test 30 (not (is_within (purged_seen b m.source) (set_seen b m.no))) (refusal.Purged m.source (first_seen b m.source)) s refl) h
check-number w b c check.PseudoOff r h = subst (Has 31) (same_Some refusal.PseudoOff r h) refl
check-number w b c check.MovedNotLogging r h = of-list 32 (unlogged w) c.moves r (λ m s. of-test 32 (not (has_log w m.no)) (refusal.MovedNotLogging m.no) s refl) h

-- ---- settings

abbrev settings_in : Option Server → Option Settings
settings_in o = option_map (λ s. s.settings) o

abbrev label_by : Option Settings → List ℕ
label_by None = []
label_by (Some s) = s.cluster

abbrev logs_by : Option Settings → Bool
logs_by None = false
logs_by (Some s) = s.logs

abbrev id_by : Option Settings → ℕ
id_by None = 0
id_by (Some s) = s.server_id

abbrev version_by : Option Settings → Version
version_by None = record { major = 0; minor = 0; patch = 0 }
version_by (Some s) = s.version

abbrev uuid_by : Option Settings → ℕ
uuid_by None = 0
uuid_by (Some s) = s.uuid

label-of : (o : Option Server) → label_in o ≡ label_by (settings_in o)
label-of None = refl
label-of (Some s) = refl

logs-of : (o : Option Server) → logs_in o ≡ logs_by (settings_in o)
logs-of None = refl
logs-of (Some s) = refl

id-of : (o : Option Server) → id_in o ≡ id_by (settings_in o)
id-of None = refl
id-of (Some s) = refl

version-of : (o : Option Server) → version_in o ≡ version_by (settings_in o)
version-of None = refl
version-of (Some s) = refl

uuid-of : (o : Option Server) → uuid_in o ≡ uuid_by (settings_in o)
uuid-of None = refl
uuid-of (Some s) = refl

-- ---- servers with the same settings have the same refusals

pub about-same : {A B : Type 0} (f g : A → Option B) → ((a : A) → f a ≡ g a) → (xs : List A) → first_about f xs ≡ first_about g xs
about-same f g same [] = refl
about-same f g same (x ∷ xs) = ap (λ o. option_or o (first_about f xs)) (same x) ∙ ap (option_or (g x)) (about-same f g same xs)

module _ (w v : World) (same : SameSettings w v) where
  by-label : (n : ℕ) → label_in (server_at w n) ≡ label_in (server_at v n)
  by-label n = label-of (server_at w n) ∙ (ap label_by (same.settings n) ∙ sym (label-of (server_at v n)))

  pub by-logs : (n : ℕ) → logs_in (server_at w n) ≡ logs_in (server_at v n)
  by-logs n = logs-of (server_at w n) ∙ (ap logs_by (same.settings n) ∙ sym (logs-of (server_at v n)))

  by-id : (n : ℕ) → id_in (server_at w n) ≡ id_in (server_at v n)
  by-id n = id-of (server_at w n) ∙ (ap id_by (same.settings n) ∙ sym (id-of (server_at v n)))

  by-version : (n : ℕ) → version_in (server_at w n) ≡ version_in (server_at v n)
  by-version n = version-of (server_at w n) ∙ (ap version_by (same.settings n) ∙ sym (version-of (server_at v n)))

  by-uuid : (n : ℕ) → uuid_in (server_at w n) ≡ uuid_in (server_at v n)
  by-uuid n = uuid-of (server_at w n) ∙ (ap uuid_by (same.settings n) ∙ sym (uuid-of (server_at v n)))

  pub labels-same : (m n : ServerNo) → same_label w m n ≡ same_label v m n
  labels-same m n = ap (λ x. pointwise nat_eq x (label_in (server_at w n.0))) (by-label m.0) ∙ ap (pointwise nat_eq (label_in (server_at v m.0))) (by-label n.0)

  ids-same : (m n : ServerNo) → same_id w m n ≡ same_id v m n
  ids-same m n = ap (λ x. x == id_in (server_at w n.0)) (by-id m.0) ∙ ap (λ x. id_in (server_at v m.0) == x) (by-id n.0)

  lower-same : (m n : ServerNo) → is_lower w m n ≡ is_lower v m n
  lower-same m n = ap (λ x. lower_version x (version_in (server_at w n.0))) (by-version m.0) ∙ ap (lower_version (version_in (server_at v m.0))) (by-version n.0)

  -- ---- checks

  pub check-same : (b : BookState) (c : Case) (k : Check) → refusal_by w b c k ≡ refusal_by v b c k
  check-same b c check.OtherCluster = about-same (of_other_cluster w) (of_other_cluster v) (λ m. ap (λ x. only_if (not x) refusal.OtherCluster) (labels-same m.no m.source)) c.moves
  check-same b c check.DestNotLogging = about-same (without_log w) (without_log v) (λ n. ap (λ x. only_if (not x) refusal.DestNotLogging) (by-logs n.0)) c.sources
  check-same b c check.SameServerId = about-same (of_same_id w) (of_same_id v) (λ m. ap (λ x. only_if x (refusal.SameServerId m.no)) (ids-same m.no m.source)) c.moves
  check-same b c check.VersionLower = about-same (of_lower_version w) (of_lower_version v) (λ m. ap (λ x. only_if x (refusal.VersionLower m.no)) (lower-same m.no m.source)) c.moves
  check-same b c check.GtidOff = ap (λ x. only_if (not x) refusal.GtidOff) same.gtid
  check-same b c check.Errant =
      about-same (errant w b) (errant v b) (λ m. ap (λ x. errant_by (own_missing x (set_seen b m.no) (set_seen b m.source))) (by-uuid m.no.0)) c.moves
  check-same b c check.MovedNotLogging = about-same (unlogged w) (unlogged v) (λ m. ap (λ x. only_if (not x) (refusal.MovedNotLogging m.no)) (by-logs m.no.0)) c.moves
  check-same b c _ = refl
