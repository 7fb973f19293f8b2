-- The servers of a dump have no flaw.
use Rattle.read_back_laws.proofs.DrawnFlaws.{none_met as none-met}
use Rattle.std.proofs.Common.{◌≡◌, ◌∙◌, ◌&&◌, ◌||◌, ℕ, Bool, true, false, cond, List, [], length, All, refl, sym, ap, Option, Some, None, arith, zero-add, is_none, nat_eq, nat_lt, not, slice_get}
use Rattle.read_back_laws.proofs.Prelude.{All-nil, AttachedWell, Coord, Flaw, IsOf, IsTidy, Log, Part, Safe, Server, ServerInit, ServerNo, Settings, Txn, World}
use Rattle.read_back_laws.proofs.Prelude.{at_server, at_source, bad_coords, bad_coords_in, bad_files, bad_flushes, bad_purged, below_itself, both_given}
use Rattle.read_back_laws.proofs.Prelude.{count_of, eq-eqb, exec_of, falls_or_passes, first_met, flaw_in, flaw_or, flush_points, has_place_of, init_by, init_of}
use Rattle.read_back_laws.proofs.Prelude.{is_at_or_before, is_before, is_kin, le-ltb, list_any_none, listed_history, log_at, nat_list_eq_equiv, nat_tests}
use Rattle.read_back_laws.proofs.Prelude.{not_from_true, not_kin, of_source, opening_of, or_from, origin_elsewhere, other_cluster, parts_of, place, pointwise}
use Rattle.read_back_laws.proofs.Prelude.{read_of, same_Some, same_cluster, server_at, source_in, source_no, source_not_logging, too_many}
use Rattle.scenarios.specs.Openings.Servers.{number_of}
use Rattle.read_back_laws.proofs.Prelude.Servers as listed
use Rattle.read_back_laws.proofs.Chains.{never_back}
use Rattle.read_back_laws.proofs.Histories.{listed-own, prefix-within}
use Rattle.read_back_laws.proofs.Inits.{grounded-given, init-at, init-count, init-flushes, init-from, init-none, init-number, init-purged, init-settings, inits, source-no}
use Rattle.read_back_laws.proofs.Kins.{kin-own}
use Rattle.read_back_laws.proofs.Layouts.{entries-laid, falls-own_points}
use Rattle.read_back_laws.proofs.Logs.{exec-own, log-given, read-own}
use Rattle.read_back_laws.proofs.OpenedParts.{OfParts, OfParts-all}

-- ---- tests that no server meets

flaw_or-none : (flaw : Flaw) (rest : Option (Flaw × ℕ)) (o : Option ℕ) → o ≡ None → rest ≡ None → flaw_or flaw rest o ≡ None
flaw_or-none flaw rest o none others = ap (flaw_or flaw rest) none ∙ others

module _ (w : World) where
  none-meets : (test : ℕ → ServerInit → Bool) → ((n : ℕ) (s : Server) → server_at w n ≡ Some s → test n (init_of s) ≡ false) → first_met test 0 (inits w) ≡ None
  none-meets test each =
      none-met test 0 (inits w)
      (λ j i at. let g = init-from w j i at in
      ap (λ k. test k i) (zero-add j) ∙ ap (test j) g.is ∙ each j g.server g.there)

  -- a test that holds of no server that is there
  at-none : (test : ServerInit → Bool) (m : ℕ) → ((r : Server) → server_at w m ≡ Some r → test (init_of r) ≡ false) → at_server test (slice_get (inits w) m) ≡ false
  at-none test m each = go (server_at w m) refl
    where
      go : (o : Option Server) → server_at w m ≡ o → at_server test (slice_get (inits w) m) ≡ false
      go None none = ap (at_server test) (init-none w m none)
      go (Some r) there = ap (at_server test) (init-at w m r there) ∙ each r there

  of-none : (test : ℕ → ServerInit → Bool) (s : Server) → ((m : ℕ) (r : Server) → source_no s.source ≡ Some m → server_at w m ≡ Some r → test m (init_of r) ≡ false) → of_source (inits w) test (init_of s) ≡ false
  of-none test s each = ap (at_source (inits w) test) (init-number s) ∙ go (source_no s.source) refl
    where
      go : (o : Option ℕ) → source_no s.source ≡ o → at_source (inits w) test o ≡ false
      go None from = refl
      go (Some m) from = at-none (test m) m (λ r there. each m r from there)

-- ---- what is given of a server

both-by : (s : Server) (o : Option ServerNo) → both_given (init_by s o) ≡ false
both-by s None = refl
both-by s (Some m) = refl

lacks-both : (s : Server) → both_given (init_of s) ≡ false
unfolding init_of
lacks-both s = both-by s (source_in s.source)

executed-by : (s : Server) (o : Option ServerNo) (m : ℕ) → number_of o ≡ Some m → (init_by s o).executed ≡ length s.history.txns
executed-by s None m from = cc
executed-by s (Some n) m from = refl

init-executed : (s : Server) (m : ℕ) → source_no s.source ≡ Some m → (init_of s).executed ≡ length s.history.txns
unfolding init_of
init-executed s m from = executed-by s (source_in s.source) m (source-no s.source ∙ from)

-- what holds of the parts of a history holds of those that are given
given-by : (P : Part → Type 0) (s : Server) (o : Option ServerNo) → All P (parts_of s.history.txns) → All P (listed.parts_of (init_by s o))
given-by P s None all = all
given-by P s (Some m) all = All-nil P

pub parts-given : (P : Part → Type 0) (s : Server) → All P (parts_of s.history.txns) → All P (listed.parts_of (init_of s))
unfolding init_of
parts-given P s all = given-by P s (source_in s.source) all

clusters-same : (a b : List ℕ) → a ≡ b → not (pointwise nat_eq a b) ≡ false
clusters-same a b same = not_from_true (pointwise nat_eq a b) (ap (pointwise nat_eq a) (sym same) ∙ nat_list_eq_equiv.refl a)

-- servers of one cluster
same-given : (s r : Server) → r.settings.cluster ≡ s.settings.cluster → not (same_cluster (init_of s) (init_of r)) ≡ false
same-given s r same =
    clusters-same (init_of s).settings.cluster (init_of r).settings.cluster
    (ap (λ (x : Settings). x.cluster) (init-settings s) ∙ sym same ∙ sym (ap (λ (x : Settings). x.cluster) (init-settings r)))

-- ---- the tests

-- coordinates with their places
has_place-same : (o : Option ℕ) (k : ℕ) → o ≡ Some k → not (has_place_of o k) ≡ false
has_place-same o k is = ap (λ x. not (has_place_of x k)) is ∙ not_from_true (has_place_of (Some k) k) (eq-eqb k k refl)

not_before : (c d : Coord) → is_at_or_before c d ≡ true → is_before d c ≡ false
not_before c d h = grind (arith, nat_tests)

coords-good : (r s : Server) → AttachedWell r s → bad_coords_in s.log.log (length r.history.txns) r.exec r.read ≡ false
coords-good r s well =
    or_from (not (has_place_of (place s.log.log r.exec) (length r.history.txns)) || is_none (place s.log.log r.read)) (is_before r.read r.exec)
    (or_from (not (has_place_of (place s.log.log r.exec) (length r.history.txns))) (is_none (place s.log.log r.read))
    (has_place-same (place s.log.log r.exec) (length r.history.txns) well.exec_place)
    (ap (λ (o : Option ℕ). is_none o) well.read_place.1))
    (not_before r.exec r.read well.order)

module _ (w : World) (safe : Safe w) (tidy : IsTidy w) where
  is-of : (n : ℕ) (s : Server) (m : ℕ) (r : Server) → IsOf w s.settings.cluster m → server_at w m ≡ Some r → not (same_cluster (init_of s) (init_of r)) ≡ false
  is-of n s m r of there =
      let same : of.server ≡ r = same_Some of.server r (sym of.there ∙ there) in
      same-given s r (ap (λ (x : Server). x.settings.cluster) (sym same) ∙ of.same)

  sources-log : (n : ℕ) (s : Server) → server_at w n ≡ Some s → source_not_logging (inits w) (init_of s) ≡ false
  sources-log n s at =
      of-none w (λ m i. not i.settings.logs) s
      (λ m r from there.
      let source = safe.logging n m s at from in
      let same : source.0 ≡ r = same_Some source.0 r (sym source.1 ∙ there) in
      let logs : (init_of r).settings.logs ≡ true = ap (λ (x : Settings). x.logs) (init-settings r) ∙ ap (λ (x : Server). x.settings.logs) (sym same) ∙ source.2 in
      not_from_true (init_of r).settings.logs logs)

  sources-near : (n : ℕ) (s : Server) → server_at w n ≡ Some s → of_source (inits w) (λ m i. not (same_cluster (init_of s) i)) (init_of s) ≡ false
  unfolding IsTidy
  sources-near n s at =
      of-none w (λ m i. not (same_cluster (init_of s) i)) s
      (λ m r from there. is-of n s m r ((tidy n s at).source m from) there)

  origins-near : (n : ℕ) (s : Server) → server_at w n ≡ Some s → origin_elsewhere (inits w) (init_of s) ≡ false
  unfolding IsTidy
  origins-near n s at =
      let elsewhere : ℕ → Bool = λ m. at_server (λ i. not (same_cluster (init_of s) i)) (slice_get (inits w) m) in
      let near : All (λ (t : Txn). elsewhere t.origin.0 ≡ false) s.history.txns =
      λ k d lt. at-none w (λ i. not (same_cluster (init_of s) i)) _ (λ r there. is-of n s _ r ((tidy n s at).origins k d lt) there) in
      let parts : All (OfParts (λ origin size. elsewhere origin.0 ≡ false)) (parts_of s.history.txns) = OfParts-all (λ origin size. elsewhere origin.0 ≡ false) s.history.txns near in
      list_any_none (λ (p : Part). elsewhere p.origin.0) (listed.parts_of (init_of s))
      (parts-given (λ (p : Part). elsewhere p.origin.0 ≡ false) s (λ k d lt. (parts k d lt).0))

  clusters-near : (n : ℕ) (s : Server) → server_at w n ≡ Some s → other_cluster (inits w) (init_of s) ≡ false
  clusters-near n s at =
      or_from (of_source (inits w) (λ m i. not (same_cluster (init_of s) i)) (init_of s)) (origin_elsewhere (inits w) (init_of s))
      (sources-near n s at) (origins-near n s at)

  counts-few : (n : ℕ) (s : Server) → server_at w n ≡ Some s → too_many (inits w) (init_of s) ≡ false
  counts-few n s at =
      of-none w (λ m i. nat_lt (count_of i) (init_of s).executed) s
      (λ m r from there.
      let few = prefix-within s r (safe.well n m s r at from there) in
      let executed = init-executed s m from in
      let count = init-count r in
      le-ltb (count_of (init_of r)) (init_of s).executed (omega arith))

  flushes-good : (n : ℕ) (s : Server) → server_at w n ≡ Some s → bad_flushes (init_of s) ≡ false
  unfolding IsTidy
  flushes-good n s at =
      ap (λ (x : Settings). cond x.logs (falls_or_passes (count_of (init_of s)) 0 (init_of s).flushes) (nat_lt 0 (length (init_of s).flushes))) (init-settings s)
      ∙ ap (λ k. cond s.settings.logs (falls_or_passes k 0 (init_of s).flushes) (nat_lt 0 (length (init_of s).flushes))) (init-count s)
      ∙ ap (λ fs. cond s.settings.logs (falls_or_passes (length s.history.txns) 0 fs) (nat_lt 0 (length fs))) (init-flushes s)
      ∙ go s.settings.logs refl
    where
      go : (b : Bool) → s.settings.logs ≡ b → cond b (falls_or_passes (length s.history.txns) 0 (cond b (flush_points s.settings.limit s.log.log) [])) (nat_lt 0 (length (cond b (flush_points s.settings.limit s.log.log) []))) ≡ false
      go true logs =
          ap (λ limit. falls_or_passes (length s.history.txns) 0 (flush_points limit s.log.log)) (sym (tidy n s at).limit)
          ∙ falls-own_points s.log.log (length s.history.txns) (let count = entries-laid s.history.txns s.log.log (safe.laid n s at logs) in omega arith)
      go false silent = refl

  purged-good : (n : ℕ) (s : Server) → server_at w n ≡ Some s → bad_purged (inits w) n (init_of s) ≡ false
  purged-good n s at =
      ap (λ (x : Settings). cond x.logs (nat_lt (log_at (inits w) n).files (init_of s).purged) (nat_lt 1 (init_of s).purged)) (init-settings s)
      ∙ ap (λ (x : Log). cond s.settings.logs (nat_lt x.files (init_of s).purged) (nat_lt 1 (init_of s).purged)) (log-given w safe tidy n s at)
      ∙ ap (λ k. cond s.settings.logs (nat_lt s.log.log.files k) (nat_lt 1 k)) (init-purged s)
      ∙ go s.settings.logs refl
    where
      go : (b : Bool) → s.settings.logs ≡ b → cond b (nat_lt s.log.log.files s.first) (nat_lt 1 s.first) ≡ false
      go true logs = le-ltb s.log.log.files s.first (safe.kept n s at).high
      go false silent = let one = ((safe.kept n s at).unlogged silent).0 in le-ltb 1 s.first (omega arith)

  coords-placed : (n : ℕ) (s : Server) → server_at w n ≡ Some s → bad_coords (inits w) (init_of s) ≡ false
  coords-placed n s at =
      of-none w (λ m i. bad_coords_in (log_at (inits w) m) (init_of s).executed (exec_of (inits w) (init_of s)) (read_of (inits w) (init_of s))) s
      (λ m r from there.
      let executed = (init_of s).executed in
      let exec = exec_of (inits w) (init_of s) in
      let read = read_of (inits w) (init_of s) in
      ap (λ l. bad_coords_in l executed exec read) (log-given w safe tidy m r there)
      ∙ ap (λ k. bad_coords_in r.log.log k exec read) (init-executed s m from)
      ∙ ap (λ c. bad_coords_in r.log.log (length s.history.txns) c read) (exec-own w safe tidy n s at)
      ∙ ap (λ c. bad_coords_in r.log.log (length s.history.txns) s.exec c) (read-own w safe tidy n s at)
      ∙ coords-good s r (safe.well n m s r at from there))

  kin-given : (n : ℕ) (s : Server) → server_at w n ≡ Some s → not_kin (inits w) n (init_of s) ≡ false
  kin-given n s at = go (init_of s).source refl
    where
      go : (o : Option ServerNo) → (init_of s).source ≡ o → not_kin (inits w) n (init_of s) ≡ false
      go (Some m) from = ap (λ (o : Option ServerNo). is_none o && not (is_kin (inits w) n (listed_history (listed.parts_of (init_of s))))) from
      go None from =
          let none : source_no s.source ≡ None = sym (init-number s) ∙ ap number_of from in
          let kin : is_kin (inits w) n (listed_history (listed.parts_of (init_of s))) ≡ true = ap (is_kin (inits w) n) (listed-own w safe n s at none) ∙ kin-own w safe n s at in
          ap (λ (o : Option ServerNo). is_none o && not (is_kin (inits w) n (listed_history (listed.parts_of (init_of s))))) from
          ∙ not_from_true (is_kin (inits w) n (listed_history (listed.parts_of (init_of s)))) kin

  none-given : flaw_in (inits w) ≡ None
  none-given =
      flaw_or-none _ _ _ (none-meets w (λ n i. both_given i) (λ n s at. lacks-both s))
      (flaw_or-none _ _ _ (none-meets w (λ n i. source_not_logging (inits w) i) sources-log)
      (flaw_or-none _ _ _ (none-meets w (λ n i. below_itself (inits w) n) (λ n s at. never_back (listed.sources (inits w)) (length (inits w)) n (grounded-given w safe n)))
      (flaw_or-none _ _ _ (none-meets w (λ n i. other_cluster (inits w) i) clusters-near)
      (flaw_or-none _ _ _ (none-meets w (λ n i. too_many (inits w) i) counts-few)
      (flaw_or-none _ _ _ (none-meets w (λ n i. bad_files (inits w) n i) (λ n s at. or_from (bad_flushes (init_of s)) (bad_purged (inits w) n (init_of s)) (flushes-good n s at) (purged-good n s at)))
      (flaw_or-none _ _ _ (none-meets w (λ n i. bad_coords (inits w) i) coords-placed)
      (flaw_or-none _ _ _ (none-meets w (λ n i. not_kin (inits w) n i) kin-given) refl)))))))

  -- the servers of a dump have no flaw
  pub flawless-given : flaw_in (opening_of w).servers ≡ None
  unfolding opening_of
  flawless-given = none-given
