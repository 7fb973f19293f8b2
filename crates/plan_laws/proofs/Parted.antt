-- Those whom a choice loses are detached, or started again: who they are, in their order.
use Rattle.std.proofs.Common.{◌≡◌, ◌∙◌, Bool, true, false, cond, not, List, [], ◌∷◌, ◌++◌, map, Option, Some, None, refl, sym, ap, ◌==◌, filter, filter_map}
use Rattle.plan_laws.proofs.Prelude.{AreApart, LostReplica, Lot, Purpose, ServerNo, Stopped, Why, care_of, cons_option, expels, false≢true, fork_of}
use Rattle.plan_laws.proofs.Prelude.{gathers, gone, is_before, is_refused, losses_in, option_map, option_or, releases, stay_of, why_of}
use Rattle.plan_laws.proofs.Prelude.{without_stopped}
use Rattle.plan_laws.proofs.Prelude.lot
use Rattle.plan_laws.proofs.Prelude.op
use Rattle.plan_laws.proofs.Prelude.path
use Rattle.plan_laws.proofs.Prelude.purpose
use Rattle.plan_laws.proofs.Prelude.way
use Rattle.plan_laws.proofs.Prelude.why as whys
use Rattle.plan_laws.proofs.Lost.{Found, There, Gone, drained_in, filter-own, gone_in, lost_by, lost_in, no_of, why_in}
use Rattle.plan_laws.proofs.Scripts.{Parts, StaysApart, forks, loser_of, stays}

-- those of the lost ones that are detached, and those that are started
abbrev pub detached : Purpose → List ServerNo → List ServerNo
detached purpose.Regroup ks = []
detached _ ks = ks

abbrev pub started : Purpose → List ServerNo → List ServerNo
started purpose.Regroup ks = ks
started _ ks = []

-- why a choice loses a drained one
abbrev pub left_why : Lot → Option Why
left_why (lot.Goes by) = None
left_why (lot.Stays why) = Some why

-- and why it is lost as it goes
abbrev pub refused_why : Stopped → Stopped → Lot → Option Why
refused_why p s (lot.Goes by) = cond (is_refused p s by) (Some (whys.ahead s.exec)) None
refused_why p s (lot.Stays why) = None

module _ (p : Stopped) (lots : Stopped → Lot) where
  abbrev pub lose : Stopped → Option Why
  lose s = cond (s.no.0 == p.no.0) None (left_why (lots s))

  abbrev pub late : Stopped → Option Why
  late s = cond (s.no.0 == p.no.0) None (refused_why p s (lots s))

  -- those that are lost on their way
  abbrev pub late_of : List Stopped → List LostReplica
  late_of ss = filter_map (lost_by (λ s. refused_why p s (lots s))) ss

  -- those beside the chosen one
  abbrev pub beside : List Found → List Stopped
  beside fs = without_stopped (filter_map drained_in fs) p.no

  pub losses-are : (fs : List Found) → losses_in lots (beside fs) ≡ filter_map (lost_in lose) fs
  losses-are [] = refl
  losses-are (Gone n ∷ fs) = losses-are fs
  losses-are (There s ∷ fs) = go (s.no.0 == p.no.0) (losses-are fs)
    where
      left : (l : Lot) → losses_in lots (beside fs) ≡ filter_map (lost_in lose) fs
          → stay_of s l ++ losses_in lots (beside fs)
          ≡ cons_option (option_map (λ why. let k : LostReplica = record { no = s.no; why = why; detached = false } in k) (left_why l)) (filter_map (lost_in lose) fs)
      left (lot.Goes by) rest = rest
      left (lot.Stays why) rest = ap (λ (ls : List LostReplica). record { no = s.no; why = why; detached = false } ∷ ls) rest

      go : (b : Bool) → losses_in lots (beside fs) ≡ filter_map (lost_in lose) fs
          → losses_in lots (cond (not b) (s ∷ beside fs) (beside fs))
          ≡ cons_option (option_map (λ why. let k : LostReplica = record { no = s.no; why = why; detached = false } in k) (cond b None (left_why (lots s)))) (filter_map (lost_in lose) fs)
      go true rest = rest
      go false rest = left (lots s) rest

  pub late-are : (fs : List Found) → late_of (beside fs) ≡ filter_map (lost_in late) fs
  late-are [] = refl
  late-are (Gone n ∷ fs) = late-are fs
  late-are (There s ∷ fs) = go (s.no.0 == p.no.0) (late-are fs)
    where
      go : (b : Bool) → late_of (beside fs) ≡ filter_map (lost_in late) fs
          → late_of (cond (not b) (s ∷ beside fs) (beside fs))
          ≡ cons_option (option_map (λ why. let k : LostReplica = record { no = s.no; why = why; detached = false } in k) (cond b None (refused_why p s (lots s)))) (filter_map (lost_in late) fs)
      go true rest = rest
      go false rest = ap (λ (ls : List LostReplica). cons_option (lost_by (λ s. refused_why p s (lots s)) s) ls) rest

  -- ---- a test of reasons

  module _ (apart : (s : Stopped) → StaysApart p s (lots s)) (of : Option Why → Bool) (none : of None ≡ false) (away : (n : ServerNo) → of (Some (gone n).why) ≡ false) where
    abbrev pub of_kind : Found → Option ServerNo
    of_kind x = cond (of (why_in lose late x)) (Some (no_of x)) None

    -- a replica's own
    abbrev own_why : Stopped → Lot → Option Why
    own_why s l = option_or (left_why l) (refused_why p s l)

    unmet : (n : ServerNo) (ks : List ServerNo) → cons_option (cond (of None) (Some n) None) ks ≡ ks
    unmet n ks = ap (λ (b : Bool). cons_option (cond b (Some n) None) ks) none

    -- the lost ones pass
    module _ (kept : (why : Why) → Parts (care_of why) → of (Some why) ≡ true) where
      meets : (s : Stopped) (l : Lot) → StaysApart p s l → (ks hs : List ServerNo) → ks ≡ hs
          → cons_option (cond (of (own_why s l)) (Some s.no) None) ks ≡ cons_option (stays (fork_of p s l)) hs
      meets s (lot.Stays why) fits ks hs rest = ap (λ (b : Bool). cons_option (cond b (Some s.no) None) ks) (kept why fits) ∙ ap (λ (l : List ServerNo). s.no ∷ l) rest
      meets s (lot.Goes (way.Auto to exec)) fits ks hs rest = go (is_before p.exec s.exec)
        where
          go : (v : Bool) → cons_option (cond (of (cond v (Some (whys.ahead s.exec)) None)) (Some s.no) None) ks
              ≡ cons_option (loser_of s.no (cond v (path.Refused (op.Auto s.no to)) (path.Goes (op.Auto s.no to ∷ [])))) hs
          go true = ap (λ (b : Bool). cons_option (cond b (Some s.no) None) ks) (kept (whys.ahead s.exec) (refl, refl, refl)) ∙ ap (λ (l : List ServerNo). s.no ∷ l) rest
          go false = unmet s.no ks ∙ rest
      meets s _ fits ks hs rest = unmet s.no ks ∙ rest

      pub picks-lost : (fs : List Found) → filter_map of_kind fs ≡ filter_map stays (forks p lots (beside fs))
      picks-lost [] = refl
      picks-lost (Gone n ∷ fs) = ap (λ (b : Bool). cons_option (cond b (Some n) None) (filter_map of_kind fs)) (away n) ∙ picks-lost fs
      picks-lost (There s ∷ fs) = go (s.no.0 == p.no.0) (picks-lost fs)
        where
          go : (b : Bool) → filter_map of_kind fs ≡ filter_map stays (forks p lots (beside fs))
              → cons_option (cond (of (option_or (cond b None (left_why (lots s))) (cond b None (refused_why p s (lots s))))) (Some s.no) None) (filter_map of_kind fs)
              ≡ filter_map stays (forks p lots (cond (not b) (s ∷ beside fs) (beside fs)))
          go true rest = unmet s.no (filter_map of_kind fs) ∙ rest
          go false rest = meets s (lots s) (apart s) (filter_map of_kind fs) (filter_map stays (forks p lots (beside fs))) rest

    -- none of them passes
    module _ (off : (why : Why) → Parts (care_of why) → of (Some why) ≡ false) where
      fails : (s : Stopped) (l : Lot) → StaysApart p s l → of (own_why s l) ≡ false
      fails s (lot.Stays why) fits = off why fits
      fails s (lot.Goes (way.Auto to exec)) fits = go (is_before p.exec s.exec)
        where
          go : (v : Bool) → of (cond v (Some (whys.ahead s.exec)) None) ≡ false
          go true = off (whys.ahead s.exec) (refl, refl, refl)
          go false = none
      fails s _ fits = none

      pub picks-none : (fs : List Found) → filter_map of_kind fs ≡ []
      picks-none [] = refl
      picks-none (Gone n ∷ fs) = ap (λ (b : Bool). cons_option (cond b (Some n) None) (filter_map of_kind fs)) (away n) ∙ picks-none fs
      picks-none (There s ∷ fs) = ap (λ (b : Bool). cons_option (cond b (Some s.no) None) (filter_map of_kind fs)) (go (s.no.0 == p.no.0)) ∙ picks-none fs
        where
          go : (b : Bool) → of (option_or (cond b None (left_why (lots s))) (cond b None (refused_why p s (lots s)))) ≡ false
          go true = none
          go false = fails s (lots s) (apart s)

  -- ---- who is detached, who is started

  module _ (apart : (s : Stopped) → StaysApart p s (lots s)) where
    abbrev lost_nos : List Found → List ServerNo
    lost_nos fs = filter_map stays (forks p lots (beside fs))

    who-detached : (u : Purpose) → gathers u ≡ true → (fs : List Found) → filter_map (λ x. cond (expels u (why_in lose late x)) (Some (no_of x)) None) fs ≡ detached u (lost_nos fs)
    who-detached purpose.Regroup is fs = picks-none apart (expels purpose.Regroup) refl (λ n. refl) (λ why h. refl) fs
    who-detached purpose.Master is fs = picks-lost apart (expels purpose.Master) refl (λ n. refl) (λ why h. h.0) fs
    who-detached (purpose.Intermediate k) is fs = absurd (false≢true is)
    who-detached (purpose.Takeover k) is fs = absurd (false≢true is)

    who-started : (u : Purpose) → gathers u ≡ true → (fs : List Found) → filter_map (λ x. cond (releases u (why_in lose late x)) (Some (no_of x)) None) fs ≡ started u (lost_nos fs)
    who-started purpose.Regroup is fs = picks-lost apart (releases purpose.Regroup) refl (λ n. refl) (λ why h. h.2) fs
    who-started purpose.Master is fs = picks-none apart (releases purpose.Master) refl (λ n. refl) (λ why h. h.1) fs
    who-started (purpose.Intermediate k) is fs = absurd (false≢true is)
    who-started (purpose.Takeover k) is fs = absurd (false≢true is)

    -- of all replicas, once one is chosen and the others went their ways
    module _ (u : Purpose) (is : gathers u ≡ true) (fs : List Found) (once : AreApart (map no_of fs)) (ns : List ServerNo) (all : map no_of fs ≡ ns) where
      abbrev lost_then : List LostReplica
      lost_then = filter_map gone_in fs ++ (losses_in lots (beside fs) ++ late_of (beside fs))

      as-found : (of : Option Why → Bool) → filter (λ n. of (why_of lost_then n)) ns ≡ filter_map (λ x. cond (of (why_in lose late x)) (Some (no_of x)) None) fs
      as-found of =
          ap (λ (ks : List ServerNo). filter (λ n. of (why_of lost_then n)) ks) (sym all)
          ∙ ((λ i. filter (λ n. of (why_of (filter_map gone_in fs ++ (losses-are fs i ++ late-are fs i)) n)) (map no_of fs))
          ∙ filter-own lose late fs once of)

      pub are-detached : filter (λ n. expels u (why_of lost_then n)) ns ≡ detached u (lost_nos fs)
      are-detached = as-found (expels u) ∙ who-detached u is fs

      pub are-started : filter (λ n. releases u (why_of lost_then n)) ns ≡ started u (lost_nos fs)
      are-started = as-found (releases u) ∙ who-started u is fs
