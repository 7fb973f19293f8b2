-- Replicas that are handed over to a successor, by their numbers.
use Rattle.std.proofs.Common.{◌≡◌, ◌∙◌, Bool, true, false, cond, List, [], ◌∷◌, ◌++◌, map, Option, Some, None, refl, sym, ap, filter, filter_map}
use Rattle.plan_laws.proofs.Prelude.{AreApart, BookState, Done, Event, Ground, Instance, LostReplica, Op, ServerNo, Stopped, Way, Why, append-nil}
use Rattle.plan_laws.proofs.Prelude.{cons_option, event_of, events_of, expected, expected_at, expels, false≢true, filter_map-append, flat_map, handed}
use Rattle.plan_laws.proofs.Prelude.{handed_over, instance_at, is_valid, option_or, releases, same_Some, steps_below, steps_of, steps_to, stopped_of}
use Rattle.plan_laws.proofs.Prelude.{way_of, why_of}
use Rattle.plan_laws.proofs.Prelude.Branches.{left}
use Rattle.plan_laws.proofs.Prelude.op
use Rattle.plan_laws.proofs.Prelude.purpose
use Rattle.plan_laws.proofs.Prelude.why
use Rattle.plan_laws.proofs.Lost.{Found, There, Gone, drained_in, filter-own, gone_in, lost_by, lost_in, no_of, why_in}
use Rattle.plan_laws.proofs.Scripts.{detach-event, go_events, lost_of, way-events}

-- ---- whom the book reaches

abbrev valid_so : Option Instance → Bool
valid_so None = false
valid_so (Some i) = i.valid

abbrev pub numbers : List Stopped → List ServerNo
numbers ds = map (λ (d : Stopped). d.no) ds

pub expected-valid : (b : BookState) (n : ServerNo) (rest : List Stopped) → is_valid b n ≡ true → numbers (cons_option (expected_at n (instance_at b n)) rest) ≡ n ∷ numbers rest
expected-valid b n rest valid = go (instance_at b n) valid
  where
    go : (o : Option Instance) → valid_so o ≡ true → numbers (cons_option (expected_at n o) rest) ≡ n ∷ numbers rest
    go None h = absurd (false≢true h)
    go (Some i) h = ap (λ (v : Bool). numbers (cons_option (cond v (Some (stopped_of n i)) None) rest)) h

pub expected-gone : (b : BookState) (n : ServerNo) (rest : List Stopped) → is_valid b n ≡ false → numbers (cons_option (expected_at n (instance_at b n)) rest) ≡ numbers rest
expected-gone b n rest away = go (instance_at b n) away
  where
    go : (o : Option Instance) → valid_so o ≡ false → numbers (cons_option (expected_at n o) rest) ≡ numbers rest
    go None h = refl
    go (Some i) h = ap (λ (v : Bool). numbers (cons_option (cond v (Some (stopped_of n i)) None) rest)) h

expected-no : (b : BookState) (n : ServerNo) (d : Stopped) → expected_at n (instance_at b n) ≡ Some d → d.no ≡ n
expected-no b n d is = go (instance_at b n) is
  where
    go : (o : Option Instance) → expected_at n o ≡ Some d → d.no ≡ n
    go None h = cc
    go (Some i) h = by i.valid h
      where
        by : (v : Bool) → cond v (Some (stopped_of n i)) None ≡ Some d → d.no ≡ n
        by true h = ap (λ (x : Stopped). x.no) (sym (same_Some (stopped_of n i) d h))
        by false h = cc

module _ (g : Ground) (f s : ServerNo) where
  -- ---- what lines say

  -- those that have a way go it; the others are detached
  abbrev pub below_events : List ServerNo → List Event
  below_events ns = flat_map (λ n. go_events n (steps_to g f s n)) ns

  abbrev pub left_nos : List ServerNo → List ServerNo
  left_nos ns = filter_map (λ n. lost_of n (steps_to g f s n)) ns

  steps-are : (n : ServerNo) (d : Stopped) → expected_at n (instance_at g.book n) ≡ Some d → steps_to g f s d.no ≡ steps_of d.no (way_of g f s d)
  steps-are n d is =
      let same : d.no ≡ n = expected-no g.book n d is in
      ap (steps_to g f s) same ∙ (ap (steps_below g f s n) is ∙ ap (λ (k : ServerNo). steps_of k (way_of g f s d)) (sym same))

  handed-events : (d : Stopped) (o : Option Way) → events_of (handed f d o) ≡ go_events d.no (steps_of d.no o)
  handed-events d None = refl
  handed-events d (Some by) = way-events false d.no by

  handed-told : (ns : List ServerNo) → events_of (flat_map (λ d. handed f d (way_of g f s d)) (expected g.book ns)) ≡ below_events (numbers (expected g.book ns))
  handed-told [] = refl
  handed-told (n ∷ ns) = go (expected_at n (instance_at g.book n)) refl (handed-told ns)
    where
      go : (o : Option Stopped) → expected_at n (instance_at g.book n) ≡ o
          → events_of (flat_map (λ d. handed f d (way_of g f s d)) (expected g.book ns)) ≡ below_events (numbers (expected g.book ns))
          → events_of (flat_map (λ d. handed f d (way_of g f s d)) (cons_option o (expected g.book ns))) ≡ below_events (numbers (cons_option o (expected g.book ns)))
      go None is told = told
      go (Some d) is told =
          filter_map-append event_of (handed f d (way_of g f s d)) (flat_map (λ d. handed f d (way_of g f s d)) (expected g.book ns))
          ∙ (λ i. (handed-events d (way_of g f s d) ∙ ap (go_events d.no) (sym (steps-are n d is))) i ++ told i)

  abbrev LeftTold : List Stopped → Type 0
  LeftTold ds = events_of (filter_map (λ d. left g.book d (way_of g f s d)) ds) ≡ map (λ n. Done (op.Detach n)) (left_nos (numbers ds))

  left-told : (ns : List ServerNo) → events_of (filter_map (λ d. left g.book d (way_of g f s d)) (expected g.book ns)) ≡ map (λ n. Done (op.Detach n)) (left_nos (numbers (expected g.book ns)))
  left-told [] = refl
  left-told (n ∷ ns) = go (expected_at n (instance_at g.book n)) refl (left-told ns)
    where
      by : (d : Stopped) (o : Option Way) → LeftTold (expected g.book ns)
          → events_of (cons_option (left g.book d o) (filter_map (λ d. left g.book d (way_of g f s d)) (expected g.book ns)))
          ≡ map (λ n. Done (op.Detach n)) (cons_option (lost_of d.no (steps_of d.no o)) (left_nos (numbers (expected g.book ns))))
      by d None told =
          detach-event g.book d.no (filter_map (λ d. left g.book d (way_of g f s d)) (expected g.book ns)) ∙ ap (λ (es : List Event). Done (op.Detach d.no) ∷ es) told
      by d (Some y) told = told

      go : (o : Option Stopped) → expected_at n (instance_at g.book n) ≡ o → LeftTold (expected g.book ns) → LeftTold (cons_option o (expected g.book ns))
      go None is told = told
      go (Some d) is told =
          by d (way_of g f s d) told
          ∙ ap (λ (o : Option (List Op)). map (λ n. Done (op.Detach n)) (cons_option (lost_of d.no o) (left_nos (numbers (expected g.book ns))))) (sym (steps-are n d is))

  pub told-below : (ns : List ServerNo) → events_of (handed_over g f s (expected g.book ns))
      ≡ below_events (numbers (expected g.book ns)) ++ map (λ n. Done (op.Detach n)) (left_nos (numbers (expected g.book ns)))
  told-below ns =
      filter_map-append event_of (flat_map (λ d. handed f d (way_of g f s d)) (expected g.book ns)) (filter_map (λ d. left g.book d (way_of g f s d)) (expected g.book ns))
      ∙ (λ i. handed-told ns i ++ left-told ns i)

  -- ---- who is lost

  abbrev pub behind_by : Stopped → Option (List Op) → Option Why
  behind_by d None = Some (why.behind d.exec)
  behind_by d (Some ops) = None

  -- none is lost later
  abbrev pub never : Stopped → Option Why
  never d = None

  never-lost : (fs : List Found) → filter_map (lost_in never) fs ≡ []
  never-lost [] = refl
  never-lost (There d ∷ fs) = never-lost fs
  never-lost (Gone n ∷ fs) = never-lost fs

  -- one without a way
  abbrev pub not_handed : Stopped → Option Why
  not_handed d = behind_by d (steps_to g f s d.no)

  lost-drained : (fs : List Found) → filter_map (lost_in not_handed) fs ≡ filter_map (lost_by not_handed) (filter_map drained_in fs)
  lost-drained [] = refl
  lost-drained (There d ∷ fs) = ap (λ (ls : List LostReplica). cons_option (lost_by not_handed d) ls) (lost-drained fs)
  lost-drained (Gone n ∷ fs) = lost-drained fs

  picks-left : (k : ServerNo) (fs : List Found)
      → filter_map (λ x. cond (expels (purpose.Intermediate k) (why_in not_handed never x)) (Some (no_of x)) None) fs ≡ left_nos (numbers (filter_map drained_in fs))
  picks-left k [] = refl
  picks-left k (Gone n ∷ fs) = picks-left k fs
  picks-left k (There d ∷ fs) = go (steps_to g f s d.no) (picks-left k fs)
    where
      go : (o : Option (List Op))
          → filter_map (λ x. cond (expels (purpose.Intermediate k) (why_in not_handed never x)) (Some (no_of x)) None) fs ≡ left_nos (numbers (filter_map drained_in fs))
          → cons_option (cond (expels (purpose.Intermediate k) (option_or (behind_by d o) None)) (Some d.no) None) (filter_map (λ x. cond (expels (purpose.Intermediate k) (why_in not_handed never x)) (Some (no_of x)) None) fs)
          ≡ cons_option (lost_of d.no o) (left_nos (numbers (filter_map drained_in fs)))
      go None same = ap (λ (ks : List ServerNo). d.no ∷ ks) same
      go (Some ops) same = same

  picks-no : (k : ServerNo) (fs : List Found) → filter_map (λ x. cond (releases (purpose.Intermediate k) (why_in not_handed never x)) (Some (no_of x)) None) fs ≡ []
  picks-no k [] = refl
  picks-no k (Gone n ∷ fs) = picks-no k fs
  picks-no k (There d ∷ fs) = go (steps_to g f s d.no) (picks-no k fs)
    where
      go : (o : Option (List Op)) → filter_map (λ x. cond (releases (purpose.Intermediate k) (why_in not_handed never x)) (Some (no_of x)) None) fs ≡ []
          → cons_option (cond (releases (purpose.Intermediate k) (option_or (behind_by d o) None)) (Some d.no) None) (filter_map (λ x. cond (releases (purpose.Intermediate k) (why_in not_handed never x)) (Some (no_of x)) None) fs) ≡ []
      go None same = same
      go (Some ops) same = same

  module _ (k : ServerNo) (fs : List Found) (once : AreApart (map no_of fs)) (ns : List ServerNo) (all : map no_of fs ≡ ns) where
    abbrev lost_then : List LostReplica
    lost_then = filter_map gone_in fs ++ filter_map (lost_by not_handed) (filter_map drained_in fs)

    as-found : (of : Option Why → Bool) → filter (λ n. of (why_of lost_then n)) ns ≡ filter_map (λ x. cond (of (why_in not_handed never x)) (Some (no_of x)) None) fs
    as-found of =
        ap (λ (ks : List ServerNo). filter (λ n. of (why_of lost_then n)) ks) (sym all)
        ∙ (ap (λ (ls : List LostReplica). filter (λ n. of (why_of (filter_map gone_in fs ++ ls) n)) (map no_of fs)) (sym (lost-drained fs) ∙ (sym (append-nil (filter_map (lost_in not_handed) fs)) ∙ ap (λ (ls : List LostReplica). filter_map (lost_in not_handed) fs ++ ls) (sym (never-lost fs))))
        ∙ filter-own not_handed never fs once of)

    pub left-detached : filter (λ n. expels (purpose.Intermediate k) (why_of lost_then n)) ns ≡ left_nos (numbers (filter_map drained_in fs))
    left-detached = as-found (expels (purpose.Intermediate k)) ∙ picks-left k fs

    pub none-started : filter (λ n. releases (purpose.Intermediate k) (why_of lost_then n)) ns ≡ []
    none-started = as-found (releases (purpose.Intermediate k)) ∙ picks-no k fs
