-- Permitted relocations go by what was seen to be kept.
use Rattle.std.proofs.Common.{◌≡◌, Bool, true, false, List, [], ◌∷◌, ◌++◌, refl, sym, ◌∙◌, ap, Option, Some, None}
use Rattle.move_laws.proofs.Prelude.{AllGoByKept, BookState, Case, Command, Moment, Path, PathCommand, PurgedPlace, PurgedSet, Refusal, ServerNo}
use Rattle.move_laws.proofs.Prelude.{World, arrived, autos, climbed, crossed_by, crossed_in, crossed_on, first_about, first_refusal, flat_map}
use Rattle.move_laws.proofs.Prelude.{last_refusal, moved_by, moves_to, next_of, option_or, own_refusal, path_of, place_purged, places_row, refusal_by}
use Rattle.move_laws.proofs.Prelude.{regroup_command, relocate_row, relocated, replicas_but, replicas_row, set_purged, travelled, under, up}
use Rattle.move_laws.proofs.ByKept.{again-by, autos-by, by-append, finished-by, kept-place, kept-sets, under-by, up-by}
use Rattle.regroup.specs.Permits.{case_of, refusal_about, refusal_of, rest_refusal, row_of}
use Rattle.move_laws.proofs.Firsts.{about-permitted, neither}
use Rattle.regroup.specs.Plans.{ops_of, plan_of}
use Rattle.move_laws.proofs.Numbered.{row-passes}
use Rattle.recovery_core.specs.Commands.declared.kinds.PathCommand.TheVariants as command

none-before : {A : Type 0} (f : A → Option Refusal) (xs ys : List A) → first_about f (xs ++ ys) ≡ None → (first_about f xs ≡ None) × (first_about f ys ≡ None)
none-before f [] ys h = (refl, h)
none-before f (x ∷ xs) ys h =
    let parts = neither (f x) (first_about f (xs ++ ys)) h in
    let rest = none-before f xs ys parts.1 in
    (ap (λ (o : Option Refusal). option_or o (first_about f xs)) parts.0 ∙ rest.0, rest.1)

module _ (b : BookState) where
  climbed-by : (n : ServerNo) (xs : List ServerNo) (to : ServerNo) → first_about (place_purged b) xs ≡ None → AllGoByKept b (climbed n xs to)
  climbed-by n [] to h = tt
  climbed-by n (x ∷ xs) to h =
      let parts = neither (place_purged b x) (first_about (place_purged b) xs) h in
      by-append b (up n x (next_of xs to)) (climbed n xs to) (up-by b n x (next_of xs to) (kept-place b x parts.0)) (climbed-by n xs to parts.1)

  arrived-by : (n d : ServerNo) (xs : List ServerNo) (o : Option ServerNo) → first_about (place_purged b) (crossed_on n o xs) ≡ None → AllGoByKept b (arrived n d xs o)
  arrived-by n d [] None h = again-by b n d (kept-place b n (neither (place_purged b n) None h).0)
  arrived-by n d [] (Some s) h = under-by b n d s
  arrived-by n d (x ∷ xs) None h = climbed-by n (x ∷ xs) d h
  arrived-by n d (x ∷ xs) (Some s) h = by-append b (climbed n (x ∷ xs) s) (under n d s) (climbed-by n (x ∷ xs) s h) (under-by b n d s)

  travelled-by : (n d : ServerNo) (o : Option Path) → first_about (place_purged b) (crossed_in n o) ≡ None → AllGoByKept b (travelled n d o)
  travelled-by n d None h = tt
  travelled-by n d (Some p) h = arrived-by n d p.passed p.under h

  paths-by : (rs : List ServerNo) (d : ServerNo) → first_about (place_purged b) (flat_map (λ n. crossed_in n (path_of b n d)) rs) ≡ None
      → AllGoByKept b (flat_map (λ n. travelled n d (path_of b n d)) rs)
  paths-by [] d h = tt
  paths-by (r ∷ rs) d h =
      let parts = none-before (place_purged b) (crossed_in r (path_of b r d)) (flat_map (λ n. crossed_in n (path_of b n d)) rs) h in
      by-append b (travelled r d (path_of b r d)) (flat_map (λ n. travelled n d (path_of b n d)) rs) (travelled-by r d (path_of b r d) parts.0) (paths-by rs d parts.1)

module _ (w : World) (b : BookState) (now : Moment) (i : ServerNo) where
  relocated-by : (gtid : Bool) (rs : List ServerNo) (d : Option ServerNo) → (gtid ≡ true → first_about (set_purged b) (moves_to rs d) ≡ None)
      → ((e : ServerNo) → d ≡ Some e → gtid ≡ false → first_about (place_purged b) (flat_map (λ n. crossed_in n (path_of b n e)) rs) ≡ None) → AllGoByKept b (relocated gtid b rs d)
  relocated-by gtid rs None sets places = tt
  relocated-by true rs (Some d) sets places = finished-by b (autos rs d) _ (autos-by b rs d (kept-sets b rs d (sets refl)))
  relocated-by false rs (Some d) sets places = finished-by b (moved_by false b rs d) _ (paths-by b rs d (places d refl refl))

  places-of : (gtid : Bool) (rs : List ServerNo) (d : Option ServerNo) (c : Case) → c.crossed ≡ crossed_by gtid b rs d → first_refusal w b c (places_row gtid) ≡ None
      → (e : ServerNo) → d ≡ Some e → gtid ≡ false → first_about (place_purged b) (flat_map (λ n. crossed_in n (path_of b n e)) rs) ≡ None
  places-of true rs d c same h e is used = cc
  places-of false rs d c same h e is used =
      ap (first_about (place_purged b)) (sym (same ∙ ap (λ (o : Option ServerNo). crossed_by false b rs o) is)) ∙ (neither (refusal_by w b c PurgedPlace) None h).0

  one-sets : (gtid : Bool) (d : Option ServerNo) → first_refusal w b (case_of w b command.Relocate i d) (relocate_row gtid) ≡ None → gtid ≡ true
      → first_about (set_purged b) (moves_to (i ∷ []) d) ≡ None
  one-sets true d h used = row-passes w b (case_of w b command.Relocate i d) (relocate_row true) 10 PurgedSet h refl
  one-sets false d h used = cc

  each-sets : (gtid : Bool) (d : Option ServerNo) → first_refusal w b (case_of w b command.RelocateReplicas i d) (replicas_row gtid) ≡ None → gtid ≡ true
      → first_about (set_purged b) (moves_to (replicas_but b i d) d) ≡ None
  each-sets true d h used = row-passes w b (case_of w b command.RelocateReplicas i d) (replicas_row true) 9 PurgedSet h refl
  each-sets false d h used = cc

  paths-planned : (k : PathCommand) (d : Option ServerNo) → first_refusal w b (case_of w b k i d) (row_of w.gtid k) ≡ None → last_refusal w b k i d ≡ None → AllGoByKept b (ops_of w b k i d)
  paths-planned command.Relocate d row last =
      relocated-by w.gtid (i ∷ []) d (one-sets w.gtid d row) (places-of w.gtid (i ∷ []) d (case_of w b command.Relocate i d) refl last)
  paths-planned command.RelocateReplicas d row last =
      relocated-by w.gtid (replicas_but b i d) d (each-sets w.gtid d row) (places-of w.gtid (replicas_but b i d) d (case_of w b command.RelocateReplicas i d) refl last)
  paths-planned command.RegroupReplicas d row last = tt

pub paths-begin : (w : World) (b : BookState) (now : Moment) (given : Command) → refusal_of w b now given ≡ None → AllGoByKept b (plan_of w b given)
paths-begin w b now given h = about-permitted (AllGoByKept b) (refusal_about w b now) [] (ops_of w b) b given tt each (regroup_command given.name) h
  where
    each : (k : PathCommand) (i : ServerNo) → refusal_about w b now k i given.d ≡ None → AllGoByKept b (ops_of w b k i given.d)
    each k i h =
        let parts = neither (first_refusal w b (case_of w b k i given.d) (row_of w.gtid k)) (rest_refusal w b now k i given.d) h in
        paths-planned w b now i k given.d parts.0 (neither (own_refusal w b now k i given.d) (last_refusal w b k i given.d) parts.1).1
