-- A way goes from parent to parent.
use Rattle.std.proofs.Common.{◌≡◌, ℕ, ◌<◌, Bool, true, false, List, [], ◌∷◌, length, refl, ◌∙◌, ap, subst, Option, Some, None, zero, suc, ◌==◌, IfSome, option_map, if◌then◌else◌}
use Rattle.move_laws.proofs.Prelude.{BookState, Climbs, GoesUp, IsBook, ServerNo, attached_of, eq-eqb, eqb-true, false≢true, is_given, option_or, parent_at}
use Rattle.move_laws.proofs.Prelude.{path_beside, path_by, path_of, same_Some, source_of, way_above, way_in, way_on, way_up}
use Rattle.move_laws.proofs.Going.{parent-source, same-server}

abbrev WayClimbs : BookState → ServerNo → ServerNo → Option (List ServerNo) → Type 0
WayClimbs b n to o = IfSome o (λ passed. Climbs b n passed to)

further : (b : BookState) (n to p : ServerNo) → parent_at b n ≡ Some p → (t : Bool) → (p.0 == to.0) ≡ t → (o : Option (List ServerNo)) → WayClimbs b p to o
    → WayClimbs b n to (if t then Some [] else option_map (λ passed. p ∷ passed) o)
further b n to p at true here o h = at ∙ ap (λ (s : ServerNo). Some s) (same-server p to (eqb-true p.0 to.0 here))
further b n to p at false here None h = tt
further b n to p at false here (Some xs) h = (at, h)

climbing : (b : BookState) (to : ServerNo) (k : ℕ) (n : ServerNo) → WayClimbs b n to (way_in (parent_at b) to k n)
climbing b to zero n = tt
climbing b to (suc k) n = go (parent_at b n) refl (λ p. climbing b to k p)
  where
    go : (o : Option ServerNo) → parent_at b n ≡ o → ((p : ServerNo) → WayClimbs b p to (way_in (parent_at b) to k p))
        → WayClimbs b n to (way_on (way_in (parent_at b) to k) to o)
    go None at rest = tt
    go (Some p) at rest = further b n to p at (p.0 == to.0) refl (way_in (parent_at b) to k p) (rest p)

pub way-climbs : (b : BookState) (n to : ServerNo) (passed : List ServerNo) → way_above b n to ≡ Some passed → Climbs b n passed to
way-climbs b n to passed e = go (way_above b n to) (climbing b to (length b.names) n) e
  where
    go : (o : Option (List ServerNo)) → WayClimbs b n to o → o ≡ Some passed → Climbs b n passed to
    go None h at = cc
    go (Some xs) h at = subst (λ (l : List ServerNo). Climbs b n l to) (same_Some xs passed at) h

pub way-goes-up : (b : BookState) (n to : ServerNo) (passed : List ServerNo) → IsBook b → n.0 < length b.names → way_up b n to ≡ Some passed → GoesUp b n passed to
way-goes-up b n to passed is n_in e = by_source (source_of b n) refl e
  where
    first : (xs : List ServerNo) → Climbs b n xs to → GoesUp b n xs to
    first [] at = parent-source b is n to n_in at
    first (x ∷ xs) at = (parent-source b is n x n_in at.0, at.1)

    here : (s : ServerNo) → source_of b n ≡ Some s → (t : Bool) → (s.0 == to.0) ≡ t → (if t then Some [] else way_above b n to) ≡ Some passed → GoesUp b n passed to
    here s at true same e =
        subst (λ (l : List ServerNo). GoesUp b n l to) (same_Some [] passed e)
        (at ∙ ap (λ (k : ServerNo). Some k) (same-server s to (eqb-true s.0 to.0 same)))
    here s at false other e = first passed (way-climbs b n to passed e)

    by_source : (o : Option ServerNo) → source_of b n ≡ o → (if is_given to o then Some [] else way_above b n to) ≡ Some passed → GoesUp b n passed to
    by_source None at e = first passed (way-climbs b n to passed e)
    by_source (Some s) at e = here s at (s.0 == to.0) refl e

-- a server's own source is next above it
here-next : (n : ServerNo) (o : Option (List ServerNo)) → (if is_given n (Some n) then Some [] else o) ≡ Some []
here-next n o = go (n.0 == n.0) (eq-eqb n.0 n.0 refl)
  where
    go : (t : Bool) → t ≡ true → (if t then Some [] else o) ≡ Some []
    go true e = refl
    go false e = absurd (false≢true e)

pub way-next : (b : BookState) (n to : ServerNo) → source_of b n ≡ Some to → way_up b n to ≡ Some []
way-next b n to e = ap (λ (o : Option ServerNo). if is_given to o then Some [] else way_above b n to) e ∙ here-next to (way_above b n to)

pub own-path : (b : BookState) (n d : ServerNo) → source_of b n ≡ Some d → path_of b n d ≡ Some (record { passed = []; under = None })
own-path b n d e = ap (λ (o : Option (List ServerNo)). option_or (path_by None o) (path_beside b n (attached_of b d))) (way-next b n d e)

pub path-beside : (b : BookState) (n d s : ServerNo) → source_of b n ≡ Some s → attached_of b d ≡ Some s → way_up b n d ≡ None
    → path_of b n d ≡ Some (record { passed = []; under = Some s })
path-beside b n d s e attached none =
    ap (λ (o : Option (List ServerNo)). option_or (path_by None o) (path_beside b n (attached_of b d))) none
    ∙ ap (path_beside b n) attached
    ∙ ap (path_by (Some s)) (way-next b n s e)
