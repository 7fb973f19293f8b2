-- The plans of permitted commands.
use Rattle.std.proofs.Common.{◌≡◌, Bool, true, false, List, [], ◌∷◌, ◌++◌, sym, ◌∙◌, ap, Option, Some, None, All, IsSome, is_some}
use Rattle.move_laws.proofs.Prelude.{All-cons, All-nil, BookState, Follows, Moment, Op, Path, ServerNo, World, append-nil, arrived, astray, auto}
use Rattle.move_laws.proofs.Prelude.{autos, finished, first_about, first_refusal, flat_map, following, given, last_refusal, own_refusal, path_of}
use Rattle.move_laws.proofs.Prelude.{relocated, replicas_but, travelled, unknown_in, without_path}
use Rattle.regroup.specs.Permits.{case_of, refusal_about, refusal_of, rest_refusal, row_of}
use Rattle.move_laws.proofs.Firsts.{given-by, neither}
use Rattle.regroup.specs.Plans.{plan_of}
use Rattle.recovery_core.specs.Commands.declared.kinds.PathCommand.TheVariants as command
use Rattle.move_laws.proofs.Prelude.name
use Rattle.move_laws.proofs.Prelude.refusal

-- if none is astray, each has a path
found-each : (b : BookState) (d : ServerNo) (rs : List ServerNo) → first_about (without_path b (Some d)) rs ≡ None → All (λ r. IsSome (path_of b r d)) rs
found-each b d [] h = All-nil (λ (r : ServerNo). IsSome (path_of b r d))
found-each b d (r ∷ rs) h =
    let parts = neither (without_path b (Some d) r) (first_about (without_path b (Some d)) rs) h in
    let p = given-by (path_of b r d) refusal.NoPath parts.0 in
    All-cons (λ (n : ServerNo). IsSome (path_of b n d)) r rs (ap is_some p.1) (found-each b d rs parts.1)

by-coordinates : (gtid : Bool) (b : BookState) (rs : List ServerNo) (d : Option ServerNo) → gtid ≡ false → astray gtid b rs d ≡ None → astray false b rs d ≡ None
by-coordinates gtid b rs d e h = ap (λ g. astray g b rs d) (sym e) ∙ h

pub plan-path : (w : World) (b : BookState) (now : Moment) (i d : ServerNo) → w.gtid ≡ false → refusal_of w b now (given name.Relocate i (Some d)) ≡ None
    → (p : Path) × (path_of b i d ≡ Some p) × (plan_of w b (given name.Relocate i (Some d)) ≡ finished (arrived i d p.passed p.under) (Follows i d ∷ []))
plan-path w b now i d e h =
    let about = (neither (unknown_in b (given name.Relocate i (Some d))) (refusal_about w b now command.Relocate i (Some d)) h).1 in
    let last =
    (neither (own_refusal w b now command.Relocate i (Some d)) (last_refusal w b command.Relocate i (Some d))
    (neither (first_refusal w b (case_of w b command.Relocate i (Some d)) (row_of w.gtid command.Relocate)) (rest_refusal w b now command.Relocate i (Some d)) about).1).0
    in
    let each = by-coordinates w.gtid b (i ∷ []) (Some d) e last in
    let p = given-by (path_of b i d) refusal.NoPath (neither (without_path b (Some d) i) None each).0 in
    let way : relocated w.gtid b (i ∷ []) (Some d) ≡ finished (travelled i d (path_of b i d) ++ []) (Follows i d ∷ []) = ap (λ g. relocated g b (i ∷ []) (Some d)) e in
    let plan = way ∙ ap (λ (ops : List Op). finished ops (Follows i d ∷ [])) (append-nil (travelled i d (path_of b i d)) ∙ ap (travelled i d) p.1) in
    (p.0, p.1, plan)

pub plan-auto : (w : World) (b : BookState) (i d : ServerNo) → w.gtid ≡ true → plan_of w b (given name.Relocate i (Some d)) ≡ finished (auto i d) (Follows i d ∷ [])
plan-auto w b i d e = ap (λ g. relocated g b (i ∷ []) (Some d)) e

pub paths-found : (w : World) (b : BookState) (now : Moment) (i d : ServerNo) → w.gtid ≡ false → refusal_of w b now (given name.RelocateReplicas i (Some d)) ≡ None
    → All (λ r. IsSome (path_of b r d)) (replicas_but b i (Some d))
paths-found w b now i d e h =
    let about = (neither (unknown_in b (given name.RelocateReplicas i (Some d))) (refusal_about w b now command.RelocateReplicas i (Some d)) h).1 in
    let last =
    (neither (own_refusal w b now command.RelocateReplicas i (Some d)) (last_refusal w b command.RelocateReplicas i (Some d))
    (neither (first_refusal w b (case_of w b command.RelocateReplicas i (Some d)) (row_of w.gtid command.RelocateReplicas)) (rest_refusal w b now command.RelocateReplicas i (Some d))
    about).1).0
    in
    found-each b d (replicas_but b i (Some d)) (by-coordinates w.gtid b (replicas_but b i (Some d)) (Some d) e last)

pub plan-paths : (w : World) (b : BookState) (i d : ServerNo) → w.gtid ≡ false
    → plan_of w b (given name.RelocateReplicas i (Some d))
    ≡ finished (flat_map (λ r. travelled r d (path_of b r d)) (replicas_but b i (Some d))) (following (replicas_but b i (Some d)) d)
plan-paths w b i d e = ap (λ g. relocated g b (replicas_but b i (Some d)) (Some d)) e

pub plan-autos : (w : World) (b : BookState) (i d : ServerNo) → w.gtid ≡ true
    → plan_of w b (given name.RelocateReplicas i (Some d)) ≡ finished (autos (replicas_but b i (Some d)) d) (following (replicas_but b i (Some d)) d)
plan-autos w b i d e = ap (λ g. relocated g b (replicas_but b i (Some d)) (Some d)) e
