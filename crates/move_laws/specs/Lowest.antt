-- The lowest number: what the checks of each command refuse, in whatever order they are looked at.
use Rattle.std.specs.Prelude.{◌≡◌, ℕ, ◌≤◌, Bool, if◌then◌else◌, not, ◌&&◌, List, [], ◌∷◌, ◌++◌, map, Option, Some, None, All, Any}
use Rattle.move_laws.specs.Prelude.{Action, Attempt, AuditState, BookState, Busy, Case, Check, Code, Command, CoordsCommand, GtidCommand}
use Rattle.move_laws.specs.Prelude.{IntermediateRecovery, MasterRecovery, MatchCommand, Moment, NotActionable, Nothing, PathCommand, Refusal}
use Rattle.move_laws.specs.Prelude.{ServerNo, UnknownInstance, World, about, action_of, code_at, disabled, downtimed, filtered, held_back}
use Rattle.move_laws.specs.Prelude.{is_instance, no_master, no_replica, number_of, only_if, refusal_by, unknown_in, without_candidate}
use Rattle.move_laws.specs.Prelude.{without_successor}
use Rattle.move_laws.specs.Prelude.Permits as coords
use Rattle.move_laws.specs.Prelude.gtids
use Rattle.move_laws.specs.Prelude.PseudoMatch as matches
use Rattle.move_laws.specs.Prelude.paths
use Rattle.move_laws.specs.Prelude.recovery
use Rattle.move_laws.specs.Prelude.takeover

-- a check passes, or refuses with no lower number
abbrev pub IsNoLower : Refusal → Option Refusal → Type 0
IsNoLower r x = (s : Refusal) → x ≡ Some s → number_of r ≤ number_of s

-- one of these checks refuses so, and none refuses with a lower number
pub record IsLowest (checks : List (Option Refusal)) (r : Refusal) : Type 0 where
  pub one : Any (λ x. x ≡ Some r) checks
  pub lowest : All (IsNoLower r) checks

-- what is answered: nothing exactly if each check passes, else the refusal with the lowest number
abbrev pub IsAnswer : List (Option Refusal) → Option Refusal → Type 0
IsAnswer checks None = All (λ x. x ≡ None) checks
IsAnswer checks (Some r) = IsLowest checks r

-- ---- the checks of each command, by its kind

-- what each check of a row refuses
abbrev pub row_checks : World → BookState → Case → List Check → List (Option Refusal)
row_checks w b c row = map (refusal_by w b c) row

abbrev pub coords_checks : World → BookState → Option CoordsCommand → Command → List (Option Refusal)
coords_checks w b kind given = unknown_in b given ∷ about [] (λ c i d. row_checks w b (coords.case_of b c i d) (coords.row_of (coords.by_gtids w b i) c)) kind given

abbrev pub gtid_checks : World → BookState → Option GtidCommand → Command → List (Option Refusal)
gtid_checks w b kind given = unknown_in b given ∷ about [] (λ c i d. row_checks w b (gtids.case_of b c i d) (gtids.row_of c)) kind given

abbrev pub path_checks : World → BookState → Moment → Option PathCommand → Command → List (Option Refusal)
path_checks w b now kind given =
    unknown_in b given
    ∷ about []
    (λ c i d. row_checks w b (paths.case_of w b c i d) (paths.row_of w.gtid c) ++ paths.own_refusal w b now c i d ∷ row_checks w b (paths.case_of w b c i d) (paths.last_row_of w.gtid c))
    kind given

abbrev pub match_checks : World → BookState → Moment → ℕ → Option MatchCommand → Command → List (Option Refusal)
match_checks w b now every kind given =
    unknown_in b given
    ∷ about []
    (λ c i d. row_checks w b (matches.case_of b c i d) (matches.row_of c) ++ matches.own_refusal w b now c i ∷ row_checks w b (matches.case_of b c i d) (matches.last_row_of every c))
    kind given

-- what holds a recovery back that begins by itself
abbrev pub own_checks : BookState → Attempt → ServerNo → Bool → List (Option Refusal)
own_checks b a f passes = if a.by_hand then [] else disabled a ∷ downtimed b a f ∷ filtered passes ∷ []

abbrev pub action_checks : World → BookState → AuditState → Attempt → ServerNo → Code → Action → List (Option Refusal)
action_checks w b audit a f code Nothing = Some (NotActionable code) ∷ []
action_checks w b audit a f code MasterRecovery = own_checks b a f a.by_master ++ held_back b audit a f ∷ without_candidate w b a f ∷ []
action_checks w b audit a f code IntermediateRecovery = own_checks b a f a.by_intermediate ++ held_back b audit a f ∷ without_successor w b f ∷ []

abbrev pub code_checks : World → BookState → AuditState → Attempt → ServerNo → Option Code → List (Option Refusal)
code_checks w b audit a f None = Some UnknownInstance ∷ []
code_checks w b audit a f (Some code) = refusal_by w b (recovery.case_of b f) Busy ∷ action_checks w b audit a f code (action_of code)

abbrev pub recovery_checks : World → BookState → AuditState → Attempt → ServerNo → List (Option Refusal)
recovery_checks w b audit a f = code_checks w b audit a f (code_at b f)

abbrev pub takeover_checks : World → BookState → AuditState → Attempt → ServerNo → ServerNo → List (Option Refusal)
takeover_checks w b audit a i d =
    only_if (not (is_instance b i && is_instance b d)) UnknownInstance
    ∷ row_checks w b (takeover.case_of b i d) takeover.row ++ held_back b audit a i ∷ no_master b i ∷ no_replica b i d ∷ []
