-- On what a plan's choice depends.
use Rattle.std.specs.Prelude.{◌≡◌, true, List, [], ◌∷◌, All, Contains, Some}
use Rattle.plan_laws.specs.Prelude.{Ground, Line, Means, Purpose, ServerNo, Stopped, chosen_of, expected, recovery_lines, wins, without_stopped}
use Rattle.plan_laws.specs.Prelude.line
use Rattle.plan_laws.specs.Followed.{gathers}

-- p is chosen only if another one has executed no more. It must have executed less, if it would be chosen of two that
-- have executed as much.
abbrev pub condition : Ground → ServerNo → Stopped → Stopped → Line
condition g f p s = line.Chosen p.no s.no (wins g f s (p ∷ record s { exec = p.exec } ∷ []))

-- the plan of a choice has this line for each of the others that might be chosen
abbrev pub ChoicesHaveTheirConditions : Type 0
ChoicesHaveTheirConditions = (g : Ground) (u : Purpose) (by : Means) (f : ServerNo) (ns : List ServerNo) (p : Stopped) → gathers u ≡ true
    → chosen_of g f (expected g.book ns) ≡ Some p
    → All (λ s. wins g f s (s ∷ []) ≡ true → Contains (recovery_lines g u by f ns) (condition g f p s)) (without_stopped (expected g.book ns) p.no)
