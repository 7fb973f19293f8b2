-- The first of a list's answers, and servers that move to one source.
use Rattle.std.specs.Prelude.{Bool, List, [], ◌∷◌, map, Option, Some, None, if◌then◌else◌}
use Rattle.permission.specs.Prelude.{ServerNo, option_or}
use Rattle.permission.specs.declared.case.Move.{Move}

-- the first that is there
abbrev pub first_of : {A : Type 0} → List (Option A) → Option A
first_of [] = None
first_of (x ∷ xs) = option_or x (first_of xs)

-- the first answer about the items of a list
abbrev pub first_about : {A B : Type 0} → (A → Option B) → List A → Option B
first_about about xs = first_of (map about xs)

abbrev pub only_if : {A : Type 0} → Bool → A → Option A
only_if b x = if b then Some x else None

-- these servers move to one source, if there is one
abbrev pub moves_to : List ServerNo → Option ServerNo → List Move
moves_to servers None = []
moves_to servers (Some source) = map (λ n. record { no = n; source = source }) servers
