-- A table of the first server of each UUID, beside the list of all UUIDs.
use Rattle.std.specs.Prelude.{◌≡◌, ℕ, ◌+◌, ◌==◌, Bool, false, List, [], ◌∷◌, nat_lt, if◌then◌else◌, Option, Some, None}
use Rattle.scenario_servers.specs.Prelude.{HashMap, get_by, option_or}
use Rattle.scenario_servers.specs.Names.{has_uuid}

-- the first server, by number from n on, that has the UUID
abbrev pub first_with : ℕ → ℕ → List (Option ℕ) → Option ℕ
first_with uuid n [] = None
first_with uuid n (x ∷ xs) = if has_uuid uuid x then Some n else first_with uuid (n + 1) xs

-- the number that a table has at a UUID
abbrev pub number_with : {S : Type 0} → HashMap ℕ ℕ S → ℕ → Option ℕ
number_with table uuid = get_by (λ u. uuid == u) table

abbrev pub IsUuidTable : {S : Type 0} → HashMap ℕ ℕ S → List (Option ℕ) → Type 0
IsUuidTable table listed = (uuid : ℕ) → number_with table uuid ≡ first_with uuid 0 listed

-- the number is at the UUID, unless another is, and nothing else changed
pub record AddsUuid {S : Type 0} (old new : HashMap ℕ ℕ S) (added : Option ℕ) (number : ℕ) : Type 0 where
  pub found : (uuid : ℕ) → number_with new uuid ≡ option_or (number_with old uuid) (if has_uuid uuid added then Some number else None)

-- whether a server is before a number
abbrev pub is_before : Option ℕ → ℕ → Bool
is_before None number = false
is_before (Some first) number = nat_lt first number
