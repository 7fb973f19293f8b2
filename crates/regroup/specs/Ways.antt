-- Ways up the book's forest, and the path of a server to another one by coordinates.
use Rattle.std.specs.Prelude.{ℕ, ◌==◌, nat_lt, List, [], ◌∷◌, length, Option, Some, None, option_map, if◌then◌else◌, zero, suc}
use Rattle.regroup.specs.Prelude.{BookState, ServerNo, attached_of, is_given, option_or, parent_of, source_of}

-- a server's parent in the book's forest; none of a number that no server has
abbrev pub parent_at : BookState → ServerNo → Option ServerNo
parent_at b n = if nat_lt n.0 (length b.names) then parent_of b n else None

-- the servers that are passed on the way up from one server to another, from its parent on: none if so many steps don't
-- come there
abbrev pub way_on : (ServerNo → Option (List ServerNo)) → ServerNo → Option ServerNo → Option (List ServerNo)
way_on go to None = None
way_on go to (Some p) = if p.0 == to.0 then Some [] else option_map (λ passed. p ∷ passed) (go p)

abbrev pub way_in : (ServerNo → Option ServerNo) → ServerNo → ℕ → ServerNo → Option (List ServerNo)
way_in up to zero n = None
way_in up to (suc steps) n = way_on (way_in up to steps) to (up n)

-- the way up the forest: it takes no more steps than there are servers
abbrev pub way_above : BookState → ServerNo → ServerNo → Option (List ServerNo)
way_above b n to = way_in (parent_at b) to (length b.names) n

-- a server's own source is next above it, even if the forest hasn't it because the book doesn't know it, or it comes
-- back to itself
abbrev pub way_up : BookState → ServerNo → ServerNo → Option (List ServerNo)
way_up b n to = if is_given to (source_of b n) then Some [] else way_above b n to

-- A path to a destination: up past these sources, and if a server is given under which both are then, below the
-- destination from there.
pub record Path : Type 0 where
  pub passed : List ServerNo
  pub under : Option ServerNo

abbrev pub path_by : Option ServerNo → Option (List ServerNo) → Option Path
path_by under way = option_map (λ passed. record { passed = passed; under = under }) way

-- up to the destination's source, and below the destination from there
abbrev pub path_beside : BookState → ServerNo → Option ServerNo → Option Path
path_beside b n None = None
path_beside b n (Some s) = path_by (Some s) (way_up b n s)

-- up to the destination, if it is above the server, else to the source to which it is attached
abbrev pub path_of : BookState → ServerNo → ServerNo → Option Path
path_of b n d = option_or (path_by None (way_up b n d)) (path_beside b n (attached_of b d))

-- the path to the destination that is given
abbrev pub path_to : BookState → Option ServerNo → ServerNo → Option Path
path_to b None n = None
path_to b (Some d) n = path_of b n d

-- the servers by whose coordinates under their sources a server goes its path: those that it passes, or if it passes
-- none and goes on in its place, itself
abbrev pub crossed_on : ServerNo → Option ServerNo → List ServerNo → List ServerNo
crossed_on n under (x ∷ xs) = x ∷ xs
crossed_on n None [] = n ∷ []
crossed_on n (Some s) [] = []

abbrev pub crossed_in : ServerNo → Option Path → List ServerNo
crossed_in n None = []
crossed_in n (Some p) = crossed_on n p.under p.passed

abbrev pub passed_in : Option Path → List ServerNo
passed_in None = []
passed_in (Some p) = p.passed
