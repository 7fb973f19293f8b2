-- What ways and paths are, by the book's forest.
use Rattle.std.specs.Prelude.{◌≡◌, Bool, false, ◌||◌, List, [], ◌∷◌, Option, Some, None}
use Rattle.move_laws.specs.Prelude.{BookState, ServerNo, attached_of, is_below, is_given, parent_at, source_of}

-- from a server up past these, each the parent of the one before it, to the parent of the last
abbrev pub Climbs : BookState → ServerNo → List ServerNo → ServerNo → Type 0
Climbs b n [] to = parent_at b n ≡ Some to
Climbs b n (x ∷ xs) to = (parent_at b n ≡ Some x) × Climbs b x xs to

-- from a server to its source, and from there up past what is left of these
abbrev pub GoesUp : BookState → ServerNo → List ServerNo → ServerNo → Type 0
GoesUp b n [] to = source_of b n ≡ Some to
GoesUp b n (x ∷ xs) to = (source_of b n ≡ Some x) × Climbs b x xs to

-- the other one is the server's own source, or above it by the forest
abbrev pub is_under : BookState → ServerNo → ServerNo → Bool
is_under b n to = is_given to (source_of b n) || is_below b n to

abbrev pub is_under_in : BookState → ServerNo → Option ServerNo → Bool
is_under_in b n None = false
is_under_in b n (Some s) = is_under b n s

-- the destination is above the server, or else the source to which it is attached is
abbrev pub is_on_way : BookState → ServerNo → ServerNo → Bool
is_on_way b n d = is_under b n d || is_under_in b n (attached_of b d)
