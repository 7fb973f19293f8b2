-- What holds of the matches that a job found, and of the operations that go by them.
use Rattle.std.specs.Prelude.{◌==◌, Bool, true, ◌&&◌, ◌||◌, List, [], ◌∷◌, All, is_some}
use Rattle.job_laws.specs.Prelude.{Coord, Deed, IsTarget, Match, Op, ServerNo, Spot, Stands, World, deed_of, match_found}
use Rattle.job_laws.specs.Prelude.deed
use Rattle.job_laws.specs.Prelude.spot

-- ---- the operations that are left

-- of which two servers a match was found
abbrev pub Matched : Type 0
Matched = ServerNo → ServerNo → Bool

abbrev pub matched_in : List Match → Matched
matched_in xs n m = is_some (match_found xs n m)

-- an operation that goes by a match finds one
abbrev pub finds_match : Matched → Deed → Bool
finds_match has (deed.Look n from) = true
finds_match has (deed.Request n a) = true
finds_match has (deed.Until n to) = true
finds_match has (deed.Await n to) = true
finds_match has (deed.AwaitSet n m) = true
finds_match has (deed.Settle n) = true
finds_match has (deed.Cross c a b) = true
finds_match has (deed.Same n) = true
finds_match has (deed.Auto n m) = true
finds_match has (deed.Match n m every) = true
finds_match has (deed.CrossMatch n m) = has n m
finds_match has (deed.Finish lines) = true

abbrev pub matching : Matched → ServerNo → ServerNo → Matched
matching has n m a b = (n.0 == a.0 && m.0 == b.0) || has a b

-- of which one was found once the operation is done
abbrev pub matched_by : Matched → Deed → Matched
matched_by has (deed.Look n from) = has
matched_by has (deed.Request n a) = has
matched_by has (deed.Until n to) = has
matched_by has (deed.Await n to) = has
matched_by has (deed.AwaitSet n m) = has
matched_by has (deed.Settle n) = has
matched_by has (deed.Cross c a b) = has
matched_by has (deed.Same n) = has
matched_by has (deed.Auto n m) = has
matched_by has (deed.Match n m every) = matching has n m
matched_by has (deed.CrossMatch n m) = has
matched_by has (deed.Finish lines) = has

-- each change of source by a match that is left has one: it was found, or an operation that is left before it finds it
abbrev pub are_matched : Matched → List Op → Bool
are_matched has [] = true
are_matched has (op ∷ ops) = finds_match has (deed_of op) && are_matched (matched_by has (deed_of op)) ops

-- ---- the matches that were found

-- its coordinate has a place in the log of the server that it goes to
abbrev pub IsPlaced : World → Match → Type 0
IsPlaced w x = IsTarget w x.to.0 x.at

abbrev pub ArePlaced : World → List Match → Type 0
ArePlaced w xs = All (IsPlaced w) xs

-- its coordinate and the server's position then are one point of two logs: that of the server that it goes to, and that
-- of its source, or its own
abbrev pub MeetsAt : World → ServerNo → ServerNo → Coord → Spot → Type 0
MeetsAt w n to at (spot.At source exec) = Stands w to.0 source.0 at exec
MeetsAt w n to at (spot.OwnEnd end) = Stands w to.0 n.0 at end
MeetsAt w n to at spot.Nowhere = Unit {0}

abbrev pub Meets : World → Match → Type 0
Meets w x = MeetsAt w x.no x.to x.at x.spot

abbrev pub AllMeet : World → List Match → Type 0
AllMeet w xs = All (Meets w) xs
