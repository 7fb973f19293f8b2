-- The plan of a recovery or a regroup: of its branches the one that is expected, by its own choices.
use Rattle.std.specs.Prelude.{Bool, true, false, ◌==◌, nat_lt, List, [], ◌∷◌, ◌++◌, if◌then◌else◌, length, map, filter_map, Option, Some, None}
use Rattle.plan_lines.specs.Prelude.{Apart, BookState, Bridge, Expect, Follower, Ground, Line, Lot, Means, Purpose, ServerNo, Stopped, Way, before}
use Rattle.plan_lines.specs.Prelude.{better_of, but, chosen_of, expels, flat_map, has_own, is_auto, is_before, latest_that, level, logs_at, lot_by}
use Rattle.plan_lines.specs.Prelude.{move, option_map, releases, replicas_of, ring_at, same_coord, without_stopped}
use Rattle.plan_lines.specs.Prelude.apart
use Rattle.plan_lines.specs.Prelude.expect
use Rattle.plan_lines.specs.Prelude.line
use Rattle.plan_lines.specs.Prelude.lot
use Rattle.plan_lines.specs.Prelude.op
use Rattle.plan_lines.specs.Prelude.purpose
use Rattle.plan_lines.specs.Prelude.way
use Rattle.plan_lines.specs.Prelude.whys
use Rattle.plan_lines.specs.Expected.{all_drained, expected}
use Rattle.plan_lines.specs.Pieces.{all_as_told, as_told}
use Rattle.plan_lines.specs.Straight.{attached_as}
use Rattle.plan_lines.specs.Takeovers.{takeover_lines}

-- ---- the choice

abbrev pub is_no : ServerNo → Option Stopped → Bool
is_no n None = false
is_no n (Some s) = s.no.0 == n.0

-- whether a replica would be chosen among these
abbrev pub wins : Ground → ServerNo → Stopped → List Stopped → Bool
wins g f s ds = is_no s.no (chosen_of g f ds)

-- p is chosen before another one that may be promoted; that one has executed less if it would be chosen of two at the
-- same position
abbrev pub chosen_line : Ground → ServerNo → Stopped → Stopped → Option Line
chosen_line g f p s =
    if wins g f s (s ∷ []) then Some (line.Chosen p.no s.no (wins g f s (p ∷ record s { exec = p.exec } ∷ []))) else None

-- ---- the ways of the others

-- the new source's coordinate was noted if both are at the same position; else it isn't known
abbrev pub expect_on : Bool → Way → Expect
expect_on true (way.Down b) = expect.AsTold
expect_on false (way.Down b) = expect.Behind b.no
expect_on level (way.Up b) = expect.ByHand b.source
expect_on level (way.Auto to exec) = expect.AsTold
expect_on level (way.Match to exec every) = expect.AsTold

-- a replica goes some way, and is started
abbrev pub way_lines : Bool → ServerNo → Way → List Line
way_lines level n by = all_as_told (before by n) ++ (line.Does (move by n) (expect_on level by) ∷ as_told (op.Start n) ∷ [])

-- before or after the chosen one
abbrev pub apart_from : Stopped → Stopped → Apart
apart_from p s = if is_before p.exec s.exec then apart.Ahead else apart.Behind

-- by GTIDs one that has executed more is refused below the chosen one
abbrev pub is_refused : Stopped → Stopped → Way → Bool
is_refused p s (way.Down b) = false
is_refused p s (way.Up b) = false
is_refused p s (way.Auto to exec) = is_before p.exec s.exec
is_refused p s (way.Match to exec every) = false

abbrev pub lot_lines : Stopped → Stopped → Lot → List Line
lot_lines p s (lot.Goes by) =
    if is_refused p s by then line.Lost s.no p.no apart.Refused ∷ [] else way_lines (same_coord s.exec p.exec) s.no by
lot_lines p s (lot.Stays why) = line.Lost s.no p.no (apart_from p s) ∷ []

-- so that it is lost
abbrev pub lot_told : Stopped → Stopped → Lot → Lot
lot_told p s (lot.Goes by) = if is_refused p s by then lot.Stays (whys.ahead s.exec) else lot.Goes by
lot_told p s (lot.Stays why) = lot.Stays why

abbrev pub lot_for : Means → Ground → ServerNo → Stopped → Stopped → Lot
lot_for by g f p s = lot_told p s (lot_by by g f p s)

-- a server that the book knows in auto position keeps it
abbrev pub detach_line : BookState → ServerNo → Line
detach_line b n = line.Does (op.Detach n) (attached_as (is_auto b n))

-- a lost one is detached, or started again
abbrev pub parted : BookState → Purpose → Stopped → Lot → Option Line
parted b u s (lot.Goes by) = None
parted b u s (lot.Stays why) =
    if expels u (Some why) then Some (detach_line b s.no) else if releases u (Some why) then Some (as_told (op.Start s.no)) else None

abbrev pub follower_in : ServerNo → Stopped → Lot → Option Follower
follower_in p s (lot.Goes by) = Some (record { no = s.no; source = p })
follower_in p s (lot.Stays why) = None

-- ---- what comes last

-- a better one comes to the end of the log of p and takes its place; or p takes writes
abbrev pub crowned : ServerNo → Option ServerNo → List Line
crowned p (Some q) = all_as_told (level p q ++ (op.Start p ∷ op.ReadOnly q false ∷ op.Status q None ∷ []))
crowned p None = all_as_told (op.Reset p ∷ op.ReadOnly p false ∷ op.Status p None ∷ [])

abbrev pub last_lines : Ground → Purpose → ServerNo → ServerNo → List Follower → List Line
last_lines g purpose.Regroup f p xs = as_told (op.Start p) ∷ []
last_lines g purpose.Master f p xs = crowned p (better_of g f p (map (λ x. x.no) xs))
last_lines g (purpose.Intermediate s) f p xs = []
last_lines g (purpose.Takeover d) f p xs = []

-- ---- below the chosen one

-- p is chosen, and the others go below it or are lost
abbrev pub chosen_lines : Ground → Purpose → Means → ServerNo → Stopped → List Stopped → List Line
chosen_lines g u by f p others =
    filter_map (chosen_line g f p) others
    ++ (flat_map (λ s. lot_lines p s (lot_by by g f p s)) others
    ++ (filter_map (λ s. parted g.book u s (lot_for by g f p s)) others
    ++ last_lines g u f p.no (filter_map (λ s. follower_in p.no s (lot_for by g f p s)) others)))

abbrev pub choice_lines : Ground → Purpose → Means → ServerNo → List Stopped → Option Stopped → List Line
choice_lines g u by f ds None = []
choice_lines g u by f ds (Some p) = chosen_lines g u by f p (without_stopped ds p.no)

-- the replicas are drained, and one of them is chosen
abbrev pub gathered : Ground → Purpose → Means → ServerNo → List ServerNo → List Line
gathered g u by f ns = all_drained g.book f ns ++ choice_lines g u by f (expected g.book ns) (chosen_of g f (expected g.book ns))

-- ---- below a successor

-- the latest kept bridge of the failed server under the successor at the replica's position
abbrev pub kept_for : Ground → ServerNo → ServerNo → Stopped → Option Bridge
kept_for g x s d = if nat_lt x.0 (length g.book.names) then latest_that (has_own s d.exec) (ring_at g.book.rings x) else None

-- by GTIDs, or by that bridge
abbrev pub way_of : Ground → ServerNo → ServerNo → Stopped → Option Way
way_of g x s d =
    if g.world.gtid then (if logs_at g.world s then Some (way.Auto s d.exec) else None)
    else option_map way.Up (kept_for g x s d)

abbrev pub handed : ServerNo → Stopped → Option Way → List Line
handed x d (Some by) = way_lines false d.no by
handed x d None = line.Lost d.no x apart.Unpaired ∷ []

abbrev pub left : BookState → Stopped → Option Way → Option Line
left b d (Some by) = None
left b d None = Some (detach_line b d.no)

abbrev pub handed_over : Ground → ServerNo → ServerNo → List Stopped → List Line
handed_over g x s ds = flat_map (λ d. handed x d (way_of g x s d)) ds ++ filter_map (λ d. left g.book d (way_of g x s d)) ds

-- ---- the whole

-- nothing is done while the failed server is reached
abbrev pub away : ServerNo → Line
away f = line.Does (op.Status f None) expect.Away

-- the lines of what is done with these replicas of a server
abbrev pub recovery_lines : Ground → Purpose → Means → ServerNo → List ServerNo → List Line
recovery_lines g purpose.Regroup by f ns = gathered g purpose.Regroup by f ns
recovery_lines g purpose.Master by f ns = away f ∷ gathered g purpose.Master by f ns
recovery_lines g (purpose.Intermediate s) by f ns = away f ∷ as_told (op.Status s None) ∷ (all_drained g.book f ns ++ handed_over g f s (expected g.book ns))
recovery_lines g (purpose.Takeover d) by f ns = takeover_lines f d (but ns d)

-- the lines of what is done with the replicas of a server, as the book has them
abbrev pub recovery_plan : Ground → Purpose → Means → ServerNo → List Line
recovery_plan g u by f = recovery_lines g u by f (replicas_of g.book f)

-- it is one of several branches, by what is found
abbrev pub has_branches : Purpose → Bool
has_branches purpose.Regroup = true
has_branches purpose.Master = true
has_branches (purpose.Intermediate s) = true
has_branches (purpose.Takeover d) = false
