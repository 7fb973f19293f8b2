-- Bridges: pairs of coordinates that are one point of a server's log and of its source's.
use Rattle.std.specs.Prelude.{ℕ, ◌==◌, ◌&&◌, Bool, false, if◌then◌else◌, List, [], ◌∷◌, ◌++◌, fold, slice_set, slice_index_or, Option, None, Some}
use Rattle.instance_keeper.specs.Prelude.{Coord, ServerNo, SourceState, Status as Seen, keep_last, last_item, same_coord}
use Rattle.instance_keeper.specs.Prelude.source
use Rattle.instance_keeper.specs.declared.bridge.Bridge.{Bridge}

abbrev pub bridge_by : ServerNo → Option Coord → SourceState → Coord → Option Bridge
bridge_by n None source exec = None
bridge_by n (Some own) source.Without exec = None
bridge_by n (Some own) (source.Attached m) exec = Some (record { no = n; source = m; own = own; exec = exec })
bridge_by n (Some own) (source.Detached m) exec = Some (record { no = n; source = m; own = own; exec = exec })

-- the bridge that one status shows: of a server that logs and has a source, attached or detached
abbrev pub bridge_in : ServerNo → Option Seen → Option Bridge
bridge_in n None = None
bridge_in n (Some s) = bridge_by n s.own_end s.source s.exec

-- ---- a server's ring: its latest bridges, the oldest first

abbrev pub ring_size : ℕ
ring_size = 16

abbrev pub same_bridge : Bridge → Bridge → Bool
same_bridge a b = (a.no.0 == b.no.0 && a.source.0 == b.source.0) && (same_coord a.own b.own && same_coord a.exec b.exec)

abbrev pub is_same : Option Bridge → Bridge → Bool
is_same None b = false
is_same (Some a) b = same_bridge a b

-- one more bridge: one that is equal to the latest isn't added again, and the oldest makes room
abbrev pub with_bridge : List Bridge → Bridge → List Bridge
with_bridge ring b = if is_same (last_item ring) b then ring else keep_last ring_size (ring ++ b ∷ [])

abbrev pub ring_at : List (List Bridge) → ServerNo → List Bridge
ring_at rings n = slice_index_or rings n.0 []

-- the rings with what a reading of a server shows
abbrev pub ringed : List (List Bridge) → ServerNo → Option Bridge → List (List Bridge)
ringed rings n None = rings
ringed rings n (Some b) = slice_set rings n.0 (with_bridge (ring_at rings n) b)

-- ---- look-ups

-- the latest bridge of a ring that passes
abbrev pub latest_that : (Bridge → Bool) → List Bridge → Option Bridge
latest_that passes ring = fold (λ found b. if passes b then Some b else found) None ring

-- the bridge, if there is one, if it passes, else what was found before it
abbrev pub over : (Bridge → Bool) → Option Bridge → Option Bridge → Option Bridge
over passes found None = found
over passes found (Some b) = if passes b then Some b else found

-- under this source, with this executed coordinate
abbrev pub has_exec : ServerNo → Coord → Bridge → Bool
has_exec m c b = b.source.0 == m.0 && same_coord b.exec c

-- under this source, with this own coordinate
abbrev pub has_own : ServerNo → Coord → Bridge → Bool
has_own m c b = b.source.0 == m.0 && same_coord b.own c
