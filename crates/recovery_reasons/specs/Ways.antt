-- How a drained replica goes below its new source, by what the turn knows that decides it.
use Rattle.std.specs.Prelude.{◌≡◌, ℕ, true, false, Some}
use Rattle.recovery_reasons.specs.Prelude.{BookState, Bridge, Coord, Means, ServerNo, Stopped, Way, World, has_exec, has_own, is_before, latest_that}
use Rattle.recovery_reasons.specs.Prelude.{logs_at, ring_at, same_coord}
use Rattle.recovery_reasons.specs.Prelude.means
use Rattle.recovery_reasons.specs.Prelude.way

-- at this coordinate of the chosen one's log, from where it was drained below the failed server
abbrev pub down_at : ServerNo → Stopped → Stopped → Coord → Way
down_at f p s own = way.Down (record { no = p.no; source = f; own = own; exec = s.exec })

-- Below the chosen one:
-- - by a match of their logs, if the recovery goes by matches;
-- - by GTIDs, if they are used;
-- - at the chosen one's own end, if both executed as much;
-- - from less, at the latest bridge that the book keeps of the chosen one at that position.
pub data IsWayBeside (w : World) (b : BookState) (m : Means) (f : ServerNo) (p s : Stopped) : Way → Type 0 where
  Matching : (every : ℕ) → m ≡ means.Matches every → IsWayBeside w b m f p s (way.Match p.no s.exec every)
  ByGtids : m ≡ means.Bridges → w.gtid ≡ true → IsWayBeside w b m f p s (way.Auto p.no s.exec)
  Level : (own : Coord) → m ≡ means.Bridges → w.gtid ≡ false → same_coord s.exec p.exec ≡ true → p.own_end ≡ Some own
      → IsWayBeside w b m f p s (down_at f p s own)
  Lower : (x : Bridge) → m ≡ means.Bridges → w.gtid ≡ false → is_before s.exec p.exec ≡ true → latest_that (has_exec f s.exec) (ring_at b.rings p.no) ≡ Some x
      → IsWayBeside w b m f p s (down_at f p s x.own)

-- Below the successor: by GTIDs, if they are used and it logs. Else at the latest bridge that the book keeps of the
-- failed server under it, whose own end is where the replica was drained.
pub data IsWayBelow (w : World) (b : BookState) (f n : ServerNo) (s : Stopped) : Way → Type 0 where
  BySet : w.gtid ≡ true → logs_at w n ≡ true → IsWayBelow w b f n s (way.Auto n s.exec)
  Rising : (x : Bridge) → w.gtid ≡ false → latest_that (has_own n s.exec) (ring_at b.rings f) ≡ Some x → IsWayBelow w b f n s (way.Up x)
