-- Whether instances are equal, as the code tests it.
use Rattle.std.specs.Prelude.{◌==◌, ◌&&◌, Bool, true, false, not, if◌then◌else◌, List, [], ◌∷◌, Option, None, Some}
use Rattle.server_words.specs.BinlogCoords.declared.Coord.{Coord}
use Rattle.server_words.specs.GtidSets.declared.interval.Interval.{Interval}
use Rattle.server_words.specs.OrchBase.declared.server.SourceState.{SourceState}
use Rattle.server_words.specs.OrchBase.declared.server.SourceState.TheVariants as source
use Rattle.server_words.specs.OrchBase.declared.server.IoState.{IoState}
use Rattle.server_words.specs.OrchBase.declared.server.IoState.TheVariants as io
use Rattle.server_words.specs.declared.status.Status.{Status as Seen}
use Rattle.kept_rows.specs.declared.observation.Instance.{Instance}

abbrev pub same_bool : Bool → Bool → Bool
same_bool a b = if a then b else not b

abbrev pub same_coord : Coord → Coord → Bool
same_coord a b = (a.file == b.file) && (a.pos == b.pos)

abbrev pub same_end : Option Coord → Option Coord → Bool
same_end None None = true
same_end (Some a) (Some b) = same_coord a b
same_end None (Some b) = false
same_end (Some a) None = false

abbrev pub same_source : SourceState → SourceState → Bool
same_source source.Without source.Without = true
same_source source.Without (source.Attached n) = false
same_source source.Without (source.Detached n) = false
same_source (source.Attached m) source.Without = false
same_source (source.Attached m) (source.Attached n) = m.0 == n.0
same_source (source.Attached m) (source.Detached n) = false
same_source (source.Detached m) source.Without = false
same_source (source.Detached m) (source.Attached n) = false
same_source (source.Detached m) (source.Detached n) = m.0 == n.0

abbrev pub same_io : IoState → IoState → Bool
same_io io.Yes io.Yes = true
same_io io.Yes io.Connecting = false
same_io io.Yes io.No = false
same_io io.Connecting io.Yes = false
same_io io.Connecting io.Connecting = true
same_io io.Connecting io.No = false
same_io io.No io.Yes = false
same_io io.No io.Connecting = false
same_io io.No io.No = true

abbrev pub same_interval : Interval → Interval → Bool
same_interval a b = (a.uuid == b.uuid) && ((a.first == b.first) && (a.last == b.last))

abbrev pub same_set : List Interval → List Interval → Bool
same_set [] [] = true
same_set (x ∷ xs) (y ∷ ys) = same_interval x y && same_set xs ys
same_set [] (y ∷ ys) = false
same_set (x ∷ xs) [] = false

abbrev pub same_place : Seen → Seen → Bool
same_place a b = same_source a.source b.source && (same_coord a.exec b.exec && (same_coord a.read b.read && same_bool a.auto b.auto))

abbrev pub same_threads : Seen → Seen → Bool
same_threads a b = same_io a.io b.io && (same_bool a.sql b.sql && same_bool a.read_only b.read_only)

abbrev pub same_log : Seen → Seen → Bool
same_log a b = same_end a.own_end b.own_end && ((a.first == b.first) && same_set a.purged b.purged)

abbrev pub same_seen : Seen → Seen → Bool
same_seen a b = same_log a b && (same_place a b && (same_threads a b && same_set a.set b.set))

abbrev pub same_instance : Instance → Instance → Bool
same_instance a b =
    (a.no.0 == b.no.0) && ((a.read == b.read) && ((a.moment.0 == b.moment.0) && (same_bool a.valid b.valid && same_seen a.seen b.seen)))
