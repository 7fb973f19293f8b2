-- PURGE BINARY LOGS (MySQL 8.0 Reference Manual, "PURGE BINARY LOGS Statement"): the files before one are deleted, but
-- none that an active replica is reading, nor a later one.
use Rattle.std.specs.Prelude.{ℕ, ◌==◌, Bool, false, ◌&&◌, not, nat_lt, if◌then◌else◌, List, filter, fold, map, Option, Some, None}
use Rattle.server_model.specs.Prelude.{Attached, Detached, PurgeAnswer, SourceState, Without}
use Rattle.server_model.specs.Prelude.purging
use Rattle.server_model.specs.declared.server.Server.{Server}
use Rattle.server_model.specs.Worlds.{World, server_at, with_server}

abbrev pub is_attached_to : ℕ → SourceState → Bool
is_attached_to n Without = false
is_attached_to n (Attached m) = m.0 == n
is_attached_to n (Detached m) = false

-- a replica that is up, and whose receiver is on and reaches server n, its source
abbrev pub is_reading : ℕ → Server → Bool
is_reading n r = r.up && (is_attached_to n r.source && (r.receiver && r.feed))

abbrev pub lesser : ℕ → ℕ → ℕ
lesser a b = if nat_lt b a then b else a

abbrev pub greater : ℕ → ℕ → ℕ
greater a b = if nat_lt a b then b else a

-- the files that the replicas of server n are reading
abbrev pub files_read : List Server → ℕ → List ℕ
files_read servers n = map (λ r. r.read.file) (filter (is_reading n) servers)

-- the file before which all may go: the least of one and those that are being read
abbrev pub least_read : List Server → ℕ → ℕ → ℕ
least_read servers n file = fold lesser file (files_read servers n)

-- the first kept file of a log whose files before this one are to go
abbrev pub kept_from : List Server → ℕ → ℕ → Server → ℕ
kept_from servers n file s = greater s.first (least_read servers n file)

abbrev pub purge_answer : World → ℕ → ℕ → Option Server → PurgeAnswer
purge_answer w n file None = purging.Down
purge_answer w n file (Some s) =
    if not s.up then purging.Down
    else if not s.settings.logs then purging.NotLogging
    else if nat_lt s.log.log.files file then purging.NoFile
    else purging.Done (kept_from w.servers n file s)

abbrev pub after_purge : World → ℕ → Option Server → PurgeAnswer → World
after_purge w n None answer = w
after_purge w n (Some s) purging.Down = w
after_purge w n (Some s) purging.NotLogging = w
after_purge w n (Some s) purging.NoFile = w
after_purge w n (Some s) (purging.Done first) = with_server w n (record s { first = first })

abbrev pub purge : World → ℕ → ℕ → PurgeAnswer × World
purge w n file = let answer = purge_answer w n file (server_at w n) in (answer, after_purge w n (server_at w n) answer)
