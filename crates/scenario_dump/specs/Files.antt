-- When a log was flushed, as it shows (MySQL 8.0 Reference Manual, "FLUSH BINARY LOGS").
use Rattle.std.specs.Prelude.{ℕ, ◌+◌, ◌-◌, List, [], ◌∷◌, ◌++◌, replicate, nat_le, if◌then◌else◌}
use Rattle.scenario_dump.specs.Prelude.{Entry, Log}

-- the file in which a log goes on after a transaction: the next one if its end reaches the limit
abbrev pub file_behind : ℕ → Entry → ℕ
file_behind limit e = if nat_le limit e.end then e.file + 1 else e.file

-- After how many transactions a log was flushed, once for each new file that no transaction's end began. The list has
-- these transactions, after so many others, from file `file` on, in a log of so many files.
abbrev pub flushed_from : ℕ → ℕ → ℕ → ℕ → List Entry → List ℕ
flushed_from limit files count file [] = replicate (files - file) count
flushed_from limit files count file (e ∷ es) = replicate (e.file - file) count ++ flushed_from limit files (count + 1) (file_behind limit e) es

-- the counts after which a log of this limit was flushed, each as often as it was
unfoldable pub flush_points : ℕ → Log → List ℕ
flush_points limit log = flushed_from limit log.files 0 1 log.entries
