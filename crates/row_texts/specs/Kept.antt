-- The rows that a book can hold, and which value reads as one.
use Rattle.std.specs.Prelude.{◌≡◌, ◌<◌, ◌≤◌, ◌^◌, ◌⊎◌, [], ℕ, Bool, List, length, false, true, IfSome, Some, ⊤}
use Rattle.row_texts.specs.Prelude.{All, AllPairs, CauseName, Data, Ending, HasText, HostPort, IsKeyInRange, IsName, IsSet, Row, Status as Seen}
use Rattle.row_texts.specs.Prelude.{are_known, key_of, same_name, servers_of}
use Rattle.row_texts.specs.Prelude.cause
use Rattle.row_texts.specs.Prelude.ending
use Rattle.row_texts.specs.Prelude.row
use Rattle.row_texts.specs.Reading.{value_of}
use Rattle.row_texts.specs.Written.{old_instance_data, row_data}

-- names of servers, no two the same, and not more than there are numbers
pub record AreNames (names : List HostPort) : Type 0 where
  pub each : All IsName names
  pub apart : AllPairs (λ a b. same_name a b ≡ false) names
  pub few : length names ≤ 2 ^ 32

-- what was seen can be printed
pub record IsPrintable (s : Seen) : Type 0 where
  pub own_end : IfSome s.own_end HasText
  pub exec : HasText s.exec
  pub read : HasText s.read
  pub set : IsSet s.set
  pub first : s.first < 2 ^ 32
  pub purged : IsSet s.purged

-- whether a recovery can end by the cause: by each but those of a match
abbrev pub ends_recoveries : CauseName → Bool
ends_recoveries cause.Unreachable = true
ends_recoveries cause.WaitSpent = true
ends_recoveries cause.Interfered = true
ends_recoveries cause.Running = true
ends_recoveries cause.Loop = true
ends_recoveries cause.Errant = true
ends_recoveries cause.Moved = true
ends_recoveries cause.Reachable = true
ends_recoveries cause.NoCandidate = true
ends_recoveries cause.Purged = true
ends_recoveries cause.NoMark = false
ends_recoveries cause.Mismatch = false
ends_recoveries cause.HookFailed = true

-- whether a recovery can end so
abbrev pub is_end : Ending → Bool
is_end ending.Unended = true
is_end (ending.Promoted n) = true
is_end (ending.Failed c) = ends_recoveries c
is_end ending.Interrupted = true

abbrev pub HasForm : Row → Type 0
HasForm (row.Instance i) = IsPrintable i.seen
HasForm (row.Downtime d) = ⊤
HasForm (row.Candidate c) = ⊤
HasForm (row.Recovery r) = is_end r.outcome ≡ true
HasForm (row.Switch enabled) = ⊤
HasForm (row.Active node until) = node < 2 ^ 32

-- a row whose servers have these names, with numbers and texts in their types' ranges; a recovery's end is one that
-- recoveries have
pub record CanBeKept (names : List HostPort) (r : Row) : Type 0 where
  pub known : are_known (length names) (servers_of r) ≡ true
  pub key : IsKeyInRange (key_of r)
  pub form : HasForm r

-- an instance in version 1, which has neither a first kept file nor a purged set
abbrev pub IsOldValue : List HostPort → Row → Data → Type 0
IsOldValue names (row.Instance i) d = (i.seen.first ≡ 1) × (i.seen.purged ≡ []) × (d ≡ old_instance_data names i)
IsOldValue names (row.Downtime i) d = ⊥
IsOldValue names (row.Candidate c) d = ⊥
IsOldValue names (row.Recovery r) d = ⊥
IsOldValue names (row.Switch enabled) d = ⊥
IsOldValue names (row.Active node until) d = ⊥

-- the value that is written for a row, or an older one of it
abbrev pub IsValueOf : List HostPort → Row → Data → Type 0
IsValueOf names r d = (d ≡ row_data names r) ⊎ IsOldValue names r d

-- a text whose value it is
abbrev pub IsTextOf : List HostPort → Row → List ℕ → Type 0
IsTextOf names r text = (d : Data) × (value_of text ≡ Some d) × IsValueOf names r d
