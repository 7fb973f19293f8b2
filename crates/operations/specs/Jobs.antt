-- Jobs, and what they saw.
use Rattle.std.specs.Prelude.{ℕ, Bool, ◌==◌, ◌&&◌, not, if◌then◌else◌, List, [], ◌∷◌, ◌++◌, filter, find, reverse, Option, Some, None}
use Rattle.operations.specs.Prelude.{ServerNo, Status}
use Rattle.operations.specs.declared.matching.Match.{Match}
use Rattle.operations.specs.declared.op.Op.{Op}
use Rattle.operations.specs.declared.sight.Position.{Position}
use Rattle.operations.specs.declared.sight.Sight.{Sight}

-- A job: its number, how many waits one operation has, the operations that are left, and the latest that it saw of each
-- server that it read. Then the matches that it found, the waits of the present operation so far, and the servers that
-- it stopped and hasn't started.
pub record Job : Type 0 where
  pub id : ℕ
  pub wait : ℕ
  pub ops : List Op
  pub seen : List Sight
  pub matches : List Match
  pub waited : ℕ
  pub hands : List ServerNo

-- a server's position, by one status
abbrev pub position_of : Status → Position
position_of s = record { own_end = s.own_end; source = s.source; exec = s.exec; set = s.set }

-- what was seen of a server
abbrev pub seen_of : List Sight → ℕ → Option Position
seen_of [] n = None
seen_of (x ∷ xs) n = if x.no.0 == n then Some x.seen else seen_of xs n

abbrev pub others : List Sight → ServerNo → List Sight
others xs n = filter (λ x. not (x.no.0 == n.0)) xs

-- this is the latest that was seen of a server
abbrev pub with_seen : List Sight → ServerNo → Position → List Sight
with_seen xs n seen = others xs n ++ record { no = n; seen = seen } ∷ []

-- the latest match that was found of two servers
abbrev pub is_match_of : ServerNo → ServerNo → Match → Bool
is_match_of n m x = x.no.0 == n.0 && x.to.0 == m.0

abbrev pub match_found : List Match → ServerNo → ServerNo → Option Match
match_found xs n m = find (is_match_of n m) (reverse xs)

-- the hands without a server
abbrev pub without : List ServerNo → ServerNo → List ServerNo
without hands n = filter (λ k. not (k.0 == n.0)) hands

-- and with it, as the last
abbrev pub with_hand : List ServerNo → ServerNo → List ServerNo
with_hand hands n = without hands n ++ n ∷ []

-- a job of these operations that begins
abbrev pub job_with : ℕ → ℕ → List Op → Job
job_with id wait ops = record { id = id; wait = wait; ops = ops; seen = []; matches = []; waited = 0; hands = [] }
