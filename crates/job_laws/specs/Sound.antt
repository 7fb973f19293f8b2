-- What holds of readings in a safe world.
use Rattle.std.specs.Prelude.{◌≡◌, ℕ, List, Some}
use Rattle.job_laws.specs.Prelude.{AllJoinWell, Coord, Deed, Job, Op, Position, Safe, Sight, Stands, Turned, World, run, seen_of, source_no}
use Rattle.job_laws.specs.Held.{IsNext}
use Rattle.job_laws.specs.Matched.{AllMeet}

-- the bridge that was seen of a server is right
abbrev pub IsBridged : World → ℕ → Position → Type 0
IsBridged w n seen = (m : ℕ) (own : Coord) → source_no seen.source ≡ Some m → seen.own_end ≡ Some own → Stands w n m own seen.exec

abbrev pub AllBridged : World → List Sight → Type 0
AllBridged w xs = (n : ℕ) (seen : Position) → seen_of xs n ≡ Some seen → IsBridged w n seen

-- each attachment of a turn leads to the end of the server's history, and each bridge that the job saw and each match
-- that it found is right afterwards
pub record KeepsSound (w : World) (t : Turned) : Type 0 where
  pub joins : AllJoinWell w t.exchanges
  pub bridged : AllBridged (run w t.exchanges) t.job.seen
  pub met : AllMeet (run w t.exchanges) t.job.matches

-- a job may take a turn by this operation, before those, in a `Safe` world in which the bridges that it saw and the
-- matches that it found are right
pub record IsNextSafely (w : World) (j : Job) (rest : List Op) (d : Deed) : Type 0 where
  pub safe : Safe w
  pub next : IsNext w j rest d
  pub bridged : AllBridged w j.seen
  pub met : AllMeet w j.matches
