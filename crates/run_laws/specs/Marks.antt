-- What the logs of two servers that match have in common (Pseudo-GTID), in the states of runs.
use Rattle.std.specs.Prelude.{◌≡◌, ℕ, true, All, Some, Ok}
use Rattle.run_laws.specs.Prelude.{Coord, IsJunction, Match, Server, ServerNo, State, World, core_of, live_spot, match_logs, same_spot, server_at}

-- both are there: all that server r has executed is a prefix of what server d has, and ends in its log there
pub record EndsAt (w : World) (r d : ServerNo) (at : Coord) : Type 0 where
  pub one : Server
  pub other : Server
  pub one_at : server_at w r.0 ≡ Some one
  pub other_at : server_at w d.0 ≡ Some other
  pub ends : IsJunction one other at

-- if the log of one matches the other's, it ends at that coordinate
abbrev pub MatchesEnd : State → Type 0
MatchesEnd s = (r d : ServerNo) (every : ℕ) (at : Coord) → match_logs s.world r d every ≡ Ok at → EndsAt s.world r d at

-- as long as the server is at the position at which it was matched
abbrev pub EndsStill : World → Match → Type 0
EndsStill w m =
    (x y : Server) → server_at w m.no.0 ≡ Some x → server_at w m.to.0 ≡ Some y → same_spot m.spot (live_spot x m.spot) ≡ true → IsJunction x y m.at

-- so does each match that a job found
abbrev pub FoundMatchesEnd : State → Type 0
FoundMatchesEnd s = All (λ u. All (EndsStill s.world) (core_of u).matches) s.jobs
