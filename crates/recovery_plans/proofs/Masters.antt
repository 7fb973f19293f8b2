-- Regroups and recoveries of dead masters that go their whole way.
use Rattle.std.proofs.Common.{◌≡◌, ℕ, Bool, ◌&&◌, Option, true, false, List, [], ◌∷◌, map, refl, Some, None}
use Rattle.recovery_plans.proofs.Prelude.{Apply, Attached, BookState, Bridge, Exchange, Fetch, Request, Rule, Server, ServerNo, Settings, Taken}
use Rattle.recovery_plans.proofs.Prelude.{Without, World, Write, begun_recovery, server_at, sources}
use Rattle.recovery_plans.proofs.Prelude.asking
use Rattle.recovery_plans.proofs.Prelude.cause
use Rattle.recovery_plans.proofs.Prelude.line
use Rattle.recovery_plans.proofs.Prelude.lost
use Rattle.recovery_plans.proofs.Prelude.means
use Rattle.recovery_plans.proofs.Prelude.purpose
use Rattle.recovery_plans.proofs.Prelude.rule
use Rattle.recovery_plans.proofs.Prelude.step
use Rattle.recovery_plans.proofs.Prelude.why
use Rattle.recovery_plans.proofs.Worlds.{server_no, end, bridge, server, world, book, rounds, each_turn}

-- both threads of a server are on
abbrev runs_by : Option Server → Bool
runs_by None = false
runs_by (Some s) = s.receiver && s.applier

abbrev runs : World → ℕ → Bool
runs w n = runs_by (server_at w n)

module _ (st : Settings) where
  -- ---- a regroup: m is down with four transactions; a executed three, b 3, c 2, d 1, and e, which is barred, 4

  abbrev gathered_servers : World
  gathered_servers = world st (
      server st 0 Without 4 false ∷ server st 1 (Attached (server_no 0)) 3 true ∷ server st 2 (Attached (server_no 0)) 3 true
      ∷ server st 3 (Attached (server_no 0)) 2 true ∷ server st 4 (Attached (server_no 0)) 1 true ∷ server st 5 (Attached (server_no 0)) 4 true ∷ [])

  abbrev gathered_book : BookState
  gathered_book = book (109 ∷ 97 ∷ 98 ∷ 99 ∷ 100 ∷ 101 ∷ [])
      ([] ∷ (bridge 1 0 2 ∷ bridge 1 0 3 ∷ []) ∷ (bridge 2 0 3 ∷ []) ∷ (bridge 3 0 2 ∷ []) ∷ (bridge 4 0 1 ∷ []) ∷ (bridge 5 0 4 ∷ []) ∷ [])
      (rule.Neutral ∷ rule.Neutral ∷ rule.Neutral ∷ rule.Neutral ∷ rule.Neutral ∷ rule.MustNot ∷ [])

  abbrev five : List ServerNo
  five = server_no 1 ∷ server_no 2 ∷ server_no 3 ∷ server_no 4 ∷ server_no 5 ∷ []

  abbrev gathering : Taken × ℕ × World
  gathering = rounds gathered_book (each_turn []) 0 60 gathered_servers (begun_recovery purpose.Regroup means.Bridges 1 5 (server_no 0) five five)

  gathers : gathering.0.step ≡ step.Done (
      line.Server (server_no 1) ∷ line.Follows (server_no 2) (server_no 1) ∷ line.Follows (server_no 3) (server_no 1)
      ∷ line.Lost (server_no 4) (lost.Behind (end 1)) false ∷ line.Lost (server_no 5) (lost.Ahead (end 4)) false ∷ [])
  gathers = refl

  -- five drains, two moves, two starts of lost ones, the chosen one's start and the end
  gathers-in : gathering.1 ≡ 28
  gathers-in = refl

  gathers-sources : map (sources gathering.2) (1 ∷ 2 ∷ 3 ∷ 4 ∷ 5 ∷ []) ≡ Some 0 ∷ Some 1 ∷ Some 1 ∷ Some 0 ∷ Some 0 ∷ []
  gathers-sources = refl

  -- by GTIDs each but the barred one goes below the chosen one, which e is ahead of
  abbrev gathering_by_sets : Taken × ℕ × World
  gathering_by_sets =
      rounds gathered_book (each_turn []) 0 60 (record gathered_servers { gtid = true }) (begun_recovery purpose.Regroup means.Bridges 1 5 (server_no 0) five five)

  gathers-by-sets : gathering_by_sets.0.step ≡ step.Done (
      line.Server (server_no 1) ∷ line.Follows (server_no 2) (server_no 1) ∷ line.Follows (server_no 3) (server_no 1)
      ∷ line.Follows (server_no 4) (server_no 1) ∷ line.Lost (server_no 5) (lost.Ahead (end 4)) false ∷ [])
  gathers-by-sets = refl

  -- by matches, with each second transaction a mark: d has none, and a lacks the last of e; both are started in their
  -- places
  abbrev gathering_by_matches : Taken × ℕ × World
  gathering_by_matches = rounds gathered_book (each_turn []) 0 60 gathered_servers (begun_recovery purpose.Regroup (means.Matches 2) 1 5 (server_no 0) five five)

  gathers-by-matches : gathering_by_matches.0.step ≡ step.Done (
      line.Server (server_no 1) ∷ line.Follows (server_no 2) (server_no 1) ∷ line.Follows (server_no 3) (server_no 1)
      ∷ line.Unmatched (server_no 4) (cause.NoMark (server_no 4)) ∷ line.Unmatched (server_no 5) (cause.NoMark (server_no 5)) ∷ [])
  gathers-by-matches = refl

  -- five drains, two matches with their moves, two that fail, two starts of lost ones, the chosen one's start and the
  -- end
  gathers-by-matches-in : gathering_by_matches.1 ≡ 32
  gathers-by-matches-in = refl

  gathers-by-matches-sources : map (sources gathering_by_matches.2) (1 ∷ 2 ∷ 3 ∷ 4 ∷ 5 ∷ []) ≡ Some 0 ∷ Some 1 ∷ Some 1 ∷ Some 0 ∷ Some 0 ∷ []
  gathers-by-matches-sources = refl

  gathers-by-matches-runs : map (runs gathering_by_matches.2) (1 ∷ 2 ∷ 3 ∷ 4 ∷ 5 ∷ []) ≡ true ∷ true ∷ true ∷ true ∷ true ∷ []
  gathers-by-matches-runs = refl

  -- if each is barred, those that were stopped are started in the turn after the last drain
  abbrev barring : Taken × ℕ × World
  barring =
      rounds (book (109 ∷ 97 ∷ 98 ∷ []) ([] ∷ [] ∷ [] ∷ []) (rule.Neutral ∷ rule.MustNot ∷ rule.MustNot ∷ [])) (each_turn []) 0 60 gathered_servers
      (begun_recovery purpose.Regroup means.Bridges 1 5 (server_no 0) (server_no 1 ∷ server_no 2 ∷ []) [])

  bars : barring.0.step ≡ step.Failed cause.NoCandidate []
  bars = refl

  bars-in : barring.1 ≡ 9
  bars-in = refl

  bars-starts : barring.0.exchanges ≡ Request 1 asking.Start ∷ Request 2 asking.Start ∷ []
  bars-starts = refl

  bars-lost : barring.0.recovery.outcome.lost
      ≡ record { no = server_no 1; why = why.Lost lost.MustNot; detached = false } ∷ record { no = server_no 2; why = why.Lost lost.MustNot; detached = false } ∷ []
  bars-lost = refl

  -- ---- a dead master: m with three transactions; a and c executed three, b, which is preferred, two

  abbrev mastered_servers : World
  mastered_servers = world st (
      server st 0 Without 3 false ∷ server st 1 (Attached (server_no 0)) 3 true ∷ server st 2 (Attached (server_no 0)) 2 true
      ∷ server st 3 (Attached (server_no 0)) 3 true ∷ [])

  abbrev mastered_rings : List (List Bridge)
  mastered_rings = [] ∷ (bridge 1 0 2 ∷ bridge 1 0 3 ∷ []) ∷ (bridge 2 0 2 ∷ []) ∷ (bridge 3 0 3 ∷ []) ∷ []

  abbrev mastered_book : Rule → BookState
  mastered_book r = book (109 ∷ 97 ∷ 98 ∷ 99 ∷ []) mastered_rings (rule.Neutral ∷ rule.Neutral ∷ r ∷ rule.Neutral ∷ [])

  abbrev three : List ServerNo
  three = server_no 1 ∷ server_no 2 ∷ server_no 3 ∷ []

  abbrev replicates : List Exchange
  replicates = Fetch 1 ∷ Apply 1 ∷ Fetch 2 ∷ Apply 2 ∷ Fetch 3 ∷ Apply 3 ∷ []

  abbrev mastering : Rule → List Exchange → Taken × ℕ × World
  mastering r es = rounds (mastered_book r) (each_turn es) 0 80 mastered_servers (begun_recovery purpose.Master means.Bridges 1 5 (server_no 0) three three)

  -- a is chosen, then b takes its place
  swaps : (mastering rule.Prefer replicates).0.step ≡ step.Done (
      line.Promoted (server_no 2) ∷ line.Follows (server_no 1) (server_no 2) ∷ line.Follows (server_no 3) (server_no 1) ∷ [])
  swaps = refl

  swaps-sources : map (sources (mastering rule.Prefer replicates).2) (1 ∷ 2 ∷ 3 ∷ []) ≡ Some 2 ∷ None ∷ Some 1 ∷ []
  swaps-sources = refl

  -- if replication doesn't go on, b follows a, and there is no swap
  gives-up : (mastering rule.Prefer []).0.step ≡ step.Done (
      line.Promoted (server_no 1) ∷ line.Follows (server_no 2) (server_no 1) ∷ line.Follows (server_no 3) (server_no 1) ∷ [])
  gives-up = refl

  crowns : (mastering rule.Neutral replicates).0.step ≡ step.Done (
      line.Promoted (server_no 1) ∷ line.Follows (server_no 2) (server_no 1) ∷ line.Follows (server_no 3) (server_no 1) ∷ [])
  crowns = refl

  crowns-in : (mastering rule.Neutral replicates).1 ≡ 21
  crowns-in = refl

  -- if a is in another data centre than m, c is chosen, which has executed as much
  abbrev elsewhere : Server → Server
  elsewhere s = record s { settings = record s.settings { dc = 120 ∷ [] } }

  abbrev scattered_servers : World
  scattered_servers = world st (
      server st 0 Without 3 false ∷ elsewhere (server st 1 (Attached (server_no 0)) 3 true) ∷ server st 2 (Attached (server_no 0)) 2 true
      ∷ server st 3 (Attached (server_no 0)) 3 true ∷ [])

  chooses-near : (rounds (mastered_book rule.Neutral) (each_turn []) 0 80 scattered_servers (begun_recovery purpose.Master means.Bridges 1 5 (server_no 0) three three)).0.step
      ≡ step.Done (line.Promoted (server_no 3) ∷ line.Follows (server_no 1) (server_no 3) ∷ line.Lost (server_no 2) (lost.Behind (end 2)) true ∷ [])
  chooses-near = refl

  -- a reached master hasn't failed
  abbrev living : Taken × ℕ × World
  living = rounds (mastered_book rule.Neutral) (each_turn []) 0 9 (world st (server st 0 Without 3 true ∷ [])) (begun_recovery purpose.Master means.Bridges 1 5 (server_no 0) three three)

  lives : living.0.step ≡ step.Failed (cause.Reachable (server_no 0)) []
  lives = refl

  -- ---- lost ones: a is down; of b and c, which executed three and one, b is promoted, and c is lost as `behind`
  -- without a
  -- bridge

  abbrev lossy_servers : World
  lossy_servers = world st (
      server st 0 Without 3 false ∷ server st 1 (Attached (server_no 0)) 1 false ∷ server st 2 (Attached (server_no 0)) 3 true
      ∷ server st 3 (Attached (server_no 0)) 1 true ∷ [])

  abbrev losing : Rule → Taken × ℕ × World
  losing r = rounds (mastered_book r) (each_turn []) 0 80 lossy_servers (begun_recovery purpose.Master means.Bridges 1 5 (server_no 0) three three)

  loses-behind : (losing rule.Neutral).0.step ≡ step.Done (
      line.Promoted (server_no 2) ∷ line.Lost (server_no 1) lost.Unreachable false ∷ line.Lost (server_no 3) (lost.Behind (end 1)) true ∷ [])
  loses-behind = refl

  -- if b must not be promoted it is ahead of c
  loses-ahead : (losing rule.MustNot).0.step ≡ step.Done (
      line.Promoted (server_no 3) ∷ line.Lost (server_no 1) lost.Unreachable false ∷ line.Lost (server_no 2) (lost.Ahead (end 3)) true ∷ [])
  loses-ahead = refl

  -- ---- by GTIDs

  abbrev by_sets : Rule → List Exchange → Taken × ℕ × World
  by_sets r es = rounds (mastered_book r) (each_turn es) 0 80 (record lossy_servers { gtid = true }) (begun_recovery purpose.Master means.Bridges 1 5 (server_no 0) three three)

  sets : (by_sets rule.Neutral []).0.step ≡ step.Done (
      line.Promoted (server_no 2) ∷ line.Follows (server_no 3) (server_no 2) ∷ line.Lost (server_no 1) lost.Unreachable false ∷ [])
  sets = refl

  sets-ahead : (by_sets rule.MustNot []).0.step ≡ step.Done (
      line.Promoted (server_no 3) ∷ line.Lost (server_no 1) lost.Unreachable false ∷ line.Lost (server_no 2) (lost.Ahead (end 3)) true ∷ [])
  sets-ahead = refl

  sets-swap : (rounds (mastered_book rule.Prefer) (each_turn replicates) 0 80 (record mastered_servers { gtid = true }) (begun_recovery purpose.Master means.Bridges 1 5 (server_no 0) three three)).0.step
      ≡ step.Done (line.Promoted (server_no 2) ∷ line.Follows (server_no 1) (server_no 2) ∷ line.Follows (server_no 3) (server_no 1) ∷ [])
  sets-swap = refl

  -- ---- if clients write to the chosen one during the swap, it doesn't go below the better one, which goes back

  abbrev loosened : Server → Server
  loosened s = record s { read_only = false }

  abbrev written : Taken × ℕ × World
  written =
      rounds (mastered_book rule.Prefer) (each_turn (Fetch 2 ∷ Apply 2 ∷ Write 1 10 ∷ [])) 0 80 (record mastered_servers { servers = map loosened mastered_servers.servers })
      (begun_recovery purpose.Master means.Bridges 1 5 (server_no 0) three three)

  goes-back : written.0.step ≡ step.Done (
      line.Promoted (server_no 1) ∷ line.Follows (server_no 2) (server_no 1) ∷ line.Follows (server_no 3) (server_no 1) ∷ [])
  goes-back = refl

  goes-back-sources : map (sources written.2) (1 ∷ 2 ∷ 3 ∷ []) ≡ None ∷ Some 1 ∷ Some 1 ∷ []
  goes-back-sources = refl
