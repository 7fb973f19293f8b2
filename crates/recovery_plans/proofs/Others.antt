-- Recoveries of dead intermediate masters, and takeovers, that go their whole way.
use Rattle.std.proofs.Common.{◌≡◌, ℕ, true, false, List, [], ◌∷◌, map, refl, Some, None}
use Rattle.recovery_plans.proofs.Prelude.{Apply, Attach, Attached, Befall, BookState, Exchange, Request, Rotate, ServerNo, Settings, Taken, Without}
use Rattle.recovery_plans.proofs.Prelude.{World, begun_recovery, sources}
use Rattle.recovery_plans.proofs.Prelude.asking
use Rattle.recovery_plans.proofs.Prelude.cause
use Rattle.recovery_plans.proofs.Prelude.event
use Rattle.recovery_plans.proofs.Prelude.line
use Rattle.recovery_plans.proofs.Prelude.lost
use Rattle.recovery_plans.proofs.Prelude.means
use Rattle.recovery_plans.proofs.Prelude.purpose
use Rattle.recovery_plans.proofs.Prelude.rule
use Rattle.recovery_plans.proofs.Prelude.spot
use Rattle.recovery_plans.proofs.Prelude.step
use Rattle.recovery_plans.proofs.Worlds.{server_no, end, bridge, server, world, book, rounds, each_turn, at_turn}

module _ (st : Settings) where
  -- ---- a dead intermediate master: m over x over q and r, which executed three, three and one

  abbrev chain : World
  chain = world st (
      server st 0 Without 3 true ∷ server st 1 (Attached (server_no 0)) 3 false ∷ server st 2 (Attached (server_no 1)) 3 true
      ∷ server st 3 (Attached (server_no 1)) 1 true ∷ [])

  abbrev chain_book : BookState
  chain_book = book (109 ∷ 120 ∷ 113 ∷ 114 ∷ []) ([] ∷ (bridge 1 0 3 ∷ []) ∷ (bridge 2 1 3 ∷ []) ∷ (bridge 3 1 1 ∷ []) ∷ [])
      (rule.Neutral ∷ rule.Neutral ∷ rule.Neutral ∷ rule.Neutral ∷ [])

  abbrev two : List ServerNo
  two = server_no 2 ∷ server_no 3 ∷ []

  abbrev bridging : World → Taken × ℕ × World
  bridging w = rounds chain_book (each_turn []) 0 60 w (begun_recovery (purpose.Intermediate (server_no 0)) means.Bridges 1 5 (server_no 1) two two)

  -- the bridge of x that is kept serves q, and none serves r
  bridges : (bridging chain).0.step ≡ step.Done (
      line.Successor (server_no 0) ∷ line.Follows (server_no 2) (server_no 0) ∷ line.Lost (server_no 3) (lost.Behind (end 1)) true ∷ [])
  bridges = refl

  -- two readings, two drains, a move with its start, a detachment and the end
  bridges-in : (bridging chain).1 ≡ 14
  bridges-in = refl

  bridges-sources : map (sources (bridging chain).2) (2 ∷ 3 ∷ []) ≡ Some 0 ∷ Some 1 ∷ []
  bridges-sources = refl

  -- by GTIDs both go
  bridges-by-sets : (bridging (record chain { gtid = true })).0.step ≡ step.Done (
      line.Successor (server_no 0) ∷ line.Follows (server_no 2) (server_no 0) ∷ line.Follows (server_no 3) (server_no 0) ∷ [])
  bridges-by-sets = refl

  -- ---- a takeover: m over p and r and s, which executed two, two, two and one

  abbrev pair : List ServerNo
  pair = server_no 1 ∷ server_no 2 ∷ server_no 3 ∷ []

  abbrev taking_servers : World
  taking_servers = world st (
      record (server st 0 Without 2 true) { read_only = false } ∷ server st 1 (Attached (server_no 0)) 2 true
      ∷ server st 2 (Attached (server_no 0)) 2 true ∷ record (server st 3 (Attached (server_no 0)) 1 true) { read = end 2; feed = false } ∷ [])

  abbrev taking_book : BookState
  taking_book = book (109 ∷ 112 ∷ 114 ∷ 115 ∷ []) ([] ∷ (bridge 1 0 2 ∷ []) ∷ (bridge 2 0 2 ∷ []) ∷ [] ∷ [])
      (rule.Neutral ∷ rule.Neutral ∷ rule.Neutral ∷ rule.Neutral ∷ [])

  abbrev taking : (ℕ → List Exchange) → List ServerNo → Taken × ℕ × World
  taking between rs =
      rounds taking_book between 0 80 taking_servers (begun_recovery (purpose.Takeover (server_no 1)) means.Bridges 1 5 (server_no 0) rs (server_no 0 ∷ rs))

  takes : (taking (each_turn []) (server_no 1 ∷ server_no 2 ∷ [])).0.step ≡ step.Done (
      line.Promoted (server_no 1) ∷ line.Follows (server_no 0) (server_no 1) ∷ line.Follows (server_no 2) (server_no 1) ∷ [])
  takes = refl

  -- eight operations of the head, seven of r and six of the tail
  takes-in : (taking (each_turn []) (server_no 1 ∷ server_no 2 ∷ [])).1 ≡ 21
  takes-in = refl

  takes-sources : map (sources (taking (each_turn []) (server_no 1 ∷ server_no 2 ∷ [])).2) (0 ∷ 1 ∷ 2 ∷ []) ≡ Some 1 ∷ None ∷ Some 1 ∷ []
  takes-sources = refl

  -- one that takes too long is lost as `behind`, and is started below its old source
  lags : (taking (each_turn []) pair).0.step ≡ step.Done (
      line.Promoted (server_no 1) ∷ line.Follows (server_no 0) (server_no 1) ∷ line.Follows (server_no 2) (server_no 1)
      ∷ line.Lost (server_no 3) (lost.Behind (end 1)) false ∷ [])
  lags = refl

  -- and one that goes on follows
  follows : (taking (each_turn (Apply 3 ∷ [])) pair).0.step ≡ step.Done (
      line.Promoted (server_no 1) ∷ line.Follows (server_no 0) (server_no 1) ∷ line.Follows (server_no 2) (server_no 1)
      ∷ line.Follows (server_no 3) (server_no 1) ∷ [])
  follows = refl

  -- ---- its way back

  -- the designated one isn't reached at its loss of the source: the master takes writes again
  abbrev cut_off : Taken × ℕ × World
  cut_off = taking (at_turn 15 (Befall 1 event.Fail ∷ [])) (server_no 1 ∷ server_no 2 ∷ [])

  is-cut-off : cut_off.0.step ≡ step.Failed (cause.Unreachable (server_no 1)) []
  is-cut-off = refl

  cut-off-back : cut_off.0.exchanges ≡ Request 0 (asking.SetReadOnly false) ∷ Request 1 asking.Start ∷ []
  cut-off-back = refl

  -- the master's log goes on in a new file before it is to go below: the designated one goes back and is started, and
  -- the master takes writes again
  abbrev rotated : Taken × ℕ × World
  rotated = taking (at_turn 16 (Rotate 0 ∷ [])) (server_no 1 ∷ server_no 2 ∷ [])

  is-rotated : rotated.0.step
      ≡ step.Failed (cause.Interfered (server_no 0) (spot.OwnEnd (end 2)) (spot.OwnEnd (record { file = 2; pos = 4 }))) []
  is-rotated = refl

  rotated-back : rotated.0.exchanges
      ≡ Attach 1 (spot.OwnEnd (end 2)) (server_no 0) (end 2) ∷ Request 1 asking.Start ∷ Request 0 (asking.SetReadOnly false) ∷ Request 1 asking.Start ∷ []
  rotated-back = refl

  rotated-sources : map (sources rotated.2) (0 ∷ 1 ∷ 2 ∷ []) ≡ None ∷ Some 0 ∷ Some 1 ∷ []
  rotated-sources = refl

  -- a master with a source has no place to give
  has-source : (rounds taking_book (each_turn []) 0 9 chain (begun_recovery (purpose.Takeover (server_no 3)) means.Bridges 1 5 (server_no 2) (server_no 3 ∷ []) [])).0.step
      ≡ step.Failed (cause.Moved (server_no 2) (Attached (server_no 1))) []
  has-source = refl
