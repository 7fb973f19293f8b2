-- What each turn makes of the servers.
use Rattle.std.proofs.Common.{◌≡◌, List, refl, Option, Some, None}
use Rattle.run_laws.proofs.Prelude.{Act, Row, State, Turn, act_exchanges, act_in, after_act, after_done, done_exchanges, exchanges_at, run, step}
use Rattle.run_laws.proofs.Prelude.act
use Rattle.run_laws.proofs.Prelude.turn

world-act : (rows : List Row) (s : State) (a : Act) → (after_act rows s a).world ≡ run s.world (act_exchanges s a)
world-act rows s (act.PollRead p n) = refl
world-act rows s _ = refl

world-done : (rows : List Row) (s : State) (o : Option Act) → (after_done rows s o).world ≡ run s.world (done_exchanges s o)
world-done rows s None = refl
world-done rows s (Some a) = world-act rows s a

-- its exchanges, one after another
pub world-turn : (rows : List Row) (s : State) (t : Turn) → (step rows s t).world ≡ run s.world (exchanges_at s t)
world-turn rows s (turn.Act a) = world-act rows s a
world-turn rows s (turn.As node a) = world-done rows s (act_in s (turn.As node a))
world-turn rows s (turn.Claim node) = world-done rows s (act_in s (turn.Claim node))
world-turn rows s _ = refl
