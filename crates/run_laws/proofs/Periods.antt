-- Block periods of clusters through runs.
use Rattle.std.proofs.Common.{◌≡◌, ◌∙◌, ℕ, ◌≤◌, List, [], ◌∷◌, refl, ap, Option, Some, None}
use Rattle.run_laws.proofs.Prelude.{Act, AreShort, ComesTo, Configuration, Row, Scenario, State, Turn, act_in, after_act, after_done}
use Rattle.run_laws.proofs.Prelude.{configuration_of, engine, longest_block, period_by, run_turns, short-in, start, step}
use Rattle.run_laws.proofs.Prelude.act
use Rattle.run_laws.proofs.Prelude.turn

-- each is short
pub short-by : (c : Configuration) → AreShort c → (cluster : List ℕ) → period_by c cluster ≤ longest_block
short-by c short cluster = short-in c.blocks c.block cluster short.blocks short.block

-- ---- a run leaves what holds throughout it

act-configured : (rows : List Row) (s : State) (a : Act) → (after_act rows s a).configuration ≡ s.configuration
act-configured rows s (act.PollRead p n) = refl
act-configured rows s _ = refl

done-configured : (rows : List Row) (s : State) (o : Option Act) → (after_done rows s o).configuration ≡ s.configuration
done-configured rows s None = refl
done-configured rows s (Some a) = act-configured rows s a

pub turn-configured : (rows : List Row) (s : State) (t : Turn) → (step rows s t).configuration ≡ s.configuration
turn-configured rows s (turn.Act a) = act-configured rows s a
turn-configured rows s (turn.As node a) = done-configured rows s (act_in s (turn.As node a))
turn-configured rows s (turn.Claim node) = done-configured rows s (act_in s (turn.Claim node))
turn-configured rows s _ = refl

pub configured : (s : State) (xs : List (List Row × Turn)) → (run_turns engine s xs).configuration ≡ s.configuration
configured s [] = refl
configured s (x ∷ xs) = configured (step x.0 s x.1) xs ∙ turn-configured x.0 s x.1

pub configured-comes : (s : Scenario) (xs : List (List Row × Turn)) (now : State) (comes : ComesTo s xs now) → now.configuration ≡ configuration_of comes.wait s
configured-comes s xs now comes = ap (λ (x : State). x.configuration) comes.state ∙ configured (start s comes.wait comes.rows) xs
