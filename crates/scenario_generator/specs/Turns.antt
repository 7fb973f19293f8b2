-- The turns.
use Rattle.std.specs.Prelude.{ℕ, zero, suc, ◌+◌, ◌==◌, ◌||◌, ◌∷◌, ◌++◌, [], if◌then◌else◌}
use Rattle.scenario_generator.specs.declared.turn.DrawnTurn.{DrawnTurn}
use Rattle.scenario_generator.specs.declared.turn.DrawnTurn.TheVariants.{Write, Fetch, Apply, Rotate, PollRead, PollStore}
use Rattle.scenario_generator.specs.Numbers.{Drawing, below, next, none_drawn}
use Rattle.scenario_generator.specs.Servers.{root_of}

-- The turn of one of eight kinds at a server. A write is one of this size at the root of the server's ten.
abbrev pub turn_of : ℕ → ℕ → ℕ → DrawnTurn
turn_of kind n size =
    if kind == 0 then Write (root_of n) size else
    (if kind == 1 || kind == 2 then Fetch n else
    (if kind == 3 || kind == 4 then Apply n else
    (if kind == 5 then Rotate n else
    (if kind == 6 then PollRead n else PollStore))))

abbrev pub kind_by : ℕ → ℕ
kind_by x = below 8 (next x)

-- first the kind is drawn, then the server, and for a write its size
abbrev pub turn_from : ℕ → ℕ → DrawnTurn
turn_from servers x = turn_of (kind_by x) (below servers (next (next x))) (below 1000 (next (next (next x))) + 1)

abbrev pub after_turn : ℕ → ℕ
after_turn x = if kind_by x == 0 then next (next (next x)) else next (next x)

-- a turn over so many servers is drawn
abbrev pub with_turn : ℕ → Drawing DrawnTurn → Drawing DrawnTurn
with_turn servers d = record { drawn = d.drawn ++ turn_from servers d.number ∷ []; number = after_turn d.number }

-- the first so many turns over so many servers
unfoldable pub turns_from : ℕ → ℕ → ℕ → Drawing DrawnTurn
turns_from servers x zero = none_drawn x
turns_from servers x (suc n) = with_turn servers (turns_from servers x n)
