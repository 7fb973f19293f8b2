-- Journals with numbers: who took which turn, and what it answered.
use Rattle.std.specs.Prelude.{◌≡◌, ◌≤◌, ℕ, ◌+◌, ◌&&◌, ◌==◌, nat_le, not, Bool, true, false, if◌then◌else◌, List, [], ◌∷◌, filter, map, length}
use Rattle.orch_core.specs.Turns.declared.turn.Turn.{Turn}
use Rattle.orch_core.specs.Turns.declared.reply.Reply.{Reply}
use Rattle.live_desk.specs.Kinds.{is_command}

-- the number of the one who took a turn, the turn, and its reply
abbrev pub Entry : Type 0
Entry = ℕ × Turn × Reply

abbrev pub turns_in : List Entry → List Turn
turns_in es = map (λ e. e.1) es

abbrev pub pairs_in : List Entry → List (Turn × Reply)
pairs_in es = map (λ e. (e.1, e.2)) es

-- who is listed first took the first turn; a turn for which nobody is listed is the caller's, whose number is 0
abbrev pub entries_of : List ℕ → List (Turn × Reply) → List Entry
entries_of ns [] = []
entries_of [] (p ∷ ps) = (0, p.0, p.1) ∷ entries_of [] ps
entries_of (n ∷ ns) (p ∷ ps) = (n, p.0, p.1) ∷ entries_of ns ps

-- commands, or turns that are none
abbrev pub is_of : Bool → Turn → Bool
is_of true t = is_command t
is_of false t = not (is_command t)

abbrev pub those_in : Bool → List Turn → List Turn
those_in commands ts = filter (is_of commands) ts

abbrev pub commands_in : List Turn → List Turn
commands_in ts = those_in true ts

abbrev pub others_in : List Turn → List Turn
others_in ts = those_in false ts

-- the caller and the driver, whose numbers are 0 and 1, take the turns that are no command in their order
abbrev pub drives : ℕ → Turn → Bool
drives by t = not (is_command t) && nat_le by 1

abbrev pub driver_entries : List Entry → List Entry
driver_entries es = filter (λ e. drives e.0 e.1) es

-- the turns by the numbers 0 and 1 that are no command, in order
abbrev pub driver_list : List Entry → List Turn
driver_list es = turns_in (driver_entries es)

-- the places, from 1, of a number's turns, after so many turns
abbrev pub places_from : ℕ → ℕ → List Entry → List ℕ
places_from by k [] = []
places_from by k (e ∷ es) = if e.0 == by then (k + 1) ∷ places_from by (k + 1) es else places_from by (k + 1) es

abbrev pub places_of : ℕ → List Entry → List ℕ
places_of by es = places_from by 0 es

-- a pass is in a journal: it has seen no more than there is, and its own turns are exactly those of its number, in
-- order
pub record Stands (by seen : ℕ) (mine : List ℕ) (es : List Entry) : Type 0 where
  pub behind : seen ≤ length es
  pub own : mine ≡ places_of by es
