-- A `Passage` that is no orchestrator's exchange, no job's turn, no job's start and no restart.
use Rattle.std.specs.Prelude.{◌≡◌, true, ⊤}
use Rattle.unended_laws.specs.Prelude.{Beginning, Discovering, Exchanging, Forgetting, Passage, Polling, Restarting, Storing, Taking, Turning, is_outside}

abbrev pub IsOutside : Passage → Type 0
IsOutside (Exchanging e) = is_outside e ≡ true
IsOutside (Polling p n read now) = ⊤
IsOutside (Storing p keeps) = ⊤
IsOutside (Discovering n read now) = ⊤
IsOutside (Forgetting n) = ⊤
IsOutside Restarting = ⊥
IsOutside (Beginning list j) = ⊥
IsOutside (Turning id read now keeps) = ⊥
IsOutside (Taking id t keeps) = ⊥
