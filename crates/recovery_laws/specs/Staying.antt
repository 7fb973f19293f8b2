-- Turns that are no turn of a recovery.
use Rattle.std.specs.Prelude.{◌≡◌, ℕ, ⊤}
use Rattle.recovery_laws.specs.Prelude.{Beginning, Discovering, Exchanging, Forgetting, Passage, Polling, Restarting, Storing, Taking, Turning}

-- a turn leaves the job of this number, which isn't that of the turn; a restart leaves none
abbrev pub Spares : ℕ → Passage → Type 0
Spares id (Exchanging e) = ⊤
Spares id (Polling p n read now) = ⊤
Spares id (Storing p keeps) = ⊤
Spares id (Discovering n read now) = ⊤
Spares id (Forgetting n) = ⊤
Spares id Restarting = ⊥
Spares id (Beginning list j) = ⊤
Spares id (Turning k read now keeps) = k ≡ id → ⊥
Spares id (Taking k t keeps) = k ≡ id → ⊥
