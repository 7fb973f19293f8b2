-- A history with the room that is reserved for it.
use Rattle.std.specs.Prelude.{ℕ, List}
use Rattle.server_model.specs.Prelude.{Txn}

-- transactions, and the room for them
pub record Kept : Type 0 where
  pub txns : List Txn
  pub room : ℕ
