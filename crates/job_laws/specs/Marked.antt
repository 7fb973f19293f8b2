-- A mark that the logs of two servers keep.
use Rattle.std.specs.Prelude.{◌≡◌, ℕ, ◌<◌, true, false, Some, Ok, slice_get}
use Rattle.job_laws.specs.Prelude.{Server, ServerNo, Txn, World, is_mark, logged, same_txn}

-- the last mark of what server r has executed is read in its log, and in that of server d
pub record KeepsMark (w : World) (r d : ServerNo) (every : ℕ) (replica : Server) : Type 0 where
  pub place : ℕ
  pub mark : Txn
  pub read : logged w r.0 place ≡ Ok (Some mark)
  pub marks : is_mark every mark ≡ true
  pub last : (k : ℕ) (t : Txn) → place < k → slice_get replica.history.txns k ≡ Some t → is_mark every t ≡ false
  pub other_place : ℕ
  pub other : Txn
  pub other_read : logged w d.0 other_place ≡ Ok (Some other)
  pub same : same_txn other mark ≡ true
