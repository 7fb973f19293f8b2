-- A command whose checks pass finds the servers free of which its job takes the leases.
use Rattle.std.proofs.Common.{◌≡◌, Option, None}
use Rattle.moves_gtid.proofs.Prelude.{BookState, GtidCommand, ServerNo, World, busy, case_of, first_about, first_refusal, list_of, neither, row_of}
use Rattle.moves_gtid.proofs.Prelude.command

module _ (w : World) (b : BookState) (i : ServerNo) where
  pub checks-free : (c : GtidCommand) (d : Option ServerNo) → first_refusal w b (case_of b c i d) (row_of c) ≡ None → first_about (busy b) (list_of b c i d) ≡ None
  checks-free command.MoveGtid d h = (neither _ _ (neither _ _ h).1).0
  checks-free command.MoveReplicasGtid d h = (neither _ _ (neither _ _ h).1).0
  checks-free _ d h = (neither _ _ h).0
