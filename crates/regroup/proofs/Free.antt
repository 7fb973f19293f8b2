-- A command whose checks pass finds the servers free of which its job takes the leases.
use Rattle.std.proofs.Common.{◌≡◌, Bool, true, false, Option, None}
use Rattle.regroup.proofs.Prelude.{BookState, PathCommand, ServerNo, World, busy, case_of, first_about, first_refusal, list_of, neither, relocate_row}
use Rattle.regroup.proofs.Prelude.{replicas_row, row_of}
use Rattle.regroup.proofs.Prelude.command

module _ (w : World) (b : BookState) (i : ServerNo) where
  pub checks-free : (c : PathCommand) (d : Option ServerNo) → first_refusal w b (case_of w b c i d) (row_of w.gtid c) ≡ None → first_about (busy b) (list_of w b c i d) ≡ None
  checks-free command.Relocate d h = go w.gtid h
    where
      go : (gtid : Bool) → first_refusal w b (case_of w b command.Relocate i d) (relocate_row gtid) ≡ None → first_about (busy b) (list_of w b command.Relocate i d) ≡ None
      go true h = (neither _ _ (neither _ _ h).1).0
      go false h = (neither _ _ (neither _ _ h).1).0
  checks-free command.RelocateReplicas d h = go w.gtid h
    where
      go : (gtid : Bool) → first_refusal w b (case_of w b command.RelocateReplicas i d) (replicas_row gtid) ≡ None → first_about (busy b) (list_of w b command.RelocateReplicas i d) ≡ None
      go true h = (neither _ _ (neither _ _ h).1).0
      go false h = (neither _ _ (neither _ _ h).1).0
  checks-free command.RegroupReplicas d h = (neither _ _ h).0
