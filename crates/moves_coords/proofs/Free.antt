-- A command whose checks pass finds the servers free of which its job takes the leases.
use Rattle.std.proofs.Common.{◌≡◌, Bool, true, false, Option, None}
use Rattle.moves_coords.proofs.Prelude.{BookState, CoordsCommand, ServerNo, World, busy, by_gtids, case_of, first_about, first_refusal, list_of}
use Rattle.moves_coords.proofs.Prelude.{neither, row_of}
use Rattle.moves_coords.proofs.Prelude.command

module _ (w : World) (b : BookState) (i : ServerNo) where
  pub checks-free : (c : CoordsCommand) (d : Option ServerNo) → first_refusal w b (case_of b c i d) (row_of (by_gtids w b i) c) ≡ None → first_about (busy b) (list_of b c i d) ≡ None
  checks-free command.MoveUp d h = (neither _ _ h).0
  checks-free command.MoveBelow d h = (neither _ _ (neither _ _ h).1).0
  checks-free command.Repoint d h = go (by_gtids w b i) h
    where
      go : (way : Bool) → first_refusal w b (case_of b command.Repoint i d) (row_of way command.Repoint) ≡ None → first_about (busy b) (list_of b command.Repoint i d) ≡ None
      go true h = (neither _ _ (neither _ _ h).1).0
      go false h = (neither _ _ (neither _ _ h).1).0
  checks-free _ d h = (neither _ _ h).0
