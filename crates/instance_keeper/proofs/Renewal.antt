-- The change that keeps the book's row as it becomes.
use Rattle.std.proofs.Common.{◌≡◌, Bool, true, false, None, Some, refl, if◌then◌else◌}
use Rattle.instance_keeper.proofs.Prelude.{Instance, instance_is, instance_refl, renewal, same_instance}
use Rattle.instance_keeper.proofs.Prelude.change
use Rattle.instance_keeper.proofs.Prelude.row

pub renewal_none : (kept now : Instance) → kept ≡ now → renewal kept now ≡ None
renewal_none kept now h = rw (instance_refl kept now h) refl

pub renewal_some : (kept now : Instance) → (kept ≡ now → ⊥) → renewal kept now ≡ Some (change.Put (row.Instance now))
renewal_some kept now h = go (same_instance kept now) refl
  where
    go : (b : Bool) → same_instance kept now ≡ b → (if b then None else Some (change.Put (row.Instance now))) ≡ Some (change.Put (row.Instance now))
    go true e = absurd (h (instance_is kept now e))
    go false e = refl
