-- What holds for an unended job beside the `Flight` that has its core.
use Rattle.unended_laws.specs.Prelude.{HeldRecovery, LeasedRecovery, Leases, SoundRecovery, Unended, World}
use Rattle.unended_laws.specs.Prelude.unended

-- For a plan the `Flight` has all. A recovery finds what is still to do, and has the leases of the servers that it may
-- change.
abbrev pub IsHeldBeside : World → Leases → Unended → Type 0
IsHeldBeside w l (unended.Plan j) = Unit {0}
IsHeldBeside w l (unended.Recovery r docket) = HeldRecovery w r × LeasedRecovery l r.core.id r

-- and each bridge by which it goes is right
abbrev pub IsSoundBeside : World → Unended → Type 0
IsSoundBeside w (unended.Plan j) = Unit {0}
IsSoundBeside w (unended.Recovery r docket) = SoundRecovery w r
