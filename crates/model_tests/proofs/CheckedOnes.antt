-- What the servers of a checked opening give to those who make their histories and logs.
use Rattle.std.proofs.Common.{◌≡◌, ℕ, ◌≤◌, false, arith, length, Some, slice_get}
use Rattle.openings.specs.declared.init.ServerInit.{ServerInit}
use Rattle.openings.specs.Flaws.{bad_flushes}
use Rattle.openings.specs.Opening.{Opened, IsChecked}
use Rattle.openings.specs.Servers.{history_at, root_of}
use Rattle.openings.specs.Taking.{PartsInRange}
use Rattle.opening_checks.proofs.Flawed.{in_range}
use Rattle.openings.proofs.Soundness.{flawless}
use Rattle.openings.proofs.Sizes.{length-history_at, parts_at-few}

pub checked-parts : (o : Opened) → IsChecked o → PartsInRange o.servers
checked-parts o checked = (in_range o.servers o.gtid checked.listed).parts

pub checked-few : (o : Opened) → IsChecked o → (n : ℕ) → length (history_at o.servers n) ≤ 4000000
checked-few o checked n =
    let most = length-history_at o.servers n in
    let few = parts_at-few o.servers (root_of o.servers n) (checked-parts o checked) in
    omega arith

pub checked-flushes : (o : Opened) → IsChecked o → (n : ℕ) (i : ServerInit) → slice_get o.servers n ≡ Some i → bad_flushes i ≡ false
checked-flushes o checked = (flawless o.servers checked.sound).flushes
