-- What no change of a book changes: its servers.
use Rattle.std.proofs.Common.{◌≡◌, refl}
use Rattle.instance_keeper.proofs.Prelude.{BookState, Change, Key, Row, Table, after_change, after_put, after_removal}
use Rattle.instance_keeper.proofs.Prelude.change
use Rattle.instance_keeper.proofs.Prelude.key
use Rattle.instance_keeper.proofs.Prelude.row
use Rattle.instance_keeper.proofs.Prelude.table

-- the settings and the names are as they were
pub record HasSameServers (b now : BookState) : Type 0 where
  pub settings : now.settings ≡ b.settings
  pub names : now.names ≡ b.names

pub same-put : (b : BookState) (r : Row) → HasSameServers b (after_put b r)
same-put b (row.Instance i) = record { settings = refl; names = refl }
same-put b _ = record { settings = refl; names = refl }

pub same-removal : (b : BookState) (t : Table) (k : Key) → HasSameServers b (after_removal b t k)
same-removal b table.Instance (key.Server n) = record { settings = refl; names = refl }
same-removal b table.Downtime (key.Server n) = record { settings = refl; names = refl }
same-removal b table.Candidate (key.Server n) = record { settings = refl; names = refl }
same-removal b table.Switch (key.Server n) = record { settings = refl; names = refl }
same-removal b _ _ = record { settings = refl; names = refl }

pub same-change : (b : BookState) (c : Change) → HasSameServers b (after_change b c)
same-change b (change.Put r) = same-put b r
same-change b (change.Remove t k) = same-removal b t k
