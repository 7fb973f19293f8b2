-- Openings as the code has them.
use Rattle.std.specs.Prelude.{◌≡◌, map}
use Rattle.openings.specs.Opening.{Opened, IsChecked, opening}
use Rattle.openings.specs.declared.opening.Opening.TheInside.{Inside}

abbrev pub opened_of : Inside → Opened
opened_of a = opening a.servers.items a.gtid

-- the opening is checked, and the names are those of its servers
pub record IsCheckedInside (a : Inside) : Type 0 where
  pub checked : IsChecked (opened_of a)
  pub named : a.names.items ≡ map (λ i. i.settings.name) a.servers.items
