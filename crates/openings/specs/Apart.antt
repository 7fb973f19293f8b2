-- When two servers of an opening differ.
use Rattle.std.specs.Prelude.{◌≡◌, false}
use Rattle.openings.specs.Prelude.{same_name}
use Rattle.openings.specs.declared.init.ServerInit.{ServerInit}

-- they have different names and UUIDs
pub record IsApart (i j : ServerInit) : Type 0 where
  pub names : same_name i.settings.name j.settings.name ≡ false
  pub uuids : i.settings.uuid ≡ j.settings.uuid → ⊥
