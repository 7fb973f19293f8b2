-- The servers of a book as the code has them.
use Rattle.std.specs.Prelude.{◌≡◌, ℕ, ◌<◌, ◌^◌, List, length, map}
use Rattle.instance_keeper.specs.Prelude.{HostPort, ServerNo, Settings, by_name, ranks_of}

-- the names, their order and each server's place in it are those of the settings
pub record IsServerList (settings : List Settings) (names : List HostPort) (order : List ServerNo) (ranks : List ℕ) : Type 0 where
  pub few : length settings < 2 ^ 32
  pub named : names ≡ map (λ s. s.name) settings
  pub ordered : order ≡ by_name (map (λ s. s.name) settings)
  pub ranked : ranks ≡ ranks_of (by_name (map (λ s. s.name) settings))
