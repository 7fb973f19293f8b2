-- What holds for each state of a run, whatever rows a row store hands back: all that is kept speaks of its servers, and
-- block periods aren't too long.
use Rattle.std.specs.Prelude.{◌≡◌, ◌≤◌, ℕ, All, length}
use Rattle.run_laws.specs.Prelude.{Configuration, HasKnownSource, IsBook, IsReady, IsSlot, State, longest_block, pollers}

-- that of all clusters, and those of single ones
pub record AreShort (c : Configuration) : Type 0 where
  pub block : c.block ≤ longest_block
  pub blocks : All (λ b. b.seconds ≤ longest_block) c.blocks

-- so many servers: the book has a place for each, and each reading, each source and each job is of them
pub record Ready (count : ℕ) (s : State) : Type 0 where
  pub servers : length s.world.servers ≡ count
  pub book : IsBook s.book
  pub names : length s.book.names ≡ count
  pub slots : length s.slots ≡ pollers
  pub observed : All (IsSlot count) s.slots
  pub sources : All (HasKnownSource (length s.world.servers)) s.world.servers
  pub jobs : All (IsReady count) s.jobs
  pub periods : AreShort s.configuration
