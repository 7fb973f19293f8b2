-- When the text can be read.
use Rattle.std.specs.Prelude.{◌≡◌, ℕ, ◌<◌, ◌^◌, List, All, map, Some, slice_get}
use Rattle.scenario_dump.specs.Prelude.{IsName, IsUtf8, Less, Scenario, ServerInit, World, nat_cmp, parts_of, slice_cmp}
use Rattle.scenario_dump.specs.Servers.{opening_of}

-- each label before those after it, by their bytes
abbrev pub IsRising : List (List ℕ) → Type 0
IsRising labels = (i j : ℕ) (a b : List ℕ) → slice_get labels i ≡ Some a → slice_get labels j ≡ Some b → i < j → slice_cmp nat_cmp a b ≡ Less

-- a server's numbers have 64 bits
pub record HasNumbers (i : ServerInit) : Type 0 where
  pub limit : i.settings.limit < 2 ^ 64
  pub id : i.settings.server_id < 2 ^ 64
  pub purged : i.purged < 2 ^ 64
  pub executed : i.executed < 2 ^ 64
  pub flushes : All (λ n. n < 2 ^ 64) i.flushes
  pub sizes : All (λ p. p.size < 2 ^ 64) (parts_of i)
  pub counts : All (λ p. p.count < 2 ^ 64) (parts_of i)

-- all numbers have 64 bits, and the labels of aliases and of block periods rise
pub record IsReadable (w : World) (s : Scenario) (now : ℕ) : Type 0 where
  pub moment : now < 2 ^ 64
  pub nodes : s.nodes < 2 ^ 64
  pub pseudo : s.pseudo < 2 ^ 64
  pub block : s.block < 2 ^ 64
  pub periods : All (λ b. b.seconds < 2 ^ 64) s.blocks
  pub servers : All HasNumbers (opening_of w).servers
  pub aliases : IsRising (map (λ a. a.cluster) s.aliases)
  pub blocks : IsRising (map (λ b. b.cluster) s.blocks)
  pub pre_failover : All (λ h. h.exit < 2 ^ 64) s.hooks.pre_failover
  pub post_failover : All (λ h. h.exit < 2 ^ 64) s.hooks.post_failover
  pub post_unsuccessful : All (λ h. h.exit < 2 ^ 64) s.hooks.post_unsuccessful

-- the labels, data centres, aliases, filters and hooks are UTF-8, and the names are names
pub record HasTexts (w : World) (s : Scenario) : Type 0 where
  pub names : All (λ i. IsName i.settings.name) (opening_of w).servers
  pub labels : All (λ i. IsUtf8 i.settings.cluster) (opening_of w).servers
  pub centres : All (λ i. IsUtf8 i.settings.dc) (opening_of w).servers
  pub clusters : All (λ a. IsUtf8 a.cluster) s.aliases
  pub aliases : All (λ a. IsUtf8 a.alias) s.aliases
  pub blocked : All (λ b. IsUtf8 b.cluster) s.blocks
  pub master : All IsUtf8 s.filters.master.texts
  pub intermediate : All IsUtf8 s.filters.intermediate.texts
  pub pre_failover : All (λ h. IsUtf8 h.text) s.hooks.pre_failover
  pub post_failover : All (λ h. IsUtf8 h.text) s.hooks.post_failover
  pub post_unsuccessful : All (λ h. IsUtf8 h.text) s.hooks.post_unsuccessful
