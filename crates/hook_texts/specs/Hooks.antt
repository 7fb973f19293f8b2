-- The hooks of recoveries.
use Rattle.std.specs.Prelude.{◌≡◌, ◌≤◌, [], All, length}
use Rattle.hook_texts.specs.declared.hooks.Hook.{Hook}
use Rattle.hook_texts.specs.declared.hooks.Hooks.{Hooks}

-- none at all
abbrev pub no_hooks : Hooks
no_hooks = record { pre_failover = []; post_failover = []; post_unsuccessful = [] }

-- the text has 1 to 1,000 bytes, none of which is a control character of ASCII
pub record IsHook (h : Hook) : Type 0 where
  pub some : 1 ≤ length h.text
  pub few : length h.text ≤ 1000
  pub printable : All (λ b. (32 ≤ b) × ¬ (b ≡ 127)) h.text

-- so it is of each hook
pub record AreHooks (h : Hooks) : Type 0 where
  pub pre_failover : All IsHook h.pre_failover
  pub post_failover : All IsHook h.post_failover
  pub post_unsuccessful : All IsHook h.post_unsuccessful
