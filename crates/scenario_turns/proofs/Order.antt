-- The order of the servers by name has their numbers alone.
use Rattle.std.proofs.Common.{ℕ, ◌<◌, List, length, All, subst}
use Rattle.scenario_turns.proofs.Prelude.{ServerInit, ServerNo, by_name-within, in_order, length-map, server_names}

pub order_within : (servers : List ServerInit) → All (λ (n : ServerNo). n.0 < length servers) (in_order servers)
order_within servers =
    let count = length-map servers (λ (i : ServerInit). i.settings.name) in
    subst (λ (k : ℕ). All (λ (n : ServerNo). n.0 < k) (in_order servers)) count (by_name-within (server_names servers))
