-- The order of a book's names.
use Rattle.std.proofs.Common.{◌≡◌, ℕ, ◌<◌, List, length, get_or, map, ap, ◌∙◌, arith}
use Rattle.instance_keeper.proofs.Prelude.{HostPort, Settings, by_name, get_or-map-range_with_len, length-by_name, length-map}
use Rattle.instance_keeper.proofs.Prelude.{length-map-range_with_len, rank_of, ranks_of}

ranks_long : (names : List HostPort) (ranks : List ℕ) → ranks ≡ ranks_of (by_name names) → length ranks ≡ length names
ranks_long names ranks is = ap length is ∙ length-map-range_with_len (rank_of (by_name names)) 0 (length (by_name names)) ∙ length-by_name names

rank_at : (names : List HostPort) (ranks : List ℕ) (server d : ℕ) → ranks ≡ ranks_of (by_name names) → server < length names → get_or ranks server d ≡ rank_of (by_name names) server
rank_at names ranks server d is below =
    ap (λ (rs : List ℕ). get_or rs server d) is
    ∙ get_or-map-range_with_len (rank_of (by_name names)) 0 (length (by_name names)) server server d (omega (arith, below, length-by_name names)) (omega arith)

-- each server of the settings has a rank
pub ranks_reach : (settings : List Settings) (ranks : List ℕ) → ranks ≡ ranks_of (by_name (map (λ s. s.name) settings)) → length ranks ≡ length settings
ranks_reach settings ranks is = ranks_long (map (λ s. s.name) settings) ranks is ∙ length-map settings (λ s. s.name)

pub rank_in : (settings : List Settings) (ranks : List ℕ) (server d : ℕ) → ranks ≡ ranks_of (by_name (map (λ s. s.name) settings)) → server < length settings
    → get_or ranks server d ≡ rank_of (by_name (map (λ s. s.name) settings)) server
rank_in settings ranks server d is below =
    let long = length-map settings (λ s. s.name) in
    rank_at (map (λ s. s.name) settings) ranks server d is (omega (arith, below, long))
