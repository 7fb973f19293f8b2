-- UUIDs, listed one after the other.
use Rattle.std.proofs.Common.{◌≡◌, ℕ, ◌+◌, ◌<◌, List, [], ◌∷◌, ◌++◌, length, get_or, drop, Option, codes, ◌∙◌, append_assoc}
use Rattle.scenario_servers.proofs.Prelude.{Value, get, items_view, listed_uuids, read_uuid, rest_at, uuid_at, view}

-- the servers before `at` are listed
abbrev pub IsUuidsTo : List Value → ℕ → List (Option ℕ) → Type 0
IsUuidsTo vs at listed = listed ++ listed_uuids at (items_view (drop at vs)) ≡ listed_uuids 0 (items_view vs)

pub next_uuid : (vs : List Value) (at : ℕ) (v : Value) (x : Option ℕ) (listed : List (Option ℕ)) → at < length vs → v ≡ get_or vs at v → x ≡ read_uuid (uuid_at at (get (codes "uuid") (view v)))
    → IsUuidsTo vs at listed → IsUuidsTo vs (at + 1) (listed ++ x ∷ [])
next_uuid vs at v x listed lt here is so_far =
    let rest : drop at vs ≡ v ∷ drop (at + 1) vs = rest_at vs at v lt here in
    let all : listed ++ (read_uuid (uuid_at at (get (codes "uuid") (view v))) ∷ listed_uuids (at + 1) (items_view (drop (at + 1) vs))) ≡ listed_uuids 0 (items_view vs) = rw rest at so_far in
    append_assoc listed (x ∷ []) (listed_uuids (at + 1) (items_view (drop (at + 1) vs))) ∙ rw is all
