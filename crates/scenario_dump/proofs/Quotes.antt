-- Texts that are in quotes as they are.
use Rattle.scenario_generator.proofs.Texts.{escape-append, escape-decimal}
use Rattle.scenario_dump.proofs.Prelude.{Coord, HostPort, IsName, Version, and_parts as both, by_index, common_steps, coord_text, digit_place}
use Rattle.scenario_dump.proofs.Prelude.{drop-nil, escape, escape_byte, escape_byte_plain, false≢true, hex_digit, is_host_byte, is_hyphen_place}
use Rattle.scenario_dump.proofs.Prelude.{list_all, lower, nibble, nibble_small, printed, six_digits, to_be_bytes, uuid_text, version_text, w128}
use Rattle.std.proofs.Common.{◌≡◌, ◌∙◌, ℕ, zero, suc, ◌+◌, ◌<◌, Bool, true, false, ◌∷◌, List, [], ◌++◌, length, drop, ap, ap₂, subst, refl, arith, decimal, codes, if◌then◌else◌}

-- both parts are unchanged
escape-both : (a b : List ℕ) → escape a ≡ a → escape b ≡ b → escape (a ++ b) ≡ a ++ b
escape-both a b first second = escape-append a b ∙ ap₂ (λ (v w : List ℕ). v ++ w) first second

-- ---- decimals

-- ---- coordinates, names, UUIDs and versions

escape-zeros : (k : ℕ) → escape (drop k (codes "000000")) ≡ drop k (codes "000000")
unfolding escape_byte
escape-zeros zero = refl
escape-zeros (suc (suc (suc (suc (suc (suc k)))))) = rw (drop-nil k)
escape-zeros _ = refl

pub escape-coord_text : (c : Coord) → escape (coord_text c) ≡ coord_text c
unfolding escape_byte
escape-coord_text c =
    escape-both (codes "mysql-bin." ++ six_digits c.file ++ codes ":") (decimal c.pos)
    (escape-both (codes "mysql-bin." ++ six_digits c.file) (codes ":")
    (escape-both (codes "mysql-bin.") (six_digits c.file) refl (escape-both (drop (length (decimal c.file)) (codes "000000")) (decimal c.file) (escape-zeros (length (decimal c.file))) (escape-decimal c.file))) refl)
    (escape-decimal c.pos)

plain_host : (b : ℕ) → is_host_byte b ≡ true → escape_byte b ≡ b ∷ []
plain_host b is =
    escape_byte_plain b (λ e. absurd (false≢true (subst (λ (x : ℕ). is_host_byte x ≡ true) e is)))
    (λ e. absurd (false≢true (subst (λ (x : ℕ). is_host_byte x ≡ true) e is))) (grind (arith, common_steps, is))

escape-host : (host : List ℕ) → list_all is_host_byte host ≡ true → escape host ≡ host
escape-host [] all = refl
escape-host (b ∷ host) all = let p = both (is_host_byte b) (list_all is_host_byte host) all in ap₂ (λ (v w : List ℕ). v ++ w) (plain_host b p.0) (escape-host host p.1)

pub escape-printed : (name : HostPort) → IsName name → escape (printed name) ≡ printed name
unfolding escape_byte
escape-printed name is = escape-both name.host (58 ∷ decimal name.port) (escape-host name.host is.bytes) (escape-both (58 ∷ []) (decimal name.port) refl (escape-decimal name.port))

plain_digit : (d : ℕ) → d < 16 → escape_byte (hex_digit lower d) ≡ hex_digit lower d ∷ []
unfolding escape_byte
plain_digit zero small = refl
plain_digit (suc (suc (suc (suc (suc (suc (suc (suc (suc (suc (suc (suc (suc (suc (suc (suc d)))))))))))))))) small = absurd (omega arith)
plain_digit _ small = refl

escape-by_index : (n : ℕ) (f : ℕ → ℕ) → ((k : ℕ) → escape_byte (f k) ≡ f k ∷ []) → escape (by_index n f) ≡ by_index n f
unfolding by_index
escape-by_index zero f each = refl
escape-by_index (suc n) f each = escape-both (by_index n f) (f n ∷ []) (escape-by_index n f each) (ap (λ (v : List ℕ). v ++ []) (each n))

plain_or : (b : Bool) (x : ℕ) → escape_byte x ≡ x ∷ [] → escape_byte (if b then 45 else x) ≡ (if b then 45 else x) ∷ []
unfolding escape_byte
plain_or true x same = refl
plain_or false x same = same

pub escape-uuid_text : (uuid : ℕ) → escape (uuid_text uuid) ≡ uuid_text uuid
escape-uuid_text uuid =
    let bytes = to_be_bytes w128 uuid in
    escape-by_index 36 (λ k. if is_hyphen_place k then 45 else hex_digit lower (nibble bytes (digit_place k)))
    (λ k. plain_or (is_hyphen_place k) (hex_digit lower (nibble bytes (digit_place k))) (plain_digit (nibble bytes (digit_place k)) (nibble_small bytes (digit_place k))))

pub escape-version_text : (v : Version) → escape (version_text v) ≡ version_text v
unfolding escape_byte
escape-version_text v =
    escape-both (decimal v.major ++ codes "." ++ decimal v.minor ++ codes ".") (decimal v.patch)
    (escape-both (decimal v.major ++ codes "." ++ decimal v.minor) (codes ".")
    (escape-both (decimal v.major ++ codes ".") (decimal v.minor) (escape-both (decimal v.major) (codes ".") (escape-decimal v.major) refl) (escape-decimal v.minor)) refl)
    (escape-decimal v.patch)
