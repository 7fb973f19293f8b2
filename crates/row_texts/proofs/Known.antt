-- Servers that are known, one by one.
pub use Rattle.kept_rows.proofs.Known.{head_known as first_known, rest_known}
use Rattle.row_texts.proofs.Prelude.{Row, and_parts as both, are_known, key_of, key_servers, servers_of, source_servers}
use Rattle.row_texts.proofs.Prelude.row
use Rattle.std.proofs.Common.{◌≡◌, ℕ, true, ltb, List, [], ◌∷◌, refl}

alone : (count n : ℕ) (servers : List ℕ) → are_known count (n ∷ servers) ≡ true → are_known count (n ∷ []) ≡ true
alone count n servers e = rw ((both (ltb n count) (are_known count servers) e).0) refl

-- a row's key names a server of the row
pub key_known : (count : ℕ) (r : Row) → are_known count (servers_of r) ≡ true → are_known count (key_servers (key_of r)) ≡ true
key_known count (row.Instance i) e = alone count i.no.0 (source_servers i.seen.source) e
key_known count (row.Downtime d) e = e
key_known count (row.Candidate c) e = e
key_known count _ e = refl
