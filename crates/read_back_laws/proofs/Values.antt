-- Single values read as they were written.
use Rattle.std.proofs.Common.{◌≡◌, ◌∙◌, ◌≢◌, ◌<◌, ◌≤◌, ◌^◌, ◌%◌, ◌/◌, ℕ, zero, suc, true, false, List, [], ◌∷◌, ◌++◌, length, get_or, Some, Ok, All, inl, refl, sym, ap, arith, append_assoc, decimal, leb}
use Rattle.read_back_laws.proofs.Prelude.{Coord, HasText, HostPort, IsName, IsWritten, Version, all_ascii_digits, before_first, behind_dot, byte_at}
use Rattle.read_back_laws.proofs.Prelude.{bytes_high_first, coord_at, coord_data, coord_in, coord_or_fails, coord_text, count_data, decimal_nonempty}
use Rattle.read_back_laws.proofs.Prelude.{digits_decimal, digits_value, digits_value-decimal, drop-append-add, from_be_bytes-to_be_bytes_16, is_dot, label_in}
use Rattle.read_back_laws.proofs.Prelude.{le-leb, lower, name_in, name_or_fails, ne_eqb, not_in_digits, number_in, own, parses_hyphenated_text, position_or_len}
use Rattle.read_back_laws.proofs.Prelude.{printed, short_in, string, take_at, to_be_bytes, uuid_in, uuid_or_fails, uuid_text, version_in, version_of}
use Rattle.read_back_laws.proofs.Prelude.{version_part, version_text, w128, whole_in, within}
use Rattle.read_back_laws.proofs.Prelude.names

pub number-reads : (low high n : ℕ) → low ≤ n → n ≤ high → number_in low high (count_data n) ≡ Ok n
unfolding number_in whole_in
number-reads low high n least most =
    let above : leb low n ≡ true = le-leb low n least in
    let below : leb n high ≡ true = le-leb n high most in
    rw (above, below) refl

pub whole-reads : (n : ℕ) → whole_in (count_data n) ≡ Ok n
unfolding whole_in
whole-reads n = refl

pub name-reads : (name : HostPort) → IsName name → name_in (string (printed name)) ≡ Ok name
unfolding name_in
name-reads name is = ap name_or_fails (names.printed_reads_lem name is)

-- what is printed of a coordinate reads as it
abbrev pub CoordsRead : Type 0
CoordsRead = (c : Coord) → HasText c → coord_at (coord_text c) ≡ Ok c

pub coord-reads : CoordsRead → (c : Coord) → IsWritten c → coord_in (coord_data c) ≡ Ok c
unfolding coord_in
coord-reads law c is =
    let has : HasText c = record { file_low = is.file; file_high = is.files; pos_low = is.start; pos_high = is.pos } in
    ap coord_or_fails (law c has)

pub short-reads : (text : List ℕ) → length text ≤ 255 → short_in (string text) ≡ Ok text
unfolding short_in
short-reads text most =
    let least : leb 0 (length text) ≡ true = le-leb 0 (length text) (omega arith) in
    let below : leb (length text) 255 ≡ true = le-leb (length text) 255 most in
    rw (least, below) refl

pub label-reads : (text : List ℕ) → 1 ≤ length text → length text ≤ 261 → label_in (string text) ≡ Ok text
unfolding label_in
label-reads text some most =
    let least : leb 1 (length text) ≡ true = le-leb 1 (length text) some in
    let below : leb (length text) 261 ≡ true = le-leb (length text) 261 most in
    rw (least, below) refl

-- ---- UUIDs

none_large : All (λ (b : ℕ). b < 256) []
none_large k d h = absurd (omega (arith, h))

one_more : (b : ℕ) (bs : List ℕ) → b < 256 → All (λ (x : ℕ). x < 256) bs → All (λ (x : ℕ). x < 256) (b ∷ bs)
one_more b bs h more zero d within = h
one_more b bs h more (suc k) d within = more k d (omega (arith, within))

remainder_small : (m : ℕ) → m % 256 < 256
remainder_small m = omega arith

byte_small : (i n : ℕ) → byte_at i n < 256
byte_small zero n = remainder_small n
byte_small (suc i) n = remainder_small (n / 256 ^ suc i)

bytes_small : (k n : ℕ) → All (λ (b : ℕ). b < 256) (bytes_high_first k n)
bytes_small zero n = none_large
bytes_small (suc k) n = one_more (byte_at k n) (bytes_high_first k n) (byte_small k n) (bytes_small k n)

bytes_count : (k n : ℕ) → length (bytes_high_first k n) ≡ k
bytes_count zero n = refl
bytes_count (suc k) n = omega (arith, bytes_count k n)

pub uuid-reads : (u : ℕ) → u < 2 ^ 128 → uuid_in (string (uuid_text u)) ≡ Ok u
unfolding uuid_in
uuid-reads u fits =
    ap uuid_or_fails (sym (parses_hyphenated_text lower (to_be_bytes w128 u) (inl refl) (bytes_count 16 u) (bytes_small 16 u)))
    ∙ ap Ok (from_be_bytes-to_be_bytes_16 u fits)

-- ---- versions

abbrev NoDots : List ℕ → Type 0
NoDots ds = (i : ℕ) → i < length ds → get_or ds i 0 ≢ 46

no_dots : (n : ℕ) → n < 2 ^ 64 → NoDots (decimal n)
no_dots n small = not_in_digits own (decimal n) 46 (digits_decimal own n small) (λ r. absurd (omega (arith, r)))

dot_place : (ds rest : List ℕ) → NoDots ds → position_or_len is_dot (ds ++ 46 ∷ rest) ≡ length ds
dot_place [] rest none = refl
dot_place (d ∷ ds) rest none =
    let other : is_dot d ≡ false = ne_eqb d 46 (none zero (omega arith)) in
    let more = dot_place ds rest (λ i h. none (suc i) (omega arith)) in
    rw other (omega (arith, more))

before_dot : (ds rest : List ℕ) → NoDots ds → before_first is_dot (ds ++ 46 ∷ rest) ≡ ds
before_dot ds rest none = rw (dot_place ds rest none) (take_at ds (46 ∷ rest) (length ds) refl)

past_dot : (ds rest : List ℕ) → NoDots ds → behind_dot (ds ++ 46 ∷ rest) ≡ rest
past_dot ds rest none = rw (dot_place ds rest none) (drop-append-add ds (46 ∷ rest) 1)

part-reads : (n : ℕ) → n ≤ 65535 → version_part (decimal n) ≡ Some n
part-reads n most =
    let some : leb 1 (length (decimal n)) ≡ true = le-leb 1 (length (decimal n)) (decimal_nonempty n (omega arith)) in
    let digits : all_ascii_digits (decimal n) ≡ true = digits_decimal own n (omega arith) in
    let value : digits_value 10 (decimal n) ≡ n = digits_value-decimal own n (omega arith) in
    let small : leb n 65535 ≡ true = le-leb n 65535 most in
    rw (some, digits, value, small) refl

-- each part is in its range
pub record IsVersion (v : Version) : Type 0 where
  pub major : v.major ≤ 65535
  pub minor : v.minor ≤ 65535
  pub patch : v.patch ≤ 65535

pub version-reads : (v : Version) → IsVersion v → version_in (string (version_text v)) ≡ Ok v
unfolding version_in
version-reads v is =
    let none = no_dots v.major (omega (arith, is.major)) in
    let none' = no_dots v.minor (omega (arith, is.minor)) in
    let rest = decimal v.minor ++ 46 ∷ decimal v.patch in
    let text : version_text v ≡ decimal v.major ++ 46 ∷ rest = simp append_assoc in
    let first : before_first is_dot (version_text v) ≡ decimal v.major = ap (before_first is_dot) text ∙ before_dot (decimal v.major) rest none in
    let past : behind_dot (version_text v) ≡ rest = ap behind_dot text ∙ past_dot (decimal v.major) rest none in
    let second : before_first is_dot (behind_dot (version_text v)) ≡ decimal v.minor = ap (before_first is_dot) past ∙ before_dot (decimal v.minor) (decimal v.patch) none' in
    let third : behind_dot (behind_dot (version_text v)) ≡ decimal v.patch = ap behind_dot past ∙ past_dot (decimal v.minor) (decimal v.patch) none' in
    let major = ap version_part first ∙ part-reads v.major is.major in
    let minor = ap version_part second ∙ part-reads v.minor is.minor in
    let patch = ap version_part third ∙ part-reads v.patch is.patch in
    λ i. version_of (major i) (minor i) (patch i)
