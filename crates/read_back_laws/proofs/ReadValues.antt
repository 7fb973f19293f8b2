-- What is read of single values is in its range.
use Rattle.std.proofs.Common.{◌≡◌, ◌<◌, ◌≤◌, ◌^◌, ◌+◌, ◌*◌, ◌==◌, ℕ, Bool, true, false, List, ◌∷◌, length, get_or, Option, Some, None, Result, Ok, Err, IsUtf8, refl, ap, subst, arith, leb, decimal, ◌&&◌, if◌then◌else◌}
use Rattle.read_back_laws.proofs.Prelude.{AllPass-from_list_all, BadNumber, Data, HostPort, IsName, NameFault, Same, Version, all_ascii_digits, before_first}
use Rattle.read_back_laws.proofs.Prelude.{behind_dot, bind-ok, by_index, byte_of_digits, digits_of, digits_value, eqb-true, fails, from_be_bytes, has_hyphens}
use Rattle.read_back_laws.proofs.Prelude.{host_at, host_of, is_dot, is_hex_digit, label_in, label_or_fails, leb-true, length-append, length-decimal-le}
use Rattle.read_back_laws.proofs.Prelude.{list_all, name_at, name_in, name_or_fails, nat_tests, parsed_hyphenated, parsed_simple, port_at, port_of, printed}
use Rattle.read_back_laws.proofs.Prelude.{printed_is_utf8, read_is_name, same_Ok, same_Some, short_in, text_in, text_within, uuid_in, uuid_or_fails, value_of}
use Rattle.read_back_laws.proofs.Prelude.{version_at, version_in, version_of, version_part, w128}
use Rattle.read_back_laws.proofs.Heads.{IsLabel}
use Rattle.read_back_laws.proofs.ReadData.{IsFromText, text-is}
use Rattle.read_back_laws.proofs.Values.{IsVersion}

-- ---- names

name-passed : (r : Result HostPort NameFault) (name : HostPort) → name_or_fails r ≡ Ok name → r ≡ Ok name
name-passed (Ok own) name e = ap Ok (same_Ok own name e)
name-passed (Err f) name e = cc

name-is : (text : List ℕ) (name : HostPort) → name_at text ≡ Ok name → IsName name
unfolding name_at
name-is text name e =
    let host = bind-ok (host_at (host_of text)) _ name e in
    let port = bind-ok (port_at (port_of text)) _ name host.2 in
    let same : record { host = host.0; port = port.0 } ≡ name = cc (port.2) in
    subst IsName same (read_is_name (host_of text) (port_of text) host.0 port.0 host.1 port.1)

pub name-ok : (d : Data) (name : HostPort) → name_in d ≡ Ok name → IsName name
unfolding name_in
name-ok d name e =
    let text = bind-ok (text_in d) _ name e in
    name-is text.0 name (name-passed (name_at text.0) name text.2)

-- ---- texts

pub record IsWithin (least most : ℕ) (whole text : List ℕ) : Type 0 where
  pub low : least ≤ length text
  pub high : length text ≤ most
  pub same : whole ≡ text

pub text-ok : (low high : ℕ) (text t : List ℕ) → text_within low high text ≡ Ok t → IsWithin low high text t
text-ok low high text t e = go (leb low (length text)) (leb (length text) high) refl refl e
  where
    go : (a b : Bool) → leb low (length text) ≡ a → leb (length text) high ≡ b → Same (if a && b then Ok text else fails BadNumber) (Ok t) → IsWithin low high text t
    go true true least most e = subst (IsWithin low high text) (same_Ok text t e) (record { low = leb-true low (length text) least; high = leb-true (length text) high most; same = refl })
    go true false least most e = cc
    go false b least most e = cc

pub label-passed : (text label : List ℕ) → IsUtf8 text → label_or_fails text ≡ Ok label → IsLabel label
label-passed text label u e = let is = text-ok 1 261 text label e in record { some = is.low; short = is.high; text = subst IsUtf8 is.same u }

pub label-ok : (d : Data) (label : List ℕ) → IsFromText d → label_in d ≡ Ok label → IsLabel label
unfolding label_in
label-ok d label read e = let text = bind-ok (text_in d) _ label e in label-passed text.0 label (text-is d text.0 read text.1) text.2

-- a text that isn't long
pub record IsShort (bytes : List ℕ) : Type 0 where
  pub short : length bytes ≤ 255
  pub text : IsUtf8 bytes

pub short-passed : (whole text : List ℕ) → IsUtf8 whole → text_within 0 255 whole ≡ Ok text → IsShort text
short-passed whole text u e = let is = text-ok 0 255 whole text e in record { short = is.high; text = subst IsUtf8 is.same u }

pub short-ok : (d : Data) (text : List ℕ) → IsFromText d → short_in d ≡ Ok text → IsShort text
unfolding short_in
short-ok d text read e = let t = bind-ok (text_in d) _ text e in short-passed t.0 text (text-is d t.0 read t.1) t.2

-- a printed name is a label
pub printed-label : (name : HostPort) → IsName name → IsLabel (printed name)
printed-label name is =
    let long = length-append name.host (58 ∷ decimal name.port) in
    let some = is.some in
    let short = is.short in
    let port : length (decimal name.port) ≤ 5 = length-decimal-le 5 name.port (omega arith) (omega (arith, is.fits)) (omega (arith, is.fits)) in
    record { some = omega arith; short = omega arith; text = printed_is_utf8 name is }

-- ---- versions

part-passed : (a b c : Bool) (v k : ℕ) → (if a && b && c then Some v else None) ≡ Some k → (c ≡ true) × (v ≡ k)
part-passed true true true v k e = (refl, same_Some v k e)
part-passed _ _ _ v k e = absurd (cc)

part-small : (digits : List ℕ) (k : ℕ) → version_part digits ≡ Some k → k ≤ 65535
part-small digits k e =
    let passed = part-passed (leb 1 (length digits)) (all_ascii_digits digits) (leb (digits_value 10 digits) 65535) (digits_value 10 digits) k e in
    let small = leb-true (digits_value 10 digits) 65535 passed.0 in
    let same = passed.1 in
    omega arith

version-from : (a b c : Option ℕ) (v : Version) → version_of a b c ≡ Ok v → ((k : ℕ) → a ≡ Some k → k ≤ 65535) → ((k : ℕ) → b ≡ Some k → k ≤ 65535) → ((k : ℕ) → c ≡ Some k → k ≤ 65535) → IsVersion v
version-from (Some a) (Some b) (Some c) v e first second third =
    let same : record { major = a; minor = b; patch = c } ≡ v = cc in
    subst IsVersion same (record { major = first a refl; minor = second b refl; patch = third c refl })
version-from _ _ _ v e first second third = absurd (cc)

pub version-ok : (d : Data) (v : Version) → version_in d ≡ Ok v → IsVersion v
unfolding version_in
version-ok d v e =
    let text = bind-ok (text_in d) version_at v e in
    version-from (version_part (before_first is_dot text.0)) (version_part (before_first is_dot (behind_dot text.0))) (version_part (behind_dot (behind_dot text.0))) v text.2
    (part-small (before_first is_dot text.0)) (part-small (before_first is_dot (behind_dot text.0))) (part-small (behind_dot (behind_dot text.0)))

-- ---- UUIDs

digit-small : (c : ℕ) → is_hex_digit c ≡ true → value_of c ≤ 15
digit-small c e = grind (arith, nat_tests)

byte-small : (hex : List ℕ) (i : ℕ) → length hex ≡ 32 → list_all is_hex_digit hex ≡ true → i < 16 → byte_of_digits hex i ≤ 255
byte-small hex i long all less =
    let passes = AllPass-from_list_all is_hex_digit hex all in
    let high = digit-small (get_or hex (2 * i) 0) (passes (2 * i) 0 (omega arith)) in
    let low = digit-small (get_or hex (2 * i + 1) 0) (passes (2 * i + 1) 0 (omega arith)) in
    omega arith

worth : (b : ℕ → ℕ) → ((i : ℕ) → i < 16 → b i ≤ 255)
    → b 0 * 256 ^ 15 + b 1 * 256 ^ 14 + b 2 * 256 ^ 13 + b 3 * 256 ^ 12 + b 4 * 256 ^ 11 + b 5 * 256 ^ 10 + b 6 * 256 ^ 9 + b 7 * 256 ^ 8
    + b 8 * 256 ^ 7 + b 9 * 256 ^ 6 + b 10 * 256 ^ 5 + b 11 * 256 ^ 4 + b 12 * 256 ^ 3 + b 13 * 256 ^ 2 + b 14 * 256 ^ 1 + b 15 < 2 ^ 128
worth b small =
    omega (
      arith,
      small 0 (omega arith),
      small 1 (omega arith),
      small 2 (omega arith),
      small 3 (omega arith),
      small 4 (omega arith),
      small 5 (omega arith),
      small 6 (omega arith),
      small 7 (omega arith),
      small 8 (omega arith),
      small 9 (omega arith),
      small 10 (omega arith),
      small 11 (omega arith),
      small 12 (omega arith),
      small 13 (omega arith),
      small 14 (omega arith),
      small 15 (omega arith),
    )

bytes-fit : (hex : List ℕ) → length hex ≡ 32 → list_all is_hex_digit hex ≡ true → from_be_bytes w128 (by_index 16 (byte_of_digits hex)) < 2 ^ 128
unfolding by_index
bytes-fit hex long all = worth (byte_of_digits hex) (λ i less. byte-small hex i long all less)

simple-passed : (a b : Bool) (bytes found : List ℕ) → (if a && b then Some bytes else None) ≡ Some found → (a ≡ true) × (b ≡ true) × (bytes ≡ found)
simple-passed true true bytes found e = (refl, refl, same_Some bytes found e)
simple-passed true false bytes found e = absurd (cc)
simple-passed false b bytes found e = absurd (cc)

simple-fits : (hex bytes : List ℕ) → parsed_simple hex ≡ Some bytes → from_be_bytes w128 bytes < 2 ^ 128
simple-fits hex bytes e =
    let passed = simple-passed (length hex == 32) (list_all is_hex_digit hex) (by_index 16 (byte_of_digits hex)) bytes e in
    subst (λ bs. from_be_bytes w128 bs < 2 ^ 128) passed.2 (bytes-fit hex (eqb-true (length hex) 32 passed.0) passed.1)

hyphens-passed : (b : Bool) (r : Option (List ℕ)) (bytes : List ℕ) → (if b then r else None) ≡ Some bytes → r ≡ Some bytes
hyphens-passed true r bytes e = e
hyphens-passed false r bytes e = absurd (cc)

uuid-passed : (r : Option (List ℕ)) (u : ℕ) → ((bytes : List ℕ) → r ≡ Some bytes → from_be_bytes w128 bytes < 2 ^ 128) → uuid_or_fails r ≡ Ok u → u < 2 ^ 128
uuid-passed None u fits e = cc
uuid-passed (Some bytes) u fits e = subst (λ n. n < 2 ^ 128) (same_Ok (from_be_bytes w128 bytes) u e) (fits bytes refl)

pub uuid-ok : (d : Data) (u : ℕ) → uuid_in d ≡ Ok u → u < 2 ^ 128
unfolding uuid_in
uuid-ok d u e =
    let text = bind-ok (text_in d) _ u e in
    uuid-passed (parsed_hyphenated text.0) u (λ bytes there. simple-fits (digits_of text.0) bytes (hyphens-passed ((length text.0 == 36) && has_hyphens text.0) (parsed_simple (digits_of text.0)) bytes there)) text.2
