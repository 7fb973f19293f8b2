-- A name is printed in ASCII.
use Rattle.std.proofs.Common.{◌≡◌, ℕ, ◌^◌, ◌<◌, Bool, true, false, leb, eqb, List, [], ◌∷◌, arith, refl, ◌&&◌, ◌||◌}
use Rattle.std.proofs.lemmas.Bool.{and_parts as both, eqb-true, leb-true}
use Rattle.std.proofs.lemmas.Fmt.{IsAscii-decimal}
use Rattle.std.proofs.lemmas.Str.{IsAscii-append, IsUtf8-from_ascii}
use Rattle.std.proofs.lemmas.Str.Ascii.{IsAscii-cons, IsAscii-nil}
use Rattle.std.specs.List.{list_all}
use Rattle.std.specs.Str.{IsAscii, IsUtf8}
use Rattle.orch_base.specs.Names.{HostPort, IsName, is_host_byte, printed}

either : (p q : Bool) (P : Type 0) → (p ≡ true → P) → (q ≡ true → P) → (p || q) ≡ true → P
either true q P f g e = f refl
either false q P f g e = g e

in_range : (low high b : ℕ) → high < 128 → (leb low b && leb b high) ≡ true → b < 128
in_range low high b small e = omega (arith, small, leb-true b high (both (leb low b) (leb b high) e).1)

is_one : (byte b : ℕ) → byte < 128 → eqb b byte ≡ true → b < 128
is_one byte b small e = omega (arith, small, eqb-true b byte e)

host_byte : (b : ℕ) → is_host_byte b ≡ true → b < 128
host_byte b =
    either _ _ (b < 128)
    (either _ _ (b < 128)
    (either _ _ (b < 128)
    (either _ _ (b < 128)
    (either _ _ (b < 128) (in_range 97 122 b (omega arith)) (in_range 65 90 b (omega arith)))
    (in_range 48 57 b (omega arith)))
    (is_one 46 b (omega arith)))
    (is_one 45 b (omega arith)))
    (is_one 95 b (omega arith))

host_bytes : (bs : List ℕ) → list_all is_host_byte bs ≡ true → IsAscii bs
host_bytes [] all = IsAscii-nil
host_bytes (b ∷ bs) all =
    let parts = both (is_host_byte b) (list_all is_host_byte bs) all in
    IsAscii-cons b bs (host_byte b parts.0) (host_bytes bs parts.1)

pub printed_is_utf8 : (name : HostPort) → IsName name → IsUtf8 (printed name)
printed_is_utf8 name is_name =
    let port : name.port < 2 ^ 64 = omega (arith, is_name.fits) in
    IsUtf8-from_ascii (printed name)
    (IsAscii-append name.host _ (host_bytes name.host is_name.bytes) (IsAscii-cons 58 _ (omega arith) (IsAscii-decimal name.port port)))
