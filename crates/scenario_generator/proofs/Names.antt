-- Names read as names.
use Rattle.orch_base.proofs.RoundTrip.{host_fits}
use Rattle.scenario_generator.proofs.Prelude.{and_parts as both, common_steps, digit_glyph, digits, digits_onto, drop-nil, eqb-true, false≢true}
use Rattle.scenario_generator.proofs.Prelude.{host_of, is_colon, is_host_byte, le-ltb, length-append, length-decimal-le, length-drop}
use Rattle.scenario_generator.proofs.Prelude.{list_all, name_at, padded, port_of, position_or_len, server_name, take_all}
use Rattle.std.proofs.Common.{◌≡◌, ◌<◌, ◌≤◌, ◌==◌, ℕ, zero, suc, ◌+◌, ◌/◌, ◌%◌, ◌^◌, Bool, true, false, cond, eqb, ltb, ◌∷◌, List, [], ◌++◌, length, drop, None, Ok, refl, subst, arith, decimal, ◌&&◌, codes}

-- ---- bytes of a host, each

alone : (a : Bool) → a ≡ true → (a && true) ≡ true
alone a e = rw e refl

hosts-append : (a b : List ℕ) → list_all is_host_byte a ≡ true → list_all is_host_byte b ≡ true → list_all is_host_byte (a ++ b) ≡ true
hosts-append [] b first second = second
hosts-append (x ∷ xs) b first second = let p = both (is_host_byte x) (list_all is_host_byte xs) first in rw p.0 (hosts-append xs b p.1 second)

digit_is_host : (d : ℕ) → d < 10 → is_host_byte (48 + d) ≡ true
digit_is_host zero h = refl
digit_is_host (suc (suc (suc (suc (suc (suc (suc (suc (suc (suc d)))))))))) h = absurd (omega arith)
digit_is_host _ h = refl

glyph_is_host : (n : ℕ) → is_host_byte (digit_glyph false (n % 10)) ≡ true
glyph_is_host n =
    let same : digit_glyph false (n % 10) ≡ 48 + n % 10 = grind (arith, common_steps) in
    rw same (digit_is_host (n % 10) (omega arith))

hosts-either : (b : Bool) (x y : List ℕ) → list_all is_host_byte x ≡ true → list_all is_host_byte y ≡ true → list_all is_host_byte (cond b x y) ≡ true
hosts-either true x y first second = first
hosts-either false x y first second = second

hosts-onto : (k n : ℕ) (acc : List ℕ) → list_all is_host_byte acc ≡ true → list_all is_host_byte (digits_onto k 10 false n acc) ≡ true
hosts-onto zero n acc all = all
hosts-onto (suc k) n acc all =
    let last : list_all is_host_byte (digit_glyph false (n % 10) ∷ acc) ≡ true = hosts-append (digit_glyph false (n % 10) ∷ []) acc (alone (is_host_byte (digit_glyph false (n % 10))) (glyph_is_host n)) all in
    hosts-either (n / 10 == 0) (digit_glyph false (n % 10) ∷ acc) (digits_onto k 10 false (n / 10) (digit_glyph false (n % 10) ∷ acc)) last (hosts-onto k (n / 10) (digit_glyph false (n % 10) ∷ acc) last)

hosts-decimal : (n : ℕ) → list_all is_host_byte (decimal n) ≡ true
unfolding digits
hosts-decimal n = hosts-onto 64 n [] refl

hosts-zeros : (k : ℕ) → list_all is_host_byte (drop k (codes "0000")) ≡ true
hosts-zeros zero = refl
hosts-zeros (suc (suc (suc (suc k)))) = rw (drop-nil k) refl
hosts-zeros _ = refl

pub hosts-server_name : (n : ℕ) → list_all is_host_byte (server_name n) ≡ true
unfolding server_name
hosts-server_name n = hosts-append (codes "s") (padded (decimal (n + 1))) refl (hosts-append (drop (length (decimal (n + 1))) (codes "0000")) (decimal (n + 1)) (hosts-zeros (length (decimal (n + 1)))) (hosts-decimal (n + 1)))

pub length-server_name : (n : ℕ) → n + 1 < 2 ^ 64 → length (server_name n) ≤ 25
unfolding server_name
length-server_name n small =
    let ds = decimal (n + 1) in
    let few : length ds ≤ 20 = length-decimal-le 20 (n + 1) (omega arith) (omega arith) small in
    let zeros : length (drop (length ds) (codes "0000")) ≤ 4 = omega (arith, length-drop (length ds) (codes "0000")) in
    omega (arith, length-append (drop (length ds) (codes "0000")) ds)

-- ---- a text without a colon is a host

not_colon_at : (b : ℕ) (c : Bool) → eqb b 58 ≡ c → is_host_byte b ≡ true → is_colon b ≡ false
not_colon_at b false is e = is
not_colon_at b true is e =
    let colon : b ≡ 58 = eqb-true b 58 is in
    let bad : false ≡ true = subst (λ (x : ℕ). is_host_byte x ≡ true) colon e in
    absurd (false≢true bad)

no_colon : (host : List ℕ) → list_all is_host_byte host ≡ true → position_or_len is_colon host ≡ length host
no_colon [] e = refl
no_colon (b ∷ host) e =
    let p = both (is_host_byte b) (list_all is_host_byte host) e in
    let here : is_colon b ≡ false = not_colon_at b (eqb b 58) refl p.0 in
    let more = no_colon host p.1 in
    rw here (omega (arith, more))

host_alone : (host : List ℕ) → list_all is_host_byte host ≡ true → host_of host ≡ host
host_alone host e = rw (no_colon host e) (take_all (length host) host (omega arith))

port_none : (host : List ℕ) → list_all is_host_byte host ≡ true → port_of host ≡ None
port_none host e =
    let none : ltb (length host) (length host) ≡ false = le-ltb _ _ (omega arith) in
    rw (no_colon host e, none) refl

read_alone : (host : List ℕ) → 0 < length host → length host ≤ 255 → list_all is_host_byte host ≡ true → name_at host ≡ Ok (record { host = host; port = 3306 })
unfolding name_at
read_alone host some short e = rw (host_alone host e, port_none host e, host_fits host some short e) refl

some_name : (n : ℕ) → 0 < length (server_name n)
unfolding server_name
some_name n = omega arith

pub name_reads : (n : ℕ) → n + 1 < 2 ^ 64 → name_at (server_name n) ≡ Ok (record { host = server_name n; port = 3306 })
name_reads n small = read_alone (server_name n) (some_name n) (omega (arith, length-server_name n small)) (hosts-server_name n)
