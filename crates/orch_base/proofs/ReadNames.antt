-- What reads is a name.
use Rattle.std.proofs.Common.{◌≡◌, ℕ, zero, suc, ◌+◌, ◌^◌, ◌<◌, ◌≤◌, Bool, true, false, cond, not, eqb, ltb, leb, List, [], ◌∷◌, length, get_or, Option, Some, None, Ok, Err, refl, ap, subst, arith, ◌&&◌, position, decimal}
use Rattle.std.specs.List.{list_all, position_or_len}
use Rattle.std.specs.Str.{all_ascii_digits}
use Rattle.std.specs.Str.Parse.{digits_value}
use Rattle.std.proofs.lemmas.Bool.{ltb-true, ltb-false, le-ltb, leb-true, eqb-false}
use Rattle.std.proofs.lemmas.Fmt.{decimal_digit, decimal-digits_value}
use Rattle.orch_base.specs.declared.name.NameFault.TheVariants.{Empty, TooLong}
use Rattle.orch_base.specs.Names.{is_host_byte, without_bad, host_at, port_or_fault, port_at, IsName}
use Rattle.orch_base.proofs.NameLemmas.{own, not_empty}

good_first : (c more : Bool) (n m : ℕ) → (ltb n m ≡ false → more ≡ true) → ltb (cond (not (not c)) (1 + n) 0) (suc m) ≡ false → (c && more) ≡ true
good_first true more n m rest h = rest (le-ltb _ _ (omega (arith, ltb-false _ _ h)))
good_first false more n m rest h = absurd (omega (arith, ltb-false _ _ h))

none_bad : (host : List ℕ) → ltb (position_or_len (λ b. not (is_host_byte b)) host) (length host) ≡ false → list_all is_host_byte host ≡ true
none_bad [] h = refl
none_bad (b ∷ host) h = good_first (is_host_byte b) _ _ _ (none_bad host) h

not_found : (c : Bool) (n : ℕ) → cond c (Some n) None ≡ None → c ≡ false
not_found true n h = absurd (cc)
not_found false n h = refl

-- the host and its three tests, if they all pass
tests_passed : (empty long : Bool) (place : Option ℕ) (host h : List ℕ) → cond empty (Err Empty) (cond long (Err TooLong) (without_bad host place)) ≡ Ok h → (empty ≡ false) × (long ≡ false) × (place ≡ None) × (host ≡ h)
tests_passed false false None host h e = (refl, refl, refl, cc)
tests_passed _ _ _ host h e = absurd (cc)

pub record IsHost (host : List ℕ) : Type 0 where
  pub some : 0 < length host
  pub short : length host ≤ 255
  pub bytes : list_all is_host_byte host ≡ true

host_is : (text : List ℕ) → (eqb (length text) 0 ≡ false) × (ltb 255 (length text) ≡ false) × (position (λ b. not (is_host_byte b)) text ≡ None) → IsHost text
host_is text p = record {
  some = omega (arith, eqb-false _ _ p.0);
  short = omega (arith, ltb-false _ _ p.1);
  bytes = none_bad text (not_found _ _ p.2);
}

read_host : (text h : List ℕ) → host_at text ≡ Ok h → IsHost h
read_host text h e =
    let p = tests_passed (eqb (length text) 0) (ltb 255 (length text)) (position (λ b. not (is_host_byte b)) text) text h e in
    subst IsHost p.3 (host_is text (p.0, p.1, p.2))

-- digits that begin above zero write no zero, because a zero is written `0`
not_zero : (digits : List ℕ) (n : ℕ) → decimal n ≡ digits → 49 ≤ get_or digits 0 0 → 0 < n
not_zero digits zero e first =
    let is_digit_zero : get_or digits 0 0 ≡ 48 = subst (λ (ds : List ℕ). get_or ds 0 0 ≡ 48) e (ap (λ (ds : List ℕ). get_or ds 0 0) (decimal_digit 0 (omega arith))) in
    absurd (omega arith)
not_zero digits (suc n) e first = omega arith

above_zero : (digits : List ℕ) → 49 ≤ get_or digits 0 0 → all_ascii_digits digits ≡ true → digits_value 10 digits < 2 ^ 16 → 0 < digits_value 10 digits
above_zero digits first all small =
    let no_zero : get_or digits 0 0 ≡ 48 → length digits ≡ 1 = λ e. absurd (omega arith) in
    not_zero digits _ (decimal-digits_value own digits all (not_empty digits first) no_zero (omega arith)) first

-- the value and its tests, if they all pass
value_passed : (first all small : Bool) (n port : ℕ) → port_or_fault (cond (first && all && small) (Some n) None) ≡ Ok port → (first ≡ true) × (all ≡ true) × (small ≡ true) × (n ≡ port)
value_passed true true true n port e = (refl, refl, refl, cc)
value_passed _ _ _ n port e = absurd (cc)

read_port : (text : Option (List ℕ)) (port : ℕ) → port_at text ≡ Ok port → (0 < port) × (port < 2 ^ 16)
read_port None port e =
    let is : 3306 ≡ port = cc in
    (omega arith, omega arith)
read_port (Some digits) port e =
    let p = value_passed (leb 49 (get_or digits 0 0)) (all_ascii_digits digits) (ltb (digits_value 10 digits) (2 ^ 16)) (digits_value 10 digits) port e in
    let small : digits_value 10 digits < 2 ^ 16 = ltb-true _ _ p.2 in
    let low = above_zero digits (leb-true _ _ p.0) p.1 small in
    (omega (arith, p.3), omega (arith, p.3))

pub read_is_name : (text : List ℕ) (port_text : Option (List ℕ)) (host : List ℕ) (port : ℕ) → host_at text ≡ Ok host → port_at port_text ≡ Ok port → IsName (record { host = host; port = port })
read_is_name text port_text host port h p =
    let good = read_host text host h in
    let range = read_port port_text port p in
    record { some = good.some; short = good.short; bytes = good.bytes; above_zero = range.0; fits = range.1 }
