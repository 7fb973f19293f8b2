-- A text reads as a coordinate exactly if it is what is printed of it.
use Rattle.std.proofs.Common.{◌≡◌, ℕ, ◌^◌, ◌<◌, ◌≤◌, Bool, true, false, cond, List, [], ◌∷◌, ◌++◌, take, drop, Option, Some, None, Ok, Err, refl, sym, ap, ◌∙◌, arith, codes, decimal, nat_eq, option_and_then}
use Rattle.binlog_coords.proofs.Prelude.{Coord, HasText, NoColon, after_last, append_assoc, before_last, coord_at, coord_of, coord_text}
use Rattle.binlog_coords.proofs.Prelude.{digits_decimal, digits_value, digits_value-decimal, file_at, is_colon, is_extension, is_plain, list_any}
use Rattle.binlog_coords.proofs.Prelude.{not_in_digits, number_at, pos_at, same_text, six_digits, starts_with, take-append-drop, value_within}
use Rattle.binlog_coords.proofs.Colons.{NoColons, before_last-colon, after_last-colon, list_any-colon, rejoined}
use Rattle.binlog_coords.proofs.Numbers.{own, decimal-is_plain, is_plain-decimal, six_digits-is_extension, digits_value-six_digits, is_extension-six_digits, value_within_is, value_within_some}

abbrev file_name : ℕ → List ℕ
file_name n = codes "mysql-bin." ++ six_digits n

file_at-file_name : (n : ℕ) → 1 ≤ n → n < 2 ^ 32 → file_at (file_name n) ≡ Some n
file_at-file_name n low high =
    let good : is_extension (six_digits n) ≡ true = is_extension-six_digits n (omega arith) (omega arith) in
    let value : digits_value 10 (six_digits n) ≡ n = digits_value-six_digits n (omega arith) in
    let within : value_within 1 (2 ^ 32) (six_digits n) ≡ Some (digits_value 10 (six_digits n)) = value_within_is 1 (2 ^ 32) (six_digits n) (omega arith) (omega arith) in
    ap (λ (b : Bool). cond b (value_within 1 (2 ^ 32) (six_digits n)) None) good ∙ within ∙ ap (λ (k : ℕ). Some k) value

pos_at-decimal : (n : ℕ) → 4 ≤ n → n < 2 ^ 64 → pos_at (decimal n) ≡ Some n
pos_at-decimal n low high =
    let good : is_plain (decimal n) ≡ true = is_plain-decimal n (omega arith) high in
    let value : digits_value 10 (decimal n) ≡ n = digits_value-decimal own n high in
    let within : value_within 4 (2 ^ 64) (decimal n) ≡ Some (digits_value 10 (decimal n)) = value_within_is 4 (2 ^ 64) (decimal n) (omega arith) (omega arith) in
    ap (λ (b : Bool). cond b (value_within 4 (2 ^ 64) (decimal n)) None) good ∙ within ∙ ap (λ (k : ℕ). Some k) value

no_colons-decimal : (n : ℕ) → n < 2 ^ 64 → NoColons (decimal n)
no_colons-decimal n high = not_in_digits own (decimal n) 58 (digits_decimal own n high) (λ r. absurd (omega (arith, r)))

pub printed_reads_lem : (c : Coord) → HasText c → coord_at (coord_text c) ≡ Ok c
unfolding coord_at
printed_reads_lem c h =
    let none = no_colons-decimal c.pos h.pos_high in
    let text : coord_text c ≡ file_name c.file ++ 58 ∷ decimal c.pos = append_assoc (file_name c.file) (58 ∷ []) (decimal c.pos) in
    let front : before_last is_colon (coord_text c) ≡ file_name c.file = ap (before_last is_colon) text ∙ before_last-colon (file_name c.file) (decimal c.pos) none in
    let back : after_last is_colon (coord_text c) ≡ decimal c.pos = ap (after_last is_colon) text ∙ after_last-colon (file_name c.file) (decimal c.pos) none in
    let some : list_any is_colon (coord_text c) ≡ true = ap (list_any is_colon) text ∙ list_any-colon (file_name c.file) (decimal c.pos) in
    let file : file_at (before_last is_colon (coord_text c)) ≡ Some c.file = ap file_at front ∙ file_at-file_name c.file h.file_low h.file_high in
    let pos : pos_at (after_last is_colon (coord_text c)) ≡ Some c.pos = ap pos_at back ∙ pos_at-decimal c.pos h.pos_low h.pos_high in
    ap (λ (b : Bool). cond b (coord_of (file_at (before_last is_colon (coord_text c))) (pos_at (after_last is_colon (coord_text c)))) (Err NoColon)) some ∙ (λ i. coord_of (file i) (pos i))

passed : (b : Bool) (o : Option ℕ) (n : ℕ) → cond b o None ≡ Some n → (b ≡ true) × (o ≡ Some n)
passed true o n e = (refl, e)
passed false o n e = absurd (cc)

starts : (b : Bool) (digits : List ℕ) (n : ℕ) → option_and_then number_at (cond b (Some digits) None) ≡ Some n → (b ≡ true) × (number_at digits ≡ Some n)
starts true digits n e = (refl, e)
starts false digits n e = absurd (cc)

-- a name that reads as a file is that file's
file_at_some : (name : List ℕ) (n : ℕ) → file_at name ≡ Some n → (name ≡ file_name n) × (1 ≤ n) × (n < 2 ^ 32)
file_at_some name n e =
    let s = starts (starts_with nat_eq name (codes "mysql-bin.")) (drop 10 name) n e in
    let p = passed (is_extension (drop 10 name)) (value_within 1 (2 ^ 32) (drop 10 name)) n s.1 in
    let q = value_within_some 1 (2 ^ 32) (drop 10 name) n p.1 in
    let start : codes "mysql-bin." ≡ take 10 name = same_text (codes "mysql-bin.") (take 10 name) (sym s.0) in
    let digits : six_digits n ≡ drop 10 name = ap six_digits (sym q.2) ∙ six_digits-is_extension (drop 10 name) p.0 (omega (arith, q.0, q.2)) (omega (arith, q.1, q.2)) in
    (sym (take-append-drop 10 name) ∙ (λ i. sym start i ++ sym digits i), q.0, q.1)

pos_at_some : (digits : List ℕ) (n : ℕ) → pos_at digits ≡ Some n → (digits ≡ decimal n) × (4 ≤ n) × (n < 2 ^ 64)
pos_at_some digits n e =
    let p = passed (is_plain digits) (value_within 4 (2 ^ 64) digits) n e in
    let q = value_within_some 4 (2 ^ 64) digits n p.1 in
    (sym (decimal-is_plain digits p.0 (omega (arith, q.1, q.2))) ∙ ap decimal q.2, q.0, q.1)

-- both numbers, if both were read
numbers_read : (some : Bool) (file pos : Option ℕ) (c : Coord) → cond some (coord_of file pos) (Err NoColon) ≡ Ok c → (some ≡ true) × (file ≡ Some c.file) × (pos ≡ Some c.pos)
numbers_read true (Some file) (Some pos) c e =
    let same : record { file = file; pos = pos } ≡ c = cc in
    (refl, ap (λ (d : Coord). Some d.file) same, ap (λ (d : Coord). Some d.pos) same)
numbers_read _ _ _ c e = absurd (cc)

pub only_printed_reads : (text : List ℕ) (c : Coord) → coord_at text ≡ Ok c → (text ≡ coord_text c) × HasText c
unfolding coord_at
only_printed_reads text c e =
    let p = numbers_read (list_any is_colon text) (file_at (before_last is_colon text)) (pos_at (after_last is_colon text)) c e in
    let file = file_at_some (before_last is_colon text) c.file p.1 in
    let pos = pos_at_some (after_last is_colon text) c.pos p.2 in
    let joined : text ≡ file_name c.file ++ 58 ∷ decimal c.pos = rejoined text p.0 ∙ (λ i. file.0 i ++ 58 ∷ pos.0 i) in
    (joined ∙ sym (append_assoc (file_name c.file) (58 ∷ []) (decimal c.pos)), record { file_low = file.1; file_high = file.2; pos_low = pos.1; pos_high = pos.2 })
