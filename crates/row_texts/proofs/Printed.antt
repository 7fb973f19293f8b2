-- What is printed of coordinates and sets is ASCII.
use Rattle.row_texts.proofs.Prelude.{All-head, All-tail, Coord, Interval, IsAscii, IsAscii-append, IsAscii-cons, IsAscii-decimal}
use Rattle.row_texts.proofs.Prelude.{IsAscii-drop, IsAscii-nil, IsInterval, IsSet, IsUtf8, IsUtf8-from_ascii, and_parts as both, coord_text}
use Rattle.row_texts.proofs.Prelude.{head_text, hyphenated_ascii, leb-true, list_all, lower, printed as set_text, range_text}
use Rattle.row_texts.proofs.Prelude.{six_digits, texts, to_be_bytes, uuid_text, w128}
use Rattle.std.proofs.Common.{◌≡◌, ℕ, ◌^◌, ◌<◌, Bool, true, false, cond, leb, eqb, List, [], ◌∷◌, ◌++◌, All, length, Option, Some, None, inl, arith, refl, codes, decimal}

-- ---- coordinates

small_bytes : (bs : List ℕ) → list_all (λ b. leb b 127) bs ≡ true → IsAscii bs
small_bytes [] all = IsAscii-nil
small_bytes (b ∷ bs) all =
    let parts = both (leb b 127) (list_all (λ b. leb b 127) bs) all in
    IsAscii-cons b bs (omega (arith, leb-true b 127 parts.0)) (small_bytes bs parts.1)

pub coord_is_utf8 : (c : Coord) → c.file < 2 ^ 32 → c.pos < 2 ^ 64 → IsUtf8 (coord_text c)
coord_is_utf8 c file pos =
    let number : IsAscii (decimal c.file) = IsAscii-decimal c.file (omega (arith, file)) in
    let six : IsAscii (six_digits c.file) = IsAscii-append _ (decimal c.file) (IsAscii-drop (codes "000000") (length (decimal c.file)) (small_bytes (codes "000000") refl)) number in
    let file_text : IsAscii (codes "mysql-bin." ++ six_digits c.file) = IsAscii-append (codes "mysql-bin.") (six_digits c.file) (small_bytes (codes "mysql-bin.") refl) six in
    let parted : IsAscii ((codes "mysql-bin." ++ six_digits c.file) ++ codes ":") = IsAscii-append (codes "mysql-bin." ++ six_digits c.file) (codes ":") file_text (small_bytes (codes ":") refl) in
    IsUtf8-from_ascii (coord_text c) (IsAscii-append ((codes "mysql-bin." ++ six_digits c.file) ++ codes ":") (decimal c.pos) parted (IsAscii-decimal c.pos pos))

-- ---- sets

uuid_ascii : (uuid : ℕ) → IsAscii (uuid_text uuid)
uuid_ascii uuid = hyphenated_ascii lower (to_be_bytes w128 uuid) (inl refl)

range_ascii : (s : Interval) (b : Bool) → s.first < 2 ^ 64 → s.last < 2 ^ 64 → IsAscii (cond b (decimal s.first) (decimal s.first ++ 45 ∷ decimal s.last))
range_ascii s true first last = IsAscii-decimal s.first first
range_ascii s false first last = IsAscii-append (decimal s.first) _ (IsAscii-decimal s.first first) (IsAscii-cons 45 _ (omega arith) (IsAscii-decimal s.last last))

again_ascii : (uuid : ℕ) (b : Bool) → IsAscii (cond b [] (44 ∷ uuid_text uuid))
again_ascii uuid true = IsAscii-nil
again_ascii uuid false = IsAscii-cons 44 _ (omega arith) (uuid_ascii uuid)

head_ascii : (before : Option ℕ) (uuid : ℕ) → IsAscii (head_text before uuid)
head_ascii None uuid = uuid_ascii uuid
head_ascii (Some before) uuid = again_ascii uuid (eqb uuid before)

texts_ascii : (before : Option ℕ) (xs : List Interval) → All IsInterval xs → IsAscii (texts before xs)
unfolding texts
texts_ascii before [] all = IsAscii-nil
texts_ascii before (s ∷ xs) all =
    let one : IsInterval s = All-head IsInterval s xs all in
    let last : s.last < 2 ^ 64 = omega (arith, one.in_range) in
    let first : s.first < 2 ^ 64 = omega (arith, one.rises, last) in
    let range : IsAscii (range_text s) = range_ascii s (eqb s.first s.last) first last in
    let rest = texts_ascii (Some s.uuid) xs (All-tail IsInterval s xs all) in
    IsAscii-append _ _ (IsAscii-append (head_text before s.uuid) _ (head_ascii before s.uuid) (IsAscii-cons 58 _ (omega arith) range)) rest

pub set_is_utf8 : (xs : List Interval) → IsSet xs → IsUtf8 (set_text xs)
set_is_utf8 xs set = IsUtf8-from_ascii (set_text xs) (texts_ascii None xs set.each)
