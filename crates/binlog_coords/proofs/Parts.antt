-- What the parts of a text make of it.
use Rattle.std.proofs.Common.{◌≡◌, ℕ, Bool, true, false, cond, List, Option, Some, None, Result, Err, sym, ap, ◌∙◌, subst, MatchOption}
use Rattle.binlog_coords.proofs.Prelude.{Bor, Coord, CoordFault, NoColon, after_last, before_last, coord_at, coord_of, file_at, is_colon, list_any}
use Rattle.binlog_coords.proofs.Prelude.{pos_at}

-- what the function of the two halves ensures
abbrev pub AreHalves : List ℕ → Option (Bor (List ℕ) × Bor (List ℕ)) → Type 0
AreHalves text r = MatchOption r (list_any is_colon text ≡ false) (λ p. (list_any is_colon text ≡ true) × (p.0.now ≡ before_last is_colon text) × (p.1.now ≡ after_last is_colon text))

abbrev read : List ℕ → Result Coord CoordFault
read text = coord_of (file_at (before_last is_colon text)) (pos_at (after_last is_colon text))

pub coord_at-undivided : (text : List ℕ) (r : Option (Bor (List ℕ) × Bor (List ℕ))) → AreHalves text r → r ≡ None → Err NoColon ≡ coord_at text
unfolding coord_at
coord_at-undivided text r h e =
    let none : list_any is_colon text ≡ false = subst (AreHalves text) e h in
    sym (ap (λ (b : Bool). cond b (read text) (Err NoColon)) none)

pub coord_at-divided : (text : List ℕ) (r : Option (Bor (List ℕ) × Bor (List ℕ))) (name digits : Bor (List ℕ)) → AreHalves text r → r ≡ Some (name, digits) → (file pos : Option ℕ) → file_at name.now ≡ file → pos_at digits.now ≡ pos → coord_of file pos ≡ coord_at text
unfolding coord_at
coord_at-divided text r name digits h e file pos file_is pos_is =
    let k : AreHalves text (Some (name, digits)) = subst (AreHalves text) e h in
    let whole : coord_at text ≡ read text = ap (λ (b : Bool). cond b (read text) (Err NoColon)) k.0 in
    let parts : coord_of (file_at name.now) (pos_at digits.now) ≡ read text = λ i. coord_of (file_at (k.1 i)) (pos_at (k.2 i)) in
    let numbers : coord_of (file_at name.now) (pos_at digits.now) ≡ coord_of file pos = λ i. coord_of (file_is i) (pos_is i) in
    sym numbers ∙ parts ∙ sym whole
