-- What is written has no float and nests twice.
use Rattle.std.proofs.Common.{◌≡◌, ◌≤◌, ℕ, List, Option, Some, None, false, refl, sym, ap, ◌∙◌, subst, arith}
use Rattle.row_texts.proofs.Prelude.{Coord, Data, HostPort, IsUtf8, Moment, Row, compact_text, depth, has_float, is_utf8-from_IsUtf8, max_depth, read}
use Rattle.row_texts.proofs.Prelude.{row_data, row_text, value_of}
use Rattle.row_texts.proofs.Prelude.row

pub no_float : (names : List HostPort) (r : Row) → has_float (row_data names r) ≡ false
no_float names (row.Instance i) = by_end i.seen.own_end refl
  where
    by_end : (o : Option Coord) → i.seen.own_end ≡ o → has_float (row_data names (row.Instance i)) ≡ false
    by_end None e = rw e refl
    by_end (Some c) e = rw e refl
no_float names (row.Downtime d) = refl
no_float names (row.Candidate c) = refl
no_float names (row.Recovery r) = by_end r.ended r.block refl refl
  where
    by_end : (o : Option Moment) (b : Option ℕ) → r.ended ≡ o → r.block ≡ b → has_float (row_data names (row.Recovery r)) ≡ false
    by_end None None e f = rw (e, f) refl
    by_end None (Some b) e f = rw (e, f) refl
    by_end (Some t) None e f = rw (e, f) refl
    by_end (Some t) (Some b) e f = rw (e, f) refl
no_float names (row.Switch enabled) = refl
no_float names (row.Active node until) = refl

pub shallow : (names : List HostPort) (r : Row) → depth (row_data names r) ≤ max_depth
shallow names (row.Instance i) = by_end i.seen.own_end refl
  where
    by_end : (o : Option Coord) → i.seen.own_end ≡ o → depth (row_data names (row.Instance i)) ≤ max_depth
    by_end None e = rw e (omega arith)
    by_end (Some c) e = rw e (omega arith)
shallow names (row.Downtime d) = omega arith
shallow names (row.Candidate c) = omega arith
shallow names (row.Recovery r) = by_end r.ended r.block refl refl
  where
    by_end : (o : Option Moment) (b : Option ℕ) → r.ended ≡ o → r.block ≡ b → depth (row_data names (row.Recovery r)) ≤ max_depth
    by_end None None e f = rw (e, f) (omega arith)
    by_end None (Some b) e f = rw (e, f) (omega arith)
    by_end (Some t) None e f = rw (e, f) (omega arith)
    by_end (Some t) (Some b) e f = rw (e, f) (omega arith)
shallow names (row.Switch enabled) = omega arith
shallow names (row.Active node until) = omega arith

value_of_text : (text : List ℕ) (d : Data) → IsUtf8 text → read text ≡ Some d → value_of text ≡ Some d
value_of_text text d is e = rw (is_utf8-from_IsUtf8 text is) e

pub written_value : (names : List HostPort) (r : Row) (d : Data) (s : List ℕ) → d ≡ row_data names r → IsUtf8 s → (has_float d ≡ false → s ≡ compact_text d) → (depth d ≤ max_depth → read s ≡ Some d)
    → value_of (row_text names r) ≡ Some (row_data names r)
unfolding row_text
written_value names r d s same utf8 text reads =
    let flat : has_float d ≡ false = subst (λ (x : Data). has_float x ≡ false) (sym same) (no_float names r) in
    let deep : depth d ≤ max_depth = subst (λ (x : Data). depth x ≤ max_depth) (sym same) (shallow names r) in
    let is : s ≡ compact_text (row_data names r) = text flat ∙ ap compact_text same in
    subst (λ (x : List ℕ). value_of x ≡ Some (row_data names r)) is (value_of_text s (row_data names r) utf8 (reads deep ∙ ap Some same))
