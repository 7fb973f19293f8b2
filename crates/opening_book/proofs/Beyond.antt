-- Rows after those of instances keep all that is kept of recoveries.
use Rattle.std.proofs.Common.{◌≡◌, ◌∙◌, ℕ, zero, suc, ◌-◌, ◌<◌, ◌≤◌, true, false, not, List, [], ◌∷◌, length, get_or, drop, take, Option, None, refl, sym, ap, map, arith, ◌++◌, filter_map}
use Rattle.opening_book.proofs.Prelude.{AuditState, Moment, RecoveryRow, Row, audit_of, block_given, common_steps, cons_option, fails_before_first}
use Rattle.opening_book.proofs.Prelude.{false≢true, interrupting, is_instance, length-drop, loaded_by, loading, position, position_or_len}
use Rattle.opening_book.proofs.Prelude.{recovery_row_in, take-length}
use Rattle.opening_book.proofs.Prelude.row

behind : {X : Type 0} (f : Row → Option X) (rows : List Row) (from : ℕ) (d : Row) → from ≤ length rows → ((k : ℕ) → k < from → f (get_or rows k d) ≡ None) → filter_map f (drop from rows) ≡ filter_map f rows
behind f rows zero d within none = refl
behind f [] (suc n) d within none = absurd (omega (arith, within))
behind f (r ∷ rows) (suc n) d within none =
    behind f rows n d (omega (arith, within)) (λ k less. none (suc k) (omega (arith, less)))
    ∙ sym (ap (λ o. cons_option o (filter_map f rows)) (none zero (omega arith)))

no_recovery : (r : Row) → not (is_instance r) ≡ false → recovery_row_in r ≡ None
no_recovery (row.Recovery k) is = absurd (false≢true (sym is))
no_recovery _ is = refl

no_block : (period : List ℕ → ℕ) (r : Row) → not (is_instance r) ≡ false → block_given period r ≡ None
no_block period (row.Recovery k) is = absurd (false≢true (sym is))
no_block period _ is = refl

pub before_none : (rows : List Row) → position (λ r. not (is_instance r)) rows ≡ None → (k : ℕ) → k < length rows → not (is_instance (get_or rows k (row.Switch true))) ≡ false
before_none rows none k less =
    let all : length rows ≤ position_or_len (λ r. not (is_instance r)) rows = grind (arith, common_steps) in
    fails_before_first (λ r. not (is_instance r)) rows k (row.Switch true) (omega (arith, all, less))

pub rest_from : (rows : List Row) (from : ℕ) → take (length rows - from) (drop from rows) ≡ drop from rows
rest_from rows from = ap (λ n. take n (drop from rows)) (sym (length-drop from rows)) ∙ take-length (drop from rows)

module _ (rows : List Row) (from : ℕ) (within : from ≤ length rows) (before : (k : ℕ) → k < from → not (is_instance (get_or rows k (row.Switch true))) ≡ false) where
  pub same_audit : (period : List ℕ → ℕ) (next : ℕ) → audit_of period next (drop from rows) ≡ audit_of period next rows
  same_audit period next =
      ap (λ (kept : List RecoveryRow). record { recoveries = map (loaded_by period) kept; next = next })
      (behind recovery_row_in rows from (row.Switch true) within (λ k less. no_recovery (get_or rows k (row.Switch true)) (before k less)))

  pub same_loading : (period : List ℕ → ℕ) (a : AuditState) (at : Moment) → loading period (drop from rows) a at ≡ loading period rows a at
  same_loading period a at =
      ap (λ changes. changes ++ interrupting a at)
      (behind (block_given period) rows from (row.Switch true) within (λ k less. no_block period (get_or rows k (row.Switch true)) (before k less)))
