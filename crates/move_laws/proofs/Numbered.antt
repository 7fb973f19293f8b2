-- Rows answer the lowest refusal.
use Rattle.std.proofs.Common.{◌≡◌, ℕ, zero, suc, ◌<◌, Bool, true, false, List, [], ◌∷◌, refl, sym, ◌∙◌, ap, subst, Option, Some, None, arith, ◌==◌, nat_lt, slice_get}
use Rattle.move_laws.proofs.Prelude.{BookState, Case, Check, CoordsCommand, GtidCommand, MatchCommand, Refusal, World, and_parts, check_number}
use Rattle.move_laws.proofs.Prelude.{first_about, last_row_of, marks_row, moved_row, nat_tests, number_of, option_or, refusal_by, rises_from}
use Rattle.move_laws.proofs.Prelude.{row_of as gtid_row_of, same_Some}
use Rattle.move_laws.proofs.Prelude.Permits.{row_of as match_row_of}
use Rattle.move_laws.proofs.Prelude.coords_permits.{row_of}
use Rattle.move_laws.proofs.Prelude.command
use Rattle.move_laws.proofs.Prelude.gtids as gtid
use Rattle.move_laws.proofs.Prelude.pseudocommand as matching
use Rattle.move_laws.proofs.Firsts.{neither}
use Rattle.move_laws.proofs.Checks.{check-number}

-- ---- rows

module _ (w : World) (b : BookState) (c : Case) where
  at-first : (x k : Check) → Some x ≡ Some k → x ≡ k
  at-first x k h = same_Some x k h

  pub row-passes : (row : List Check) (k : ℕ) (one : Check) → first_about (refusal_by w b c) row ≡ None → slice_get row k ≡ Some one → refusal_by w b c one ≡ None
  row-passes [] k one h at = cc
  row-passes (x ∷ row) zero one h at = ap (refusal_by w b c) (sym (at-first x one at)) ∙ (neither (refusal_by w b c x) (first_about (refusal_by w b c) row) h).0
  row-passes (x ∷ row) (suc k) one h at = row-passes row k one (neither (refusal_by w b c x) (first_about (refusal_by w b c) row) h).1 at

  abbrev Refuses : List Check → Refusal → Type 0
  Refuses row r = (k : ℕ) × (one : Check) × (slice_get row k ≡ Some one) × (refusal_by w b c one ≡ Some r)

  pub row-refuses : (row : List Check) (r : Refusal) → first_about (refusal_by w b c) row ≡ Some r → Refuses row r
  row-refuses [] r h = cc
  row-refuses (x ∷ row) r h = go (refusal_by w b c x) refl h (row-refuses row r)
    where
      go : (o : Option Refusal) → refusal_by w b c x ≡ o → option_or o (first_about (refusal_by w b c) row) ≡ Some r
          → (first_about (refusal_by w b c) row ≡ Some r → Refuses row r) → Refuses (x ∷ row) r
      go (Some s) e h rest = (zero, x, refl, e ∙ h)
      go None e h rest = let found = rest h in (suc found.0, found.1, found.2, found.3)

  pub row-lowest : (from : ℕ) (row : List Check) (r : Refusal) (k : ℕ) (one : Check) → rises_from from row ≡ true → first_about (refusal_by w b c) row ≡ Some r
      → slice_get row k ≡ Some one → check_number one < number_of r → refusal_by w b c one ≡ None
  row-lowest from [] r k one up h at less = cc
  row-lowest from (x ∷ row) r k one up h at less =
      go k (refusal_by w b c x) refl h at (λ k. row-lowest (check_number x) row r k one (and_parts (nat_lt from (check_number x)) (rises_from (check_number x) row) up).1)
    where
      later : (n : ℕ) (rest : List Check) (k : ℕ) → rises_from n rest ≡ true → slice_get rest k ≡ Some one → n < check_number one
      later n [] k up at = cc
      later n (y ∷ rest) k up at =
          let parts = and_parts (nat_lt n (check_number y)) (rises_from (check_number y) rest) up in
          let first : n < check_number y = grind (arith, nat_tests, parts.0) in
          by_place k at first (λ k at. later (check_number y) rest k parts.1 at)
        where
          by_place : (k : ℕ) → slice_get (y ∷ rest) k ≡ Some one → n < check_number y → ((k : ℕ) → slice_get rest k ≡ Some one → check_number y < check_number one) → n < check_number one
          by_place zero at first more = subst (λ z. n < check_number z) (at-first y one at) first
          by_place (suc k) at first more = let m = more k at in omega (arith, first, m)

      go : (k : ℕ) (o : Option Refusal) → refusal_by w b c x ≡ o → option_or o (first_about (refusal_by w b c) row) ≡ Some r → slice_get (x ∷ row) k ≡ Some one
          → ((k : ℕ) → first_about (refusal_by w b c) row ≡ Some r → slice_get row k ≡ Some one → check_number one < number_of r → refusal_by w b c one ≡ None)
          → refusal_by w b c one ≡ None
      go zero None e h at rest = ap (refusal_by w b c) (sym (at-first x one at)) ∙ e
      go (suc k) None e h at rest = rest k h at less
      go zero (Some s) e h at rest =
          let same : check_number x ≡ check_number one = ap check_number (at-first x one at) in
          let number = check-number w b c x r (e ∙ h) in
          absurd (omega (arith, same, number, less))
      go (suc k) (Some s) e h at rest =
          let number = check-number w b c x r (e ∙ h) in
          let above = later (check_number x) row k (and_parts (nat_lt from (check_number x)) (rises_from (check_number x) row) up).1 at in
          absurd (omega (arith, number, above, less))

pub rows-rise : (gtids : Bool) (c : CoordsCommand) → rises_from 2 (row_of gtids c) ≡ true
rows-rise gtids command.MoveUp = refl
rows-rise true command.Repoint = refl
rows-rise _ _ = refl

pub gtid-rows-rise : (c : GtidCommand) → rises_from 2 (gtid_row_of c) ≡ true
gtid-rows-rise gtid.MoveGtid = refl
gtid-rows-rise _ = refl

pub match-rows-rise : (c : MatchCommand) → rises_from 2 (match_row_of c) ≡ true
match-rows-rise matching.Match = refl
match-rows-rise _ = refl

moved-rise : (none : Bool) → rises_from 30 (moved_row none) ≡ true
moved-rise true = refl
moved-rise false = refl

marks-rise : (none : Bool) (c : MatchCommand) → rises_from 30 (marks_row none c) ≡ true
marks-rise none matching.Match = moved-rise none
marks-rise none matching.MatchUp = moved-rise none
marks-rise none matching.MatchReplicas = moved-rise none
marks-rise true matching.RegroupReplicas = refl
marks-rise false matching.RegroupReplicas = refl

pub match-last-rows-rise : (every : ℕ) (c : MatchCommand) → rises_from 30 (last_row_of every c) ≡ true
match-last-rows-rise every c = marks-rise (every == 0) c
