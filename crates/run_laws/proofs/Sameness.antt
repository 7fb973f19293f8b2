-- The audit that is loaded of rows which follow one is that one, if its recoveries count.
use Rattle.std.proofs.Common.{◌≡◌, ◌∙◌, ℕ, ◌-◌, ◌<◌, ◌≤◌, ◌^◌, Bool, true, false, cond, List, [], ◌∷◌, refl, sym, ap, subst, inl, inr, Option, Some, None, arith, All, AllPairs, IfSome, ◌==◌, ◌⊎◌, find, option_map, if◌then◌else◌}
use Rattle.run_laws.proofs.Prelude.{All-weaker, AuditState, FollowAudit, IsAudit, IsAudited, IsRising, Recovery, Row, as_row, audit_of, cases_lt}
use Rattle.run_laws.proofs.Prelude.{counted, counts, eq-eqb, eqb-true, loaded-at, loaded_by, longest_block, ne_eqb, none-at, pairs_head, pairs_tail}
use Rattle.run_laws.proofs.Prelude.{recoveries_in, row-of, row_at}
use Rattle.run_laws.proofs.Prelude.Finding.{All-found}
use Rattle.run_laws.proofs.Prelude.Following.{passing}
use Rattle.run_laws.proofs.Prelude.kept_row as row
use Rattle.run_laws.proofs.Prelude.key
use Rattle.run_laws.proofs.Prelude.table
use Rattle.run_laws.proofs.Loads.{audit-of}

-- ---- lists of rising ids with the same recovery at each

abbrev Rise : List Recovery → Type 0
Rise xs = AllPairs (λ (x y : Recovery). x.id < y.id) xs

abbrev found : List Recovery → ℕ → Option Recovery
found xs id = find (λ (r : Recovery). r.id == id) xs

-- of the first one's id the first is found
first-found : (x : Recovery) (xs : List Recovery) → found (x ∷ xs) x.id ≡ Some x
first-found x xs = ap (λ (b : Bool). cond b (Some x) (found xs x.id)) (eq-eqb x.id x.id refl)

none-under : (id : ℕ) (xs : List Recovery) → All (λ r. id < r.id) xs → found xs id ≡ None
none-under id xs above = none-at id xs (All-weaker (λ (r : Recovery). id < r.id) (λ r. (r.id == id) ≡ false) (λ r more. ne_eqb r.id id (λ e. absurd (omega (arith, more, e)))) xs above)

-- nothing of an id below the first one's
none-before : (id : ℕ) (x : Recovery) (xs : List Recovery) → id < x.id → Rise (x ∷ xs) → found (x ∷ xs) id ≡ None
none-before id x xs less rise =
    ap (λ (b : Bool). cond b (Some x) (found xs id)) (ne_eqb x.id id (λ e. absurd (omega (arith, less, e))))
    ∙ none-under id xs (All-weaker (λ (r : Recovery). x.id < r.id) (λ r. id < r.id) (λ r more. omega (arith, less, more)) xs (pairs_head (λ (a b : Recovery). a.id < b.id) x xs rise))

never : {A : Type 0} (x : Recovery) (o : Option Recovery) → o ≡ Some x → o ≡ None → A
never x o some none = let no : Some x ≡ None = sym some ∙ none in cc

same-first : (x y : Recovery) (xs ys : List Recovery) → Rise (x ∷ xs) → Rise (y ∷ ys) → ((id : ℕ) → found (x ∷ xs) id ≡ found (y ∷ ys) id) → x.id ≡ y.id
same-first x y xs ys rise rise' same = go (cases_lt x.id y.id) (cases_lt y.id x.id)
  where
    go : (x.id < y.id) ⊎ (y.id ≤ x.id) → (y.id < x.id) ⊎ (x.id ≤ y.id) → x.id ≡ y.id
    go (inl less) h = never x (found (y ∷ ys) x.id) (sym (same x.id) ∙ first-found x xs) (none-before x.id y ys less rise')
    go (inr more) (inl less) = never y (found (x ∷ xs) y.id) (same y.id ∙ first-found y ys) (none-before y.id x xs less rise)
    go (inr more) (inr most) = omega (arith, more, most)

same-lists : (xs ys : List Recovery) → Rise xs → Rise ys → ((id : ℕ) → found xs id ≡ found ys id) → xs ≡ ys
same-lists [] [] rise rise' same = refl
same-lists [] (y ∷ ys) rise rise' same = never y (found (y ∷ ys) y.id) (first-found y ys) (sym (same y.id))
same-lists (x ∷ xs) [] rise rise' same = never x (found (x ∷ xs) x.id) (first-found x xs) (same x.id)
same-lists (x ∷ xs) (y ∷ ys) rise rise' same =
    let rest =
    same-lists xs ys (pairs_tail (λ (a b : Recovery). a.id < b.id) x xs rise) (pairs_tail (λ (a b : Recovery). a.id < b.id) y ys rise')
    (λ id. at id (x.id == id) refl) in
    λ i. first i ∷ rest i
  where
    ids : x.id ≡ y.id
    ids = same-first x y xs ys rise rise' same

    first : x ≡ y
    first =
        let one : Some x ≡ Some y = sym (first-found x xs) ∙ same x.id ∙ ap (found (y ∷ ys)) ids ∙ first-found y ys in
        cc

    above : All (λ r. x.id < r.id) xs
    above = pairs_head (λ (a b : Recovery). a.id < b.id) x xs rise

    above' : All (λ r. y.id < r.id) ys
    above' = pairs_head (λ (a b : Recovery). a.id < b.id) y ys rise'

    at : (id : ℕ) (b : Bool) → (x.id == id) ≡ b → found xs id ≡ found ys id
    at id true here =
        let it = eqb-true x.id id here in
        subst (λ (n : ℕ). found xs n ≡ found ys n) it
        (none-under x.id xs above ∙ sym (none-under x.id ys (subst (λ (n : ℕ). All (λ (r : Recovery). n < r.id) ys) (sym ids) above')))
    at id false here =
        sym (ap (λ (b : Bool). cond b (Some x) (found xs id)) here) ∙ same id
        ∙ ap (λ (b : Bool). cond b (Some y) (found ys id)) (ap (λ (n : ℕ). n == id) (sym ids) ∙ here)

-- ---- an audit that rows follow, and the one that is loaded of them

module _ (count next : ℕ) (period : List ℕ → ℕ) (short : (cluster : List ℕ) → period cluster ≤ longest_block) where
  abbrev Counted : Recovery → Type 0
  Counted r = counts count (next - 1) (row.Recovery (as_row r)) ≡ true

  -- what is loaded under an id, by the row that is kept there
  abbrev loaded_of : Option Row → Option Recovery
  loaded_of kept = option_map (loaded_by period) (row-of (passing (counts count (next - 1)) kept))

  -- of a kept row that counts the recovery of the audit
  agree : (o : Option Recovery) (kept : Option Row) → IsAudited count next kept o → IfSome o Counted → loaded_of kept ≡ o
  agree (Some r) kept is on =
      ap loaded_of is ∙ ap (λ (b : Bool). option_map (loaded_by period) (row-of (if b then Some (row.Recovery (as_row r)) else None))) on
  agree None None is on = refl
  agree None (Some x) off on = ap (λ (b : Bool). option_map (loaded_by period) (row-of (if b then Some x else None))) off

  all-counted : (xs : List Recovery) → All Counted xs → (id : ℕ) → IfSome (found xs id) Counted
  all-counted xs all id = go (found xs id) refl
    where
      go : (o : Option Recovery) → found xs id ≡ o → IfSome o Counted
      go None e = tt
      go (Some r) e = All-found (λ (x : Recovery). x.id == id) Counted xs r all e

  -- no id is past the last one
  past : (a : AuditState) → IsAudit a → (id : ℕ) → a.next ≤ id → found a.recoveries id ≡ None
  past a is id more =
      none-at id a.recoveries (All-weaker (λ (r : Recovery). r.id < a.next) (λ r. (r.id == id) ≡ false) (λ r less. ne_eqb r.id id (λ e. absurd (omega (arith, less, e, more)))) a.recoveries is.below)

  pub same-loaded : (rows : List Row) (xs : List Recovery) → count ≤ 2 ^ 32 → IsRising rows → FollowAudit count rows (record { recoveries = xs; next = next }) → All Counted xs
      → recoveries_in period (counted count (next - 1) rows) ≡ xs
  same-loaded rows xs few rising follow all = same-lists (recoveries_in period (counted count (next - 1) rows)) xs is.rising follow.audit.rising (λ id. at id (cases_lt id (2 ^ 64)))
    where
      first : 1 ≤ next
      first = follow.audit.first

      before : next - 1 < next
      before = omega (arith, first)

      is : IsAudit (audit_of period next (counted count (next - 1) rows))
      is = audit-of count (next - 1) period short next rows first before

      at : (id : ℕ) → (id < 2 ^ 64) ⊎ (2 ^ 64 ≤ id) → found (recoveries_in period (counted count (next - 1) rows)) id ≡ found xs id
      at id (inl small) =
          loaded-at period short count next (next - 1) rows few first follow.small before rising id small
          ∙ agree (found xs id) (row_at rows table.Recovery (key.Id id)) (follow.each id small) (all-counted xs all id)
      at id (inr more) =
          let most = follow.small in
          past (audit_of period next (counted count (next - 1) rows)) is id (omega (arith, more, most)) ∙ sym (past (record { recoveries = xs; next = next }) follow.audit id (omega (arith, more, most)))
