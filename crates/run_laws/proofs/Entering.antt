-- One more recovery, with the next id, is kept.
use Rattle.std.proofs.Common.{◌≡◌, ◌≢◌, ◌∙◌, ℕ, ◌+◌, ◌-◌, ◌<◌, ◌≤◌, ◌^◌, Bool, true, false, leb, List, [], ◌∷◌, refl, sym, ap, subst, inl, inr, Option, Some, None, arith, ◌==◌, ◌⊎◌, ◌&&◌, if◌then◌else◌}
use Rattle.run_laws.proofs.Prelude.{All-weaker, AuditState, FollowAudit, IsAudit-begun, IsAudited, Recovery, Row, are_known, as_row, begun, cases_lt}
use Rattle.run_laws.proofs.Prelude.{changed_by, counts, ending_servers, eq-eqb, eqb-true, false≢true, find-append, greatest, is_block_in_range}
use Rattle.run_laws.proofs.Prelude.{is_end_in_range, le-leb, leb-true, longest_block, ne_eqb, none-at, option_or, put_recovery, recovery_at}
use Rattle.run_laws.proofs.Prelude.{row_after, row_at, row_in, row_in-changed_by, sort_key, sort_key_of, stands-at}
use Rattle.run_laws.proofs.Prelude.kept_row as row
use Rattle.run_laws.proofs.Prelude.key
use Rattle.run_laws.proofs.Prelude.table

-- the index of an id's recovery
abbrev at : ℕ → ℕ
at id = sort_key table.Recovery (key.Id id)

key-same : (m n : ℕ) → (at m == at n) ≡ (m == n)
key-same m n = go (m == n) refl
  where
    go : (e : Bool) → (m == n) ≡ e → (at m == at n) ≡ e
    go true is = eq-eqb (at m) (at n) (ap at (eqb-true m n is))
    go false is = ne_eqb (at m) (at n) (λ h. let same : m ≡ n = omega (arith, h) in false≢true (sym is ∙ eq-eqb m n same))

-- if the last id that counts goes on, only what has that id counts, too
leb-on : (m n : ℕ) → m ≢ n → leb m (n - 1) ≡ false → leb m n ≡ false
leb-on m n other off = go (leb m n) refl (cases_lt m n)
  where
    go : (b : Bool) → leb m n ≡ b → (m < n) ⊎ (n ≤ m) → b ≡ false
    go false is h = refl
    go true is (inl less) = absurd (false≢true (sym off ∙ le-leb m (n - 1) (omega (arith, less))))
    go true is (inr more) = let low = leb-true m n is in absurd (other (omega (arith, low, more)))

and-on : (a b c d e : Bool) → (d ≡ false → e ≡ false) → (a && ((b && d) && c)) ≡ false → (a && ((b && e) && c)) ≡ false
and-on true true c false e on off = ap (λ (x : Bool). x && c) (on refl)
and-on true true c true true on off = off
and-on _ _ c _ _ on off = refl

counts-on : (count next id : ℕ) (x : Row) → sort_key_of x ≡ at id → id ≢ next → counts count (next - 1) x ≡ false → counts count next x ≡ false
counts-on count next id (row.Recovery y) is other off =
    let same : y.id ≡ id = omega (arith, is) in
    and-on (are_known count (y.failed.0 ∷ ending_servers y.outcome)) (leb 1 y.id) (leb y.begun.0 greatest && (is_end_in_range y.ended && is_block_in_range y.block)) (leb y.id (next - 1)) (leb y.id next)
    (leb-on y.id next (λ e. other (sym same ∙ e))) off
counts-on count next id _ is other off = off

or-none : (o : Option Recovery) → option_or o None ≡ o
or-none None = refl
or-none (Some r) = refl

-- one more recovery, with the next id, is kept
module _ (count : ℕ) (rows : List Row) (a : AuditState) (r : Recovery) (next : r.id ≡ a.next) (short : r.block ≤ longest_block) (follow : FollowAudit count rows a) where
  none-there : (id : ℕ) → (r.id == id) ≡ true → recovery_at a id ≡ None
  none-there id here =
      let same = eqb-true r.id id here in
      none-at id a.recoveries
      (All-weaker (λ (x : Recovery). x.id < a.next) (λ x. (x.id == id) ≡ false) (λ x less. ne_eqb x.id id (λ e. absurd (omega (arith, less, e, same, next)))) a.recoveries follow.audit.below)

  added-at : (id : ℕ) → recovery_at (begun a r) id ≡ option_or (recovery_at a id) (if r.id == id then Some r else None)
  added-at id = find-append (λ (x : Recovery). x.id == id) a.recoveries (r ∷ [])

  kept-on : (id : ℕ) → (r.id == id) ≡ false → (o : Option Recovery) (k : Option Row) → row_in rows (at id) ≡ k → IsAudited count a.next k o → IsAudited count (r.id + 1) k o
  kept-on id off (Some y) k stands is = is
  kept-on id off None None stands is = tt
  kept-on id off None (Some x) stands is =
      let last : a.next ≡ (r.id + 1) - 1 = omega (arith, next) in
      subst (λ (n : ℕ). counts count n x ≡ false) last
      (counts-on count a.next id x (stands-at rows (at id) x stands) (λ e. false≢true (sym off ∙ eq-eqb r.id id (next ∙ sym e))) is)

  one-at : (id : ℕ) → id < 2 ^ 64 → IsAudited count (r.id + 1) (row_at (changed_by rows (put_recovery r)) table.Recovery (key.Id id)) (recovery_at (begun a r) id)
  one-at id small =
      subst (λ (k : Option Row). IsAudited count (r.id + 1) k (recovery_at (begun a r) id)) (sym (row_in-changed_by rows (put_recovery r) (at id)))
      (subst (IsAudited count (r.id + 1) (row_after (at id) (row_in rows (at id)) (put_recovery r))) (sym (added-at id)) (go (r.id == id) refl))
    where
      go : (b : Bool) → (r.id == id) ≡ b
          → IsAudited count (r.id + 1) (if sort_key_of (row.Recovery (as_row r)) == at id then Some (row.Recovery (as_row r)) else row_in rows (at id)) (option_or (recovery_at a id) (if r.id == id then Some r else None))
      go true is =
          subst (λ (b : Bool). IsAudited count (r.id + 1) (if b then Some (row.Recovery (as_row r)) else row_in rows (at id)) (option_or (recovery_at a id) (if r.id == id then Some r else None))) (sym (key-same r.id id ∙ is))
          (subst (λ (b : Bool). IsAudited count (r.id + 1) (Some (row.Recovery (as_row r))) (option_or (recovery_at a id) (if b then Some r else None))) (sym is)
          (subst (λ (o : Option Recovery). IsAudited count (r.id + 1) (Some (row.Recovery (as_row r))) (option_or o (Some r))) (sym (none-there id is)) refl))
      go false is =
          subst (λ (b : Bool). IsAudited count (r.id + 1) (if b then Some (row.Recovery (as_row r)) else row_in rows (at id)) (option_or (recovery_at a id) (if r.id == id then Some r else None))) (sym (key-same r.id id ∙ is))
          (subst (λ (b : Bool). IsAudited count (r.id + 1) (row_in rows (at id)) (option_or (recovery_at a id) (if b then Some r else None))) (sym is)
          (subst (IsAudited count (r.id + 1) (row_in rows (at id))) (sym (or-none (recovery_at a id))) (kept-on id is (recovery_at a id) (row_in rows (at id)) refl (follow.each id small))))

  pub follow-entry : r.id + 1 ≤ 2 ^ 64 → FollowAudit count (changed_by rows (put_recovery r)) (begun a r)
  follow-entry most = record { audit = IsAudit-begun a r next short follow.audit; small = most; each = one-at }
