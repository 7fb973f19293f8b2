-- The table takes a history that it agrees with.
use Rattle.std.proofs.Common.{◌≡◌, ℕ, ◌+◌, ◌-◌, ◌<◌, ◌≤◌, ◌⊎◌, inl, inr, true, cond, List, [], ◌∷◌, ◌++◌, length, take, drop, refl, sym, ap, subst, ◌∙◌, Some, None, Option, arith, suc, length-append, get_or, slice_get, slice_set, ◌==◌}
use Rattle.opening_checks.proofs.Prelude.{IsNumbered, Link, StandsAt, Txn, agrees_throughout, alike, before_at, cases_Bool, cases_eq, cases_order, count_own}
use Rattle.opening_checks.proofs.Prelude.{drop_more, eq-eqb, eqb-false, eqb-true, extended, get-push, get-push_old, get_or-set_other, get_or-set_same}
use Rattle.opening_checks.proofs.Prelude.{length-set, link_of, links, links_after, ne_eqb, row_at, same_Some, slice_get-get_or, tick}
use Rattle.opening_checks.proofs.Prelude.{unwrap_or-slice_get, with_link, with_links}
use Rattle.opening_checks.proofs.Kinship.{agrees_throughout-get}
use Rattle.opening_checks.proofs.Linked.{alike-refl}
use Rattle.opening_checks.proofs.Numbered.{count_own-next, number-below}

-- what a row keeps and gets
record Longer (row now : List Link) (number : ℕ) (x : Link) : Type 0 where
  kept : (k : ℕ) (e : Link) → slice_get row k ≡ Some e → slice_get now k ≡ Some e
  from : (k : ℕ) (e : Link) → slice_get now k ≡ Some e → (slice_get row k ≡ Some e) ⊎ ((number ≡ suc k) × (e ≡ x))
  most : length row ≤ length now
  reach : number ≤ length row + 1 → number ≤ length now

extended-longer : (row : List Link) (number : ℕ) (x : Link) → Longer row (extended row number x) number x
extended-longer row number x = elim (cases_Bool (length row + 1 == number)) [
  | inl next ↦ (
      let same = eqb-true (length row + 1) number next in
      let is : extended row number x ≡ row ++ x ∷ [] = ap (λ b. cond b (row ++ x ∷ []) row) next in
      let longer : length (row ++ x ∷ []) ≡ length row + 1 = length-append row (x ∷ []) in
      subst (λ (now : List Link). Longer row now number x) (sym is) (record {
        kept = λ k e h. get-push_old row x e k h;
        from = λ k e h. elim (get-push row x e k h) [ inl old ↦ inl old | inr new ↦ (let at = new.0 in inr (omega arith, new.1)) ];
        most = omega arith;
        reach = λ h. omega arith;
      }))
  | inr other ↦ (
      let apart = eqb-false (length row + 1) number other in
      let is : extended row number x ≡ row = ap (λ b. cond b (row ++ x ∷ []) row) other in
      subst (λ (now : List Link). Longer row now number x) (sym is) (record {
        kept = λ k e h. h;
        from = λ k e h. inl h;
        most = omega arith;
        reach = λ h. no_next number (length row) h apart;
      }))
]
  where
    no_next : (number n : ℕ) → number ≤ n + 1 → (n + 1 ≡ number → ⊥) → number ≤ n
    no_next number n h apart = elim (cases_order (n + 1) number) [
      | inl same ↦ absurd (apart same)
      | inr (inl below) ↦ omega arith
      | inr (inr above) ↦ omega arith
    ]

row_at-get_or : (rows : List (List Link)) (o : ℕ) → row_at rows o ≡ get_or rows o []
row_at-get_or rows o = unwrap_or-slice_get rows o []

row_at-same : (rows : List (List Link)) (o : ℕ) (row : List Link) → o < length rows → row_at (slice_set rows o row) o ≡ row
row_at-same rows o row within = row_at-get_or (slice_set rows o row) o ∙ get_or-set_same rows o row [] within

row_at-other : (rows : List (List Link)) (o p : ℕ) (row : List Link) → (p ≡ o → ⊥) → row_at (slice_set rows o row) p ≡ row_at rows p
row_at-other rows o p row apart = row_at-get_or (slice_set rows o row) p ∙ get_or-set_other rows o p row [] apart ∙ sym (row_at-get_or rows p)

-- the table has taken the transactions of a history before this one
pub record Takes (history : List Txn) (at : ℕ) (old now : List (List Link)) : Type 0 where
  pub count : length now ≡ length old
  pub kept : (o k : ℕ) (e : Link) → slice_get (row_at old o) k ≡ Some e → slice_get (row_at now o) k ≡ Some e
  pub from : (o k : ℕ) (e : Link) → slice_get (row_at now o) k ≡ Some e → (slice_get (row_at old o) k ≡ Some e) ⊎ ((j : ℕ) × (j < at) × StandsAt history j o k e)
  pub has : (j : ℕ) (t : Txn) → j < at → slice_get history j ≡ Some t → (e : Link) × (slice_get (row_at now t.origin.0) (t.seq - 1) ≡ Some e) × (alike e (link_of (before_at history j) t) ≡ true)
  pub reach : (o : ℕ) → count_own o (take at history) ≤ length (row_at now o)

pub Takes-none : (history : List Txn) (rows : List (List Link)) → Takes history 0 rows rows
Takes-none history rows = record {
  count = refl;
  kept = λ o k e h. h;
  from = λ o k e h. inl h;
  has = λ j t less h. absurd (omega arith);
  reach = λ o. let e : count_own o (take 0 history) ≡ 0 = refl in omega arith;
}

-- the rows after one more transaction
record Rows (now next : List (List Link)) (t : Txn) (x : Link) : Type 0 where
  here : Longer (row_at now t.origin.0) (row_at next t.origin.0) t.seq x
  there : (o : ℕ) → (o ≡ t.origin.0 → ⊥) → row_at next o ≡ row_at now o

with_link-rows : (rows : List (List Link)) (before : Option Txn) (t : Txn) → t.origin.0 < length rows → Rows rows (with_link rows (before, t)) t (link_of before t)
with_link-rows rows before t within = record {
  here = subst (λ (row : List Link). Longer (row_at rows t.origin.0) row t.seq (link_of before t)) (sym (row_at-same rows t.origin.0 (extended (row_at rows t.origin.0) t.seq (link_of before t)) within))
      (extended-longer (row_at rows t.origin.0) t.seq (link_of before t));
  there = λ o apart. row_at-other rows t.origin.0 o (extended (row_at rows t.origin.0) t.seq (link_of before t)) apart;
}

pub Takes-more : (history : List Txn) (at : ℕ) (old now : List (List Link)) (t : Txn) → IsNumbered history → slice_get history at ≡ Some t → t.origin.0 < length old → agrees_throughout old history ≡ true
    → Takes history at old now → Takes history (at + 1) old (with_link now (before_at history at, t))
Takes-more history at old now t numbered there within agrees takes = record {
  count = length-set now t.origin.0 (extended (row_at now t.origin.0) t.seq x) ∙ takes.count;
  kept = λ o k e h. kept o k e h (cases_eq o t.origin.0);
  from = λ o k e h. from o k e h (cases_eq o t.origin.0);
  has = λ j u less h. has j u h (cases_order j at) less;
  reach = λ o. reach o (cases_eq o t.origin.0);
}
  where
    x : Link
    x = link_of (before_at history at) t

    next : List (List Link)
    next = with_link now (before_at history at, t)

    rows : Rows now next t x
    rows = let same = takes.count in with_link-rows now (before_at history at) t (omega arith)

    seq : t.seq ≡ count_own t.origin.0 (take at history) + 1
    seq = numbered at t there

    kept : (o k : ℕ) (e : Link) → slice_get (row_at old o) k ≡ Some e → (o ≡ t.origin.0) ⊎ (o ≡ t.origin.0 → ⊥) → slice_get (row_at next o) k ≡ Some e
    kept o k e h (inl same) = subst (λ (p : ℕ). slice_get (row_at next p) k ≡ Some e) (sym same) (rows.here.kept k e (subst (λ (p : ℕ). slice_get (row_at now p) k ≡ Some e) same (takes.kept o k e h)))
    kept o k e h (inr apart) = ap (λ (row : List Link). slice_get row k) (rows.there o apart) ∙ takes.kept o k e h

    earlier : (o k : ℕ) (e : Link) → slice_get (row_at now o) k ≡ Some e → (slice_get (row_at old o) k ≡ Some e) ⊎ ((j : ℕ) × (j < at + 1) × StandsAt history j o k e)
    earlier o k e h = elim (takes.from o k e h) [ inl before ↦ inl before | inr of ↦ (let less = of.1 in inr (of.0, omega arith, of.2)) ]

    from : (o k : ℕ) (e : Link) → slice_get (row_at next o) k ≡ Some e → (o ≡ t.origin.0) ⊎ (o ≡ t.origin.0 → ⊥) → (slice_get (row_at old o) k ≡ Some e) ⊎ ((j : ℕ) × (j < at + 1) × StandsAt history j o k e)
    from o k e h (inl same) = elim (rows.here.from k e (subst (λ (p : ℕ). slice_get (row_at next p) k ≡ Some e) same h)) [
      | inl before ↦ earlier o k e (subst (λ (p : ℕ). slice_get (row_at now p) k ≡ Some e) (sym same) before)
      | inr new ↦ inr (at, omega arith, record { txn = t; there = there; own = sym same; number = new.0; link = new.1 })
    ]
    from o k e h (inr apart) = earlier o k e (sym (ap (λ (row : List Link). slice_get row k) (rows.there o apart)) ∙ h)

    carried : (o k : ℕ) (e : Link) → slice_get (row_at now o) k ≡ Some e → (o ≡ t.origin.0) ⊎ (o ≡ t.origin.0 → ⊥) → slice_get (row_at next o) k ≡ Some e
    carried o k e h (inl same) = subst (λ (p : ℕ). slice_get (row_at next p) k ≡ Some e) (sym same) (rows.here.kept k e (subst (λ (p : ℕ). slice_get (row_at now p) k ≡ Some e) same h))
    carried o k e h (inr apart) = ap (λ (row : List Link). slice_get row k) (rows.there o apart) ∙ h

    reached : t.seq ≤ length (row_at next t.origin.0)
    reached = let before = takes.reach t.origin.0 in let number = seq in rows.here.reach (omega arith)

    known : (e : Link) → slice_get (row_at now t.origin.0) (t.seq - 1) ≡ Some e → alike e x ≡ true
    known e h = elim (takes.from t.origin.0 (t.seq - 1) e h) [
      | inl before ↦ agrees_throughout-get old history agrees at t there e before
      | inr of ↦ (
          let stands = of.2 in
          let below = number-below history of.0 at stands.txn numbered stands.there of.1 in
          let counted = ap (λ o. count_own o (take at history)) stands.own in
          let number = stands.number in
          let is = seq in absurd (omega arith))
    ]

    last : Link
    last = get_or (row_at next t.origin.0) (t.seq - 1) x

    own : (e : Link) × (slice_get (row_at next t.origin.0) (t.seq - 1) ≡ Some e) × (alike e x ≡ true)
    own =
        let is = seq in
        let most = reached in
        let within : t.seq - 1 < length (row_at next t.origin.0) = omega arith in
        let found : slice_get (row_at next t.origin.0) (t.seq - 1) ≡ Some last = slice_get-get_or (row_at next t.origin.0) (t.seq - 1) x within in
        let says : alike last x ≡ true = elim (rows.here.from (t.seq - 1) last found) [
          | inl before ↦ known last before
          | inr new ↦ subst (λ (e : Link). alike e x ≡ true) (sym new.1) (alike-refl x)
        ] in
        (last, found, says)

    has : (j : ℕ) (u : Txn) → slice_get history j ≡ Some u → (j ≡ at) ⊎ ((j < at) ⊎ (at < j)) → j < at + 1
        → (e : Link) × (slice_get (row_at next u.origin.0) (u.seq - 1) ≡ Some e) × (alike e (link_of (before_at history j) u) ≡ true)
    has j u h (inl same) less =
        let is : u ≡ t = same_Some u t (sym h ∙ ap (slice_get history) same ∙ there) in
        subst (λ (v : Txn). (e : Link) × (slice_get (row_at next v.origin.0) (v.seq - 1) ≡ Some e) × (alike e (link_of (before_at history j) v) ≡ true)) (sym is)
        (subst (λ (i : ℕ). (e : Link) × (slice_get (row_at next t.origin.0) (t.seq - 1) ≡ Some e) × (alike e (link_of (before_at history i) t) ≡ true)) (sym same) own)
    has j u h (inr (inl below)) less = let e = takes.has j u below h in (e.0, carried u.origin.0 (u.seq - 1) e.0 e.1 (cases_eq u.origin.0 t.origin.0), e.2)
    has j u h (inr (inr above)) less = absurd (omega arith)

    reach : (o : ℕ) → (o ≡ t.origin.0) ⊎ (o ≡ t.origin.0 → ⊥) → count_own o (take (at + 1) history) ≤ length (row_at next o)
    reach o (inl same) =
        let once : tick (t.origin.0 == t.origin.0) ≡ 1 = ap tick (eq-eqb t.origin.0 t.origin.0 refl) in
        let more : count_own t.origin.0 (take (at + 1) history) ≡ count_own t.origin.0 (take at history) + 1 = count_own-next history at t t.origin.0 there ∙ ap (λ n. count_own t.origin.0 (take at history) + n) once in
        let is = seq in
        let most = reached in
        let here : count_own t.origin.0 (take (at + 1) history) ≤ length (row_at next t.origin.0) = omega arith in
        subst (λ (p : ℕ). count_own p (take (at + 1) history) ≤ length (row_at next p)) (sym same) here
    reach o (inr apart) =
        let none : tick (t.origin.0 == o) ≡ 0 = ap tick (ne_eqb t.origin.0 o (λ e. apart (sym e))) in
        let more : count_own o (take (at + 1) history) ≡ count_own o (take at history) + 0 = count_own-next history at t o there ∙ ap (λ n. count_own o (take at history) + n) none in
        let before = takes.reach o in
        let same = ap length (rows.there o apart) in
        omega arith

-- all transactions of a history join
pub Takes-links : (history : List Txn) (at : ℕ) (old now : List (List Link)) (before : Option Txn) (ts : List Txn) → IsNumbered history → ((j : ℕ) (t : Txn) → slice_get history j ≡ Some t → t.origin.0 < length old)
    → agrees_throughout old history ≡ true → drop at history ≡ ts → before ≡ before_at history at → at + length ts ≡ length history → Takes history at old now
    → Takes history (length history) old (with_links now (links_after before ts))
Takes-links history at old now before [] numbered origins agrees rest is len takes = let e : at ≡ length history = omega arith in subst (λ n. Takes history n old now) e takes
Takes-links history at old now before (t ∷ ts) numbered origins agrees rest is len takes =
    let within : at < length history = omega arith in
    let split : drop at history ≡ get_or history at t ∷ drop (at + 1) history = drop_more history at t within in
    let both : get_or history at t ∷ drop (at + 1) history ≡ t ∷ ts = sym split ∙ rest in
    let head : get_or history at t ≡ t = cc in
    let tail : drop (at + 1) history ≡ ts = cc in
    let there : slice_get history at ≡ Some t = slice_get-get_or history at t within ∙ ap Some head in
    let next : before_at history (at + 1) ≡ Some t = let e : at + 1 ≡ suc at = omega arith in rw e there in
    let more = Takes-more history at old now t numbered there (origins at t there) agrees takes in
    let moved : Takes history (at + 1) old (with_link now (before, t)) = subst (λ (b : Option Txn). Takes history (at + 1) old (with_link now (b, t))) (sym is) more in
    Takes-links history (at + 1) old (with_link now (before, t)) (Some t) ts numbered origins agrees tail (sym next) (omega arith) moved

pub Takes-all : (history : List Txn) (rows : List (List Link)) → IsNumbered history → ((j : ℕ) (t : Txn) → slice_get history j ≡ Some t → t.origin.0 < length rows) → agrees_throughout rows history ≡ true
    → Takes history (length history) rows (with_links rows (links history))
Takes-all history rows numbered origins agrees = Takes-links history 0 rows rows None history numbered origins agrees refl refl (omega arith) (Takes-none history rows)
