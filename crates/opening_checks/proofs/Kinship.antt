-- The table decides whether a history agrees with those before it.
use Rattle.std.proofs.Common.{◌≡◌, ℕ, ◌-◌, ◌<◌, ◌≤◌, inl, inr, true, false, List, refl, sym, ap, subst, ◌∙◌, Some, None, Option, arith, slice_get, is_some, ◌||◌}
use Rattle.opening_checks.proofs.Prelude.{IsTable, Link, Lists, ServerInit, ServerNo, Txn, agrees_at, agrees_throughout, agrees_where, agrees_with}
use Rattle.opening_checks.proofs.Prelude.{alike, all_below, before_at, false≢true, histories_agree, link_of, links, links_agree, listed_history}
use Rattle.opening_checks.proofs.Prelude.{or_cases, parts_of, row_at}
use Rattle.opening_checks.proofs.Linked.{links-get, links-txn, same_txn-parts, same_txn-from, alike-sym, alike-trans, links_agree-alike, links_agree-from, histories_agree-each, histories_agree-from_each}
use Rattle.opening_checks.proofs.ListTests.{same_Bool, list_all-get, list_all-from_get, all_below-each, all_below-from_each}

-- each transaction has a number
pub record IsNumberedFromOne (history : List Txn) : Type 0 where
  pub each : (j : ℕ) (t : Txn) → slice_get history j ≡ Some t → 1 ≤ t.seq

agrees_where-at : (o : Option Link) (e x : Link) → agrees_where o x ≡ true → o ≡ Some e → alike e x ≡ true
agrees_where-at o e x h is = subst (λ (p : Option Link). agrees_where p x ≡ true) is h

agrees_where-from : (o : Option Link) (x : Link) → ((e : Link) → o ≡ Some e → alike e x ≡ true) → agrees_where o x ≡ true
agrees_where-from None x each = refl
agrees_where-from (Some e) x each = each e refl

pub agrees_throughout-get : (rows : List (List Link)) (history : List Txn) → agrees_throughout rows history ≡ true → (j : ℕ) (t : Txn) → slice_get history j ≡ Some t
    → (e : Link) → slice_get (row_at rows t.origin.0) (t.seq - 1) ≡ Some e → alike e (link_of (before_at history j) t) ≡ true
agrees_throughout-get rows history h j t at e is =
    agrees_where-at (slice_get (row_at rows t.origin.0) (t.seq - 1)) e (link_of (before_at history j) t)
    (list_all-get (agrees_at rows) (links history) h j (before_at history j, t) (links-get history j t at)) is

agrees_throughout-from_get : (rows : List (List Link)) (history : List Txn)
    → ((j : ℕ) (t : Txn) → slice_get history j ≡ Some t → (e : Link) → slice_get (row_at rows t.origin.0) (t.seq - 1) ≡ Some e → alike e (link_of (before_at history j) t) ≡ true) → agrees_throughout rows history ≡ true
agrees_throughout-from_get rows history each =
    list_all-from_get (agrees_at rows) (links history)
    (λ j l lt. let at = links-txn history j l lt in
    subst (λ (x : Option Txn × Txn). agrees_at rows x ≡ true) (sym at.1)
    (agrees_where-from (slice_get (row_at rows l.1.origin.0) (l.1.seq - 1)) (link_of (before_at history j) l.1) (λ e is. each j l.1 at.0 e is)))

-- what a server lists agrees, or it lists nothing
pub agrees_with-lists : (servers : List ServerInit) (history : List Txn) (m : ℕ) (other : List Txn) → agrees_with history (slice_get servers m) ≡ true → Lists servers m other → histories_agree other history ≡ true
agrees_with-lists servers history m other h lists =
    let there : agrees_with history (Some lists.init) ≡ true = subst (λ (o : Option ServerInit). agrees_with history o ≡ true) lists.there h in
    let none : is_some lists.init.source ≡ false = ap is_some lists.root in
    let agree : histories_agree (listed_history (parts_of lists.init)) history ≡ true = elim (or_cases (is_some lists.init.source) (histories_agree (listed_history (parts_of lists.init)) history) there) [
      | inl some ↦ absurd (false≢true (sym none ∙ some))
      | inr agree ↦ agree
    ] in
    subst (λ (a : List Txn). histories_agree a history ≡ true) (sym lists.is) agree

agrees_with-from : (servers : List ServerInit) (history : List Txn) (m : ℕ) → ((other : List Txn) → Lists servers m other → histories_agree other history ≡ true) → agrees_with history (slice_get servers m) ≡ true
agrees_with-from servers history m each = at (slice_get servers m) refl
  where
    root : (i : ServerInit) (s : Option ServerNo) → slice_get servers m ≡ Some i → i.source ≡ s → (is_some s || histories_agree (listed_history (parts_of i)) history) ≡ true
    root i None e none = each (listed_history (parts_of i)) (record { init = i; there = e; root = none; is = refl })
    root i (Some n) e some = refl

    at : (o : Option ServerInit) → slice_get servers m ≡ o → agrees_with history o ≡ true
    at None e = refl
    at (Some i) e = root i i.source e refl

-- (a) the table agrees with a history exactly if what the first n servers list does
pub decides : (servers : List ServerInit) (n : ℕ) (rows : List (List Link)) (history : List Txn) → IsTable servers n rows → IsNumberedFromOne history
    → agrees_throughout rows history ≡ all_below (λ m. agrees_with history (slice_get servers m)) n
decides servers n rows history table numbered =
    same_Bool (agrees_throughout rows history) (all_below (λ m. agrees_with history (slice_get servers m)) n)
    (λ h. all_below-from_each (λ m. agrees_with history (slice_get servers m)) n (λ m less. agrees_with-from servers history m (λ other lists. histories_agree-from_each other history (there h m less other lists))))
    (λ h. agrees_throughout-from_get rows history (back (all_below-each (λ m. agrees_with history (slice_get servers m)) n h)))
  where
    there : agrees_throughout rows history ≡ true → (m : ℕ) → m < n → (other : List Txn) → Lists servers m other → (i j : ℕ) (t u : Txn) → slice_get other i ≡ Some t → slice_get history j ≡ Some u
        → links_agree (before_at other i, t) (before_at history j, u) ≡ true
    there h m less other lists i j t u at ut =
        links_agree-from (before_at other i) (before_at history j) t u
        (λ same.
        let parts = same_txn-parts t u same in
        let known = table.complete m less other lists i t at in
        let place : slice_get (row_at rows u.origin.0) (u.seq - 1) ≡ Some known.0 =
        ap (λ o. slice_get (row_at rows o) (u.seq - 1)) (sym parts.0) ∙ ap (λ s. slice_get (row_at rows t.origin.0) (s - 1)) (sym parts.1) ∙ known.1 in
        alike-trans (link_of (before_at other i) t) known.0 (link_of (before_at history j) u) (alike-sym known.0 (link_of (before_at other i) t) known.2)
        (agrees_throughout-get rows history h j u ut known.0 place))

    back : ((m : ℕ) → m < n → agrees_with history (slice_get servers m) ≡ true) → (j : ℕ) (t : Txn) → slice_get history j ≡ Some t → (e : Link) → slice_get (row_at rows t.origin.0) (t.seq - 1) ≡ Some e
        → alike e (link_of (before_at history j) t) ≡ true
    back each j t at e is =
        let found = table.sound t.origin.0 (t.seq - 1) e is in
        let stands = found.5 in
        let one = numbered.each j t at in
        let seq : stands.txn.seq ≡ t.seq = let k = stands.number in omega arith in
        let agree = histories_agree-each found.2 history (agrees_with-lists servers history found.0 found.2 (each found.0 found.1) found.3) found.4 j stands.txn t stands.there at in
        subst (λ (x : Link). alike x (link_of (before_at history j) t) ≡ true) (sym stands.link)
        (links_agree-alike (before_at found.2 found.4) (before_at history j) stands.txn t agree (same_txn-from stands.txn t stands.own seq))
