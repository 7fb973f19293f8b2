-- The table's meaning, as one more server's history joins it; and the origins' counts.
use Rattle.std.proofs.Common.{◌≡◌, ℕ, ◌+◌, ◌-◌, ◌<◌, ◌⊎◌, inl, inr, Bool, true, false, List, length, refl, sym, ap, subst, ◌∙◌, Some, None, Option, arith, get_or, cond, drop, ◌∷◌, ◌&&◌, ◌||◌, slice_get, nat_le, is_none, is_some, not, All}
use Rattle.opening_checks.proofs.Prelude.{CountsHome, IsOfServers, IsPart, IsTable, Link, Lists, Part, ServerInit, ServerNo, Txn, agrees_throughout}
use Rattle.opening_checks.proofs.Prelude.{agrees_with, alike, all_below, before_at, cases_order, count_at, drop_more, false≢true, first_met}
use Rattle.opening_checks.proofs.Prelude.{get_or_from_slice_get, is_counted, is_home, is_kin, joined-listed, link_of, links, list_all, listed-all, lists_any}
use Rattle.opening_checks.proofs.Prelude.{listed_history, listed_numbered, not_kin, parts_at, parts_of, root_of, row_at, same_Some, slice_get-get_or, slice_get_within}
use Rattle.opening_checks.proofs.Prelude.{transactions, with_links}
use Rattle.opening_checks.proofs.KinGrows.{Takes, Takes-all}
use Rattle.opening_checks.proofs.Kinship.{decides}
use Rattle.opening_checks.proofs.ListTests.{list_all-same}
use Rattle.opening_checks.proofs.Numbered.{take-holds}

-- a server with a source lists nothing
pub IsTable-skip : (servers : List ServerInit) (n : ℕ) (rows : List (List Link)) (i : ServerInit) (m : ServerNo) → slice_get servers n ≡ Some i → i.source ≡ Some m → IsTable servers n rows → IsTable servers (n + 1) rows
IsTable-skip servers n rows i m there some table = record {
  count = table.count;
  sound = λ o k e h. let found = table.sound o k e h in let less = found.1 in (found.0, omega arith, found.2, found.3, found.4, found.5);
  complete = λ k less history lists. complete k history lists (cases_order k n) less;
}
  where
    complete : (k : ℕ) (history : List Txn) → Lists servers k history → (k ≡ n) ⊎ ((k < n) ⊎ (n < k)) → k < n + 1 → (j : ℕ) (t : Txn) → slice_get history j ≡ Some t
        → (e : Link) × (slice_get (row_at rows t.origin.0) (t.seq - 1) ≡ Some e) × (alike e (link_of (before_at history j) t) ≡ true)
    complete k history lists (inl same) less =
        let is : lists.init ≡ i = same_Some lists.init i (sym lists.there ∙ ap (slice_get servers) same ∙ there) in
        let none : i.source ≡ None = sym (ap (λ (s : ServerInit). s.source) is) ∙ lists.root in
        absurd (apart (sym none ∙ some))
      where
        apart : None ≡ Some m → ⊥
        apart h = cc
    complete k history lists (inr (inl below)) less = table.complete k below history lists
    complete k history lists (inr (inr above)) less = absurd (omega arith)

-- (b) what a server without a source lists has joined
pub IsTable-more : (servers : List ServerInit) (n : ℕ) (rows next : List (List Link)) (i : ServerInit) (history : List Txn) → slice_get servers n ≡ Some i → i.source ≡ None → history ≡ listed_history (parts_of i)
    → IsTable servers n rows → Takes history (length history) rows next → IsTable servers (n + 1) next
IsTable-more servers n rows next i history there root is table takes = record {
  count = takes.count ∙ table.count;
  sound = λ o k e h. elim (takes.from o k e h) [
    | inl before ↦ (let found = table.sound o k e before in let less = found.1 in (found.0, omega arith, found.2, found.3, found.4, found.5))
    | inr of ↦ (n, omega arith, history, record { init = i; there = there; root = root; is = is }, of.0, of.2)
  ];
  complete = λ m less other lists. complete m other lists (cases_order m n) less;
}
  where
    complete : (m : ℕ) (other : List Txn) → Lists servers m other → (m ≡ n) ⊎ ((m < n) ⊎ (n < m)) → m < n + 1 → (j : ℕ) (t : Txn) → slice_get other j ≡ Some t
        → (e : Link) × (slice_get (row_at next t.origin.0) (t.seq - 1) ≡ Some e) × (alike e (link_of (before_at other j) t) ≡ true)
    complete m other lists (inl same) less j t h =
        let init : lists.init ≡ i = same_Some lists.init i (sym lists.there ∙ ap (slice_get servers) same ∙ there) in
        let own : other ≡ history = lists.is ∙ ap (λ (s : ServerInit). listed_history (parts_of s)) init ∙ sym is in
        let at : slice_get history j ≡ Some t = sym (ap (λ (ts : List Txn). slice_get ts j) own) ∙ h in
        let e = takes.has j t (slice_get_within history j t at) at in
        subst (λ (ts : List Txn). (x : Link) × (slice_get (row_at next t.origin.0) (t.seq - 1) ≡ Some x) × (alike x (link_of (before_at ts j) t) ≡ true)) (sym own) e
    complete m other lists (inr (inl below)) less j t h =
        let e = table.complete m below other lists j t h in (e.0, takes.kept t.origin.0 (t.seq - 1) e.0 e.1, e.2)
    complete m other lists (inr (inr above)) less j t h = absurd (omega arith)

pub listed-of_servers : (servers : ℕ) (parts : List Part) → All (IsPart servers) parts → (j : ℕ) (t : Txn) → slice_get (listed_history parts) j ≡ Some t → IsOfServers servers t
listed-of_servers servers parts all j t h =
    let whole = listed-all parts (transactions parts) refl in
    let listed = joined-listed servers (transactions parts) parts all j t (ap (λ (ts : List Txn). slice_get ts j) whole ∙ h) in
    let number = listed_numbered parts j t h in
    record { origin = listed.origin; number = omega arith }

pub all-of_servers : (servers : ℕ) (parts : List Part) → All (IsPart servers) parts → All (IsOfServers servers) (listed_history parts)
all-of_servers servers parts all = λ k d h. listed-of_servers servers parts all k _ (slice_get-get_or (listed_history parts) k d h)

-- the counts answer whether each origin has executed its own
pub counted-home : (servers : List ServerInit) (own : List ℕ) (history : List Txn) → CountsHome servers own → ((j : ℕ) (t : Txn) → slice_get history j ≡ Some t → IsOfServers (length servers) t)
    → list_all (is_counted own) history ≡ list_all (is_home servers) history
counted-home servers own history counts each = list_all-same (is_counted own) (is_home servers) history (λ j t h.
    let of = each j t h in
    ap (nat_le t.seq) (counts.each t.origin.0 of.origin)
    ∙ sym (take-holds (parts_at (slice_get servers (root_of servers t.origin.0))) (count_at (slice_get servers t.origin.0)) t of.number))

-- both tests together are kinship
pub kin-from_tests : (servers : List ServerInit) (n : ℕ) (rows : List (List Link)) (own : List ℕ) (parts : List Part) → All (IsPart (length servers)) parts → IsTable servers n rows → CountsHome servers own
    → (agrees_throughout rows (listed_history parts) && list_all (is_counted own) (listed_history parts)) ≡ is_kin servers n (listed_history parts)
kin-from_tests servers n rows own parts all table counts =
    let history = listed_history parts in
    let each = listed-of_servers (length servers) parts all in
    ap (λ b. b && list_all (is_counted own) history) (decides servers n rows history table (record { each = λ j t h. (each j t h).number }))
    ∙ ap (λ b. all_below (λ m. agrees_with history (slice_get servers m)) n && b) (counted-home servers own history counts each)

pub table-after : (servers : List ServerInit) (n : ℕ) (rows : List (List Link)) (i : ServerInit) → slice_get servers n ≡ Some i → i.source ≡ None → All (IsPart (length servers)) (parts_of i)
    → IsTable servers n rows → agrees_throughout rows (listed_history (parts_of i)) ≡ true → IsTable servers (n + 1) (with_links rows (links (listed_history (parts_of i))))
table-after servers n rows i there root all table agrees =
    let history = listed_history (parts_of i) in
    IsTable-more servers n rows (with_links rows (links history)) i history there root refl table
    (Takes-all history rows (listed_numbered (parts_of i)) (λ j t h. let of = (listed-of_servers (length servers) (parts_of i) all j t h).origin in let count = table.count in omega arith) agrees)

-- what the two tests answer for a history that a server lists
pub told-kin : (servers : List ServerInit) (n : ℕ) (rows : List (List Link)) (own : List ℕ) (i : ServerInit) (history : List Txn) (a b : Bool) → history ≡ listed_history (parts_of i) → All (IsPart (length servers)) (parts_of i)
    → IsTable servers n rows → CountsHome servers own → a ≡ agrees_throughout rows history → b ≡ list_all (is_counted own) history → (a && b) ≡ is_kin servers n (listed_history (parts_of i))
told-kin servers n rows own i history a b is all table counts agrees counted =
    ap (λ x. x && b) agrees ∙ ap (λ x. agrees_throughout rows history && x) counted
    ∙ ap (λ ts. agrees_throughout rows ts && list_all (is_counted own) ts) is ∙ kin-from_tests servers n rows own (parts_of i) all table counts

pub history-of_servers : (servers : List ServerInit) (n : ℕ) (rows : List (List Link)) (i : ServerInit) (history : List Txn) → history ≡ listed_history (parts_of i) → All (IsPart (length servers)) (parts_of i) → IsTable servers n rows
    → All (IsOfServers (length rows)) history
history-of_servers servers n rows i history is all table =
    subst (λ (count : ℕ). All (IsOfServers count) history) (sym table.count) (subst (All (IsOfServers (length servers))) (sym is) (all-of_servers (length servers) (parts_of i) all))

-- a server that doesn't meet a test is passed
pub first_met-on : (test : ℕ → ServerInit → Bool) (servers : List ServerInit) (n : ℕ) (i : ServerInit) → slice_get servers n ≡ Some i → test n i ≡ false
    → first_met test (n + 1) (drop (n + 1) servers) ≡ first_met test n (drop n servers)
first_met-on test servers n i there passes =
    let here : drop n servers ≡ get_or servers n i ∷ drop (n + 1) servers = drop_more servers n i (slice_get_within servers n i there) in
    let is : get_or servers n i ≡ i = get_or_from_slice_get servers n i i there in
    sym (ap (first_met test n) here ∙ ap (λ (j : ServerInit). cond (test n j) (Some n) (first_met test (n + 1) (drop (n + 1) servers))) is
    ∙ ap (λ b. cond b (Some n) (first_met test (n + 1) (drop (n + 1) servers))) passes)

-- a server, or one after it
lists-on : (servers : List ServerInit) (n : ℕ) (i : ServerInit) → slice_get servers n ≡ Some i → lists_any (drop n servers) ≡ (is_none i.source || lists_any (drop (n + 1) servers))
lists-on servers n i there =
    let here : drop n servers ≡ get_or servers n i ∷ drop (n + 1) servers = drop_more servers n i (slice_get_within servers n i there) in
    ap lists_any here ∙ ap (λ (j : ServerInit). is_none j.source || lists_any (drop (n + 1) servers)) (get_or_from_slice_get servers n i i there)

-- one that lists a history
pub lists-here : (servers : List ServerInit) (n : ℕ) (i : ServerInit) → slice_get servers n ≡ Some i → is_none i.source ≡ true → lists_any (drop n servers) ≡ true
lists-here servers n i there none = lists-on servers n i there ∙ ap (λ b. b || lists_any (drop (n + 1) servers)) none

-- one that has a source
pub lists-after : (servers : List ServerInit) (n : ℕ) (i : ServerInit) (m : ServerNo) → slice_get servers n ≡ Some i → i.source ≡ Some m → lists_any (drop (n + 1) servers) ≡ true → lists_any (drop n servers) ≡ true
lists-after servers n i m there some more =
    lists-on servers n i there ∙ ap (λ (s : Option ServerNo). is_none s || lists_any (drop (n + 1) servers)) some ∙ more

pub not_kin-kin : (servers : List ServerInit) (n : ℕ) (i : ServerInit) → is_kin servers n (listed_history (parts_of i)) ≡ true → not_kin servers n i ≡ false
not_kin-kin servers n i kin = ap (λ b. is_none i.source && not b) kin ∙ none (is_none i.source)
  where
    none : (b : Bool) → (b && false) ≡ false
    none true = refl
    none false = refl

pub source-there : (i : ServerInit) → is_some i.source ≡ true → (m : ServerNo) × (i.source ≡ Some m)
source-there i some = at i.source refl some
  where
    at : (s : Option ServerNo) → i.source ≡ s → is_some s ≡ true → (m : ServerNo) × (i.source ≡ Some m)
    at None e h = absurd (false≢true h)
    at (Some m) e h = (m, e)

pub not_kin-skip : (servers : List ServerInit) (n : ℕ) (i : ServerInit) (m : ServerNo) → i.source ≡ Some m → not_kin servers n i ≡ false
not_kin-skip servers n i m some = ap (λ (s : Option ServerNo). is_none s && not (is_kin servers n (listed_history (parts_of i)))) some
