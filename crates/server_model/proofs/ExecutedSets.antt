-- Executed sets: what they hold, and that they are kept as one server changes.
pub use Rattle.server_words.proofs.GtidSets.Inserts.{or_assoc}
use Rattle.std.proofs.Common.{◌≡◌, ℕ, ◌+◌, ◌-◌, ◌<◌, ◌≤◌, Bool, true, false, cond, List, [], ◌∷◌, ◌++◌, length, drop, refl, sym, ◌∙◌, ap, subst, inl, inr, Some, arith, zero, suc, length-append, slice_get, slice_range, slice_set, ◌==◌, ◌&&◌, ◌||◌, All}
use Rattle.server_model.proofs.Prelude.{All-head, All-nil, All-push, All-tail, AreGtids, Coord, Interval, IsFit, IsNumbered, IsSetOf, Kept, Reserved}
use Rattle.server_model.proofs.Prelude.{Rises, Rises-inserted, Server, Settings, TellsExecuted, Txn, cases_eq, eq-eqb, fold, fold-append}
use Rattle.server_model.proofs.Prelude.{get_or_from_slice_get, has_gtid, held_len, holds, holds-with_pair, length-inserted, length-set, length-take}
use Rattle.server_model.proofs.Prelude.{list_any, nat_tests, ne_eqb, purged_len, purged_txns, push, same_txn, set_of, single, slice_get_within, took}
use Rattle.server_model.proofs.Prelude.{uuid_of, uuids_in, with_gtid, with_gtids, with_pair}
use Rattle.server_model.proofs.Prelude.Histories.{holds as txns_hold}
use Rattle.server_model.proofs.Lists.{set_cases, set_same, set_other, set_self, slice_get-drop}
use Rattle.server_model.proofs.LogSizes.{length-push}
use Rattle.server_model.proofs.PurgedFiles.{from_file, newly_purged, purged_len-later, purged_txns-took, take-range}

-- whether a GTID is a transaction's
abbrev pub is_gtid : (ℕ → ℕ) → ℕ → ℕ → Txn → Bool
is_gtid uuid u n t = (u == uuid t.origin.0) && (n == t.seq)

Rises-one : (uuid n : ℕ) → Rises (single uuid n)
Rises-one uuid n = omega arith

-- a set has what it had, and the GTIDs of the transactions that joined it
pub holds-fold : (uuid : ℕ → ℕ) (txns : List Txn) (set : List Interval) (u n : ℕ) → All Rises set → holds (fold (with_gtid uuid) set txns) u n ≡ (holds set u n || list_any (is_gtid uuid u n) txns)
holds-fold uuid [] set u n r = or_false (holds set u n)
  where
    or_false : (b : Bool) → b ≡ (b || false)
    or_false true = refl
    or_false false = refl
holds-fold uuid (t ∷ ts) set u n r =
    holds-fold uuid ts (with_gtid uuid set t) u n (Rises-inserted set (single (uuid t.origin.0) t.seq) (Rises-one (uuid t.origin.0) t.seq) r)
    ∙ ap (λ b. b || list_any (is_gtid uuid u n) ts) (holds-with_pair set (uuid t.origin.0) t.seq u n r)
    ∙ or_assoc (holds set u n) (is_gtid uuid u n t) (list_any (is_gtid uuid u n) ts)

pub holds-set_of : (uuid : ℕ → ℕ) (txns : List Txn) (u n : ℕ) → holds (set_of uuid txns) u n ≡ list_any (is_gtid uuid u n) txns
holds-set_of uuid txns u n = holds-fold uuid txns [] u n (All-nil Rises)

pub length-fold : (uuid : ℕ → ℕ) (txns : List Txn) (set : List Interval) → length (fold (with_gtid uuid) set txns) ≤ length set + length txns
length-fold uuid [] set = omega arith
length-fold uuid (t ∷ ts) set =
    let more = length-fold uuid ts (with_gtid uuid set t) in
    let one = length-inserted set (single (uuid t.origin.0) t.seq) in
    omega (arith, more, one)

pub length-set_of : (uuid : ℕ → ℕ) (txns : List Txn) → length (set_of uuid txns) ≤ length txns
length-set_of uuid txns = let l = length-fold uuid txns [] in omega (arith, l)

pub with_gtids-push : (uuid : ℕ → ℕ) (set : List Interval) (txns : List Txn) (t : Txn) → with_gtids uuid set (txns ++ t ∷ []) ≡ with_gtid uuid (with_gtids uuid set txns) t
with_gtids-push uuid set txns t = fold-append (with_gtid uuid) set txns (t ∷ [])

-- a part of a history adds no more than it has
pub length-range : (uuid : ℕ → ℕ) (set : List Interval) (txns : List Txn) (from k : ℕ) → length (with_gtids uuid set (slice_range txns from k)) ≤ length set + (k - from)
length-range uuid set txns from k =
    let few = length-fold uuid (slice_range txns from k) set in
    let part = length-take (k - from) (drop from txns) in
    omega (arith, few, part)

-- the prefix that a set holds, by its first transaction
pub held_len-first : (uuid : ℕ → ℕ) (set : List Interval) (txns : List Txn) (k : ℕ) (t : Txn) (held : Bool) → slice_get txns k ≡ Some t → has_gtid uuid set t ≡ held
    → held_len uuid set (drop k txns) ≡ cond held (1 + held_len uuid set (drop (k + 1) txns)) 0
held_len-first uuid set txns k t held at is =
    ap (held_len uuid set) (slice_get-drop txns k t at) ∙ ap (λ b. cond b (1 + held_len uuid set (drop (k + 1) txns)) 0) is

pub set_of-push : (uuid : ℕ → ℕ) (txns : List Txn) (t : Txn) → set_of uuid (txns ++ t ∷ []) ≡ with_gtid uuid (set_of uuid txns) t
set_of-push uuid txns t = fold-append (with_gtid uuid) [] txns (t ∷ [])

fold-same : (f g : ℕ → ℕ) → ((k : ℕ) → f k ≡ g k) → (txns : List Txn) (set : List Interval) → fold (with_gtid f) set txns ≡ fold (with_gtid g) set txns
fold-same f g same [] set = refl
fold-same f g same (t ∷ ts) set = ap (λ u. fold (with_gtid f) (with_pair u t.seq set) ts) (same t.origin.0) ∙ fold-same f g same ts (with_gtid g set t)

pub set_of-same : (f g : ℕ → ℕ) → ((k : ℕ) → f k ≡ g k) → (txns : List Txn) → set_of f txns ≡ set_of g txns
set_of-same f g same txns = fold-same f g same txns []

-- the UUID of a server that is there
pub uuids_in-at : (servers : List Server) (n : ℕ) (s : Server) → slice_get servers n ≡ Some s → uuids_in servers n ≡ s.settings.uuid
uuids_in-at servers n s at = ap uuid_of at

pub server-there : (servers : List Server) (n : ℕ) → n < length servers → (s : Server) × (slice_get servers n ≡ Some s)
server-there [] n h = absurd (omega arith)
server-there (s ∷ ss) zero h = (s, refl)
server-there (s ∷ ss) (suc n) h = server-there ss n (omega arith)

there-set : (sets : List Reserved) (n : ℕ) → n < length sets → (e : Reserved) × (slice_get sets n ≡ Some e)
there-set [] n h = absurd (omega arith)
there-set (e ∷ es) zero h = (e, refl)
there-set (e ∷ es) (suc n) h = there-set es n (omega arith)

-- servers with one UUID are one
abbrev pub IsApart : List Server → Type 0
IsApart servers = (m n : ℕ) (s t : Server) → slice_get servers m ≡ Some s → slice_get servers n ≡ Some t → s.settings.uuid ≡ t.settings.uuid → m ≡ n

pub one_uuid : (servers : List Server) → IsApart servers → (m n : ℕ) → m < length servers → n < length servers → uuids_in servers m ≡ uuids_in servers n → m ≡ n
one_uuid servers apart m n a b e =
    let s = server-there servers m a in
    let t = server-there servers n b in
    apart m n s.0 t.0 s.1 t.1 (sym (uuids_in-at servers m s.0 s.1) ∙ e ∙ uuids_in-at servers n t.0 t.1)

same_test : (servers : List Server) → IsApart servers → (m n : ℕ) → m < length servers → n < length servers → (uuids_in servers m == uuids_in servers n) ≡ (n == m)
same_test servers apart m n a b = elim (cases_eq n m) [
  | inl same ↦ eq-eqb (uuids_in servers m) (uuids_in servers n) (ap (uuids_in servers) (sym same)) ∙ sym (eq-eqb n m same)
  | inr other ↦ ne_eqb (uuids_in servers m) (uuids_in servers n) (λ e. other (sym (one_uuid servers apart m n a b e))) ∙ sym (ne_eqb n m other)
]

flip : (m n : ℕ) → (m == n) ≡ (n == m)
flip m n = grind (arith, nat_tests)

-- the transactions of a history are of so many servers
abbrev pub IsOf : ℕ → Txn → Type 0
IsOf count t = t.origin.0 < count

-- a set answers for a transaction whether it was executed
pub told-set_of : (servers : List Server) → IsApart servers → (txns : List Txn) (t : Txn) → All (IsOf (length servers)) txns → t.origin.0 < length servers
    → list_any (is_gtid (uuids_in servers) (uuids_in servers t.origin.0) t.seq) txns ≡ txns_hold t txns
told-set_of servers apart [] t all h = refl
told-set_of servers apart (x ∷ xs) t all h =
    let head : x.origin.0 < length servers = All-head (IsOf (length servers)) x xs all in
    let one : is_gtid (uuids_in servers) (uuids_in servers t.origin.0) t.seq x ≡ same_txn x t =
    ap (λ b. b && (t.seq == x.seq)) (same_test servers apart t.origin.0 x.origin.0 h head) ∙ ap (λ b. (x.origin.0 == t.origin.0) && b) (flip t.seq x.seq) in
    ap (λ b. b || list_any (is_gtid (uuids_in servers) (uuids_in servers t.origin.0) t.seq) xs) one
    ∙ ap (λ b. same_txn x t || b) (told-set_of servers apart xs t (All-tail (IsOf (length servers)) x xs all) h)

pub numbered-at : (count : ℕ) (txns : List Txn) (k : ℕ) (t : Txn) → All (IsNumbered count) txns → slice_get txns k ≡ Some t → IsNumbered count t
numbered-at count txns k t all at = subst (IsNumbered count) (get_or_from_slice_get txns k t t at) (all k t (slice_get_within txns k t at))

pub tells : (servers : List Server) (executed purged : List Reserved) (gtid : Bool) (m n : ℕ) (r s : Server) (e : Reserved) → AreGtids servers executed purged gtid
    → slice_get servers n ≡ Some r → slice_get servers m ≡ Some s → slice_get executed n ≡ Some e → TellsExecuted gtid (uuids_in servers) e.intervals r s
tells servers executed purged gtid m n r s e are at_n at_m by = record {
  told = λ on k t at.
      let kept = are.kept n r e at_n by in
      let set : e.intervals ≡ set_of (uuids_in servers) r.history.txns = kept.set ∙ ap (λ b. cond b (set_of (uuids_in servers) r.history.txns) []) on in
      let number = numbered-at (length servers) s.history.txns k t (are.numbered m s at_m) at in
      ap (λ xs. has_gtid (uuids_in servers) xs t) set
      ∙ holds-set_of (uuids_in servers) r.history.txns (uuids_in servers t.origin.0) t.seq
      ∙ told-set_of servers are.apart r.history.txns t (λ i d h. (are.numbered n r at_n i d h).origin) number.origin;
}

-- one server changes

pub uuids_in-set : (servers : List Server) (n : ℕ) (s s' : Server) → slice_get servers n ≡ Some s → s'.settings ≡ s.settings → (k : ℕ) → uuids_in (slice_set servers n s') k ≡ uuids_in servers k
uuids_in-set servers n s s' here same k = elim (cases_eq k n) [
  | inl is ↦
      ap (λ j. uuid_of (slice_get (slice_set servers n s') j)) is ∙ ap uuid_of (set_same servers n s s' here)
      ∙ ap (λ (x : Settings). x.uuid) same ∙ sym (ap uuid_of here) ∙ sym (ap (λ j. uuid_of (slice_get servers j)) is)
  | inr other ↦ ap uuid_of (set_other servers n s s' here k other)
]

module _ (servers : List Server) (executed purged : List Reserved) (gtid : Bool) (n : ℕ) (s s' : Server) (e e' p p' : Reserved)
    (are : AreGtids servers executed purged gtid) (here : slice_get servers n ≡ Some s) (beside : slice_get executed n ≡ Some e) (beside_purged : slice_get purged n ≡ Some p)
    (settings : s'.settings ≡ s.settings) where
  old_of : (m : ℕ) (t : Server) → slice_get (slice_set servers n s') m ≡ Some t → (u : Server) × (slice_get servers m ≡ Some u) × (t.settings ≡ u.settings)
  old_of m t at = elim (set_cases servers n s s' here m t at) [
    | inl new ↦ (s, ap (slice_get servers) new.0 ∙ here, ap (λ (x : Server). x.settings) new.1 ∙ settings)
    | inr old ↦ (t, old.1, refl)
  ]

  same_uuids : (k : ℕ) → uuids_in servers k ≡ uuids_in (slice_set servers n s') k
  same_uuids k = sym (uuids_in-set servers n s s' here settings k)

  IsSetOf-same : (t : Server) (txns : List Txn) (x : Reserved) → IsSetOf gtid (uuids_in servers) t txns x → IsSetOf gtid (uuids_in (slice_set servers n s')) t txns x
  IsSetOf-same t txns x is = record {
    set = is.set ∙ ap (λ xs. cond gtid xs []) (set_of-same (uuids_in servers) (uuids_in (slice_set servers n s')) same_uuids txns);
    room = is.room;
  }

  -- sets of some of each server's transactions
  sets_with : (some : Server → List Txn) (sets : List Reserved) (x x' : Reserved) → slice_get sets n ≡ Some x
      → ((m : ℕ) (t : Server) (y : Reserved) → slice_get servers m ≡ Some t → slice_get sets m ≡ Some y → IsSetOf gtid (uuids_in servers) t (some t) y)
      → IsSetOf gtid (uuids_in servers) s' (some s') x'
      → (m : ℕ) (t : Server) (y : Reserved) → slice_get (slice_set servers n s') m ≡ Some t → slice_get (slice_set sets n x') m ≡ Some y
      → IsSetOf gtid (uuids_in (slice_set servers n s')) t (some t) y
  sets_with some sets x x' at_n each kept m t y at by = elim (set_cases servers n s s' here m t at) [
    | inl new ↦ elim (set_cases sets n x x' at_n m y by) [
      | inl new' ↦
          subst (λ (z : Server). IsSetOf gtid (uuids_in (slice_set servers n s')) z (some z) y) (sym new.1)
          (subst (λ (z : Reserved). IsSetOf gtid (uuids_in (slice_set servers n s')) s' (some s') z) (sym new'.1) (IsSetOf-same s' (some s') x' kept))
      | inr old' ↦ absurd (old'.0 new.0)
    ]
    | inr old ↦ elim (set_cases sets n x x' at_n m y by) [
      | inl new' ↦ absurd (old.0 new'.0)
      | inr old' ↦ IsSetOf-same t (some t) y (each m t y old.1 old'.1)
    ]
  ]

  pub AreGtids-with : All (IsNumbered (length servers)) s'.history.txns → (s'.settings.logs ≡ true → length s'.log.log.entries ≡ length s'.history.txns)
      → IsSetOf gtid (uuids_in servers) s' s'.history.txns e' → IsSetOf gtid (uuids_in servers) s' (purged_txns s') p'
      → AreGtids (slice_set servers n s') (slice_set executed n e') (slice_set purged n p') gtid
  AreGtids-with numbered logged kept purges = record {
    paired = length-set executed n e' ∙ are.paired ∙ sym (length-set servers n s');
    purged_paired = length-set purged n p' ∙ are.purged_paired ∙ sym (length-set servers n s');
    apart = λ i j t u at_i at_j same.
        let x = old_of i t at_i in
        let y = old_of j u at_j in
        are.apart i j x.0 y.0 x.1 y.1 (sym (ap (λ (z : Settings). z.uuid) x.2) ∙ same ∙ ap (λ (z : Settings). z.uuid) y.2);
    numbered = λ m t at. elim (set_cases servers n s s' here m t at) [
      | inl new ↦ subst (λ (x : Server). All (IsNumbered (length (slice_set servers n s'))) x.history.txns) (sym new.1) (subst (λ k. All (IsNumbered k) s'.history.txns) (sym (length-set servers n s')) numbered)
      | inr old ↦ subst (λ k. All (IsNumbered k) t.history.txns) (sym (length-set servers n s')) (are.numbered m t old.1)
    ];
    logged = λ m t at. elim (set_cases servers n s s' here m t at) [
      | inl new ↦ subst (λ (x : Server). x.settings.logs ≡ true → length x.log.log.entries ≡ length x.history.txns) (sym new.1) logged
      | inr old ↦ are.logged m t old.1
    ];
    kept = sets_with (λ t. t.history.txns) executed e e' beside are.kept kept;
    purges = sets_with purged_txns purged p p' beside_purged are.purges purges;
  }

-- two sets are kept beside each server
pub set_beside : (servers : List Server) (executed purged : List Reserved) (gtid : Bool) (n : ℕ) (s : Server) → AreGtids servers executed purged gtid → slice_get servers n ≡ Some s
    → (e : Reserved) × (slice_get executed n ≡ Some e)
set_beside servers executed purged gtid n s are here =
    let within = slice_get_within servers n s here in
    let paired = are.paired in
    there-set executed n (omega arith)

pub purged_beside : (servers : List Server) (executed purged : List Reserved) (gtid : Bool) (n : ℕ) (s : Server) → AreGtids servers executed purged gtid → slice_get servers n ≡ Some s
    → (p : Reserved) × (slice_get purged n ≡ Some p)
purged_beside servers executed purged gtid n s are here =
    let within = slice_get_within servers n s here in
    let paired = are.purged_paired in
    there-set purged n (omega arith)

-- the set of other transactions, or of a server with the same room, that are the same
IsSetOf-moved : (gtid : Bool) (uuid : ℕ → ℕ) (s s' : Server) (txns txns' : List Txn) (e : Reserved) → s'.history ≡ s.history → txns' ≡ txns → IsSetOf gtid uuid s txns e → IsSetOf gtid uuid s' txns' e
IsSetOf-moved gtid uuid s s' txns txns' e history same is = record {
  set = is.set ∙ ap (λ (ts : List Txn). cond gtid (set_of uuid ts) []) (sym same);
  room = λ on. subst (λ (h : Kept). h.room ≤ e.room) (sym history) (is.room on);
}

-- a change that leaves the history, how many transactions the log has, and which of them are purged
pub AreGtids-still : (servers : List Server) (executed purged : List Reserved) (gtid : Bool) (n : ℕ) (s s' : Server) → AreGtids servers executed purged gtid → slice_get servers n ≡ Some s
    → s'.settings ≡ s.settings → s'.history ≡ s.history → length s'.log.log.entries ≡ length s.log.log.entries → purged_txns s' ≡ purged_txns s
    → AreGtids (slice_set servers n s') executed purged gtid
AreGtids-still servers executed purged gtid n s s' are here settings history entries purge =
    let e = set_beside servers executed purged gtid n s are here in
    let p = purged_beside servers executed purged gtid n s are here in
    subst (λ (es : List Reserved). AreGtids (slice_set servers n s') es purged gtid) (set_self executed n e.0 e.1)
    (subst (λ (ps : List Reserved). AreGtids (slice_set servers n s') (slice_set executed n e.0) ps gtid) (set_self purged n p.0 p.1)
    (AreGtids-with servers executed purged gtid n s s' e.0 e.0 p.0 p.0 are here e.1 p.1 settings
    (subst (λ (h : Kept). All (IsNumbered (length servers)) h.txns) (sym history) (are.numbered n s here))
    (λ on. entries ∙ are.logged n s here (ap (λ (x : Settings). x.logs) (sym settings) ∙ on) ∙ ap (λ (h : Kept). length h.txns) (sym history))
    (IsSetOf-moved gtid (uuids_in servers) s s' s.history.txns s'.history.txns e.0 history (ap (λ (h : Kept). h.txns) history) (are.kept n s e.0 here e.1))
    (IsSetOf-moved gtid (uuids_in servers) s s' (purged_txns s) (purged_txns s') p.0 history purge (are.purges n s p.0 here p.1))))

-- what is kept beside a server that executes one more transaction
abbrev pub kept_with : Bool → ℕ → ℕ → Reserved → Reserved
kept_with gtid u n e = cond gtid (record e { intervals = with_pair u n e.intervals }) e

-- a set that is kept has room for one more
pub set-room : (gtid : Bool) (uuid : ℕ → ℕ) (s : Server) (e : Reserved) → IsSetOf gtid uuid s s.history.txns e → length s.history.txns < s.history.room → gtid ≡ true → length e.intervals < e.room
set-room gtid uuid s e kept room on =
    let set : e.intervals ≡ set_of uuid s.history.txns = kept.set ∙ ap (λ b. cond b (set_of uuid s.history.txns) []) on in
    let few = length-set_of uuid s.history.txns in
    let enough = kept.room on in
    rw set (omega (arith, few, enough, room))

-- one more transaction is executed
pub AreGtids-took : (servers : List Server) (executed purged : List Reserved) (gtid : Bool) (n : ℕ) (s : Server) (e : Reserved) (t : Txn) (to : Coord) (u : ℕ) → AreGtids servers executed purged gtid
    → slice_get servers n ≡ Some s → slice_get executed n ≡ Some e → IsNumbered (length servers) t → u ≡ uuids_in servers t.origin.0 → IsFit s → 0 < t.size
    → AreGtids (slice_set servers n (record (took s t) { exec = to })) (slice_set executed n (kept_with gtid u t.seq e)) purged gtid
AreGtids-took servers executed purged gtid n s e t to u are here beside numbered is fit some =
    let kept = are.kept n s e here beside in
    let p = purged_beside servers executed purged gtid n s are here in
    subst (λ (ps : List Reserved). AreGtids (slice_set servers n (record (took s t) { exec = to })) (slice_set executed n (kept_with gtid u t.seq e)) ps gtid) (set_self purged n p.0 p.1)
    (AreGtids-with servers executed purged gtid n s (record (took s t) { exec = to }) e (kept_with gtid u t.seq e) p.0 p.0 are here beside p.1 refl
    (All-push (IsNumbered (length servers)) s.history.txns t (are.numbered n s here) numbered)
    (λ on.
    ap (λ b. length (cond b (record s.log { log = push s.log.log t.size; txns = s.log.txns ++ t ∷ [] }) s.log).log.entries) on
    ∙ length-push s.log.log t.size ∙ ap (λ k. k + 1) (are.logged n s here on) ∙ sym (length-append s.history.txns (t ∷ [])))
    (with_set gtid kept)
    (still p.0 (are.purges n s p.0 here p.1)))
  where
    still : (x : Reserved) → IsSetOf gtid (uuids_in servers) s (purged_txns s) x → IsSetOf gtid (uuids_in servers) (record (took s t) { exec = to }) (purged_txns (record (took s t) { exec = to })) x
    still x purges = record {
      set = purges.set ∙ ap (λ (ts : List Txn). cond gtid (set_of (uuids_in servers) ts) []) (sym (purged_txns-took s t to fit some));
      room = purges.room;
    }

    with_set : (g : Bool) → IsSetOf g (uuids_in servers) s s.history.txns e → IsSetOf g (uuids_in servers) (record (took s t) { exec = to }) (s.history.txns ++ t ∷ []) (kept_with g u t.seq e)
    with_set true kept = record {
      set = ap (λ v. with_pair v t.seq e.intervals) is ∙ ap (λ xs. with_gtid (uuids_in servers) xs t) kept.set ∙ sym (set_of-push (uuids_in servers) s.history.txns t);
      room = kept.room;
    }
    with_set false kept = record { set = kept.set; room = kept.room }

-- what is kept beside a server whose log is kept from a later file on
abbrev pub purged_with : Bool → (ℕ → ℕ) → List Txn → Reserved → Reserved
purged_with gtid uuid txns p = cond gtid (record p { intervals = with_gtids uuid p.intervals txns }) p

-- the set has room for what is purged then
pub purge-room : (gtid : Bool) (uuid : ℕ → ℕ) (s : Server) (p : Reserved) (first : ℕ) → IsFit s → IsSetOf gtid uuid s (purged_txns s) p → s.first ≤ first → first ≤ s.log.log.files
    → purged_len s ≤ purged_len (from_file first s) → gtid ≡ true → length p.intervals + (purged_len (from_file first s) - purged_len s) ≤ p.room
purge-room gtid uuid s p first fit kept low high more on =
    let set : p.intervals ≡ set_of uuid (purged_txns s) = kept.set ∙ ap (λ b. cond b (set_of uuid (purged_txns s)) []) on in
    let few = length-set_of uuid (purged_txns s) in
    let before = length-take (purged_len s) s.history.txns in
    let within = purged_len-later s first fit low high in
    let room = fit.within in
    let enough = kept.room on in
    rw set (omega (arith, few, before, within, room, enough, more))

-- files are purged
pub AreGtids-purged : (servers : List Server) (executed purged : List Reserved) (gtid : Bool) (n : ℕ) (s : Server) (p : Reserved) (first : ℕ) (uuid : ℕ → ℕ) → AreGtids servers executed purged gtid
    → slice_get servers n ≡ Some s → slice_get purged n ≡ Some p → ((k : ℕ) → uuid k ≡ uuids_in servers k) → purged_len s ≤ purged_len (from_file first s)
    → AreGtids (slice_set servers n (from_file first s)) executed (slice_set purged n (purged_with gtid uuid (newly_purged first s) p)) gtid
AreGtids-purged servers executed purged gtid n s p first uuid are here by same more =
    let e = set_beside servers executed purged gtid n s are here in
    let kept = are.kept n s e.0 here e.1 in
    let p' = purged_with gtid uuid (newly_purged first s) p in
    subst (λ (es : List Reserved). AreGtids (slice_set servers n (from_file first s)) es (slice_set purged n (purged_with gtid uuid (newly_purged first s) p)) gtid) (set_self executed n e.0 e.1)
    (AreGtids-with servers executed purged gtid n s (from_file first s) e.0 e.0 p p' are here e.1 by refl (are.numbered n s here) (are.logged n s here)
    (record { set = kept.set; room = kept.room }) (with_set gtid (are.purges n s p here by)))
  where
    with_set : (g : Bool) → IsSetOf g (uuids_in servers) s (purged_txns s) p → IsSetOf g (uuids_in servers) (from_file first s) (purged_txns (from_file first s)) (purged_with g uuid (newly_purged first s) p)
    with_set true kept = record {
      set =
          fold-same uuid (uuids_in servers) same (newly_purged first s) p.intervals
          ∙ ap (λ xs. with_gtids (uuids_in servers) xs (newly_purged first s)) kept.set
          ∙ sym (fold-append (with_gtid (uuids_in servers)) [] (purged_txns s) (newly_purged first s))
          ∙ ap (set_of (uuids_in servers)) (sym (take-range s.history.txns (purged_len s) (purged_len (from_file first s)) more));
      room = kept.room;
    }
    with_set false kept = record { set = kept.set; room = kept.room }
