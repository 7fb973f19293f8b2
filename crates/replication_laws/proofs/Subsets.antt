-- Of histories that agree, one whose set is within another's is its prefix.
use Rattle.std.proofs.Common.{◌≡◌, ℕ, ◌+◌, ◌<◌, ◌≤◌, Bool, true, false, cond, List, [], ◌∷◌, length, refl, sym, ◌∙◌, ap, subst, ◌||◌, Option, Some, None, arith, zero, suc, take, get_or, slice_get, All}
use Rattle.replication_laws.proofs.Prelude.{Interval, IsKin, IsObserved, Safe, Server, Txn, World, errant_set, false_from_ne_true, has_gtid, held_len}
use Rattle.replication_laws.proofs.Prelude.{histories, history_of, holds-set_of, length-take, length-take-le, nat_tests, nil_from_length, none-errant}
use Rattle.replication_laws.proofs.Prelude.{or_right, prefix_len, same_Some, same_txn, server_at, set_of, slice_get-get_or, slice_get-take}
use Rattle.replication_laws.proofs.Prelude.{slice_get_within, take-length, told-set_of, uuids}
use Rattle.replication_laws.proofs.Prelude.Histories.{holds}
use Rattle.replication_laws.proofs.Histories.{IsKin-once, holds-at}

-- every transaction of one history is in another
abbrev pub IsWithin : List Txn → List Txn → Type 0
IsWithin xs ys = (i : ℕ) (x : Txn) → slice_get xs i ≡ Some x → holds x ys ≡ true

same_txn-refl : (t : Txn) → same_txn t t ≡ true
same_txn-refl t = grind (arith, nat_tests)

slice_get-take_front : (xs : List Txn) (n i : ℕ) → i < n → slice_get (take n xs) i ≡ slice_get xs i
slice_get-take_front [] zero i lt = refl
slice_get-take_front [] (suc n) i lt = refl
slice_get-take_front (x ∷ xs) zero i lt = absurd (omega arith)
slice_get-take_front (x ∷ xs) (suc n) zero lt = refl
slice_get-take_front (x ∷ xs) (suc n) (suc i) lt = slice_get-take_front xs n i (omega arith)

last_of : (xs : List Txn) (k : ℕ) → length xs ≡ suc k → (x : Txn) × (slice_get xs k ≡ Some x)
last_of [] k h = absurd (omega arith)
last_of (x ∷ xs) zero h = (x, refl)
last_of (x ∷ xs) (suc k) h = last_of xs k (omega arith)

-- of histories that agree, one that is within another is its prefix
pub prefix-from_within : (h : ℕ → List Txn) → IsKin h → (a b : ℕ) → IsWithin (h a) (h b) → take (length (h a)) (h b) ≡ h a
prefix-from_within h kin a b within = go (length (h a)) refl
  where
    whole : (k : ℕ) → length (h a) ≡ suc k → take (suc k) (h b) ≡ h a
    whole k e =
        let last = last_of (h a) k e in
        let there = holds-at last.0 (h b) (within k last.0 last.1) in
        let one : k + 1 ≡ suc k = omega arith in
        let other : there.0 + 1 ≤ length (h b) = (let lt : there.0 < length (h b) = slice_get_within (h b) there.0 there.1 there.2 in omega arith) in
        let same : same_txn last.0 there.1 ≡ true = (let s = there.3 in grind (arith, nat_tests)) in
        let equal : take (k + 1) (h a) ≡ take (there.0 + 1) (h b) = kin.alike a b k there.0 last.0 there.1 last.1 there.2 same in
        let all : take (k + 1) (h a) ≡ h a = ap (λ n. take n (h a)) (one ∙ sym e) ∙ take-length (h a) in
        let lengths : there.0 + 1 ≡ suc k = omega (arith, ap length (sym equal ∙ all), length-take-le (there.0 + 1) (h b) other) in
        ap (λ n. take n (h b)) (sym lengths) ∙ sym equal ∙ all

    go : (n : ℕ) → length (h a) ≡ n → take n (h b) ≡ h a
    go zero e = sym (nil_from_length (h a) e)
    go (suc k) e = whole k e

-- the longest prefix that passes a test ends before an element that fails it
prefix_len-is : (p : Txn → Bool) (ys : List Txn) (n : ℕ) → n ≤ length ys → ((i : ℕ) (y : Txn) → i < n → slice_get ys i ≡ Some y → p y ≡ true)
    → ((y : Txn) → slice_get ys n ≡ Some y → p y ≡ false) → prefix_len p ys ≡ n
prefix_len-is p [] n le pass fail = omega arith
prefix_len-is p (y ∷ ys) zero le pass fail = ap (λ b. cond b (1 + prefix_len p ys) 0) (fail y refl)
prefix_len-is p (y ∷ ys) (suc n) le pass fail =
    ap (λ b. cond b (1 + prefix_len p ys) 0) (pass 0 y (omega arith) refl)
    ∙ ap (λ m. 1 + m) (prefix_len-is p ys n (omega arith) (λ i x lt h. pass (suc i) x (omega arith) h) fail) ∙ omega arith

prefix_len-same : (p q : Txn → Bool) (ys : List Txn) → ((i : ℕ) (y : Txn) → slice_get ys i ≡ Some y → p y ≡ q y) → prefix_len p ys ≡ prefix_len q ys
prefix_len-same p q [] same = refl
prefix_len-same p q (y ∷ ys) same =
    ap (λ b. cond b (1 + prefix_len p ys) 0) (same 0 y refl)
    ∙ ap (λ m. cond (q y) (1 + m) 0) (prefix_len-same p q ys (λ i x h. same (suc i) x h))

holds-from : (t : Txn) (xs : List Txn) (i : ℕ) → slice_get xs i ≡ Some t → holds t xs ≡ true
holds-from t [] i h = cc
holds-from t (x ∷ xs) zero h =
    let same : x ≡ t = same_Some x t h in
    ap (λ (y : Txn). same_txn y t || holds t xs) same ∙ ap (λ b. b || holds t xs) (same_txn-refl t)
holds-from t (x ∷ xs) (suc i) h = or_right (same_txn x t) (holds t xs) (holds-from t xs i h)

-- the longest prefix of the source's history that is within another history that agrees is that history itself
front_len-is : (h : ℕ → List Txn) → IsKin h → (a b : ℕ) → take (length (h a)) (h b) ≡ h a → prefix_len (λ t. holds t (h a)) (h b) ≡ length (h a)
front_len-is h kin a b front =
    prefix_len-is (λ t. holds t (h a)) (h b) (length (h a)) (omega (arith, ap length front, length-take (length (h a)) (h b)))
    (λ i y lt g. holds-from y (h a) i (in_front i y lt g))
    (λ y g. false_from_ne_true (holds y (h a)) (λ held. not_again y g (holds-at y (h a) held)))
  where
    in_front : (i : ℕ) (y : Txn) → i < length (h a) → slice_get (h b) i ≡ Some y → slice_get (h a) i ≡ Some y
    in_front i y lt g = ap (λ xs. slice_get xs i) (sym front) ∙ slice_get-take_front (h b) (length (h a)) i lt ∙ g

    not_again : (y : Txn) → slice_get (h b) (length (h a)) ≡ Some y → ((j : ℕ) × (x : Txn) × (slice_get (h a) j ≡ Some x) × (same_txn x y ≡ true)) → ⊥
    not_again y g at =
        let within : at.0 < length (h a) = slice_get_within (h a) at.0 at.1 at.2 in
        let there : slice_get (h b) at.0 ≡ Some at.1 = slice_get-take (h b) (length (h a)) at.0 at.1 (ap (λ xs. slice_get xs at.0) front ∙ at.2) in
        let same : at.0 ≡ length (h a) = IsKin-once h kin b at.0 (length (h a)) at.1 y there g at.3 in
        omega arith

module _ (w : World) (safe : Safe w) where
  -- each transaction is of a server that is there
  origin-there : (a i : ℕ) (x : Txn) → slice_get (histories w a) i ≡ Some x → x.origin.0 < length w.servers
  origin-there a i x at =
      let home = safe.kin.home a i x at in
      by (server_at w x.origin.0) refl home.0 home.1
    where
      by : (o : Option Server) → server_at w x.origin.0 ≡ o → (j : ℕ) → slice_get (history_of (server_at w x.origin.0)) j ≡ Some x → x.origin.0 < length w.servers
      by None none j h =
          let nothing : slice_get {X = Txn} [] j ≡ Some x = ap (λ (o : Option Server). slice_get (history_of o) j) (sym none) ∙ h in cc
      by (Some s) here j h = slice_get_within w.servers x.origin.0 s here

  origins : (n : ℕ) (s : Server) → server_at w n ≡ Some s → All (λ (x : Txn). x.origin.0 < length w.servers) s.history.txns
  origins n s at = λ k d h.
      origin-there n k (get_or s.history.txns k d) (ap (λ (o : Option Server). slice_get (history_of o) k) at ∙ slice_get-get_or s.history.txns k d h)

  -- a server's set answers for each transaction of a history whether the server executed it
  tells : (n : ℕ) (s : Server) → server_at w n ≡ Some s → (x : Txn) → x.origin.0 < length w.servers → has_gtid (uuids w) (set_of (uuids w) s.history.txns) x ≡ holds x s.history.txns
  tells n s at x h =
      holds-set_of (uuids w) s.history.txns (uuids w x.origin.0) x.seq ∙ told-set_of w.servers safe.uuids s.history.txns x (origins n s at) h

  module _ (n to : ℕ) (r s : Server) (here : server_at w n ≡ Some r) (there : server_at w to ≡ Some s) where
    at_n : histories w n ≡ r.history.txns
    at_n = ap history_of here

    at_to : histories w to ≡ s.history.txns
    at_to = ap history_of there

    -- a server whose set is within an observed one that is within the source's has executed a prefix of what the source
    -- has
    pub prefix-observed : (observed : List Interval) → IsObserved w observed to → errant_set (uuids w) observed r.history.txns ≡ [] → take (length r.history.txns) s.history.txns ≡ r.history.txns
    prefix-observed observed within none =
        let inside : IsWithin (histories w n) (histories w to) = λ i x at.
        let in_r : slice_get r.history.txns i ≡ Some x = ap (λ xs. slice_get xs i) (sym at_n) ∙ at in
        let origin = origin-there n i x at in
        ap (holds x) at_to ∙ sym (tells to s there x origin) ∙ within s there (uuids w x.origin.0) x.seq (none-errant (uuids w) observed r.history.txns none i x in_r) in
        let front = prefix-from_within (histories w) safe.kin n to inside in
        subst (λ (xs : List Txn). take (length xs) s.history.txns ≡ xs) at_n (subst (λ (ys : List Txn). take (length (histories w n)) ys ≡ histories w n) at_to front)

    -- and the longest prefix of the source's history that its set holds is its own history
    pub held-prefix : take (length r.history.txns) s.history.txns ≡ r.history.txns → held_len (uuids w) (set_of (uuids w) r.history.txns) s.history.txns ≡ length r.history.txns
    held-prefix front =
        let whole : take (length (histories w n)) (histories w to) ≡ histories w n =
        subst (λ (xs : List Txn). take (length xs) (histories w to) ≡ xs) (sym at_n) (subst (λ (ys : List Txn). take (length r.history.txns) ys ≡ r.history.txns) (sym at_to) front) in
        let is = front_len-is (histories w) safe.kin n to whole in
        prefix_len-same (λ x. has_gtid (uuids w) (set_of (uuids w) r.history.txns) x) (λ x. holds x r.history.txns) s.history.txns
        (λ i x at. tells n r here x (origin-there to i x (ap (λ xs. slice_get xs i) at_to ∙ at)))
        ∙ ap (λ (xs : List Txn). prefix_len (λ x. holds x xs) s.history.txns) (sym at_n)
        ∙ ap (λ (ys : List Txn). prefix_len (λ x. holds x (histories w n)) ys) (sym at_to) ∙ is ∙ ap (λ (xs : List Txn). length xs) at_n
