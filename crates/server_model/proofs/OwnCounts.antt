-- How many transactions of its own each server has executed, as servers change.
use Rattle.std.proofs.Common.{◌≡◌, ℕ, ◌+◌, ◌≤◌, List, [], ◌∷◌, ◌++◌, length, refl, sym, ◌∙◌, ap, Some, arith, zero, suc, slice_get, slice_set, nat_eq}
use Rattle.server_model.proofs.Prelude.{Kept, Server, Txn, count_by-le-length, count_own, own_counts, own_from, same_Some}
use Rattle.server_model.proofs.Lists.{set_self}

length-own_from : (n : ℕ) (servers : List Server) → length (own_from n servers) ≡ length servers
length-own_from n [] = refl
length-own_from n (s ∷ ss) = ap suc (length-own_from (n + 1) ss)

own_from-at : (n : ℕ) (servers : List Server) (i : ℕ) (s : Server) → slice_get servers i ≡ Some s
    → slice_get (own_from n servers) i ≡ Some (count_own (n + i) s.history.txns)
own_from-at n [] i s h = cc
own_from-at n (x ∷ ss) zero s h =
    let number : n ≡ n + 0 = omega arith in
    ap (λ (y : Server). Some (count_own n y.history.txns)) (same_Some x s h) ∙ ap (λ k. Some (count_own k s.history.txns)) number
own_from-at n (x ∷ ss) (suc i) s h =
    let number : n + 1 + i ≡ n + suc i = omega arith in
    own_from-at (n + 1) ss i s h ∙ ap (λ k. Some (count_own k s.history.txns)) number

own_from-set : (n : ℕ) (servers : List Server) (i : ℕ) (s : Server)
    → slice_set (own_from n servers) i (count_own (n + i) s.history.txns) ≡ own_from n (slice_set servers i s)
own_from-set n [] i s = refl
own_from-set n (x ∷ ss) zero s =
    let number : n + 0 ≡ n = omega arith in ap (λ k. count_own k s.history.txns ∷ own_from (n + 1) ss) number
own_from-set n (x ∷ ss) (suc i) s =
    let number : n + suc i ≡ n + 1 + i = omega arith in
    ap (λ k. count_own n x.history.txns ∷ slice_set (own_from (n + 1) ss) i (count_own k s.history.txns)) number
    ∙ ap (λ ks. count_own n x.history.txns ∷ ks) (own_from-set (n + 1) ss i s)

pub own_from-snoc : (n : ℕ) (servers : List Server) (s : Server)
    → own_from n (servers ++ s ∷ []) ≡ own_from n servers ++ count_own (n + length servers) s.history.txns ∷ []
own_from-snoc n [] s = let number : n ≡ n + 0 = omega arith in ap (λ k. count_own k s.history.txns ∷ []) number
own_from-snoc n (x ∷ ss) s =
    let number : n + 1 + length ss ≡ n + suc (length ss) = omega arith in
    ap (λ ks. count_own n x.history.txns ∷ ks)
    (own_from-snoc (n + 1) ss s ∙ ap (λ k. own_from (n + 1) ss ++ count_own k s.history.txns ∷ []) number)

pub length-own : (servers : List Server) (own : List ℕ) → own ≡ own_counts servers → length own ≡ length servers
length-own servers own is = ap length is ∙ length-own_from 0 servers

-- the count of a server that is there
pub own-at : (servers : List Server) (own : List ℕ) (n k : ℕ) (s : Server) → own ≡ own_counts servers → slice_get servers n ≡ Some s → slice_get own n ≡ Some k
    → k ≡ count_own n s.history.txns
own-at servers own n k s is here at =
    let number : 0 + n ≡ n = omega arith in
    same_Some k (count_own n s.history.txns)
    (sym at ∙ ap (λ ks. slice_get ks n) is ∙ own_from-at 0 servers n s here ∙ ap (λ j. Some (count_own j s.history.txns)) number)

-- it is as long as its history at most
pub own-few : (n k : ℕ) (s : Server) → k ≡ count_own n s.history.txns → k ≤ length s.history.txns
own-few n k s is = let few = count_by-le-length (λ (t : Txn). nat_eq t.origin.0 n) s.history.txns in omega arith

-- another server, with its count
pub own-set : (servers : List Server) (own : List ℕ) (n k : ℕ) (s : Server) → own ≡ own_counts servers → k ≡ count_own n s.history.txns
    → slice_set own n k ≡ own_counts (slice_set servers n s)
own-set servers own n k s is count =
    let number : n ≡ 0 + n = omega arith in
    ap (λ ks. slice_set ks n k) is ∙ ap (λ j. slice_set (own_counts servers) n j) (count ∙ ap (λ j. count_own j s.history.txns) number)
    ∙ own_from-set 0 servers n s

-- a change that leaves the history
pub own-still : (servers : List Server) (own : List ℕ) (n : ℕ) (s s' : Server) → own ≡ own_counts servers → slice_get servers n ≡ Some s → s'.history ≡ s.history
    → own ≡ own_counts (slice_set servers n s')
own-still servers own n s s' is here history =
    let number : 0 + n ≡ n = omega arith in
    let count = count_own n s.history.txns in
    let there : slice_get own n ≡ Some count =
    ap (λ ks. slice_get ks n) is ∙ own_from-at 0 servers n s here ∙ ap (λ j. Some (count_own j s.history.txns)) number in
    sym (set_self own n count there) ∙ own-set servers own n count s' is (ap (λ (h : Kept). count_own n h.txns) (sym history))
