-- The histories of a `Sound` opening agree.
use Rattle.std.proofs.Common.{◌≡◌, ℕ, ◌+◌, ◌<◌, ◌≤◌, true, List, [], ◌∷◌, ◌++◌, length, take, refl, sym, ◌∙◌, ap, subst, inl, inr, Option, Some, None, arith, zero, suc, add-one, slice_get, ◌==◌, ◌&&◌, ◌||◌, not}
use Rattle.opening_laws.proofs.Prelude.{Grounded, IsKin, IsNumbered, IsSound, Root, ServerInit, ServerNo, Txn, Under, agree-get, and_parts, cases_eq}
use Rattle.opening_laws.proofs.Prelude.{cases_order, count_at, count_of, count_own, count_own-push, count_own-take-le, eq-eqb, eqb-true}
use Rattle.opening_laws.proofs.Prelude.{histories_agree, history_at, history_numbered, holds-at, length-take, links_after, links_agree}
use Rattle.opening_laws.proofs.Prelude.{listed_history, listed_numbered, nat_tests, number_of, parts_at, parts_of, root_of, same_before}
use Rattle.opening_laws.proofs.Prelude.{same_from_push, same_Some, same_txn, same_txn-swap, slice_get-take, slice_get-take_within, source_of, sources}
use Rattle.opening_laws.proofs.Prelude.{take-length, take-more, take-take, tick}

-- one history

take-suc : (xs : List Txn) (i : ℕ) (x : Txn) → slice_get xs i ≡ Some x → take (suc i) xs ≡ take i xs ++ x ∷ []
take-suc xs i x h = ap (λ k. take k xs) (sym (add-one i)) ∙ take-more xs i x h

-- an earlier transaction of one origin has another number
numbered-apart : (history : List Txn) → IsNumbered history → (i j : ℕ) (x y : Txn) → slice_get history i ≡ Some x → slice_get history j ≡ Some y → same_txn x y ≡ true → i < j → ⊥
numbered-apart history numbered i j x y at_i at_j same lt =
    let origin : x.origin.0 ≡ y.origin.0 = grind (arith, nat_tests) in
    let seq : x.seq ≡ y.seq = grind (arith, nat_tests) in
    let number_x : x.seq ≡ count_own y.origin.0 (take i history) + 1 = subst (λ (p : ℕ). x.seq ≡ count_own p (take i history) + 1) origin (numbered i x at_i) in
    let number_y : y.seq ≡ count_own y.origin.0 (take j history) + 1 = numbered j y at_j in
    let own : tick (x.origin.0 == y.origin.0) ≡ 1 = ap tick (eq-eqb x.origin.0 y.origin.0 origin) in
    let one_more : count_own y.origin.0 (take (i + 1) history) ≡ count_own y.origin.0 (take i history) + tick (x.origin.0 == y.origin.0) =
    ap (count_own y.origin.0) (take-more history i x at_i) ∙ count_own-push y.origin.0 (take i history) x in
    let no_more : count_own y.origin.0 (take (i + 1) history) ≤ count_own y.origin.0 (take j history) =
    subst (λ (xs : List Txn). count_own y.origin.0 xs ≤ count_own y.origin.0 (take j history)) (take-take (i + 1) j history (omega arith)) (count_own-take-le y.origin.0 (take j history) (i + 1)) in
    omega arith

-- so it holds no transaction twice
numbered-once : (history : List Txn) → IsNumbered history → (i j : ℕ) (x y : Txn) → slice_get history i ≡ Some x → slice_get history j ≡ Some y → same_txn x y ≡ true → i ≡ j
numbered-once history numbered i j x y at_i at_j same =
    elim (cases_order i j) [
      | inl here ↦ here
      | inr apart ↦ elim apart [
        | inl before ↦ absurd (numbered-apart history numbered i j x y at_i at_j same before)
        | inr after ↦ absurd (numbered-apart history numbered j i y x at_j at_i (same_txn-swap y x ∙ same) after)
      ]
    ]

-- two histories that agree

abbrev before_at : Option Txn → List Txn → ℕ → Option Txn
before_at before history zero = before
before_at before history (suc i) = slice_get history i

links-at : (before : Option Txn) (history : List Txn) (i : ℕ) (x : Txn) → slice_get history i ≡ Some x → slice_get (links_after before history) i ≡ Some (before_at before history i, x)
links-at before [] i x h = cc
links-at before (t ∷ ts) zero x h = ap (λ y. Some (before, y)) (same_Some t x h)
links-at before (t ∷ ts) (suc zero) x h = links-at (Some t) ts zero x h
links-at before (t ∷ ts) (suc (suc i)) x h = links-at (Some t) ts (suc i) x h

-- a transaction that is in both follows the same one in both, and is whole the same
record IsLinked (a b : List Txn) (i j : ℕ) (x y : Txn) : Type 0 where
  before : same_before (before_at None a i) (before_at None b j) ≡ true
  size : x.size ≡ y.size

linked : (a b : List Txn) → histories_agree a b ≡ true → (i j : ℕ) (x y : Txn) → slice_get a i ≡ Some x → slice_get b j ≡ Some y → same_txn x y ≡ true → IsLinked a b i j x y
linked a b agree i j x y at_i at_j same =
    let l : links_agree (before_at None a i, x) (before_at None b j, y) ≡ true =
    agree-get a b i j (before_at None a i, x) (before_at None b j, y) agree (links-at None a i x at_i) (links-at None b j y at_j) in
    let both : (same_before (before_at None a i) (before_at None b j) && x.size == y.size) ≡ true =
    ap (λ c. not c || (same_before (before_at None a i) (before_at None b j) && x.size == y.size)) (sym same) ∙ l in
    let parts = and_parts (same_before (before_at None a i) (before_at None b j)) (x.size == y.size) both in
    record { before = parts.0; size = eqb-true x.size y.size parts.1 }

same_whole : (x y : Txn) → same_txn x y ≡ true → x.size ≡ y.size → x ≡ y
same_whole x y same size =
    let parts = and_parts (x.origin.0 == y.origin.0) (x.seq == y.seq) same in
    let origin : x.origin.0 ≡ y.origin.0 = eqb-true x.origin.0 y.origin.0 parts.0 in
    let seq : x.seq ≡ y.seq = eqb-true x.seq y.seq parts.1 in
    λ i. record { origin = record { 0 = origin i }; seq = seq i; size = size i }

previous : (xs : List Txn) (i : ℕ) (x : Txn) → slice_get xs (suc i) ≡ Some x → (y : Txn) × (slice_get xs i ≡ Some y)
previous [] i x h = cc
previous (y ∷ ys) zero x h = (y, refl)
previous (y ∷ ys) (suc i) x h = previous ys i x h

-- histories that agree are equal up to a transaction that they share
agree-alike : (a b : List Txn) → histories_agree a b ≡ true → (i j : ℕ) (x y : Txn) → slice_get a i ≡ Some x → slice_get b j ≡ Some y → same_txn x y ≡ true → take (suc i) a ≡ take (suc j) b
agree-alike a b agree zero zero x y at_i at_j same =
    let link = linked a b agree 0 0 x y at_i at_j same in
    take-suc a 0 x at_i ∙ ap (λ (z : Txn). z ∷ []) (same_whole x y same link.size) ∙ sym (take-suc b 0 y at_j)
agree-alike a b agree zero (suc j) x y at_i at_j same =
    let link = linked a b agree 0 (suc j) x y at_i at_j same in
    let last = previous b j y at_j in
    let first : same_before None (Some last.0) ≡ true = ap (same_before None) (sym last.1) ∙ link.before in
    cc
agree-alike a b agree (suc i) zero x y at_i at_j same =
    let link = linked a b agree (suc i) 0 x y at_i at_j same in
    let last = previous a i x at_i in
    let first : same_before (Some last.0) None ≡ true = ap (λ o. same_before o None) (sym last.1) ∙ link.before in
    cc
agree-alike a b agree (suc i) (suc j) x y at_i at_j same =
    let link = linked a b agree (suc i) (suc j) x y at_i at_j same in
    let last_a = previous a i x at_i in
    let last_b = previous b j y at_j in
    let last_same : same_txn last_a.0 last_b.0 ≡ true = ap (λ o. same_before o (Some last_b.0)) (sym last_a.1) ∙ ap (same_before (slice_get a i)) (sym last_b.1) ∙ link.before in
    let front : take (suc i) a ≡ take (suc j) b = agree-alike a b agree i j last_a.0 last_b.0 last_a.1 last_b.1 last_same in
    take-suc a (suc i) x at_i ∙ ap (λ xs. xs ++ x ∷ []) front ∙ ap (λ z. take (suc j) b ++ z ∷ []) (same_whole x y same link.size) ∙ sym (take-suc b (suc j) y at_j)

-- what a server has executed is a prefix of what a server without a source lists
record IsFront (servers : List ServerInit) (history : List Txn) : Type 0 where
  root : ℕ
  init : ServerInit
  count : ℕ
  there : slice_get servers root ≡ Some init
  top : init.source ≡ None
  front : history ≡ take count (listed_history (parts_of init))

-- a transaction that a server has executed is at the same place there
record Stands (servers : List ServerInit) (history : List Txn) (k : ℕ) (t : Txn) : Type 0 where
  root : ℕ
  init : ServerInit
  there : slice_get servers root ≡ Some init
  top : init.source ≡ None
  at : slice_get (listed_history (parts_of init)) k ≡ Some t
  front : take (k + 1) history ≡ take (k + 1) (listed_history (parts_of init))

module _ (servers : List ServerInit) (sound : IsSound servers) where
  sources-at : (n : ℕ) (i : ServerInit) (x : Option ServerNo) → slice_get servers n ≡ Some i → i.source ≡ x → sources servers n ≡ number_of x
  sources-at n i x at from = ap source_of at ∙ ap number_of from

  fronts : (n : ℕ) (i : ServerInit) → Grounded (sources servers) n → slice_get servers n ≡ Some i → IsFront servers (history_at servers n)
  fronts n i (Root n' none) at = go i.source refl
    where
      go : (x : Option ServerNo) → i.source ≡ x → IsFront servers (history_at servers n)
      go None from = record {
        root = n;
        init = i;
        count = length (listed_history (parts_of i));
        there = at;
        top = from;
        front = sound.own n i at from ∙ sym (take-length (listed_history (parts_of i)));
      }
      go (Some m) from = let there : None ≡ Some m.0 = sym none ∙ sources-at n i (Some m) at from in cc
  fronts n i (Under n' m e g) at = go i.source refl (λ s there. fronts m s g there)
    where
      go : (x : Option ServerNo) → i.source ≡ x → ((s : ServerInit) → slice_get servers m ≡ Some s → IsFront servers (history_at servers m)) → IsFront servers (history_at servers n)
      go None from above = let none : None ≡ Some m = sym (sources-at n i None at from) ∙ e in cc
      go (Some k) from above =
          let source = sound.under n i k at from in
          let same : k.0 ≡ m = same_Some k.0 m (sym (sources-at n i (Some k) at from) ∙ e) in
          let there : slice_get servers m ≡ Some source.source = ap (slice_get servers) (sym same) ∙ source.there in
          let f = above source.source there in
          let executed : i.executed ≤ count_of source.source = source.executed in
          let has : length (history_at servers m) ≡ count_of source.source = sound.counts m source.source there in
          let front : length (history_at servers m) ≡ length (take f.count (listed_history (parts_of f.init))) = ap length f.front in
          record {
            root = f.root;
            init = f.init;
            count = i.executed;
            there = f.there;
            top = f.top;
            front = sound.begins n i k at from ∙ ap (λ y. take i.executed (history_at servers y)) same ∙ ap (take i.executed) f.front
                ∙ take-take i.executed f.count (listed_history (parts_of f.init)) (omega (arith, length-take f.count (listed_history (parts_of f.init))));
          }

  stands : (n k : ℕ) (t : Txn) → slice_get (history_at servers n) k ≡ Some t → Stands servers (history_at servers n) k t
  stands n k t h = go (slice_get servers n) refl
    where
      by : IsFront servers (history_at servers n) → Stands servers (history_at servers n) k t
      by f =
          let top = listed_history (parts_of f.init) in
          let at : slice_get (take f.count top) k ≡ Some t = ap (λ xs. slice_get xs k) (sym f.front) ∙ h in
          let lt : k < f.count = slice_get-take_within top f.count k t at in
          record {
            root = f.root;
            init = f.init;
            there = f.there;
            top = f.top;
            at = slice_get-take top f.count k t at;
            front = ap (take (k + 1)) f.front ∙ take-take (k + 1) f.count top (omega arith);
          }

      go : (x : Option ServerInit) → slice_get servers n ≡ x → Stands servers (history_at servers n) k t
      go None at =
          let nothing : history_at servers n ≡ [] = ap (λ x. take (count_at x) (listed_history (parts_at (slice_get servers (root_of servers n))))) at in
          let none : None ≡ Some t = ap (λ xs. slice_get xs k) (sym nothing) ∙ h in
          cc
      go (Some i) at = by (fronts n i (sound.ends n) at)

  -- if two histories have the same transaction, they are equal up to and including it
  histories-alike : (a b i j : ℕ) (x y : Txn) → slice_get (history_at servers a) i ≡ Some x → slice_get (history_at servers b) j ≡ Some y → same_txn x y ≡ true
      → take (i + 1) (history_at servers a) ≡ take (j + 1) (history_at servers b)
  histories-alike a b i j x y at_a at_b same =
      let p = stands a i x at_a in
      let q = stands b j y at_b in
      p.front ∙ tops p q ∙ sym q.front
    where
      tops : (p : Stands servers (history_at servers a) i x) (q : Stands servers (history_at servers b) j y) → take (i + 1) (listed_history (parts_of p.init)) ≡ take (j + 1) (listed_history (parts_of q.init))
      tops p q =
          elim (cases_eq p.root q.root) [
            | inl here ↦
                let init : p.init ≡ q.init = same_Some p.init q.init (sym p.there ∙ ap (slice_get servers) here ∙ q.there) in
                let at : slice_get (listed_history (parts_of q.init)) i ≡ Some x = subst (λ (s : ServerInit). slice_get (listed_history (parts_of s)) i ≡ Some x) init p.at in
                ap (λ (s : ServerInit). take (i + 1) (listed_history (parts_of s))) init
                ∙ ap (λ k. take (k + 1) (listed_history (parts_of q.init))) (numbered-once (listed_history (parts_of q.init)) (listed_numbered (parts_of q.init)) i j x y at q.at same)
            | inr apart ↦
                ap (λ k. take k (listed_history (parts_of p.init))) (add-one i)
                ∙ agree-alike (listed_history (parts_of p.init)) (listed_history (parts_of q.init)) (sound.agree p.root q.root p.init q.init p.there q.there p.top q.top apart) i j x y p.at q.at same
                ∙ ap (λ k. take k (listed_history (parts_of q.init))) (sym (add-one j))
          ]

  -- a transaction is in its origin's history
  histories-home : (a i : ℕ) (x : Txn) → slice_get (history_at servers a) i ≡ Some x → (j : ℕ) × (slice_get (history_at servers x.origin.0) j ≡ Some x)
  histories-home a i x at_a =
      let p = stands a i x at_a in
      let held = holds-at x (history_at servers x.origin.0) (sound.home p.root p.init x p.there p.top i p.at) in
      let fronts = histories-alike x.origin.0 a held.0 i held.1 x held.2 at_a held.3 in
      let pushed : take held.0 (history_at servers x.origin.0) ++ held.1 ∷ [] ≡ take i (history_at servers a) ++ x ∷ [] =
      sym (take-more (history_at servers x.origin.0) held.0 held.1 held.2) ∙ fronts ∙ take-more (history_at servers a) i x at_a in
      let same = same_from_push (take held.0 (history_at servers x.origin.0)) (take i (history_at servers a)) held.1 x pushed in
      (held.0, held.2 ∙ ap Some same.1)

  -- the histories of a `Sound` opening agree
  pub IsKin-opening : IsKin (history_at servers)
  IsKin-opening = record { alike = histories-alike; numbered = history_numbered servers; home = histories-home }
