-- Histories that agree do so link by link, and each transaction is in its origin's history.
use Rattle.read_back_laws.proofs.Prelude.{IsKin, Safe, Server, ServerNo, Txn, World, agrees_with, all_below, and_from, any_passes_from_place as list_any-found}
use Rattle.read_back_laws.proofs.Prelude.{cases_Bool, eq-eqb, histories, histories_agree, history_of, init_of, is_home, is_kin, length-take-le, links}
use Rattle.read_back_laws.proofs.Prelude.{links_after, links_agree, list_all, list_all-from_get, listed_history, not_from_false, or_left, or_right, same_Some}
use Rattle.read_back_laws.proofs.Prelude.{same_before, same_txn, server_at, slice_get-front, slice_get-get_or, slice_get-take, slice_get_within, source_no}
use Rattle.scenarios.specs.OrchBase.Histories.{holds}
use Rattle.scenarios.specs.Openings.Servers.{number_of}
use Rattle.read_back_laws.proofs.Prelude.Servers.{parts_of}
use Rattle.std.proofs.Common.{◌≡◌, ◌∙◌, ◌&&◌, ◌==◌, ℕ, ◌+◌, ◌<◌, ◌≤◌, Bool, true, List, [], ◌∷◌, length, take, refl, sym, ap, inl, inr, Option, Some, None, arith, get_or, zero, suc, is_some, not, slice_get}
use Rattle.read_back_laws.proofs.Histories.{history-given, listed-own}
use Rattle.read_back_laws.proofs.Inits.{init-at, init-none, init-number, inits}

-- ---- links

-- the transaction before the one of an index, in a history that follows this one
abbrev before_in : Option Txn → List Txn → ℕ → Option Txn
before_in before history zero = before
before_in before history (suc j) = slice_get history j

before_in-on : (before : Option Txn) (t : Txn) (ts : List Txn) (j : ℕ) → before_in (Some t) ts j ≡ before_in before (t ∷ ts) (suc j)
before_in-on before t ts zero = refl
before_in-on before t ts (suc j) = refl

links-in : (before : Option Txn) (history : List Txn) (j : ℕ) (l : Option Txn × Txn) → slice_get (links_after before history) j ≡ Some l → (slice_get history j ≡ Some l.1) × (l.0 ≡ before_in before history j)
links-in before [] j l h = cc
links-in before (u ∷ us) zero l h =
    let first : Option Txn × Txn = (before, u) in
    let same : first ≡ l = same_Some first l h in
    (ap (λ (k : Option Txn × Txn). Some k.1) same, sym (ap (λ (k : Option Txn × Txn). k.0) same))
links-in before (u ∷ us) (suc j) l h = let rest = links-in (Some u) us j l h in (rest.0, rest.1 ∙ before_in-on before u us j)

same_before-itself : (o : Option Txn) → same_before o o ≡ true
same_before-itself None = refl
same_before-itself (Some t) = and_from (t.origin.0 == t.origin.0) (t.seq == t.seq) (eq-eqb t.origin.0 t.origin.0 refl) (eq-eqb t.seq t.seq refl)

module _ (h : ℕ → List Txn) (kin : IsKin h) where
  -- a transaction that two histories share is at one place in both
  place-shared : (a b i j : ℕ) (x y : Txn) → slice_get (h a) i ≡ Some x → slice_get (h b) j ≡ Some y → same_txn x y ≡ true → i ≡ j
  place-shared a b i j x y at_a at_b same =
      let within_a : i < length (h a) = slice_get_within (h a) i x at_a in
      let within_b : j < length (h b) = slice_get_within (h b) j y at_b in
      let lengths : length (take (i + 1) (h a)) ≡ length (take (j + 1) (h b)) = ap length (kin.alike a b i j x y at_a at_b same) in
      omega (arith, lengths, length-take-le (i + 1) (h a), length-take-le (j + 1) (h b))

  -- what is no further than it in one is there in the other
  front-shared : (a b i j : ℕ) (x y : Txn) → slice_get (h a) i ≡ Some x → slice_get (h b) j ≡ Some y → same_txn x y ≡ true
      → (k : ℕ) (t : Txn) → k ≤ i → slice_get (h a) k ≡ Some t → slice_get (h b) k ≡ Some t
  front-shared a b i j x y at_a at_b same k t low at =
      let front : slice_get (take (i + 1) (h a)) k ≡ Some t = slice_get-front (h a) (i + 1) k t (omega arith) at in
      slice_get-take (h b) (j + 1) k t (ap (λ xs. slice_get xs k) (sym (kin.alike a b i j x y at_a at_b same)) ∙ front)

  whole-shared : (a b i j : ℕ) (x y : Txn) → slice_get (h a) i ≡ Some x → slice_get (h b) j ≡ Some y → same_txn x y ≡ true → x ≡ y
  whole-shared a b i j x y at_a at_b same =
      let there : slice_get (h b) i ≡ Some x = front-shared a b i j x y at_a at_b same i x (omega arith) at_a in
      same_Some x y (sym there ∙ ap (slice_get (h b)) (place-shared a b i j x y at_a at_b same) ∙ at_b)

  before-shared : (a b i j : ℕ) (x y : Txn) → slice_get (h a) i ≡ Some x → slice_get (h b) j ≡ Some y → same_txn x y ≡ true → before_in None (h a) i ≡ before_in None (h b) j
  before-shared a b i j x y at_a at_b same = go i at_a (place-shared a b i j x y at_a at_b same)
    where
      go : (k : ℕ) → slice_get (h a) k ≡ Some x → k ≡ j → before_in None (h a) k ≡ before_in None (h b) j
      go zero at is = ap (before_in None (h b)) is
      go (suc k) at is =
          let within : suc k < length (h a) = slice_get_within (h a) (suc k) x at in
          let t : Txn = get_or (h a) k x in
          let here : slice_get (h a) k ≡ Some t = slice_get-get_or (h a) k x (omega arith) in
          let there : slice_get (h b) k ≡ Some t = front-shared a b (suc k) j x y at at_b same k t (omega arith) here in
          here ∙ sym there ∙ ap (before_in None (h b)) is

  link-shared : (a b i j : ℕ) (k l : Option Txn × Txn) → slice_get (links (h a)) i ≡ Some k → slice_get (links (h b)) j ≡ Some l → links_agree k l ≡ true
  link-shared a b i j k l at_a at_b =
      let one = links-in None (h a) i k at_a in
      let two = links-in None (h b) j l at_b in
      elim (cases_Bool (same_txn k.1 l.1)) [
        | inr apart ↦ or_left (not (same_txn k.1 l.1)) (same_before k.0 l.0 && k.1.size == l.1.size) (not_from_false (same_txn k.1 l.1) apart)
        | inl same ↦
            let before : k.0 ≡ l.0 = one.1 ∙ before-shared a b i j k.1 l.1 one.0 two.0 same ∙ sym two.1 in
            let whole : k.1 ≡ l.1 = whole-shared a b i j k.1 l.1 one.0 two.0 same in
            or_right (not (same_txn k.1 l.1)) (same_before k.0 l.0 && k.1.size == l.1.size)
            (and_from (same_before k.0 l.0) (k.1.size == l.1.size)
            (ap (λ o. same_before o l.0) before ∙ same_before-itself l.0)
            (eq-eqb k.1.size l.1.size (ap (λ (t : Txn). t.size) whole)))
      ]

  -- histories with `IsKin` agree
  pub agree-kin : (a b : ℕ) → histories_agree (h a) (h b) ≡ true
  agree-kin a b =
      list_all-from_get (λ l. list_all (λ k. links_agree k l) (links (h a))) (links (h b))
      (λ j l at_b. list_all-from_get (λ k. links_agree k l) (links (h a)) (λ i k at_a. link-shared a b i j k l at_a at_b))

-- ---- the servers of a dump

all_below-from : (p : ℕ → Bool) (n : ℕ) → ((m : ℕ) → p m ≡ true) → all_below p n ≡ true
all_below-from p zero each = refl
all_below-from p (suc n) each = and_from (all_below p n) (p n) (all_below-from p n each) (each n)

pub same_txn-itself : (t : Txn) → same_txn t t ≡ true
same_txn-itself t = same_before-itself (Some t)

module _ (w : World) (safe : Safe w) where
  agrees-with : (n : ℕ) (s : Server) → server_at w n ≡ Some s → (m : ℕ) → agrees_with s.history.txns (slice_get (inits w) m) ≡ true
  agrees-with n s at m = go (server_at w m) refl
    where
      by : (r : Server) → server_at w m ≡ Some r → (o : Option ServerNo) → (init_of r).source ≡ o → agrees_with s.history.txns (Some (init_of r)) ≡ true
      by r there (Some k) from = or_left (is_some (init_of r).source) (histories_agree (listed_history (parts_of (init_of r))) s.history.txns) (ap is_some from)
      by r there None from =
          let none : source_no r.source ≡ None = sym (init-number r) ∙ ap number_of from in
          let kin : histories_agree (history_of (server_at w m)) (history_of (server_at w n)) ≡ true = agree-kin (histories w) safe.kin m n in
          or_right (is_some (init_of r).source) (histories_agree (listed_history (parts_of (init_of r))) s.history.txns)
          (ap (λ xs. histories_agree xs s.history.txns) (listed-own w safe m r there none ∙ sym (ap history_of there))
          ∙ ap (histories_agree (history_of (server_at w m))) (sym (ap history_of at)) ∙ kin)

      go : (o : Option Server) → server_at w m ≡ o → agrees_with s.history.txns (slice_get (inits w) m) ≡ true
      go None none = ap (agrees_with s.history.txns) (init-none w m none)
      go (Some r) there = ap (agrees_with s.history.txns) (init-at w m r there) ∙ by r there (init_of r).source refl

  at-home : (n : ℕ) (s : Server) → server_at w n ≡ Some s → (k : ℕ) (t : Txn) → slice_get s.history.txns k ≡ Some t → is_home (inits w) t ≡ true
  at-home n s at k t h =
      let home = safe.kin.home n k t (ap (λ o. slice_get (history_of o) k) at ∙ h) in
      ap (holds t) (history-given w safe t.origin.0)
      ∙ list_any-found (λ x. same_txn x t) (histories w t.origin.0) home.0 t home.1 (same_txn-itself t)

  -- what a server has executed agrees with what is listed
  pub kin-own : (n : ℕ) (s : Server) → server_at w n ≡ Some s → is_kin (inits w) n s.history.txns ≡ true
  kin-own n s at =
      and_from (all_below (λ m. agrees_with s.history.txns (slice_get (inits w) m)) n) (list_all (is_home (inits w)) s.history.txns)
      (all_below-from (λ m. agrees_with s.history.txns (slice_get (inits w) m)) n (agrees-with n s at))
      (list_all-from_get (is_home (inits w)) s.history.txns (at-home n s at))
