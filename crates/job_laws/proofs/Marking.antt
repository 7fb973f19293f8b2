-- What a match means for two histories in a `Safe` world.
use Rattle.std.proofs.Common.{◌≡◌, ℕ, zero, suc, ◌+◌, ◌-◌, ◌<◌, ◌≤◌, Bool, true, false, cond, not, List, [], ◌∷◌, length, take, refl, sym, ◌∙◌, ap, Option, Some, None, Result, Ok, Err, arith, ◌&&◌, ◌==◌, slice_get}
use Rattle.job_laws.proofs.Prelude.{Coord, IsEntry, IsKin, IsKin-once, KeepsMark, Laid-Grown, LaysOut-Grown, LaysOut-length, Safe, Server, ServerNo}
use Rattle.job_laws.proofs.Prelude.{Txn, Unreachable, World, alike, and_parts, both, can_reach, coord_after, count_own, entry-is, eq-eqb, eqb-true}
use Rattle.job_laws.proofs.Prelude.{false≢true, first-none, first_unlike, histories, history_of, is-entry, is-last, is_mark, is_mark_there}
use Rattle.job_laws.proofs.Prelude.{is_same_there, last-is, last_mark, length-take, length-take-le, logged, logged_by, logged_in, mark-there}
use Rattle.job_laws.proofs.Prelude.{match-behind, match-of-both, match_between, match_logs, match_of, matched_at, matched_behind, matched_from}
use Rattle.job_laws.proofs.Prelude.{nat_tests, none-first, place, place-coord_after, place_of_mark, same-there, same_txn, server_at, shows_same}
use Rattle.job_laws.proofs.Prelude.{slice_get_within, take-length}
use Rattle.job_laws.proofs.Prelude.fault

-- a match by its parts: the last mark of the first, if the second keeps it, and the entries after it
pub record ByMark (every : ℕ) (x y : Server) (c : Coord) : Type 0 where
  pub i : ℕ
  pub j : ℕ
  pub mark : Txn
  pub other : Txn
  pub here : IsEntry x i mark
  pub there : IsEntry y j other
  pub same : same_txn other mark ≡ true
  pub like : (k : ℕ) → i + 1 ≤ k → k < length x.history.txns → alike every (logged_by x k) (logged_by y ((k + j) - i)) ≡ true
  pub end : coord_after y.log.log ((length x.history.txns + j) - i) ≡ c

module _ (every : ℕ) (x y : Server) (c : Coord) where
  at-end : (i j : ℕ) (o : Option ℕ) → matched_at x y i j o ≡ Ok c → (o ≡ None) × (coord_after y.log.log ((length x.history.txns + j) - i) ≡ c)
  at-end i j None h = (refl, cc)
  at-end i j (Some k) h = cc

  behind : (i : ℕ) (t : Txn) → IsEntry x i t → (o : Option ℕ) → place_of_mark y (Some t) ≡ o → matched_behind every x y i o ≡ Ok c → ByMark every x y c
  behind i t here None is h = cc
  behind i t here (Some j) is h =
      let last = last-is (λ k. is_same_there t (logged_by y k)) (length y.history.txns) j is in
      let u = same-there t (logged_by y j) last.passes in
      let end = at-end i j (first_unlike every x y i j) h in
      record {
        i = i;
        j = j;
        mark = t;
        other = u.0;
        here = here;
        there = entry-is y j u.0 u.1;
        same = u.2;
        like = λ k from to. first-none (λ n. alike every (logged_by x n) (logged_by y ((n + j) - i))) (i + 1) (length x.history.txns - (i + 1)) end.0 k from (omega (arith, from, to));
        end = end.1;
      }

  pub match-parts : match_of every x y ≡ Ok c → ByMark every x y c
  match-parts h = go (last_mark every x) refl h
    where
      go : (o : Option ℕ) → last_mark every x ≡ o → matched_from every x y o ≡ Ok c → ByMark every x y c
      go None is h = cc
      go (Some i) is h =
          let last = last-is (λ k. is_mark_there every (logged_by x k)) (length x.history.txns) i is in
          let t = mark-there every (logged_by x i) last.passes in
          behind i t.0 (entry-is x i t.0 t.1) (place_of_mark y (Some t.0)) refl (sym (ap (λ o. matched_behind every x y i (place_of_mark y o)) t.1) ∙ h)

-- two entries that are alike are there, and of one origin
pub record AreAlike (o p : Option Txn) : Type 0 where
  pub one : Txn
  pub other : Txn
  pub one_is : o ≡ Some one
  pub other_is : p ≡ Some other
  pub origin : one.origin.0 ≡ other.origin.0

pub alike-parts : (every : ℕ) (o p : Option Txn) → alike every o p ≡ true → AreAlike o p
alike-parts every None p h = absurd (false≢true h)
alike-parts every (Some a) None h = absurd (false≢true h)
alike-parts every (Some a) (Some b) h = record {
  one = a;
  other = b;
  one_is = refl;
  other_is = refl;
  origin = eqb-true a.origin.0 b.origin.0 (and_parts (a.origin.0 == b.origin.0) (a.size == b.size && cond (is_mark every a) (is_mark every b) (not (is_mark every b))) h).0;
}

-- ---- in histories that agree

module _ (h : ℕ → List Txn) (kin : IsKin h) (r d i j : ℕ) (t u : Txn) (at_r : slice_get (h r) i ≡ Some t) (at_d : slice_get (h d) j ≡ Some u) (same : same_txn u t ≡ true) where
  pub up-to-mark : take (i + 1) (h r) ≡ take (j + 1) (h d)
  up-to-mark = let turned : same_txn t u ≡ true = grind (arith, nat_tests) in kin.alike r d i j t u at_r at_d turned

  -- a mark is at one place of both
  pub one-place : i ≡ j
  one-place =
      let within_i : i < length (h r) = slice_get_within (h r) i t at_r in
      let within_j : j < length (h d) = slice_get_within (h d) j u at_d in
      let lengths : length (take (i + 1) (h r)) ≡ length (take (j + 1) (h d)) = ap length up-to-mark in
      omega (arith, lengths, length-take-le (i + 1) (h r), length-take-le (j + 1) (h d))

-- two transactions of one origin after the same prefix are the same
next-same : (h : ℕ → List Txn) → IsKin h → (r d k : ℕ) (a b : Txn) → take k (h r) ≡ take k (h d) → slice_get (h r) k ≡ Some a → slice_get (h d) k ≡ Some b → a.origin.0 ≡ b.origin.0
    → take (k + 1) (h r) ≡ take (k + 1) (h d)
next-same h kin r d k a b alike at_r at_d origin =
    let one = kin.numbered r k a at_r in
    let other = kin.numbered d k b at_d in
    let seq : a.seq ≡ b.seq = one ∙ ap (λ xs. count_own a.origin.0 xs + 1) alike ∙ ap (λ o. count_own o (take k (h d)) + 1) origin ∙ sym other in
    let same : same_txn a b ≡ true = grind (arith, nat_tests) in
    kin.alike r d k k a b at_r at_d same

module _ (w : World) (safe : Safe w) (r d : ℕ) (x y : Server) (at_r : server_at w r ≡ Some x) (at_d : server_at w d ≡ Some y) where
  of-r : histories w r ≡ x.history.txns
  of-r = ap history_of at_r

  of-d : histories w d ≡ y.history.txns
  of-d = ap history_of at_d

  in-r : (k : ℕ) (t : Txn) → IsEntry x k t → slice_get (histories w r) k ≡ Some t
  in-r k t e = ap (λ xs. slice_get xs k) of-r ∙ e.is

  in-d : (k : ℕ) (t : Txn) → IsEntry y k t → slice_get (histories w d) k ≡ Some t
  in-d k t e = ap (λ xs. slice_get xs k) of-d ∙ e.is

  module _ (every : ℕ) (c : Coord) (m : ByMark every x y c) where
    level : m.i ≡ m.j
    level = one-place (histories w) safe.kin r d m.i m.j m.mark m.other (in-r m.i m.mark m.here) (in-d m.j m.other m.there) m.same

    -- the histories are equal up to the mark, and so on, entry by entry
    up-to : (more : ℕ) → m.i + 1 + more ≤ length x.history.txns → take (m.i + 1 + more) (histories w r) ≡ take (m.i + 1 + more) (histories w d)
    up-to zero le =
        let same = up-to-mark (histories w) safe.kin r d m.i m.j m.mark m.other (in-r m.i m.mark m.here) (in-d m.j m.other m.there) m.same in
        let none : m.i + 1 + 0 ≡ m.i + 1 = omega arith in
        ap (λ k. take k (histories w r)) none ∙ same ∙ ap (λ k. take (k + 1) (histories w d)) (sym level) ∙ ap (λ k. take k (histories w d)) (sym none)
    up-to (suc more) le =
        let k : ℕ = m.i + 1 + more in
        let before = up-to more (omega (arith, le)) in
        let here : (k + m.j) - m.i ≡ k = omega (arith, level) in
        let both = alike-parts every (logged_by x k) (logged_by y k) (ap (λ n. alike every (logged_by x k) (logged_by y n)) (sym here) ∙ m.like k (omega arith) (omega (arith, le))) in
        let next : m.i + 1 + suc more ≡ k + 1 = omega arith in
        let after = next-same (histories w) safe.kin r d k both.one both.other before (in-r k both.one (entry-is x k both.one both.one_is)) (in-d k both.other (entry-is y k both.other both.other_is)) both.origin in
        ap (λ n. take n (histories w r)) next ∙ after ∙ ap (λ n. take n (histories w d)) (sym next)

    pub match-prefix : take (length x.history.txns) y.history.txns ≡ x.history.txns
    match-prefix =
        let within : m.i < length x.history.txns = slice_get_within x.history.txns m.i m.mark m.here.is in
        let all : m.i + 1 + (length x.history.txns - (m.i + 1)) ≡ length x.history.txns = omega (arith, within) in
        let same = up-to (length x.history.txns - (m.i + 1)) (omega (arith, all)) in
        ap (take (length x.history.txns)) (sym of-d) ∙ ap (λ n. take n (histories w d)) (sym all) ∙ sym same ∙ ap (λ n. take n (histories w r)) all
        ∙ ap (take (length x.history.txns)) of-r ∙ take-length x.history.txns

    pub match-place : place y.log.log c ≡ Some (length x.history.txns)
    match-place =
        let laid = safe.laid d y at_d m.there.logs in
        let count : (length x.history.txns + m.j) - m.i ≡ length x.history.txns = omega (arith, level) in
        let enough : length x.history.txns ≤ length y.log.log.entries =
        omega (arith, ap length match-prefix, length-take (length x.history.txns) y.history.txns, LaysOut-length y.history.txns y.log.log laid) in
        ap (place y.log.log) (sym m.end ∙ ap (coord_after y.log.log) count)
        ∙ place-coord_after y.log.log (Laid-Grown y.log.log (LaysOut-Grown y.history.txns y.log.log laid)) (length x.history.txns) enough

-- ---- as orchestrator reads both logs

pub logs-match : (w : World) (r d : ServerNo) (every : ℕ) (c : Coord) (x y : Server) → server_at w r.0 ≡ Some x → server_at w d.0 ≡ Some y → match_logs w r d every ≡ Ok c → ByMark every x y c
logs-match w r d every c x y at_r at_d h = go (can_reach (server_at w r.0)) (can_reach (server_at w d.0)) h
  where
    go : (a b : Bool) → cond (not a) (Err (fault.Unreachable r)) (cond (not b) (Err (fault.Unreachable d)) (match_between every (server_at w r.0) (server_at w d.0))) ≡ Ok c → ByMark every x y c
    go false b h = cc
    go true false h = cc
    go true true h =
        match-parts every x y c (sym (ap (λ o. match_between every o (server_at w d.0)) at_r ∙ ap (match_between every (Some x)) at_d) ∙ h)

pub logs-place : (w : World) (r d : ServerNo) (every : ℕ) (c : Coord) (x y : Server) → Safe w → server_at w r.0 ≡ Some x → server_at w d.0 ≡ Some y → match_logs w r d every ≡ Ok c
    → place y.log.log c ≡ Some (length x.history.txns)
logs-place w r d every c x y safe at_r at_d h = match-place w safe r.0 d.0 x y at_r at_d every c (logs-match w r d every c x y at_r at_d h)

pub logs-prefix : (w : World) (r d : ServerNo) (every : ℕ) (c : Coord) (x y : Server) → Safe w → server_at w r.0 ≡ Some x → server_at w d.0 ≡ Some y → match_logs w r d every ≡ Ok c
    → take (length x.history.txns) y.history.txns ≡ x.history.txns
logs-prefix w r d every c x y safe at_r at_d h = match-prefix w safe r.0 d.0 x y at_r at_d every c (logs-match w r d every c x y at_r at_d h)

-- ---- the place at which they should match

-- what is read of a log that is reached
logged-there : (w : World) (n k : ℕ) (s : Server) (t : Txn) → server_at w n ≡ Some s → logged w n k ≡ Ok (Some t) → (can_reach (server_at w n) ≡ true) × (logged_by s k ≡ Some t)
logged-there w n k s t at h = go (s.up && s.desk) refl (sym (ap (λ o. logged_in o k) at) ∙ h)
  where
    go : (b : Bool) → (s.up && s.desk) ≡ b → cond {A = Result (Option Txn) Unreachable} b (Ok (logged_by s k)) (Err (record {})) ≡ Ok (Some t) → (can_reach (server_at w n) ≡ true) × (logged_by s k ≡ Some t)
    go true e h = (ap can_reach at ∙ e, cc)
    go false e h = cc

same-shown : (every : ℕ) (a : Txn) → shows_same every a a ≡ true
same-shown every a = both (a.origin.0 == a.origin.0) _ (eq-eqb a.origin.0 a.origin.0 refl) (both (a.size == a.size) _ (eq-eqb a.size a.size refl) (go (is_mark every a)))
  where
    go : (b : Bool) → cond b b (not b) ≡ true
    go true = refl
    go false = refl

nth-there : (xs : List Txn) (k : ℕ) → k < length xs → (t : Txn) × (slice_get xs k ≡ Some t)
nth-there [] k h = absurd (omega (arith, h))
nth-there (x ∷ xs) zero h = (x, refl)
nth-there (x ∷ xs) (suc k) h = nth-there xs k (omega (arith, h))

in-longer : (n : ℕ) (xs ys : List Txn) (k : ℕ) (t : Txn) → take n ys ≡ xs → slice_get xs k ≡ Some t → slice_get ys k ≡ Some t
in-longer zero xs ys k t p h = let none : None ≡ Some t = ap (λ zs. slice_get zs k) p ∙ h in cc
in-longer (suc n) xs [] k t p h = let none : None ≡ Some t = ap (λ zs. slice_get zs k) p ∙ h in cc
in-longer (suc n) xs (y ∷ ys) zero t p h = ap (λ zs. slice_get zs 0) p ∙ h
in-longer (suc n) xs (y ∷ ys) (suc k) t p h = in-longer n (take n ys) ys k t refl (ap (λ zs. slice_get zs (suc k)) p ∙ h)

module _ (w : World) (r d : ServerNo) (every : ℕ) (x y : Server) (safe : Safe w) (at_r : server_at w r.0 ≡ Some x) (at_d : server_at w d.0 ≡ Some y)
    (prefix : take (length x.history.txns) y.history.txns ≡ x.history.txns) (m : KeepsMark w r d every x) where
  one : (can_reach (server_at w r.0) ≡ true) × (logged_by x m.place ≡ Some m.mark)
  one = logged-there w r.0 m.place x m.mark at_r m.read

  two : (can_reach (server_at w d.0) ≡ true) × (logged_by y m.other_place ≡ Some m.other)
  two = logged-there w d.0 m.other_place y m.other at_d m.other_read

  here : IsEntry x m.place m.mark
  here = entry-is x m.place m.mark one.1

  there : IsEntry y m.other_place m.other
  there = entry-is y m.other_place m.other two.1

  in-x : slice_get (histories w r.0) m.place ≡ Some m.mark
  in-x = ap (λ xs. slice_get xs m.place) (ap history_of at_r) ∙ here.is

  in-y : slice_get (histories w d.0) m.other_place ≡ Some m.other
  in-y = ap (λ xs. slice_get xs m.other_place) (ap history_of at_d) ∙ there.is

  level-there : m.place ≡ m.other_place
  level-there = one-place (histories w) safe.kin r.0 d.0 m.place m.other_place m.mark m.other in-x in-y m.same

  last-here : last_mark every x ≡ Some m.place
  last-here =
      is-last (λ k. is_mark_there every (logged_by x k)) (length x.history.txns) m.place
      (record {
        below = slice_get_within x.history.txns m.place m.mark here.is;
        passes = ap (is_mark_there every) one.1 ∙ m.marks;
        behind = λ k lt le. go k lt (logged_by x k) refl;
      })
    where
      go : (k : ℕ) → m.place < k → (o : Option Txn) → logged_by x k ≡ o → is_mark_there every o ≡ false
      go k lt None e = refl
      go k lt (Some t) e = m.last k t lt (entry-is x k t e).is

  last-there : place_of_mark y (Some m.mark) ≡ Some m.other_place
  last-there =
      is-last (λ k. is_same_there m.mark (logged_by y k)) (length y.history.txns) m.other_place
      (record {
        below = slice_get_within y.history.txns m.other_place m.other there.is;
        passes = ap (is_same_there m.mark) two.1 ∙ m.same;
        behind = λ k lt le. go k lt (logged_by y k) refl;
      })
    where
      by : (k : ℕ) → m.other_place < k → (t : Txn) → IsEntry y k t → (b : Bool) → same_txn t m.mark ≡ b → b ≡ false
      by k lt t e true same =
          let again : same_txn m.other t ≡ true = grind (arith, nat_tests, m.same) in
          let twice = IsKin-once (histories w) safe.kin d.0 m.other_place k m.other t in-y (ap (λ xs. slice_get xs k) (ap history_of at_d) ∙ e.is) again in
          absurd (omega (arith, lt, twice))
      by k lt t e false same = refl

      go : (k : ℕ) → m.other_place < k → (o : Option Txn) → logged_by y k ≡ o → is_same_there m.mark o ≡ false
      go k lt None e = refl
      go k lt (Some t) e = by k lt t (entry-is y k t e) (same_txn t m.mark) refl

  all-alike : first_unlike every x y m.place m.other_place ≡ None
  all-alike =
      none-first (λ k. alike every (logged_by x k) (logged_by y ((k + m.other_place) - m.place))) (m.place + 1) (length x.history.txns - (m.place + 1))
      (λ k from to. go k from to)
    where
      go : (k : ℕ) → m.place + 1 ≤ k → k < m.place + 1 + (length x.history.txns - (m.place + 1)) → alike every (logged_by x k) (logged_by y ((k + m.other_place) - m.place)) ≡ true
      go k from to =
          let within : k < length x.history.txns = omega (arith, from, to) in
          let a = nth-there x.history.txns k within in
          let same : (k + m.other_place) - m.place ≡ k = omega (arith, level-there, from) in
          let is_x : logged_by x k ≡ Some a.0 = is-entry x k a.0 (record { logs = here.logs; kept = omega (arith, here.kept, from); is = a.1 }) in
          let is_y : logged_by y k ≡ Some a.0 =
          is-entry y k a.0
          (record { logs = there.logs; kept = omega (arith, there.kept, level-there, from); is = in-longer (length x.history.txns) x.history.txns y.history.txns k a.0 prefix a.1 }) in
          ap (λ n. alike every (logged_by x k) (logged_by y n)) same ∙ ap (λ o. alike every o (logged_by y k)) is_x ∙ ap (alike every (Some a.0)) is_y ∙ same-shown every a.0

  matches-there : match_logs w r d every ≡ Ok (coord_after y.log.log (length x.history.txns))
  matches-there =
      let count : (length x.history.txns + m.other_place) - m.place ≡ length x.history.txns = omega (arith, level-there) in
      match-of-both w r d every x y at_r at_d one.0 two.0
      ∙ match-behind every x y m.place m.mark m.other_place last-here one.1 last-there
      ∙ ap (matched_at x y m.place m.other_place) all-alike
      ∙ ap (λ n. Ok (coord_after y.log.log n)) count

pub prefix-matches : (w : World) (r d : ServerNo) (every : ℕ) (x y : Server) → Safe w → server_at w r.0 ≡ Some x → server_at w d.0 ≡ Some y
    → take (length x.history.txns) y.history.txns ≡ x.history.txns → KeepsMark w r d every x → match_logs w r d every ≡ Ok (coord_after y.log.log (length x.history.txns))
prefix-matches w r d every x y safe at_r at_d prefix m = matches-there w r d every x y safe at_r at_d prefix m

-- two servers whose logs match are there
pub record AreRead (w : World) (r d : ServerNo) : Type 0 where
  pub one : Server
  pub other : Server
  pub one_at : server_at w r.0 ≡ Some one
  pub other_at : server_at w d.0 ≡ Some other

pub read-servers : (w : World) (r d : ServerNo) (every : ℕ) (c : Coord) → match_logs w r d every ≡ Ok c → AreRead w r d
read-servers w r d every c h = go (can_reach (server_at w r.0)) (can_reach (server_at w d.0)) h
  where
    by : (o p : Option Server) → server_at w r.0 ≡ o → server_at w d.0 ≡ p → match_between every o p ≡ Ok c → AreRead w r d
    by None p at_r at_d h = cc
    by (Some x) None at_r at_d h = cc
    by (Some x) (Some y) at_r at_d h = record { one = x; other = y; one_at = at_r; other_at = at_d }

    go : (a b : Bool) → cond (not a) (Err (fault.Unreachable r)) (cond (not b) (Err (fault.Unreachable d)) (match_between every (server_at w r.0) (server_at w d.0))) ≡ Ok c → AreRead w r d
    go false b h = cc
    go true false h = cc
    go true true h = by (server_at w r.0) (server_at w d.0) refl refl h
