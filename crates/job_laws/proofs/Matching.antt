-- The matches that a job found, and what they let cross.
use Rattle.std.proofs.Common.{◌≡◌, ℕ, ◌+◌, ◌-◌, ◌<◌, ◌≤◌, Bool, true, false, cond, List, [], ◌∷◌, ◌++◌, length, take, refl, sym, ◌∙◌, ap, subst, inl, inr, Option, Some, None, Ok, arith, reverse, ◌&&◌, ◌||◌, ◌==◌, find, is_some}
use Rattle.job_laws.proofs.Prelude.{All, All-head, All-nil, All-push, All-tail, All-weaker, AllAllowed, AllMeet, Allowed, ArePlaced, Attach, Attached}
use Rattle.job_laws.proofs.Prelude.{Coord, Deed, Detached, Exchange, Grows-run, IsPlaced, IsTarget, JoinsWell, Laid-Grown, LaysOut-Grown}
use Rattle.job_laws.proofs.Prelude.{LaysOut-length, Line, Match, Matched, Meets, MeetsAt, Op, Placed, Safe, Server, ServerNo, SourceState, Spot}
use Rattle.job_laws.proofs.Prelude.{Stands, Stands-grows, Txn, Without, World, alike, and_parts, are_matched, both, by_match, can-allowed, can_attach}
use Rattle.job_laws.proofs.Prelude.{cases_eq, deed_of, end_of, entry-is, eqb-true, false≢true, finds_match, finished, flat_map, is_match_of}
use Rattle.job_laws.proofs.Prelude.{joins-about, joins-down, length-take, logged_by, match_found, match_logs, matched_by, matched_in, matching}
use Rattle.job_laws.proofs.Prelude.{or-mono, place, place-coord_after, place-of_end, place-parts, reverse-append, run, same_Some, server_at}
use Rattle.job_laws.proofs.Prelude.{slice_get_within, source_no, standing, standing_at, take-length, target-can}
use Rattle.job_laws.proofs.Prelude.deed
use Rattle.job_laws.proofs.Prelude.op
use Rattle.job_laws.proofs.Prelude.spot
use Rattle.job_laws.proofs.Marking.{ByMark, alike-parts, logs-match, match-place, match-prefix, read-servers}
use Rattle.job_laws.proofs.Showing.{Target-run}

-- ---- what operations go by

module _ (has more : Matched) (le : (n m : ServerNo) → has n m ≡ true → more n m ≡ true) where
  pub finds_match-mono : (d : Deed) → finds_match has d ≡ true → finds_match more d ≡ true
  finds_match-mono (deed.CrossMatch n m) h = le n m h
  finds_match-mono _ h = refl

  pub matched_by-mono : (d : Deed) (a b : ServerNo) → matched_by has d a b ≡ true → matched_by more d a b ≡ true
  matched_by-mono (deed.Match n m every) a b h = or-mono (n.0 == a.0 && m.0 == b.0) (has a b) (more a b) (le a b) h
  matched_by-mono _ a b h = le a b h

-- operations that go by matches still do if more were found
pub matched-mono : (has more : Matched) → ((n m : ServerNo) → has n m ≡ true → more n m ≡ true) → (ops : List Op) → are_matched has ops ≡ true → are_matched more ops ≡ true
matched-mono has more le [] h = refl
matched-mono has more le (op ∷ ops) h =
    let parts = and_parts (finds_match has (deed_of op)) (are_matched (matched_by has (deed_of op)) ops) h in
    both (finds_match more (deed_of op)) (are_matched (matched_by more (deed_of op)) ops) (finds_match-mono has more le (deed_of op) parts.0)
    (matched-mono (matched_by has (deed_of op)) (matched_by more (deed_of op)) (matched_by-mono has more le (deed_of op)) ops parts.1)

-- and after any of them
pub matched-behind : (has : Matched) (op : Op) (ops : List Op) → are_matched has (op ∷ ops) ≡ true → (finds_match has (deed_of op) ≡ true) × (are_matched (matched_by has (deed_of op)) ops ≡ true)
matched-behind has op ops h = and_parts (finds_match has (deed_of op)) (are_matched (matched_by has (deed_of op)) ops) h

-- operations one after another
pub matched-append : (has : Matched) (ps qs : List Op) → are_matched has ps ≡ true → ((more : Matched) → are_matched more qs ≡ true) → are_matched has (ps ++ qs) ≡ true
matched-append has [] qs h then = then has
matched-append has (p ∷ ps) qs h then =
    let parts = matched-behind has p ps h in
    both (finds_match has (deed_of p)) (are_matched (matched_by has (deed_of p)) (ps ++ qs)) parts.0 (matched-append (matched_by has (deed_of p)) ps qs parts.1 then)

pub finished-matched : (has : Matched) (ops : List Op) (lines : List Line) → are_matched has ops ≡ true → are_matched has (finished ops lines) ≡ true
finished-matched has ops lines h = matched-append has ops (op.Finish lines ∷ []) h (λ more. refl)

-- each of some servers by a plan that goes by no match
pub each-matched : (part : ServerNo → List Op) (ns : List ServerNo) → ((more : Matched) (n : ServerNo) → are_matched more (part n) ≡ true) → (has : Matched) → are_matched has (flat_map part ns) ≡ true
each-matched part [] free has = refl
each-matched part (n ∷ ns) free has = matched-append has (part n) (flat_map part ns) (free has n) (λ more. each-matched part ns free more)

-- ---- one match more

found-more : (xs : List Match) (x : Match) (n m : ServerNo) → match_found (xs ++ x ∷ []) n m ≡ cond (is_match_of n m x) (Some x) (match_found xs n m)
found-more xs x n m = ap (find (is_match_of n m)) (reverse-append xs (x ∷ []))

pub matching-found : (xs : List Match) (x : Match) (a b : ServerNo) → matching (matched_in xs) x.no x.to a b ≡ true → matched_in (xs ++ x ∷ []) a b ≡ true
matching-found xs x a b h = ap is_some (found-more xs x a b) ∙ go (x.no.0 == a.0 && x.to.0 == b.0) h
  where
    go : (c : Bool) → (c || is_some (match_found xs a b)) ≡ true → is_some (cond c (Some x) (match_found xs a b)) ≡ true
    go true k = refl
    go false k = k

-- ---- the match that is found

All-reverse : (P : Match → Type 0) (xs : List Match) → All P xs → All P (reverse xs)
All-reverse P [] all = All-nil P
All-reverse P (x ∷ xs) all =
    subst (All P) (sym (reverse-append (x ∷ []) xs)) (All-push P (reverse xs) x (All-reverse P xs (All-tail P x xs all)) (All-head P x xs all))

-- it is of the two servers, and of those that were found
record IsFound (P : Match → Type 0) (n m : ServerNo) (x : Match) : Type 0 where
  holds : P x
  no : x.no.0 ≡ n.0
  to : x.to.0 ≡ m.0

find-is : (P : Match → Type 0) (n m : ServerNo) (xs : List Match) (x : Match) → All P xs → find (is_match_of n m) xs ≡ Some x → IsFound P n m x
find-is P n m [] x all h = cc
find-is P n m (y ∷ ys) x all h = go (is_match_of n m y) refl h (find-is P n m ys x (All-tail P y ys all))
  where
    go : (b : Bool) → is_match_of n m y ≡ b → cond b (Some y) (find (is_match_of n m) ys) ≡ Some x → (find (is_match_of n m) ys ≡ Some x → IsFound P n m x) → IsFound P n m x
    go true e h rest =
        let parts = and_parts (y.no.0 == n.0) (y.to.0 == m.0) e in
        subst (IsFound P n m) (same_Some y x h)
        (record { holds = All-head P y ys all; no = eqb-true y.no.0 n.0 parts.0; to = eqb-true y.to.0 m.0 parts.1 })
    go false e h rest = rest h

found-is : (P : Match → Type 0) (n m : ServerNo) (xs : List Match) (x : Match) → All P xs → match_found xs n m ≡ Some x → IsFound P n m x
found-is P n m xs x all h = find-is P n m (reverse xs) x (All-reverse P xs all) h

-- ---- what lasts

module _ (w : World) (es : List Exchange) (placed : Placed w) (allowed : AllAllowed w es) where
  pub ArePlaced-run : (xs : List Match) → ArePlaced w xs → ArePlaced (run w es) xs
  ArePlaced-run xs all = All-weaker (IsPlaced w) (IsPlaced (run w es)) (λ x h. Target-run w es x.to.0 x.at placed allowed h) xs all

  meets-on : (n to : ServerNo) (at : Coord) (s : Spot) → MeetsAt w n to at s → MeetsAt (run w es) n to at s
  meets-on n to at (spot.At source exec) h = Stands-grows w (run w es) to.0 source.0 at exec (Grows-run w es placed allowed) h
  meets-on n to at (spot.OwnEnd end) h = Stands-grows w (run w es) to.0 n.0 at end (Grows-run w es placed allowed) h
  meets-on n to at spot.Nowhere h = h

  pub AllMeet-run : (xs : List Match) → AllMeet w xs → AllMeet (run w es) xs
  AllMeet-run xs all = All-weaker (Meets w) (Meets (run w es)) (λ x h. meets-on x.no x.to x.at x.spot h) xs all

-- ---- a reattachment by a match

-- if the server's position is unchanged, all that it has executed ends at the coordinate
meets-join : (w : World) (n m k to : ServerNo) (c : Coord) (s : Spot) → Safe w → MeetsAt w k to c s → k.0 ≡ n.0 → to.0 ≡ m.0 → JoinsWell w (Attach n.0 s m c)
meets-join w n m k to c (spot.At source exec) safe meets from onto = joins-down w n.0 m source c exec safe (subst (λ l. Stands w l source.0 c exec) onto meets)
meets-join w n m k to c (spot.OwnEnd end) safe meets from onto =
    joins-about w m n c end safe (subst (λ l. Stands w l n.0 c end) onto (subst (λ l. Stands w to.0 l c end) from meets))
meets-join w n m k to c spot.Nowhere safe meets from onto = λ r t here there is. absurd (false≢true is)

pub match-well : (w : World) (x : Match) → Safe w → Meets w x → JoinsWell w (Attach x.no.0 x.spot x.to x.at)
match-well w x safe meets = meets-join w x.no x.to x.no x.to x.at x.spot safe meets refl refl

module _ (w : World) (xs : List Match) (n m : ServerNo) (e : Exchange) where
  pub match-can : ArePlaced w xs → by_match n m (match_found xs n m) ≡ Some e → can_attach w e ≡ true
  match-can placed h = go (match_found xs n m) refl h
    where
      go : (o : Option Match) → match_found xs n m ≡ o → by_match n m o ≡ Some e → can_attach w e ≡ true
      go None is h = cc
      go (Some x) is h =
          let f = found-is (IsPlaced w) n m xs x placed is in
          subst (λ (y : Exchange). can_attach w y ≡ true) (same_Some (Attach n.0 x.spot m x.at) e h)
          (target-can w m.0 x.at (subst (λ k. IsTarget w k x.at) f.to f.holds))

  pub match-allowed : ArePlaced w xs → by_match n m (match_found xs n m) ≡ Some e → Allowed w e
  match-allowed placed h = can-allowed w e (match-can placed h)

  pub match-crosses : Safe w → AllMeet w xs → by_match n m (match_found xs n m) ≡ Some e → JoinsWell w e
  match-crosses safe met h = go (match_found xs n m) refl h
    where
      go : (o : Option Match) → match_found xs n m ≡ o → by_match n m o ≡ Some e → JoinsWell w e
      go None is h = cc
      go (Some x) is h =
          let f = found-is (Meets w) n m xs x met is in
          subst (JoinsWell w) (same_Some (Attach n.0 x.spot m x.at) e h) (meets-join w n m x.no x.to x.at x.spot safe f.holds f.no f.to)

pub match-there : (xs : List Match) (n m : ServerNo) → matched_in xs n m ≡ true → is_some (by_match n m (match_found xs n m)) ≡ true
match-there xs n m h = go (match_found xs n m) h
  where
    go : (o : Option Match) → is_some o ≡ true → is_some (by_match n m o) ≡ true
    go None k = k
    go (Some x) k = refl

-- ---- a match that is found now

module _ (w : World) (n m : ServerNo) (every : ℕ) (c : Coord) (h : match_logs w n m every ≡ Ok c) where
  -- with errant writes or without, its coordinate has a place
  pub match-placed : Placed w → IsTarget w m.0 c
  match-placed placed =
      let s = read-servers w n m every c h in
      let x = s.one in
      let y = s.other in
      let b = logs-match w n m every c x y s.one_at s.other_at h in
      let laid = placed.laid m.0 y s.other_at b.there.logs in
      let here : b.i < length x.history.txns = slice_get_within x.history.txns b.i b.mark b.here.is in
      let there : b.j < length y.history.txns = slice_get_within y.history.txns b.j b.other b.there.is in
      let enough : (length x.history.txns + b.j) - b.i ≤ length y.history.txns = go x y b.i b.j here there b.like in
      let count : length y.log.log.entries ≡ length y.history.txns = LaysOut-length y.history.txns y.log.log laid in
      let ends =
      ap (place y.log.log) (sym b.end)
      ∙ place-coord_after y.log.log (Laid-Grown y.log.log (LaysOut-Grown y.history.txns y.log.log laid)) ((length x.history.txns + b.j) - b.i) (omega (arith, enough, count)) in
      record { target = y; there = s.other_at; logs = b.there.logs; place = (place-parts y.log.log c ((length x.history.txns + b.j) - b.i) ends).0 }
    where
      -- the last entry has one in its place
      more : (x y : Server) (i j k : ℕ) → k + 1 ≡ length x.history.txns → i + 1 ≤ k → alike every (logged_by x k) (logged_by y ((k + j) - i)) ≡ true
          → (length x.history.txns + j) - i ≤ length y.history.txns
      more x y i j k last from like =
          let both = alike-parts every (logged_by x k) (logged_by y ((k + j) - i)) like in
          let within : (k + j) - i < length y.history.txns =
          slice_get_within y.history.txns ((k + j) - i) both.other (entry-is y ((k + j) - i) both.other both.other_is).is in
          omega (arith, within, last, from)

      go : (x y : Server) (i j : ℕ) → i < length x.history.txns → j < length y.history.txns
          → ((k : ℕ) → i + 1 ≤ k → k < length x.history.txns → alike every (logged_by x k) (logged_by y ((k + j) - i)) ≡ true)
          → (length x.history.txns + j) - i ≤ length y.history.txns
      go x y i j here there like = elim (cases_eq (i + 1) (length x.history.txns)) [
        | inl one ↦ omega (arith, one, there)
        | inr many ↦
            let last : length x.history.txns - 1 + 1 ≡ length x.history.txns = omega (arith, here) in
            let from : i + 1 ≤ length x.history.txns - 1 = omega (arith, here, many) in
            more x y i j (length x.history.txns - 1) last from (like (length x.history.txns - 1) from (omega (arith, here)))
      ]

  -- in a `Safe` world it meets the server's position
  pub match-meets : Safe w → MeetsAt w n m c (standing_at (server_at w n.0))
  match-meets safe =
      let s = read-servers w n m every c h in
      let b = logs-match w n m every c s.one s.other s.one_at s.other_at h in
      subst (λ o. MeetsAt w n m c (standing_at o)) (sym s.one_at) (go s.one s.other s.one_at s.other_at b s.one.source refl)
    where
      longer : (xs ys : List Txn) → take (length xs) ys ≡ xs → length xs ≤ length ys
      longer xs ys p = omega (arith, ap length p, length-take (length xs) ys)

      under : (x y : Server) (k : ServerNo) → server_at w n.0 ≡ Some x → server_at w m.0 ≡ Some y → ByMark every x y c → source_no x.source ≡ Some k.0 → Stands w m.0 k.0 c x.exec
      under x y k at_n at_m b from =
          let source = safe.logging n.0 k.0 x at_n from in
          let well = safe.well n.0 k.0 x source.0 at_n from source.1 in
          let prefix = match-prefix w safe n.0 m.0 x y at_n at_m every c b in
          record {
            replica = y;
            source = source.0;
            replica_at = at_m;
            source_at = source.1;
            bridges = record {
              count = length x.history.txns;
              own_place = match-place w safe n.0 m.0 x y at_n at_m every c b;
              exec_place = well.exec_place;
              own_within = longer x.history.txns y.history.txns prefix;
              exec_within = longer x.history.txns source.0.history.txns well.prefix;
              alike = prefix ∙ sym well.prefix;
              own_logs = b.there.logs;
              exec_logs = source.2;
            };
          }

      own : (x y : Server) → server_at w n.0 ≡ Some x → server_at w m.0 ≡ Some y → ByMark every x y c → Stands w m.0 n.0 c (end_of x.log.log)
      own x y at_n at_m b =
          let prefix = match-prefix w safe n.0 m.0 x y at_n at_m every c b in
          let laid = safe.laid n.0 x at_n b.here.logs in
          record {
            replica = y;
            source = x;
            replica_at = at_m;
            source_at = at_n;
            bridges = record {
              count = length x.history.txns;
              own_place = match-place w safe n.0 m.0 x y at_n at_m every c b;
              exec_place = place-of_end x.log.log (Laid-Grown x.log.log (LaysOut-Grown x.history.txns x.log.log laid)) ∙ ap Some (LaysOut-length x.history.txns x.log.log laid);
              own_within = longer x.history.txns y.history.txns prefix;
              exec_within = omega arith;
              alike = prefix ∙ sym (take-length x.history.txns);
              own_logs = b.there.logs;
              exec_logs = b.here.logs;
            };
          }

      go : (x y : Server) → server_at w n.0 ≡ Some x → server_at w m.0 ≡ Some y → ByMark every x y c → (f : SourceState) → x.source ≡ f → MeetsAt w n m c (standing x f)
      go x y at_n at_m b Without is = subst (λ a. MeetsAt w n m c (cond a (spot.OwnEnd (end_of x.log.log)) spot.Nowhere)) (sym b.here.logs) (own x y at_n at_m b)
      go x y at_n at_m b (Attached k) is = under x y k at_n at_m b (ap source_no is)
      go x y at_n at_m b (Detached k) is = under x y k at_n at_m b (ap source_no is)
