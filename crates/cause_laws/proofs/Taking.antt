-- What a turn comes to by the operation that is due.
use Rattle.std.proofs.Common.{◌≡◌, ℕ, ◌+◌, ◌≤◌, Bool, true, false, cond, not, List, [], ◌∷◌, refl, sym, ◌∙◌, ap, subst, Option, Some, None, Ok, Err, Result, nat_lt, is_some}
use Rattle.cause_laws.proofs.Prelude.{AttachFault, Attempt, Attempts, Befell, Cause, Coord, Deed, Done, Ended, Exchange, IsAnswered, IsMove, IsShort}
use Rattle.cause_laws.proofs.Prelude.{IsTaken, IsWaitFor, Job, MatchFault, Misses, Moment, Observation, Op, Server, ServerNo, Status, Stopped, Stops}
use Rattle.cause_laws.proofs.Prelude.{StopsFor, Waited, World, aim_of, asked_until, attach_answer_of, attachment-is, attachment_in, attachment_of}
use Rattle.cause_laws.proofs.Prelude.{attempts, by_deed, can_attach, can_reach, cause_by, cause_of_match, changes_by, fails_when_spent, false≢true}
use Rattle.cause_laws.proofs.Prelude.{first_away, first_unlike, is_over, is_settled, last_mark, logged_by, ltb-false, ltb-true, made, match_between}
use Rattle.cause_laws.proofs.Prelude.{match_logs, matched_at, matched_behind, matched_from, move-changes, not-false, only_where, or_parts}
use Rattle.cause_laws.proofs.Prelude.{place_of_mark, same_Some, seen_in, seen_of, server_at, settled, speaks_with, status, tries}
use Rattle.cause_laws.proofs.Prelude.attaching
use Rattle.cause_laws.proofs.Prelude.deed
use Rattle.cause_laws.proofs.Prelude.matching
use Rattle.cause_laws.proofs.Answering.{answer-memory, answer-unreached, answers-of, unasked, unread}
use Rattle.cause_laws.proofs.Aiming.{aim-before, aim-come, attachment-with, has-come, moved-apart, set-come, set-lacks, unsettled}
use Rattle.cause_laws.proofs.Prelude.doing

-- a match of two servers that are reached isn't answered so
match-reached : (every : ℕ) (o p : Option Server) (k : ServerNo) → match_between every o p ≡ Err (matching.Unreachable k) → ⊥
match-reached every None p k h = cc
match-reached every (Some x) None k h = cc
match-reached every (Some x) (Some y) k h = from (last_mark every x) h
  where
    unlike : (i j : ℕ) (o : Option ℕ) → matched_at x y i j o ≡ Err (matching.Unreachable k) → ⊥
    unlike i j None e = cc
    unlike i j (Some l) e = cc

    behind : (i : ℕ) (o : Option ℕ) → matched_behind every x y i o ≡ Err (matching.Unreachable k) → ⊥
    behind i None e = cc
    behind i (Some j) e = unlike i j (first_unlike every x y i j) e

    from : (o : Option ℕ) → matched_from every x y o ≡ Err (matching.Unreachable k) → ⊥
    from None e = cc
    from (Some i) e = behind i (place_of_mark y (logged_by x i)) e

abbrev unreached : ServerNo → Result Coord MatchFault
unreached k = Err (matching.Unreachable k)

match-away : (w : World) (n m : ServerNo) (every : ℕ) (k : ServerNo) → match_logs w n m every ≡ Err (matching.Unreachable k)
    → (Some (first_away w n m) ≡ Some k) × (can_reach (server_at w k.0) ≡ false)
match-away w n m every k h = go (can_reach (server_at w n.0)) (can_reach (server_at w m.0)) refl refl h
  where
    fault-of : Result Coord MatchFault → Option ServerNo
    fault-of (Ok c) = None
    fault-of (Err (matching.Unreachable l)) = Some l
    fault-of (Err matching.NoMark) = None
    fault-of (Err (matching.Mismatch l)) = None

    there : (l : ServerNo) → can_reach (server_at w l.0) ≡ false → unreached l ≡ unreached k → (Some l ≡ Some k) × (can_reach (server_at w k.0) ≡ false)
    there l away e =
        let same : Some l ≡ Some k = ap fault-of e in
        (same, subst (λ (o : ServerNo). can_reach (server_at w o.0) ≡ false) (same_Some l k same) away)

    go : (a b : Bool) → can_reach (server_at w n.0) ≡ a → can_reach (server_at w m.0) ≡ b
        → cond (not a) (Err (matching.Unreachable n)) (cond (not b) (Err (matching.Unreachable m)) (match_between every (server_at w n.0) (server_at w m.0))) ≡ Err (matching.Unreachable k)
        → (Some (cond a m n) ≡ Some k) × (can_reach (server_at w k.0) ≡ false)
    go false b e f g = there n e g
    go true false e f g = there m f g
    go true true e f g = absurd (match-reached every (server_at w n.0) (server_at w m.0) k g)

module _ (w : World) (read : ℕ) (now : Moment) (j : Job) (rest : List Op) where
  abbrev Taken : Deed → Attempt → Type 0
  Taken d a = IsTaken w j rest d (settled j a)

  halted : (d : Deed) (c : Cause) (o : Option Observation) → Befell w j d c → Taken d (Stops c o)
  halted d c o h = Stopped (record { cause = c; befell = h; failed = refl; changes = refl })

  -- ---- which servers it speaks with, and what it changes

  wait-speaks : (n : ServerNo) (d : Deed) → IsWaitFor n d → speaks_with w j d ≡ Some n
  wait-speaks n d (doing.Awaits to) = refl
  wait-speaks n d _ = refl

  wait-changes : (n : ServerNo) (d : Deed) → IsWaitFor n d → changes_by w j d ≡ []
  wait-changes n d (doing.Awaits to) = refl
  wait-changes n d _ = refl

  move-speaks : (n : ServerNo) (d : Deed) → IsMove n d → tries w (attachment_of j d) ≡ true → speaks_with w j d ≡ Some n
  move-speaks n d (doing.Crosses c b) h = ap (λ t. only_where t n) h
  move-speaks n d _ h = ap (λ t. only_where t n) h

  move-made : (n : ServerNo) (d : Deed) → IsMove n d → changes_by w j d ≡ made w (attachment_in j d)
  move-made n d (doing.Crosses c b) = refl
  move-made n d _ = refl

  move-misses : (n : ServerNo) (d : Deed) (s : Status) → IsMove n d → Misses j d s → ⊥
  move-misses n d s (doing.Crosses c b) h = h
  move-misses n d s _ h = h

  none-made : (o : Option Exchange) → ((e : Exchange) → o ≡ Some e → can_attach w e ≡ false) → made w o ≡ []
  none-made None h = refl
  none-made (Some e) h = ap (λ b. cond b (e ∷ []) []) (h e refl)

  -- ---- waits

  -- a short server is the one that was read
  same-short : (d : Deed) (n k : ServerNo) (s : Status) → speaks_with w j d ≡ Some n → seen_in (status w n.0) ≡ Some s → (short : IsShort w j d k) → short.seen ≡ s
  same-short d n k s spoken is short =
      let one : n ≡ k = same_Some n k (sym spoken ∙ short.spoken) in
      let at : seen_in (status w n.0) ≡ Some short.seen = subst (λ (m : ServerNo). seen_in (status w m.0) ≡ Some short.seen) (sym one) short.shown in
      same_Some short.seen s (sym at ∙ is)

  misses-by : (n : ServerNo) (d : Deed) (s : Status) → IsWaitFor n d → is_over j d s ≡ false → Misses j d s
  misses-by n d s (doing.Awaits to) short = aim-before (aim_of j.seen to) s.exec short
  misses-by n d s (doing.AwaitsSet m) short = set-lacks (seen_of j.seen m.0) s short
  misses-by n d s doing.Settles short = unsettled s (or_parts (is_settled s) (not (nat_lt (j.waited + 1) j.wait)) short).0

  comes-by : (n : ServerNo) (d : Deed) (s : Status) → IsWaitFor n d → is_over j d s ≡ true → Misses j d s → (fails_when_spent d ≡ false) × (j.wait ≤ j.waited + 1)
  comes-by n d s (doing.Awaits to) over miss = absurd (aim-come (aim_of j.seen to) s.exec over miss)
  comes-by n d s (doing.AwaitsSet m) over miss = absurd (set-come (seen_of j.seen m.0) s over miss)
  comes-by n d s doing.Settles over miss = (refl, has-come j s over miss)

  fails-by : (n : ServerNo) (d : Deed) (s : Status) → IsWaitFor n d → is_over j d s ≡ false → nat_lt (j.waited + 1) j.wait ≡ false → fails_when_spent d ≡ true
  fails-by n d s (doing.Awaits to) short last = refl
  fails-by n d s (doing.AwaitsSet m) short last = refl
  fails-by n d s doing.Settles short last =
      absurd (false≢true (sym last ∙ not-false (nat_lt (j.waited + 1) j.wait) (or_parts (is_settled s) (not (nat_lt (j.waited + 1) j.wait)) short).1))

  short-by : (n : ServerNo) (d : Deed) (s : Status) → IsWaitFor n d → seen_in (status w n.0) ≡ Some s → is_over j d s ≡ false → IsShort w j d n
  short-by n d s is seen short = record { spoken = wait-speaks n d is; seen = s; shown = seen; misses = misses-by n d s is short }

  -- ---- why it stops

  refused-by : (n : ServerNo) (d : Deed) (x : Exchange) (f : AttachFault) → IsMove n d → attachment_of j d ≡ Some x → can_attach w x ≡ true → attach_answer_of w x ≡ Err f → Befell w j d (cause_by n f)
  refused-by n d x f move is can e = go f e
    where
      answered : (g : AttachFault) → attach_answer_of w x ≡ Err g → IsAnswered w j d n g
      answered g e = record { changed = move-changes n d move; exchange = x; found = is; can = can; answer = answers-of w x g can e }

      go : (g : AttachFault) → attach_answer_of w x ≡ Err g → Befell w j d (cause_by n g)
      go attaching.Unreachable e = record {
        spoken = move-speaks n d move (ap (tries w) is ∙ can);
        away = subst (λ k. can_reach (server_at w k) ≡ false) (attachment-with j d n x (move-changes n d move) is) (answer-unreached w x can e);
      }
      go (attaching.Running at) e = (at, answered (attaching.Running at) e)
      go attaching.Memory e = absurd (answer-memory w x can e)
      go x e = answered x e

  unmatched-by : (n m : ServerNo) (every : ℕ) (f : MatchFault) → match_logs w n m every ≡ Err f → Befell w j (deed.Match n m every) (cause_of_match n f)
  unmatched-by n m every (matching.Unreachable k) is = let away = match-away w n m every k is in record { spoken = away.0; away = away.1 }
  unmatched-by n m every matching.NoMark is = record { other = m; every = every; match = refl; answer = is }
  unmatched-by n m every (matching.Mismatch k) is = record { other = m; every = every; match = refl; answer = is }

  befell-by : (d : Deed) (c : Cause) → StopsFor w j d c → Befell w j d c
  befell-by d c (doing.Unread n from seen) = record { spoken = refl; away = unread w (server_at w n.0) seen }
  befell-by d c (doing.Moved n from s seen is) =
      let apart = moved-apart from s.source is in record { named = apart.0; look = ap (deed.Look n) apart.1; seen = s; shown = seen; is = refl; other = apart.2 }
  befell-by d c (doing.Unasked n a answer) = record { spoken = refl; away = unasked (server_at w n.0) _ answer }
  befell-by d c (doing.Unbegun n to at until answer) = record { spoken = ap (λ o. only_where (is_some o) n) until; away = unasked (server_at w n.0) _ answer }
  befell-by d c (doing.Unseen n x is seen) = record { spoken = wait-speaks n x is; away = unread w (server_at w n.0) seen }
  befell-by d c (doing.Spent n x s is seen short last) =
      record { fails = fails-by n x s is short last; short = short-by n x s is seen short; last = ltb-false (j.waited + 1) j.wait last }
  befell-by d c (doing.Refused n x e f is made of can answer) = refused-by n x e f is (sym (attachment-is j n x is) ∙ made) can answer
  befell-by d c (doing.Unmatched n m every f found) = unmatched-by n m every f found

  -- ---- an operation

  taken-by : (d : Deed) (a : Attempt) → Attempts w read now j rest d a → Taken d a
  taken-by d a (doing.Misses n from c why) = halted (deed.Look n from) c _ (befell-by (deed.Look n from) c why)
  taken-by d a (doing.Fails x c why) = halted x c None (befell-by x c why)
  taken-by d a (doing.Begins n to c until) = Done (record { going = refl; left = refl; waited = refl; wait = refl; changes = sym (ap (asked_until n) until); come = λ k short. absurd short.misses })
  taken-by d a (doing.Omits n to none) = Done (record { going = refl; left = refl; waited = refl; wait = refl; changes = sym (ap (asked_until n) none); come = λ k short. absurd short.misses })
  taken-by d a (doing.Waits n x s is seen short more) = Waited (record {
    going = refl;
    left = refl;
    waited = refl;
    wait = refl;
    changes = refl;
    server = n;
    short = short-by n x s is seen short;
    more = ltb-true (j.waited + 1) j.wait more;
  })
  taken-by d a (doing.Reaches n x s is seen over) = Done (record {
    going = refl;
    left = refl;
    waited = refl;
    wait = refl;
    changes = sym (wait-changes n x is);
    come = λ k miss. comes-by n x s is over (subst (Misses j x) (same-short x n k s (wait-speaks n x is) seen miss) miss.misses);
  })
  taken-by d a (doing.Attaches n x e is found of can done) = Done (record {
    going = refl;
    left = refl;
    waited = refl;
    wait = refl;
    changes = sym (move-made n x is ∙ (ap (made w) found ∙ ap (λ b. cond b (e ∷ []) []) can));
    come = λ k short. absurd (move-misses n x short.seen is short.misses);
  })
  taken-by d a (doing.Passes n x is not-can) = Done (record {
    going = refl;
    left = refl;
    waited = refl;
    wait = refl;
    changes = sym (move-made n x is ∙ none-made (attachment_in j x) not-can);
    come = λ k short. absurd (move-misses n x short.seen is short.misses);
  })
  taken-by d a (doing.Finishes lines) = Ended (record { lines = lines; finish = refl; done = refl; changes = refl })
  taken-by d a _ = Done (record { going = refl; left = refl; waited = refl; wait = refl; changes = refl; come = λ k short. absurd short.misses })

  pub deed-taken : (d : Deed) → IsTaken w j rest d (settled j (by_deed w read now j rest d))
  deed-taken d = taken-by d (by_deed w read now j rest d) (attempts w read now j rest d)
