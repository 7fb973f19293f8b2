-- A turn of a job: its exchanges are allowed and join well, and the job has `Held` after it, whatever operations are
-- left.
use Rattle.std.proofs.Common.{◌≡◌, ℕ, ◌+◌, Bool, true, false, cond, not, List, [], ◌∷◌, ◌++◌, refl, sym, ◌∙◌, ap, subst, Option, Some, None, ◌==◌}
use Rattle.job_laws.proofs.Prelude.{All-push, AllAllowed, AllBridged, AllJoinWell, AllMeet, AllShow, ArePlaced, Ask, Attached, Attempt, Attempts}
use Rattle.job_laws.proofs.Prelude.{Cause, Coord, Deed, Detached, Exchange, Footing, Goes, Grows-run, HeldJob, IsBridged, IsDue, IsMove, IsPlaced}
use Rattle.job_laws.proofs.Prelude.{IsTarget, IsWaitFor, Job, JoinsWell, KeepsHeld, KeepsSound, Match, Meets, Moment, Observation, Op, Placed}
use Rattle.job_laws.proofs.Prelude.{Position, Request, Safe, ServerNo, ShowsAt, Sight, SourceState, Status, Within, Without, World, after, and_parts}
use Rattle.job_laws.proofs.Prelude.{are_held, are_matched, attachment_in, attempts, both, by_deed, by_ops, can-allowed, deed_of, eqb-true, failed}
use Rattle.job_laws.proofs.Prelude.{finds, footing, going, hands_after, is_moved, learn, logs_at, logs_by, looking, matched_in, matching, next}
use Rattle.job_laws.proofs.Prelude.{position_of, reading, restarts, restarts-allowed, run, same_Some, saw, seen-at, seen_in, seen_of, server_at}
use Rattle.job_laws.proofs.Prelude.{settled, source_no, standing_at, status, turned, with_match, with_seen}
use Rattle.job_laws.proofs.Prelude.ask as asking
use Rattle.job_laws.proofs.Prelude.doing
use Rattle.job_laws.proofs.Footings.{aim-by, held-mono, Within-saw, Within-logging, Within-again, read-still}
use Rattle.job_laws.proofs.Showing.{logs-on, Bridged-run, ShowsAt-run, Shows-seen, Bridged-seen}
use Rattle.job_laws.proofs.Modes.{gtid-run}
use Rattle.job_laws.proofs.Matching.{AllMeet-run, ArePlaced-run, match-crosses, match-meets, match-placed, matched-behind, matched-mono}
use Rattle.job_laws.proofs.Matching.{matching-found}
use Rattle.job_laws.proofs.Bridging.{crossing-joins, same-joins, auto-joins}

-- ---- what was seen, and one more reading

-- a fact of each reading, with one more reading
pub with-one : (P : ℕ → Position → Type 0) (xs : List Sight) (n : ServerNo) (s : Position) → ((k : ℕ) (t : Position) → seen_of xs k ≡ Some t → P k t) → P n.0 s
    → (k : ℕ) (t : Position) → seen_of (with_seen xs n s) k ≡ Some t → P k t
with-one P xs n s all one k t h = go (n.0 == k) refl (sym (seen-at xs n s k) ∙ h)
  where
    go : (b : Bool) → (n.0 == k) ≡ b → cond b (Some s) (seen_of xs k) ≡ Some t → P k t
    go true e h = subst (λ (m : ℕ). P m t) (eqb-true n.0 k e) (subst (λ (x : Position). P n.0 x) (same_Some s t h) one)
    go false e h = all k t h

pub Within-run : (w : World) (es : List Exchange) (xs : List Sight) → Placed w → AllAllowed w es → Within (footing w xs) (footing (run w es) xs)
Within-run w es xs placed allowed = record {
  gtid = λ h. gtid-run w es ∙ h;
  logs = λ n h. logs-on w (run w es) n (Grows-run w es placed allowed) h;
  read = λ n h. h;
  under = λ n m h. h;
}

-- a job that others' exchanges pass by keeps `Held`
pub Held-run : (w : World) (es : List Exchange) (j : Job) → Placed w → AllAllowed w es → HeldJob w j → HeldJob (run w es) j
Held-run w es j placed allowed held = record {
  left = held-mono (footing w j.seen) (footing (run w es) j.seen) (Within-run w es j.seen placed allowed) j.ops held.left;
  shown = λ n s h. ShowsAt-run w es n s placed allowed (held.shown n s h);
  matched = held.matched;
  ends = ArePlaced-run w es placed allowed j.matches held.ends;
}

pub AllBridged-run : (w : World) (es : List Exchange) (xs : List Sight) → Placed w → AllAllowed w es → AllBridged w xs → AllBridged (run w es) xs
AllBridged-run w es xs placed allowed all n s h = Bridged-run w es n s placed allowed (all n s h)

-- ---- how a turn ends

pub restarts-join : (w : World) (hands : List ServerNo) → AllJoinWell w (restarts hands)
restarts-join w [] = tt
restarts-join w (n ∷ ns) = (tt, restarts-join (after w (Request n.0 asking.Start)) ns)

failed-kept : (w : World) (j : Job) (c : Cause) (o : Option Observation) → Placed w → AllShow w j.seen → ArePlaced w j.matches → KeepsHeld w (failed j c o)
failed-kept w j c o placed shown ends = record {
  allowed = restarts-allowed w j.hands;
  held = record {
    left = refl;
    shown = λ n s h. ShowsAt-run w (restarts j.hands) n s placed (restarts-allowed w j.hands) (shown n s h);
    matched = refl;
    ends = ArePlaced-run w (restarts j.hands) placed (restarts-allowed w j.hands) j.matches ends;
  };
}

going-kept : (w : World) (o : Option Observation) (es : List Exchange) (j : Job) → Placed w → AllAllowed w es → HeldJob w j → KeepsHeld w (going o es j)
going-kept w o es j placed allowed held = record { allowed = allowed; held = Held-run w es j placed allowed held }

failed-sound : (w : World) (j : Job) (c : Cause) (o : Option Observation) → Placed w → AllBridged w j.seen → AllMeet w j.matches → KeepsSound w (failed j c o)
failed-sound w j c o placed all met = record {
  joins = restarts-join w j.hands;
  bridged = AllBridged-run w (restarts j.hands) j.seen placed (restarts-allowed w j.hands) all;
  met = AllMeet-run w (restarts j.hands) placed (restarts-allowed w j.hands) j.matches met;
}

going-sound : (w : World) (o : Option Observation) (es : List Exchange) (j : Job) → Placed w → AllAllowed w es → AllJoinWell w es → AllBridged w j.seen → AllMeet w j.matches → KeepsSound w (going o es j)
going-sound w o es j placed allowed joins all met =
    record { joins = joins; bridged = AllBridged-run w es j.seen placed allowed all; met = AllMeet-run w es placed allowed j.matches met }

-- ---- each kind of operation

-- an attached source that isn't another than the one that is named is that one
pub not-moved : (m : ServerNo) (x : SourceState) → is_moved (Some m) x ≡ false → source_no x ≡ Some m.0
not-moved m Without h = cc
not-moved m (Attached k) h = go (k.0 == m.0) refl h
  where
    go : (b : Bool) → (k.0 == m.0) ≡ b → not b ≡ false → Some k.0 ≡ Some m.0
    go true e h = ap Some (eqb-true k.0 m.0 e)
    go false e h = cc
not-moved m (Detached k) h = cc

pub target-logs : (w : World) (m : ℕ) (c : Coord) → IsTarget w m c → logs_at w m ≡ true
target-logs w m c t = ap logs_by t.there ∙ t.logs

module _ (w : World) (read : ℕ) (now : Moment) (j : Job) (rest : List Op) (placed : Placed w) (shown : AllShow w j.seen) (ends : ArePlaced w j.matches) where
  abbrev saw-footing : ServerNo → Status → Footing
  saw-footing n s = footing w (with_seen j.seen n (position_of s))

  -- what one more reading shows
  saw-shown : (n : ServerNo) (s : Status) → seen_in (status w n.0) ≡ Some s → AllShow w (with_seen j.seen n (position_of s))
  saw-shown n s is = with-one (ShowsAt w) j.seen n (position_of s) shown (Shows-seen w n.0 s placed is).at

  counts : (n : ServerNo) (from : Option ServerNo) (s : Status) → seen_in (status w n.0) ≡ Some s → is_moved from s.source ≡ false → Within (looking (footing w j.seen) n from) (saw-footing n s)
  counts n None s seen is = Within-saw w j.seen n (position_of s) None (λ m h. cc)
  counts n (Some m) s seen is =
      let under : source_no s.source ≡ Some m.0 = not-moved m s.source is in
      Within-logging (reading (footing w j.seen) n (Some m.0)) (saw-footing n s) m.0
      (Within-saw w j.seen n (position_of s) (Some m.0) (λ k h. under ∙ h))
      (target-logs w m.0 s.exec ((Shows-seen w n.0 s placed seen).at.under m.0 under))

  wait-due : (n : ServerNo) (d : Deed) → IsWaitFor n d → IsDue w j rest d → (are_held (reading (footing w j.seen) n None) rest ≡ true) × (are_matched (matched_in j.matches) rest ≡ true)
  wait-due n d (doing.Awaits to) due = (due.left, due.matched)
  wait-due n d _ due = (due.left, due.matched)

  move-due : (n : ServerNo) (d : Deed) → IsMove n d → IsDue w j rest d → (are_held (footing w j.seen) rest ≡ true) × (are_matched (matched_in j.matches) rest ≡ true)
  move-due n d (doing.Crosses c b) due = (due.left, due.matched)
  move-due n d _ due = (due.left, due.matched)

  -- the same operation is due again, by what was read in place of what was seen before
  again : (n : ServerNo) (d : Deed) → IsWaitFor n d → IsDue w j rest d → (s : Status) → are_held (saw-footing n s) j.ops ≡ true
  again n d is due s = go d is due
    where
      left : are_held (reading (saw-footing n s) n None) rest ≡ true
      left = held-mono (reading (footing w j.seen) n None) (reading (saw-footing n s) n None) (Within-again w j.seen n (position_of s)) rest (wait-due n d is due).0

      go : (x : Deed) → IsWaitFor n x → IsDue w j rest x → are_held (saw-footing n s) j.ops ≡ true
      go x (doing.Awaits to) due = due.again (saw-footing n s) (aim-by (footing w j.seen) (saw-footing n s) (λ k h. h) (read-still w j.seen n (position_of s)) to due.found) left
      go x (doing.AwaitsSet m) due = due.again (saw-footing n s) (read-still w j.seen n (position_of s) m.0 due.found) left
      go x doing.Settles due = due.again (saw-footing n s) refl left

  passed-kept : are_held (footing w j.seen) rest ≡ true → are_matched (matched_in j.matches) rest ≡ true → KeepsHeld w (going None [] (next j rest))
  passed-kept left matched = going-kept w None [] (next j rest) placed tt (record { left = left; shown = shown; matched = matched; ends = ends })

  asked-kept : (n : ServerNo) (a : Ask) → are_held (footing w j.seen) rest ≡ true → are_matched (matched_in j.matches) rest ≡ true
      → KeepsHeld w (going None (Request n.0 a ∷ []) (record (next j rest) { hands = hands_after j.hands n a }))
  asked-kept n a left matched =
      going-kept w None (Request n.0 a ∷ []) (record (next j rest) { hands = hands_after j.hands n a }) placed (tt, tt) (record { left = left; shown = shown; matched = matched; ends = ends })

  kept-by : (d : Deed) (a : Attempt) → Attempts w read now j rest d a → IsDue w j rest d → KeepsHeld w (settled j a)
  kept-by d a (doing.Misses n from c why) due = failed-kept w j c _ placed shown ends
  kept-by d a (doing.Fails x c why) due = failed-kept w j c None placed shown ends
  kept-by d a (doing.Reads n from s seen is) due =
      going-kept w _ [] (next (saw j n s) rest) placed tt
      (record { left = held-mono (looking (footing w j.seen) n from) (saw-footing n s) (counts n from s seen is) rest due.left; shown = saw-shown n s seen; matched = due.matched; ends = ends })
  kept-by d a (doing.Asks n b) due = asked-kept n b due.left due.matched
  kept-by d a (doing.Begins n to c until) due = asked-kept n (asking.StartUntil c) due.left due.matched
  kept-by d a (doing.Omits n to none) due = passed-kept due.left due.matched
  kept-by d a (doing.Waits n x s is seen short more) due =
      going-kept w None [] (record (saw j n s) { waited = j.waited + 1 }) placed tt (record { left = again n x is due s; shown = saw-shown n s seen; matched = due.still; ends = ends })
  kept-by d a (doing.Reaches n x s is seen over) due =
      let l = wait-due n x is due in
      let left = held-mono (reading (footing w j.seen) n None) (saw-footing n s) (Within-saw w j.seen n (position_of s) None (λ m h. cc)) rest l.0 in
      going-kept w None [] (next (saw j n s) rest) placed tt (record { left = left; shown = saw-shown n s seen; matched = l.1; ends = ends })
  kept-by d a (doing.Attaches n x e is made of can done) due =
      let l = move-due n x is due in
      going-kept w None (e ∷ []) (next j rest) placed (can-allowed w e can, tt) (record { left = l.0; shown = shown; matched = l.1; ends = ends })
  kept-by d a (doing.Passes n x is not-can) due = let l = move-due n x is due in passed-kept l.0 l.1
  kept-by d a (doing.Matches n m every c found) due =
      let x : Match = record { no = n; to = m; spot = standing_at (server_at w n.0); at = c } in
      going-kept w None [] (next (with_match j x) rest) placed tt
      (record {
        left = due.left;
        shown = shown;
        matched = matched-mono (matching (matched_in j.matches) n m) (matched_in (j.matches ++ x ∷ [])) (matching-found j.matches x) rest due.matched;
        ends = All-push (IsPlaced w) j.matches x ends (match-placed w n m every c found placed);
      })
  kept-by d a (doing.Finishes lines) due = record { allowed = tt; held = record { left = refl; shown = shown; matched = refl; ends = ends } }

-- ---- any operation

pub deed-kept : (w : World) (read : ℕ) (now : Moment) (j : Job) (rest : List Op) (d : Deed) → Placed w → AllShow w j.seen → ArePlaced w j.matches → IsDue w j rest d → KeepsHeld w (settled j (by_deed w read now j rest d))
deed-kept w read now j rest d placed shown ends due = kept-by w read now j rest placed shown ends d (by_deed w read now j rest d) (attempts w read now j rest d) due

pub due-of : (w : World) (j : Job) (op : Op) (rest : List Op) → j.ops ≡ op ∷ rest → are_held (footing w j.seen) j.ops ≡ true
    → are_matched (matched_in j.matches) j.ops ≡ true → IsDue w j rest (deed_of op)
due-of w j op rest is held matched =
    let parts = and_parts (finds (footing w j.seen) (deed_of op)) (are_held (learn (footing w j.seen) (deed_of op)) rest) (sym (ap (are_held (footing w j.seen)) is) ∙ held) in
    let behind = matched-behind (matched_in j.matches) op rest (sym (ap (are_matched (matched_in j.matches)) is) ∙ matched) in
    record {
      found = parts.0;
      left = parts.1;
      again = λ g found left. ap (are_held g) is ∙ both (finds g (deed_of op)) (are_held (learn g (deed_of op)) rest) found left;
      match = behind.0;
      matched = behind.1;
      still = matched;
    }

-- a turn of a job with `Held`
pub turn-kept : (w : World) (read : ℕ) (now : Moment) (j : Job) → Placed w → HeldJob w j → KeepsHeld w (turned w read now j)
turn-kept w read now j placed held = go j.ops refl
  where
    go : (ops : List Op) → j.ops ≡ ops → KeepsHeld w (settled j (by_ops w read now j ops))
    go [] is = record { allowed = tt; held = record { left = refl; shown = held.shown; matched = refl; ends = held.ends } }
    go (op ∷ rest) is = deed-kept w read now j rest (deed_of op) placed held.shown held.ends (due-of w j op rest is held.left held.matched)

-- ---- the same in a safe world

module _ (w : World) (read : ℕ) (now : Moment) (j : Job) (rest : List Op) (safe : Safe w) (placed : Placed w) (shown : AllShow w j.seen) (all : AllBridged w j.seen) (met : AllMeet w j.matches) where
  saw-bridged : (n : ServerNo) (s : Status) → seen_in (status w n.0) ≡ Some s → AllBridged w (with_seen j.seen n (position_of s))
  saw-bridged n s is = with-one (IsBridged w) j.seen n (position_of s) all (Bridged-seen w n.0 s safe is)

  move-joins : (n : ServerNo) (d : Deed) → IsMove n d → IsDue w j rest d → (e : Exchange) → attachment_in j d ≡ Some e → JoinsWell w e
  move-joins n d (doing.Crosses c b) due e made = crossing-joins w j.seen safe all c n b e due.found made
  move-joins n d doing.Stays due e made = same-joins w j.seen safe n e made
  move-joins n d (doing.GoesBySet m) due e made = auto-joins w j.seen shown n m e made
  move-joins n d (doing.GoesByMatch m) due e made = match-crosses w j.matches n m e safe met made

  sound-by : (d : Deed) (a : Attempt) → Attempts w read now j rest d a → IsDue w j rest d → KeepsSound w (settled j a)
  sound-by d a (doing.Misses n from c why) due = failed-sound w j c _ placed all met
  sound-by d a (doing.Fails x c why) due = failed-sound w j c None placed all met
  sound-by d a (doing.Reads n from s seen is) due = going-sound w _ [] (next (saw j n s) rest) placed tt tt (saw-bridged n s seen) met
  sound-by d a (doing.Asks n b) due = going-sound w None (Request n.0 b ∷ []) (record (next j rest) { hands = hands_after j.hands n b }) placed (tt, tt) (tt, tt) all met
  sound-by d a (doing.Begins n to c until) due =
      going-sound w None (Request n.0 (asking.StartUntil c) ∷ []) (record (next j rest) { hands = hands_after j.hands n (asking.StartUntil c) }) placed (tt, tt) (tt, tt) all met
  sound-by d a (doing.Waits n x s is seen short more) due = going-sound w None [] (record (saw j n s) { waited = j.waited + 1 }) placed tt tt (saw-bridged n s seen) met
  sound-by d a (doing.Reaches n x s is seen over) due = going-sound w None [] (next (saw j n s) rest) placed tt tt (saw-bridged n s seen) met
  sound-by d a (doing.Attaches n x e is made of can done) due = going-sound w None (e ∷ []) (next j rest) placed (can-allowed w e can, tt) (move-joins n x is due e made, tt) all met
  sound-by d a (doing.Matches n m every c found) due =
      let x : Match = record { no = n; to = m; spot = standing_at (server_at w n.0); at = c } in
      going-sound w None [] (next (with_match j x) rest) placed tt tt all (All-push (Meets w) j.matches x met (match-meets w n m every c found safe))
  sound-by d a (doing.Finishes lines) due = record { joins = tt; bridged = all; met = met }
  sound-by d a _ due = going-sound w None [] (next j rest) placed tt tt all met

pub deed-sound : (w : World) (read : ℕ) (now : Moment) (j : Job) (rest : List Op) (d : Deed) → Safe w → Placed w → AllShow w j.seen → AllBridged w j.seen → AllMeet w j.matches → IsDue w j rest d
    → KeepsSound w (settled j (by_deed w read now j rest d))
deed-sound w read now j rest d safe placed shown all met due = sound-by w read now j rest safe placed shown all met d (by_deed w read now j rest d) (attempts w read now j rest d) due

pub turn-sound : (w : World) (read : ℕ) (now : Moment) (j : Job) → Safe w → Placed w → HeldJob w j → AllBridged w j.seen → AllMeet w j.matches → KeepsSound w (turned w read now j)
turn-sound w read now j safe placed held all met = go j.ops refl
  where
    go : (ops : List Op) → j.ops ≡ ops → KeepsSound w (settled j (by_ops w read now j ops))
    go [] is = record { joins = tt; bridged = all; met = met }
    go (op ∷ rest) is = deed-sound w read now j rest (deed_of op) safe placed held.shown all met (due-of w j op rest is held.left held.matched)

-- ---- an attempt after which the job goes on, whatever its owner makes of the others

pub goes-kept : (w : World) (read : ℕ) (now : Moment) (j k : Job) (rest : List Op) (d : Deed) (o : Option Observation) (es : List Exchange) → Placed w → AllShow w j.seen → ArePlaced w j.matches → IsDue w j rest d
    → by_deed w read now j rest d ≡ Goes o es k → KeepsHeld w (going o es k)
goes-kept w read now j k rest d o es placed shown ends due e = subst (λ (a : Attempt). KeepsHeld w (settled j a)) e (deed-kept w read now j rest d placed shown ends due)

pub goes-sound : (w : World) (read : ℕ) (now : Moment) (j k : Job) (rest : List Op) (d : Deed) (o : Option Observation) (es : List Exchange) → Safe w → Placed w → AllShow w j.seen
    → AllBridged w j.seen → AllMeet w j.matches → IsDue w j rest d → by_deed w read now j rest d ≡ Goes o es k → KeepsSound w (going o es k)
goes-sound w read now j k rest d o es safe placed shown all met due e = subst (λ (a : Attempt). KeepsSound w (settled j a)) e (deed-sound w read now j rest d safe placed shown all met due)
