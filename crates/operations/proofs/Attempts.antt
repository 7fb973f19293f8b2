-- What an operation comes to, in each of its outcomes.
use Rattle.std.proofs.Common.{◌≡◌, ℕ, ◌+◌, Bool, true, false, cond, List, [], ◌∷◌, refl, sym, ◌∙◌, ap, Option, Some, None, Ok, Err, Result, IfSome, nat_lt}
use Rattle.operations.proofs.Prelude.{Aim, Ask, Attach, AttachAuto, AttachFault, Attached, Attempt, Bridge, Cause, Coord, Crossing, Deed, Detached}
use Rattle.operations.proofs.Prelude.{Ends, Exchange, Goes, Interval, Job, Line, Match, MatchFault, Moment, Op, Position, ServerNo, SourceState, Spot}
use Rattle.operations.proofs.Prelude.{Status, Stops, Unreachable, Without, World, after_answer, after_ask, after_attach, after_look, after_match}
use Rattle.operations.proofs.Prelude.{after_status, after_until, after_wait, after_wait_by, aim_of, attach_answer_of, attached_anew, bridge_at}
use Rattle.operations.proofs.Prelude.{by_deed, by_match, by_set, can_attach, cause_by, cause_of_match, crossed, crossing_of, desk_answer, holds_seen}
use Rattle.operations.proofs.Prelude.{is_moved, is_reached, match_found, match_logs, next, observed, read_by, same_Some, same_again, saw, seen_in}
use Rattle.operations.proofs.Prelude.{seen_of, server_at, server_of, settles, standing_at, status, until_by}
use Rattle.operations.proofs.Prelude.asking
use Rattle.operations.proofs.Prelude.cause
use Rattle.operations.proofs.Prelude.cross
use Rattle.operations.proofs.Prelude.deed

-- an operation that waits for what a server's status shows
pub data IsWaitFor (n : ServerNo) : Deed → Type 0 where
  Awaits : (to : Aim) → IsWaitFor n (deed.Await n to)
  AwaitsSet : (m : ServerNo) → IsWaitFor n (deed.AwaitSet n m)
  Settles : IsWaitFor n (deed.Settle n)

-- one that changes a server's source
pub data IsMove (n : ServerNo) : Deed → Type 0 where
  Crosses : (c : Crossing) (b : ServerNo) → IsMove n (deed.Cross c n b)
  Stays : IsMove n (deed.Same n)
  GoesBySet : (m : ServerNo) → IsMove n (deed.Auto n m)
  GoesByMatch : (m : ServerNo) → IsMove n (deed.CrossMatch n m)

-- an attachment of a server
pub data IsAttachment (n : ServerNo) : Exchange → Type 0 where
  At : (expect : Spot) (to : ServerNo) (at : Coord) → IsAttachment n (Attach n.0 expect to at)
  BySet : (set : List Interval) (to : ServerNo) → IsAttachment n (AttachAuto n.0 set to)

pub attached-server : (n : ServerNo) (e : Exchange) → IsAttachment n e → server_of e ≡ n.0
attached-server n e (At expect to at) = refl
attached-server n e (BySet set to) = refl

-- the attachment that an operation makes of what its job saw and found
abbrev pub attachment_in : Job → Deed → Option Exchange
attachment_in j (deed.Cross c a b) = crossing_of j.seen c a b
attachment_in j (deed.Same n) = same_again n (seen_of j.seen n.0)
attachment_in j (deed.Auto n m) = by_set n m (seen_of j.seen m.0)
attachment_in j (deed.CrossMatch n m) = by_match n m (match_found j.matches n m)
attachment_in j _ = None

pub crossed-of : (n : ServerNo) (c : Crossing) (o : Option Bridge) → IfSome (crossed c n o) (IsAttachment n)
crossed-of n c None = tt
crossed-of n cross.Up (Some b) = At _ _ _
crossed-of n _ (Some b) = At _ _ _

anew-of : (n : ServerNo) (at : Coord) (s : SourceState) → IfSome (attached_anew n at s) (IsAttachment n)
anew-of n at Without = tt
anew-of n at (Attached m) = At _ _ _
anew-of n at (Detached m) = At _ _ _

pub same-of : (n : ServerNo) (o : Option Position) → IfSome (same_again n o) (IsAttachment n)
same-of n None = tt
same-of n (Some s) = anew-of n s.exec s.source

pub set-of : (n m : ServerNo) (o : Option Position) → IfSome (by_set n m o) (IsAttachment n)
set-of n m None = tt
set-of n m (Some s) = BySet _ _

pub match-of : (n m : ServerNo) (o : Option Match) → IfSome (by_match n m o) (IsAttachment n)
match-of n m None = tt
match-of n m (Some x) = At _ _ _

-- by this status a wait is over
abbrev pub is_over : Job → Deed → Status → Bool
is_over j (deed.Await n to) = λ s. is_reached (aim_of j.seen to) s.exec
is_over j (deed.AwaitSet n m) = holds_seen (seen_of j.seen m.0)
is_over j (deed.Settle n) = settles j
is_over j _ = λ s. true

-- why an operation stops its job
pub data StopsFor (w : World) (j : Job) : Deed → Cause → Type 0 where
  Unread : (n : ServerNo) (from : Option ServerNo) → seen_in (status w n.0) ≡ None → StopsFor w j (deed.Look n from) (cause.Unreachable n)
  Moved : (n : ServerNo) (from : Option ServerNo) (s : Status) → seen_in (status w n.0) ≡ Some s → is_moved from s.source ≡ true → StopsFor w j (deed.Look n from) (cause.Moved n s.source)
  Unasked : (n : ServerNo) (a : Ask) → desk_answer (server_at w n.0) ≡ Err (record {}) → StopsFor w j (deed.Request n a) (cause.Unreachable n)
  Unbegun : (n : ServerNo) (to : Aim) (c : Coord) → until_by (seen_of j.seen n.0) (aim_of j.seen to) ≡ Some c → desk_answer (server_at w n.0) ≡ Err (record {}) → StopsFor w j (deed.Until n to) (cause.Unreachable n)
  Unseen : (n : ServerNo) (d : Deed) → IsWaitFor n d → seen_in (status w n.0) ≡ None → StopsFor w j d (cause.Unreachable n)
  Spent : (n : ServerNo) (d : Deed) (s : Status) → IsWaitFor n d → seen_in (status w n.0) ≡ Some s → is_over j d s ≡ false → nat_lt (j.waited + 1) j.wait ≡ false → StopsFor w j d (cause.WaitSpent n)
  Refused : (n : ServerNo) (d : Deed) (e : Exchange) (f : AttachFault) → IsMove n d → attachment_in j d ≡ Some e → IsAttachment n e → can_attach w e ≡ true → attach_answer_of w e ≡ Err f
      → StopsFor w j d (cause_by n f)
  Unmatched : (n m : ServerNo) (every : ℕ) (f : MatchFault) → match_logs w n m every ≡ Err f → StopsFor w j (deed.Match n m every) (cause_of_match n f)

-- What an operation comes to: it fails by a status, or without one, it is passed over, or it does what it is for.
pub data Attempts (w : World) (read : ℕ) (now : Moment) (j : Job) (rest : List Op) : Deed → Attempt → Type 0 where
  Misses : (n : ServerNo) (from : Option ServerNo) (c : Cause) → StopsFor w j (deed.Look n from) c → Attempts w read now j rest (deed.Look n from) (Stops c (Some (observed w read now n)))
  Fails : (d : Deed) (c : Cause) → StopsFor w j d c → Attempts w read now j rest d (Stops c None)
  Reads : (n : ServerNo) (from : Option ServerNo) (s : Status) → seen_in (status w n.0) ≡ Some s → is_moved from s.source ≡ false
      → Attempts w read now j rest (deed.Look n from) (Goes (Some (observed w read now n)) [] (next (saw j n s) rest))
  Asks : (n : ServerNo) (a : Ask) → Attempts w read now j rest (deed.Request n a) (after_ask j rest n a (Ok tt))
  Begins : (n : ServerNo) (to : Aim) (c : Coord) → until_by (seen_of j.seen n.0) (aim_of j.seen to) ≡ Some c → Attempts w read now j rest (deed.Until n to) (after_ask j rest n (asking.StartUntil c) (Ok tt))
  Omits : (n : ServerNo) (to : Aim) → until_by (seen_of j.seen n.0) (aim_of j.seen to) ≡ None → Attempts w read now j rest (deed.Until n to) (Goes None [] (next j rest))
  Waits : (n : ServerNo) (d : Deed) (s : Status) → IsWaitFor n d → seen_in (status w n.0) ≡ Some s → is_over j d s ≡ false → nat_lt (j.waited + 1) j.wait ≡ true
      → Attempts w read now j rest d (Goes None [] (record (saw j n s) { waited = j.waited + 1 }))
  Reaches : (n : ServerNo) (d : Deed) (s : Status) → IsWaitFor n d → seen_in (status w n.0) ≡ Some s → is_over j d s ≡ true → Attempts w read now j rest d (Goes None [] (next (saw j n s) rest))
  Attaches : (n : ServerNo) (d : Deed) (e : Exchange) → IsMove n d → attachment_in j d ≡ Some e → IsAttachment n e → can_attach w e ≡ true → attach_answer_of w e ≡ Ok tt
      → Attempts w read now j rest d (Goes None (e ∷ []) (next j rest))
  Passes : (n : ServerNo) (d : Deed) → IsMove n d → ((e : Exchange) → attachment_in j d ≡ Some e → can_attach w e ≡ false) → Attempts w read now j rest d (Goes None [] (next j rest))
  Matches : (n m : ServerNo) (every : ℕ) (c : Coord) → match_logs w n m every ≡ Ok c
      → Attempts w read now j rest (deed.Match n m every) (after_match j rest n m (standing_at (server_at w n.0)) (Ok c))
  Finishes : (lines : List Line) → Attempts w read now j rest (deed.Finish lines) (Ends lines)

module _ (w : World) (read : ℕ) (now : Moment) (j : Job) (rest : List Op) where
  abbrev Did : Deed → Attempt → Type 0
  Did d a = Attempts w read now j rest d a

  by-look : (n : ServerNo) (from : Option ServerNo) (r : Option Status) → seen_in (status w n.0) ≡ r → Did (deed.Look n from) (after_look j rest n from (observed w read now n) r)
  by-look n from None seen = Misses n from _ (Unread n from seen)
  by-look n from (Some s) seen = go (is_moved from s.source) refl
    where
      go : (b : Bool) → is_moved from s.source ≡ b → Did (deed.Look n from) (after_status j rest n from (observed w read now n) s b)
      go true is = Misses n from _ (Moved n from s seen is)
      go false is = Reads n from s seen is

  by-ask : (n : ServerNo) (a : Ask) (r : Result (Unit {0}) Unreachable) → desk_answer (server_at w n.0) ≡ r → Did (deed.Request n a) (after_ask j rest n a r)
  by-ask n a (Ok t) answer = Asks n a
  by-ask n a (Err e) answer = Fails (deed.Request n a) _ (Unasked n a answer)

  by-until : (n : ServerNo) (to : Aim) (o : Option Coord) → until_by (seen_of j.seen n.0) (aim_of j.seen to) ≡ o → Did (deed.Until n to) (after_until w j rest n o)
  by-until n to None is = Omits n to is
  by-until n to (Some c) is = go (desk_answer (server_at w n.0)) refl
    where
      go : (r : Result (Unit {0}) Unreachable) → desk_answer (server_at w n.0) ≡ r → Did (deed.Until n to) (after_ask j rest n (asking.StartUntil c) r)
      go (Ok t) answer = Begins n to c is
      go (Err e) answer = Fails (deed.Until n to) _ (Unbegun n to c is answer)

  by-wait : (n : ServerNo) (d : Deed) → IsWaitFor n d → (r : Option Status) → seen_in (status w n.0) ≡ r → Did d (after_wait j rest n (is_over j d) r)
  by-wait n d is None seen = Fails d _ (Unseen n d is seen)
  by-wait n d is (Some s) seen = go (is_over j d s) refl
    where
      more : is_over j d s ≡ false → (b : Bool) → nat_lt (j.waited + 1) j.wait ≡ b → Did d (cond b (Goes None [] (record (saw j n s) { waited = j.waited + 1 })) (Stops (cause.WaitSpent n) None))
      more short true left = Waits n d s is seen short left
      more short false left = Fails d _ (Spent n d s is seen short left)

      go : (b : Bool) → is_over j d s ≡ b → Did d (after_wait_by j rest n s b)
      go true over = Reaches n d s is seen over
      go false short = more short (nat_lt (j.waited + 1) j.wait) refl

  by-move : (n : ServerNo) (d : Deed) → IsMove n d → (o : Option Exchange) → attachment_in j d ≡ o → IfSome o (IsAttachment n) → Did d (after_attach w j rest n o)
  by-move n d is None made of = Passes n d is (λ e h. let none : None ≡ Some e = sym made ∙ h in cc)
  by-move n d is (Some e) made of = go (can_attach w e) refl
    where
      answered : can_attach w e ≡ true → (r : Result (Unit {0}) AttachFault) → attach_answer_of w e ≡ r → Did d (after_answer j rest n e r)
      answered can (Ok t) answer = Attaches n d e is made of can answer
      answered can (Err f) answer = Fails d _ (Refused n d e f is made of can answer)

      go : (b : Bool) → can_attach w e ≡ b → Did d (cond b (after_answer j rest n e (attach_answer_of w e)) (Goes None [] (next j rest)))
      go true can = answered can (attach_answer_of w e) refl
      go false can = Passes n d is (λ x h. ap (can_attach w) (same_Some x e (sym h ∙ made)) ∙ can)

  by-matching : (n m : ServerNo) (every : ℕ) (r : Result Coord MatchFault) → match_logs w n m every ≡ r → Did (deed.Match n m every) (after_match j rest n m (standing_at (server_at w n.0)) r)
  by-matching n m every (Ok c) found = Matches n m every c found
  by-matching n m every (Err f) found = Fails (deed.Match n m every) _ (Unmatched n m every f found)

  pub attempts : (d : Deed) → Did d (by_deed w read now j rest d)
  attempts (deed.Look n from) = by-look n from (seen_in (status w n.0)) refl
  attempts (deed.Request n a) = by-ask n a (desk_answer (server_at w n.0)) refl
  attempts (deed.Until n to) = by-until n to (until_by (seen_of j.seen n.0) (aim_of j.seen to)) refl
  attempts (deed.Await n to) = by-wait n (deed.Await n to) (Awaits to) (seen_in (status w n.0)) refl
  attempts (deed.AwaitSet n m) = by-wait n (deed.AwaitSet n m) (AwaitsSet m) (seen_in (status w n.0)) refl
  attempts (deed.Settle n) = by-wait n (deed.Settle n) Settles (seen_in (status w n.0)) refl
  attempts (deed.Cross c a b) = by-move a (deed.Cross c a b) (Crosses c b) (crossing_of j.seen c a b) refl (crossed-of a c (bridge_at (read_by c a b) (seen_of j.seen (read_by c a b).0)))
  attempts (deed.Same n) = by-move n (deed.Same n) Stays (same_again n (seen_of j.seen n.0)) refl (same-of n (seen_of j.seen n.0))
  attempts (deed.Auto n m) = by-move n (deed.Auto n m) (GoesBySet m) (by_set n m (seen_of j.seen m.0)) refl (set-of n m (seen_of j.seen m.0))
  attempts (deed.Match n m every) = by-matching n m every (match_logs w n m every) refl
  attempts (deed.CrossMatch n m) = by-move n (deed.CrossMatch n m) (GoesByMatch m) (by_match n m (match_found j.matches n m)) refl (match-of n m (match_found j.matches n m))
  attempts (deed.Finish lines) = Finishes lines
