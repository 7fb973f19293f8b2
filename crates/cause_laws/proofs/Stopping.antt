-- What happens to an operation stops its job, for that cause.
use Rattle.std.proofs.Common.{◌≡◌, ℕ, ◌+◌, ◌≤◌, Bool, true, false, cond, not, List, [], refl, sym, ◌∙◌, ap, subst, Option, Some, None, Err, is_some}
use Rattle.cause_laws.proofs.Prelude.{Ask, AttachFault, Befell, Cause, Coord, Deed, Exchange, Goes, IsAnswered, IsMoved, IsSpent, IsUnmatched, Job}
use Rattle.cause_laws.proofs.Prelude.{MatchFault, Moment, Observation, Op, ServerNo, SourceState, Status, Stops, World, after_answer, after_ask}
use Rattle.cause_laws.proofs.Prelude.{after_attach, after_look, after_match, after_status, after_until, after_wait, after_wait_by, aim_of}
use Rattle.cause_laws.proofs.Prelude.{attach_answer_of, attachment_of, by_deed, can_attach, can_reach, cause_by, cause_of_match, change_of}
use Rattle.cause_laws.proofs.Prelude.{desk_answer, false≢true, first_away, holds_seen, is_moved, is_reached, le-ltb, match_between, match_logs, next}
use Rattle.cause_laws.proofs.Prelude.{observed, only_where, same_Some, saw, seen_in, seen_of, server_at, server_of, settles, speaks_with, standing_at}
use Rattle.cause_laws.proofs.Prelude.{status, tries, until_by}
use Rattle.cause_laws.proofs.Prelude.asking
use Rattle.cause_laws.proofs.Prelude.attaching
use Rattle.cause_laws.proofs.Prelude.cause
use Rattle.cause_laws.proofs.Prelude.deed
use Rattle.cause_laws.proofs.Prelude.matching
use Rattle.cause_laws.proofs.Answering.{answer-from, answer-told, not-asked, not-read}
use Rattle.cause_laws.proofs.Aiming.{apart-moved, attachment-with, before-aim, lacks-set}

only-parts : (b : Bool) (m n : ServerNo) → only_where b m ≡ Some n → (b ≡ true) × (m ≡ n)
only-parts true m n h = (refl, same_Some m n h)
only-parts false m n h = cc

tries-some : (w : World) (o : Option Exchange) → tries w o ≡ true → (x : Exchange) × (o ≡ Some x) × (can_attach w x ≡ true)
tries-some w None h = absurd (false≢true h)
tries-some w (Some x) h = (x, refl, h)

some-coord : (o : Option Coord) → is_some o ≡ true → (c : Coord) × (o ≡ Some c)
some-coord None h = absurd (false≢true h)
some-coord (Some c) h = (c, refl)

module _ (w : World) (read : ℕ) (now : Moment) (j : Job) (rest : List Op) where
  abbrev StopsFor : Deed → Cause → Type 0
  StopsFor d c = (o : Option Observation) × (by_deed w read now j rest d ≡ Stops c o)

  -- ---- a server that isn't reached

  away : (d : Deed) (m n : ServerNo) → m ≡ n → can_reach (server_at w n.0) ≡ false → (can_reach (server_at w m.0) ≡ false → StopsFor d (cause.Unreachable m)) → StopsFor d (cause.Unreachable n)
  away d m n same h stops = subst (λ (k : ServerNo). StopsFor d (cause.Unreachable k)) same (stops (subst (λ (k : ServerNo). can_reach (server_at w k.0) ≡ false) (sym same) h))

  away-ask : (n : ServerNo) (a : Ask) → can_reach (server_at w n.0) ≡ false → after_ask j rest n a (desk_answer (server_at w n.0)) ≡ Stops (cause.Unreachable n) None
  away-ask n a h = ap (after_ask j rest n a) (not-asked (server_at w n.0) h)

  away-wait : (n : ServerNo) (reached : Status → Bool) → can_reach (server_at w n.0) ≡ false → after_wait j rest n reached (seen_in (status w n.0)) ≡ Stops (cause.Unreachable n) None
  away-wait n reached h = ap (after_wait j rest n reached) (not-read w (server_at w n.0) h)

  answered-so : (n : ServerNo) (o : Option Exchange) (x : Exchange) (f : AttachFault) → o ≡ Some x → can_attach w x ≡ true → attach_answer_of w x ≡ Err f
      → after_attach w j rest n o ≡ Stops (cause_by n f) None
  answered-so n o x f is can e =
      ap (after_attach w j rest n) is
      ∙ ap (λ b. cond b (after_answer j rest n x (attach_answer_of w x)) (Goes None [] (next j rest))) can
      ∙ ap (after_answer j rest n x) e

  away-attach : (d : Deed) (n : ServerNo) → change_of d ≡ Some n → tries w (attachment_of j d) ≡ true → can_reach (server_at w n.0) ≡ false
      → after_attach w j rest n (attachment_of j d) ≡ Stops (cause.Unreachable n) None
  away-attach d n changed tried h =
      let x = tries-some w (attachment_of j d) tried in
      let one : server_of x.0 ≡ n.0 = attachment-with j d n x.0 changed x.1 in
      answered-so n (attachment_of j d) x.0 attaching.Unreachable x.1 x.2 ((answer-told w x.0 x.2).away (subst (λ k. can_reach (server_at w k) ≡ false) (sym one) h))

  -- of two that are matched, the first that isn't reached
  away-match : (m k : ServerNo) (every : ℕ) → can_reach (server_at w (first_away w m k).0) ≡ false → match_logs w m k every ≡ Err (matching.Unreachable (first_away w m k))
  away-match m k every h = go (can_reach (server_at w m.0)) (can_reach (server_at w k.0)) refl h
    where
      go : (a b : Bool) → can_reach (server_at w k.0) ≡ b → can_reach (server_at w (cond a k m).0) ≡ false
          → cond (not a) (Err (matching.Unreachable m)) (cond (not b) (Err (matching.Unreachable k)) (match_between every (server_at w m.0) (server_at w k.0)))
          ≡ Err (matching.Unreachable (cond a k m))
      go false b e f = refl
      go true false e f = refl
      go true true e f = absurd (false≢true (sym f ∙ e))

  unreached-stops : (d : Deed) (n : ServerNo) → speaks_with w j d ≡ Some n → can_reach (server_at w n.0) ≡ false → StopsFor d (cause.Unreachable n)
  unreached-stops (deed.Look m from) n spoken h =
      away (deed.Look m from) m n (same_Some m n spoken) h (λ h. (Some (observed w read now m), ap (after_look j rest m from (observed w read now m)) (not-read w (server_at w m.0) h)))
  unreached-stops (deed.Request m a) n spoken h = away (deed.Request m a) m n (same_Some m n spoken) h (λ h. (None, away-ask m a h))
  unreached-stops (deed.Until m to) n spoken h =
      let parts = only-parts (is_some (until_by (seen_of j.seen m.0) (aim_of j.seen to))) m n spoken in
      let at = some-coord (until_by (seen_of j.seen m.0) (aim_of j.seen to)) parts.0 in
      away (deed.Until m to) m n parts.1 h (λ h. (None, ap (after_until w j rest m) at.1 ∙ away-ask m (asking.StartUntil at.0) h))
  unreached-stops (deed.Await m to) n spoken h = away (deed.Await m to) m n (same_Some m n spoken) h (λ h. (None, away-wait m (λ s. is_reached (aim_of j.seen to) s.exec) h))
  unreached-stops (deed.AwaitSet m k) n spoken h = away (deed.AwaitSet m k) m n (same_Some m n spoken) h (λ h. (None, away-wait m (holds_seen (seen_of j.seen k.0)) h))
  unreached-stops (deed.Settle m) n spoken h = away (deed.Settle m) m n (same_Some m n spoken) h (λ h. (None, away-wait m (settles j) h))
  unreached-stops (deed.Cross c a b) n spoken h =
      let parts = only-parts (tries w (attachment_of j (deed.Cross c a b))) a n spoken in
      away (deed.Cross c a b) a n parts.1 h (λ h. (None, away-attach (deed.Cross c a b) a refl parts.0 h))
  unreached-stops (deed.Same m) n spoken h =
      let parts = only-parts (tries w (attachment_of j (deed.Same m))) m n spoken in
      away (deed.Same m) m n parts.1 h (λ h. (None, away-attach (deed.Same m) m refl parts.0 h))
  unreached-stops (deed.Auto m k) n spoken h =
      let parts = only-parts (tries w (attachment_of j (deed.Auto m k))) m n spoken in
      away (deed.Auto m k) m n parts.1 h (λ h. (None, away-attach (deed.Auto m k) m refl parts.0 h))
  unreached-stops (deed.Match m k every) n spoken h =
      away (deed.Match m k every) (first_away w m k) n (same_Some (first_away w m k) n spoken) h
      (λ h. (None, ap (after_match j rest m k (standing_at (server_at w m.0))) (away-match m k every h)))
  unreached-stops (deed.CrossMatch m k) n spoken h =
      let parts = only-parts (tries w (attachment_of j (deed.CrossMatch m k))) m n spoken in
      away (deed.CrossMatch m k) m n parts.1 h (λ h. (None, away-attach (deed.CrossMatch m k) m refl parts.0 h))
  unreached-stops (deed.Finish lines) n spoken h = cc

  -- ---- an attachment's answer

  at-server : (d : Deed) (m n : ServerNo) (f : AttachFault) → Some m ≡ Some n → by_deed w read now j rest d ≡ Stops (cause_by m f) None → StopsFor d (cause_by n f)
  at-server d m n f same e = subst (λ (k : ServerNo). StopsFor d (cause_by k f)) (same_Some m n same) (None, e)

  answered-stops : (d : Deed) (n : ServerNo) (f : AttachFault) → IsAnswered w j d n f → StopsFor d (cause_by n f)
  answered-stops (deed.Cross c a b) n f h =
      at-server (deed.Cross c a b) a n f h.changed (answered-so a (attachment_of j (deed.Cross c a b)) h.exchange f h.found h.can (answer-from w h.exchange f h.answer))
  answered-stops (deed.Same m) n f h =
      at-server (deed.Same m) m n f h.changed (answered-so m (attachment_of j (deed.Same m)) h.exchange f h.found h.can (answer-from w h.exchange f h.answer))
  answered-stops (deed.Auto m k) n f h =
      at-server (deed.Auto m k) m n f h.changed (answered-so m (attachment_of j (deed.Auto m k)) h.exchange f h.found h.can (answer-from w h.exchange f h.answer))
  answered-stops (deed.CrossMatch m k) n f h =
      at-server (deed.CrossMatch m k) m n f h.changed (answered-so m (attachment_of j (deed.CrossMatch m k)) h.exchange f h.found h.can (answer-from w h.exchange f h.answer))
  answered-stops _ n f h = let none = h.found in cc

  -- ---- a server that was moved

  moved-stops : (d : Deed) (n : ServerNo) (source : SourceState) → IsMoved w d n source → StopsFor d (cause.Moved n source)
  moved-stops d n source h = subst (λ (d : Deed). StopsFor d (cause.Moved n source)) (sym h.look) (Some (observed w read now n), stops)
    where
      moved : is_moved (Some h.named) h.seen.source ≡ true
      moved = apart-moved h.named h.seen.source (λ e. h.other (sym h.is ∙ e))

      stops : by_deed w read now j rest (deed.Look n (Some h.named)) ≡ Stops (cause.Moved n source) (Some (observed w read now n))
      stops =
          ap (after_look j rest n (Some h.named) (observed w read now n)) h.shown
          ∙ ap (after_status j rest n (Some h.named) (observed w read now n) h.seen) moved
          ∙ ap (λ (x : SourceState). Stops (cause.Moved n x) (Some (observed w read now n))) h.is

  -- ---- a wait that is spent

  spent-by : (n : ServerNo) (reached : Status → Bool) (s : Status) → seen_in (status w n.0) ≡ Some s → reached s ≡ false → j.wait ≤ j.waited + 1
      → after_wait j rest n reached (seen_in (status w n.0)) ≡ Stops (cause.WaitSpent n) None
  spent-by n reached s is missed last =
      ap (after_wait j rest n reached) is
      ∙ ap (after_wait_by j rest n s) missed
      ∙ ap (λ b. cond b (Goes None [] (record (saw j n s) { waited = j.waited + 1 })) (Stops (cause.WaitSpent n) None)) (le-ltb (j.waited + 1) j.wait last)

  spent-at : (d : Deed) (m n : ServerNo) (s : Status) → Some m ≡ Some n → seen_in (status w n.0) ≡ Some s
      → (seen_in (status w m.0) ≡ Some s → by_deed w read now j rest d ≡ Stops (cause.WaitSpent m) None) → StopsFor d (cause.WaitSpent n)
  spent-at d m n s same is stops =
      let one : m ≡ n = same_Some m n same in
      subst (λ (k : ServerNo). StopsFor d (cause.WaitSpent k)) one (None, stops (subst (λ (k : ServerNo). seen_in (status w k.0) ≡ Some s) (sym one) is))

  spent-stops : (d : Deed) (n : ServerNo) → IsSpent w j d n → StopsFor d (cause.WaitSpent n)
  spent-stops (deed.Await m to) n h =
      spent-at (deed.Await m to) m n h.short.seen h.short.spoken h.short.shown
      (λ is. spent-by m (λ s. is_reached (aim_of j.seen to) s.exec) h.short.seen is (before-aim (aim_of j.seen to) h.short.seen.exec h.short.misses) h.last)
  spent-stops (deed.AwaitSet m k) n h =
      spent-at (deed.AwaitSet m k) m n h.short.seen h.short.spoken h.short.shown
      (λ is. spent-by m (holds_seen (seen_of j.seen k.0)) h.short.seen is (lacks-set (seen_of j.seen k.0) h.short.seen h.short.misses) h.last)
  spent-stops _ n h = absurd (false≢true h.fails)

  -- ---- logs that don't match

  unmatched-stops : (d : Deed) (n : ServerNo) (f : MatchFault) → IsUnmatched w d n f → StopsFor d (cause_of_match n f)
  unmatched-stops d n f h =
      subst (λ (d : Deed). StopsFor d (cause_of_match n f)) (sym h.match) (None, ap (after_match j rest n h.other (standing_at (server_at w n.0))) h.answer)

  -- ---- whatever it is

  pub befallen-stops : (d : Deed) (c : Cause) → Befell w j d c → StopsFor d c
  befallen-stops d (cause.Unreachable n) h = unreached-stops d n h.spoken h.away
  befallen-stops d (cause.WaitSpent n) h = spent-stops d n h
  befallen-stops d (cause.Interfered n expected found) h = answered-stops d n (attaching.Interfered expected found) h
  befallen-stops d (cause.Running n) h = answered-stops d n (attaching.Running h.0) h.1
  befallen-stops d (cause.Loop n) h = answered-stops d n attaching.Loop h
  befallen-stops d (cause.Errant n set) h = answered-stops d n (attaching.Errant set) h
  befallen-stops d (cause.Moved n source) h = moved-stops d n source h
  befallen-stops d (cause.Purged n first) h = answered-stops d n (attaching.Purged first) h
  befallen-stops d (cause.NoMark n) h = unmatched-stops d n matching.NoMark h
  befallen-stops d (cause.Mismatch n entry) h = unmatched-stops d n (matching.Mismatch entry) h
  befallen-stops d _ h = absurd h
