-- The cause of an operation that stops its job is true in the world in which it stopped it.
use Rattle.std.proofs.Common.{◌≡◌, ℕ, Bool, true, false, cond, not, List, [], ◌∷◌, length, refl, sym, ◌∙◌, ap, subst, Option, Some, None, Ok, Err, Result, ◌&&◌, ◌||◌, inl, inr, nat_lt}
use Rattle.recovery_reasons.proofs.Prelude.{AttachFault, Attempt, Attempts, Cause, Coord, Deed, Exchange, Interval, IsAttachment, IsMatchCause}
use Rattle.recovery_reasons.proofs.Prelude.{IsTrueOf, IsUnreached, Job, MatchFault, Moment, Observation, Op, Server, ServerNo, Spot, StopsFor, World}
use Rattle.recovery_reasons.proofs.Prelude.{after_match, answer_by_sets, attach_answer, attach_answer_of, attach_auto_answer, attempts, auto_purged}
use Rattle.recovery_reasons.proofs.Prelude.{by_deed, cause_by, chain_meets, desk_answer, errant_answer, errant_set, first_kept, held_of, live_spot}
use Rattle.recovery_reasons.proofs.Prelude.{match_logs, observed, purged_answer, purged_len, same_Some, same_spot, seen_in, server_at, shown_of}
use Rattle.recovery_reasons.proofs.Prelude.{sources, spoken_to, spot_below, standing_at, status, status_in, uuids}
use Rattle.recovery_reasons.proofs.Prelude.attaching
use Rattle.recovery_reasons.proofs.Prelude.attempt
use Rattle.recovery_reasons.proofs.Prelude.cause
use Rattle.recovery_reasons.proofs.Prelude.deed
use Rattle.recovery_reasons.proofs.Prelude.seeing
use Rattle.recovery_reasons.proofs.Prelude.doing
use Rattle.recovery_reasons.proofs.Sights.{move-speaks, wait-speaks}

-- what isn't seen isn't reached
unseen-unreached : (w : World) (n : ℕ) → seen_in (status w n) ≡ None → IsUnreached w n
unseen-unreached w n h = go (server_at w n) h
  where
    by : (s : Server) (b : Bool) → (s.up && s.desk) ≡ b → seen_in (cond b (Ok (shown_of w s)) (Err seeing.Unreachable)) ≡ None → desk_answer (Some s) ≡ Err (record {})
    by s true e h = cc
    by s false e h = ap (λ b. cond b (Ok tt) (Err (record {}))) e

    go : (o : Option Server) → seen_in (status_in w o) ≡ None → desk_answer o ≡ Err (record {})
    go None h = refl
    go (Some s) h = by s (s.up && s.desk) refl h

-- the cause of an attempt that stops its job
abbrev pub StopsTruly : World → ServerNo → Attempt → Type 0
StopsTruly w n (attempt.Goes o es k) = Unit {0}
StopsTruly w n (attempt.Stops c o) = IsTrueOf w n c
StopsTruly w n (attempt.Ends lines) = Unit {0}

abbrev accepted : Result (Unit {0}) AttachFault
accepted = Ok tt

abbrev refused : AttachFault → Result (Unit {0}) AttachFault
refused f = Err f

module _ (w : World) (j : Job) (rest : List Op) (n : ServerNo) where
  by-fault : (x f : AttachFault) → IsTrueOf w n (cause_by n x) → refused x ≡ refused f → IsTrueOf w n (cause_by n f)
  by-fault x f h e = subst (λ (y : AttachFault). IsTrueOf w n (cause_by n y)) (ap fault-of e) h
    where
      fault-of : Result (Unit {0}) AttachFault → AttachFault
      fault-of (Ok t) = attaching.Unreachable
      fault-of (Err y) = y

  answer-true : (expect : Spot) (to : ServerNo) (c : Coord) (o : Option Server) → server_at w n.0 ≡ o → (f : AttachFault) → attach_answer w n.0 expect to.0 c o ≡ Err f
      → IsTrueOf w n (cause_by n f)
  answer-true expect to c None at f e = by-fault attaching.Unreachable f (refl, ap desk_answer at) e
  answer-true expect to c (Some s) at f e =
      go (s.up && s.desk) refl (s.receiver || s.applier) refl (same_spot expect (live_spot s expect)) refl (chain_meets (sources w) (length w.servers) to.0 n.0) (nat_lt c.file first) e
    where
      first : ℕ
      first = first_kept (server_at w to.0)

      purged : attach_answer w n.0 expect to.0 c (Some s) ≡ Err (attaching.Purged first) → IsTrueOf w n (cause.Purged n first)
      purged h = (refl, inl (expect, to, c, ap (attach_answer w n.0 expect to.0 c) at ∙ h))

      go : (a : Bool) → (s.up && s.desk) ≡ a → (b : Bool) → (s.receiver || s.applier) ≡ b → (x : Bool) → same_spot expect (live_spot s expect) ≡ x → (d p : Bool)
          → cond (not a) (Err attaching.Unreachable) (cond b (Err (attaching.Running (spot_below s s.source))) (cond (not x) (Err (attaching.Interfered expect (live_spot s expect))) (cond d (Err attaching.Loop) (purged_answer p first)))) ≡ refused f
          → IsTrueOf w n (cause_by n f)
      go false p b q x y d k e = by-fault attaching.Unreachable f (refl, ap desk_answer at ∙ ap (λ y. cond y (Ok tt) (Err (record {}))) p) e
      go true p true q x y d k e = by-fault (attaching.Running (spot_below s s.source)) f (refl, record { server = s; there = at; running = q }) e
      go true p false q false y d k e = by-fault (attaching.Interfered expect (live_spot s expect)) f (refl, (s, at, refl, y)) e
      go true p false q true y true k e = by-fault attaching.Loop f refl e
      go true p false q true y false true g = by-fault (attaching.Purged first) f (purged (e ∙ sym g)) g
      go true p false q true y false false e = cc

  auto-true : (observed : List Interval) (to : ServerNo) (o : Option Server) → server_at w n.0 ≡ o → (f : AttachFault) → attach_auto_answer w n.0 observed to.0 o ≡ Err f → IsTrueOf w n (cause_by n f)
  auto-true observed to None at f e = by-fault attaching.Unreachable f (refl, ap desk_answer at) e
  auto-true observed to (Some s) at f e =
      go (s.up && s.desk) refl (s.receiver || s.applier) refl (chain_meets (sources w) (length w.servers) to.0 n.0) (errant_set (uuids w) observed s.history.txns) e
    where
      later : Result (Unit {0}) AttachFault
      later = auto_purged (uuids w) s (server_at w to.0)

      whole : (set : List Interval) → attach_auto_answer w n.0 observed to.0 (Some s) ≡ Err (attaching.Errant set) → IsTrueOf w n (cause.Errant n set)
      whole set h = (refl, (observed, to, ap (attach_auto_answer w n.0 observed to.0) at ∙ h))

      purged : (first : ℕ) → attach_auto_answer w n.0 observed to.0 (Some s) ≡ Err (attaching.Purged first) → IsTrueOf w n (cause.Purged n first)
      purged first h = (refl, inr (observed, to, ap (attach_auto_answer w n.0 observed to.0) at ∙ h))

      by-purge : (p : Bool) (first : ℕ) → purged_answer p first ≡ refused f → IsTrueOf w n (cause_by n f)
      by-purge true first g = by-fault (attaching.Purged first) f (purged first (e ∙ sym g)) g
      by-purge false first g = cc

      kept : (t : Option Server) → auto_purged (uuids w) s t ≡ refused f → IsTrueOf w n (cause_by n f)
      kept None g = cc
      kept (Some t) g = by-purge (nat_lt (held_of (uuids w) s t) (purged_len t)) t.first g

      errant : (xs : List Interval) → errant_answer xs later ≡ refused f → IsTrueOf w n (cause_by n f)
      errant [] g = kept (server_at w to.0) g
      errant (x ∷ xs) g = by-fault (attaching.Errant (x ∷ xs)) f (whole (x ∷ xs) (e ∙ sym g)) g

      go : (a : Bool) → (s.up && s.desk) ≡ a → (b : Bool) → (s.receiver || s.applier) ≡ b → (d : Bool) → (xs : List Interval)
          → answer_by_sets (cond (not a) (Err attaching.Unreachable) (cond b (Err (attaching.Running (spot_below s s.source))) (cond d (Err attaching.Loop) accepted))) xs later ≡ refused f
          → IsTrueOf w n (cause_by n f)
      go false p b q d xs g = by-fault attaching.Unreachable f (refl, ap desk_answer at ∙ ap (λ y. cond y (Ok tt) (Err (record {}))) p) g
      go true p true q d xs g = by-fault (attaching.Running (spot_below s s.source)) f (refl, record { server = s; there = at; running = q }) g
      go true p false q true xs g = by-fault attaching.Loop f refl g
      go true p false q false xs g = errant xs g

  refused-true : (e : Exchange) → IsAttachment n e → (f : AttachFault) → attach_answer_of w e ≡ Err f → IsTrueOf w n (cause_by n f)
  refused-true e (doing.At expect to at) f answer = answer-true expect to at (server_at w n.0) refl f answer
  refused-true e (doing.BySet set to) f answer = auto-true set to (server_at w n.0) refl f answer

-- any operation
module _ (w : World) (read : ℕ) (now : Moment) (j : Job) (rest : List Op) (n : ServerNo) where
  for-it : (m : ServerNo) (c : ServerNo → Cause) → Some m ≡ Some n → IsTrueOf w m (c m) → IsTrueOf w n (c m)
  for-it m c e h = subst (λ (k : ServerNo). IsTrueOf w k (c m)) (same_Some m n e) h

  stops-true : (d : Deed) (c : Cause) → StopsFor w j d c → spoken_to d ≡ Some n → IsTrueOf w n c
  stops-true d c (doing.Unread m from seen) e = for-it m cause.Unreachable e (refl, unseen-unreached w m.0 seen)
  stops-true d c (doing.Moved m from s seen is) e = for-it m (λ k. cause.Moved k s.source) e (refl, (s, seen, refl))
  stops-true d c (doing.Unasked m a answer) e = for-it m cause.Unreachable e (refl, answer)
  stops-true d c (doing.Unbegun m to at until answer) e = for-it m cause.Unreachable e (refl, answer)
  stops-true d c (doing.Unseen m x is seen) e = for-it m cause.Unreachable (sym (wait-speaks m x is) ∙ e) (refl, unseen-unreached w m.0 seen)
  stops-true d c (doing.Spent m x s is seen short more) e = for-it m cause.WaitSpent (sym (wait-speaks m x is) ∙ e) (refl, (s, seen))
  stops-true d c (doing.Refused m x y f is made of can answer) e = for-it m (λ k. cause_by k f) (sym (move-speaks m x is) ∙ e) (refused-true w j rest m y of f answer)
  stops-true d c (doing.Unmatched m k every f found) e = cc

  true-by : (d : Deed) (a : Attempt) → Attempts w read now j rest d a → spoken_to d ≡ Some n → StopsTruly w n a
  true-by d a (doing.Misses m from c why) e = stops-true (deed.Look m from) c why e
  true-by d a (doing.Fails x c why) e = stops-true x c why e
  true-by d a _ e = tt

pub deed-true : (w : World) (j : Job) (rest : List Op) (n : ServerNo) (read : ℕ) (now : Moment) (d : Deed) → spoken_to d ≡ Some n → StopsTruly w n (by_deed w read now j rest d)
deed-true w j rest n read now d on = true-by w read now j rest n d (by_deed w read now j rest d) (attempts w read now j rest d) on

pub cause-true : (w : World) (read : ℕ) (now : Moment) (j : Job) (rest : List Op) (d : Deed) (n : ServerNo) (c : Cause) (ob : Option Observation) → spoken_to d ≡ Some n → by_deed w read now j rest d ≡ attempt.Stops c ob → IsTrueOf w n c
cause-true w read now j rest d n c ob on e = subst (λ (a : Attempt). StopsTruly w n a) e (deed-true w j rest n read now d on)

-- that of a match
abbrev StopsUnmatched : World → ServerNo → ServerNo → ℕ → Attempt → Type 0
StopsUnmatched w n m every (attempt.Goes o es k) = Unit {0}
StopsUnmatched w n m every (attempt.Stops c o) = IsMatchCause w n m every c
StopsUnmatched w n m every (attempt.Ends lines) = Unit {0}

pub match-cause : (w : World) (read : ℕ) (now : Moment) (j : Job) (rest : List Op) (n m : ServerNo) (every : ℕ) (c : Cause) (ob : Option Observation) → by_deed w read now j rest (deed.Match n m every) ≡ attempt.Stops c ob
    → IsMatchCause w n m every c
match-cause w read now j rest n m every c ob e = subst (λ (a : Attempt). StopsUnmatched w n m every a) e (go (match_logs w n m every) refl)
  where
    go : (r : Result Coord MatchFault) → match_logs w n m every ≡ r → StopsUnmatched w n m every (after_match j rest n m (standing_at (server_at w n.0)) r)
    go (Ok at) is = tt
    go (Err f) is = (f, refl, is)
