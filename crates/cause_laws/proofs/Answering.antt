-- What exchanges answer of a server that isn't reached, and of one that is.
use Rattle.std.proofs.Common.{◌≡◌, ℕ, Bool, true, false, cond, not, ◌&&◌, ◌||◌, List, [], ◌∷◌, length, refl, ap, subst, Option, Some, None, Ok, Err, Result, nat_lt}
use Rattle.cause_laws.proofs.Prelude.{Answers, Attach, AttachAuto, AttachFault, Coord, Exchange, Interval}
use Rattle.cause_laws.proofs.Prelude.{Server, Spot, Unreachable, World, answer_by_sets, attach_answer, attach_answer_of}
use Rattle.cause_laws.proofs.Prelude.{attach_auto_answer, attach_decision, auto_decision, auto_purged, auto_readiness, can_attach, can_reach}
use Rattle.cause_laws.proofs.Prelude.{chain_meets, desk_answer, errant_answer, errant_set, false≢true, first_kept, held_of, live_spot, purged_answer}
use Rattle.cause_laws.proofs.Prelude.{purged_len, same_spot, seen_in, server_at, server_of, shown_of, sources, spot_below, status_in, uuids}
use Rattle.cause_laws.proofs.Prelude.attaching
use Rattle.cause_laws.proofs.Prelude.seeing

-- ---- statuses and requests

pub unread : (w : World) (o : Option Server) → seen_in (status_in w o) ≡ None → can_reach o ≡ false
unread w None e = refl
unread w (Some s) e = go (s.up && s.desk) e
  where
    go : (b : Bool) → seen_in (cond b (Ok (shown_of w s)) (Err seeing.Unreachable)) ≡ None → b ≡ false
    go true h = cc
    go false h = refl

pub not-read : (w : World) (o : Option Server) → can_reach o ≡ false → seen_in (status_in w o) ≡ None
not-read w None e = refl
not-read w (Some s) e = ap (λ b. seen_in (cond b (Ok (shown_of w s)) (Err seeing.Unreachable))) e

abbrev reply : Bool → Result (Unit {0}) Unreachable
reply b = cond b (Ok tt) (Err (record {}))

pub unasked : (o : Option Server) (e : Unreachable) → desk_answer o ≡ Err e → can_reach o ≡ false
unasked None e h = refl
unasked (Some s) e h = go (s.up && s.desk) h
  where
    go : (b : Bool) → reply b ≡ Err e → b ≡ false
    go true g = cc
    go false g = refl

pub not-asked : (o : Option Server) → can_reach o ≡ false → desk_answer o ≡ Err (record {})
not-asked None e = refl
not-asked (Some s) e = ap reply e

-- ---- attachments

-- a fault of a server that was reached
abbrev IsTold : AttachFault → Type 0
IsTold attaching.Unreachable = ⊥
IsTold attaching.Memory = ⊥
IsTold _ = Unit {0}

abbrev fault : AttachFault → Result (Unit {0}) AttachFault
fault f = Err f

-- what is answered by tests, each of which gives a fault or goes on
module _ (f : AttachFault) where
  told-as : (g : AttachFault) → fault g ≡ fault f → IsTold g → IsTold f
  told-as g e h = let same : g ≡ f = cc in subst IsTold same h

  told-if : (g : AttachFault) (b : Bool) (later : Result (Unit {0}) AttachFault) → cond b (Err g) later ≡ Err f → IsTold g → (later ≡ Err f → IsTold f) → IsTold f
  told-if g true later e h rest = told-as g e h
  told-if g false later e h rest = rest e

  purged-told : (b : Bool) (first : ℕ) → purged_answer b first ≡ Err f → IsTold f
  purged-told true first e = told-as (attaching.Purged first) e tt
  purged-told false first e = cc

  behind-reach : (b : Bool) (later : Result (Unit {0}) AttachFault) → b ≡ true → cond (not b) (Err attaching.Unreachable) later ≡ Err f → (later ≡ Err f → IsTold f) → IsTold f
  behind-reach true later is e rest = rest e
  behind-reach false later is e rest = absurd (false≢true is)

  decision-told : (s : Server) (expect : Spot) (loops : Bool) (first : ℕ) (at : Coord) → (s.up && s.desk) ≡ true → attach_decision s expect loops first at ≡ Err f → IsTold f
  decision-told s expect loops first at up e =
      behind-reach (s.up && s.desk) _ up e
      (λ e. told-if (attaching.Running (spot_below s s.source)) (s.receiver || s.applier) _ e tt
      (λ e. told-if (attaching.Interfered expect (live_spot s expect)) (not (same_spot expect (live_spot s expect))) _ e tt
      (λ e. told-if attaching.Loop loops (purged_answer (nat_lt at.file first) first) e tt
      (λ e. purged-told (nat_lt at.file first) first e))))

  sets-told : (errant : List Interval) (later : Result (Unit {0}) AttachFault) → errant_answer errant later ≡ Err f → (later ≡ Err f → IsTold f) → IsTold f
  sets-told [] later e rest = rest e
  sets-told (x ∷ xs) later e rest = told-as (attaching.Errant (x ∷ xs)) e tt

  auto-purged-told : (uuid : ℕ → ℕ) (r : Server) (o : Option Server) → auto_purged uuid r o ≡ Err f → IsTold f
  auto-purged-told uuid r None e = cc
  auto-purged-told uuid r (Some s) e = purged-told (nat_lt (held_of uuid r s) (purged_len s)) s.first e

  by-sets : (first : Result (Unit {0}) AttachFault) (errant : List Interval) (later : Result (Unit {0}) AttachFault) → answer_by_sets first errant later ≡ Err f
      → ((g : AttachFault) → first ≡ Err g → (IsTold g → IsTold f) → IsTold f) → (later ≡ Err f → IsTold f) → IsTold f
  by-sets (Err g) errant later e ready rest = ready g refl (λ h. told-as g e h)
  by-sets (Ok t) errant later e ready rest = sets-told errant later e rest

readiness-told : (g : AttachFault) (s : Server) (loops : Bool) → (s.up && s.desk) ≡ true → auto_readiness s loops ≡ Err g → IsTold g
readiness-told g s loops up e =
    behind-reach g (s.up && s.desk) _ up e
    (λ e. told-if g (attaching.Running (spot_below s s.source)) (s.receiver || s.applier) _ e tt
    (λ e. told-if g attaching.Loop loops (Ok tt) e tt
    (λ e. cc)))

auto-told : (f : AttachFault) (s : Server) (loops : Bool) (errant : List Interval) (later : Result (Unit {0}) AttachFault) → (s.up && s.desk) ≡ true
    → (later ≡ Err f → IsTold f) → auto_decision s loops errant later ≡ Err f → IsTold f
auto-told f s loops errant later up rest e = by-sets f (auto_readiness s loops) errant later e (λ g is tell. tell (readiness-told g s loops up is)) rest

decision-away : (s : Server) (expect : Spot) (loops : Bool) (first : ℕ) (at : Coord) → (s.up && s.desk) ≡ false → attach_decision s expect loops first at ≡ Err attaching.Unreachable
decision-away s expect loops first at away =
    ap (λ b. cond (not b) (Err attaching.Unreachable)
    (cond (s.receiver || s.applier) (Err (attaching.Running (spot_below s s.source)))
    (cond (not (same_spot expect (live_spot s expect))) (Err (attaching.Interfered expect (live_spot s expect)))
    (cond loops (Err attaching.Loop) (purged_answer (nat_lt at.file first) first))))) away

auto-away : (s : Server) (loops : Bool) (errant : List Interval) (later : Result (Unit {0}) AttachFault) → (s.up && s.desk) ≡ false → auto_decision s loops errant later ≡ Err attaching.Unreachable
auto-away s loops errant later away =
    ap (λ b. answer_by_sets (cond (not b) (Err attaching.Unreachable)
    (cond (s.receiver || s.applier) (Err (attaching.Running (spot_below s s.source)))
    (cond loops (Err attaching.Loop) (Ok tt)))) errant later) away

-- an answer of a server, by whether it is reached
pub record IsReachTold (o : Option Server) (r : Result (Unit {0}) AttachFault) : Type 0 where
  pub away : can_reach o ≡ false → r ≡ Err attaching.Unreachable
  pub there : (f : AttachFault) → can_reach o ≡ true → r ≡ Err f → IsTold f

at-told : (w : World) (n : ℕ) (expect : Spot) (to : ℕ) (at : Coord) (o : Option Server) → IsReachTold o (attach_answer w n expect to at o)
at-told w n expect to at None = record { away = λ h. refl; there = λ f h e. absurd (false≢true h) }
at-told w n expect to at (Some s) = record {
  away = decision-away s expect (chain_meets (sources w) (length w.servers) to n) (first_kept (server_at w to)) at;
  there = λ f up e. decision-told f s expect (chain_meets (sources w) (length w.servers) to n) (first_kept (server_at w to)) at up e;
}

set-told : (w : World) (n : ℕ) (observed : List Interval) (to : ℕ) (o : Option Server) → IsReachTold o (attach_auto_answer w n observed to o)
set-told w n observed to None = record { away = λ h. refl; there = λ f h e. absurd (false≢true h) }
set-told w n observed to (Some s) = record {
  away = auto-away s (chain_meets (sources w) (length w.servers) to n) (errant_set (uuids w) observed s.history.txns) (auto_purged (uuids w) s (server_at w to));
  there = λ f up e. auto-told f s (chain_meets (sources w) (length w.servers) to n) (errant_set (uuids w) observed s.history.txns) (auto_purged (uuids w) s (server_at w to))
      up (λ h. auto-purged-told f (uuids w) s (server_at w to) h) e;
}

pub answer-told : (w : World) (x : Exchange) → can_attach w x ≡ true → IsReachTold (server_at w (server_of x)) (attach_answer_of w x)
answer-told w (Attach n expect to at) can = at-told w n expect to.0 at (server_at w n)
answer-told w (AttachAuto n observed to) can = set-told w n observed to.0 (server_at w n)
answer-told w _ can = absurd (false≢true can)

pub answer-unreached : (w : World) (x : Exchange) → can_attach w x ≡ true → attach_answer_of w x ≡ Err attaching.Unreachable → can_reach (server_at w (server_of x)) ≡ false
answer-unreached w x can e = go (can_reach (server_at w (server_of x))) refl
  where
    go : (b : Bool) → can_reach (server_at w (server_of x)) ≡ b → b ≡ false
    go true is = absurd ((answer-told w x can).there attaching.Unreachable is e)
    go false is = refl

pub answer-memory : (w : World) (x : Exchange) → can_attach w x ≡ true → attach_answer_of w x ≡ Err attaching.Memory → ⊥
answer-memory w x can e = go (can_reach (server_at w (server_of x))) refl
  where
    go : (b : Bool) → can_reach (server_at w (server_of x)) ≡ b → ⊥
    go true is = (answer-told w x can).there attaching.Memory is e
    go false is = let h = (answer-told w x can).away is in cc

-- it is the answer of that very attachment
pub answers-of : (w : World) (x : Exchange) (f : AttachFault) → can_attach w x ≡ true → attach_answer_of w x ≡ Err f → Answers w x f
answers-of w (Attach n expect to at) f can e = e
answers-of w (AttachAuto n observed to) f can e = e
answers-of w _ f can e = absurd (false≢true can)

pub answer-from : (w : World) (x : Exchange) (f : AttachFault) → Answers w x f → attach_answer_of w x ≡ Err f
answer-from w (Attach n expect to at) f h = h
answer-from w (AttachAuto n observed to) f h = h
answer-from w _ f h = absurd h
