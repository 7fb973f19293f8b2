-- Applies: what an applier can be about to do, and what stays.
use Rattle.std.proofs.Common.{◌≡◌, ℕ, ◌+◌, ◌<◌, ◌≤◌, Bool, true, false, not, cond, [], ◌∷◌, ◌++◌, length, refl, sym, ◌∙◌, ap, subst, inl, inr, Option, Some, None, arith, take, ◌&&◌, length-append, slice_get, nat_le}
use Rattle.replication_laws.proofs.Prelude.{ApplyStep, Attached, AttachedWell, Coord, Detached, GoesOn, Grows, KeepsFrom-took, Laid, Next, Placed}
use Rattle.replication_laws.proofs.Prelude.{ReachesBy, Safe, Server, SourceState, StandsIn, StepFrom, Txn, Without, World, after_apply, and_parts}
use Rattle.replication_laws.proofs.Prelude.{applied, apply_answer, apply_from, apply_step, apply_txn, attached_at, count_own, histories, history_of}
use Rattle.replication_laws.proofs.Prelude.{is_at_or_before, is_attached, is_before, is_reached, nat_tests, next_after, next_after-reaches}
use Rattle.replication_laws.proofs.Prelude.{next_after-step, place, same_coord, same_Some, server_at, slice_get-take, slice_get_within, source_no}
use Rattle.replication_laws.proofs.Prelude.{take-more, took, with_server}
use Rattle.replication_laws.proofs.Prelude.Histories.{holds}
use Rattle.replication_laws.proofs.Prelude.answers
use Rattle.replication_laws.proofs.Prelude.applying
use Rattle.replication_laws.proofs.Prelude.next
use Rattle.replication_laws.proofs.Histories.{IsKin-extended, IsKin-once, holds-at}
use Rattle.replication_laws.proofs.Keeping.{Same, Still, Standing-well, Standing-placed, Linked-safe, Safe-linked, Linked-placed, Placed-linked, Placed-safe, Linked-keeps, Linked-same, Linked-still, Grows-refl, Grows-with, Idle-same, Safe-idle}
use Rattle.replication_laws.proofs.Logs.{GoesOn-took, LaysOut-took, LaysOut-size}
use Rattle.replication_laws.proofs.Writes.{Extends-with}
use Rattle.replication_laws.proofs.Fetches.{LaysOut-source, Laid-source, same_source}

before_read : (c d : Coord) → is_at_or_before c d ≡ true → same_coord c d ≡ false → is_before c d ≡ true
before_read c d p q = grind (arith, nat_tests)

-- the next step of the relay log is a rotation, which leads to the same place and not past what was read
pub record Passing (w : World) (r : Server) (to : Coord) : Type 0 where
  pub number : ℕ
  pub source : Server
  pub from : source_no r.source ≡ Some number
  pub source_at : server_at w number ≡ Some source
  pub index : ℕ
  pub begins : place source.log.log r.exec ≡ Some index
  pub ends : place source.log.log to ≡ Some index
  pub order : is_at_or_before to r.read ≡ true

-- it is a transaction of the source's history, which leads to the next place and not past what was read
pub record Taking (w : World) (r : Server) (t : Txn) (to : Coord) : Type 0 where
  pub number : ℕ
  pub source : Server
  pub from : source_no r.source ≡ Some number
  pub source_at : server_at w number ≡ Some source
  pub index : ℕ
  pub begins : place source.log.log r.exec ≡ Some index
  pub there : slice_get source.history.txns index ≡ Some t
  pub ends : place source.log.log to ≡ Some (index + 1)
  pub order : is_at_or_before to r.read ≡ true

-- what an applier can be about to do in a world with `Placed`
pub data Facing (w : World) (r : Server) : ApplyStep → Type 0 where
  Halts : Facing w r applying.Halt
  Forgets : Facing w r applying.ForgetUntil
  Idles : Facing w r applying.Idle
  Passes : (to : Coord) → Passing w r to → Facing w r (applying.Pass to)
  Skips : (t : Txn) (to : Coord) → Taking w r t to → holds t r.history.txns ≡ true → Facing w r (applying.Skip to)
  Fills : (t : Txn) (to : Coord) → Taking w r t to → r.history.room ≤ length r.history.txns → Facing w r applying.NoRoom
  Executes : (t : Txn) (to : Coord) → Taking w r t to → Facing w r (applying.Execute t to)

-- a replica under a source of a world with `Placed`
record Under (w : World) (n m : ℕ) (r s : Server) : Type 0 where
  placed : Placed w
  at : server_at w n ≡ Some r
  from : source_no r.source ≡ Some m
  source_at : server_at w m ≡ Some s

module _ (w : World) (n m : ℕ) (r s : Server) (u : Under w n m r s) where
  stands : StandsIn r s
  stands = u.placed.stands n m r s u.at u.from u.source_at

  laid : Laid s.log.log
  laid = Laid-source StandsIn w (Linked-placed w u.placed) n m r s u.at u.from u.source_at

  step : (x : Next) → next_after s.log.log r.exec ≡ x → StepFrom s.log.log r.exec stands.exec_place.0 x
  step x e = subst (λ (y : Next). StepFrom s.log.log r.exec stands.exec_place.0 y) e (next_after-step s.log.log laid r.exec stands.exec_place.0 stands.exec_place.1)

  reaches : same_coord r.exec r.read ≡ false → (x : Next) → next_after s.log.log r.exec ≡ x → ReachesBy r.read x
  reaches apart x e =
      subst (λ (y : Next). ReachesBy r.read y) e
      (next_after-reaches s.log.log laid r.exec r.read stands.exec_place.0 stands.read_place.0
      stands.exec_place.1 stands.read_place.1 (before_read r.exec r.read stands.order apart))

  passing : same_coord r.exec r.read ≡ false → (to : Coord) → next_after s.log.log r.exec ≡ next.Rotate to → Passing w r to
  passing apart to e = record {
    number = m;
    source = s;
    from = u.from;
    source_at = u.source_at;
    index = stands.exec_place.0;
    begins = stands.exec_place.1;
    ends = (step (next.Rotate to) e).0;
    order = reaches apart (next.Rotate to) e;
  }

  taking : same_coord r.exec r.read ≡ false → (i : ℕ) (to : Coord) → next_after s.log.log r.exec ≡ next.Entry i to → (t : Txn) → slice_get s.history.txns i ≡ Some t → Taking w r t to
  taking apart i to e t there =
      let f = step (next.Entry i to) e in
      record {
        number = m;
        source = s;
        from = u.from;
        source_at = u.source_at;
        index = stands.exec_place.0;
        begins = stands.exec_place.1;
        there = subst (λ (k : ℕ). slice_get s.history.txns k ≡ Some t) f.0 there;
        ends = f.1;
        order = reaches apart (next.Entry i to) e;
      }

  Facing-txn : same_coord r.exec r.read ≡ false → (i : ℕ) (to : Coord) → next_after s.log.log r.exec ≡ next.Entry i to → (p : Option Txn) → slice_get s.history.txns i ≡ p
      → Facing w r (apply_txn w.gtid r to p)
  Facing-txn apart i to e None h = Idles
  Facing-txn apart i to e (Some t) h = tested (w.gtid && holds t r.history.txns) (nat_le r.history.room (length r.history.txns)) refl refl
    where
      tested : (skip full : Bool) → (w.gtid && holds t r.history.txns) ≡ skip → nat_le r.history.room (length r.history.txns) ≡ full
          → Facing w r (cond skip (applying.Skip to) (cond full applying.NoRoom (applying.Execute t to)))
      tested true full held is_full = Skips t to (taking apart i to e t h) (and_parts w.gtid (holds t r.history.txns) held).1
      tested false true held is_full = Fills t to (taking apart i to e t h) (grind (arith, nat_tests))
      tested false false held is_full = Executes t to (taking apart i to e t h)

  Facing-next : same_coord r.exec r.read ≡ false → (x : Next) → next_after s.log.log r.exec ≡ x → Facing w r (applied w.gtid r s x)
  Facing-next apart (next.Entry i to) e = Facing-txn apart i to e (slice_get s.history.txns i) refl
  Facing-next apart (next.Rotate to) e = Passes to (passing apart to e)
  Facing-next apart next.End e = Idles

  Facing-relay : (b : Bool) → same_coord r.exec r.read ≡ b → Facing w r (cond b applying.Idle (applied w.gtid r s (next_after s.log.log r.exec)))
  Facing-relay true h = Idles
  Facing-relay false h = Facing-next h (next_after s.log.log r.exec) refl

pub Facing-step : (w : World) (n : ℕ) (r : Server) → server_at w n ≡ Some r → Placed w → Facing w r (apply_step w (Some r))
Facing-step w n r at placed = go (r.up && (is_attached r.source && r.applier)) (is_reached r.until r.exec)
  where
    under : (m : ℕ) → source_no r.source ≡ Some m → (p : Option Server) → server_at w m ≡ p → Facing w r (apply_from w.gtid r p)
    under m is None at_m = Idles
    under m is (Some s) at_m = Facing-relay w n m r s (record { placed = placed; at = at; from = is; source_at = at_m }) (same_coord r.exec r.read) refl

    from_source : (source : SourceState) → r.source ≡ source → Facing w r (apply_from w.gtid r (attached_at w source))
    from_source Without is = Idles
    from_source (Attached m) is = under m.0 (ap source_no is) (server_at w m.0) refl
    from_source (Detached m) is = Idles

    go : (a b : Bool) → Facing w r (cond (not a) applying.Halt (cond b applying.ForgetUntil (apply_from w.gtid r (attached_at w r.source))))
    go false b = Halts
    go true true = Forgets
    go true false = from_source r.source refl

Same-exec : (r : Server) (to : Coord) → Same r (record r { exec = to })
Same-exec r to = record { history = refl; log = refl; first = refl; settings = refl }

Still-forgot : (r : Server) → Still r (record r { applier = false; until = None })
Still-forgot r = record { same = record { history = refl; log = refl; first = refl; settings = refl }; source = refl; exec = refl; read = inl refl }

-- in a world with `Placed`

module _ (w : World) (n : ℕ) (r : Server) (placed : Placed w) (at : server_at w n ≡ Some r) where
  -- the executed coordinate moves on
  advanced : (to : Coord) (m k : ℕ) (s : Server) → source_no r.source ≡ Some m → server_at w m ≡ Some s → place s.log.log to ≡ Some k → is_at_or_before to r.read ≡ true
      → Placed (with_server w n (record r { exec = to }))
  advanced to m k s from source_at there order =
      Placed-linked (with_server w n (record r { exec = to }))
      (Linked-same StandsIn Standing-placed w n r (record r { exec = to }) (Linked-placed w placed) at (Same-exec r to) refl
      (λ b t from_b at_b stood.
      subst (λ (x : Server). StandsIn (record r { exec = to }) x) (same_source w r s m b t from source_at from_b at_b)
      (record {
        exec_place = (k, there);
        read_place = (placed.stands n m r s at from source_at).read_place;
        order = order;
      })))

  -- a transaction that is executed has a size
  taken-size : (t : Txn) (to : Coord) → Taking w r t to → 0 < t.size
  taken-size t to due =
      LaysOut-size due.source.history.txns due.source.log.log
      (LaysOut-source StandsIn w (Linked-placed w placed) n due.number r due.source at due.from due.source_at) due.index t due.there

  executed-on : (t : Txn) (to : Coord) → Taking w r t to → GoesOn r (record (took r t) { exec = to })
  executed-on t to due =
      let on = GoesOn-took r t (taken-size t to due) (placed.laid n r at) in
      record { settings = on.settings; prefix = on.prefix; places = on.places; first = on.first }

  executed : (t : Txn) (to : Coord) → Taking w r t to → Placed (with_server w n (record (took r t) { exec = to }))
  executed t to due =
      Placed-linked (with_server w n (record (took r t) { exec = to }))
      (Linked-keeps StandsIn Standing-placed w n r (record (took r t) { exec = to }) (Linked-placed w placed) at (record {
        goes_on = executed-on t to due;
        source = refl;
        laid = LaysOut-took r t (taken-size t to due) (placed.laid n r at);
        kept = KeepsFrom-took r t (placed.kept n r at);
        stands = λ b x from_b at_b stood.
            subst (λ (y : Server). StandsIn (record (took r t) { exec = to }) y) (same_source w r due.source due.number b x due.from due.source_at from_b at_b)
            (record {
              exec_place = (due.index + 1, due.ends);
              read_place = (placed.stands n due.number r due.source at due.from due.source_at).read_place;
              order = due.order;
            });
      }))

  Placed-facing : (x : ApplyStep) → Facing w r x → Placed (after_apply w n (Some r) x)
  Placed-facing x Forgets =
      Placed-linked (with_server w n (record r { applier = false; until = None }))
      (Linked-still StandsIn Standing-placed w n r (record r { applier = false; until = None }) (Linked-placed w placed) at (Still-forgot r))
  Placed-facing x (Passes to pass) = advanced to pass.number pass.index pass.source pass.from pass.source_at pass.ends pass.order
  Placed-facing x (Skips t to due held) = advanced to due.number (due.index + 1) due.source due.from due.source_at due.ends due.order
  Placed-facing x (Executes t to due) = executed t to due
  Placed-facing x _ = placed

  Grows-facing : (x : ApplyStep) → Facing w r x → Grows w (after_apply w n (Some r) x)
  Grows-facing x Forgets = (Idle-same w n r (record r { applier = false; until = None }) at (Still-forgot r).same).grows
  Grows-facing x (Passes to pass) = (Idle-same w n r (record r { exec = to }) at (Same-exec r to)).grows
  Grows-facing x (Skips t to due held) = (Idle-same w n r (record r { exec = to }) at (Same-exec r to)).grows
  Grows-facing x (Executes t to due) = Grows-with w n r (record (took r t) { exec = to }) at (executed-on t to due)
  Grows-facing x _ = Grows-refl w

-- apply keeps `Placed` of a world
pub Placed-apply : (w : World) (n : ℕ) (o : Option Server) → server_at w n ≡ o → Placed w → Placed (after_apply w n o (apply_step w o))
Placed-apply w n None at placed = placed
Placed-apply w n (Some r) at placed = Placed-facing w n r placed at (apply_step w (Some r)) (Facing-step w n r at placed)

pub Grows-apply : (w : World) (n : ℕ) (o : Option Server) → server_at w n ≡ o → Placed w → Grows w (after_apply w n o (apply_step w o))
Grows-apply w n None at placed = Grows-refl w
Grows-apply w n (Some r) at placed = Grows-facing w n r placed at (apply_step w (Some r)) (Facing-step w n r at placed)

-- in a safe world

module _ (w : World) (n : ℕ) (r : Server) (safe : Safe w) (at : server_at w n ≡ Some r) where
  module _ (t : Txn) (to : Coord) (due : Taking w r t to) where
    well : AttachedWell r due.source
    well = safe.well n due.number r due.source at due.from due.source_at

    -- it is the one after those that the replica has executed
    index : due.index ≡ length r.history.txns
    index = same_Some due.index (length r.history.txns) (sym due.begins ∙ well.exec_place)

    pub after_executed : slice_get due.source.history.txns (length r.history.txns) ≡ Some t
    after_executed = subst (λ (k : ℕ). slice_get due.source.history.txns k ≡ Some t) index due.there

    is_history : histories w n ≡ r.history.txns
    is_history = ap history_of at

    is_source_history : histories w due.number ≡ due.source.history.txns
    is_source_history = ap history_of due.source_at

    in_source : slice_get (histories w due.number) (length r.history.txns) ≡ Some t
    in_source = ap (λ xs. slice_get xs (length r.history.txns)) is_source_history ∙ after_executed

    longer : take (length r.history.txns + 1) due.source.history.txns ≡ r.history.txns ++ t ∷ []
    longer = take-more due.source.history.txns (length r.history.txns) t after_executed ∙ ap (λ xs. xs ++ t ∷ []) well.prefix

    pub not_held : holds t r.history.txns ≡ true → ⊥
    not_held h =
        let w_at = holds-at t r.history.txns h in
        let within : w_at.0 < length r.history.txns = slice_get_within r.history.txns w_at.0 w_at.1 w_at.2 in
        let old : slice_get due.source.history.txns w_at.0 ≡ Some w_at.1 =
        slice_get-take due.source.history.txns (length r.history.txns) w_at.0 w_at.1 (ap (λ xs. slice_get xs w_at.0) well.prefix ∙ w_at.2) in
        let same : w_at.0 ≡ length r.history.txns =
        IsKin-once (histories w) safe.kin due.number w_at.0 (length r.history.txns) w_at.1 t (ap (λ xs. slice_get xs w_at.0) is_source_history ∙ old) in_source w_at.3 in
        omega arith

    size : 0 < t.size
    size = taken-size w n r (Placed-safe w safe) at t to due

    Safe-executed : Safe (with_server w n (record (took r t) { exec = to }))
    Safe-executed =
        Safe-linked (with_server w n (record (took r t) { exec = to }))
        (Linked-keeps AttachedWell Standing-well w n r (record (took r t) { exec = to }) (Linked-safe w safe) at (record {
          goes_on = executed-on w n r (Placed-safe w safe) at t to due;
          source = refl;
          laid = LaysOut-took r t size (safe.laid n r at);
          kept = KeepsFrom-took r t (safe.kept n r at);
          stands = λ b x from_b at_b stood.
              subst (λ (y : Server). AttachedWell (record (took r t) { exec = to }) y) (same_source w r due.source due.number b x due.from due.source_at from_b at_b)
              (record {
                prefix = ap (λ k. take k due.source.history.txns) (length-append r.history.txns (t ∷ [])) ∙ longer;
                exec_place = due.ends ∙ ap Some (ap (λ k. k + 1) index ∙ sym (length-append r.history.txns (t ∷ [])));
                read_place = well.read_place;
                order = due.order;
              });
        }))
        (IsKin-extended (histories w) (histories (with_server w n (record (took r t) { exec = to }))) n t
        (Extends-with w n r (record (took r t) { exec = to }) t at refl) safe.kin
        (λ b j y g same.
        sym (safe.kin.alike due.number b (length r.history.txns) j t y in_source g same)
        ∙ ap (take (length r.history.txns + 1)) is_source_history ∙ longer ∙ ap (λ xs. xs ++ t ∷ []) (sym is_history))
        (safe.kin.numbered due.number (length r.history.txns) t in_source
        ∙ ap (λ xs. count_own t.origin.0 xs + 1) (ap (take (length r.history.txns)) is_source_history ∙ well.prefix ∙ sym is_history))
        (inr (safe.kin.home due.number (length r.history.txns) t in_source)))

  Safe-passed : (to : Coord) → Passing w r to → Safe (with_server w n (record r { exec = to }))
  Safe-passed to pass =
      let well = safe.well n pass.number r pass.source at pass.from pass.source_at in
      let index : pass.index ≡ length r.history.txns = same_Some pass.index (length r.history.txns) (sym pass.begins ∙ well.exec_place) in
      Safe-idle w (with_server w n (record r { exec = to })) safe (Idle-same w n r (record r { exec = to }) at (Same-exec r to))
      (Linked-same AttachedWell Standing-well w n r (record r { exec = to }) (Linked-safe w safe) at (Same-exec r to) refl
      (λ b t from_b at_b stood.
      subst (λ (x : Server). AttachedWell (record r { exec = to }) x) (same_source w r pass.source pass.number b t pass.from pass.source_at from_b at_b)
      (record { prefix = well.prefix; exec_place = pass.ends ∙ ap Some index; read_place = well.read_place; order = pass.order })))

  Safe-facing : (x : ApplyStep) → Facing w r x → Safe (after_apply w n (Some r) x)
  Safe-facing x Forgets =
      Safe-idle w (with_server w n (record r { applier = false; until = None })) safe
      (Idle-same w n r (record r { applier = false; until = None }) at (Still-forgot r).same)
      (Linked-still AttachedWell Standing-well w n r (record r { applier = false; until = None }) (Linked-safe w safe) at (Still-forgot r))
  Safe-facing x (Passes to pass) = Safe-passed to pass
  Safe-facing x (Skips t to due held) = absurd (not_held t to due held)
  Safe-facing x (Executes t to due) = Safe-executed t to due
  Safe-facing x _ = safe

-- apply keeps a world safe
pub Safe-apply : (w : World) (n : ℕ) (o : Option Server) → server_at w n ≡ o → Safe w → Safe (after_apply w n o (apply_step w o))
Safe-apply w n None at safe = safe
Safe-apply w n (Some r) at safe = Safe-facing w n r safe at (apply_step w (Some r)) (Facing-step w n r at (Placed-safe w safe))

-- no skip comes in a safe world
pub no_skip : (w : World) (n : ℕ) (to : Coord) → Safe w → apply_step w (server_at w n) ≡ applying.Skip to → ⊥
no_skip w n to safe h = go (server_at w n) refl h
  where
    by_step : (r : Server) → server_at w n ≡ Some r → (x : ApplyStep) → Facing w r x → x ≡ applying.Skip to → ⊥
    by_step r at x (Skips t d due held) e = not_held w n r safe at t d due held
    by_step r at x _ e = cc

    go : (o : Option Server) → server_at w n ≡ o → apply_step w o ≡ applying.Skip to → ⊥
    go None at e = cc
    go (Some r) at e = by_step r at (apply_step w (Some r)) (Facing-step w n r at (Placed-safe w safe)) e

-- and so it is never answered
pub no_skipped : (w : World) (n : ℕ) (to : Coord) → Safe w → apply_answer (apply_step w (server_at w n)) ≡ answers.Skipped to → ⊥
no_skipped w n to safe h = go (server_at w n) refl h
  where
    by_step : (r : Server) → server_at w n ≡ Some r → (x : ApplyStep) → Facing w r x → apply_answer x ≡ answers.Skipped to → ⊥
    by_step r at x (Skips t d due held) e = not_held w n r safe at t d due held
    by_step r at x _ e = cc

    go : (o : Option Server) → server_at w n ≡ o → apply_answer (apply_step w o) ≡ answers.Skipped to → ⊥
    go None at e = cc
    go (Some r) at e = by_step r at (apply_step w (Some r)) (Facing-step w n r at (Placed-safe w safe)) e
