-- Exchanges and runs: what keeps `Placed`, what stays `Safe`, and the count of errant writes.
use Rattle.std.proofs.Common.{ℕ, ◌+◌, ◌≤◌, Bool, true, false, cond, List, [], ◌∷◌, take, refl, Some, arith, zero, suc, ◌≡◌}
use Rattle.replication_laws.proofs.Prelude.{AllAllowed, AllJoinWell, Allowed, Apply, Ask, Attach, AttachAuto, AttachedWell, Becomes, Befall, Coord}
use Rattle.replication_laws.proofs.Prelude.{Event, Exchange, Fetch, Grows, Interval, IsQuiet, JoinsWell, Leaves, Placed, Purge, Request, Rotate, Safe}
use Rattle.replication_laws.proofs.Prelude.{Server, ServerNo, Spot, StandsIn, World, Write, after, auto_coord, desk_answer, has_source, leaves}
use Rattle.replication_laws.proofs.Prelude.{rotate_answer, run, server_at, uuids, with_server, write_answer}
use Rattle.server_model.proofs.Changes as changes
use Rattle.replication_laws.proofs.Keeping.{Standing-well, Standing-placed, Linked-safe, Linked-placed, Placed-linked, Idle, Safe-idle, Grows-refl}
use Rattle.replication_laws.proofs.Keeping.{Grows-trans, Idle-refl, Idle-same, Idle-with}
use Rattle.replication_laws.proofs.Writes.{Safe-write, Placed-write, Grows-write}
use Rattle.replication_laws.proofs.Fetches.{Linked-fetch, Same-read, Still-refused}
use Rattle.replication_laws.proofs.Applies.{Safe-apply, Placed-apply, Grows-apply}
use Rattle.replication_laws.proofs.Moves.{Linked-ask, Linked-befall, Linked-rotate, Linked-attach, Linked-attach_auto, StandsIn-rotated}
use Rattle.replication_laws.proofs.Moves.{AttachedWell-rotated, StandsIn-attached, AttachedWell-attached, StandsIn-auto, AttachedWell-auto}
use Rattle.replication_laws.proofs.Moves.{GoesOn-rotated, Same-asked, Same-attached, Same-befallen, Same-joined}
use Rattle.replication_laws.proofs.Purges.{Linked-purge, StandsIn-purged, AttachedWell-purged, GoesOn-purge}
use Rattle.replication_laws.proofs.Subsets.{prefix-observed, held-prefix}

-- the count of errant writes never falls

-- all except writes and applies write nothing, in any world
abbrev Idles : Exchange → Type 0
Idles (Write n size) = ⊥
Idles (Apply n) = ⊥
Idles _ = Unit {0}

module _ (w : World) where
  Idle-becomes : (n : ℕ) (s : Server) → server_at w n ≡ Some s → (e : Exchange) (t : Server) → Becomes w n s e t → Idles e → Idle w (with_server w n t)
  Idle-becomes n s at e t (changes.Refuses first is) h = Idle-same w n s t at (Still-refused s).same
  Idle-becomes n s at e t (changes.Reads x to is) h = Idle-same w n s t at (Same-read s to)
  Idle-becomes n s at e t (changes.Asks a x does) h = Idle-same w n s t at (Same-asked a s x does)
  Idle-becomes n s at e t (changes.Befalls x y does) h = Idle-same w n s t at (Same-befallen x s y does)
  Idle-becomes n s at e t (changes.Rotates end is) h = Idle-with w n s t at refl (GoesOn-rotated s)
  Idle-becomes n s at e t (changes.Purges file first is) h = Idle-with w n s t at refl (GoesOn-purge w n file first s is)
  Idle-becomes n s at e t (changes.Attaches expect to c is) h = Idle-same w n s t at (Same-attached to c s)
  Idle-becomes n s at e t (changes.AttachesAuto observed to is) h = Idle-same w n s t at (Same-joined true to (auto_coord (uuids w) s (server_at w to.0)) s)
  Idle-becomes n s at e t _ h = absurd h

  Idle-leaves : (e : Exchange) (w' : World) → Leaves w e w' → Idles e → Idle w w'
  Idle-leaves e w' changes.Still h = Idle-refl w
  Idle-leaves e w' (changes.Writes n size s seq at is) h = absurd h
  Idle-leaves e w' (changes.Puts n s t at change) h = Idle-becomes n s at e t change h

  pub Idle-after : (e : Exchange) → Idles e → Idle w (after w e)
  Idle-after e h = Idle-leaves e (after w e) (leaves w e) h

errant-leaves : (w : World) (e : Exchange) (w' : World) → Leaves w e w' → w.errant ≤ w'.errant
errant-leaves w e w' (changes.Writes n size s seq at is) = go (has_source s.source)
  where
    go : (b : Bool) → w.errant ≤ cond b (w.errant + 1) w.errant
    go true = omega arith
    go false = omega arith
errant-leaves w e w' _ = omega arith

errant-after : (w : World) (e : Exchange) → w.errant ≤ (after w e).errant
errant-after w e = errant-leaves w e (after w e) (leaves w e)

errant-run : (w : World) (es : List Exchange) → w.errant ≤ (run w es).errant
errant-run w [] = omega arith
errant-run w (e ∷ es) = omega (arith, errant-after w e, errant-run (after w e) es)

pub errant-take : (w : World) (es : List Exchange) (k : ℕ) → (run w (take k es)).errant ≤ (run w es).errant
errant-take w es zero = errant-run w es
errant-take w [] (suc k) = omega arith
errant-take w (e ∷ es) (suc k) = errant-take (after w e) es k

pub quiet-run : (w : World) (es : List Exchange) → IsQuiet (run w es) → IsQuiet w
quiet-run w es q = omega (arith, q, errant-run w es)

pub quiet-take : (w : World) (es : List Exchange) (k : ℕ) → IsQuiet (run w es) → IsQuiet (run w (take k es))
quiet-take w es k q = omega (arith, q, errant-take w es k)

-- each exchange keeps `Placed` of a world, and each server goes on

pub Placed-after : (w : World) (e : Exchange) → Placed w → Allowed w e → Placed (after w e)
Placed-after w (Write n size) placed some = Placed-write w n size some placed (server_at w n) refl (write_answer n (server_at w n))
Placed-after w (Fetch n) placed free = Placed-linked (after w (Fetch n)) (Linked-fetch StandsIn Standing-placed w n (server_at w n) refl (Linked-placed w placed))
Placed-after w (Apply n) placed free = Placed-apply w n (server_at w n) refl placed
Placed-after w (Request n a) placed free = Placed-linked (after w (Request n a)) (Linked-ask StandsIn Standing-placed w n (Linked-placed w placed) a (desk_answer (server_at w n)))
Placed-after w (Befall n e) placed free = Placed-linked (after w (Befall n e)) (Linked-befall StandsIn Standing-placed w n (Linked-placed w placed) e)
Placed-after w (Rotate n) placed free =
    Placed-linked (after w (Rotate n))
    (Linked-rotate StandsIn Standing-placed w n (Linked-placed w placed) (server_at w n) refl StandsIn-rotated (rotate_answer (server_at w n)))
Placed-after w (Purge n file) placed free =
    Placed-linked (after w (Purge n file)) (Linked-purge StandsIn Standing-placed w n file (Linked-placed w placed) StandsIn-purged (server_at w n) refl)
Placed-after w (Attach n expect to at) placed target =
    Placed-linked (after w (Attach n expect to at))
    (Linked-attach StandsIn Standing-placed w n (Linked-placed w placed) expect to at target (λ r s here there is. StandsIn-attached w to at r s target there) (server_at w n) refl)
Placed-after w (AttachAuto n observed to) placed target =
    Placed-linked (after w (AttachAuto n observed to))
    (Linked-attach_auto StandsIn Standing-placed w n (Linked-placed w placed) observed to target (λ r s here there none enough. StandsIn-auto w to r s placed.laid placed.kept target there enough) (server_at w n) refl)

pub Grows-after : (w : World) (e : Exchange) → Placed w → Allowed w e → Grows w (after w e)
Grows-after w (Write n size) placed some = Grows-write w n size some placed (server_at w n) refl (write_answer n (server_at w n))
Grows-after w (Apply n) placed free = Grows-apply w n (server_at w n) refl placed
Grows-after w e placed allowed = (Idle-after w e tt).grows

pub Placed-run : (w : World) (es : List Exchange) → Placed w → AllAllowed w es → Placed (run w es)
Placed-run w [] placed allowed = placed
Placed-run w (e ∷ es) placed allowed = Placed-run (after w e) es (Placed-after w e placed allowed.0) allowed.1

pub Grows-run : (w : World) (es : List Exchange) → Placed w → AllAllowed w es → Grows w (run w es)
Grows-run w [] placed allowed = Grows-refl w
Grows-run w (e ∷ es) placed allowed =
    Grows-trans w (after w e) (run (after w e) es) (Grows-after w e placed allowed.0) (Grows-run (after w e) es (Placed-after w e placed allowed.0) allowed.1)

pub AllAllowed-take : (w : World) (es : List Exchange) (k : ℕ) → AllAllowed w es → AllAllowed w (take k es)
AllAllowed-take w es zero allowed = tt
AllAllowed-take w [] (suc k) allowed = tt
AllAllowed-take w (e ∷ es) (suc k) allowed = (allowed.0, AllAllowed-take (after w e) es k allowed.1)

pub Placed-take : (w : World) (es : List Exchange) (k : ℕ) → Placed w → AllAllowed w es → Placed (run w (take k es))
Placed-take w es k placed allowed = Placed-run w (take k es) placed (AllAllowed-take w es k allowed)

-- each exchange keeps a world `Safe` that has no errant writes after it

pub Safe-fetched : (w : World) (n : ℕ) → Safe w → Safe (after w (Fetch n))
Safe-fetched w n safe = Safe-idle w (after w (Fetch n)) safe (Idle-after w (Fetch n) tt) (Linked-fetch AttachedWell Standing-well w n (server_at w n) refl (Linked-safe w safe))

pub Safe-asked : (w : World) (n : ℕ) (a : Ask) → Safe w → Safe (after w (Request n a))
Safe-asked w n a safe =
    Safe-idle w (after w (Request n a)) safe (Idle-after w (Request n a) tt) (Linked-ask AttachedWell Standing-well w n (Linked-safe w safe) a (desk_answer (server_at w n)))

pub Safe-befallen : (w : World) (n : ℕ) (e : Event) → Safe w → Safe (after w (Befall n e))
Safe-befallen w n e safe = Safe-idle w (after w (Befall n e)) safe (Idle-after w (Befall n e) tt) (Linked-befall AttachedWell Standing-well w n (Linked-safe w safe) e)

pub Safe-rotated : (w : World) (n : ℕ) → Safe w → Safe (after w (Rotate n))
Safe-rotated w n safe =
    Safe-idle w (after w (Rotate n)) safe (Idle-after w (Rotate n) tt)
    (Linked-rotate AttachedWell Standing-well w n (Linked-safe w safe) (server_at w n) refl AttachedWell-rotated (rotate_answer (server_at w n)))

pub Safe-purged : (w : World) (n file : ℕ) → Safe w → Safe (after w (Purge n file))
Safe-purged w n file safe =
    Safe-idle w (after w (Purge n file)) safe (Idle-after w (Purge n file) tt)
    (Linked-purge AttachedWell Standing-well w n file (Linked-safe w safe) AttachedWell-purged (server_at w n) refl)

pub Safe-attached : (w : World) (n : ℕ) (expect : Spot) (to : ServerNo) (at : Coord) → Safe w → Allowed w (Attach n expect to at) → JoinsWell w (Attach n expect to at)
    → Safe (after w (Attach n expect to at))
Safe-attached w n expect to at safe target joins =
    Safe-idle w (after w (Attach n expect to at)) safe (Idle-after w (Attach n expect to at) tt)
    (Linked-attach AttachedWell Standing-well w n (Linked-safe w safe) expect to at target
    (λ r s here there is. AttachedWell-attached to at r s (joins r s here there is)) (server_at w n) refl)

pub Safe-auto : (w : World) (n : ℕ) (observed : List Interval) (to : ServerNo) → Safe w → Allowed w (AttachAuto n observed to) → JoinsWell w (AttachAuto n observed to)
    → Safe (after w (AttachAuto n observed to))
Safe-auto w n observed to safe target within =
    Safe-idle w (after w (AttachAuto n observed to)) safe (Idle-after w (AttachAuto n observed to) tt)
    (Linked-attach_auto AttachedWell Standing-well w n (Linked-safe w safe) observed to target
    (λ r s here there none enough.
    let front = prefix-observed w safe n to.0 r s here there observed within none in
    AttachedWell-auto w to r s safe.laid safe.kept target there enough front (held-prefix w safe n to.0 r s here there front))
    (server_at w n) refl)

pub Safe-after : (w : World) (e : Exchange) → Safe w → Allowed w e → JoinsWell w e → IsQuiet (after w e) → Safe (after w e)
Safe-after w (Write n size) safe some free q = Safe-write w n size (server_at w n) refl some safe q
Safe-after w (Fetch n) safe free also q = Safe-fetched w n safe
Safe-after w (Apply n) safe free also q = Safe-apply w n (server_at w n) refl safe
Safe-after w (Request n a) safe free also q = Safe-asked w n a safe
Safe-after w (Befall n e) safe free also q = Safe-befallen w n e safe
Safe-after w (Rotate n) safe free also q = Safe-rotated w n safe
Safe-after w (Purge n file) safe free also q = Safe-purged w n file safe
Safe-after w (Attach n expect to at) safe target joins q = Safe-attached w n expect to at safe target joins
Safe-after w (AttachAuto n observed to) safe target joins q = Safe-auto w n observed to safe target joins

-- and so does a run
pub Safe-run : (w : World) (es : List Exchange) → Safe w → AllAllowed w es → AllJoinWell w es → IsQuiet (run w es) → Safe (run w es)
Safe-run w [] safe allowed joins q = safe
Safe-run w (e ∷ es) safe allowed joins q =
    Safe-run (after w e) es (Safe-after w e safe allowed.0 joins.0 (quiet-run (after w e) es q)) allowed.1 joins.1 q

pub AllJoinWell-take : (w : World) (es : List Exchange) (k : ℕ) → AllJoinWell w es → AllJoinWell w (take k es)
AllJoinWell-take w es zero joins = tt
AllJoinWell-take w [] (suc k) joins = tt
AllJoinWell-take w (e ∷ es) (suc k) joins = (joins.0, AllJoinWell-take (after w e) es k joins.1)

pub Safe-take : (w : World) (es : List Exchange) (k : ℕ) → Safe w → AllAllowed w es → AllJoinWell w es → IsQuiet (run w es) → Safe (run w (take k es))
Safe-take w es k safe allowed joins q =
    Safe-run w (take k es) safe (AllAllowed-take w es k allowed) (AllJoinWell-take w es k joins) (quiet-take w es k q)
