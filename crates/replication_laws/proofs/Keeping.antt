-- What a change of one server keeps of a world.
use Rattle.std.proofs.Common.{◌≡◌, ℕ, ◌≤◌, true, List, ◌++◌, length, refl, sym, ◌∙◌, ap, subst, inl, inr, ◌⊎◌, Option, Some, arith, take, drop}
use Rattle.replication_laws.proofs.Prelude.{AttachedWell, Coord, GoesOn, Grounded, Grows, HaveOwnUuids, Index, IsKin, IsSource, KeepFiles, KeepsFrom}
use Rattle.replication_laws.proofs.Prelude.{Kept, LaysOut, Placed, Safe, Server, Settings, StandsIn, Txn, World, cases_eq, histories, is_at_or_before}
use Rattle.replication_laws.proofs.Prelude.{is_before, length-set, length-take, nat_tests, not_self, place, same_Some, server_at, source_no}
use Rattle.replication_laws.proofs.Prelude.{source_of, sources, take-append-drop, take-append-le, take-length, with_server}
use Rattle.replication_laws.proofs.Worlds.{at_with_same, at_with_other, sources-kept, histories-kept}

pub prefix-trans : (xs ys zs : List Txn) → take (length xs) ys ≡ xs → take (length ys) zs ≡ ys → take (length xs) zs ≡ xs
prefix-trans xs ys zs p q =
    let le : length xs ≤ length ys = omega (arith, ap length p, length-take (length xs) ys) in
    let parts : ys ++ drop (length ys) zs ≡ zs = ap (λ front. front ++ drop (length ys) zs) (sym q) ∙ take-append-drop (length ys) zs in
    ap (take (length xs)) (sym parts) ∙ take-append-le (length xs) ys (drop (length ys) zs) le ∙ p

before_is_at : (c d e : Coord) → is_at_or_before c d ≡ true → is_before d e ≡ true → is_at_or_before c e ≡ true
before_is_at c d e p q = grind (arith, nat_tests)

pub at_or_before-refl : (c : Coord) → is_at_or_before c c ≡ true
at_or_before-refl c = grind (arith, nat_tests)

-- a server of the world with another one
pub at_cases : (w : World) (n : ℕ) (s s' : Server) → server_at w n ≡ Some s → (m : ℕ) (t : Server) → server_at (with_server w n s') m ≡ Some t
    → ((m ≡ n) × (t ≡ s')) ⊎ ((m ≡ n → ⊥) × (server_at w m ≡ Some t))
at_cases w n s s' here m t h =
    elim (cases_eq m n) [
      | inl same ↦ inl (same, same_Some t s' (sym h ∙ ap (server_at (with_server w n s')) same ∙ at_with_same w n s s' here))
      | inr apart ↦ inr (apart, sym (at_with_other w n s s' here m apart) ∙ h)
    ]

pub IsSource-with : (w : World) (n : ℕ) (s s' : Server) → server_at w n ≡ Some s → s'.settings ≡ s.settings → (m : ℕ) → IsSource w m → IsSource (with_server w n s') m
IsSource-with w n s s' here settings m source =
    elim (cases_eq m n) [
      | inl same ↦
          let is : source.0 ≡ s = same_Some source.0 s (sym source.1 ∙ ap (server_at w) same ∙ here) in
          (s', ap (server_at (with_server w n s')) same ∙ at_with_same w n s s' here, ap (λ (x : Settings). x.logs) settings ∙ ap (λ (x : Server). x.settings.logs) (sym is) ∙ source.2)
      | inr apart ↦ (source.0, at_with_other w n s s' here m apart ∙ source.1, source.2)
    ]

-- servers that go on

pub GoesOn-refl : (s : Server) → GoesOn s s
GoesOn-refl s = record { settings = refl; prefix = take-length s.history.txns; places = λ c k h. h; first = omega arith }

pub GoesOn-trans : (s t u : Server) → GoesOn s t → GoesOn t u → GoesOn s u
GoesOn-trans s t u on more = record {
  settings = more.settings ∙ on.settings;
  prefix = prefix-trans s.history.txns t.history.txns u.history.txns on.prefix more.prefix;
  places = λ c k h. more.places c k (on.places c k h);
  first = let a = on.first in let b = more.first in omega arith;
}

pub Grows-refl : (w : World) → Grows w w
Grows-refl w = λ n s h. (s, h, GoesOn-refl s)

pub Grows-trans : (w v u : World) → Grows w v → Grows v u → Grows w u
Grows-trans w v u on more = λ n s h.
    let first = on n s h in
    let then = more n first.0 first.1 in
    (then.0, then.1, GoesOn-trans s first.0 then.0 first.2 then.2)

pub Grows-with : (w : World) (n : ℕ) (s s' : Server) → server_at w n ≡ Some s → GoesOn s s' → Grows w (with_server w n s')
Grows-with w n s s' here on = λ m t h.
    elim (cases_eq m n) [
      | inl same ↦
          let is : t ≡ s = same_Some t s (sym h ∙ ap (server_at w) same ∙ here) in
          (s', ap (server_at (with_server w n s')) same ∙ at_with_same w n s s' here, subst (λ (x : Server). GoesOn x s') (sym is) on)
      | inr apart ↦ (t, at_with_other w n s s' here m apart ∙ h, GoesOn-refl t)
    ]

-- the same server except for its source, its coordinates, its threads and its links
pub record Same (s s' : Server) : Type 0 where
  pub history : s'.history ≡ s.history
  pub log : s'.log ≡ s.log
  pub first : s'.first ≡ s.first
  pub settings : s'.settings ≡ s.settings

pub Same-refl : (s : Server) → Same s s
Same-refl s = record { history = refl; log = refl; first = refl; settings = refl }

pub GoesOn-same : (s s' : Server) → Same s s' → GoesOn s s'
GoesOn-same s s' same = record {
  settings = same.settings;
  prefix = ap (λ (h : Kept). take (length s.history.txns) h.txns) same.history ∙ take-length s.history.txns;
  places = λ c k h. ap (λ (l : Index). place l.log c) same.log ∙ h;
  first = let e = same.first in omega arith;
}

LaysOut-same : (s s' : Server) → Same s s' → (s.settings.logs ≡ true → LaysOut s.history.txns s.log.log) → s'.settings.logs ≡ true → LaysOut s'.history.txns s'.log.log
LaysOut-same s s' same laid on =
    subst (λ (l : Index). LaysOut s'.history.txns l.log) (sym same.log)
    (subst (λ (h : Kept). LaysOut h.txns s.log.log) (sym same.history) (laid (sym (ap (λ (x : Settings). x.logs) same.settings) ∙ on)))

KeepsFrom-same : (s s' : Server) → Same s s' → KeepsFrom s.settings.logs s.log.log s.first → KeepsFrom s'.settings.logs s'.log.log s'.first
KeepsFrom-same s s' same kept = rw (same.settings, same.log, same.first) kept

-- the same server except for its threads, its links and how far it has read
pub record Still (s s' : Server) : Type 0 where
  pub same : Same s s'
  pub source : source_no s'.source ≡ source_no s.source
  pub exec : s'.exec ≡ s.exec
  pub read : (s'.read ≡ s.read) ⊎ (s'.read ≡ s.exec)

pub Still-refl : (s : Server) → Still s s
Still-refl s = record { same = Same-refl s; source = refl; exec = refl; read = inl refl }

-- A way for a replica to fit its source. It stays so as the source goes on, as the replica's threads and links change,
-- and as it reads on.
pub record Standing (R : Server → Server → Type 0) : Type 0 where
  pub source : (r s s' : Server) → GoesOn s s' → R r s → R r s'
  pub still : (r r' s : Server) → Still r r' → R r s → R r' s
  pub read : (r s : Server) → R r s → (k : ℕ) × (place s.log.log r.read ≡ Some k)
  pub reads : (r s : Server) (to : Coord) → R r s → ((k : ℕ) × (place s.log.log to ≡ Some k)) → is_before r.read to ≡ true → R (record r { read = to }) s

AttachedWell-source : (r s s' : Server) → GoesOn s s' → AttachedWell r s → AttachedWell r s'
AttachedWell-source r s s' on well = record {
  prefix = prefix-trans r.history.txns s.history.txns s'.history.txns well.prefix on.prefix;
  exec_place = on.places r.exec (length r.history.txns) well.exec_place;
  read_place = (well.read_place.0, on.places r.read well.read_place.0 well.read_place.1);
  order = well.order;
}

AttachedWell-still : (r r' s : Server) → Still r r' → AttachedWell r s → AttachedWell r' s
AttachedWell-still r r' s still well = record {
  prefix = rw still.same.history well.prefix;
  exec_place = rw (still.exec, still.same.history) well.exec_place;
  read_place = elim still.read [ inl same ↦ rw same well.read_place | inr back ↦ rw back (length r.history.txns, well.exec_place) ];
  order = elim still.read [ inl same ↦ rw (still.exec, same) well.order | inr back ↦ rw (still.exec, back) (at_or_before-refl r.exec) ];
}

pub Standing-well : Standing AttachedWell
Standing-well = record {
  source = AttachedWell-source;
  still = AttachedWell-still;
  read = λ r s well. well.read_place;
  reads = λ r s to well there further.
      record { prefix = well.prefix; exec_place = well.exec_place; read_place = there; order = before_is_at r.exec r.read to well.order further };
}

StandsIn-source : (r s s' : Server) → GoesOn s s' → StandsIn r s → StandsIn r s'
StandsIn-source r s s' on stands = record {
  exec_place = (stands.exec_place.0, on.places r.exec stands.exec_place.0 stands.exec_place.1);
  read_place = (stands.read_place.0, on.places r.read stands.read_place.0 stands.read_place.1);
  order = stands.order;
}

StandsIn-still : (r r' s : Server) → Still r r' → StandsIn r s → StandsIn r' s
StandsIn-still r r' s still stands = record {
  exec_place = rw still.exec stands.exec_place;
  read_place = elim still.read [ inl same ↦ rw same stands.read_place | inr back ↦ rw back stands.exec_place ];
  order = elim still.read [ inl same ↦ rw (still.exec, same) stands.order | inr back ↦ rw (still.exec, back) (at_or_before-refl r.exec) ];
}

pub Standing-placed : Standing StandsIn
Standing-placed = record {
  source = StandsIn-source;
  still = StandsIn-still;
  read = λ r s stands. stands.read_place;
  reads = λ r s to stands there further. record { exec_place = stands.exec_place; read_place = there; order = before_is_at r.exec r.read to stands.order further };
}

-- what holds for a world in which each replica is in such a way
pub record Linked (R : Server → Server → Type 0) (w : World) : Type 0 where
  pub laid : (n : ℕ) (s : Server) → server_at w n ≡ Some s → s.settings.logs ≡ true → LaysOut s.history.txns s.log.log
  pub kept : KeepFiles w
  pub stands : (n m : ℕ) (r s : Server) → server_at w n ≡ Some r → source_no r.source ≡ Some m → server_at w m ≡ Some s → R r s
  pub logging : (n m : ℕ) (r : Server) → server_at w n ≡ Some r → source_no r.source ≡ Some m → IsSource w m
  pub grounded : (n : ℕ) → Grounded (sources w) n
  pub uuids : HaveOwnUuids w

pub Linked-safe : (w : World) → Safe w → Linked AttachedWell w
Linked-safe w safe = record { laid = safe.laid; kept = safe.kept; stands = safe.well; logging = safe.logging; grounded = safe.grounded; uuids = safe.uuids }

pub Safe-linked : (w : World) → Linked AttachedWell w → IsKin (histories w) → Safe w
Safe-linked w linked kin = record { laid = linked.laid; kept = linked.kept; well = linked.stands; logging = linked.logging; kin = kin; grounded = linked.grounded; uuids = linked.uuids }

pub Linked-placed : (w : World) → Placed w → Linked StandsIn w
Linked-placed w placed = record { laid = placed.laid; kept = placed.kept; stands = placed.stands; logging = placed.logging; grounded = placed.grounded; uuids = placed.uuids }

pub Placed-linked : (w : World) → Linked StandsIn w → Placed w
Placed-linked w linked = record { laid = linked.laid; kept = linked.kept; stands = linked.stands; logging = linked.logging; grounded = linked.grounded; uuids = linked.uuids }

-- a `Safe` world has `Placed`
pub Placed-safe : (w : World) → Safe w → Placed w
Placed-safe w safe = record {
  laid = safe.laid;
  kept = safe.kept;
  stands = λ n m r s at from at_m.
      let well = safe.well n m r s at from at_m in
      record { exec_place = (length r.history.txns, well.exec_place); read_place = well.read_place; order = well.order };
  logging = safe.logging;
  grounded = safe.grounded;
  uuids = safe.uuids;
}

-- nothing of this is about the count of errant writes
pub Linked-errant : (R : Server → Server → Type 0) (w : World) (errant : ℕ) → Linked R w → Linked R (record w { errant = errant })
Linked-errant R w errant linked = record { laid = linked.laid; kept = linked.kept; stands = linked.stands; logging = linked.logging; grounded = linked.grounded; uuids = linked.uuids }

-- what a change of one server owes
pub record Changes (R : Server → Server → Type 0) (w : World) (n : ℕ) (s s' : Server) : Type 0 where
  pub goes_on : GoesOn s s'
  pub laid : s'.settings.logs ≡ true → LaysOut s'.history.txns s'.log.log
  pub kept : KeepsFrom s'.settings.logs s'.log.log s'.first
  pub stands : (m : ℕ) (t : Server) → source_no s'.source ≡ Some m → server_at w m ≡ Some t → R s' t
  pub logging : (m : ℕ) → source_no s'.source ≡ Some m → IsSource w m
  pub grounded : (m : ℕ) → Grounded (sources (with_server w n s')) m

pub Linked-with : (R : Server → Server → Type 0) → Standing R → (w : World) (n : ℕ) (s s' : Server) → Linked R w → server_at w n ≡ Some s
    → Changes R w n s s' → Linked R (with_server w n s')
Linked-with R standing w n s s' linked here changes = record {
  laid = λ m t at logs.
      elim (at_cases w n s s' here m t at) [
        | inl new ↦ subst (λ (x : Server). x.settings.logs ≡ true → LaysOut x.history.txns x.log.log) (sym new.1) changes.laid logs
        | inr old ↦ linked.laid m t old.1 logs
      ];
  kept = λ m t at.
      elim (at_cases w n s s' here m t at) [
        | inl new ↦ subst (λ (x : Server). KeepsFrom x.settings.logs x.log.log x.first) (sym new.1) changes.kept
        | inr old ↦ linked.kept m t old.1
      ];
  stands = λ a b r t at_a source at_b.
      elim (at_cases w n s s' here a r at_a) [
        | inl new_a ↦ replica b r t new_a.1 source (at_cases w n s s' here b t at_b)
        | inr old_a ↦ elim (at_cases w n s s' here b t at_b) [
          | inl new_b ↦ subst (R r) (sym new_b.1) (standing.source r s s' changes.goes_on (linked.stands a n r s old_a.1 (source ∙ ap Some new_b.0) here))
          | inr old_b ↦ linked.stands a b r t old_a.1 source old_b.1
        ]
      ];
  logging = λ a b r at source.
      IsSource-with w n s s' here changes.goes_on.settings b
      (elim (at_cases w n s s' here a r at) [
        | inl new ↦ changes.logging b (ap (λ (x : Server). source_no x.source) (sym new.1) ∙ source)
        | inr old ↦ linked.logging a b r old.1 source
      ]);
  grounded = changes.grounded;
  uuids = λ a b r t at_a at_b same.
      let x = before a r at_a in
      let y = before b t at_b in
      linked.uuids a b x.0 y.0 x.1 y.1 (sym (ap (λ (u : Settings). u.uuid) x.2) ∙ same ∙ ap (λ (u : Settings). u.uuid) y.2);
}
  where
    before : (m : ℕ) (t : Server) → server_at (with_server w n s') m ≡ Some t → (x : Server) × (server_at w m ≡ Some x) × (t.settings ≡ x.settings)
    before m t at = elim (at_cases w n s s' here m t at) [
      | inl new ↦ (s, ap (server_at w) new.0 ∙ here, ap (λ (x : Server). x.settings) new.1 ∙ changes.goes_on.settings)
      | inr old ↦ (t, old.1, refl)
    ]

    replica : (b : ℕ) (r t : Server) → r ≡ s' → source_no r.source ≡ Some b → ((b ≡ n) × (t ≡ s')) ⊎ ((b ≡ n → ⊥) × (server_at w b ≡ Some t)) → R r t
    replica b r t is_s' source where_b =
        let from : source_no s'.source ≡ Some b = ap (λ (x : Server). source_no x.source) (sym is_s') ∙ source in
        elim where_b [
          | inl new ↦ absurd (not_self (sources (with_server w n s')) n (changes.grounded n) (ap source_of (at_with_same w n s s' here) ∙ from ∙ ap Some new.0))
          | inr old ↦ subst (λ (x : Server). R x t) (sym is_s') (changes.stands b t from old.1)
        ]

-- a change of one server that leaves its source
pub record Keeps (R : Server → Server → Type 0) (w : World) (n : ℕ) (s s' : Server) : Type 0 where
  pub goes_on : GoesOn s s'
  pub source : source_no s'.source ≡ source_no s.source
  pub laid : s'.settings.logs ≡ true → LaysOut s'.history.txns s'.log.log
  pub kept : KeepsFrom s'.settings.logs s'.log.log s'.first
  pub stands : (m : ℕ) (t : Server) → source_no s.source ≡ Some m → server_at w m ≡ Some t → R s t → R s' t

pub Linked-keeps : (R : Server → Server → Type 0) → Standing R → (w : World) (n : ℕ) (s s' : Server) → Linked R w → server_at w n ≡ Some s
    → Keeps R w n s s' → Linked R (with_server w n s')
Linked-keeps R standing w n s s' linked here keeps =
    Linked-with R standing w n s s' linked here (record {
      goes_on = keeps.goes_on;
      laid = keeps.laid;
      kept = keeps.kept;
      stands = λ m t from at. let was : source_no s.source ≡ Some m = sym keeps.source ∙ from in keeps.stands m t was at (linked.stands n m s t here was at);
      logging = λ m from. linked.logging n m s here (sym keeps.source ∙ from);
      grounded = λ m. subst (λ (up : ℕ → Option ℕ). Grounded up m) (sym (sources-kept w n s s' here keeps.source)) (linked.grounded m);
    })

-- a change of one server that leaves its source, its history, its log and its settings
pub Linked-same : (R : Server → Server → Type 0) → Standing R → (w : World) (n : ℕ) (s s' : Server) → Linked R w → server_at w n ≡ Some s
    → Same s s' → source_no s'.source ≡ source_no s.source
    → ((m : ℕ) (t : Server) → source_no s.source ≡ Some m → server_at w m ≡ Some t → R s t → R s' t)
    → Linked R (with_server w n s')
Linked-same R standing w n s s' linked here same source stands =
    Linked-keeps R standing w n s s' linked here
    (record {
      goes_on = GoesOn-same s s' same;
      source = source;
      laid = LaysOut-same s s' same (linked.laid n s here);
      kept = KeepsFrom-same s s' same (linked.kept n s here);
      stands = stands;
    })

pub Linked-still : (R : Server → Server → Type 0) → Standing R → (w : World) (n : ℕ) (s s' : Server) → Linked R w → server_at w n ≡ Some s
    → Still s s' → Linked R (with_server w n s')
Linked-still R standing w n s s' linked here still =
    Linked-same R standing w n s s' linked here still.same still.source (λ m t from at stood. standing.still s s' t still stood)

-- a change of source
pub record Moves (R : Server → Server → Type 0) (w : World) (n : ℕ) (s s' : Server) : Type 0 where
  pub same : Same s s'
  pub stands : (m : ℕ) (t : Server) → source_no s'.source ≡ Some m → server_at w m ≡ Some t → R s' t
  pub logging : (m : ℕ) → source_no s'.source ≡ Some m → IsSource w m
  pub grounded : (m : ℕ) → Grounded (sources (with_server w n s')) m

pub Linked-moves : (R : Server → Server → Type 0) → Standing R → (w : World) (n : ℕ) (s s' : Server) → Linked R w → server_at w n ≡ Some s
    → Moves R w n s s' → Linked R (with_server w n s')
Linked-moves R standing w n s s' linked here moves =
    Linked-with R standing w n s s' linked here (record {
      goes_on = GoesOn-same s s' moves.same;
      laid = LaysOut-same s s' moves.same (linked.laid n s here);
      kept = KeepsFrom-same s s' moves.same (linked.kept n s here);
      stands = moves.stands;
      logging = moves.logging;
      grounded = moves.grounded;
    })

-- A change of the world that writes nothing: every history and the count of errant writes stay, and every server goes
-- on, without a new one.
pub record Idle (w w' : World) : Type 0 where
  pub kept : histories w' ≡ histories w
  pub grows : Grows w w'
  pub errant : w'.errant ≡ w.errant
  pub count : length w'.servers ≡ length w.servers

pub Idle-refl : (w : World) → Idle w w
Idle-refl w = record { kept = refl; grows = Grows-refl w; errant = refl; count = refl }

pub Idle-with : (w : World) (n : ℕ) (s s' : Server) → server_at w n ≡ Some s → s'.history ≡ s.history → GoesOn s s' → Idle w (with_server w n s')
Idle-with w n s s' here history on = record {
  kept = histories-kept w n s s' here (ap (λ (h : Kept). h.txns) history);
  grows = Grows-with w n s s' here on;
  errant = refl;
  count = length-set w.servers n s';
}

pub Idle-same : (w : World) (n : ℕ) (s s' : Server) → server_at w n ≡ Some s → Same s s' → Idle w (with_server w n s')
Idle-same w n s s' here same = Idle-with w n s s' here same.history (GoesOn-same s s' same)

-- such a change keeps a world `Safe` if it keeps its replicas' positions
pub Safe-idle : (w w' : World) → Safe w → Idle w w' → Linked AttachedWell w' → Safe w'
Safe-idle w w' safe idle linked = Safe-linked w' linked (subst IsKin (sym idle.kept) safe.kin)
