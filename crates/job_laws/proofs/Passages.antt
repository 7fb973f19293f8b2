-- Every state of a run has `Held`, and every one without errant writes has `Sound`.
use Rattle.std.proofs.Common.{◌≡◌, ℕ, Bool, true, false, List, [], ◌∷◌, refl, sym, ◌∙◌, ap, subst, Option, Some, None, IfSome}
use Rattle.job_laws.proofs.Prelude.{AllMayPass, AllPassWell, Flight, Held, IsQuiet, IsShown, IsShownBridged, Job, MayPass, MayTake, Moment}
use Rattle.job_laws.proofs.Prelude.{Observation, Passage, PassesWell, Sound, TakesWell, Turned, World, after_turn, job_at, job_turned, observed}
use Rattle.job_laws.proofs.Prelude.{passed, passing, quiet-run, slot_of, stored_if, turned, turned_by}
use Rattle.job_laws.proofs.Prelude.pass
use Rattle.job_laws.proofs.Lists.{All-at}
use Rattle.job_laws.proofs.Passing.{Held-on, Sound-on, observed-shown, observed-bridged, Held-slotted, Sound-slotted, Held-stored, Sound-stored, Held-forgotten, Sound-forgotten, Held-restarted, Sound-restarted}
use Rattle.job_laws.proofs.Begun.{Held-turned, Sound-turned, Held-begun, Sound-begun, held-after, sound-after, turn-shown, turn-bridged, held-of}

held-stored_if : (keeps : Bool) (f : Flight) (o : Option Observation) → ((x : Observation) → o ≡ Some x → IsShown f.world x) → Held f → Held (stored_if keeps f o)
held-stored_if keeps f None shown held = held
held-stored_if true f (Some o) shown held = Held-stored f o (shown o refl) held
held-stored_if false f (Some o) shown held = held

sound-stored_if : (keeps : Bool) (f : Flight) (o : Option Observation) → ((x : Observation) → o ≡ Some x → IsShownBridged f.world x) → Sound f → Sound (stored_if keeps f o)
sound-stored_if keeps f None shown sound = sound
sound-stored_if true f (Some o) shown sound = Sound-stored f o (shown o refl) sound
sound-stored_if false f (Some o) shown sound = sound

-- what is stored leaves the servers as they are
pub world-stored_if : (keeps : Bool) (f : Flight) (o : Option Observation) → (stored_if keeps f o).world ≡ f.world
world-stored_if keeps f None = refl
world-stored_if true f (Some o) = refl
world-stored_if false f (Some o) = refl

-- and the leases
pub leases-stored_if : (keeps : Bool) (f : Flight) (o : Option Observation) → (stored_if keeps f o).leases ≡ f.leases
leases-stored_if keeps f None = refl
leases-stored_if true f (Some o) = refl
leases-stored_if false f (Some o) = refl

in-slot : (P : Observation → Type 0) (o : Option Observation) → IfSome o P → (x : Observation) → o ≡ Some x → P x
in-slot P o h x is = subst (λ (y : Option Observation). IfSome y P) is h

slot-shown : (f : Flight) (p : ℕ) → Held f → (x : Observation) → slot_of f p ≡ Some x → IsShown f.world x
slot-shown f p held = in-slot (IsShown f.world) (slot_of f p) (All-at (λ slot. IfSome slot (IsShown f.world)) f.slots p None tt held.slots)

slot-bridged : (f : Flight) (p : ℕ) → Sound f → (x : Observation) → slot_of f p ≡ Some x → IsShownBridged f.world x
slot-bridged f p sound = in-slot (IsShownBridged f.world) (slot_of f p) (All-at (λ slot. IfSome slot (IsShownBridged f.world)) f.slots p None tt sound.slots)

held-turned_by : (f : Flight) (id read : ℕ) (now : Moment) (keeps : Bool) → Held f → Held (turned_by f id read now keeps (job_at f.jobs id))
held-turned_by f id read now keeps held = go (job_at f.jobs id) refl (Held-turned f read now id held)
  where
    go : (o : Option Job) → job_at f.jobs id ≡ o → Held (job_turned f read now id o) → Held (turned_by f id read now keeps o)
    go None at after = held
    go (Some j) at after =
        held-stored_if keeps (after_turn f id (turned f.world read now j)) (turned f.world read now j).observation
        (λ x is. turn-shown f.world read now j x held.placed (held-of f id j held at) is) after

sound-turned_by : (f : Flight) (id read : ℕ) (now : Moment) (keeps : Bool) → Held f → Sound f → IsQuiet (turned_by f id read now keeps (job_at f.jobs id)).world
    → Sound (turned_by f id read now keeps (job_at f.jobs id))
sound-turned_by f id read now keeps held sound quiet = go (job_at f.jobs id) refl quiet (Sound-turned f read now id held sound)
  where
    go : (o : Option Job) → job_at f.jobs id ≡ o → IsQuiet (turned_by f id read now keeps o).world
        → (IsQuiet (job_turned f read now id o).world → Sound (job_turned f read now id o)) → Sound (turned_by f id read now keeps o)
    go None at quiet after = sound
    go (Some j) at quiet after =
        let same = world-stored_if keeps (after_turn f id (turned f.world read now j)) (turned f.world read now j).observation in
        sound-stored_if keeps (after_turn f id (turned f.world read now j)) (turned f.world read now j).observation
        (λ x is. turn-bridged f.world read now j x sound.safe held.placed (held-of f id j held at) is)
        (after (ap (λ (w : World). w.errant) (sym same) ∙ quiet))

-- a turn that was decided otherwise

held-taken : (f : Flight) (id : ℕ) (t : Turned) (keeps : Bool) → MayTake f id t → Held f → Held (stored_if keeps (after_turn f id t) t.observation)
held-taken f id t keeps may held =
    held-stored_if keeps (after_turn f id t) t.observation (in-slot (IsShown (after_turn f id t).world) t.observation may.shown)
    (held-after f id t held may.held may.leases)

sound-taken : (f : Flight) (id : ℕ) (t : Turned) (keeps : Bool) → MayTake f id t → TakesWell f t → Held f → Sound f → IsQuiet (stored_if keeps (after_turn f id t) t.observation).world
    → Sound (stored_if keeps (after_turn f id t) t.observation)
sound-taken f id t keeps may well held sound quiet =
    let same = world-stored_if keeps (after_turn f id t) t.observation in
    sound-stored_if keeps (after_turn f id t) t.observation (in-slot (IsShownBridged (after_turn f id t).world) t.observation well.bridged)
    (sound-after f id t held may.held may.leases sound well.sound (ap (λ (w : World). w.errant) (sym same) ∙ quiet))

pub Held-passed : (f : Flight) (p : Passage) → MayPass f p → Held f → Held (passed f p)
Held-passed f (pass.Exchanging e) may held = Held-on f (e ∷ []) (may.0, tt) held
Held-passed f (pass.Polling p n read now) may held = Held-slotted f p (Some (observed f.world read now n)) (observed-shown f.world read now n held.placed) held
Held-passed f (pass.Storing p keeps) may held =
    Held-slotted (stored_if keeps f (slot_of f p)) p None tt (held-stored_if keeps f (slot_of f p) (slot-shown f p held) held)
Held-passed f (pass.Discovering n read now) may held = Held-stored f (observed f.world read now n) (observed-shown f.world read now n held.placed) held
Held-passed f (pass.Forgetting n) may held = Held-forgotten f n held
Held-passed f pass.Restarting may held = Held-restarted f held
Held-passed f (pass.Beginning list j) may held = Held-begun f list j may held
Held-passed f (pass.Turning id read now keeps) may held = held-turned_by f id read now keeps held
Held-passed f (pass.Taking id t keeps) may held = held-taken f id t keeps may held

pub Sound-passed : (f : Flight) (p : Passage) → MayPass f p → PassesWell f p → IsQuiet (passed f p).world → Held f → Sound f → Sound (passed f p)
Sound-passed f (pass.Exchanging e) may well quiet held sound = Sound-on f (e ∷ []) (may.0, tt) (may.1, tt) quiet held sound
Sound-passed f (pass.Polling p n read now) may well quiet held sound = Sound-slotted f p (Some (observed f.world read now n)) (observed-bridged f.world read now n sound.safe) sound
Sound-passed f (pass.Storing p keeps) may well quiet held sound =
    Sound-slotted (stored_if keeps f (slot_of f p)) p None tt (sound-stored_if keeps f (slot_of f p) (slot-bridged f p sound) sound)
Sound-passed f (pass.Discovering n read now) may well quiet held sound = Sound-stored f (observed f.world read now n) (observed-bridged f.world read now n sound.safe) sound
Sound-passed f (pass.Forgetting n) may well quiet held sound = Sound-forgotten f n sound
Sound-passed f pass.Restarting may well quiet held sound = Sound-restarted f sound
Sound-passed f (pass.Beginning list j) may well quiet held sound = Sound-begun f list j may sound
Sound-passed f (pass.Turning id read now keeps) may well quiet held sound = sound-turned_by f id read now keeps held sound quiet
Sound-passed f (pass.Taking id t keeps) may well quiet held sound = sound-taken f id t keeps may well held sound quiet

-- ---- the count of errant writes never falls

quiet-turned : (f : Flight) (id read : ℕ) (now : Moment) (keeps : Bool) (o : Option Job) → IsQuiet (turned_by f id read now keeps o).world → IsQuiet f.world
quiet-turned f id read now keeps None q = q
quiet-turned f id read now keeps (Some j) q =
    let same = world-stored_if keeps (after_turn f id (turned f.world read now j)) (turned f.world read now j).observation in
    quiet-run f.world (turned f.world read now j).exchanges (ap (λ (w : World). w.errant) (sym same) ∙ q)

quiet-back : (f : Flight) (p : Passage) → IsQuiet (passed f p).world → IsQuiet f.world
quiet-back f (pass.Exchanging e) q = quiet-run f.world (e ∷ []) q
quiet-back f (pass.Storing p keeps) q = ap (λ (w : World). w.errant) (sym (world-stored_if keeps f (slot_of f p))) ∙ q
quiet-back f (pass.Turning id read now keeps) q = quiet-turned f id read now keeps (job_at f.jobs id) q
quiet-back f (pass.Taking id t keeps) q =
    quiet-run f.world t.exchanges (ap (λ (w : World). w.errant) (sym (world-stored_if keeps (after_turn f id t) t.observation)) ∙ q)
quiet-back f _ q = q

quiet-start : (f : Flight) (ps : List Passage) → IsQuiet (passing f ps).world → IsQuiet f.world
quiet-start f [] q = q
quiet-start f (p ∷ ps) q = quiet-back f p (quiet-start (passed f p) ps q)

pub Held-passing : (f : Flight) (ps : List Passage) → AllMayPass f ps → Held f → Held (passing f ps)
Held-passing f [] may held = held
Held-passing f (p ∷ ps) may held = Held-passing (passed f p) ps may.1 (Held-passed f p may.0 held)

pub Sound-passing : (f : Flight) (ps : List Passage) → AllMayPass f ps → AllPassWell f ps → IsQuiet (passing f ps).world → Held f → Sound f → Sound (passing f ps)
Sound-passing f [] may well quiet held sound = sound
Sound-passing f (p ∷ ps) may well quiet held sound =
    Sound-passing (passed f p) ps may.1 well.1 quiet (Held-passed f p may.0 held) (Sound-passed f p may.0 well.0 (quiet-start (passed f p) ps quiet) held sound)
