-- What each turn keeps of servers with jobs.
use Rattle.std.proofs.Common.{◌≡◌, ℕ, List, [], length, refl, Option, Some, None, IfSome}
use Rattle.job_laws.proofs.Prelude.{All, All-nil, All-replicate, All-set, All-weaker, AllAllowed, AllBridged, AllJoinWell, AllMeet, Bridge, Exchange}
use Rattle.job_laws.proofs.Prelude.{Flight, Grows-run, HasLeases, Held, HeldJob, IsQuiet, IsShown, IsShownBridged, Job, Moment, Observation, Placed}
use Rattle.job_laws.proofs.Prelude.{Placed-run, Safe, Safe-run, ServerNo, Shows-run, Sound, Spans, Stands-grows, StandsIn, World, bridge_in}
use Rattle.job_laws.proofs.Prelude.{forgotten, no_leases, observed, position_of, restarted, ring_at, ringed, run, slotted, stored, with_bridge}
use Rattle.job_laws.proofs.Spanning.{spans-by}
use Rattle.job_laws.proofs.Bridging.{stands-by}
use Rattle.job_laws.proofs.Lists.{All-at, All-ring}
use Rattle.job_laws.proofs.Showing.{Spans-run, Bridged-run, Shows-seen, Bridged-seen}
use Rattle.job_laws.proofs.Matching.{AllMeet-run}
use Rattle.job_laws.proofs.Turns.{Held-run, AllBridged-run}

-- ---- exchanges pass by what is kept

module _ (w : World) (es : List Exchange) (placed : Placed w) (allowed : AllAllowed w es) where
  pub rings-run : (rings : List (List Bridge)) → All (All (Spans w)) rings → All (All (Spans (run w es))) rings
  rings-run rings all =
      All-weaker (All (Spans w)) (All (Spans (run w es))) (λ ring each. All-weaker (Spans w) (Spans (run w es)) (λ b h. Spans-run w es b placed allowed h) ring each) rings all

  pub rings-stand : (rings : List (List Bridge)) → All (All (StandsIn w)) rings → All (All (StandsIn (run w es))) rings
  rings-stand rings all =
      All-weaker (All (StandsIn w)) (All (StandsIn (run w es)))
      (λ ring each. All-weaker (StandsIn w) (StandsIn (run w es)) (λ b h. Stands-grows w (run w es) b.no.0 b.source.0 b.own b.exec (Grows-run w es placed allowed) h) ring each)
      rings all

  slot-run : (slot : Option Observation) → IfSome slot (IsShown w) → IfSome slot (IsShown (run w es))
  slot-run None h = h
  slot-run (Some o) h = λ s is. Shows-run w es o.no.0 s placed allowed (h s is)

  slot-bridged : (slot : Option Observation) → IfSome slot (IsShownBridged w) → IfSome slot (IsShownBridged (run w es))
  slot-bridged None h = h
  slot-bridged (Some o) h = λ s is. Bridged-run w es o.no.0 (position_of s) placed allowed (h s is)

  pub slots-run : (slots : List (Option Observation)) → All (λ slot. IfSome slot (IsShown w)) slots → All (λ slot. IfSome slot (IsShown (run w es))) slots
  slots-run slots all = All-weaker (λ slot. IfSome slot (IsShown w)) (λ slot. IfSome slot (IsShown (run w es))) slot-run slots all

  pub slots-bridged : (slots : List (Option Observation)) → All (λ slot. IfSome slot (IsShownBridged w)) slots → All (λ slot. IfSome slot (IsShownBridged (run w es))) slots
  slots-bridged slots all = All-weaker (λ slot. IfSome slot (IsShownBridged w)) (λ slot. IfSome slot (IsShownBridged (run w es))) slot-bridged slots all

  pub jobs-run : (jobs : List Job) → All (HeldJob w) jobs → All (HeldJob (run w es)) jobs
  jobs-run jobs all = All-weaker (HeldJob w) (HeldJob (run w es)) (λ j h. Held-run w es j placed allowed h) jobs all

  pub jobs-bridged : (jobs : List Job) → All (λ j. AllBridged w j.seen) jobs → All (λ j. AllBridged (run w es) j.seen) jobs
  jobs-bridged jobs all = All-weaker (λ j. AllBridged w j.seen) (λ j. AllBridged (run w es) j.seen) (λ j h. AllBridged-run w es j.seen placed allowed h) jobs all

  pub jobs-meet : (jobs : List Job) → All (λ j. AllMeet w j.matches) jobs → All (λ j. AllMeet (run w es) j.matches) jobs
  jobs-meet jobs all = All-weaker (λ j. AllMeet w j.matches) (λ j. AllMeet (run w es) j.matches) (λ j h. AllMeet-run w es placed allowed j.matches h) jobs all

-- the servers go on by any allowed exchanges, and nothing else changes
pub Held-on : (f : Flight) (es : List Exchange) → AllAllowed f.world es → Held f → Held (record f { world = run f.world es })
Held-on f es allowed held = record {
  placed = Placed-run f.world es held.placed allowed;
  rings = rings-run f.world es held.placed allowed f.rings held.rings;
  slots = slots-run f.world es held.placed allowed f.slots held.slots;
  jobs = jobs-run f.world es held.placed allowed f.jobs held.jobs;
  leased = held.leased;
}

pub Sound-on : (f : Flight) (es : List Exchange) → AllAllowed f.world es → AllJoinWell f.world es → IsQuiet (run f.world es) → Held f → Sound f → Sound (record f { world = run f.world es })
Sound-on f es allowed joins quiet held sound = record {
  safe = Safe-run f.world es sound.safe allowed joins quiet;
  rings = rings-stand f.world es held.placed allowed f.rings sound.rings;
  slots = slots-bridged f.world es held.placed allowed f.slots sound.slots;
  jobs = jobs-bridged f.world es held.placed allowed f.jobs sound.jobs;
  met = jobs-meet f.world es held.placed allowed f.jobs sound.met;
}

-- ---- readings

pub observed-shown : (w : World) (read : ℕ) (now : Moment) (n : ServerNo) → Placed w → IsShown w (observed w read now n)
observed-shown w read now n placed s is = Shows-seen w n.0 s placed is

pub observed-bridged : (w : World) (read : ℕ) (now : Moment) (n : ServerNo) → Safe w → IsShownBridged w (observed w read now n)
observed-bridged w read now n safe s is = Bridged-seen w n.0 s safe is

pub Held-slotted : (f : Flight) (p : ℕ) (o : Option Observation) → IfSome o (IsShown f.world) → Held f → Held (slotted f p o)
Held-slotted f p o shown held = record {
  placed = held.placed;
  rings = held.rings;
  slots = All-set (λ slot. IfSome slot (IsShown f.world)) f.slots p o shown held.slots;
  jobs = held.jobs;
  leased = held.leased;
}

pub Sound-slotted : (f : Flight) (p : ℕ) (o : Option Observation) → IfSome o (IsShownBridged f.world) → Sound f → Sound (slotted f p o)
Sound-slotted f p o shown sound = record {
  safe = sound.safe;
  rings = sound.rings;
  slots = All-set (λ slot. IfSome slot (IsShownBridged f.world)) f.slots p o shown sound.slots;
  jobs = sound.jobs;
  met = sound.met;
}

-- one more bridge in a ring
ringed-all : (P : Bridge → Type 0) (rings : List (List Bridge)) (n : ServerNo) (o : Option Bridge) → ((b : Bridge) → o ≡ Some b → P b) → All (All P) rings → All (All P) (ringed rings n o)
ringed-all P rings n None one all = all
ringed-all P rings n (Some b) one all =
    All-set (All P) rings n.0 (with_bridge (ring_at rings n) b) (All-ring P (ring_at rings n) b (one b refl) (All-at (All P) rings n.0 [] (All-nil P) all)) all

pub Held-stored : (f : Flight) (o : Observation) → IsShown f.world o → Held f → Held (stored f o)
Held-stored f o shown held = record {
  placed = held.placed;
  rings = ringed-all (Spans f.world) f.rings o.no (bridge_in o.no o.seen) (λ b h. spans-by f.world o.no o.seen b shown h) held.rings;
  slots = held.slots;
  jobs = held.jobs;
  leased = held.leased;
}

pub Sound-stored : (f : Flight) (o : Observation) → IsShownBridged f.world o → Sound f → Sound (stored f o)
Sound-stored f o shown sound = record {
  safe = sound.safe;
  rings = ringed-all (StandsIn f.world) f.rings o.no (bridge_in o.no o.seen) (λ b h. stands-by f.world o.no o.seen b shown h) sound.rings;
  slots = sound.slots;
  jobs = sound.jobs;
  met = sound.met;
}

pub Held-forgotten : (f : Flight) (n : ServerNo) → Held f → Held (forgotten f n)
Held-forgotten f n held = record {
  placed = held.placed;
  rings = All-set (All (Spans f.world)) f.rings n.0 [] (All-nil (Spans f.world)) held.rings;
  slots = held.slots;
  jobs = held.jobs;
  leased = held.leased;
}

pub Sound-forgotten : (f : Flight) (n : ServerNo) → Sound f → Sound (forgotten f n)
Sound-forgotten f n sound = record {
  safe = sound.safe;
  rings = All-set (All (StandsIn f.world)) f.rings n.0 [] (All-nil (StandsIn f.world)) sound.rings;
  slots = sound.slots;
  jobs = sound.jobs;
  met = sound.met;
}

-- ---- orchestrator starts again

pub Held-restarted : (f : Flight) → Held f → Held (restarted f)
Held-restarted f held = record {
  placed = held.placed;
  rings = All-replicate (All (Spans f.world)) (length f.rings) [] (All-nil (Spans f.world));
  slots = All-replicate (λ slot. IfSome slot (IsShown f.world)) (length f.slots) None tt;
  jobs = All-nil (HeldJob f.world);
  leased = record { each = All-nil (HasLeases no_leases); named = λ n id h. cc };
}

pub Sound-restarted : (f : Flight) → Sound f → Sound (restarted f)
Sound-restarted f sound = record {
  safe = sound.safe;
  rings = All-replicate (All (StandsIn f.world)) (length f.rings) [] (All-nil (StandsIn f.world));
  slots = All-replicate (λ slot. IfSome slot (IsShownBridged f.world)) (length f.slots) None tt;
  jobs = All-nil (λ j. AllBridged f.world j.seen);
  met = All-nil (λ j. AllMeet f.world j.matches);
}
