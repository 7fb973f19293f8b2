-- What is no turn of theirs leaves unended jobs with `Held` and `Sound`.
use Rattle.std.proofs.Common.{◌≡◌, ◌∙◌, ℕ, Bool, true, false, List, [], length, refl, Option, Some, None, All}
use Rattle.unended_laws.proofs.Prelude.{All-nil, All-weaker, AreOwn, Flight, Held, Held-passed, HeldJobs, IsApart, IsHeldBeside, IsQuiet}
use Rattle.unended_laws.proofs.Prelude.{IsSoundBeside, Job, MayPass, Moment, Observation, Passage, PassesWell, Sound-passed, Sound-restarted}
use Rattle.unended_laws.proofs.Prelude.{SoundJobs, Spares, Unended, after_turn, bridge_in, forgotten-own, fresh-own, job_at, kept-own, number_of}
use Rattle.unended_laws.proofs.Prelude.{observed, passage-held, passage-leased, passage-sound, passed, shown-own, slot_of, stored_if, turned}
use Rattle.unended_laws.proofs.Prelude.{turned_by}
use Rattle.unended_laws.proofs.Prelude.pass
use Rattle.unended_laws.proofs.Prelude.unended

-- ---- one that isn't the turn's stays

pub beside-held : (f : Flight) (p : Passage) (u : Unended) → MayPass f p → Held f → Spares (number_of u) p → IsHeldBeside f.world f.leases u → IsHeldBeside (passed f p).world (passed f p).leases u
beside-held f p (unended.Plan j) may held spares mine = tt
beside-held f p (unended.Recovery r docket) may held spares mine = (passage-held f p r may held mine.0, passage-leased f p r.core.id r may spares mine.1)

pub beside-sound : (f : Flight) (p : Passage) (u : Unended) → MayPass f p → Held f → IsSoundBeside f.world u → IsSoundBeside (passed f p).world u
beside-sound f p (unended.Plan j) may held mine = tt
beside-sound f p (unended.Recovery r docket) may held mine = passage-sound f p r may held mine

pub all-held : (f : Flight) (p : Passage) (us : List Unended) → MayPass f p → Held f → ((u : Unended) → Spares (number_of u) p) → All (IsHeldBeside f.world f.leases) us
    → All (IsHeldBeside (passed f p).world (passed f p).leases) us
all-held f p us may held spares all =
    All-weaker (IsHeldBeside f.world f.leases) (IsHeldBeside (passed f p).world (passed f p).leases) (λ u h. beside-held f p u may held (spares u) h) us all

pub all-sound : (f : Flight) (p : Passage) (us : List Unended) → MayPass f p → Held f → All (IsSoundBeside f.world) us → All (IsSoundBeside (passed f p).world) us
all-sound f p us may held all = All-weaker (IsSoundBeside f.world) (IsSoundBeside (passed f p).world) (λ u h. beside-sound f p u may held h) us all

-- ---- each ring has its own server's bridges

stored-own : (keeps : Bool) (f : Flight) (o : Option Observation) → AreOwn f.rings → AreOwn (stored_if keeps f o).rings
stored-own keeps f None own = own
stored-own true f (Some o) own = kept-own f.rings o.no (bridge_in o.no o.seen) (shown-own o.no o.seen) own
stored-own false f (Some o) own = own

turned-own : (f : Flight) (id read : ℕ) (now : Moment) (keeps : Bool) (o : Option Job) → AreOwn f.rings → AreOwn (turned_by f id read now keeps o).rings
turned-own f id read now keeps None own = own
turned-own f id read now keeps (Some j) own = stored-own keeps (after_turn f id (turned f.world read now j)) (turned f.world read now j).observation own

pub passage-own : (f : Flight) (p : Passage) → AreOwn f.rings → AreOwn (passed f p).rings
passage-own f (pass.Storing p keeps) own = stored-own keeps f (slot_of f p) own
passage-own f (pass.Discovering n read now) own = stored-own true f (Some (observed f.world read now n)) own
passage-own f (pass.Forgetting n) own = forgotten-own f.rings n own
passage-own f pass.Restarting own = fresh-own (length f.rings)
passage-own f (pass.Turning id read now keeps) own = turned-own f id read now keeps (job_at f.jobs id) own
passage-own f (pass.Taking id t keeps) own = stored-own keeps (after_turn f id t) t.observation own
passage-own f _ own = own

-- ---- what is no job's

pub jobs-stored_if : (keeps : Bool) (f : Flight) (o : Option Observation) → (stored_if keeps f o).jobs ≡ f.jobs
jobs-stored_if keeps f None = refl
jobs-stored_if true f (Some o) = refl
jobs-stored_if false f (Some o) = refl

apart-jobs : (f : Flight) (p : Passage) → IsApart p → (passed f p).jobs ≡ f.jobs
apart-jobs f (pass.Storing p keeps) apart = jobs-stored_if keeps f (slot_of f p)
apart-jobs f pass.Restarting apart = absurd apart
apart-jobs f (pass.Beginning list j) apart = absurd apart
apart-jobs f (pass.Turning id read now keeps) apart = absurd apart
apart-jobs f (pass.Taking id t keeps) apart = absurd apart
apart-jobs f _ apart = refl

apart-spares : (p : Passage) (id : ℕ) → IsApart p → Spares id p
apart-spares pass.Restarting id apart = apart
apart-spares (pass.Beginning list j) id apart = absurd apart
apart-spares (pass.Turning k read now keeps) id apart = absurd apart
apart-spares (pass.Taking k t keeps) id apart = absurd apart
apart-spares _ id apart = tt

-- it owes a state with `Sound` nothing more
pub apart-well : (f : Flight) (p : Passage) → IsApart p → PassesWell f p
apart-well f pass.Restarting apart = absurd apart
apart-well f (pass.Beginning list j) apart = absurd apart
apart-well f (pass.Turning id read now keeps) apart = absurd apart
apart-well f (pass.Taking id t keeps) apart = absurd apart
apart-well f _ apart = tt

pub apart-held : (f : Flight) (us : List Unended) (p : Passage) → MayPass f p → IsApart p → HeldJobs f us → HeldJobs (passed f p) us
apart-held f us p may apart held = record {
  cores = apart-jobs f p apart ∙ held.cores;
  flight = Held-passed f p may held.flight;
  own = passage-own f p held.own;
  jobs = all-held f p us may held.flight (λ u. apart-spares p (number_of u) apart) held.jobs;
}

pub apart-sound : (f : Flight) (us : List Unended) (p : Passage) → MayPass f p → IsApart p → IsQuiet (passed f p).world → HeldJobs f us → SoundJobs f us → SoundJobs (passed f p) us
apart-sound f us p may apart quiet held sound = record {
  flight = Sound-passed f p may (apart-well f p apart) quiet held.flight sound.flight;
  jobs = all-sound f p us may held.flight sound.jobs;
}

-- ---- a restart

pub restart-held : (f : Flight) (us : List Unended) → HeldJobs f us → HeldJobs (passed f pass.Restarting) []
restart-held f us held = record {
  cores = refl;
  flight = Held-passed f pass.Restarting tt held.flight;
  own = passage-own f pass.Restarting held.own;
  jobs = All-nil (IsHeldBeside (passed f pass.Restarting).world (passed f pass.Restarting).leases);
}

pub restart-sound : (f : Flight) (us : List Unended) → SoundJobs f us → SoundJobs (passed f pass.Restarting) []
restart-sound f us sound = record { flight = Sound-restarted f sound.flight; jobs = All-nil (IsSoundBeside (passed f pass.Restarting).world) }
