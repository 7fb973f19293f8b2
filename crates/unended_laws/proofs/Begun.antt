-- An unended job that begins leaves all with `Held` and `Sound`, itself too.
use Rattle.std.proofs.Common.{◌∙◌, ℕ, Bool, List, [], ◌∷◌, ◌++◌, cond, sym, ap, Some, All}
use Rattle.unended_laws.proofs.Prelude.{All-push, All-weaker, Docket, Flight, Held-passed, HeldJobs, IsAny, IsHeldBeside, IsLeased, IsLeasedList}
use Rattle.unended_laws.proofs.Prelude.{IsListed, IsListOf, IsSoundBeside, Job, Leases, MayPass, Means, NamesLogging, Purpose, ServerNo, Sound-begun, SoundJobs}
use Rattle.unended_laws.proofs.Prelude.{Unended, World, begun-held, begun-leased, begun-sound, begun_recovery, core_of, leased_to, number_of, passed}
use Rattle.unended_laws.proofs.Prelude.pass
use Rattle.unended_laws.proofs.Prelude.purpose
use Rattle.unended_laws.proofs.Prelude.unended
use Rattle.unended_laws.proofs.Cores.{cores-joined}
use Rattle.unended_laws.proofs.Beside.{all-held, all-sound}

-- ---- any job

pub begin-held : (f : Flight) (us : List Unended) (list : List ServerNo) (u : Unended) → MayPass f (pass.Beginning list (core_of u)) → IsHeldBeside f.world (leased_to f.leases list (number_of u)) u → HeldJobs f us
    → HeldJobs (passed f (pass.Beginning list (core_of u))) (us ++ u ∷ [])
begin-held f us list u may new held = record {
  cores = ap (λ (js : List Job). js ++ core_of u ∷ []) held.cores ∙ sym (cores-joined us u);
  flight = Held-passed f (pass.Beginning list (core_of u)) may held.flight;
  own = held.own;
  jobs =
      All-push (IsHeldBeside f.world (leased_to f.leases list (number_of u))) us u
      (all-held f (pass.Beginning list (core_of u)) us may held.flight (λ k. tt) held.jobs) new;
}

pub begin-sound : (f : Flight) (us : List Unended) (list : List ServerNo) (u : Unended) → MayPass f (pass.Beginning list (core_of u)) → IsSoundBeside f.world u → HeldJobs f us → SoundJobs f us
    → SoundJobs (passed f (pass.Beginning list (core_of u))) (us ++ u ∷ [])
begin-sound f us list u may new held sound = record {
  flight = Sound-begun f list (core_of u) may sound.flight;
  jobs = All-push (IsSoundBeside f.world) us u (all-sound f (pass.Beginning list (core_of u)) us may held.flight sound.jobs) new;
}

-- ---- a recovery

listed-leased : (l : Leases) (list : List ServerNo) (id n : ℕ) → IsListed list n → IsLeased (leased_to l list id) id n
listed-leased l list id n h = ap (λ (b : Bool). cond b (Some id) (l n)) h

listed-of : (l : Leases) (list : List ServerNo) (id : ℕ) (u : Purpose) (f : ServerNo) → IsListOf (IsListed list) IsAny u f → IsLeasedList (leased_to l list id) id u f
listed-of l list id (purpose.Takeover d) f h = (listed-leased l list id f.0 h.0, listed-leased l list id d.0 h.1)
listed-of l list id _ f h = h

-- its replicas are of the list, and in a takeover the master and the replica that is to take its place
pub recovery-held : (w : World) (l : Leases) (list : List ServerNo) (u : Purpose) (by : Means) (id wait : ℕ) (f : ServerNo) (replicas order : List ServerNo) (docket : Docket)
    → All (λ n. IsListed list n.0) replicas → IsListOf (IsListed list) IsAny u f → NamesLogging w u
    → IsHeldBeside w (leased_to l list id) (unended.Recovery (begun_recovery u by id wait f replicas order) docket)
recovery-held w l list u by id wait f replicas order docket all also logs = (
  begun-held w u by id wait f replicas order logs,
  begun-leased (leased_to l list id) u by id wait f replicas order
      (All-weaker (λ (n : ServerNo). IsListed list n.0) (λ (n : ServerNo). IsLeased (leased_to l list id) id n.0) (λ n h. listed-leased l list id n.0 h) replicas all)
      (listed-of l list id u f also),
)

pub recovery-sound : (w : World) (u : Purpose) (by : Means) (id wait : ℕ) (f : ServerNo) (replicas order : List ServerNo) (docket : Docket)
    → IsSoundBeside w (unended.Recovery (begun_recovery u by id wait f replicas order) docket)
recovery-sound w u by id wait f replicas order docket = begun-sound w u by id wait f replicas order
