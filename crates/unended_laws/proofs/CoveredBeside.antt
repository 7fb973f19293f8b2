-- What is no turn of theirs leaves recoveries covered and kept.
use Rattle.std.proofs.Common.{ℕ, Bool, List, [], ◌∷◌, ◌++◌, sym, subst}
use Rattle.unended_laws.proofs.Prelude.{AimedJobs, All-nil, All-push, All-weaker, AllAllowed, AreReplicas, CoveredJobs, Docket, Exchange, Flight, Held}
use Rattle.unended_laws.proofs.Prelude.{HeldJobs, IsAimedBeside, IsApart, IsCoveredBeside, IsKeptBeside, IsOutside, IsSpeakingBeside, KeptJobs, MayPass, Means}
use Rattle.unended_laws.proofs.Prelude.{Passage, Placed, Purpose, Recovery, ServerNo, SpeakingJobs, Unended, World, begun-covers, begun-kept, begun-speaks}
use Rattle.unended_laws.proofs.Prelude.{begun_recovery, core_of, kept-run, outside-covers, passed, run, slot_of, world-stored_if}
use Rattle.unended_laws.proofs.Prelude.pass
use Rattle.unended_laws.proofs.Prelude.unended

-- ---- no orchestrator's

-- a property of the world alone stays if the world does
stored-same : (P : World → Type 0) (f : Flight) (p : ℕ) (keeps : Bool) → P f.world → P (passed f (pass.Storing p keeps)).world
stored-same P f p keeps h = subst P (sym (world-stored_if keeps f (slot_of f p))) h

outside-covered : (f : Flight) (p : Passage) → IsOutside p → (u : Unended) → IsCoveredBeside f.world u → IsCoveredBeside (passed f p).world u
outside-covered f p out (unended.Plan j) c = tt
outside-covered f (pass.Exchanging e) out (unended.Recovery r docket) c = outside-covers f.world e r out c
outside-covered f (pass.Polling p n read now) out (unended.Recovery r docket) c = c
outside-covered f (pass.Storing p keeps) out (unended.Recovery r docket) c = stored-same (λ w. IsCoveredBeside w (unended.Recovery r docket)) f p keeps c
outside-covered f (pass.Discovering n read now) out (unended.Recovery r docket) c = c
outside-covered f (pass.Forgetting n) out (unended.Recovery r docket) c = c
outside-covered f _ out _ c = absurd out

pub outside-stays : (f : Flight) (us : List Unended) (p : Passage) → IsOutside p → CoveredJobs f us → CoveredJobs (passed f p) us
outside-stays f us p out covered = record {
  jobs = All-weaker (IsCoveredBeside f.world) (IsCoveredBeside (passed f p).world) (λ u c. outside-covered f p out u c) us covered.jobs;
}

-- ---- by exchanges of any kind

pub run-kept : (w : World) (es : List Exchange) (u : Unended) → Placed w → AllAllowed w es → IsKeptBeside w u → IsKeptBeside (run w es) u
run-kept w es (unended.Plan j) placed allowed k = tt
run-kept w es (unended.Recovery r docket) placed allowed k = kept-run w es r placed allowed k

apart-kept : (f : Flight) (p : Passage) → MayPass f p → IsApart p → Held f → (u : Unended) → IsKeptBeside f.world u → IsKeptBeside (passed f p).world u
apart-kept f (pass.Exchanging e) may apart held u k = run-kept f.world (e ∷ []) u held.placed (may.0, tt) k
apart-kept f (pass.Polling p n read now) may apart held u k = k
apart-kept f (pass.Storing p keeps) may apart held u k = stored-same (λ w. IsKeptBeside w u) f p keeps k
apart-kept f (pass.Discovering n read now) may apart held u k = k
apart-kept f (pass.Forgetting n) may apart held u k = k
apart-kept f _ may apart held u k = absurd apart

pub apart-stays : (f : Flight) (us : List Unended) (p : Passage) → MayPass f p → IsApart p → HeldJobs f us → KeptJobs f us → KeptJobs (passed f p) us
apart-stays f us p may apart held kept = record {
  jobs = All-weaker (IsKeptBeside f.world) (IsKeptBeside (passed f p).world) (λ u k. apart-kept f p may apart held.flight u k) us kept.jobs;
}

-- ---- a restart

pub none-covered : (f : Flight) → CoveredJobs f []
none-covered f = record { jobs = All-nil (IsCoveredBeside f.world) }

pub none-kept : (f : Flight) → KeptJobs f []
none-kept f = record { jobs = All-nil (IsKeptBeside f.world) }

pub none-speak : SpeakingJobs []
none-speak = record { jobs = All-nil IsSpeakingBeside }

pub none-aimed : (begun : ℕ → Recovery) → AimedJobs begun []
none-aimed begun = record { jobs = All-nil (IsAimedBeside begun) }

-- ---- a job that begins

pub begin-covered : (f : Flight) (us : List Unended) (list : List ServerNo) (u : Unended) → IsCoveredBeside f.world u → CoveredJobs f us → CoveredJobs (passed f (pass.Beginning list (core_of u))) (us ++ u ∷ [])
begin-covered f us list u new covered = record { jobs = All-push (IsCoveredBeside f.world) us u covered.jobs new }

pub begin-kept : (f : Flight) (us : List Unended) (list : List ServerNo) (u : Unended) → IsKeptBeside f.world u → KeptJobs f us → KeptJobs (passed f (pass.Beginning list (core_of u))) (us ++ u ∷ [])
begin-kept f us list u new kept = record { jobs = All-push (IsKeptBeside f.world) us u kept.jobs new }

pub begin-speaking : (us : List Unended) (u : Unended) → IsSpeakingBeside u → SpeakingJobs us → SpeakingJobs (us ++ u ∷ [])
begin-speaking us u new speaking = record { jobs = All-push IsSpeakingBeside us u speaking.jobs new }

pub begin-aimed : (begun : ℕ → Recovery) (us : List Unended) (u : Unended) → IsAimedBeside begun u → AimedJobs begun us → AimedJobs begun (us ++ u ∷ [])
begin-aimed begun us u new aimed = record { jobs = All-push (IsAimedBeside begun) us u aimed.jobs new }

pub recovery-covered : (w : World) (u : Purpose) (by : Means) (id wait : ℕ) (f : ServerNo) (replicas order : List ServerNo) (docket : Docket) → AreReplicas u f replicas
    → IsCoveredBeside w (unended.Recovery (begun_recovery u by id wait f replicas order) docket)
recovery-covered w u by id wait f replicas order docket are = begun-covers w by id wait f replicas order u are

pub recovery-kept : (w : World) (u : Purpose) (by : Means) (id wait : ℕ) (f : ServerNo) (replicas order : List ServerNo) (docket : Docket)
    → IsKeptBeside w (unended.Recovery (begun_recovery u by id wait f replicas order) docket)
recovery-kept w u by id wait f replicas order docket = begun-kept w u by id wait f replicas order

pub recovery-speaks : (u : Purpose) (by : Means) (id wait : ℕ) (f : ServerNo) (replicas order : List ServerNo) (docket : Docket)
    → IsSpeakingBeside (unended.Recovery (begun_recovery u by id wait f replicas order) docket)
recovery-speaks u by id wait f replicas order docket = begun-speaks u by id wait f replicas order
