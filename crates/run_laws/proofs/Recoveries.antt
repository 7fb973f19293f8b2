-- Recoveries that begin one after another leave what their `Passage`s leave.
use Rattle.run_laws.proofs.Prelude.{All-head, All-tail, AllMayPass, AllPassWell, AuditState, BeginInTurn, Beginning, Begins, CanBegin, Flight}
use Rattle.run_laws.proofs.Prelude.{HeldJobs, IsAny, IsHeldBeside, IsListed, IsListOf, IsSoundBeside, Job, Leases, NamesLogging, Purpose, ServerNo}
use Rattle.run_laws.proofs.Prelude.{SoundJobs, Unended, World, append-nil, are_listed, begin-held, begin-sound, begun, by_recoveries, core_of}
use Rattle.run_laws.proofs.Prelude.{cores-joined, first-free as first-matched, first-held, first_ops, joined, leased_to, leases_after, leases_of}
use Rattle.run_laws.proofs.Prelude.{passed, passing, recovery-held, recovery-sound, recovery_job, taken, taken-leases}
use Rattle.run_laws.proofs.Prelude.JobLaws.{Begins as JobBegins}
use Rattle.run_laws.proofs.Prelude.RecoveryPlans.{Recovery}
use Rattle.run_laws.proofs.Prelude.purpose
use Rattle.run_laws.proofs.Prelude.unended
use Rattle.std.proofs.Common.{◌≡◌, ◌∙◌, ℕ, ◌<◌, true, List, [], ◌∷◌, ◌++◌, length, map, refl, sym, ap, subst, Option, Some, All}
use Rattle.run_laws.proofs.BegunInTurn.{length-taken}
use Rattle.run_laws.proofs.Listing.{listed-behind}
use Rattle.run_laws.proofs.PlanTurns.{AllOnWay, begun-on-way}

-- ---- one that begins

-- it only reads at first
first-listed : (list : List ServerNo) (u : Purpose) (f : ServerNo) → are_listed list (first_ops u f) ≡ true
first-listed list purpose.Regroup f = refl
first-listed list _ f = refl

-- whatever it may read
listed-any : (P Q : ℕ → Type 0) (u : Purpose) (f : ServerNo) → IsListOf P Q u f → IsListOf P IsAny u f
listed-any P Q (purpose.Intermediate s) f h = tt
listed-any _ _ _ f h = h

module _ (count : ℕ) (leases : List (Option ℕ)) (a : AuditState) (last : ℕ) (x : Begins) (can : CanBegin count leases a last x) where
  job-begins : (w : World) (js : List Job) (l : Leases) → l ≡ leases_of leases → JobBegins w js l x.list (core_of (recovery_job x))
  job-begins w js l same =
      subst (λ (r : Recovery). JobBegins w js l x.list r.core) (sym can.fresh) (record {
        seen = refl;
        hands = refl;
        left = first-held w x.job.purpose x.job.failed;
        found = refl;
        matched = first-matched x.job.purpose x.job.failed;
        listed = first-listed x.list x.job.purpose x.job.failed;
        free = λ n h. ap (λ (k : Leases). k n) same ∙ can.free n h;
      })

  job-beside : (w : World) (l : Leases) → NamesLogging w x.job.purpose → IsHeldBeside w (leased_to l x.list x.job.core.id) (recovery_job x)
  job-beside w l logs =
      subst (λ (r : Recovery). IsHeldBeside w (leased_to l x.list x.job.core.id) (unended.Recovery r (record { entry = Some x.entry.id; hooks = x.hooks }))) (sym can.fresh)
      (recovery-held w l x.list x.job.purpose x.job.means x.job.core.id x.job.core.wait x.job.failed x.job.replicas x.job.order (record { entry = Some x.entry.id; hooks = x.hooks })
      (subst (λ (list : List ServerNo). All (λ (n : ServerNo). IsListed list n.0) x.job.replicas) (sym can.list) (listed-behind x.job.failed x.job.replicas))
      (listed-any (IsListed x.list) (λ n. n < count) x.job.purpose x.job.failed can.listed) logs)

  job-sound : (w : World) → IsSoundBeside w (recovery_job x)
  job-sound w =
      subst (λ (r : Recovery). IsSoundBeside w (unended.Recovery r (record { entry = Some x.entry.id; hooks = x.hooks }))) (sym can.fresh)
      (recovery-sound w x.job.purpose x.job.means x.job.core.id x.job.core.wait x.job.failed x.job.replicas x.job.order (record { entry = Some x.entry.id; hooks = x.hooks }))

  -- its leases, as the list has them
  job-leases : length leases ≡ count → leased_to (leases_of leases) x.list x.job.core.id ≡ leases_of (taken leases x.list x.job.core.id)
  job-leases fits = sym (taken-leases leases x.list x.job.core.id (subst (λ (n : ℕ). All (λ (k : ServerNo). k.0 < n) x.list) (sym fits) can.within))

-- ---- several

-- a `Flight` with these jobs and leases
abbrev flight_on : Flight → List Unended → List (Option ℕ) → Flight
flight_on f us leases = record f { jobs = map core_of us; leases = leases_of leases }

-- the first of them names a new source that logs, and so do the rest
first-logs : (f : Flight) (x : Begins) (xs : List Begins) → All (λ y. NamesLogging f.world y.job.purpose) (x ∷ xs) → NamesLogging f.world x.job.purpose
first-logs f x xs logs = All-head (λ (y : Begins). NamesLogging f.world y.job.purpose) x xs logs

rest-log : (f : Flight) (x : Begins) (xs : List Begins) → All (λ y. NamesLogging f.world y.job.purpose) (x ∷ xs) → All (λ y. NamesLogging f.world y.job.purpose) xs
rest-log f x xs logs = All-tail (λ (y : Begins). NamesLogging f.world y.job.purpose) x xs logs

pub recoveries-well : (f : Flight) (xs : List Begins) → AllPassWell f (by_recoveries xs)
recoveries-well f [] = tt
recoveries-well f (x ∷ xs) = (tt, recoveries-well (passed f (Beginning x.list (core_of (recovery_job x)))) xs)

module _ (count : ℕ) where
  pub recoveries-flown : (f : Flight) (us : List Unended) (leases : List (Option ℕ)) (a : AuditState) (last : ℕ) (xs : List Begins) → BeginInTurn count leases a last xs → length leases ≡ count
      → flight_on f (us ++ map recovery_job xs) (leases_after leases xs) ≡ passing (flight_on f us leases) (by_recoveries xs)
  recoveries-flown f us leases a last [] each fits = ap (λ (vs : List Unended). flight_on f vs leases) (append-nil us)
  recoveries-flown f us leases a last (x ∷ xs) each fits =
      let next = taken leases x.list x.job.core.id in
      let one : flight_on f (us ++ recovery_job x ∷ []) next ≡ passed (flight_on f us leases) (Beginning x.list (core_of (recovery_job x))) =
      ap (λ (l : Leases). record f { jobs = map core_of (us ++ recovery_job x ∷ []); leases = l }) (sym (job-leases count leases a last x each.0 fits))
      ∙ ap (λ (js : List Job). record f { jobs = js; leases = leased_to (leases_of leases) x.list x.job.core.id }) (cores-joined us (recovery_job x)) in
      ap (λ (vs : List Unended). flight_on f vs (leases_after next xs)) (sym (joined us x xs))
      ∙ recoveries-flown f (us ++ recovery_job x ∷ []) next (begun a x.entry) x.job.core.id xs each.1 (length-taken x.list leases x.job.core.id ∙ fits)
      ∙ ap (λ (g : Flight). passing g (by_recoveries xs)) one

  -- the leases of a `Flight`, after one that begins
  after-one : (f : Flight) (leases : List (Option ℕ)) (a : AuditState) (last : ℕ) (x : Begins) → CanBegin count leases a last x → length leases ≡ count → f.leases ≡ leases_of leases
      → leased_to f.leases x.list x.job.core.id ≡ leases_of (taken leases x.list x.job.core.id)
  after-one f leases a last x can fits same = ap (λ (l : Leases). leased_to l x.list x.job.core.id) same ∙ job-leases count leases a last x can fits

  pub recoveries-may : (f : Flight) (leases : List (Option ℕ)) (a : AuditState) (last : ℕ) (xs : List Begins) → BeginInTurn count leases a last xs → length leases ≡ count → f.leases ≡ leases_of leases
      → AllMayPass f (by_recoveries xs)
  recoveries-may f leases a last [] each fits same = tt
  recoveries-may f leases a last (x ∷ xs) each fits same = (
    job-begins count leases a last x each.0 f.world f.jobs f.leases same,
    recoveries-may (passed f (Beginning x.list (core_of (recovery_job x)))) (taken leases x.list x.job.core.id) (begun a x.entry) x.job.core.id xs each.1
        (length-taken x.list leases x.job.core.id ∙ fits) (after-one f leases a last x each.0 fits same),
  )

  pub recoveries-held : (f : Flight) (us : List Unended) (leases : List (Option ℕ)) (a : AuditState) (last : ℕ) (xs : List Begins) → BeginInTurn count leases a last xs → length leases ≡ count
      → f.leases ≡ leases_of leases → All (λ x. NamesLogging f.world x.job.purpose) xs → HeldJobs f us → HeldJobs (passing f (by_recoveries xs)) (us ++ map recovery_job xs)
  recoveries-held f us leases a last [] each fits same logs held = subst (HeldJobs f) (sym (append-nil us)) held
  recoveries-held f us leases a last (x ∷ xs) each fits same logs held =
      let may = job-begins count leases a last x each.0 f.world f.jobs f.leases same in
      let next = passed f (Beginning x.list (core_of (recovery_job x))) in
      subst (HeldJobs (passing next (by_recoveries xs))) (joined us x xs)
      (recoveries-held next (us ++ recovery_job x ∷ []) (taken leases x.list x.job.core.id) (begun a x.entry) x.job.core.id xs each.1
      (length-taken x.list leases x.job.core.id ∙ fits) (after-one f leases a last x each.0 fits same) (rest-log f x xs logs)
      (begin-held f us x.list (recovery_job x) may (job-beside count leases a last x each.0 f.world f.leases (first-logs f x xs logs)) held))

  pub recoveries-sound : (f : Flight) (us : List Unended) (leases : List (Option ℕ)) (a : AuditState) (last : ℕ) (xs : List Begins) → BeginInTurn count leases a last xs → length leases ≡ count
      → f.leases ≡ leases_of leases → All (λ x. NamesLogging f.world x.job.purpose) xs → HeldJobs f us → SoundJobs f us → SoundJobs (passing f (by_recoveries xs)) (us ++ map recovery_job xs)
  recoveries-sound f us leases a last [] each fits same logs held sound = subst (SoundJobs f) (sym (append-nil us)) sound
  recoveries-sound f us leases a last (x ∷ xs) each fits same logs held sound =
      let may = job-begins count leases a last x each.0 f.world f.jobs f.leases same in
      let next = passed f (Beginning x.list (core_of (recovery_job x))) in
      subst (SoundJobs (passing next (by_recoveries xs))) (joined us x xs)
      (recoveries-sound next (us ++ recovery_job x ∷ []) (taken leases x.list x.job.core.id) (begun a x.entry) x.job.core.id xs each.1
      (length-taken x.list leases x.job.core.id ∙ fits) (after-one f leases a last x each.0 fits same) (rest-log f x xs logs)
      (begin-held f us x.list (recovery_job x) may (job-beside count leases a last x each.0 f.world f.leases (first-logs f x xs logs)) held)
      (begin-sound f us x.list (recovery_job x) may (job-sound count leases a last x each.0 f.world) held sound))

  pub recoveries-on-way : (f : Flight) (us : List Unended) (leases : List (Option ℕ)) (a : AuditState) (last : ℕ) (xs : List Begins) → BeginInTurn count leases a last xs → length leases ≡ count
      → f.leases ≡ leases_of leases → AllOnWay f us → AllOnWay (passing f (by_recoveries xs)) (us ++ map recovery_job xs)
  recoveries-on-way f us leases a last [] each fits same way = subst (AllOnWay f) (sym (append-nil us)) way
  recoveries-on-way f us leases a last (x ∷ xs) each fits same way =
      let may = job-begins count leases a last x each.0 f.world f.jobs f.leases same in
      let next = passed f (Beginning x.list (core_of (recovery_job x))) in
      subst (AllOnWay (passing next (by_recoveries xs))) (joined us x xs)
      (recoveries-on-way next (us ++ recovery_job x ∷ []) (taken leases x.list x.job.core.id) (begun a x.entry) x.job.core.id xs each.1
      (length-taken x.list leases x.job.core.id ∙ fits) (after-one f leases a last x each.0 fits same) (begun-on-way f us x.list (recovery_job x) may tt way))
