-- What holds of whatever a command makes of what is known, and of the job that it begins.
use Rattle.std.proofs.Common.{ℕ, ◌+◌, [], ◌∷◌, ◌≡◌, refl, subst, None, Option, Some}
use Rattle.run_laws.proofs.Prelude.{Attempt, Begins as RecoveryBegins, BegunJob, Comes, Command, CommandTurn, Decision, IsAskedFor, Outcome, Planner}
use Rattle.run_laws.proofs.Prelude.{Recovers, Refusal, Route, ServerNo, State, TakesOver, Update, begun_by, begun_of, by_hand, command-comes}
use Rattle.run_laws.proofs.Prelude.{command_outcome, decided_of, job_by, label_at, leases_by, next_count, next_reading, numbers_of, of_plan, of_try, period_by}
use Rattle.run_laws.proofs.Prelude.{recovering, recovery_begins, recovery_job, recovery_refusal, refusal_by, removal, route_of, same_Some}
use Rattle.run_laws.proofs.Prelude.{takeover_begins, takeover_refusal, taking_over, told_try, unless_refused, with_told}
use Rattle.run_laws.proofs.Prelude.update
use Rattle.run_laws.proofs.Prelude.comes
use Rattle.run_laws.proofs.Prelude.route.{Begins}

-- with the count of readings that it leaves
module _ (s : State) (c : CommandTurn) (P : ℕ → Update → Type 0) where
  abbrev by_operator : ServerNo → Attempt
  by_operator i = by_hand s.book s.configuration (numbers_of s) i

  -- what may be made: nothing, a discovery, a removal of an instance, a decision, a plan or a regroup that begins, a
  -- recovery, and a takeover
  pub record HoldsOfAll : Type 0 where
    pub stays : P s.reads update.Stays
    pub discovery : (i : ServerNo) → P (next_count s.reads) (update.Discovery (next_reading s.world (numbers_of s) i))
    pub removal : (i : ServerNo) → P s.reads (update.Change (removal i))
    pub decides : (d : Decision) → P s.reads (update.Decides (decided_of s.book s.audit (record { 0 = s.moment }) c.keys c.command.i d).effect)
    pub begins : (p : Planner) → P s.reads (update.Begins (record { list = leases_by s.world s.book c.command p; job = job_by s.world s.book c.command p (s.last_job + 1) s.configuration.wait s.configuration.every }))
    pub recovers : (i : ServerNo)
        → P s.reads (update.Recovers (with_told s.configuration s.book (recovery_begins s.book s.audit (by_operator i).now (by_operator i).block s.configuration.wait (s.last_job + 1) i) ∷ []))
    pub takes : (i d : ServerNo)
        → P s.reads (update.Recovers (with_told s.configuration s.book (takeover_begins s.book s.audit (by_operator i).now (by_operator i).block s.configuration.wait (s.last_job + 1) i d) ∷ []))

  -- holds of what it makes
  pub command-holds : HoldsOfAll → P (command_outcome s c).reads (command_outcome s c).book
  command-holds all = by (command_outcome s c) (command-comes s c)
    where
      by : (o : Outcome) → Comes s c o → P o.reads o.book
      by o (comes.Discovered i seen at there) = all.discovery i
      by o (comes.Forgotten i at) = all.removal i
      by o (comes.Decided d at may) = all.decides d
      by o (comes.Begun p at free) = all.begins p
      by o (comes.Recovered x (comes.Fails i route at free)) = all.recovers i
      by o (comes.Recovered x (comes.Passes i d route at there free)) = all.takes i d
      by o _ = all.stays

-- ---- a job that a command begins: a plan or a regroup, or a recovery

pub data IsBegunBy (s : State) (c : Command) : BegunJob → Type 0 where
  Planned : (p : Planner) → route_of c.name ≡ Begins p
      → IsBegunBy s c (record { list = leases_by s.world s.book c p; job = job_by s.world s.book c p (s.last_job + 1) s.configuration.wait s.configuration.every; entry = None })
  Recovering : (x : RecoveryBegins) → IsAskedFor s c x
      → IsBegunBy s c (record { list = x.list; job = recovery_job (with_told s.configuration s.book x); entry = Some x.entry })

module _ (s : State) (c : Command) (x : BegunJob) where
  by-plan : (p : Planner) (r : Option Refusal) → route_of c.name ≡ Begins p
      → of_plan r (leases_by s.world s.book c p) (job_by s.world s.book c p (s.last_job + 1) s.configuration.wait s.configuration.every) ≡ Some x → IsBegunBy s c x
  by-plan p None route is = subst (IsBegunBy s c) (same_Some _ x is) (Planned p route)
  by-plan p (Some why) route is = cc

  by-try : (r : Option Refusal) (y : RecoveryBegins) → (r ≡ None → IsAskedFor s c y) → of_try (told_try s.configuration s.book (unless_refused r y)) ≡ Some x → IsBegunBy s c x
  by-try None y asked is = subst (IsBegunBy s c) (same_Some _ x is) (Recovering y (asked refl))
  by-try (Some why) y asked is = cc

  by-recovery : route_of c.name ≡ Recovers → (i : Option ServerNo) → c.i ≡ i → recovering s i ≡ Some x → IsBegunBy s c x
  by-recovery route None at is = cc
  by-recovery route (Some i) at is =
      by-try (recovery_refusal s.world s.book s.audit (by_hand s.book s.configuration (numbers_of s) i) i)
      (recovery_begins s.book s.audit (record { 0 = s.moment }) (period_by s.configuration (label_at s.book i)) s.configuration.wait (s.last_job + 1) i) (comes.Fails i route at) is

  by-takeover : route_of c.name ≡ TakesOver → (i d : Option ServerNo) → c.i ≡ i → c.d ≡ d → taking_over s i d ≡ Some x → IsBegunBy s c x
  by-takeover route None d at there is = cc
  by-takeover route (Some i) None at there is = cc
  by-takeover route (Some i) (Some d) at there is =
      by-try (takeover_refusal s.world s.book s.audit (by_hand s.book s.configuration (numbers_of s) i) i d)
      (takeover_begins s.book s.audit (record { 0 = s.moment }) (period_by s.configuration (label_at s.book i)) s.configuration.wait (s.last_job + 1) i d) (comes.Passes i d route at there) is

  by-route : (r : Route) → route_of c.name ≡ r → begun_by s c r ≡ Some x → IsBegunBy s c x
  by-route (Begins p) route is = by-plan p (refusal_by s.world s.book (record { 0 = s.moment }) s.configuration.every c p) route is
  by-route Recovers route is = by-recovery route c.i refl is
  by-route TakesOver route is = by-takeover route c.i c.d refl refl is
  by-route _ route is = cc

  pub job-begun : begun_of s c ≡ Some x → IsBegunBy s c x
  job-begun is = by-route (route_of c.name) refl is
