-- What a command comes to: a refusal, lines, or one of five things that it does, each with its facts.
use Rattle.std.proofs.Common.{◌≡◌, ℕ, ◌+◌, ◌<◌, ◌≤◌, true, length, refl, ap, subst, Option, Some, None, Result, Ok, Err, List}
use Rattle.orch_core.proofs.Prelude.{Asks, Begins as RecoveryBegins, CanBegin, Command, CommandTurn, Decides, Decision, Discovers, Forgets, IsBook}
use Rattle.orch_core.proofs.Prelude.{Line, Outcome, Planner, Recovers, Refusal, Route, ServerNo, State, Status as Seen, TakesOver, UnknownInstance}
use Rattle.orch_core.proofs.Prelude.{Unreachable, allowed, asked, by_hand, command_outcome, decided, decided_of, discovered, forgotten, is_within}
use Rattle.orch_core.proofs.Prelude.{job_by, label_at, leases_by, lines_of, longest_block, ltb-true, next_reading, numbers_of, outcome_by, outcome_of}
use Rattle.orch_core.proofs.Prelude.{period_by, permitted, question, recovered, recovery-begins, recovery_begins, recovery_begun, recovery_refusal}
use Rattle.orch_core.proofs.Prelude.{refusal, refusal_by, removal_refusal, route_of, taken_over, takeover-begins, takeover_begins, takeover_refusal}
use Rattle.orch_core.proofs.Prelude.{only_lines, told-can, told_try, unless_refused, with_told}
use Rattle.orch_core.proofs.Prelude.Outcomes.{about as given_or, begun}
use Rattle.orch_core.proofs.Prelude.TheVariants.{Begins}

-- a recovery that the command asks for and nothing refuses: of a server, or a server takes a master's place
pub data IsAskedFor (s : State) (c : Command) : RecoveryBegins → Type 0 where
  Fails : (i : ServerNo) → route_of c.name ≡ Recovers → c.i ≡ Some i → recovery_refusal s.world s.book s.audit (by_hand s.book s.configuration (numbers_of s) i) i ≡ None
      → IsAskedFor s c (recovery_begins s.book s.audit (record { 0 = s.moment }) (period_by s.configuration (label_at s.book i)) s.configuration.wait (s.last_job + 1) i)
  Passes : (i d : ServerNo) → route_of c.name ≡ TakesOver → c.i ≡ Some i → c.d ≡ Some d → takeover_refusal s.world s.book s.audit (by_hand s.book s.configuration (numbers_of s) i) i d ≡ None
      → IsAskedFor s c (takeover_begins s.book s.audit (record { 0 = s.moment }) (period_by s.configuration (label_at s.book i)) s.configuration.wait (s.last_job + 1) i d)

pub data Comes (s : State) (c : CommandTurn) : Outcome → Type 0 where
  Refused : (r : Refusal) → Comes s c (refusal s.reads r)
  Told : (lines : List Line) → Comes s c (only_lines s.reads lines)
  Discovered : (i : ServerNo) (seen : Seen) → c.command.i ≡ Some i → (next_reading s.world (numbers_of s) i).seen ≡ Some seen
      → Comes s c (discovered s.book s.reads (next_reading s.world (numbers_of s) i) (Some seen))
  Forgotten : (i : ServerNo) → c.command.i ≡ Some i → Comes s c (forgotten s.reads (Ok tt) i)
  Decided : (d : Decision) → route_of c.command.name ≡ Decides d → permitted s.book c.command ≡ Ok tt
      → Comes s c (decided s.reads s.audit (Ok tt) (decided_of s.book s.audit (record { 0 = s.moment }) c.keys c.command.i d))
  Begun : (p : Planner) → route_of c.command.name ≡ Begins p → refusal_by s.world s.book (record { 0 = s.moment }) s.configuration.every c.command p ≡ None
      → Comes s c (begun (numbers_of s) None (leases_by s.world s.book c.command p) (job_by s.world s.book c.command p (s.last_job + 1) s.configuration.wait s.configuration.every))
  Recovered : (x : RecoveryBegins) → IsAskedFor s c.command x → Comes s c (recovery_begun (numbers_of s) (Ok (with_told s.configuration s.book x)))

module _ (s : State) (c : CommandTurn) where
  by-asked : (p : Result Unit Refusal) (lines : List Line) → Comes s c (asked s.reads p lines)
  by-asked (Ok permit) lines = Told lines
  by-asked (Err r) lines = Refused r

  by-discovered : (i : ServerNo) → c.command.i ≡ Some i → (x : Option Seen) → (next_reading s.world (numbers_of s) i).seen ≡ x
      → Comes s c (discovered s.book s.reads (next_reading s.world (numbers_of s) i) x)
  by-discovered i at None there = Refused (Unreachable i)
  by-discovered i at (Some seen) there = Discovered i seen at there

  by-forgotten : (p : Result Unit Refusal) (i : ServerNo) → c.command.i ≡ Some i → Comes s c (forgotten s.reads p i)
  by-forgotten (Ok permit) i at = Forgotten i at
  by-forgotten (Err r) i at = Refused r

  by-decided : (p : Result Unit Refusal) (d : Decision) → route_of c.command.name ≡ Decides d → permitted s.book c.command ≡ p
      → Comes s c (decided s.reads s.audit p (decided_of s.book s.audit (record { 0 = s.moment }) c.keys c.command.i d))
  by-decided (Ok permit) d at may = Decided d at may
  by-decided (Err r) d at may = Refused r

  by-job : (p : Planner) (r : Option Refusal) → route_of c.command.name ≡ Begins p → refusal_by s.world s.book (record { 0 = s.moment }) s.configuration.every c.command p ≡ r
      → Comes s c (begun (numbers_of s) r (leases_by s.world s.book c.command p) (job_by s.world s.book c.command p (s.last_job + 1) s.configuration.wait s.configuration.every))
  by-job p None at free = Begun p at free
  by-job p (Some r) at free = Refused r

  by-try : (r : Option Refusal) (x : RecoveryBegins) → (r ≡ None → IsAskedFor s c.command x) → Comes s c (recovery_begun (numbers_of s) (told_try s.configuration s.book (unless_refused r x)))
  by-try None x is = Recovered x (is refl)
  by-try (Some r) x is = Refused r

  by-recovery : route_of c.command.name ≡ Recovers → (i : ServerNo) → c.command.i ≡ Some i → Comes s c (recovered s.world s.book s.audit s.configuration (numbers_of s) i)
  by-recovery route i at =
      by-try (recovery_refusal s.world s.book s.audit (by_hand s.book s.configuration (numbers_of s) i) i)
      (recovery_begins s.book s.audit (record { 0 = s.moment }) (period_by s.configuration (label_at s.book i)) s.configuration.wait (s.last_job + 1) i) (Fails i route at)

  by-takeover : route_of c.command.name ≡ TakesOver → (i : ServerNo) → c.command.i ≡ Some i → (d : Option ServerNo) → c.command.d ≡ d → Comes s c (taken_over s.world s.book s.audit s.configuration (numbers_of s) d i)
  by-takeover route i at None there = Refused UnknownInstance
  by-takeover route i at (Some d) there =
      by-try (takeover_refusal s.world s.book s.audit (by_hand s.book s.configuration (numbers_of s) i) i d)
      (takeover_begins s.book s.audit (record { 0 = s.moment }) (period_by s.configuration (label_at s.book i)) s.configuration.wait (s.last_job + 1) i d) (Passes i d route at there)

  by-given : (none : Outcome) (some : ServerNo → Outcome) → Comes s c none → ((i : ServerNo) → c.command.i ≡ Some i → Comes s c (some i)) → (i : Option ServerNo) → c.command.i ≡ i → Comes s c (given_or none some i)
  by-given none some here each None at = here
  by-given none some here each (Some i) at = each i at

  by-question : Comes s c (question s.book s.audit s.reads c)
  by-question = by-asked (permitted s.book c.command) (lines_of s.book s.audit.recoveries c c.command.name)

  by-route : (r : Route) → route_of c.command.name ≡ r → Comes s c (outcome_by s.world s.book s.audit s.configuration (numbers_of s) c r)
  by-route Discovers at =
      by-given (question s.book s.audit s.reads c) (λ i. discovered s.book s.reads (next_reading s.world (numbers_of s) i) (next_reading s.world (numbers_of s) i).seen) by-question
      (λ i given. by-discovered i given (next_reading s.world (numbers_of s) i).seen refl) c.command.i refl
  by-route Forgets at = by-given (question s.book s.audit s.reads c) (forgotten s.reads (allowed (removal_refusal s.book c.command))) by-question (by-forgotten (allowed (removal_refusal s.book c.command))) c.command.i refl
  by-route (Asks q) at = by-question
  by-route (Decides d) at = by-decided (permitted s.book c.command) d at refl
  by-route (Begins p) at = by-job p (refusal_by s.world s.book (record { 0 = s.moment }) s.configuration.every c.command p) at refl
  by-route Recovers at = by-given (refusal s.reads UnknownInstance) (recovered s.world s.book s.audit s.configuration (numbers_of s)) (Refused UnknownInstance) (by-recovery at) c.command.i refl
  by-route TakesOver at =
      by-given (refusal s.reads UnknownInstance) (taken_over s.world s.book s.audit s.configuration (numbers_of s) c.command.d) (Refused UnknownInstance)
      (λ i given. by-takeover at i given c.command.d refl) c.command.i refl

  pub command-comes : Comes s c (command_outcome s c)
  unfolding outcome_of
  command-comes = by-route (route_of c.command.name) refl

-- a server that is given is of the book
pub given-there : (count : ℕ) (o : Option ServerNo) (i : ServerNo) → o ≡ Some i → is_within count o ≡ true → i.0 < count
given-there count o i at within = ltb-true i.0 count (subst (λ (x : Option ServerNo). is_within count x ≡ true) at within)

-- what is asked for can begin
module _ (s : State) (c : Command) (is : IsBook s.book) (short : (i : ServerNo) → period_by s.configuration (label_at s.book i) ≤ longest_block)
    (i_there : is_within (length s.book.names) c.i ≡ true) (d_there : is_within (length s.book.names) c.d ≡ true) where
  pub asked-can : (x : RecoveryBegins) → IsAskedFor s c x → CanBegin (length s.book.names) s.book.leases s.audit s.last_job (with_told s.configuration s.book x)
  asked-can x (Fails i route at free) =
      told-can s.configuration s.book (length s.book.names) s.book.leases s.audit s.last_job x
      (recovery-begins s.world s.book s.audit (by_hand s.book s.configuration (numbers_of s) i) s.configuration.wait s.last_job is (short i) i x
      (given-there (length s.book.names) c.i i at i_there) (ap (λ (o : Option Refusal). unless_refused o x) free))
  asked-can x (Passes i d route at there free) =
      told-can s.configuration s.book (length s.book.names) s.book.leases s.audit s.last_job x
      (takeover-begins s.world s.book s.audit (by_hand s.book s.configuration (numbers_of s) i) s.configuration.wait s.last_job is (short i) i d x
      (given-there (length s.book.names) c.i i at i_there) (given-there (length s.book.names) c.d d there d_there) (ap (λ (o : Option Refusal). unless_refused o x) free))

-- it begins now, with the audit's next id, and its block period isn't too long
pub asked-now : (s : State) (c : Command) (x : RecoveryBegins) → IsAskedFor s c x → x.entry.begun ≡ record { 0 = s.moment }
asked-now s c x (Fails i route at free) = refl
asked-now s c x (Passes i d route at there free) = refl

pub asked-next : (s : State) (c : Command) (x : RecoveryBegins) → IsAskedFor s c x → x.entry.id ≡ s.audit.next
asked-next s c x (Fails i route at free) = refl
asked-next s c x (Passes i d route at there free) = refl

pub asked-short : (s : State) (c : Command) → ((i : ServerNo) → period_by s.configuration (label_at s.book i) ≤ longest_block) → (x : RecoveryBegins) → IsAskedFor s c x → x.entry.block ≤ longest_block
asked-short s c short x (Fails i route at free) = short i
asked-short s c short x (Passes i d route at there free) = short i
