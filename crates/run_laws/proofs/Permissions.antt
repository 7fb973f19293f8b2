-- Commands answer by the permission table, and a refused one changes nothing.
use Rattle.std.proofs.Common.{◌≡◌, ◌∙◌, ℕ, ◌+◌, Bool, List, [], ◌∷◌, ◌++◌, refl, sym, ap, subst, Option, Some, None, is_some, if◌then◌else◌}
use Rattle.run_laws.proofs.Prelude.{Asks, AuditState, Begins as RecoveryBegins, BegunJob, BookState, Comes, CommandName, CommandTurn, Decided}
use Rattle.run_laws.proofs.Prelude.{Decides, Discovers, Forgets, IsBegun, IsDone, Line, Observation, Outcome, Planner, Recovers, Refusal, Reply}
use Rattle.run_laws.proofs.Prelude.{Route, Row, ServerNo, State, Status as Seen, TakesOver, Unended, UnknownInstance, Unreachable, about as given_or}
use Rattle.run_laws.proofs.Prelude.{allowed, asked, begun_by, begun_of, busy_given, by_hand, changes_of, command-comes, command_outcome, decided}
use Rattle.run_laws.proofs.Prelude.{decided_of, discovered, entry_kept, first_of, forgotten, is_known, job-number, job_by, known_of, label_at}
use Rattle.run_laws.proofs.Prelude.{leases_by, lines_of, next_reading, number_of, numbers_of, of_plan, of_try, outcome_by, outcome_of, period_by}
use Rattle.run_laws.proofs.Prelude.{recovered, recovering, recovery_begins, recovery_begun, recovery_refusal, recovery_refused, refusal, refusal_at}
use Rattle.run_laws.proofs.Prelude.{refusal_by as planned_refusal, reply_of, route_of, stays, step, taken, taken_over, takeover_begins}
use Rattle.run_laws.proofs.Prelude.{takeover_given, takeover_refusal, takeover_refused, taking_by, taking_over, told_try, unknown_of, unless_refused}
use Rattle.run_laws.proofs.Prelude.{unreached, updated, with_entry, with_known}
use Rattle.run_laws.proofs.Prelude.Outcomes.{begun}
use Rattle.run_laws.proofs.Prelude.RefusedCommands.{IsAnswer, refusal_by}
use Rattle.run_laws.proofs.Prelude.route.{Begins}
use Rattle.run_laws.proofs.Prelude.act
use Rattle.run_laws.proofs.Prelude.answered
use Rattle.run_laws.proofs.Prelude.line
use Rattle.run_laws.proofs.Prelude.name
use Rattle.run_laws.proofs.Prelude.turn
use Rattle.run_laws.proofs.Prelude.comes

-- refused exactly with the refusal that applies, else so
abbrev AnswersBy : (Reply → Type 0) → Option Refusal → Reply → Type 0
AnswersBy D None r = D r
AnswersBy D (Some refusal) r = r ≡ answered.Refused refusal

by-table : (route : Route) (o : Option Refusal) (r : Reply) → AnswersBy (λ x. IsDone route x) o r → IsAnswer route o r
by-table route None r h = h
by-table route (Some why) r h = h

abbrev IsTold : Reply → Type 0
IsTold r = (lines : List Line) × (r ≡ answered.Told lines)

abbrev IsJob : Reply → Type 0
IsJob r = (job : ℕ) × (r ≡ answered.Begun job)

-- an outcome answers so
abbrev Answered : (Reply → Type 0) → Option Refusal → Outcome → Type 0
Answered D r o = AnswersBy D r o.reply

-- only discover reads the server itself
route_discovers : (n : CommandName) → route_of n ≡ Discovers → n ≡ name.Discover
route_discovers name.Discover is = refl
route_discovers _ is = cc

-- and it takes any server
discover_takes : (n : CommandName) (i : ServerNo) (d : Option ServerNo) (i_known d_known : Bool) → route_of n ≡ Discovers → unknown_of (record { name = n; i = Some i; d = d }) i_known d_known ≡ None
discover_takes n i d i_known d_known is = subst (λ (m : CommandName). unknown_of (record { name = m; i = Some i; d = d }) i_known d_known ≡ None) (sym (route_discovers n is)) (takes d)
  where
    takes : (d : Option ServerNo) → unknown_of (record { name = name.Discover; i = Some i; d = d }) i_known d_known ≡ None
    takes None = refl
    takes (Some m) = refl

first_alone : (r : Option Refusal) → first_of r None ≡ r
first_alone None = refl
first_alone (Some r) = refl

asked_by : (reads : ℕ) (unknown : Option Refusal) (lines : List Line) → Answered IsTold unknown (asked reads (allowed unknown) lines)
asked_by reads None lines = (lines, refl)
asked_by reads (Some r) lines = refl

forgotten_by : (reads : ℕ) (refused : Option Refusal) (i : ServerNo) → Answered IsTold refused (forgotten reads (allowed refused) i)
forgotten_by reads None i = (line.Server i ∷ [], refl)
forgotten_by reads (Some r) i = refl

decided_by : (reads : ℕ) (a : AuditState) (unknown : Option Refusal) (d : Decided) → Answered IsTold unknown (decided reads a (allowed unknown) d)
decided_by reads a None d = (d.lines, refl)
decided_by reads a (Some r) d = refl

discovered_by : (b : BookState) (reads : ℕ) (o : Observation) (x : Option Seen) → Answered IsTold (if is_some x then None else Some (Unreachable o.no)) (discovered b reads o x)
discovered_by b reads o None = refl
discovered_by b reads o (Some seen) = (line.Server o.no ∷ [], refl)

-- a command that begins a job
begun_answers : (s : State) (r : Option Refusal) (list : List ServerNo) (job : Unended) → Answered IsJob r (begun (numbers_of s) r list job)
begun_answers s None list job = (s.last_job + 1, refl)
begun_answers s (Some r) list job = refl

try_answers : (s : State) (r : Option Refusal) (x : RecoveryBegins) → Answered IsJob r (recovery_begun (numbers_of s) (told_try s.configuration s.book (unless_refused r x)))
try_answers s None x = (s.last_job + 1, refl)
try_answers s (Some r) x = refl

module _ (s : State) (c : CommandTurn) where
  abbrev lines : List Line
  lines = lines_of s.book s.audit.recoveries c c.command.name

  -- what is unknown, by the instance that is given
  abbrev unknown : Option ServerNo → Option Refusal
  unknown i = unknown_of (record { name = c.command.name; i = i; d = c.command.d }) (is_known s.book i) (is_known s.book c.command.d)

  abbrev read_of : ServerNo → Observation
  read_of k = next_reading s.world (numbers_of s) k

  -- without an instance nothing is read or removed
  without : Answered IsTold (first_of (unknown None) None) (asked s.reads (allowed (unknown None)) lines)
  without = subst (λ (r : Option Refusal). Answered IsTold r (asked s.reads (allowed (unknown None)) lines)) (sym (first_alone (unknown None))) (asked_by s.reads (unknown None) lines)

  at_discovery : route_of c.command.name ≡ Discovers → (i : Option ServerNo)
      → Answered IsTold (first_of (unknown i) (unreached s.world i)) (given_or (asked s.reads (allowed (unknown i)) lines) (λ k. discovered s.book s.reads (read_of k) (read_of k).seen) i)
  at_discovery is None = without
  at_discovery is (Some k) =
      subst (λ (u : Option Refusal). Answered IsTold (first_of u (unreached s.world (Some k))) (discovered s.book s.reads (read_of k) (read_of k).seen))
      (sym (discover_takes c.command.name k c.command.d (is_known s.book (Some k)) (is_known s.book c.command.d) is)) (discovered_by s.book s.reads (read_of k) (read_of k).seen)

  at_removal : (i : Option ServerNo)
      → Answered IsTold (first_of (unknown i) (busy_given s.book i)) (given_or (asked s.reads (allowed (unknown i)) lines) (forgotten s.reads (allowed (first_of (unknown i) (busy_given s.book i)))) i)
  at_removal None = without
  at_removal (Some k) = forgotten_by s.reads (first_of (unknown (Some k)) (busy_given s.book (Some k))) k

  at_recovery : (i : Option ServerNo) → Answered IsJob (recovery_refused s.world s.book s.audit s.configuration (numbers_of s) i) (given_or (refusal s.reads UnknownInstance) (recovered s.world s.book s.audit s.configuration (numbers_of s)) i)
  at_recovery None = refl
  at_recovery (Some i) =
      try_answers s (recovery_refusal s.world s.book s.audit (by_hand s.book s.configuration (numbers_of s) i) i) (recovery_begins s.book s.audit (record { 0 = s.moment }) (period_by s.configuration (label_at s.book i)) s.configuration.wait (s.last_job + 1) i)

  at_taking : (i : ServerNo) (d : Option ServerNo) → Answered IsJob (takeover_given s.world s.book s.audit s.configuration (numbers_of s) i d) (taken_over s.world s.book s.audit s.configuration (numbers_of s) d i)
  at_taking i None = refl
  at_taking i (Some d) =
      try_answers s (takeover_refusal s.world s.book s.audit (by_hand s.book s.configuration (numbers_of s) i) i d) (takeover_begins s.book s.audit (record { 0 = s.moment }) (period_by s.configuration (label_at s.book i)) s.configuration.wait (s.last_job + 1) i d)

  at_takeover : (i d : Option ServerNo)
      → Answered IsJob (takeover_refused s.world s.book s.audit s.configuration (numbers_of s) i d) (given_or (refusal s.reads UnknownInstance) (taken_over s.world s.book s.audit s.configuration (numbers_of s) d) i)
  at_takeover None d = refl
  at_takeover (Some i) d = at_taking i d

  answers_by : (r : Route) → route_of c.command.name ≡ r
      → Answered (λ x. IsDone r x) (refusal_by s.world s.book s.audit s.configuration (numbers_of s) c.command r) (outcome_by s.world s.book s.audit s.configuration (numbers_of s) c r)
  answers_by Discovers is = at_discovery is c.command.i
  answers_by Forgets is = at_removal c.command.i
  answers_by (Asks q) is = asked_by s.reads (unknown c.command.i) lines
  answers_by (Decides d) is = decided_by s.reads s.audit (unknown c.command.i) (decided_of s.book s.audit (record { 0 = s.moment }) c.keys c.command.i d)
  answers_by (Begins p) is =
      begun_answers s (planned_refusal s.world s.book (record { 0 = s.moment }) s.configuration.every c.command p) (leases_by s.world s.book c.command p) (job_by s.world s.book c.command p (s.last_job + 1) s.configuration.wait s.configuration.every)
  answers_by Recovers is = at_recovery c.command.i
  answers_by TakesOver is = at_takeover c.command.i c.command.d

outcome_answers : (s : State) (c : CommandTurn) → Answered (λ x. IsDone (route_of c.command.name) x) (refusal_at s c.command) (command_outcome s c)
unfolding outcome_of
outcome_answers s c = answers_by s c (route_of c.command.name) refl

pub answers_by_table : (s : State) (c : CommandTurn) → IsAnswer (route_of c.command.name) (refusal_at s c.command) (reply_of s (turn.Act (act.Command c)))
answers_by_table s c = by-table (route_of c.command.name) (refusal_at s c.command) (reply_of s (turn.Act (act.Command c))) (outcome_answers s c)

-- a refused command changes nothing
refused_stays : (s : State) (c : CommandTurn) (o : Outcome) → Comes s c o → (r : Refusal) → o.reply ≡ answered.Refused r → (o.rows ≡ []) × (o.book ≡ stays) × (o.reads ≡ s.reads)
refused_stays s c o (comes.Refused why) r is = (refl, refl, refl)
refused_stays s c o _ r is = cc

pub refused_changes_nothing : (rows : List Row) (s : State) (c : CommandTurn) (r : Refusal) → reply_of s (turn.Act (act.Command c)) ≡ answered.Refused r
    → (changes_of rows s (turn.Act (act.Command c)) ≡ []) × (step rows s (turn.Act (act.Command c)) ≡ s)
refused_changes_nothing rows s c r is =
    let same = refused_stays s c (command_outcome s c) (command-comes s c) r is in
    let reads = (command_outcome s c).reads in (
      same.0,
      ap (λ u. with_known (record s { reads = reads }) (updated (known_of s) u)) same.1 ∙ ap (λ (n : ℕ). with_known (record s { reads = n }) (known_of s)) same.2,
    )

-- ---- what a job that is begun leaves

-- it has the next number, and joins the others with its leases, and its entry the audit
record LeavesJob (s : State) (x : BegunJob) (o : Outcome) : Type 0 where
  reply : o.reply ≡ answered.Begun (s.last_job + 1)
  number : number_of x.job ≡ s.last_job + 1
  jobs : (updated (known_of s) o.book).jobs ≡ s.jobs ++ x.job ∷ []
  last : (updated (known_of s) o.book).last_job ≡ s.last_job + 1
  leases : (updated (known_of s) o.book).book.leases ≡ taken s.book.leases x.list (s.last_job + 1)
  audit : (updated (known_of s) o.book).audit ≡ with_entry s.audit x.entry
  rows : o.rows ≡ entry_kept x.entry

-- if none begins, the outcome doesn't answer so
abbrev LeavesBegun : State → Option BegunJob → Outcome → Type 0
LeavesBegun s None o = (id : ℕ) → o.reply ≡ answered.Begun id → ⊥
LeavesBegun s (Some x) o = LeavesJob s x o

refusal_begins : (reads : ℕ) (r : Refusal) (id : ℕ) → (refusal reads r).reply ≡ answered.Begun id → ⊥
refusal_begins reads r id begun = cc

-- nor if it has lines
told_begins : (r : Option Refusal) (x : Reply) → AnswersBy IsTold r x → (id : ℕ) → x ≡ answered.Begun id → ⊥
told_begins None x answers id begun = let told : answered.Begun id ≡ answered.Told answers.0 = sym begun ∙ answers.1 in cc
told_begins (Some why) x answers id begun = let refused : answered.Begun id ≡ answered.Refused why = sym begun ∙ answers in cc

module _ (s : State) (c : CommandTurn) where
  plan_leaves : (p : Planner) (r : Option Refusal)
      → LeavesBegun s (of_plan r (leases_by s.world s.book c.command p) (job_by s.world s.book c.command p (s.last_job + 1) s.configuration.wait s.configuration.every))
      (begun (numbers_of s) r (leases_by s.world s.book c.command p) (job_by s.world s.book c.command p (s.last_job + 1) s.configuration.wait s.configuration.every))
  plan_leaves p None =
      let same = job-number s.world s.book c.command p (s.last_job + 1) s.configuration.wait s.configuration.every in
      record { reply = refl; number = same; jobs = refl; last = same; leases = ap (taken s.book.leases (leases_by s.world s.book c.command p)) same; audit = refl; rows = refl }
  plan_leaves p (Some why) = refusal_begins s.reads why

  try_leaves : (r : Option Refusal) (x : RecoveryBegins) → x.job.core.id ≡ s.last_job + 1 → LeavesBegun s (of_try (told_try s.configuration s.book (unless_refused r x))) (recovery_begun (numbers_of s) (told_try s.configuration s.book (unless_refused r x)))
  try_leaves None x same = record { reply = refl; number = same; jobs = refl; last = same; leases = ap (taken s.book.leases x.list) same; audit = refl; rows = refl }
  try_leaves (Some why) x same = refusal_begins s.reads why

  recovery_leaves : (i : Option ServerNo) → LeavesBegun s (recovering s i) (given_or (refusal s.reads UnknownInstance) (recovered s.world s.book s.audit s.configuration (numbers_of s)) i)
  recovery_leaves None = refusal_begins s.reads UnknownInstance
  recovery_leaves (Some i) =
      try_leaves (recovery_refusal s.world s.book s.audit (by_hand s.book s.configuration (numbers_of s) i) i) (recovery_begins s.book s.audit (record { 0 = s.moment }) (period_by s.configuration (label_at s.book i)) s.configuration.wait (s.last_job + 1) i) refl

  taking_leaves : (i : ServerNo) (d : Option ServerNo) → LeavesBegun s (taking_by s i d) (taken_over s.world s.book s.audit s.configuration (numbers_of s) d i)
  taking_leaves i None = refusal_begins s.reads UnknownInstance
  taking_leaves i (Some d) =
      try_leaves (takeover_refusal s.world s.book s.audit (by_hand s.book s.configuration (numbers_of s) i) i d) (takeover_begins s.book s.audit (record { 0 = s.moment }) (period_by s.configuration (label_at s.book i)) s.configuration.wait (s.last_job + 1) i d) refl

  takeover_leaves : (i d : Option ServerNo) → LeavesBegun s (taking_over s i d) (given_or (refusal s.reads UnknownInstance) (taken_over s.world s.book s.audit s.configuration (numbers_of s) d) i)
  takeover_leaves None d = refusal_begins s.reads UnknownInstance
  takeover_leaves (Some i) d = taking_leaves i d

  route_leaves : (r : Route) → route_of c.command.name ≡ r → LeavesBegun s (begun_by s c.command r) (outcome_by s.world s.book s.audit s.configuration (numbers_of s) c r)
  route_leaves (Begins p) is = plan_leaves p (planned_refusal s.world s.book (record { 0 = s.moment }) s.configuration.every c.command p)
  route_leaves Recovers is = recovery_leaves c.command.i
  route_leaves TakesOver is = takeover_leaves c.command.i c.command.d
  route_leaves x is = told_begins (refusal_by s.world s.book s.audit s.configuration (numbers_of s) c.command x) _ (answers_by s c x is)

  command_leaves : LeavesBegun s (begun_of s c.command) (command_outcome s c)
  unfolding outcome_of
  command_leaves = route_leaves (route_of c.command.name) refl

  -- a command that answers a number begins a job
  pub begun_there : (id : ℕ) → IsBegun s c id → (x : BegunJob) × (begun_of s c.command ≡ Some x)
  begun_there id begun = go (begun_of s c.command) command_leaves
    where
      go : (o : Option BegunJob) → LeavesBegun s o (command_outcome s c) → (x : BegunJob) × (o ≡ Some x)
      go None leaves = absurd (leaves id begun)
      go (Some x) leaves = (x, refl)

  -- with the next number
  pub begun_number : (id : ℕ) → IsBegun s c id → id ≡ s.last_job + 1
  begun_number id begun = go (begun_of s c.command) command_leaves
    where
      go : (o : Option BegunJob) → LeavesBegun s o (command_outcome s c) → id ≡ s.last_job + 1
      go None leaves = absurd (leaves id begun)
      go (Some x) leaves = let same : answered.Begun id ≡ answered.Begun (s.last_job + 1) = sym begun ∙ leaves.reply in cc

  module _ (x : BegunJob) (is : begun_of s c.command ≡ Some x) where
    leaves : LeavesJob s x (command_outcome s c)
    leaves = subst (λ (o : Option BegunJob). LeavesBegun s o (command_outcome s c)) is command_leaves

    pub begun_replies : IsBegun s c (s.last_job + 1)
    begun_replies = leaves.reply

    pub begun_numbered : number_of x.job ≡ s.last_job + 1
    begun_numbered = leaves.number

    pub begun_joins : (rows : List Row) → (step rows s (turn.Act (act.Command c))).jobs ≡ s.jobs ++ x.job ∷ []
    begun_joins rows = leaves.jobs

    pub begun_counts : (rows : List Row) → (step rows s (turn.Act (act.Command c))).last_job ≡ s.last_job + 1
    begun_counts rows = leaves.last

    pub begun_leased : (rows : List Row) → (step rows s (turn.Act (act.Command c))).book.leases ≡ taken s.book.leases x.list (s.last_job + 1)
    begun_leased rows = leaves.leases

    pub begun_logged : (rows : List Row) → (step rows s (turn.Act (act.Command c))).audit ≡ with_entry s.audit x.entry
    begun_logged rows = leaves.audit

    pub begun_kept : (rows : List Row) → changes_of rows s (turn.Act (act.Command c)) ≡ entry_kept x.entry
    begun_kept rows = leaves.rows
