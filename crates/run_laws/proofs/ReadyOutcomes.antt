-- What a command or a scan makes of a book leaves it one, of the same servers, and each job is of them.
use Rattle.std.proofs.Common.{◌≡◌, ◌∙◌, ℕ, ◌+◌, ◌<◌, ◌≤◌, true, List, [], ◌∷◌, ◌++◌, length, map, sym, subst, Some, All, ◌&&◌}
use Rattle.run_laws.proofs.Prelude.{All-append, All-push, AreShort, BeginInTurn, Begins as RecoveryBegins, CanBegin, Comes, CommandTurn, Decision}
use Rattle.run_laws.proofs.Prelude.{Effect, IsAskedFor, IsBook, IsCommand, IsEffectFor, IsReady, Outcome, Ready, ServerNo, State, are_known, asked}
use Rattle.run_laws.proofs.Prelude.{asked-can, attempt_of, book_decided, both_true, change_is, command-comes, command_outcome, decided-effect}
use Rattle.run_laws.proofs.Prelude.{decided_of, given-there, has_needed, is_within, job-ready, job_by, known_of, label_at, leases_by, leases_set}
use Rattle.run_laws.proofs.Prelude.{longest_block, moment_at, next_count, number_of, numbers_of, observed_servers, one_known, period_by, reading}
use Rattle.run_laws.proofs.Prelude.{reading_known, recovery_job, removal, scan-in-turn, scan_outcome, scanned, taken, terms_of, told-in-turn, updated}
use Rattle.run_laws.proofs.Prelude.{with_told}
use Rattle.run_laws.proofs.Prelude.effect
use Rattle.run_laws.proofs.Prelude.comes
use Rattle.run_laws.proofs.Periods.{short-by}
use Rattle.run_laws.proofs.BegunInTurn.{IsBook-after, all-ready, length-taken}
use Rattle.run_laws.proofs.Ready.{IsBook-discovered}

-- what an outcome makes of the book stays one, and each job is of its servers
pub record Keeps (s : State) (o : Outcome) : Type 0 where
  pub book : IsBook (updated (known_of s) o.book).book
  pub jobs : All (IsReady (length s.book.names)) (updated (known_of s) o.book).jobs

module _ (s : State) (is : IsBook s.book) (periods : AreShort s.configuration) (jobs : All (IsReady (length s.book.names)) s.jobs) where
  abbrev count : ℕ
  count = length s.book.names

  -- the block period of a server's recovery isn't too long
  short : (n : ServerNo) → period_by s.configuration (label_at s.book n) ≤ longest_block
  short n = short-by s.configuration periods (label_at s.book n)

  -- recoveries begin
  all-named : (xs : List RecoveryBegins) → BeginInTurn count s.book.leases s.audit s.last_job xs → All (IsReady count) (s.jobs ++ map recovery_job xs)
  all-named xs each = All-append (IsReady count) s.jobs (map recovery_job xs) jobs (all-ready count s.book.leases s.audit s.last_job xs each)

  pub Keeps-scan : Keeps s (scan_outcome s)
  Keeps-scan =
      let attempt = attempt_of s.configuration.master s.configuration.intermediate (period_by s.configuration) s.book (terms_of s.book (numbers_of s)) in
      let tried = (scanned s.world s.book s.audit attempt s.configuration.wait s.last_job).begun in
      let xs = map (with_told s.configuration s.book) tried in
      let each = told-in-turn s.configuration s.book count s.book.leases s.audit s.last_job tried (scan-in-turn s.world s.book attempt s.configuration.wait s.audit s.last_job is short) in
      record { book = IsBook-after s.book xs is; jobs = all-named xs each }

  -- a decision
  decided-book : (e : Effect) → IsEffectFor count e → IsBook (book_decided s.book e)
  decided-book (effect.Change c) fit = change_is s.book c is fit.0
  decided-book _ fit = is

  -- any command
  pub Keeps-comes : (t : CommandTurn) → is_within count t.command.i ≡ true → is_within count t.command.d ≡ true → ((i : ServerNo) → i.0 < count → are_known count (observed_servers (reading s i)) ≡ true)
      → (o : Outcome) → Comes s t o → Keeps s o
  Keeps-comes t i_there d_there reads o (comes.Discovered i seen at there) = record { book = IsBook-discovered s.book (reading s i) is (reads i (given-there count t.command.i i at i_there)); jobs = jobs }
  Keeps-comes t i_there d_there reads o (comes.Forgotten i at) = record { book = change_is s.book (removal i) is (one_known count i.0 (given-there count t.command.i i at i_there)); jobs = jobs }
  Keeps-comes t i_there d_there reads o (comes.Decided d at may) =
      let e = (decided_of s.book s.audit (record { 0 = s.moment }) t.keys t.command.i d).effect in
      record { book = decided-book e (decided-effect s.book count is.small s.audit (record { 0 = s.moment }) t.keys t.command.i d i_there); jobs = jobs }
  Keeps-comes t i_there d_there reads o (comes.Begun p at free) =
      let list = leases_by s.world s.book t.command p in
      let job = job_by s.world s.book t.command p (s.last_job + 1) s.configuration.wait s.configuration.every in
      record {
        book = leases_set s.book (taken s.book.leases list (number_of job)) is (length-taken list s.book.leases (number_of job));
        jobs = All-push (IsReady count) s.jobs job jobs (job-ready s.world s.book t.command is i_there d_there p (s.last_job + 1) s.configuration.wait s.configuration.every);
      }
  Keeps-comes t i_there d_there reads o (comes.Recovered x asked) =
      let y = with_told s.configuration s.book x in
      record { book = IsBook-after s.book (y ∷ []) is; jobs = all-named (y ∷ []) (asked-can s t.command is short i_there d_there x asked, tt) }
  Keeps-comes t i_there d_there reads o _ = record { book = is; jobs = jobs }

pub within-both : (count : ℕ) (c : CommandTurn) → IsCommand count c → (is_within count c.command.i ≡ true) × (is_within count c.command.d ≡ true)
within-both count c command =
    let both = both_true (has_needed c && is_within count c.command.i) (is_within count c.command.d) command.fits in
    ((both_true (has_needed c) (is_within count c.command.i) both.0).1, both.1)

-- ---- of a state in which all speaks of its servers

module _ (count : ℕ) (s : State) (ready : Ready count s) where
  -- its jobs are of the servers of its book
  pub named-jobs : All (IsReady (length s.book.names)) s.jobs
  named-jobs = subst (λ (n : ℕ). All (IsReady n) s.jobs) (sym ready.names) ready.jobs

  -- and so are the servers of a command
  pub within-book : (c : CommandTurn) → IsCommand count c → (is_within (length s.book.names) c.command.i ≡ true) × (is_within (length s.book.names) c.command.d ≡ true)
  within-book c command = subst (λ (n : ℕ). (is_within n c.command.i ≡ true) × (is_within n c.command.d ≡ true)) (sym ready.names) (within-both count c command)

  -- and those that a reading has
  pub reads-known : (i : ServerNo) → i.0 < length s.book.names → are_known (length s.book.names) (observed_servers (reading s i)) ≡ true
  reads-known i here =
      let same : length s.world.servers ≡ length s.book.names = ready.servers ∙ sym ready.names in
      subst (λ (n : ℕ). are_known n (observed_servers (reading s i)) ≡ true) same
      (reading_known s.world i (next_count s.reads) s.moment ready.sources (subst (λ (n : ℕ). i.0 < n) (sym same) here))

  -- a server that is given is one of them
  pub given-in : (c : CommandTurn) → IsCommand count c → (i : ServerNo) → c.command.i ≡ Some i → i.0 < length s.book.names
  given-in c command i at = given-there (length s.book.names) c.command.i i at (within-book c command).0

  -- what is decided about it fits the book
  pub decided-fits : (c : CommandTurn) → IsCommand count c → (d : Decision) → IsEffectFor (length s.book.names) (decided_of s.book s.audit (moment_at s) c.keys c.command.i d).effect
  decided-fits c command d = decided-effect s.book (length s.book.names) ready.book.small s.audit (moment_at s) c.keys c.command.i d (within-book c command).0

  -- and the block period of its recovery isn't too long
  pub short-periods : (i : ServerNo) → period_by s.configuration (label_at s.book i) ≤ longest_block
  short-periods i = short-by s.configuration ready.periods (label_at s.book i)

  -- a recovery that is asked for can begin
  pub asked-begins : (c : CommandTurn) → IsCommand count c → (x : RecoveryBegins) → IsAskedFor s c.command x
      → CanBegin (length s.book.names) s.book.leases s.audit s.last_job (with_told s.configuration s.book x)
  asked-begins c command x asked = let within = within-book c command in asked-can s c.command ready.book short-periods within.0 within.1 x asked

  pub command-keeps : (c : CommandTurn) → IsCommand count c → Keeps s (command_outcome s c)
  command-keeps c command =
      let within = within-book c command in
      Keeps-comes s ready.book ready.periods named-jobs c within.0 within.1 reads-known (command_outcome s c) (command-comes s c)

  pub scan-keeps : Keeps s (scan_outcome s)
  scan-keeps = Keeps-scan s ready.book ready.periods named-jobs
