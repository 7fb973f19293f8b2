-- What a command makes of the audit.
use Rattle.std.proofs.Common.{◌≡◌, ℕ, ◌+◌, List, [], refl, inl, inr, Option, Some, None, Result, Ok, Err, subst, sym, ◌∷◌, ◌⊎◌}
use Rattle.run_laws.proofs.Prelude.{Asks, AuditState, Begins as RecoveryBegins, Comes, CommandTurn, Decided, Decides, Discovers, Forgets, IsAskedFor}
use Rattle.run_laws.proofs.Prelude.{Knowledge, Line, Observation, Outcome, Recovers, Refusal, Route, ServerNo, State, Status as Seen, TakesOver}
use Rattle.run_laws.proofs.Prelude.{Unended, UnknownInstance, Update, about as given_or, acknowledged, allowed, asked, audit_after, by_hand}
use Rattle.run_laws.proofs.Prelude.{command-comes, command_outcome, decided, decided_of, discovered, forgotten, job_by, known_of, leases_by, lines_of}
use Rattle.run_laws.proofs.Prelude.{numbers_of, outcome_by, outcome_of, permitted, question, reading, recovered, recoveries_begun, recoveries_by}
use Rattle.run_laws.proofs.Prelude.{recoveries_of, recovery_begun, recovery_try, refusal, refusal_by, removal_refusal, route_of, taken_over}
use Rattle.run_laws.proofs.Prelude.{takeover_try, takeovers_of, told_try, tried, updated, with_told}
use Rattle.run_laws.proofs.Prelude.Outcomes.{begun as job_begun}
use Rattle.run_laws.proofs.Prelude.route.{Begins}
use Rattle.run_laws.proofs.Prelude.act
use Rattle.run_laws.proofs.Prelude.effect
use Rattle.run_laws.proofs.Prelude.turn
use Rattle.run_laws.proofs.Prelude.update
use Rattle.run_laws.proofs.Prelude.comes

-- what a command makes of an audit: a cluster's recoveries are acknowledged, or these begin
abbrev pub Becomes : AuditState → List RecoveryBegins → AuditState → Type 0
Becomes a xs now = ((cluster : List ℕ) × (now ≡ acknowledged a cluster) × (xs ≡ [])) ⊎ (now ≡ audit_after a xs)

-- the recoveries that an update begins
abbrev pub begun_in : Update → List RecoveryBegins
begun_in (update.Recovers xs) = xs
begun_in _ = []

update-becomes : (k : Knowledge) (u : Update) → Becomes k.audit (begun_in u) (updated k u).audit
update-becomes k (update.Decides (effect.Acks cluster)) = inl (cluster, refl, refl)
update-becomes k _ = inr refl

module _ (s : State) (c : CommandTurn) where
  -- those of a command are those that it asks for
  abbrev Begun : List RecoveryBegins → Outcome → Type 0
  Begun xs o = xs ≡ begun_in o.book

  by-asked : (p : Result Unit Refusal) (lines : List Line) → Begun [] (asked s.reads p lines)
  by-asked (Ok permit) lines = refl
  by-asked (Err r) lines = refl

  by-discovered : (o : Observation) (x : Option Seen) → Begun [] (discovered s.book s.reads o x)
  by-discovered o None = refl
  by-discovered o (Some seen) = refl

  by-forgotten : (p : Result Unit Refusal) (i : ServerNo) → Begun [] (forgotten s.reads p i)
  by-forgotten (Ok permit) i = refl
  by-forgotten (Err r) i = refl

  by-decided : (p : Result Unit Refusal) (d : Decided) → Begun [] (decided s.reads s.audit p d)
  by-decided (Ok permit) d = refl
  by-decided (Err r) d = refl

  by-job : (r : Option Refusal) (list : List ServerNo) (job : Unended) → Begun [] (job_begun (numbers_of s) r list job)
  by-job None list job = refl
  by-job (Some r) list job = refl

  by-try : (r : Result RecoveryBegins Refusal) → Begun (tried r) (recovery_begun (numbers_of s) r)
  by-try (Ok x) = refl
  by-try (Err why) = refl

  by-recovery : (i : Option ServerNo) → Begun (recoveries_of s i) (given_or (refusal s.reads UnknownInstance) (recovered s.world s.book s.audit s.configuration (numbers_of s)) i)
  by-recovery None = refl
  by-recovery (Some i) = by-try (told_try s.configuration s.book (recovery_try s.world s.book s.audit (by_hand s.book s.configuration (numbers_of s) i) s.configuration.wait (s.last_job + 1) i))

  by-takeover : (i d : Option ServerNo) → Begun (takeovers_of s i d) (given_or (refusal s.reads UnknownInstance) (taken_over s.world s.book s.audit s.configuration (numbers_of s) d) i)
  by-takeover None d = refl
  by-takeover (Some i) None = refl
  by-takeover (Some i) (Some d) = by-try (told_try s.configuration s.book (takeover_try s.world s.book s.audit (by_hand s.book s.configuration (numbers_of s) i) s.configuration.wait (s.last_job + 1) i d))

  by-given : (some : ServerNo → Outcome) → ((i : ServerNo) → Begun [] (some i)) → (i : Option ServerNo) → Begun [] (given_or (question s.book s.audit s.reads c) some i)
  by-given some each None = by-asked (permitted s.book c.command) (lines_of s.book s.audit.recoveries c c.command.name)
  by-given some each (Some i) = each i

  by-route : (r : Route) → Begun (recoveries_by s c.command r) (outcome_by s.world s.book s.audit s.configuration (numbers_of s) c r)
  by-route Discovers = by-given (λ i. discovered s.book s.reads (reading s i) (reading s i).seen) (λ i. by-discovered (reading s i) (reading s i).seen) c.command.i
  by-route Forgets = by-given (forgotten s.reads (allowed (removal_refusal s.book c.command))) (by-forgotten (allowed (removal_refusal s.book c.command))) c.command.i
  by-route (Asks q) = by-asked (permitted s.book c.command) (lines_of s.book s.audit.recoveries c c.command.name)
  by-route (Decides d) = by-decided (permitted s.book c.command) (decided_of s.book s.audit (record { 0 = s.moment }) c.keys c.command.i d)
  by-route (Begins p) =
      by-job (refusal_by s.world s.book (record { 0 = s.moment }) s.configuration.every c.command p) (leases_by s.world s.book c.command p)
      (job_by s.world s.book c.command p (s.last_job + 1) s.configuration.wait s.configuration.every)
  by-route Recovers = by-recovery c.command.i
  by-route TakesOver = by-takeover c.command.i c.command.d

  pub command-begun : Begun (recoveries_begun s (turn.Act (act.Command c))) (command_outcome s c)
  unfolding outcome_of
  command-begun = by-route (route_of c.command.name)

  pub command-becomes : Becomes s.audit (recoveries_begun s (turn.Act (act.Command c))) (updated (known_of s) (command_outcome s c).book).audit
  command-becomes = subst (λ (xs : List RecoveryBegins). Becomes s.audit xs (updated (known_of s) (command_outcome s c).book).audit) (sym command-begun) (update-becomes (known_of s) (command_outcome s c).book)

-- it begins nothing, or what it asks for
module _ (s : State) (c : CommandTurn) (P : List RecoveryBegins → Type 0) (none : P []) (one : (x : RecoveryBegins) → IsAskedFor s c.command x → P (with_told s.configuration s.book x ∷ [])) where
  by-outcome : (o : Outcome) → Comes s c o → P (begun_in o.book)
  by-outcome o (comes.Recovered x asked) = one x asked
  by-outcome o _ = none

  pub command-begins : P (recoveries_begun s (turn.Act (act.Command c)))
  command-begins = subst P (sym (command-begun s c)) (by-outcome (command_outcome s c) (command-comes s c))
