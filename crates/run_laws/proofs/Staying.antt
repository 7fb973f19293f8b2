-- An instance leaves the book by a command that forgets it, or by a restart.
use Rattle.std.proofs.Common.{◌≡◌, ◌∙◌, ◌==◌, ◌+◌, ℕ, Bool, true, false, nat_lt, if◌then◌else◌, List, Option, Some, None, Result, Ok, Err, refl, sym, ap, subst, get_or-set_other, get_or-set_same, slice_index_or, slice_set}
use Rattle.run_laws.proofs.Prelude.{Act, Asks, Begins as RecoveryBegins, BookState, CommandTurn, Decides, Discovers, Flown, Forgets, Instance}
use Rattle.run_laws.proofs.Prelude.{InstancesStay, IsForgotten, Observation, Outcome, Recovers, Refusal, Route, Row, ServerNo, State, Status}
use Rattle.run_laws.proofs.Prelude.{TakesOver, Turn, Unended, UnknownInstance, act_asks, act_in, added_over, after_act, after_change, after_discovery}
use Rattle.run_laws.proofs.Prelude.{after_done, allowed, asked, asks, book_decided, book_turned, busy_by, busy_given, by_hand, command_outcome}
use Rattle.run_laws.proofs.Prelude.{decided, decided_of, discovered, discovered_over, done_asks, eqb-false, eqb-true, first_of, first_seen, forgotten}
use Rattle.run_laws.proofs.Prelude.{given_or, instance_at, job_by, known_of, lease_at, leases_by, lines_of, next_reading, none-some, numbers_of}
use Rattle.run_laws.proofs.Prelude.{outcome_by, outcome_of, permitted, question, recovered, recovery_begun, recovery_try, refusal}
use Rattle.run_laws.proofs.Prelude.{refusal_by as planned_refusal, removal, removal_refusal, renewed, renewed_book, route_of, same-no, slot_at, step}
use Rattle.run_laws.proofs.Prelude.{stored, stored_over, taken_over, takeover_try, told_try, turned_at, unknown_in, updated}
use Rattle.run_laws.proofs.Prelude.Outcomes.{begun}
use Rattle.run_laws.proofs.Prelude.RefusedCommands.{refusal_by}
use Rattle.run_laws.proofs.Prelude.act
use Rattle.run_laws.proofs.Prelude.route.{Begins}
use Rattle.run_laws.proofs.Prelude.turn
use Rattle.run_laws.proofs.Readings.{decision-same, turned-instances}
use Rattle.run_laws.proofs.Ready.{place-within}

-- each instance that a book has and the next one lacks is such a one
abbrev Leaves : (ServerNo → Type 0) → BookState → BookState → Type 0
Leaves G b c = (n : ServerNo) (was : Instance) → instance_at b n ≡ Some was → instance_at c n ≡ None → G n

-- ---- a book

module _ (G : ServerNo → Type 0) (b : BookState) where
  same-leaves : (c : BookState) → c.instances ≡ b.instances → Leaves G b c
  same-leaves c same n was before after = absurd (none-some was (sym after ∙ (ap (λ (xs : List (Option Instance)). slice_index_or xs n.0 None) same ∙ before)))

  set-leaves : (c : BookState) (k : ServerNo) (x : Option Instance) → c.instances ≡ slice_set b.instances k.0 x → (x ≡ None → G k) → Leaves G b c
  set-leaves c k x same here n was before after = go (n.0 == k.0) refl
    where
      got : slice_index_or (slice_set b.instances k.0 x) n.0 None ≡ None
      got = sym (ap (λ (xs : List (Option Instance)). slice_index_or xs n.0 None) same) ∙ after

      go : (is : Bool) → (n.0 == k.0) ≡ is → G n
      go false other = absurd (none-some was (sym got ∙ (get_or-set_other b.instances k.0 n.0 x None (eqb-false n.0 k.0 other) ∙ before)))
      go true is =
          let place = eqb-true n.0 k.0 is in
          let had : slice_index_or b.instances k.0 None ≡ Some was = sym (ap (λ (m : ℕ). slice_index_or b.instances m None) place) ∙ before in
          let none : x ≡ None = sym (get_or-set_same b.instances k.0 x None (place-within b.instances k.0 was had)) ∙ (sym (ap (λ (m : ℕ). slice_index_or (slice_set b.instances k.0 x) m None) place) ∙ got) in
          subst G (sym (same-no n k place)) (here none)

  -- nobody leaves by a reading
  some-leaves : (k : ServerNo) (i : Instance) → Some i ≡ None → G k
  some-leaves k i e = absurd (none-some i (sym e))

  stored-leaves : (o : Observation) (x : Option Instance) → Leaves G b (stored_over b o x)
  stored-leaves o None = same-leaves b refl
  stored-leaves o (Some kept) = go (nat_lt o.read kept.read)
    where
      go : (old : Bool) → Leaves G b (if old then b else renewed_book b o (Some (renewed kept o)))
      go true = same-leaves b refl
      go false = set-leaves (renewed_book b o (Some (renewed kept o))) o.no (Some (renewed kept o)) refl (some-leaves o.no (renewed kept o))

  slot-leaves : (o : Option Observation) → Leaves G b (stored b o)
  slot-leaves None = same-leaves b refl
  slot-leaves (Some o) = stored-leaves o (instance_at b o.no)

  discovered-leaves : (o : Observation) → Leaves G b (after_discovery b o)
  discovered-leaves o = by (instance_at b o.no)
    where
      added : (x : Option Status) → Leaves G b (added_over b o x)
      added None = same-leaves b refl
      added (Some seen) = set-leaves (added_over b o (Some seen)) o.no (Some (first_seen o seen)) refl (some-leaves o.no (first_seen o seen))

      by : (x : Option Instance) → Leaves G b (discovered_over b o x)
      by None = added o.seen
      by (Some kept) = stored-leaves o (Some kept)

-- ---- a command

module _ (s : State) (c : CommandTurn) (G : ServerNo → Type 0) (forgets : (i : ServerNo) → route_of c.command.name ≡ Forgets → c.command.i ≡ Some i → removal_refusal s.book c.command ≡ None → G i) where
  abbrev Made : Outcome → Type 0
  Made o = Leaves G s.book (updated (known_of s) o.book).book

  made-same : Leaves G s.book s.book
  made-same = same-leaves G s.book s.book refl

  made-question : Made (question s.book s.audit s.reads c)
  made-question = go (permitted s.book c.command)
    where
      go : (p : Result Unit Refusal) → Made (asked s.reads p (lines_of s.book s.audit.recoveries c c.command.name))
      go (Ok permit) = made-same
      go (Err r) = made-same

  made-given : (none : Outcome) (some : ServerNo → Outcome) → Made none → ((i : ServerNo) → c.command.i ≡ Some i → Made (some i)) → (i : Option ServerNo) → c.command.i ≡ i → Made (given_or none some i)
  made-given none some here each None at = here
  made-given none some here each (Some i) at = each i at

  made-discovered : (o : Observation) (x : Option Status) → Made (discovered s.book s.reads o x)
  made-discovered o None = made-same
  made-discovered o (Some seen) = discovered-leaves G s.book o

  made-forgotten : route_of c.command.name ≡ Forgets → (i : ServerNo) → c.command.i ≡ Some i → (r : Option Refusal) → removal_refusal s.book c.command ≡ r → Made (forgotten s.reads (allowed r) i)
  made-forgotten route i given None may = set-leaves G s.book (after_change s.book (removal i)) i None refl (λ e. forgets i route given may)
  made-forgotten route i given (Some r) may = made-same

  made-begun : (r : Option Refusal) (list : List ServerNo) (job : Unended) → Made (begun (numbers_of s) r list job)
  made-begun None list job = same-leaves G s.book (updated (known_of s) (begun (numbers_of s) None list job).book).book refl
  made-begun (Some r) list job = made-same

  made-recovery : (x : Result RecoveryBegins Refusal) → Made (recovery_begun (numbers_of s) x)
  made-recovery (Ok x) = same-leaves G s.book (updated (known_of s) (recovery_begun (numbers_of s) (Ok x)).book).book refl
  made-recovery (Err r) = made-same

  made-taken : (i : ServerNo) (d : Option ServerNo) → Made (taken_over s.world s.book s.audit s.configuration (numbers_of s) d i)
  made-taken i None = made-same
  made-taken i (Some d) = made-recovery (told_try s.configuration s.book (takeover_try s.world s.book s.audit (by_hand s.book s.configuration (numbers_of s) i) s.configuration.wait (s.last_job + 1) i d))

  by-route : (r : Route) → route_of c.command.name ≡ r → Made (outcome_by s.world s.book s.audit s.configuration (numbers_of s) c r)
  by-route Discovers route =
      made-given (question s.book s.audit s.reads c) (λ i. discovered s.book s.reads (next_reading s.world (numbers_of s) i) (next_reading s.world (numbers_of s) i).seen) made-question
      (λ i given. made-discovered (next_reading s.world (numbers_of s) i) (next_reading s.world (numbers_of s) i).seen) c.command.i refl
  by-route Forgets route =
      made-given (question s.book s.audit s.reads c) (forgotten s.reads (allowed (removal_refusal s.book c.command))) made-question
      (λ i given. made-forgotten route i given (removal_refusal s.book c.command) refl) c.command.i refl
  by-route (Asks q) route = made-question
  by-route (Decides d) route = go (permitted s.book c.command)
    where
      go : (p : Result Unit Refusal) → Made (decided s.reads s.audit p (decided_of s.book s.audit (record { 0 = s.moment }) c.keys c.command.i d))
      go (Ok permit) =
          same-leaves G s.book (book_decided s.book (decided_of s.book s.audit (record { 0 = s.moment }) c.keys c.command.i d).effect)
          (decision-same s.book s.audit (record { 0 = s.moment }) c.keys c.command.i d)
      go (Err r) = made-same
  by-route (Begins p) route =
      made-begun (planned_refusal s.world s.book (record { 0 = s.moment }) s.configuration.every c.command p) (leases_by s.world s.book c.command p)
      (job_by s.world s.book c.command p (s.last_job + 1) s.configuration.wait s.configuration.every)
  by-route Recovers route =
      made-given (refusal s.reads UnknownInstance) (recovered s.world s.book s.audit s.configuration (numbers_of s)) made-same
      (λ i given. made-recovery (told_try s.configuration s.book (recovery_try s.world s.book s.audit (by_hand s.book s.configuration (numbers_of s) i) s.configuration.wait (s.last_job + 1) i))) c.command.i refl
  by-route TakesOver route =
      made-given (refusal s.reads UnknownInstance) (taken_over s.world s.book s.audit s.configuration (numbers_of s) c.command.d) made-same
      (λ i given. made-taken i c.command.d) c.command.i refl

  command-leaves : Made (command_outcome s c)
  unfolding outcome_of
  command-leaves = by-route (route_of c.command.name) refl

-- ---- a turn

-- of two checks that refuse nothing neither does
first-none : (x y : Option Refusal) → first_of x y ≡ None → y ≡ None
first-none None y h = h
first-none (Some r) y h = cc

unleased : (n : ServerNo) (x : Option ℕ) → busy_by n x ≡ None → x ≡ None
unleased n None h = refl
unleased n (Some id) h = cc

module _ (s : State) (t : Turn) where
  is-forgotten : (c : CommandTurn) → act_in s t ≡ Some (act.Command c) → (i : ServerNo) → route_of c.command.name ≡ Forgets → c.command.i ≡ Some i → removal_refusal s.book c.command ≡ None → IsForgotten s t i
  is-forgotten c taken i route given may = record {
    command = c;
    taken = taken;
    route = route;
    given = given;
    may = ap (refusal_by s.world s.book s.audit s.configuration (numbers_of s) c.command) route ∙ may;
    free = unleased i (lease_at s.book i)
        (sym (ap (busy_given s.book) given) ∙ first-none (unknown_in s.book c.command) (busy_given s.book c.command.i) may);
  }

  act-leaves : (rows : List Row) (a : Act) → act_in s t ≡ Some a → act_asks a ≡ false → Leaves (IsForgotten s t) s.book (after_act rows s a).book
  act-leaves rows (act.PollRead p n) taken plain = same-leaves (IsForgotten s t) s.book s.book refl
  act-leaves rows (act.PollStore p) taken plain = slot-leaves (IsForgotten s t) s.book (slot_at s p)
  act-leaves rows (act.Command c) taken plain = command-leaves s c (IsForgotten s t) (is-forgotten c taken)
  act-leaves rows (act.Job id) taken plain = turned (turned_at s id)
    where
      turned : (x : Option Flown) → Leaves (IsForgotten s t) s.book (book_turned s.book id x)
      turned None = same-leaves (IsForgotten s t) s.book s.book refl
      turned (Some x) = λ n was before after.
          slot-leaves (IsForgotten s t) s.book x.observation n was before (sym (ap (λ (xs : List (Option Instance)). slice_index_or xs n.0 None) (turned-instances s.book id x)) ∙ after)
  act-leaves rows act.Scan taken plain = same-leaves (IsForgotten s t) s.book (after_act rows s act.Scan).book refl
  act-leaves rows act.Restart taken plain = cc

  done-leaves : (rows : List Row) (o : Option Act) → act_in s t ≡ o → done_asks o ≡ false → Leaves (IsForgotten s t) s.book (after_done rows s o).book
  done-leaves rows None taken plain = same-leaves (IsForgotten s t) s.book s.book refl
  done-leaves rows (Some a) taken plain = act-leaves rows a taken plain

turn-leaves : (rows : List Row) (s : State) (t : Turn) → asks s t ≡ false → Leaves (IsForgotten s t) s.book (step rows s t).book
turn-leaves rows s (turn.Act a) plain = act-leaves s (turn.Act a) rows a refl plain
turn-leaves rows s (turn.As node a) plain = done-leaves s (turn.As node a) rows (act_in s (turn.As node a)) refl plain
turn-leaves rows s (turn.Claim node) plain = done-leaves s (turn.Claim node) rows (act_in s (turn.Claim node)) refl plain
turn-leaves rows s t plain = same-leaves (IsForgotten s t) s.book s.book refl

pub instances-stay : InstancesStay
instances-stay rows s t n was plain before after = turn-leaves rows s t plain n was before after
