-- What is read of servers is stored, with numbers that rise.
use Rattle.orch_core.proofs.Starts.{below}
use Rattle.std.proofs.Common.{All, Bool, List, None, Option, Some, [], ap, arith, false, get_or-set_other, get_or-set_same, inl, inr, is_some, length, nat_lt, refl, replicate, subst, suc, sym, true, zero, ℕ, ◌<◌, ◌==◌, ◌∙◌, ◌∷◌, ◌≡◌, ◌≢◌, ◌≤◌, fold, if◌then◌else◌, slice_index_or, slice_set}
use Rattle.run_laws.proofs.Prelude.{Act, All-cons, All-head, All-nil, All-tail, All-weaker, AuditState, BookState, Cause, Change, CommandTurn}
use Rattle.run_laws.proofs.Prelude.{Decision, Deed, DiscoveriesRead, Discovers, Docket, Exchange, Flown, Hook, HookState, Instance, IsDiscovered}
use Rattle.run_laws.proofs.Prelude.{IsKeptSo, IsStoredBy, Job, JobsStore, RestartsCountOn, reloaded_rows, Keys, Moment, Observation, Op, OpeningsGiveNumbers, Outcome, PollsRead, PollsStore}
use Rattle.run_laws.proofs.Prelude.{ReadingsNeverSink, RecoveryJob, Row, Scenario, ServerNo, Settings, State, Status, Taken, Turn, Unended, Update}
use Rattle.run_laws.proofs.Prelude.{World, act_asks, act_in, added_over, after_act, after_change, after_discovery, after_done, after_opening}
use Rattle.run_laws.proofs.Prelude.{after_put, after_row, after_store, as_read, asks, book_decided, book_turned, candidate_of, command_outcome}
use Rattle.run_laws.proofs.Prelude.{counted, decided_of, deed_in, deed_of, discovered, discovered_over, done_asks, downtime_at, downtime_of}
use Rattle.run_laws.proofs.Prelude.{downtime_removal, effect_by, empty_book, eqb-false, eqb-true, first_op, first_seen, front_hook, front_turn}
use Rattle.run_laws.proofs.Prelude.{given_or, greatest_id, ground_of, has_row, instance_at, is_going, job_at, job_observation, known_of, last_read}
use Rattle.run_laws.proofs.Prelude.{later_read, length-map, length-set, loaded_book, ltb-false, ltb-true, next_count, next_reading, none-some}
use Rattle.run_laws.proofs.Prelude.{numbers_of, observed, opening_instance, option_map, outcome_by, outcome_of, promoted_in, put_change, question}
use Rattle.run_laws.proofs.Prelude.{reading, reads_with, rear_hook, rear_turn, removal, renewed, renewed_book, route_of, row_fits, same_Some, seen_in}
use Rattle.run_laws.proofs.Prelude.{settings_of, shown_at, slot_at, start_changes, start_moment, start_rows, start_world, state_settled, status, step}
use Rattle.run_laws.proofs.Prelude.{stored, stored_over, taken, turn_of, turned_at, unless_hook, updated, without_leases}
use Rattle.run_laws.proofs.Prelude.Deciding
use Rattle.run_laws.proofs.Prelude.Turns
use Rattle.run_laws.proofs.Prelude.act
use Rattle.run_laws.proofs.Prelude.cause
use Rattle.run_laws.proofs.Prelude.change
use Rattle.run_laws.proofs.Prelude.decision
use Rattle.run_laws.proofs.Prelude.deed
use Rattle.run_laws.proofs.Prelude.jobstep
use Rattle.run_laws.proofs.Prelude.kept_row
use Rattle.run_laws.proofs.Prelude.key
use Rattle.run_laws.proofs.Prelude.table
use Rattle.run_laws.proofs.Prelude.taking
use Rattle.run_laws.proofs.Prelude.turn
use Rattle.run_laws.proofs.Prelude.unended
use Rattle.run_laws.proofs.Making.{command-holds}
use Rattle.run_laws.proofs.Ready.{place-within}
use Rattle.run_laws.proofs.StartStates.{Opens, Opens-start}

pub not-below : (m n : ℕ) → n ≤ m → nat_lt m n ≡ false
not-below m n h = grind arith

-- ---- a reading in a book

module _ (b : BookState) (o : Observation) (now : BookState) (same : now.instances ≡ (after_store b o).instances) where
  -- by the instance that the book has, and whether its reading is later
  met : (kept : Instance) → instance_at b o.no ≡ Some kept → (old : Bool) → nat_lt o.read kept.read ≡ old → now.instances ≡ (if old then b else renewed_book b o (Some (renewed kept o))).instances
  met kept at old test =
      same ∙ (ap (λ (x : Option Instance). (stored_over b o x).instances) at ∙ ap (λ (t : Bool). (if t then b else renewed_book b o (Some (renewed kept o))).instances) test)

  another : (x : Option Instance) → instance_at b o.no ≡ x → (n : ServerNo) → n.0 ≢ o.no.0 → instance_at now n ≡ instance_at b n
  another None none n apart = ap (λ (xs : List (Option Instance)). slice_index_or xs n.0 None) (same ∙ ap (λ (x : Option Instance). (stored_over b o x).instances) none)
  another (Some kept) at n apart = go (nat_lt o.read kept.read) refl
    where
      go : (old : Bool) → nat_lt o.read kept.read ≡ old → instance_at now n ≡ instance_at b n
      go true test = ap (λ (xs : List (Option Instance)). slice_index_or xs n.0 None) (met kept at true test)
      go false test =
          ap (λ (xs : List (Option Instance)). slice_index_or xs n.0 None) (met kept at false test) ∙ get_or-set_other b.instances o.no.0 n.0 (Some (renewed kept o)) None apart

  pub kept-so : IsKeptSo b o now
  kept-so = record {
    lacking = λ none. same ∙ ap (λ (x : Option Instance). (stored_over b o x).instances) none;
    old = λ kept at less. met kept at true (below o.read kept.read less);
    newer = λ kept at most.
        ap (λ (xs : List (Option Instance)). slice_index_or xs o.no.0 None) (met kept at false (not-below o.read kept.read most))
        ∙ get_or-set_same b.instances o.no.0 (Some (renewed kept o)) None (place-within b.instances o.no.0 kept at);
    others = λ n apart. another (instance_at b o.no) refl n apart;
  }

-- ---- polls

pub polls-read : PollsRead
polls-read rows s p n within known = record {
  reads = ap (λ (b : Bool). if b then next_count s.reads else s.reads) known;
  slot =
      ap (λ (b : Bool). slice_index_or (if b then slice_set s.slots p (Some (reading s n)) else s.slots) p None) known ∙ get_or-set_same s.slots p (Some (reading s n)) None within;
}

pub polls-store : PollsStore
polls-store rows s p o at = record {
  kept = kept-so s.book o (stored s.book (slot_at s p)) (ap (λ (x : Option Observation). (stored s.book x).instances) at);
  empty = get_or-set_same s.slots p None None (place-within s.slots p o at);
}

-- ---- discoveries

module _ (s : State) (c : CommandTurn) (i : ServerNo) (seen : Status) (route : route_of c.command.name ≡ Discovers) (given : c.command.i ≡ Some i)
    (shown : seen_in (status s.world i.0) ≡ Some seen) where
  abbrev its : Observation
  its = next_reading s.world (numbers_of s) i

  comes : command_outcome s c ≡ discovered s.book s.reads its (Some seen)
  unfolding outcome_of
  comes =
      ap (outcome_by s.world s.book s.audit s.configuration (numbers_of s) c) route
      ∙ (ap (given_or (question s.book s.audit s.reads c) (λ k. discovered s.book s.reads (next_reading s.world (numbers_of s) k) (next_reading s.world (numbers_of s) k).seen)) given
      ∙ ap (discovered s.book s.reads its) shown)

  book-got : (rows : List Row) → (step rows s (turn.Act (act.Command c))).book ≡ discovered_over s.book its (instance_at s.book i)
  book-got rows = ap (λ (o : Outcome). (state_settled s o).book) comes

  discovery-read : (rows : List Row) → IsDiscovered s i seen (step rows s (turn.Act (act.Command c)))
  discovery-read rows = record {
    reads = ap (λ (o : Outcome). (state_settled s o).reads) comes;
    first = λ none within.
        ap (λ (b : BookState). instance_at b i) (book-got rows ∙ (ap (discovered_over s.book its) none ∙ ap (added_over s.book its) shown))
        ∙ get_or-set_same s.book.instances i.0 (Some (first_seen its seen)) None within;
    known = λ kept at.
        kept-so s.book its (step rows s (turn.Act (act.Command c))).book
        (ap (λ (b : BookState). b.instances) (book-got rows) ∙ (ap (λ (x : Option Instance). (discovered_over s.book its x).instances) at ∙ sym (ap (λ (x : Option Instance). (stored_over s.book its x).instances) at)));
  }

pub discoveries-read : DiscoveriesRead
discoveries-read rows s c i seen route given shown = discovery-read s c i seen route given shown rows

-- ---- jobs

-- a plan's look observes, whether it goes on
module _ (w : World) (read : ℕ) (now : Moment) (j : Job) (rest : List Op) (n : ServerNo) (from : Option ServerNo) where
  abbrev its_look : Observation
  its_look = observed w read now n

  looked-plan : (x : Option Status) → (Turns.settled j (Turns.after_look j rest n from its_look x)).observation ≡ Some its_look
  looked-plan None = refl
  looked-plan (Some x) = go (Turns.is_moved from x.source)
    where
      go : (moved : Bool) → (Turns.settled j (Turns.after_status j rest n from its_look x moved)).observation ≡ Some its_look
      go true = refl
      go false = refl

-- what a recovery's turn observes, and that no hook after it is due for it
record IsLooked (o : Observation) (t : Taken) : Type 0 where
  observes : t.observation ≡ Some o
  rear : (h : Option HookState) → rear_hook h t.step ≡ None

no-rear-going : (h : Option HookState) → rear_hook h jobstep.Going ≡ None
no-rear-going None = refl
no-rear-going (Some h) = refl

no-rear-failed : (c : Cause) (h : Option HookState) → rear_hook h (jobstep.Failed c []) ≡ None
no-rear-failed c None = refl
no-rear-failed c (Some h) = refl

module _ (w : World) (read : ℕ) (now : Moment) (r : RecoveryJob) (x : Op) (rest : List Op) (n : ServerNo) (from : Option ServerNo) where
  abbrev its_sight : Observation
  its_sight = observed w read now n

  met-looked : (c : Cause) (f : taking.Fate) → IsLooked its_sight (taking.met w r c (Some its_sight) f)
  met-looked c taking.Fails = record { observes = refl; rear = no-rear-failed c }
  met-looked c _ = record { observes = refl; rear = no-rear-going }

  going-looked : (es : List Exchange) (j : Job) (b : Option Cause) → IsLooked its_sight (taking.on_going w r x (Some its_sight) es j b)
  going-looked es j None = record { observes = refl; rear = no-rear-going }
  going-looked es j (Some c) = record { observes = refl; rear = no-rear-failed c }

  looked-recovery : (y : Option Status) → IsLooked its_sight (taking.attempted w r x (Turns.after_look r.core rest n from its_sight y))
  looked-recovery None = met-looked (cause.Unreachable n) (taking.fate w r.purpose r.stage (cause.Unreachable n))
  looked-recovery (Some y) = go (Turns.is_moved from y.source)
    where
      go : (moved : Bool) → IsLooked its_sight (taking.attempted w r x (Turns.after_status r.core rest n from its_sight y moved))
      go true = met-looked (cause.Moved n y.source) (taking.fate w r.purpose r.stage (cause.Moved n y.source))
      go false = going-looked [] (Turns.next (Turns.saw r.core n y) rest) (taking.barred_by r.stage r.failed (Turns.saw r.core n y).seen)

module _ (s : State) (n : ServerNo) (from : Option ServerNo) where
  abbrev now_of : Moment
  now_of = record { 0 = s.moment }

  abbrev read_of : ℕ
  read_of = next_count s.reads

  plan-observes : (j : Job) → deed_in s (unended.Plan j) ≡ Some (deed.Look n from) → (turn_of s (unended.Plan j)).observation ≡ Some (shown_at s n)
  plan-observes j due = go j.ops refl
    where
      go : (xs : List Op) → j.ops ≡ xs → (Turns.settled j (Turns.by_ops s.world read_of now_of j j.ops)).observation ≡ Some (shown_at s n)
      go [] is = absurd (none-some (deed.Look n from) (sym (ap first_op is) ∙ due))
      go (x ∷ rest) is =
          let same : deed_of x ≡ deed.Look n from = same_Some (deed_of x) (deed.Look n from) (sym (ap first_op is) ∙ due) in
          ap (λ (xs : List Op). (Turns.settled j (Turns.by_ops s.world read_of now_of j xs)).observation) is
          ∙ (ap (λ (d : Deed). (Turns.settled j (Turns.by_deed s.world read_of now_of j rest d)).observation) same
          ∙ looked-plan s.world read_of now_of j rest n from (seen_in (status s.world n.0)))

  module _ (r : RecoveryJob) (docket : Docket) (due : deed_in s (unended.Recovery r docket) ≡ Some (deed.Look n from)) where
    abbrev decided_so : RecoveryJob
    decided_so = Deciding.decided (ground_of s.world s.book now_of) r

    abbrev own : Taken
    own = taking.taken s.world s.book read_of now_of r

    no-hook : (h : Option Hook) → front_hook docket.hooks ≡ h → front_hook docket.hooks ≡ None
    no-hook None is = is
    no-hook (Some h) is = absurd (none-some (deed.Look n from) (sym (ap (λ (x : Option Hook). unless_hook x decided_so.core.ops) is) ∙ due))

    front : front_hook docket.hooks ≡ None
    front = no-hook (front_hook docket.hooks) refl

    does : first_op decided_so.core.ops ≡ Some (deed.Look n from)
    does = sym (ap (λ (x : Option Hook). unless_hook x decided_so.core.ops) front) ∙ due

    own-looked : IsLooked (shown_at s n) own
    own-looked = go decided_so.core.ops refl
      where
        go : (xs : List Op) → decided_so.core.ops ≡ xs → IsLooked (shown_at s n) own
        go [] is = absurd (none-some (deed.Look n from) (sym (ap first_op is) ∙ does))
        go (x ∷ rest) is =
            let same : deed_of x ≡ deed.Look n from = same_Some (deed_of x) (deed.Look n from) (sym (ap first_op is) ∙ does) in
            subst (λ (xs : List Op). IsLooked (shown_at s n) (taking.acted s.world read_of now_of decided_so xs)) (sym is)
            (subst (λ (d : Deed). IsLooked (shown_at s n) (taking.attempted s.world decided_so x (Turns.by_deed s.world read_of now_of decided_so.core rest d))) (sym same)
            (looked-recovery s.world read_of now_of decided_so x rest n from (seen_in (status s.world n.0))))

    recovery-observes : (turn_of s (unended.Recovery r docket)).observation ≡ Some (shown_at s n)
    recovery-observes =
        let promoted = promoted_in s.book own in
        ap (λ (x : Option Hook). (front_turn docket promoted r own x).taken.observation) front
        ∙ (ap (λ (x : Option Hook). (rear_turn docket promoted r own x).taken.observation) (own-looked.rear docket.hooks) ∙ own-looked.observes)

  observes : (u : Unended) → deed_in s u ≡ Some (deed.Look n from) → (turn_of s u).observation ≡ Some (shown_at s n)
  observes (unended.Plan j) due = plan-observes j due
  observes (unended.Recovery r docket) due = recovery-observes r docket due

-- the leases make no difference to instances
pub turned-instances : (b : BookState) (id : ℕ) (t : Flown) → (book_turned b id (Some t)).instances ≡ (stored b t.observation).instances
turned-instances b id t = go (is_going t.step)
  where
    go : (goes : Bool) → (if goes then stored b t.observation else without_leases (stored b t.observation) id).instances ≡ (stored b t.observation).instances
    go true = refl
    go false = refl

-- what a job's turn observes is stored
pub turn-stores : (rows : List Row) (s : State) (id : ℕ) (u : Unended) (n : ServerNo) → job_at s.jobs id ≡ Some u → (turn_of s u).observation ≡ Some (shown_at s n) → IsStoredBy s n (step rows s (turn.Act (act.Job id)))
turn-stores rows s id u n found saw =
    let turn-is : turned_at s id ≡ Some (turn_of s u) = ap (option_map (turn_of s)) found in
    record {
      reads = ap (λ (t : Option Flown). reads_with s.reads (job_observation t)) turn-is ∙ ap (reads_with s.reads) saw;
      kept = kept-so s.book (shown_at s n) (book_turned s.book id (turned_at s id))
          (ap (λ (t : Option Flown). (book_turned s.book id t).instances) turn-is ∙ (turned-instances s.book id (turn_of s u) ∙ ap (λ (o : Option Observation). (stored s.book o).instances) saw));
    }

pub jobs-store : JobsStore
jobs-store rows s id u n from found due = turn-stores rows s id u n found (observes s n from u due)

-- ---- numbers never sink

-- an instance that stays has no earlier reading got
abbrev NeverSinks : BookState → BookState → Type 0
NeverSinks b c = (n : ServerNo) (was now : Instance) → instance_at b n ≡ Some was → instance_at c n ≡ Some now → was.read ≤ now.read

same-sinks : (b c : BookState) → c.instances ≡ b.instances → NeverSinks b c
same-sinks b c same n was now before after =
    let is : was ≡ now = same_Some was now (sym before ∙ (sym (ap (λ (xs : List (Option Instance)). slice_index_or xs n.0 None) same) ∙ after)) in
    let reads : was.read ≡ now.read = ap (λ (i : Instance). i.read) is in
    omega (arith, reads)

kept-sinks : (b : BookState) (o : Observation) (c : BookState) → IsKeptSo b o c → NeverSinks b c
kept-sinks b o c kept n was now before after = go (n.0 == o.no.0) refl
  where
    go : (here : Bool) → (n.0 == o.no.0) ≡ here → was.read ≤ now.read
    go false other =
        let reads : was.read ≡ now.read = ap (λ (i : Instance). i.read) (same_Some was now (sym before ∙ (sym (kept.others n (eqb-false n.0 o.no.0 other)) ∙ after))) in
        omega (arith, reads)
    go true here = by (nat_lt o.read was.read) refl
      where
        place : n.0 ≡ o.no.0
        place = eqb-true n.0 o.no.0 here

        had : instance_at b o.no ≡ Some was
        had = sym (ap (λ (k : ℕ). slice_index_or b.instances k None) place) ∙ before

        has : instance_at c o.no ≡ Some now
        has = sym (ap (λ (k : ℕ). slice_index_or c.instances k None) place) ∙ after

        by : (old : Bool) → nat_lt o.read was.read ≡ old → was.read ≤ now.read
        by true test = same-sinks b c (kept.old was had (ltb-true o.read was.read test)) n was now before after
        by false test =
            let most = ltb-false o.read was.read test in
            let reads : o.read ≡ now.read = ap (λ (i : Instance). i.read) (same_Some (as_read was o) now (sym (kept.newer was had most) ∙ has)) in
            omega (arith, most, reads)

stored-sinks : (b : BookState) (o : Option Observation) → NeverSinks b (stored b o)
stored-sinks b None = same-sinks b b refl
stored-sinks b (Some o) = kept-sinks b o (after_store b o) (kept-so b o (after_store b o) refl)

set-sinks : (b c : BookState) (k : ℕ) (x : Option Instance) → c.instances ≡ slice_set b.instances k x → ((was now : Instance) → slice_index_or b.instances k None ≡ Some was → x ≡ Some now → was.read ≤ now.read) → NeverSinks b c
set-sinks b c k x same here n was now before after = go (n.0 == k) refl
  where
    got : slice_index_or (slice_set b.instances k x) n.0 None ≡ Some now
    got = sym (ap (λ (xs : List (Option Instance)). slice_index_or xs n.0 None) same) ∙ after

    go : (is : Bool) → (n.0 == k) ≡ is → was.read ≤ now.read
    go false other =
        let reads : was.read ≡ now.read = ap (λ (i : Instance). i.read) (same_Some was now (sym before ∙ (sym (get_or-set_other b.instances k n.0 x None (eqb-false n.0 k other)) ∙ got))) in
        omega (arith, reads)
    go true is =
        let place = eqb-true n.0 k is in
        let had : slice_index_or b.instances k None ≡ Some was = sym (ap (λ (m : ℕ). slice_index_or b.instances m None) place) ∙ before in
        here was now had (sym (get_or-set_same b.instances k x None (place-within b.instances k was had)) ∙ (sym (ap (λ (m : ℕ). slice_index_or (slice_set b.instances k x) m None) place) ∙ got))

discovered-sinks : (b : BookState) (o : Observation) → NeverSinks b (after_discovery b o)
discovered-sinks b o = go (instance_at b o.no) refl
  where
    lacks : (x : Option Status) → instance_at b o.no ≡ None → NeverSinks b (added_over b o x)
    lacks None none = same-sinks b b refl
    lacks (Some seen) none = set-sinks b (added_over b o (Some seen)) o.no.0 (Some (first_seen o seen)) refl (λ was now had is. absurd (none-some was (sym none ∙ had)))

    go : (x : Option Instance) → instance_at b o.no ≡ x → NeverSinks b (discovered_over b o x)
    go None none = lacks o.seen none
    go (Some kept) at = kept-sinks b o (stored_over b o (Some kept)) (kept-so b o (stored_over b o (Some kept)) (sym (ap (λ (x : Option Instance). (stored_over b o x).instances) at)))

-- no decision changes an instance
pub decision-same : (b : BookState) (a : AuditState) (now : Moment) (k : Keys) (i : Option ServerNo) (d : Decision) → (book_decided b (decided_of b a now k i d).effect).instances ≡ b.instances
decision-same b a now k i d = by d i
  where
    put : (r : Row) → ((c : BookState) → (after_put c r).instances ≡ c.instances) → (book_decided b (effect_by (put_change b r))).instances ≡ b.instances
    put r same = go (has_row b r)
      where
        go : (had : Bool) → (book_decided b (effect_by (if had then None else Some (change.Put r)))).instances ≡ b.instances
        go true = refl
        go false = same b

    removal-same : (n : ServerNo) → (book_decided b (effect_by (downtime_removal b n))).instances ≡ b.instances
    removal-same n = go (is_some (downtime_at b n (record { 0 = 0 })))
      where
        go : (lasts : Bool) → (book_decided b (effect_by (if lasts then Some (change.Remove table.Downtime (key.Server n)) else None))).instances ≡ b.instances
        go true = refl
        go false = refl

    by : (d : Decision) (i : Option ServerNo) → (book_decided b (decided_of b a now k i d).effect).instances ≡ b.instances
    by decision.BeginDowntime (Some n) = put (kept_row.Downtime (downtime_of now k n)) (λ c. refl)
    by decision.EndDowntime (Some n) = removal-same n
    by decision.RegisterCandidate (Some n) = put (kept_row.Candidate (candidate_of now k n)) (λ c. refl)
    by decision.DisableRecoveries i = put (kept_row.Switch false) (λ c. refl)
    by decision.EnableRecoveries i = put (kept_row.Switch true) (λ c. refl)
    by decision.AckRecoveries None = refl
    by _ _ = refl

-- ---- every turn

module _ (s : State) where
  abbrev Sinks : Update → Type 0
  Sinks u = NeverSinks s.book (updated (known_of s) u).book

  command-sinks : (c : CommandTurn) → Sinks (command_outcome s c).book
  command-sinks c = command-holds s c (λ reads u. Sinks u) (record {
    stays = same-sinks s.book s.book refl;
    discovery = λ i. discovered-sinks s.book (next_reading s.world (numbers_of s) i);
    removal = λ i. set-sinks s.book (after_change s.book (removal i)) i.0 None refl (λ was now had is. absurd (none-some now is));
    decides = λ d. same-sinks s.book (book_decided s.book (decided_of s.book s.audit (record { 0 = s.moment }) c.keys c.command.i d).effect) (decision-same s.book s.audit (record { 0 = s.moment }) c.keys c.command.i d);
    begins = λ p. same-sinks s.book s.book refl;
    recovers = λ i. same-sinks s.book s.book refl;
    takes = λ i d. same-sinks s.book s.book refl;
  })

  act-sinks : (rows : List Row) (a : Act) → act_asks a ≡ false → NeverSinks s.book (after_act rows s a).book
  act-sinks rows (act.PollRead p n) plain = same-sinks s.book s.book refl
  act-sinks rows (act.PollStore p) plain = stored-sinks s.book (slot_at s p)
  act-sinks rows (act.Command c) plain = command-sinks c
  act-sinks rows (act.Job id) plain = turned (turned_at s id)
    where
      turned : (t : Option Flown) → NeverSinks s.book (book_turned s.book id t)
      turned None = same-sinks s.book s.book refl
      turned (Some t) = λ n was now before after.
          stored-sinks s.book t.observation n was now before (sym (ap (λ (xs : List (Option Instance)). slice_index_or xs n.0 None) (turned-instances s.book id t)) ∙ after)
  act-sinks rows act.Scan plain = same-sinks s.book s.book refl
  act-sinks rows act.Restart plain = cc

  done-sinks : (rows : List Row) (o : Option Act) → done_asks o ≡ false → NeverSinks s.book (after_done rows s o).book
  done-sinks rows None plain = same-sinks s.book s.book refl
  done-sinks rows (Some a) plain = act-sinks rows a plain

  turn-sinks : (rows : List Row) (t : Turn) → asks s t ≡ false → NeverSinks s.book (step rows s t).book
  turn-sinks rows (turn.Act a) plain = act-sinks rows a plain
  turn-sinks rows (turn.As node a) plain = done-sinks rows (act_in s (turn.As node a)) plain
  turn-sinks rows (turn.Claim node) plain = done-sinks rows (act_in s (turn.Claim node)) plain
  turn-sinks rows _ plain = same-sinks s.book s.book refl

pub readings-never-sink : ReadingsNeverSink
readings-never-sink rows s t n was now plain before after = turn-sinks s rows t plain n was now before after

-- ---- at an opening

-- each instance's number is at most this
abbrev AtMost : ℕ → BookState → Type 0
AtMost most b = (n : ServerNo) (i : Instance) → instance_at b n ≡ Some i → i.read ≤ most

-- a place of a list that is set
set-most : (most : ℕ) (b c : BookState) (k : ℕ) (x : Option Instance) → c.instances ≡ slice_set b.instances k x → ((i : Instance) → x ≡ Some i → i.read ≤ most) → AtMost most b → AtMost most c
set-most most b c k x same here all n i at = go (n.0 == k) refl
  where
    got : slice_index_or (slice_set b.instances k x) n.0 None ≡ Some i
    got = sym (ap (λ (xs : List (Option Instance)). slice_index_or xs n.0 None) same) ∙ at

    go : (is : Bool) → (n.0 == k) ≡ is → i.read ≤ most
    go false other = all n i (sym (get_or-set_other b.instances k n.0 x None (eqb-false n.0 k other)) ∙ got)
    go true is =
        let place = eqb-true n.0 k is in
        let within : k < length b.instances =
        subst (λ (m : ℕ). m < length b.instances) place (subst (λ (m : ℕ). n.0 < m) (length-set b.instances k x) (place-within (slice_set b.instances k x) n.0 i got)) in
        here i (sym (get_or-set_same b.instances k x None within) ∙ (sym (ap (λ (m : ℕ). slice_index_or (slice_set b.instances k x) m None) place) ∙ got))

same-most : (most : ℕ) (b c : BookState) → c.instances ≡ b.instances → AtMost most b → AtMost most c
same-most most b c same all n i at = all n i (sym (ap (λ (xs : List (Option Instance)). slice_index_or xs n.0 None) same) ∙ at)

-- a row's number is at most the last one of its list
abbrev RowMost : ℕ → Row → Type 0
RowMost most r = (i : Instance) → r ≡ kept_row.Instance i → i.read ≤ most

put-most : (most : ℕ) (b : BookState) (r : Row) → RowMost most r → AtMost most b → AtMost most (after_put b r)
put-most most b (kept_row.Instance i) here all = set-most most b (after_put b (kept_row.Instance i)) i.no.0 (Some i) refl (λ k is. subst (λ (x : Instance). x.read ≤ most) (same_Some i k is) (here i refl)) all
put-most most b (kept_row.Downtime d) here all = same-most most b (after_put b (kept_row.Downtime d)) refl all
put-most most b r here all = same-most most b (after_put b r) refl all

row-most : (most : ℕ) (b : BookState) (r : Row) → RowMost most r → AtMost most b → AtMost most (after_row b r)
row-most most b r here all = go (row_fits (length b.names) r)
  where
    go : (fits : Bool) → AtMost most (if fits then after_put b r else b)
    go true = put-most most b r here all
    go false = all

rows-most : (most : ℕ) (b : BookState) (rows : List Row) → All (RowMost most) rows → AtMost most b → AtMost most (fold after_row b rows)
rows-most most b [] here all = all
rows-most most b (r ∷ rows) here all = rows-most most (after_row b r) rows (All-tail (RowMost most) r rows here) (row-most most b r (All-head (RowMost most) r rows here) all)

-- the last number is one of theirs at least
later-more : (read : ℕ) (r : Row) → read ≤ later_read read r
later-more read (kept_row.Instance i) = omega arith
later-more read _ = omega arith

last-more : (read : ℕ) (rows : List Row) → read ≤ fold later_read read rows
last-more read [] = omega arith
last-more read (r ∷ rows) = let here = later-more read r in let rest = last-more (later_read read r) rows in omega (arith, here, rest)

last-most : (read : ℕ) (rows : List Row) → All (RowMost (fold later_read read rows)) rows
last-most read [] = All-nil (RowMost read)
last-most read (r ∷ rows) = All-cons (RowMost (fold later_read (later_read read r) rows)) r rows (here r) (last-most (later_read read r) rows)
  where
    here : (x : Row) → RowMost (fold later_read (later_read read x) rows) x
    here x i is =
        let first : i.read ≤ later_read read x = subst (λ (y : Row). i.read ≤ later_read read y) (sym is) (omega arith) in
        let more = last-more (later_read read x) rows in
        omega (arith, first, more)

-- no instance yet
empty-most : (most : ℕ) (settings : List Settings) → AtMost most (empty_book settings)
empty-most most settings n i at = go (length settings) n.0 at
  where
    go : (k m : ℕ) → slice_index_or (replicate k None) m None ≡ Some i → i.read ≤ most
    go zero m e = cc
    go (suc k) zero e = cc
    go (suc k) (suc m) e = go k m e

-- what an opening puts was never read
abbrev ChangeMost : ℕ → Change → Type 0
ChangeMost most c = (b : BookState) → AtMost most b → AtMost most (after_opening b c)

opens-most : (most : ℕ) (w : World) (at : Moment) (c : Change) → Opens w at c → ChangeMost most c
opens-most most w at c (inl shows) = subst (ChangeMost most) (sym shows.is) (λ b all.
    set-most most b (after_opening b (change.Put (kept_row.Instance (opening_instance w at shows.n shows.server)))) shows.n (Some (opening_instance w at shows.n shows.server)) refl
    (λ i is. subst (λ (x : Instance). x.read ≤ most) (same_Some (opening_instance w at shows.n shows.server) i is) (omega arith)) all)
opens-most most w at c (inr leaves) = λ b all. same-most most b (after_opening b c) (leaves.instances b) all

changes-most : (most : ℕ) (b : BookState) (cs : List Change) → All (ChangeMost most) cs → AtMost most b → AtMost most (fold after_opening b cs)
changes-most most b [] here all = all
changes-most most b (c ∷ cs) here all = changes-most most (after_opening b c) cs (All-tail (ChangeMost most) c cs here) (All-head (ChangeMost most) c cs here b all)

loaded-rows : (s : Scenario) (rows : List Row) → All (RowMost (last_read (start_rows s rows))) (counted (length (settings_of s)) greatest_id rows)
loaded-rows s rows =
    subst (λ (k : ℕ). All (RowMost (last_read (start_rows s rows))) (counted k greatest_id rows)) (sym (length-map s.opening.servers (λ i. i.settings))) (last-most 0 (start_rows s rows))

pub openings-give-numbers : OpeningsGiveNumbers
openings-give-numbers s wait rows =
    let most = last_read (start_rows s rows) in
    let loaded-most = rows-most most (empty_book (settings_of s)) (counted (length (settings_of s)) greatest_id rows) (loaded-rows s rows) (empty-most most (settings_of s)) in
    changes-most most (loaded_book s rows) (start_changes s rows)
    (All-weaker (Opens (start_world s) (start_moment s rows)) (ChangeMost most) (opens-most most (start_world s) (start_moment s rows)) (start_changes s rows) (Opens-start s rows)) loaded-most

-- ---- at a restart

pub restarts-count-on : RestartsCountOn
restarts-count-on rows s =
    let now = step rows s (turn.Act act.Restart) in
    let most = last_read (reloaded_rows rows s) in
    record {
      reads = refl;
      within =
          rows-most most (empty_book s.book.settings) (reloaded_rows rows s) (last-most 0 (reloaded_rows rows s)) (empty-most most s.book.settings);
      old = λ i o at less. (kept-so now.book o (after_store now.book o) refl).old i at less;
      newer = λ i o at most. (kept-so now.book o (after_store now.book o) refl).newer i at most;
    }
