-- What the last readings of a recovery left in the book stays there until it is done.
use Rattle.std.proofs.Common.{◌≡◌, ◌∙◌, ℕ, ◌+◌, ◌<◌, ◌≤◌, Bool, true, false, List, [], ◌∷◌, refl, sym, ap, subst, Option, Some, None, ◌⊎◌, inl, inr, arith}
use Rattle.std.specs.Prelude.{◌-◌, ◌^◌, ◌==◌, All, IfSome, slice_index_or, unwrap_or}
use Rattle.recovery_runs.proofs.Prelude.{Act, All-contains, All-find, All-nil, All-weaker, BeginsOnce, BooksAtLast, BookState, Came, CoveredState}
use Rattle.recovery_runs.proofs.Prelude.{CoversAt, CoversSoFar, Docket, Follower, Instance, IsAct, IsBelow, IsClosed, IsCoveredBeside, IsKeptSo}
use Rattle.recovery_runs.proofs.Prelude.{IsRuling, IsSpeakingBeside, IsTold, IsTurn, IsUnder, IsUpBeside, JobStep, Line, LoadsGiven, NumbersAreGiven}
use Rattle.recovery_runs.proofs.Prelude.{Observation, OldFollows, owed, Purpose, ReadsOn, Ready, Recovery, Row, Scenario, ServerNo, SpeakingState, Speaks}
use Rattle.recovery_runs.proofs.Prelude.{Stage, State, Status, Taken, TakesWrites, Turn, Unended, UpSoFar, UpState, World, act-fits, act-reads}
use Rattle.recovery_runs.proofs.Prelude.{act_asks, act_in, after_act, after_done, all-turned, as_read, asks, begun_recovery, crowns, done_asks}
use Rattle.recovery_runs.proofs.Prelude.{first_stage, hooked-has, instance_at, is_going, job_at, jobs_turned, moment_at, next_count}
use Rattle.recovery_runs.proofs.Prelude.{none-some, number_of, openings-give-numbers, option_map, pollers, promoted_in, recovery_after, same_Some}
use Rattle.recovery_runs.proofs.Prelude.{seen_in, shown_at, slot_at, start, status, step, taken, taken-aim, times, turn-reads, turn-stores, turn_of}
use Rattle.recovery_runs.proofs.Prelude.{turn_taken}
use Rattle.recovery_runs.proofs.Prelude.act
use Rattle.recovery_runs.proofs.Prelude.came
use Rattle.recovery_runs.proofs.Prelude.job_step
use Rattle.recovery_runs.proofs.Prelude.op
use Rattle.recovery_runs.proofs.Prelude.purpose
use Rattle.recovery_runs.proofs.Prelude.stage
use Rattle.recovery_runs.proofs.Prelude.turn
use Rattle.recovery_runs.proofs.Prelude.unended
use Rattle.recovery_runs.proofs.Covering.{with-command, with-scan}
use Rattle.recovery_runs.proofs.There.{HasReplicas, IsThere, has-seen, job-leaves, no-slot, owes-alike, owes-master, owes-replicas, promoted-one, turn-empties}
use Rattle.recovery_runs.proofs.LastLooks.{IsWholeBy, LooksNow, WasLast, taken-last, taken-whole}
use Rattle.recovery_runs.proofs.Shown.{ruling-shown, under-shown}

-- ---- numbers of readings

-- a count that hasn't come to its end hadn't before the turn
pub room-before : (n k : ℕ) → (k ≡ n) ⊎ (k ≡ next_count n) → k < 2 ^ 64 - 1 → n < 2 ^ 64 - 1
room-before n k (inl same) h = subst (λ (x : ℕ). x < 2 ^ 64 - 1) same h
room-before n k (inr next) h = omega (arith, h, next)

next-is : (n : ℕ) → n < 2 ^ 64 - 1 → next_count n ≡ n + 1
next-is n h = omega (arith, h)

count-rises : (n k : ℕ) → (k ≡ n) ⊎ (k ≡ next_count n) → k < 2 ^ 64 - 1 → n ≤ k
count-rises n k (inl same) h = omega (arith, same)
count-rises n k (inr next) h = let is = next-is n (room-before n k (inr next) h) in omega (arith, next, is)

-- neither the book nor a slot has a later number than were given
abbrev pub AreGiven : State → Type 0
AreGiven s = NumbersAreGiven s × ((p : ℕ) (o : Observation) → slot_at s p ≡ Some o → o.read ≤ s.reads)

-- ---- a server that was read so

-- what is kept of it was seen so; what a slot has of it was seen so, too, or is older
pub record IsKept (Q : Status → Type 0) (b : BookState) (xs : List (Option Observation)) (n : ServerNo) : Type 0 where
  pub kept : (i : Instance) → instance_at b n ≡ Some i → Q i.seen
  pub slots : (i : Instance) (p : ℕ) (o : Observation) → instance_at b n ≡ Some i → slice_index_or xs p None ≡ Some o → o.no.0 ≡ n.0 → (o.read < i.read) ⊎ ((x : Status) → o.seen ≡ Some x → Q x)

-- a status shows it so
abbrev Shows : (Status → Type 0) → State → ServerNo → Type 0
Shows Q s n = (x : Status) → seen_in (status s.world n.0) ≡ Some x → Q x

module _ (s now : State) (room : now.reads < 2 ^ 64 - 1) (on : ReadsOn s now) (given : AreGiven s) where
  rises : s.reads ≤ now.reads
  rises = count-rises s.reads now.reads on.count room

  given-on : AreGiven now
  given-on = (λ n i at. kept-by n i (on.book n i at), λ p o at. slot-by p o (on.slots p o at))
    where
      kept-by : (n : ServerNo) (i : Instance) → Came s now.reads n i → i.read ≤ now.reads
      kept-by n i (came.Same before) = let most = given.0 n i before in omega (arith, most, rises)
      kept-by n i (came.Slot was o p before has its most is) =
          let reads : i.read ≡ o.read = ap (λ (x : Instance). x.read) is in
          let less = given.1 p o has in
          omega (arith, reads, less, rises)
      kept-by n i (came.Shown was m before its is reads) = let same : i.read ≡ next_count s.reads = ap (λ (x : Instance). x.read) is in omega (arith, same, reads)
      kept-by n i (came.First m seen none its sees is reads) = let same : i.read ≡ next_count s.reads = ap (λ (x : Instance). x.read) is in omega (arith, same, reads)

      slot-by : (p : ℕ) (o : Observation) → (slot_at s p ≡ Some o) ⊎ ((m : ServerNo) × (o ≡ shown_at s m) × (now.reads ≡ next_count s.reads)) → o.read ≤ now.reads
      slot-by p o (inl has) = let less = given.1 p o has in omega (arith, less, rises)
      slot-by p o (inr x) = let same : o.read ≡ next_count s.reads = ap (λ (z : Observation). z.read) x.1 in let reads = x.2 in omega (arith, same, reads)

  module _ (Q : Status → Type 0) (n : ServerNo) (shows : Shows Q s n) where
    here : (m : ServerNo) → m.0 ≡ n.0 → Shows Q s m
    here m same x e = shows x (sym (ap (λ (k : ℕ). seen_in (status s.world k)) same) ∙ e)

    -- the reading reached the server, or what was seen before stays
    renewed : (was : Instance) (o : Observation) → Q was.seen → ((x : Status) → o.seen ≡ Some x → Q x) → Q (as_read was o).seen
    renewed was o before reading = go o.seen refl
      where
        go : (x : Option Status) → o.seen ≡ x → Q (unwrap_or x was.seen)
        go None e = before
        go (Some x) e = reading x e

    above : (i : Instance) (p : ℕ) (o : Observation) → slot_at s p ≡ Some o → i.read ≡ next_count s.reads → now.reads ≡ next_count s.reads → o.read < i.read
    above i p o has reads next =
        let most = given.1 p o has in
        let is = next-is s.reads (room-before s.reads now.reads on.count room) in
        omega (arith, most, reads, is)

    fresh-slot : (o : Observation) → o.no.0 ≡ n.0 → (m : ServerNo) → o ≡ shown_at s m → (x : Status) → o.seen ≡ Some x → Q x
    fresh-slot o its m same x e = here m (sym (ap (λ (z : Observation). z.no.0) same) ∙ its) x (sym (ap (λ (z : Observation). z.seen) same) ∙ e)

    stays : IsKept Q s.book s.slots n → IsKept Q now.book now.slots n
    stays k = record { kept = λ i at. kept-by i (on.book n i at); slots = λ i p o at has its. slots-by i p o its (on.book n i at) (on.slots p o has) }
      where
        late : (was : Instance) (o : Observation) → was.read ≤ o.read → (o.read < was.read) ⊎ ((x : Status) → o.seen ≡ Some x → Q x) → (x : Status) → o.seen ≡ Some x → Q x
        late was o most (inl less) = absurd (omega (arith, most, less))
        late was o most (inr so) = so

        kept-by : (i : Instance) → Came s now.reads n i → Q i.seen
        kept-by i (came.Same before) = k.kept i before
        kept-by i (came.Slot was o p before has its most is) =
            subst (λ (x : Instance). Q x.seen) (sym is) (renewed was o (k.kept was before) (late was o most (k.slots was p o before has its)))
        kept-by i (came.Shown was m before its is reads) = subst (λ (x : Instance). Q x.seen) (sym is) (renewed was (shown_at s m) (k.kept was before) (here m its))
        kept-by i (came.First m seen none its sees is reads) = subst (λ (x : Instance). Q x.seen) (sym is) (here m its seen sees)

        -- what a slot had
        old-by : (i : Instance) (p : ℕ) (o : Observation) → o.no.0 ≡ n.0 → slot_at s p ≡ Some o → Came s now.reads n i → (o.read < i.read) ⊎ ((x : Status) → o.seen ≡ Some x → Q x)
        old-by i p o its has (came.Same before) = k.slots i p o before has its
        old-by i p o its has (came.Slot was z q before there at most is) = later (k.slots was p o before has its)
          where
            later : (o.read < was.read) ⊎ ((x : Status) → o.seen ≡ Some x → Q x) → (o.read < i.read) ⊎ ((x : Status) → o.seen ≡ Some x → Q x)
            later (inr so) = inr so
            later (inl less) = let reads : i.read ≡ z.read = ap (λ (x : Instance). x.read) is in inl (omega (arith, less, most, reads))
        old-by i p o its has (came.Shown was m before at is reads) = inl (above i p o has (ap (λ (x : Instance). x.read) is) reads)
        old-by i p o its has (came.First m seen none at sees is reads) = inl (above i p o has (ap (λ (x : Instance). x.read) is) reads)

        slots-by : (i : Instance) (p : ℕ) (o : Observation) → o.no.0 ≡ n.0 → Came s now.reads n i → (slot_at s p ≡ Some o) ⊎ ((m : ServerNo) × (o ≡ shown_at s m) × (now.reads ≡ next_count s.reads))
            → (o.read < i.read) ⊎ ((x : Status) → o.seen ≡ Some x → Q x)
        slots-by i p o its comes (inl has) = old-by i p o its has comes
        slots-by i p o its comes (inr x) = inr (fresh-slot o its x.0 x.1)

    -- once a turn has read it
    begins : (seen : Status) → seen_in (status s.world n.0) ≡ Some seen → IsKeptSo s.book (shown_at s n) now.book → now.reads ≡ next_count s.reads → IsKept Q now.book now.slots n
    begins seen sees so next = record { kept = λ i at. (is-read i at).0; slots = λ i p o at has its. slots-by i p o its at (on.slots p o has) }
      where
        is-read : (i : Instance) → instance_at now.book n ≡ Some i → Q i.seen × (i.read ≡ next_count s.reads)
        is-read i at = go (instance_at s.book n) refl
          where
            go : (x : Option Instance) → instance_at s.book n ≡ x → Q i.seen × (i.read ≡ next_count s.reads)
            go None none = absurd (none-some i (sym none ∙ (sym (ap (λ (xs : List (Option Instance)). slice_index_or xs n.0 None) (so.lacking none)) ∙ at)))
            go (Some was) had =
                let least = given.0 n was had in
                let up = count-rises s.reads now.reads on.count room in
                let is : i ≡ as_read was (shown_at s n) = same_Some i (as_read was (shown_at s n)) (sym at ∙ so.newer was had (omega (arith, least, up, next))) in (
                  subst (λ (x : Instance). Q x.seen) (sym is) (subst (λ (o : Option Status). Q (unwrap_or o was.seen)) (sym sees) (shows seen sees)),
                  ap (λ (x : Instance). x.read) is,
                )

        slots-by : (i : Instance) (p : ℕ) (o : Observation) → o.no.0 ≡ n.0 → instance_at now.book n ≡ Some i → (slot_at s p ≡ Some o) ⊎ ((m : ServerNo) × (o ≡ shown_at s m) × (now.reads ≡ next_count s.reads))
            → (o.read < i.read) ⊎ ((x : Status) → o.seen ≡ Some x → Q x)
        slots-by i p o its at (inl has) = inl (above i p o has (is-read i at).1 next)
        slots-by i p o its at (inr x) = inr (fresh-slot o its x.0 x.1)

-- ---- a recovery at its end

-- in a master's place: once the promoted server was read, and once a takeover's old master was
pub record EndsKept (b : BookState) (xs : List (Option Observation)) (r : Recovery) : Type 0 where
  pub promoted : (n : ServerNo) (lines : List Line) → crowns r.purpose ≡ true → r.stage ≡ stage.Close lines → r.outcome.promoted ≡ Some n → r.core.ops ≡ op.Finish lines ∷ [] → IsKept TakesWrites b xs n
  pub old : (d n : ServerNo) (lines : List Line) → r.purpose ≡ purpose.Takeover d → r.stage ≡ stage.Close lines → r.outcome.promoted ≡ Some n
      → (r.core.ops ≡ op.Status n None ∷ op.Finish lines ∷ []) ⊎ (r.core.ops ≡ op.Finish lines ∷ []) → IsKept (IsBelow d) b xs r.failed

-- at another stage
far : (b : BookState) (xs : List (Option Observation)) (r : Recovery) → ((lines : List Line) → r.stage ≡ stage.Close lines → ⊥) → EndsKept b xs r
far b xs r off = record { promoted = λ n lines c at p ops. absurd (off lines at); old = λ d n lines aim at p ops. absurd (off lines at) }

module _ (s : State) (r : Recovery) (c : CoversSoFar s.world r) (lines : List Line) (at : r.stage ≡ stage.Close lines) where
  closed : IsClosed s.world r
  closed = let k = subst (λ (x : Stage). CoversAt s.world r x) at c.at in k.stage.0

  shows-promoted : (n : ServerNo) → crowns r.purpose ≡ true → r.outcome.promoted ≡ Some n → Shows TakesWrites s n
  shows-promoted n crowned promoted x e =
      let k = closed in
      let same : k.no ≡ n = same_Some k.no n (sym k.promoted.promoted ∙ promoted) in
      ruling-shown s.world n.0 x e (subst (λ (i : ServerNo). IsRuling s.world i.0) same (k.rules crowned))

  shows-old : (d : ServerNo) → r.purpose ≡ purpose.Takeover d → Shows (IsBelow d) s r.failed
  shows-old d aim x e =
      let k = closed in
      let under : IsUnder s.world r.failed.0 d.0 =
      All-contains (λ (y : Follower). IsUnder s.world y.no.0 y.source.0) r.outcome.followers (record { no = r.failed; source = d }) c.at.attached
      (subst (λ (u : Purpose). OldFollows u r.failed r.outcome.followers) aim k.promoted.old) in
      under-shown s.world r.failed.0 x e d under

-- ---- a turn

module _ (s now : State) (room : now.reads < 2 ^ 64 - 1) (on : ReadsOn s now) (given : AreGiven s) (r : Recovery) (c : CoversSoFar s.world r) (k : EndsKept s.book s.slots r) where
  -- one that stays as it is
  ends-stay : EndsKept now.book now.slots r
  ends-stay = record {
    promoted = λ n lines crowned at p ops. stays s now room on given TakesWrites n (shows-promoted s r c lines at n crowned p) (k.promoted n lines crowned at p ops);
    old = λ d n lines aim at p ops. stays s now room on given (IsBelow d) r.failed (shows-old s r c lines at d aim) (k.old d n lines aim at p ops);
  }

  -- the one whose turn it is: what it looks at is stored
  module _ (t : Taken) (whole : IsWholeBy s.world (next_count s.reads) (moment_at s) r t) (stores : (m : ServerNo) → t.observation ≡ Some (shown_at s m) → IsKeptSo s.book (shown_at s m) now.book × (now.reads ≡ next_count s.reads)) where
    looked : (Q : Status → Type 0) (m : ServerNo) → Shows Q s m → LooksNow s.world (next_count s.reads) (moment_at s) m t.observation → IsKept Q now.book now.slots m
    looked Q m shows l = let h = stores m l.observes in begins s now room on given Q m shows l.seen l.shows h.0 h.1

    ends-turn : EndsKept now.book now.slots t.recovery
    ends-turn = record {
      promoted = λ n lines crowned at p ops.
          let h = (whole n lines crowned at p).0 ops in
          looked TakesWrites n (shows-promoted s r c lines h.at n (subst (λ (u : Purpose). crowns u ≡ true) h.purpose crowned) (sym h.promoted ∙ p)) h.looks;
      old = λ d n lines aim at p ops. old-by d n lines aim at p ops;
    }
      where
        old-by : (d n : ServerNo) (lines : List Line) → t.recovery.purpose ≡ purpose.Takeover d → t.recovery.stage ≡ stage.Close lines → t.recovery.outcome.promoted ≡ Some n
            → (t.recovery.core.ops ≡ op.Status n None ∷ op.Finish lines ∷ []) ⊎ (t.recovery.core.ops ≡ op.Finish lines ∷ []) → IsKept (IsBelow d) now.book now.slots t.recovery.failed
        old-by d n lines aim at p (inl ops) =
            let h = (whole n lines (ap crowns aim) at p).1 d aim ops in
            subst (IsKept (IsBelow d) now.book now.slots) (sym h.failed) (looked (IsBelow d) r.failed (shows-old s r c lines h.at d (sym h.purpose ∙ aim)) h.looks)
        old-by d n lines aim at p (inr ops) =
            let h = (whole n lines (ap crowns aim) at p).0 ops in
            subst (IsKept (IsBelow d) now.book now.slots) (sym h.failed)
            (stays s now room on given (IsBelow d) r.failed (shows-old s r c lines h.at d (sym h.purpose ∙ aim)) (k.old d n lines (sym h.purpose ∙ aim) h.at (sym h.promoted ∙ p) (inl h.ops)))

-- ---- every turn

abbrev pub EndsBeside : BookState → List (Option Observation) → Unended → Type 0
EndsBeside b xs (unended.Plan j) = Unit {0}
EndsBeside b xs (unended.Recovery r docket) = EndsKept b xs r

-- what begins is at another stage
once-far : (b : BookState) (xs : List (Option Observation)) (s : State) (u : Unended) → BeginsOnce s u → EndsBeside b xs u
once-far b xs s (unended.Plan j) once = tt
once-far b xs s (unended.Recovery r docket) once =
    subst (λ (x : Recovery). EndsKept b xs x) (sym once.fresh)
    (far b xs (begun_recovery r.purpose r.means r.core.id r.core.wait r.failed r.replicas r.order) (λ lines at. off r.purpose lines at))
  where
    off : (u : Purpose) (lines : List Line) → first_stage u r.failed ≡ stage.Close lines → ⊥
    off purpose.Regroup lines at = cc
    off _ lines at = cc

module _ (count : ℕ) (s : State) (ready : Ready count s) (covered : CoveredState s) (speaking : SpeakingState s) (ups : (id : ℕ) → UpState (λ x. true) id s) (given : AreGiven s) (ends : All (EndsBeside s.book s.slots) s.jobs) where
  -- what is needed of each
  abbrev Has : Unended → Type 0
  Has u = IsCoveredBeside s.world u × IsSpeakingBeside u × EndsBeside s.book s.slots u

  -- what the turn observes is stored
  abbrev Stores : State → Option Observation → Type 0
  Stores now o = (m : ServerNo) → o ≡ Some (shown_at s m) → IsKeptSo s.book (shown_at s m) now.book × (now.reads ≡ next_count s.reads)

  all-has : All Has s.jobs
  all-has i d lt = (covered.jobs i d lt, speaking.jobs i d lt, ends i d lt)

  module _ (now : State) (room : now.reads < 2 ^ 64 - 1) (on : ReadsOn s now) where
    beside-stays : (u : Unended) → Has u → EndsBeside now.book now.slots u
    beside-stays (unended.Plan j) h = tt
    beside-stays (unended.Recovery r docket) h = ends-stay s now room on given r h.0 h.2

    all-stay : All (EndsBeside now.book now.slots) s.jobs
    all-stay = All-weaker Has (EndsBeside now.book now.slots) beside-stays s.jobs all-has

    -- the one whose turn it is
    turn-next : (id : ℕ) (u : Unended) → job_at s.jobs id ≡ Some u → Stores now (turn_of s u).observation → Has u
        → is_going (turn_of s u).step ≡ true → EndsBeside now.book now.slots (turn_of s u).next
    turn-next id (unended.Plan j) at stores h = λ going. tt
    turn-next id (unended.Recovery r docket) at stores h = λ going.
        hooked-has (λ x. is_going x.step ≡ true → Stores now x.observation → EndsKept now.book now.slots x.recovery) docket (promoted_in s.book t) r t own (λ x g sees. ends-stay s now room on given r h.0 h.2) going stores
      where
        t : Taken
        t = taken s.world s.book (next_count s.reads) (moment_at s) r

        up : UpSoFar (λ x. true) s.world r
        up =
            (All-find (λ (k : Unended). number_of k ≡ r.core.id → IsUpBeside (λ x. true) s.world k) (λ (k : Unended). number_of k == id) s.jobs (unended.Recovery r docket) (ups r.core.id).jobs at refl).0

        own : (x : JobStep) → is_going x ≡ is_going t.step → is_going x ≡ true → Stores now t.observation → EndsKept now.book now.slots t.recovery
        own x same going sees =
            ends-turn s now room on given r h.0 h.2 t
            (taken-whole s.world s.book (next_count s.reads) (moment_at s) r h.1.way up.reads (sym same ∙ going)) sees

  -- by what orchestrator does
  act-ends : (rows : List Row) (a : Act) → act_asks a ≡ false → IsAct count a → (after_act rows s a).reads < 2 ^ 64 - 1 → All (EndsBeside (after_act rows s a).book (after_act rows s a).slots) (after_act rows s a).jobs
  act-ends rows (act.PollRead p n) plain is room = all-stay (after_act rows s (act.PollRead p n)) room (act-reads count rows s ready (act.PollRead p n) plain)
  act-ends rows (act.PollStore p) plain is room = all-stay (after_act rows s (act.PollStore p)) room (act-reads count rows s ready (act.PollStore p) plain)
  act-ends rows (act.Command c) plain is room =
      let now = after_act rows s (act.Command c) in
      with-command (EndsBeside now.book now.slots) count s (once-far now.book now.slots s) ready (all-stay now room (act-reads count rows s ready (act.Command c) plain)) c is
  act-ends rows (act.Job id) plain is room = go (job_at s.jobs id) refl
    where
      now : State
      now = after_act rows s (act.Job id)

      on : ReadsOn s now
      on = act-reads count rows s ready (act.Job id) plain

      go : (o : Option Unended) → job_at s.jobs id ≡ o → All (EndsBeside now.book now.slots) (jobs_turned s.jobs id (option_map (turn_of s) o))
      go None at = all-stay now room on
      go (Some u) at =
          all-turned Has (EndsBeside now.book now.slots) id (λ k apart h. beside-stays now room on k h) s.jobs (turn_of s u)
          (turn-next now room on id u at (λ m sees. let h = turn-stores rows s id u m at sees in (h.kept, h.reads)) (All-find Has (λ (k : Unended). number_of k == id) s.jobs u all-has at)) all-has
  act-ends rows act.Scan plain is room =
      let now = after_act rows s act.Scan in
      with-scan (EndsBeside now.book now.slots) count s (once-far now.book now.slots s) ready (all-stay now room (act-reads count rows s ready act.Scan plain))
  act-ends rows act.Restart plain is room = cc

  done-ends : (rows : List Row) (o : Option Act) → done_asks o ≡ false → IfSome o (IsAct count) → (after_done rows s o).reads < 2 ^ 64 - 1 → All (EndsBeside (after_done rows s o).book (after_done rows s o).slots) (after_done rows s o).jobs
  done-ends rows None plain is room = ends
  done-ends rows (Some a) plain is room = act-ends rows a plain is room

  turn-ends : (rows : List Row) (t : Turn) → asks s t ≡ false → IsTurn count t → (step rows s t).reads < 2 ^ 64 - 1 → All (EndsBeside (step rows s t).book (step rows s t).slots) (step rows s t).jobs
  turn-ends rows (turn.Act a) plain is room = act-ends rows a plain is room
  turn-ends rows (turn.As node a) plain is room = done-ends rows (act_in s (turn.As node a)) plain (act-fits count s (turn.As node a) is) room
  turn-ends rows (turn.Claim node) plain is room = done-ends rows (act_in s (turn.Claim node)) plain (act-fits count s (turn.Claim node) is) room
  turn-ends rows _ plain is room = ends

-- ---- along a run

-- as long as the count of readings has room
pub record KeepsEnds (s : State) : Type 0 where
  pub given : s.reads < 2 ^ 64 - 1 → AreGiven s
  pub ends : s.reads < 2 ^ 64 - 1 → All (EndsBeside s.book s.slots) s.jobs

pub keeps-step : (count : ℕ) (rows : List Row) (s : State) (t : Turn) → IsTurn count t → Ready count s → CoveredState s → SpeakingState s → ((id : ℕ) → UpState (λ x. true) id s) → LoadsGiven s (rows, t) → KeepsEnds s → KeepsEnds (step rows s t)
keeps-step count rows s t is ready covered speaking ups loads keeps = by (asks s t) refl
  where
    by : (a : Bool) → asks s t ≡ a → KeepsEnds (step rows s t)
    by true asked =
        let h = turn-empties rows s t asked in
        record {
          given = λ room. (loads asked, λ p o at. absurd (h.slots p o at));
          ends = λ room. subst (λ (us : List Unended). All (EndsBeside (step rows s t).book (step rows s t).slots) us) (sym h.jobs) (All-nil (EndsBeside (step rows s t).book (step rows s t).slots));
        }
    by false its =
        let on = turn-reads count rows s ready t its in
        record {
          given = λ room. given-on s (step rows s t) room on (keeps.given (room-before s.reads (step rows s t).reads on.count room));
          ends = λ room.
              let before = room-before s.reads (step rows s t).reads on.count room in
              turn-ends count s ready covered speaking ups (keeps.given before) (keeps.ends before) rows t its is room;
        }

pub keeps-start : (s : Scenario) (wait : ℕ) (rows : List Row) → KeepsEnds (start s wait rows)
keeps-start s wait rows = record {
  given = λ room. (openings-give-numbers s wait rows, λ p o at. absurd (no-slot pollers p o at));
  ends = λ room. All-nil (EndsBeside (start s wait rows).book (start s wait rows).slots);
}

-- ---- the turn in which a recovery is done

pub booked-last : (count : ℕ) (rows : List Row) (s : State) (id : ℕ) (r : Recovery) (docket : Docket) (own : List Line) → job_at s.jobs id ≡ Some (unended.Recovery r docket) → Ready count s → CoveredState s → SpeakingState s → ((k : ℕ) → UpState (λ x. true) k s)
    → All (HasReplicas s.book) s.jobs → KeepsEnds s → (step rows s (turn.Act (act.Job id))).reads < 2 ^ 64 - 1 → (turn_taken s r).step ≡ job_step.Done own → (w : World) (lines : List Line) → IsTold w (recovery_after s r) lines
    → BooksAtLast (step rows s (turn.Act (act.Job id))).book (recovery_after s r)
booked-last count rows s id r docket own found ready covers speaking ups there keeps room done w lines told = record {
  promoted = λ n crowned p.
      let h = last n crowned p in
      has-seen TakesWrites now.book n (has-still n crowned p)
      (stays s now room on given TakesWrites n (shows-promoted s r covered lines h.at n (subst (λ (u : Purpose). crowns u ≡ true) h.purpose crowned) (sym h.promoted ∙ p))
      (kept.promoted n lines (subst (λ (u : Purpose). crowns u ≡ true) h.purpose crowned) h.at (sym h.promoted ∙ p) h.ops)).kept;
  old = λ d aim.
      let h = last told.covers.promoted (ap crowns aim) told.covers.is_promoted in
      has-seen (IsBelow d) now.book (recovery_after s r).failed (still-there (recovery_after s r).failed (old-owed d aim))
      (subst (λ (n : ServerNo). (i : Instance) → instance_at now.book n ≡ Some i → IsBelow d i.seen) (sym h.failed)
      (stays s now room on given (IsBelow d) r.failed (shows-old s r covered lines h.at d (sym h.purpose ∙ aim))
      (kept.old d told.covers.promoted lines (sym h.purpose ∙ aim) h.at (sym h.promoted ∙ told.covers.is_promoted) (inr h.ops))).kept);
}
  where
    now : State
    now = step rows s (turn.Act (act.Job id))

    on : ReadsOn s now
    on = act-reads count rows s ready (act.Job id) refl

    -- whoever is owed a place is still there
    still-there : (n : ServerNo) → 0 < times n.0 (owed (recovery_after s r).purpose (recovery_after s r).failed (recovery_after s r).replicas) → IsThere now.book n
    still-there n one =
        let aim = taken-aim s.world s.book (next_count s.reads) (moment_at s) r in
        let all = All-find (HasReplicas s.book) (λ (k : Unended). number_of k == id) s.jobs (unended.Recovery r docket) there found in
        job-leaves rows s id n (all n (subst (λ (ks : List ServerNo). 0 < times n.0 ks) (owes-alike r (recovery_after s r) aim) one))

    -- so is the promoted one, which is one of the replicas
    has-still : (n : ServerNo) → crowns (recovery_after s r).purpose ≡ true → (recovery_after s r).outcome.promoted ≡ Some n → IsThere now.book n
    has-still n crowned p =
        still-there n (owes-replicas (recovery_after s r).purpose (recovery_after s r).failed (recovery_after s r).replicas n
        (promoted-one w (recovery_after s r).purpose (recovery_after s r).failed (recovery_after s r).replicas (recovery_after s r).outcome told.covers crowned n p))

    -- and so is a takeover's master
    old-owed : (d : ServerNo) → (recovery_after s r).purpose ≡ purpose.Takeover d → 0 < times (recovery_after s r).failed.0 (owed (recovery_after s r).purpose (recovery_after s r).failed (recovery_after s r).replicas)
    old-owed d aim =
        subst (λ (u : Purpose). 0 < times (recovery_after s r).failed.0 (owed u (recovery_after s r).failed (recovery_after s r).replicas)) (sym aim)
        (owes-master d (recovery_after s r).failed (recovery_after s r).replicas)

    before : s.reads < 2 ^ 64 - 1
    before = room-before s.reads now.reads on.count room

    given : AreGiven s
    given = keeps.given before

    covered : CoversSoFar s.world r
    covered = All-find (IsCoveredBeside s.world) (λ (k : Unended). number_of k == id) s.jobs (unended.Recovery r docket) covers.jobs found

    speaks : Speaks r
    speaks = All-find IsSpeakingBeside (λ (k : Unended). number_of k == id) s.jobs (unended.Recovery r docket) speaking.jobs found

    kept : EndsKept s.book s.slots r
    kept = All-find (EndsBeside s.book s.slots) (λ (k : Unended). number_of k == id) s.jobs (unended.Recovery r docket) (keeps.ends before) found

    up : UpSoFar (λ x. true) s.world r
    up =
        (All-find (λ (k : Unended). number_of k ≡ r.core.id → IsUpBeside (λ x. true) s.world k) (λ (k : Unended). number_of k == id) s.jobs (unended.Recovery r docket) (ups r.core.id).jobs found refl).0

    last : (n : ServerNo) → crowns (recovery_after s r).purpose ≡ true → (recovery_after s r).outcome.promoted ≡ Some n → WasLast r (turn_taken s r) lines
    last n crowned p = taken-last s.world s.book (next_count s.reads) (moment_at s) r speaks.way up.reads own lines n done told.closed crowned p
