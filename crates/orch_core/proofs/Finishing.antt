-- A job's rounds lead to its end.
use Rattle.std.proofs.Common.{◌≡◌, ◌∙◌, ℕ, zero, suc, ◌+◌, ◌<◌, ◌≤◌, Bool, true, false, cond, List, [], ◌∷◌, ◌++◌, length, take, refl, sym, ap, subst, Option, Some, None, append_assoc, append-nil, add-one, ltb, arith, All, not, ◌==◌, is_some, slice_get, if◌then◌else◌}
use Rattle.orch_core.proofs.Prelude.{Act, All-append, All-cons, All-head, All-nil, All-tail, FinishedBy, Flown, Held, IsState, IsTurn, IsUnended}
use Rattle.orch_core.proofs.Prelude.{LeadsTo, Machine, NamesOneOf, Ran, Reply, Row, ServerNo, State, Turn, TurnFault, Unended, WasCutOff, WasCutShort}
use Rattle.orch_core.proofs.Prelude.{act_asks, act_in, after_act, after_done, after_rounds, after_turns, asks, by_name, done_asks, engine, eq-eqb}
use Rattle.orch_core.proofs.Prelude.{false≢true, flat_map, flown-fewer, flown-number, fold-append, found-number, held_run, held_step, is_going}
use Rattle.orch_core.proofs.Prelude.{is_open, job_at, jobs_turned, length-append, ltb-false, ltb-true, most_turns, most_turns_by, next_count}
use Rattle.orch_core.proofs.Prelude.{number_of, option_map, pollers, polls, ready-of, replicates, reply_of, round_of, round_over, run_turns, step}
use Rattle.orch_core.proofs.Prelude.{take-append-add, times, told_in, turn_of, turned_at, turns_of, with_claims, with_job, without_job}
use Rattle.orch_core.proofs.Prelude.UnendedJobs.{turns_of as turns_left}
use Rattle.orch_core.proofs.Prelude.act
use Rattle.orch_core.proofs.Prelude.fault
use Rattle.orch_core.proofs.Prelude.turn
use Rattle.orch_core.proofs.Prelude.turns_step as step
use Rattle.orch_core.proofs.Others.{closed-others, turned-others}
use Rattle.orch_core.proofs.Runs.{Ran-nil}
use Rattle.orch_core.proofs.Turned.{All-found}

-- ---- turns of which none asks for rows lead to one state

-- in no state
abbrev pub AsksNever : Turn → Type 0
AsksNever t = (s : State) → asks s t ≡ false

abbrev pub AsksNothing : List Turn → Type 0
AsksNothing ts = All AsksNever ts

act-any : (rows : List Row) (s : State) (a : Act) → act_asks a ≡ false → after_act rows s a ≡ after_act [] s a
act-any rows s act.Restart e = absurd (false≢true (sym e))
act-any rows s _ e = refl

done-any : (rows : List Row) (s : State) (o : Option Act) → done_asks o ≡ false → after_done rows s o ≡ after_done [] s o
done-any rows s None e = refl
done-any rows s (Some a) e = act-any rows s a e

pub step-any : (rows : List Row) (s : State) (t : Turn) → asks s t ≡ false → step rows s t ≡ step [] s t
step-any rows s (turn.Act a) e = act-any rows s a e
step-any rows s (turn.As node a) e = ap (with_claims s (turn.As node a)) (done-any rows s (act_in s (turn.As node a)) e)
step-any rows s (turn.Claim node) e = ap (with_claims s (turn.Claim node)) (done-any rows s (act_in s (turn.Claim node)) e)
step-any rows s _ e = refl

-- ---- the jobs after a round

-- a turn of the servers or of a poll leaves the jobs
jobs-replicates : (s : State) (servers : List ServerNo) → (after_turns s (flat_map replicates servers)).jobs ≡ s.jobs
jobs-replicates s [] = refl
jobs-replicates s (n ∷ ns) = jobs-replicates (step [] (step [] s (turn.Step (step.Fetch n))) (turn.Step (step.Apply n))) ns

jobs-polls : (s : State) (servers : List ServerNo) → (after_turns s (flat_map polls servers)).jobs ≡ s.jobs
jobs-polls s [] = refl
jobs-polls s (n ∷ ns) = jobs-polls (step [] (step [] s (turn.Act (act.PollRead 0 n))) (turn.Act (act.PollStore 0))) ns

pub jobs-round : (s : State) (servers : List ServerNo) (job : ℕ) → (after_turns s (round_over servers job)).jobs ≡ jobs_turned s.jobs job (turned_at s job)
jobs-round s servers job =
    let first = step [] s (turn.Act (act.Job job)) in
    ap (λ (x : State). x.jobs) (fold-append (step []) first (flat_map replicates servers) (flat_map polls servers))
    ∙ jobs-polls (after_turns first (flat_map replicates servers)) servers ∙ jobs-replicates first servers

-- ---- a job that goes on has fewer turns

at-with : (jobs : List Unended) (id : ℕ) (j k : Unended) → number_of k ≡ id → job_at jobs id ≡ Some j → job_at (with_job jobs id k) id ≡ Some k
at-with [] id j k same found = cc
at-with (x ∷ xs) id j k same found = go (number_of x == id) refl found (at-with xs id j k same)
  where
    go : (b : Bool) → (number_of x == id) ≡ b → cond b (Some x) (job_at xs id) ≡ Some j → (job_at xs id ≡ Some j → job_at (with_job xs id k) id ≡ Some k)
        → job_at ((if b then k else x) ∷ with_job xs id k) id ≡ Some k
    go true e h rest = ap (λ b. cond b (Some k) (job_at (with_job xs id k) id)) (eq-eqb (number_of k) id same)
    go false e h rest = ap (λ b. cond b (Some x) (job_at (with_job xs id k) id)) e ∙ rest h

at-without : (jobs : List Unended) (id : ℕ) → job_at (without_job jobs id) id ≡ None
at-without [] id = refl
at-without (x ∷ xs) id = go (number_of x == id) refl (at-without xs id)
  where
    go : (b : Bool) → (number_of x == id) ≡ b → job_at (without_job xs id) id ≡ None → job_at (cond (not b) (x ∷ without_job xs id) (without_job xs id)) id ≡ None
    go true e rest = rest
    go false e rest = ap (λ b. cond b (Some x) (job_at (without_job xs id) id)) e ∙ rest

-- a job's turn leaves its job fewer turns
pub fewer : (jobs : List Unended) (id : ℕ) (j : Unended) (t : Flown) → job_at jobs id ≡ Some j → (is_going t.step ≡ true → (number_of t.next ≡ id) × (turns_left t.next < turns_left j)) → most_turns (jobs_turned jobs id (Some t)) id < most_turns jobs id
fewer jobs id j t found moves = go (is_going t.step) refl
  where
    before : most_turns jobs id ≡ turns_left j + 1
    before = ap most_turns_by found

    go : (b : Bool) → is_going t.step ≡ b → most_turns (if b then with_job jobs id t.next else without_job jobs id) id < most_turns jobs id
    go true e =
        let on = moves e in
        let now = ap most_turns_by (at-with jobs id j t.next on.0 found) in
        let less = on.1 in
        omega (arith, before, now, less)
    go false e = let now = ap most_turns_by (at-without jobs id) in omega (arith, before, now)

-- ---- runs of such turns

-- of each machine that keeps a state beside
module _ {A : Type 0} (m : Machine A) (state : A → State) (steps : (rows : List Row) (a : A) (t : Turn) → state (m.next rows a t) ≡ step rows (state a) t) where
  runs-any : (a : A) (xs : List (List Row × Turn)) → AsksNothing (turns_of xs) → state (run_turns m a xs) ≡ after_turns (state a) (turns_of xs)
  runs-any a [] none = refl
  runs-any a (x ∷ xs) none =
      runs-any (m.next x.0 a x.1) xs (All-tail AsksNever x.1 (turns_of xs) none)
      ∙ ap (λ (s : State). after_turns s (turns_of xs)) (steps x.0 a x.1 ∙ step-any x.0 (state a) x.1 (All-head AsksNever x.1 (turns_of xs) none (state a)))

  held-any : (h : Held A) (ts : List Turn) → AsksNothing ts → state (held_run m h ts).state ≡ after_turns (state h.state) ts
  held-any h [] none = refl
  held-any h (t ∷ ts) none =
      held-any (held_step m h t) ts (All-tail AsksNever t ts none)
      ∙ ap (λ (s : State). after_turns s ts) (steps h.rows h.state t ∙ step-any h.rows (state h.state) t (All-head AsksNever t ts none (state h.state)))

  pub leads-any : (kept : Option (List Row)) (a now : A) (ts : List Turn) → AsksNothing ts → LeadsTo m kept a ts now → state now ≡ after_turns (state a) ts
  leads-any None a now ts none leads =
      ap state leads.2 ∙ runs-any a leads.0 (subst AsksNothing (sym leads.1) none) ∙ ap (after_turns (state a)) leads.1
  leads-any (Some rows) a now ts none leads = ap state leads ∙ held-any (record { rows = rows; state = a }) ts none

-- turns after turns

turns_of-append : (xs ys : List (List Row × Turn)) → turns_of (xs ++ ys) ≡ turns_of xs ++ turns_of ys
turns_of-append [] ys = refl
turns_of-append (x ∷ xs) ys = ap (λ (ts : List Turn). x.1 ∷ ts) (turns_of-append xs ys)

run_turns-append : {A : Type 0} (m : Machine A) (a : A) (xs ys : List (List Row × Turn)) → run_turns m a (xs ++ ys) ≡ run_turns m (run_turns m a xs) ys
run_turns-append m a [] ys = refl
run_turns-append m a (x ∷ xs) ys = run_turns-append m (m.next x.0 a x.1) xs ys

held_run-append : {A : Type 0} (m : Machine A) (h : Held A) (ts us : List Turn) → held_run m h (ts ++ us) ≡ held_run m (held_run m h ts) us
held_run-append m h ts us = fold-append (held_step m) h ts us

pub Ran-append : {A : Type 0} (m : Machine A) (kept kept' kept'' : Option (List Row)) (a b c : A) (ts us : List Turn) → Ran m kept a ts kept' b → Ran m kept' b us kept'' c → Ran m kept a (ts ++ us) kept'' c
Ran-append m None kept' kept'' a b c ts us one two =
    let after = subst (λ k. Ran m k b us kept'' c) one.rows two in
    record {
      state = (
        one.state.0 ++ after.state.0,
        turns_of-append one.state.0 after.state.0 ∙ ap (λ (x : List Turn). x ++ turns_of after.state.0) one.state.1 ∙ ap (λ (x : List Turn). ts ++ x) after.state.1,
        after.state.2 ∙ ap (λ x. run_turns m x after.state.0) one.state.2 ∙ sym (run_turns-append m a one.state.0 after.state.0),
      );
      rows = after.rows;
    }
Ran-append {A = A} m (Some rows) kept' kept'' a b c ts us one two =
    let h : Held A = record { rows = rows; state = a } in
    let after = subst (λ k. Ran m k b us kept'' c) one.rows two in
    let here : record { rows = (held_run m h ts).rows; state = b } ≡ held_run m h ts = ap (λ (x : A). record { rows = (held_run m h ts).rows; state = x }) one.state in
    let both : held_run m (record { rows = (held_run m h ts).rows; state = b }) us ≡ held_run m h (ts ++ us) = ap (λ (x : Held A). held_run m x us) here ∙ sym (held_run-append m h ts us) in
    record {
      state = after.state ∙ ap (λ (x : Held A). x.state) both;
      rows = after.rows ∙ ap (λ (x : Held A). Some x.rows) both;
    }

-- ---- rounds

times-more : (k : ℕ) (ts : List Turn) → times k ts ++ ts ≡ times (k + 1) ts
times-more zero ts = sym (append-nil ts)
times-more (suc k) ts = append_assoc ts (times k ts) ts ∙ ap (λ (x : List Turn). ts ++ x) (times-more k ts) ∙ (let same : suc (k + 1) ≡ suc k + 1 = omega arith in ap (λ (n : ℕ). times n ts) same)

-- so many rounds were taken, each while the job was open, and left it so many turns less, and the other jobs
pub record Rounds {A : Type 0} (m : Machine A) (state : A → State) (kept : Option (List Row)) (a : A) (job : ℕ) (kept' : Option (List Row)) (now : A) (k : ℕ) : Type 0 where
  pub here : state now ≡ after_rounds (state a) job k
  pub goes_on : (i : ℕ) → i < k → is_open (after_rounds (state a) job i).jobs job ≡ true
  pub left : k + most_turns (state now).jobs job ≤ most_turns (state a).jobs job
  pub others : without_job (state now).jobs job ≡ without_job (state a).jobs job
  pub ran : Ran m kept a (times k (round_of (state a) job)) kept' now

-- a round leaves an open job fewer turns
round-fewer : (s : State) (job : ℕ) → IsState s → is_open s.jobs job ≡ true → most_turns (jobs_turned s.jobs job (turned_at s job)) job < most_turns s.jobs job
round-fewer s job is opened = go (job_at s.jobs job) refl opened
  where
    go : (o : Option Unended) → job_at s.jobs job ≡ o → is_some o ≡ true → most_turns (jobs_turned s.jobs job (turned_at s job)) job < most_turns s.jobs job
    go None e h = absurd (false≢true h)
    go (Some j) e h =
        let range = All-found (IsUnended (length s.world.servers)) s.jobs job j is.jobs e in
        subst (λ (t : Option Flown). most_turns (jobs_turned s.jobs job t) job < most_turns s.jobs job) (sym (ap (option_map (turn_of s)) e))
        (fewer s.jobs job j (turn_of s j) e
        (λ g. (
          flown-number (length s.world.servers) s.world s.book (next_count s.reads) (record { 0 = s.moment }) j (ready-of (length s.world.servers) j range) g ∙ found-number s.jobs job j e,
          flown-fewer (length s.world.servers) s.world s.book (next_count s.reads) (record { 0 = s.moment }) j (ready-of (length s.world.servers) j range) g,
        )))

asks-replicates : (servers : List ServerNo) → AsksNothing (flat_map replicates servers)
asks-replicates [] = All-nil AsksNever
asks-replicates (n ∷ ns) = All-cons AsksNever (turn.Step (step.Fetch n)) (turn.Step (step.Apply n) ∷ flat_map replicates ns) (λ s. refl) (All-cons AsksNever (turn.Step (step.Apply n)) (flat_map replicates ns) (λ s. refl) (asks-replicates ns))

asks-polls : (servers : List ServerNo) → AsksNothing (flat_map polls servers)
asks-polls [] = All-nil AsksNever
asks-polls (n ∷ ns) = All-cons AsksNever (turn.Act (act.PollRead 0 n)) (turn.Act (act.PollStore 0) ∷ flat_map polls ns) (λ s. refl) (All-cons AsksNever (turn.Act (act.PollStore 0)) (flat_map polls ns) (λ s. refl) (asks-polls ns))

pub asks-round : (servers : List ServerNo) (job : ℕ) → AsksNothing (round_over servers job)
asks-round servers job = All-cons AsksNever (turn.Act (act.Job job)) (flat_map replicates servers ++ flat_map polls servers) (λ s. refl) (All-append AsksNever (flat_map replicates servers) (flat_map polls servers) (asks-replicates servers) (asks-polls servers))

-- the turns of a round are turns over the servers
module _ (count : ℕ) where
  turns-replicates : (servers : List ServerNo) → All (λ n. n.0 < count) servers → All (IsTurn count) (flat_map replicates servers)
  turns-replicates [] all = All-nil (IsTurn count)
  turns-replicates (n ∷ ns) all =
      let here = All-head (λ (k : ServerNo). k.0 < count) n ns all in
      All-cons (IsTurn count) (turn.Step (step.Fetch n)) (turn.Step (step.Apply n) ∷ flat_map replicates ns) here (All-cons (IsTurn count) (turn.Step (step.Apply n)) (flat_map replicates ns) here (turns-replicates ns (All-tail (λ (k : ServerNo). k.0 < count) n ns all)))

  turns-polls : (servers : List ServerNo) → All (λ n. n.0 < count) servers → All (IsTurn count) (flat_map polls servers)
  turns-polls [] all = All-nil (IsTurn count)
  turns-polls (n ∷ ns) all =
      let here = All-head (λ (k : ServerNo). k.0 < count) n ns all in
      let first : 0 < pollers = omega arith in
      All-cons (IsTurn count) (turn.Act (act.PollRead 0 n)) (turn.Act (act.PollStore 0) ∷ flat_map polls ns) (first, here) (All-cons (IsTurn count) (turn.Act (act.PollStore 0)) (flat_map polls ns) first (turns-polls ns (All-tail (λ (k : ServerNo). k.0 < count) n ns all)))

  pub turns-round : (servers : List ServerNo) (job : ℕ) → All (λ n. n.0 < count) servers → All (IsTurn count) (round_over servers job)
  turns-round servers job all = All-cons (IsTurn count) (turn.Act (act.Job job)) (flat_map replicates servers ++ flat_map polls servers) tt (All-append (IsTurn count) (flat_map replicates servers) (flat_map polls servers) (turns-replicates servers all) (turns-polls servers all))

-- and name no orchestrator
module _ (nodes : ℕ) where
  named-replicates : (servers : List ServerNo) → All (NamesOneOf nodes) (flat_map replicates servers)
  named-replicates [] = All-nil (NamesOneOf nodes)
  named-replicates (n ∷ ns) =
      All-cons (NamesOneOf nodes) (turn.Step (step.Fetch n)) (turn.Step (step.Apply n) ∷ flat_map replicates ns) tt (All-cons (NamesOneOf nodes) (turn.Step (step.Apply n)) (flat_map replicates ns) tt (named-replicates ns))

  named-polls : (servers : List ServerNo) → All (NamesOneOf nodes) (flat_map polls servers)
  named-polls [] = All-nil (NamesOneOf nodes)
  named-polls (n ∷ ns) =
      All-cons (NamesOneOf nodes) (turn.Act (act.PollRead 0 n)) (turn.Act (act.PollStore 0) ∷ flat_map polls ns) tt (All-cons (NamesOneOf nodes) (turn.Act (act.PollStore 0)) (flat_map polls ns) tt (named-polls ns))

  pub named-others : (servers : List ServerNo) → All (NamesOneOf nodes) (flat_map replicates servers ++ flat_map polls servers)
  named-others servers = All-append (NamesOneOf nodes) (flat_map replicates servers) (flat_map polls servers) (named-replicates servers) (named-polls servers)

  pub named-round : (servers : List ServerNo) (job : ℕ) → All (NamesOneOf nodes) (round_over servers job)
  named-round servers job = All-cons (NamesOneOf nodes) (turn.Act (act.Job job)) (flat_map replicates servers ++ flat_map polls servers) tt (named-others servers)

module _ {A : Type 0} (m : Machine A) (state : A → State) (steps : (rows : List Row) (a : A) (t : Turn) → state (m.next rows a t) ≡ step rows (state a) t) where
  pub Rounds-none : (kept : Option (List Row)) (a : A) (job : ℕ) → Rounds m state kept a job kept a 0
  Rounds-none kept a job = record {
    here = refl;
    goes_on = λ i h. absurd (omega (arith, h));
    left = omega arith;
    others = refl;
    ran = Ran-nil m kept a;
  }

  pub Rounds-more : (kept kept' kept'' : Option (List Row)) (a b c : A) (job k : ℕ) → IsState (state b) → Rounds m state kept a job kept' b k → is_open (state b).jobs job ≡ true
      → Ran m kept' b (round_of (state a) job) kept'' c → Rounds m state kept a job kept'' c (k + 1)
  Rounds-more kept kept' kept'' a b c job k is rounds opened ran =
      let round = round_of (state a) job in
      let led = leads-any m state steps kept' b c round (asks-round (by_name (state a).book.names) job) ran.state in
      let fewer_now = round-fewer (state b) job is opened in
      let jobs : (state c).jobs ≡ jobs_turned (state b).jobs job (turned_at (state b) job) = ap (λ (s : State). s.jobs) led ∙ jobs-round (state b) (by_name (state a).book.names) job in
      let most = ap (λ (js : List Unended). most_turns js job) jobs in
      let before = rounds.left in
      record {
        here =
            led ∙ ap (λ (s : State). after_turns s round) rounds.here ∙ sym (fold-append (step []) (state a) (times k round) round)
            ∙ ap (after_turns (state a)) (times-more k round);
        goes_on = λ i h. by i h (ltb i k) refl;
        left = omega (arith, fewer_now, most, before);
        others = ap (λ (js : List Unended). without_job js job) jobs ∙ turned-others (state b) job is ∙ rounds.others;
        ran = subst (λ ts. Ran m kept a ts kept'' c) (times-more k round) (Ran-append m kept kept' kept'' a b c (times k round) round rounds.ran ran);
      }
    where
      by : (i : ℕ) → i < k + 1 → (less : Bool) → ltb i k ≡ less → is_open (after_rounds (state a) job i).jobs job ≡ true
      by i h true e = rounds.goes_on i (ltb-true i k e)
      by i h false e =
          let past = ltb-false i k e in
          let same : i ≡ k = omega (arith, h, past) in
          ap (λ (n : ℕ). is_open (after_rounds (state a) job n).jobs job) same ∙ ap (λ (s : State). is_open s.jobs job) (sym rounds.here) ∙ opened

  pub Finished-others : (kept kept' : Option (List Row)) (a b : A) (job k : ℕ) → Rounds m state kept a job kept' b k → is_open (state b).jobs job ≡ false → (state b).jobs ≡ without_job (state a).jobs job
  Finished-others kept kept' a b job k rounds closed = sym (closed-others (state b).jobs job closed) ∙ rounds.others

slice-past : {A : Type 0} (xs ys : List A) (n i : ℕ) → i ≡ length xs + n → slice_get (xs ++ ys) i ≡ slice_get ys n
slice-past [] ys n i e = ap (slice_get ys) (omega (arith, e))
slice-past (x ∷ xs) ys n zero e = absurd (omega (arith, e))
slice-past (x ∷ xs) ys n (suc i) e = slice-past xs ys n i (omega (arith, e))

-- a run over a prefix of some turns that was cut off at one of those after it
pub cut-behind : {A : Type 0} (m : Machine A) (kept kept' kept'' : Option (List Row)) (a b c : A) (ts us : List Turn) (why : TurnFault) → Ran m kept a ts kept' b → WasCutOff m kept' b us kept'' c why
    → WasCutOff m kept a (ts ++ us) kept'' c why
cut-behind m kept kept' kept'' a b c ts us why ran cut = record {
  k = length ts + cut.k;
  within = let within = cut.within in omega (arith, within, length-append ts us);
  ran = subst (λ (x : List Turn). Ran m kept a x kept'' c) (sym (take-append-add ts us cut.k)) (Ran-append m kept kept' kept'' a b c ts (take cut.k us) ran cut.ran);
  calls = λ failed t at. cut.calls failed t (sym (slice-past ts us cut.k (length ts + cut.k) refl) ∙ at);
}

-- an open job has a turn left
some-left : (jobs : List Unended) (job : ℕ) → is_open jobs job ≡ true → 1 ≤ most_turns jobs job
some-left jobs job opened = go (job_at jobs job) opened
  where
    go : (o : Option Unended) → is_some o ≡ true → 1 ≤ most_turns_by o
    go None e = absurd (false≢true e)
    go (Some j) e = omega arith

pub cut-round : {A : Type 0} (m : Machine A) (state : A → State) (kept kept' kept'' : Option (List Row)) (a b c : A) (job k : ℕ) (why : TurnFault) → Rounds m state kept a job kept' b k → is_open (state b).jobs job ≡ true
    → WasCutOff m kept' b (round_of (state a) job) kept'' c why → WasCutShort m state kept a job kept'' c why
cut-round m state kept kept' kept'' a b c job k why rounds opened cut = record {
  k = k + 1;
  goes_on = λ i h. by i h (ltb i k) refl;
  within = let left = rounds.left in let some = some-left (state b).jobs job opened in omega (arith, left, some);
  cut = subst (λ (ts : List Turn). WasCutOff m kept a ts kept'' c why) (times-more k (round_of (state a) job)) (cut-behind m kept kept' kept'' a b c (times k (round_of (state a) job)) (round_of (state a) job) why rounds.ran cut);
}
  where
    by : (i : ℕ) → i < k + 1 → (less : Bool) → ltb i k ≡ less → is_open (after_rounds (state a) job i).jobs job ≡ true
    by i h true e = rounds.goes_on i (ltb-true i k e)
    by i h false e =
        let past = ltb-false i k e in
        let same : i ≡ k = omega (arith, h, past) in
        ap (λ (n : ℕ). is_open (after_rounds (state a) job n).jobs job) same ∙ ap (λ (s : State). is_open s.jobs job) (sym rounds.here) ∙ opened

-- memory wanted before the first round
pub cut-first : {A : Type 0} (m : Machine A) (state : A → State) (kept : Option (List Row)) (a : A) (job : ℕ) (why : TurnFault) → (why ≡ fault.Keeper → ⊥) → is_open (state a).jobs job ≡ true → WasCutShort m state kept a job kept a why
cut-first m state kept a job why free opened = record {
  k = 1;
  goes_on = λ i h. let same : i ≡ 0 = omega (arith, h) in ap (λ (n : ℕ). is_open (after_rounds (state a) job n).jobs job) same ∙ opened;
  within = some-left (state a).jobs job opened;
  cut = record {
    k = 0;
    within = omega (arith, length-append (round_of (state a) job) []);
    ran = Ran-nil m kept a;
    calls = λ failed t at. absurd (free failed);
  };
}

-- a round leaves fewer turns, however it was taken
pub round-less : {A : Type 0} (m : Machine A) (state : A → State) (steps : (rows : List Row) (a : A) (t : Turn) → state (m.next rows a t) ≡ step rows (state a) t)
    (kept kept' : Option (List Row)) (servers : List ServerNo) (b c : A) (job : ℕ) → IsState (state b) → is_open (state b).jobs job ≡ true → Ran m kept b (round_over servers job) kept' c
    → most_turns (state c).jobs job < most_turns (state b).jobs job
round-less m state steps kept kept' servers b c job is opened ran =
    let led = leads-any m state steps kept b c (round_over servers job) (asks-round servers job) ran.state in
    let fewer_now = round-fewer (state b) job is opened in
    let most = ap (λ (s : State). most_turns s.jobs job) led ∙ ap (λ (js : List Unended). most_turns js job) (jobs-round (state b) servers job) in
    omega (arith, fewer_now, most)

-- one more round, and what the job answered in it
pub told-more : (a b : State) (job k : ℕ) (r : Reply) → b ≡ after_rounds a job k → r ≡ reply_of b (turn.Act (act.Job job)) → Some r ≡ told_in a job (k + 1)
told-more a b job k r at is = ap Some (is ∙ ap (λ (s : State). reply_of s (turn.Act (act.Job job))) at) ∙ sym (ap (told_in a job) (add-one k))

-- the rounds came to the job's end, and this is what it answered in the last of them
pub FinishedBy-told : (kept kept' : Option (List Row)) (a b : State) (job k : ℕ) (told : Option Reply) → Rounds engine (λ s. s) kept a job kept' b k → is_open b.jobs job ≡ false → told ≡ told_in a job k → FinishedBy kept a job kept' b told
FinishedBy-told kept kept' a b job k told rounds closed is =
    let left = rounds.left in
    record {
      finished = record {
        k = k;
        rounds = record { goes_on = rounds.goes_on; ended = ap (λ (s : State). is_open s.jobs job) (sym rounds.here) ∙ closed; within = omega (arith, left) };
        ran = rounds.ran;
      };
      answer = is;
    }
