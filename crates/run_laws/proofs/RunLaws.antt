-- Runs of turns, state by state: what each turn's exchanges keep.
use Rattle.std.proofs.Common.{◌≡◌, ℕ, ◌+◌, ◌-◌, ◌≤◌, Bool, cond, List, [], ◌∷◌, ◌++◌, length, take, refl, sym, ◌∙◌, ap, subst, Option, None, Some, false, arith, zero, suc, All, map, slice_get, count_by, ◌==◌}
use Rattle.run_laws.proofs.Prelude.{Act, All-find, All-head, All-tail, All-take, AllAllowed, AllBridged, AllJoinWell, AllMeet, Allowed-step, ComesBy}
use Rattle.run_laws.proofs.Prelude.{ComesTo, ComesWithin, Coord, Exchange, HasFiles, HeldJob, HeldState, IsHeldBeside, IsNotFull, IsQuiet, IsScenario}
use Rattle.run_laws.proofs.Prelude.{IsSoundBeside, IsTurn, Job, NamesOneOf, Placed, Ready, Row, Safe, Scenario, Server, ServerNo, SoundState, State}
use Rattle.run_laws.proofs.Prelude.{Step, Turn, Unended, World, act_exchanges, act_in, after, apply, core-found, core_of, done_exchanges, engine}
use Rattle.run_laws.proofs.Prelude.{exchange_of, exchanges_at, flushes_of, get_or_from_slice_get, given-opened, hooked-has, is_rotate as opens_file}
use Rattle.run_laws.proofs.Prelude.{is_rotate_step, is_write as adds, is_write_step, job_at, job_exchanges, leases_of, longest-at, moment_at}
use Rattle.run_laws.proofs.Prelude.{next_count, no_skipped, not_full-files, not_full-opened, number_of, option_map, promoted_in, room_for, room_of}
use Rattle.run_laws.proofs.Prelude.{rotate, rotate_answer, run, run_turns, same_Some, server_at, slice_get_within, start, start_world}
use Rattle.run_laws.proofs.Prelude.{step as turn_step, sum_by-append, sum_by-cons, take-append-add, taken-allowed, taken-sound, turn-allowed}
use Rattle.run_laws.proofs.Prelude.{turn-sound, turn_of, turns_of}
use Rattle.run_laws.proofs.Prelude.JobLaws.{job_at as core_at}
use Rattle.run_laws.proofs.Prelude.Scenarios.{is_rotate, is_write}
use Rattle.run_laws.proofs.Prelude.taking.{taken}
use Rattle.run_laws.proofs.Prelude.act
use Rattle.run_laws.proofs.Prelude.answers
use Rattle.run_laws.proofs.Prelude.exchanges
use Rattle.run_laws.proofs.Prelude.rotating
use Rattle.run_laws.proofs.Prelude.turn
use Rattle.run_laws.proofs.Prelude.turns_step as step
use Rattle.run_laws.proofs.Prelude.unended
use Rattle.run_laws.proofs.Passing.{Held-step, Sound-step}
use Rattle.run_laws.proofs.StartStates.{Held-start, Sound-start}
use Rattle.run_laws.proofs.Plain.{IsPlain, flown-plain, none-counts}
use Rattle.run_laws.proofs.Worlds.{world-turn}
use Rattle.run_laws.proofs.Readiness.{Ready-start, Ready-step}

-- ---- what holds of each state

-- all that is kept speaks of so many servers, `Held` holds, and in a state without errant writes the rest, too
pub record Goes (count : ℕ) (s : State) : Type 0 where
  pub ready : Ready count s
  pub held : HeldState s
  pub sound : IsQuiet s.world → SoundState s

pub Goes-step : (count : ℕ) (rows : List Row) (s : State) (t : Turn) → IsTurn count t → Goes count s → Goes count (turn_step rows s t)
Goes-step count rows s t is goes = record {
  ready = Ready-step count rows s t goes.ready is;
  held = Held-step count rows s t goes.ready goes.held is;
  sound = λ q. Sound-step count rows s t goes.ready goes.held (goes.sound (exchanges.quiet-run s.world (exchanges_at s t) (subst IsQuiet (world-turn rows s t) q))) is q;
}

Goes-run : (count : ℕ) (s : State) (xs : List (List Row × Turn)) → All (IsTurn count) (turns_of xs) → Goes count s → Goes count (run_turns engine s xs)
Goes-run count s [] all goes = goes
Goes-run count s (x ∷ xs) all goes =
    Goes-run count (turn_step x.0 s x.1) xs (All-tail (IsTurn count) x.1 (turns_of xs) all) (Goes-step count x.0 s x.1 (All-head (IsTurn count) x.1 (turns_of xs) all) goes)

pub Goes-start : (s : Scenario) (wait : ℕ) (rows : List Row) → IsScenario s → Goes (length s.opening.servers) (start s wait rows)
Goes-start s wait rows is = record { ready = Ready-start s wait rows is; held = Held-start s wait rows is; sound = λ q. Sound-start s wait rows is }

pub Goes-comes : (s : Scenario) (xs : List (List Row × Turn)) (now : State) → ComesTo s xs now → Goes (length s.opening.servers) now
Goes-comes s xs now comes =
    subst (Goes (length s.opening.servers)) (sym comes.state)
    (Goes-run (length s.opening.servers) (start s comes.wait comes.rows) xs comes.turns (Goes-start s comes.wait comes.rows comes.scenario))

-- of the servers alone
pub record Holds (s : State) : Type 0 where
  pub placed : Placed s.world
  pub safe : IsQuiet s.world → Safe s.world

pub Holds-comes : (s : Scenario) (xs : List (List Row × Turn)) (now : State) → ComesTo s xs now → Holds now
Holds-comes s xs now comes =
    let goes = Goes-comes s xs now comes in
    record { placed = goes.held.flight.placed; safe = λ q. (goes.sound q).flight.safe }

pub not_skipped : (s : Scenario) (xs : List (List Row × Turn)) (now : State) (n : ℕ) (to : Coord) → ComesTo s xs now → IsQuiet now.world → (apply now.world n).0 ≡ answers.Skipped to → ⊥
not_skipped s xs now n to comes q = no_skipped now.world n to ((Holds-comes s xs now comes).safe q)

-- a state without errant writes came from states without
quiet-back : (s : State) (xs : List (List Row × Turn)) → IsQuiet (run_turns engine s xs).world → IsQuiet s.world
quiet-back s [] q = q
quiet-back s (x ∷ xs) q = exchanges.quiet-run s.world (exchanges_at s x.1) (subst IsQuiet (world-turn x.0 s x.1) (quiet-back (turn_step x.0 s x.1) xs q))

pub quiet_before : (s : State) (xs : List (List Row × Turn)) (k : ℕ) → IsQuiet (run_turns engine s xs).world → IsQuiet (run_turns engine s (take k xs)).world
quiet_before s xs zero q = quiet-back s xs q
quiet_before s [] (suc k) q = q
quiet_before s (x ∷ xs) (suc k) q = quiet_before (turn_step x.0 s x.1) xs k q

pub own_comes : (s : Scenario) (wait : ℕ) (rows : List Row) (xs : List (List Row × Turn)) (k : ℕ) → IsScenario s → turns_of xs ≡ take k s.turns → ComesBy s xs k (run_turns engine (start s wait rows) xs)
own_comes s wait rows xs k is own = record {
  comes = record {
    scenario = is;
    wait = wait;
    rows = rows;
    turns = subst (All (IsTurn (length s.opening.servers))) (sym own) (All-take (IsTurn (length s.opening.servers)) k s.turns is.turns);
    named = subst (All (NamesOneOf s.nodes)) (sym own) (All-take (NamesOneOf s.nodes) k s.turns is.named);
    state = refl;
  };
  own = own;
}

-- ---- the exchanges that were made, one after another

along : State → List (List Row × Turn) → List Exchange
along s [] = []
along s (x ∷ xs) = exchanges_at s x.1 ++ along (turn_step x.0 s x.1) xs

run-append : (w : World) (es fs : List Exchange) → run w (es ++ fs) ≡ run (run w es) fs
run-append w [] fs = refl
run-append w (e ∷ es) fs = run-append (after w e) es fs

world-along : (s : State) (xs : List (List Row × Turn)) → (run_turns engine s xs).world ≡ run s.world (along s xs)
unfolding along
world-along s [] = refl
world-along s (x ∷ xs) =
    world-along (turn_step x.0 s x.1) xs ∙ ap (λ (w : World). run w (along (turn_step x.0 s x.1) xs)) (world-turn x.0 s x.1)
    ∙ sym (run-append s.world (exchanges_at s x.1) (along (turn_step x.0 s x.1) xs))

-- what some exchanges need, and those after them
record Fit (w : World) (es : List Exchange) : Type 0 where
  allowed : AllAllowed w es
  join : AllJoinWell w es

Fit-append : (w : World) (es fs : List Exchange) → Fit w es → Fit (run w es) fs → Fit w (es ++ fs)
Fit-append w [] fs here more = more
Fit-append w (e ∷ es) fs here more =
    let rest = Fit-append (after w e) es fs (record { allowed = here.allowed.1; join = here.join.1 }) more in
    record { allowed = (here.allowed.0, rest.allowed); join = (here.join.0, rest.join) }

-- a job's turn in a state with `Sound`
Fit-job : (s : State) (id : ℕ) → HeldState s → SoundState s → (o : Option Unended) → job_at s.jobs id ≡ o → Fit s.world (job_exchanges (option_map (turn_of s) o))
Fit-job s id held sound None at = record { allowed = tt; join = tt }
Fit-job s id held sound (Some (unended.Plan j)) at =
    let is_job : Job → Bool = λ k. k.id == id in
    let found : core_at (map core_of s.jobs) id ≡ Some j = core-found s.jobs id ∙ ap (option_map core_of) at in
    record {
      allowed = turn-allowed s.world (next_count s.reads) (moment_at s) j;
      join = (turn-sound s.world (next_count s.reads) (moment_at s) j sound.flight.safe held.flight.placed (All-find (HeldJob s.world) is_job (map core_of s.jobs) j held.flight.jobs found)
          (All-find (λ k. AllBridged s.world k.seen) is_job (map core_of s.jobs) j sound.flight.jobs found)
          (All-find (λ k. AllMeet s.world k.matches) is_job (map core_of s.jobs) j sound.flight.met found)).joins;
    }
Fit-job s id held sound (Some (unended.Recovery r d)) at =
    let is_job : Unended → Bool = λ k. number_of k == id in
    let here = All-find (IsHeldBeside s.world (leases_of s.book.leases)) is_job s.jobs (unended.Recovery r d) held.jobs at in
    let good = All-find (IsSoundBeside s.world) is_job s.jobs (unended.Recovery r d) sound.jobs at in
    let t = taken s.world s.book (next_count s.reads) (moment_at s) r in
    let allowed = taken-allowed s.world s.book (next_count s.reads) (moment_at s) r in
    let joins = (taken-sound s.world s.book (next_count s.reads) (moment_at s) r sound.flight.safe held.flight.placed (record { spans = held.flight.rings; own = held.own }) sound.flight.rings here.0 good).joins in
    hooked-has (λ x. Fit s.world x.exchanges) d (promoted_in s.book t) r t (λ own same. record { allowed = allowed; join = joins }) (λ own. record { allowed = tt; join = tt })

Fit-none : (w : World) → Fit w []
Fit-none w = record { allowed = tt; join = tt }

Fit-act : (count : ℕ) (s : State) (a : Act) → Goes count s → IsQuiet s.world → Fit s.world (act_exchanges s a)
Fit-act count s (act.Job job) goes q = Fit-job s job goes.held (goes.sound q) (job_at s.jobs job) refl
Fit-act count s _ goes q = Fit-none s.world

Fit-done : (count : ℕ) (s : State) (o : Option Act) → Goes count s → IsQuiet s.world → Fit s.world (done_exchanges s o)
Fit-done count s None goes q = Fit-none s.world
Fit-done count s (Some a) goes q = Fit-act count s a goes q

Fit-turn : (count : ℕ) (s : State) (t : Turn) → IsTurn count t → Goes count s → IsQuiet s.world → Fit s.world (exchanges_at s t)
Fit-turn count s (turn.Step x) is goes q = let fit = Allowed-step count s.world x is in record { allowed = fit.0; join = fit.1 }
Fit-turn count s (turn.Act a) is goes q = Fit-act count s a goes q
Fit-turn count s (turn.As node a) is goes q = Fit-done count s (act_in s (turn.As node a)) goes q
Fit-turn count s (turn.Claim node) is goes q = Fit-done count s (act_in s (turn.Claim node)) goes q
Fit-turn count s _ is goes q = Fit-none s.world

Fit-along : (count : ℕ) (s : State) (xs : List (List Row × Turn)) → All (IsTurn count) (turns_of xs) → Goes count s → IsQuiet (run_turns engine s xs).world → Fit s.world (along s xs)
unfolding along
Fit-along count s [] all goes q = record { allowed = tt; join = tt }
Fit-along count s (x ∷ xs) all goes q =
    let here = All-head (IsTurn count) x.1 (turns_of xs) all in
    Fit-append s.world (exchanges_at s x.1) (along (turn_step x.0 s x.1) xs) (Fit-turn count s x.1 here goes (quiet-back s (x ∷ xs) q))
    (subst (λ (w : World). Fit w (along (turn_step x.0 s x.1) xs)) (world-turn x.0 s x.1)
    (Fit-along count (turn_step x.0 s x.1) xs (All-tail (IsTurn count) x.1 (turns_of xs) all) (Goes-step count x.0 s x.1 here goes) q))

-- ---- how many of them add a transaction or a file

abbrev tick : Bool → ℕ
tick b = cond b 1 0

-- an exchange of a kind is made by a turn of a kind
record Tells (test : Exchange → Bool) (is : Turn → Bool) : Type 0 where
  each : (s : State) (t : Turn) → count_by test (exchanges_at s t) ≡ tick (is t)

-- a job's turn makes none of them
job-none : (test : Exchange → Bool) → ((e : Exchange) → IsPlain e → test e ≡ false) → (s : State) (o : Option Unended) → count_by test (job_exchanges (option_map (turn_of s) o)) ≡ 0
job-none test plain s None = refl
job-none test plain s (Some u) = none-counts test plain (turn_of s u).exchanges (flown-plain s.world s.book (next_count s.reads) (moment_at s) u)

adds-writes : Tells adds is_write
adds-writes = record { each = each }
  where
    by-step : (x : Step) → count_by adds (exchange_of x ∷ []) ≡ tick (is_write_step x)
    by-step (step.Write n size) = refl
    by-step _ = refl

    by-act : (s : State) (a : Act) → count_by adds (act_exchanges s a) ≡ 0
    by-act s (act.Job job) = job-none adds (λ e plain. plain.writes_not) s (job_at s.jobs job)
    by-act s _ = refl

    by-done : (s : State) (o : Option Act) → count_by adds (done_exchanges s o) ≡ 0
    by-done s None = refl
    by-done s (Some a) = by-act s a

    each : (s : State) (t : Turn) → count_by adds (exchanges_at s t) ≡ tick (is_write t)
    each s (turn.Step x) = by-step x
    each s (turn.Act a) = by-act s a
    each s (turn.As node a) = by-done s (act_in s (turn.As node a))
    each s (turn.Claim node) = by-done s (act_in s (turn.Claim node))
    each s _ = refl

opens-rotates : Tells opens_file is_rotate
opens-rotates = record { each = each }
  where
    by-step : (x : Step) → count_by opens_file (exchange_of x ∷ []) ≡ tick (is_rotate_step x)
    by-step (step.Write n size) = refl
    by-step _ = refl

    by-act : (s : State) (a : Act) → count_by opens_file (act_exchanges s a) ≡ 0
    by-act s (act.Job job) = job-none opens_file (λ e plain. plain.rotates_not) s (job_at s.jobs job)
    by-act s _ = refl

    by-done : (s : State) (o : Option Act) → count_by opens_file (done_exchanges s o) ≡ 0
    by-done s None = refl
    by-done s (Some a) = by-act s a

    each : (s : State) (t : Turn) → count_by opens_file (exchanges_at s t) ≡ tick (is_rotate t)
    each s (turn.Step x) = by-step x
    each s (turn.Act a) = by-act s a
    each s (turn.As node a) = by-done s (act_in s (turn.As node a))
    each s (turn.Claim node) = by-done s (act_in s (turn.Claim node))
    each s _ = refl

-- the scenario's first turns and the next one are no more than all of a kind
module _ (is : Turn → Bool) where
  count-next : (ts : List Turn) (k : ℕ) (t : Turn) → slice_get ts k ≡ Some t → count_by is (take k ts) + tick (is t) ≤ count_by is ts
  count-next [] k t at = cc
  count-next (x ∷ ts) zero t at =
      let same : tick (is x) ≡ tick (is t) = ap (λ y. tick (is y)) (same_Some x t at) in
      omega (arith, same, sum_by-cons (λ y. tick (is y)) x ts)
  count-next (x ∷ ts) (suc k) t at =
      omega (arith, count-next ts k t at, sum_by-cons (λ y. tick (is y)) x ts, sum_by-cons (λ y. tick (is y)) x (take k ts))

  own-few : (us ts : List Turn) (k : ℕ) (t : Turn) → us ≡ take k ts → slice_get ts k ≡ Some t → count_by is (us ++ t ∷ []) ≤ count_by is ts
  own-few us ts k t own at =
      let before : count_by is us ≡ count_by is (take k ts) = ap (count_by is) own in
      omega (arith, before, count-next ts k t at, sum_by-append (λ y. tick (is y)) us (t ∷ []), sum_by-cons (λ y. tick (is y)) t [])

module _ (test : Exchange → Bool) (is : Turn → Bool) (tells : Tells test is) where
  count-along : (s : State) (xs : List (List Row × Turn)) → count_by test (along s xs) ≡ count_by is (turns_of xs)
  unfolding along
  count-along s [] = refl
  count-along s (x ∷ xs) =
      let here : count_by test (exchanges_at s x.1) ≡ tick (is x.1) = tells.each s x.1 in
      let rest : count_by test (along (turn_step x.0 s x.1) xs) ≡ count_by is (turns_of xs) = count-along (turn_step x.0 s x.1) xs in
      sum_by-append (λ e. tick (test e)) (exchanges_at s x.1) (along (turn_step x.0 s x.1) xs)
      ∙ (ap (λ (n : ℕ). n + count_by test (along (turn_step x.0 s x.1) xs)) here ∙ ap (λ (n : ℕ). tick (is x.1) + n) rest)
      ∙ sym (sum_by-cons (λ t. tick (is t)) x.1 (turns_of xs))

  -- the exchanges of the turns and of the next one
  count-made : (s now : State) (xs : List (List Row × Turn)) (t : Turn) → count_by test (along s xs ++ exchanges_at now t) ≡ count_by is (turns_of xs ++ t ∷ [])
  count-made s now xs t =
      let here : count_by test (exchanges_at now t) ≡ tick (is t) = tells.each now t in
      let before : count_by test (along s xs) ≡ count_by is (turns_of xs) = count-along s xs in
      omega (arith, here, before, sum_by-append (λ e. tick (test e)) (along s xs) (exchanges_at now t), sum_by-append (λ y. tick (is y)) (turns_of xs) (t ∷ []), sum_by-cons (λ y. tick (is y)) t [])

-- ---- no exchange of such a run finds a history or a log full

get-append : (es fs : List Exchange) (j : ℕ) → slice_get (es ++ fs) (length es + j) ≡ slice_get fs j
get-append [] fs j = let same : 0 + j ≡ j = omega arith in ap (slice_get fs) same
get-append (e ∷ es) fs j =
    let same : length (e ∷ es) + j ≡ suc (length es + j) = omega arith in
    ap (slice_get (e ∷ (es ++ fs))) same ∙ get-append es fs j

module _ (is : Turn → Bool) (s : Scenario) (xs : List (List Row × Turn)) (t : Turn) (now : State) (by : ComesWithin is s xs t now) where
  abbrev first : State
  first = start s by.comes.wait by.comes.rows

  abbrev made : List Exchange
  made = along first xs ++ exchanges_at now t

  now-world : now.world ≡ run (start_world s) (along first xs)
  now-world = ap (λ (x : State). x.world) by.comes.state ∙ world-along first xs

  fit : IsQuiet now.world → Fit (start_world s) made
  fit q =
      Fit-append (start_world s) (along first xs) (exchanges_at now t)
      (Fit-along (length s.opening.servers) first xs by.comes.turns (Goes-start s by.comes.wait by.comes.rows by.comes.scenario) (subst (λ (x : State). IsQuiet x.world) by.comes.state q))
      (subst (λ (w : World). Fit w (exchanges_at now t)) now-world (Fit-turn (length s.opening.servers) now t by.next (Goes-comes s xs now by.comes) q))

  -- the world after some of the turn's exchanges
  run-made : (j : ℕ) → run (start_world s) (take (length (along first xs) + j) made) ≡ run now.world (take j (exchanges_at now t))
  run-made j =
      ap (run (start_world s)) (take-append-add (along first xs) (exchanges_at now t) j)
      ∙ run-append (start_world s) (along first xs) (take j (exchanges_at now t))
      ∙ ap (λ (w : World). run w (take j (exchanges_at now t))) (sym now-world)

  -- they are no more than the scenario's turns of that kind
  few-made : (test : Exchange → Bool) → Tells test is → count_by test made ≤ count_by is s.turns
  few-made test tells = let all = count-made test is tells first now xs t in let few = by.few in omega (arith, all, few)

  room-left : Tells adds is → count_by is s.turns ≡ count_by is_write s.turns → room_for s.opening made ≤ room_of s
  room-left tells same = let few = few-made adds tells in omega (arith, few, same)

  HasFiles-start : Tells opens_file is → count_by is s.turns ≡ count_by is_rotate s.turns → HasFiles (count_by opens_file made) (start_world s)
  HasFiles-start tells same n x there =
      let g = given-opened s.opening (room_of s) (flushes_of s) n x there in
      let points = longest-at s.opening.servers n g.init g.place in
      let left : x.log.flushes ≡ flushes_of s - length g.init.flushes = ap (λ (y : Server). y.log.flushes) g.is_opened in
      let few = few-made opens_file tells in
      omega (arith, points, left, few, same)

pub not_full : (s : Scenario) (xs : List (List Row × Turn)) (t : Turn) (now : State) (j : ℕ) (e : Exchange) → ComesWithin is_write s xs t now → slice_get (exchanges_at now t) j ≡ Some e
    → IsQuiet (run now.world (take j (exchanges_at now t))) → IsNotFull (run now.world (take j (exchanges_at now t))) e
not_full s xs t now j e by makes q =
    let es = along (first is_write s xs t now by) xs in
    let all = fit is_write s xs t now by (exchanges.quiet-run now.world (take j (exchanges_at now t)) q) in
    subst (λ w. IsNotFull w e) (run-made is_write s xs t now by j)
    (not_full-opened s.opening (room_of s) (flushes_of s) (made is_write s xs t now by) (length es + j) e by.comes.scenario.checked all.allowed all.join (room-left is_write s xs t now by adds-writes refl)
    (get-append es (exchanges_at now t) j ∙ makes)
    (subst IsQuiet (sym (run-made is_write s xs t now by j)) q))

pub files_left : (s : Scenario) (xs : List (List Row × Turn)) (now : State) (n : ServerNo) → ComesWithin is_rotate s xs (turn.Step (step.Rotate n)) now → (rotate now.world n.0).0 ≡ rotating.Full → ⊥
files_left s xs now n by full =
    let t = turn.Step (step.Rotate n) in
    let es = along (first is_rotate s xs (turn.Step (step.Rotate n)) now by) xs in
    not_full-files (made is_rotate s xs (turn.Step (step.Rotate n)) now by) (length es + 0) n.0 (start_world s) (HasFiles-start is_rotate s xs (turn.Step (step.Rotate n)) now by opens-rotates refl)
    (get-append es (exchanges_at now (turn.Step (step.Rotate n))) 0)
    (ap (λ (w : World). rotate_answer (server_at w n.0)) (run-made is_rotate s xs (turn.Step (step.Rotate n)) now by 0) ∙ full)

-- the scenario's own turns are such a run
pub own_within : (is : Turn → Bool) (s : Scenario) (xs : List (List Row × Turn)) (k : ℕ) (t : Turn) (now : State) → ComesBy s xs k now → slice_get s.turns k ≡ Some t → ComesWithin is s xs t now
own_within is s xs k t now by at = record {
  comes = by.comes;
  next = subst (IsTurn (length s.opening.servers)) (get_or_from_slice_get s.turns k t t at) (by.comes.scenario.turns k t (slice_get_within s.turns k t at));
  names = subst (NamesOneOf s.nodes) (get_or_from_slice_get s.turns k t t at) (by.comes.scenario.named k t (slice_get_within s.turns k t at));
  few = own-few is (turns_of xs) s.turns k t by.own at;
}
