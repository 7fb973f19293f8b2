-- Each run of the turns that a command line takes: its states are safe, its commands answer by the permission table,
-- and its recoveries begin without overlap and finish well.
use Rattle.std.proofs.Common.{◌≡◌, ℕ, zero, suc, ◌<◌, Bool, true, false, cond, List, [], ◌∷◌, ◌++◌, length, Option, Some, None, ◌∙◌, refl, sym, ap, subst, take, inl, inr, arith, All, IfSome, is_some, ◌^◌, ◌≤◌}
use Rattle.top_call.proofs.Prelude.{ActAlone, All-append, All-cons, All-nil, All-take, AreSoFar, Asked, AskOfRead, BeginApart, BeginsApart, Comes}
use Rattle.top_call.proofs.Prelude.{ComesTo, CommandTurn, Docket, Finishes, FinishWell, Follow-whole, FollowAudit, FollowAudit-whole, Goes}
use Rattle.top_call.proofs.Prelude.{Goes-comes, Held, HostPort, IsActiveAlone, IsAsked, IsClaimRow, IsCommand, IsFinish, IsNumberOf, IsOn, IsOnOwn}
use Rattle.top_call.proofs.Prelude.{IsOnTurns, IsRising, IsSafeRun, IsSafeState, IsScenario, IsTaken, IsTask, IsTurn, IsTurnOf, IsWhole, KeepsTime}
use Rattle.top_call.proofs.Prelude.{KeepTime, LeadsTo, Line, LookFirst, LooksFirstIn, NamesOneOf, Obeys, ObeysTable, OwnClaimRow, OwnRestartKeepsAll}
use Rattle.top_call.proofs.Prelude.{Places, Promises, Ran, Ran-append, Ready, Recorded, Recovery, Row, Scenario, ServerNo, SomeTaken, Stage, StartsBy}
use Rattle.top_call.proofs.Prelude.{State, StoresReadings, Task, TellHooks, TellsHooks, TellsTruly, TellTruly, Through, Turn, Work, acting-alone}
use Rattle.top_call.proofs.Prelude.{active-alike, active_in, after_turns, all_some, answers_by_table, apart-comes, apart-in-turn, asked_is, asked_of}
use Rattle.top_call.proofs.Prelude.{began-comes, begun-may-wait, begun-since, begun_joins, begun_kept, begun_leased, begun_logged, begun_number}
use Rattle.top_call.proofs.Prelude.{begun_there, books-comes, by_name, by_name-within, changed, claim-row-whole, claim_ahead, claim_key}
use Rattle.top_call.proofs.Prelude.{claim_without, closing, closing_by, command_as, course_of, discoveries-read, engine, every-kept, every-many}
use Rattle.top_call.proofs.Prelude.{every-one, every-reached, fail-comes, failure-comes, finish-comes, found-end, held-last, held_from, held_run}
use Rattle.top_call.proofs.Prelude.{held_step, instances-stay, is_alone, is_open, job_at, jobs-comes, jobs-may-wait, jobs-rise, jobs-store}
use Rattle.top_call.proofs.Prelude.{kept_at_start, lapsed-idle, lapsed-keep-nothing, last-never-sinks, length-map, looks-before, lowest-refuses}
use Rattle.top_call.proofs.Prelude.{matches-end, most_turns, named-job, named-round, names_of, nodes_of, openings-give-numbers, option_to_list}
use Rattle.top_call.proofs.Prelude.{others-stay, own_job, own_turn, passes-time, passing-drops, passing-is-restart, passing-restarts, past-comes}
use Rattle.top_call.proofs.Prelude.{periods-in-turn, plans-done, plans-fail, plans-hold, plans-return, polls-read, polls-store, readings-never-sink}
use Rattle.top_call.proofs.Prelude.{reckoned-comes, recorder, refused_changes_nothing, renewing-alone, restart-comes, restarts-count-on, round_of}
use Rattle.top_call.proofs.Prelude.{rounds_of, rounds_while, row_in, run_state, run_turns, same_Some, scan-tries, scans-unasked, scenario_in_sound}
use Rattle.top_call.proofs.Prelude.{scenarios-comes, some_ran, spends-last, stages, start, start_changes, still-comes, taken-nothing, taker, taker_is}
use Rattle.top_call.proofs.Prelude.{task_of, told-next, turn-aimed, turn-comes, turn-fates, turns-round, turns_of, waits, without_turns}
use Rattle.top_call.proofs.Prelude.act
use Rattle.top_call.proofs.Prelude.asked
use Rattle.top_call.proofs.Prelude.turn
use Rattle.top_call.proofs.Prelude.unended

-- ---- the turns

-- the task of an accepted command line has a turn over the servers
pub asked_in_task : (p : Places) (names : List HostPort) (s : Scenario) (t : Task) → IsTaken p → AskOfRead p → names ≡ names_of s → t ≡ task_of p names → IsAsked (length s.opening.servers) t.asked
asked_in_task p names s t taken asks named is =
    let own : IsAsked (length (names_of s)) (asked_of p (names_of s)) = asked_is p (names_of s) taken asks in
    let here : IsAsked (length s.opening.servers) (asked_of p (names_of s)) = subst (λ (n : ℕ). IsAsked n (asked_of p (names_of s))) (length-map s.opening.servers (λ i. i.settings.name)) own in
    subst (λ (u : Task). IsAsked (length s.opening.servers) u.asked) (sym (is ∙ ap (task_of p) named)) here

-- the scenario's turns are turns over its servers
scenario_turns : (s : Scenario) → IsScenario s → All (IsTurnOf (length s.opening.servers) s.nodes) s.turns
scenario_turns s is = λ j d less. (is.turns j d less, is.named j d less)

-- ---- the rows at each turn

record Rows (h : Held Recorded) (ts : List Turn) : Type 0 where
  xs : List (List Row × Turn)
  turns : turns_of xs ≡ ts
  state : (held_run recorder h ts).state ≡ run_turns recorder h.state xs

rows_at : (h : Held Recorded) (ts : List Turn) → Rows h ts
rows_at h [] = record { xs = []; turns = refl; state = refl }
rows_at h (t ∷ ts) =
    let rest = rows_at (held_step recorder h t) ts in
    record { xs = (h.rows, t) ∷ rest.xs; turns = ap (λ (us : List Turn). t ∷ us) rest.turns; state = rest.state }

along : (s : Scenario) (wait : ℕ) (old : Option (List Row)) (begun : State) (ts : List Turn) (run : Recorded) → StartsBy old s wait begun → LeadsTo recorder (kept_at_start true old s) (without_turns begun) ts run → Through s wait ts run.state
along s wait None begun ts run opens leads = record {
  rows = opens.0;
  xs = leads.0;
  turns = leads.1;
  state = ap (λ (r : Recorded). r.state) leads.2 ∙ (run_state (without_turns begun) leads.0 ∙ ap (λ (b : State). run_turns engine b leads.0) opens.1);
}
along s wait (Some rows) begun ts run opens leads =
    let found = rows_at (record { rows = changed rows (start_changes s rows); state = without_turns begun }) ts in
    record {
      rows = rows;
      xs = found.xs;
      turns = found.turns;
      state = ap (λ (r : Recorded). r.state) (leads ∙ found.state) ∙ (run_state (without_turns begun) found.xs ∙ ap (λ (b : State). run_turns engine b found.xs) opens);
    }

-- the state and the rows of a recorded run are those of the run
held_same : (h : Held Recorded) (ts : List Turn) → held_run engine (record { rows = h.rows; state = h.state.state }) ts ≡ record { rows = (held_run recorder h ts).rows; state = (held_run recorder h ts).state.state }
held_same h [] = refl
held_same h (t ∷ ts) = held_same (held_step recorder h t) ts

-- from an opening by the row store's known rows
module _ (s : Scenario) (wait : ℕ) (old new : List Row) (begun : State) (ts : List Turn) (run : Recorded) where
  own_follows : begun ≡ start s wait old → Ran recorder (kept_at_start true (Some old) s) (without_turns begun) ts (Some new) run → held_from s wait old ts ≡ record { rows = new; state = run.state }
  own_follows opens ran =
      let h : Held Recorded = record { rows = changed old (start_changes s old); state = without_turns begun } in
      let rows : (held_run recorder h ts).rows ≡ new = same_Some (held_run recorder h ts).rows new (sym ran.rows) in
      let state : (held_run recorder h ts).state ≡ run = sym ran.state in
      ap (λ (b : State). held_run engine (record { rows = changed old (start_changes s old); state = b }) ts) (sym opens)
      ∙ (held_same h ts
      ∙ (ap (λ (r : Recorded). record { rows = (held_run recorder h ts).rows; state = r.state }) state
      ∙ ap (λ (rs : List Row). record { rows = rs; state = run.state }) rows))

-- ---- laws of each run

-- any turns over the servers
module _ (w : Work) (ts : List Turn) (kept : Option (List Row)) (run : Recorded) (scenario : IsScenario w.scenario) (all : All (IsTurnOf (length w.scenario.opening.servers) w.scenario.nodes) ts) (comes : Comes w ts kept run) where
  found : Through w.scenario w.task.waits ts run.state
  found = along w.scenario w.task.waits w.old comes.begun ts run comes.opens comes.ran.state

  -- by whatever rows they lead there
  comes_by : (by : Through w.scenario w.task.waits ts run.state) → ComesTo w.scenario by.xs run.state
  comes_by by = record {
    scenario = scenario;
    wait = w.task.waits;
    rows = by.rows;
    turns = subst (All (IsTurn (length w.scenario.opening.servers))) (sym by.turns) (λ k d less. (all k d less).0);
    named = subst (All (NamesOneOf w.scenario.nodes)) (sym by.turns) (λ k d less. (all k d less).1);
    state = by.state;
  }

  comes_to : ComesTo w.scenario found.xs run.state
  comes_to = comes_by found

  goes : Goes (length w.scenario.opening.servers) run.state
  goes = Goes-comes w.scenario found.xs run.state comes_to

  pub holds : IsSafeState run.state
  holds = record {
    placed = goes.held.flight.placed;
    held = goes.held;
    apart = apart-comes w.scenario found.xs run.state comes_to;
    entries = jobs-comes w.scenario found.xs run.state comes_to;
    named = λ n id is. named-job run.state.jobs id (ap is_some (goes.held.flight.leased.named n id is).1);
    leased = goes.held.flight.leased.each;
    others = λ rows id n apart. others-stay rows run.state id n goes.held apart;
    fails = plans-fail run.state;
    done = plans-done (length w.scenario.opening.servers) run.state goes.ready;
    failed = fail-comes w.scenario found.xs run.state comes_to;
    turns = turn-comes w.scenario found.xs run.state comes_to;
    books = books-comes w.scenario found.xs run.state comes_to;
    sound = goes.sound;
    safe = λ q. (goes.sound q).flight.safe;
    matched = λ q. matches-end run.state.world (goes.sound q).flight.safe;
    met = λ q. found-end run.state.world (goes.sound q).flight.safe run.state.jobs (goes.sound q).flight.met;
  }

  ready : Ready (length w.scenario.opening.servers) run.state
  ready = goes.ready

  nodes_stay : nodes_of run.state ≡ w.scenario.nodes
  nodes_stay = every-many w.scenario found.xs run.state comes_to

  own_row : kept ≡ w.new → OwnClaimRow w run.state
  own_row is old new before behind rising fit =
      let n = length w.scenario.opening.servers in
      let opens = subst (λ (o : Option (List Row)). StartsBy o w.scenario w.task.waits comes.begun) before comes.opens in
      let from = subst (λ (o : Option (List Row)). Ran recorder (kept_at_start true o w.scenario) (without_turns comes.begun) ts kept run) before comes.ran in
      let ran = subst (λ (o : Option (List Row)). Ran recorder (kept_at_start true (Some old) w.scenario) (without_turns comes.begun) ts o run) (is ∙ behind) from in
      let same = own_follows w.scenario w.task.waits old new comes.begun ts run opens ran in
      let fits : (held_from w.scenario w.task.waits old ts).state.audit.next ≤ 2 ^ 64 = subst (λ (h : Held State). h.state.audit.next ≤ 2 ^ 64) (sym same) fit in
      subst (λ (h : Held State). IsClaimRow n (row_in h.rows claim_key) h.state.claims.kept) same (claim-row-whole w.scenario w.task.waits old ts scenario rising (λ k d less. (all k d less).0) fits)

  own_restart : kept ≡ w.new → OwnRestartKeepsAll w run.state
  own_restart is old new before behind rising fit =
      let n = length w.scenario.opening.servers in
      let opens = subst (λ (o : Option (List Row)). StartsBy o w.scenario w.task.waits comes.begun) before comes.opens in
      let from = subst (λ (o : Option (List Row)). Ran recorder (kept_at_start true o w.scenario) (without_turns comes.begun) ts kept run) before comes.ran in
      let ran = subst (λ (o : Option (List Row)). Ran recorder (kept_at_start true (Some old) w.scenario) (without_turns comes.begun) ts o run) (is ∙ behind) from in
      let same = own_follows w.scenario w.task.waits old new comes.begun ts run opens ran in
      let fits : (held_from w.scenario w.task.waits old ts).state.audit.next ≤ 2 ^ 64 = subst (λ (h : Held State). h.state.audit.next ≤ 2 ^ 64) (sym same) fit in
      restart-comes w.scenario found.xs run.state new comes_to
      (subst (λ (h : Held State). IsRising h.rows) same (Follow-whole w.scenario w.task.waits old ts scenario rising (λ k d less. (all k d less).0) fits).rising)
      (subst (λ (h : Held State). FollowAudit n h.rows h.state.audit) same (FollowAudit-whole w.scenario w.task.waits old ts scenario rising (λ k d less. (all k d less).0) fits))

  pub begins : kept ≡ w.new → (rows : List Row) (t : Turn) → BeginsApart w rows run.state t
  begins is rows t = record {
    apart = apart-in-turn w.scenario found.xs run.state t comes_to;
    periods = periods-in-turn w.scenario found.xs run.state t comes_to;
    aims = turn-aimed run.state t;
    all = turn-fates rows run.state t;
    restart = restart-comes w.scenario found.xs run.state rows comes_to;
    own = own_restart is;
    scans = record { tries = scan-tries run.state; unasked = scans-unasked run.state; joins = refl; leases = refl; kept = refl };
  }

  pub alone : kept ≡ w.new → IsActiveAlone w run.state
  alone is =
      let reached = every-reached w.scenario found.xs run.state comes_to in
      record {
        one = every-one w.scenario found.xs run.state comes_to;
        kept = every-kept w.scenario found.xs run.state comes_to;
        acting = λ t. acting-alone run.state t reached;
        lapsed = λ t. lapsed-idle run.state t;
        waits = λ t. waits run.state t;
        restart = λ t. passing-restarts run.state t;
        jobs = λ t. passing-drops run.state t;
        since = λ t. begun-since (length w.scenario.opening.servers) run.state t (reckoned-comes w.scenario found.xs run.state comes_to);
        row = own_row is;
        alike = active-alike run.state;
        keeps_nothing = lapsed-keep-nothing run.state;
        passing = passing-is-restart run.state;
        renewing = renewing-alone run.state;
        minute = held-last run.state;
        taken = taken-nothing run.state;
      }

  pub keeps : KeepsTime w run.state
  unfolding comes_to comes_by
  keeps =
      let may = jobs-may-wait w.scenario found.xs run.state comes_to in
      record {
        time = λ t. passes-time run.state t;
        past = past-comes w.scenario found.xs run.state comes_to;
        rising = jobs-rise w.scenario found.xs run.state comes_to;
        last = λ rows t. last-never-sinks rows run.state t;
        wait = may.0;
        waits = may.1;
        hands = plans-return w.scenario found.xs run.state comes_to;
        holds = plans-hold w.scenario found.xs run.state comes_to;
        begun = begun-may-wait run.state;
      }

  pub looks : (id : ℕ) (r : Recovery) (docket : Docket) → job_at run.state.jobs id ≡ Some (unended.Recovery r docket) → LooksFirstIn w ts run.state id r docket
  unfolding comes_by
  looks id r docket at = record { through = found; looks = λ by. looks-before w.scenario by.xs run.state (comes_by by) id r docket at }

  pub finishes : (rows : List Row) (id : ℕ) (r : Recovery) (docket : Docket) (lines : List Line) → IsFinish run.state id r docket lines → Finishes w ts rows run.state id r docket lines
  unfolding comes_by
  finishes rows id r docket lines is = record { through = found; well = λ by. finish-comes w.scenario by.xs run.state (comes_by by) rows id r docket lines is }

  pub loses : (id : ℕ) (r : Recovery) (docket : Docket) → job_at run.state.jobs id ≡ Some (unended.Recovery r docket) → TellsTruly w ts run.state id r docket
  unfolding comes_by
  loses id r docket at = record {
    through = found;
    began = λ by. began-comes w.scenario by.xs run.state (comes_by by) id r docket at;
    told = λ by P explains here. told-next w.scenario by.xs run.state (comes_by by) P id r docket explains here at;
  }

  pub hooks : (rows : List Row) (id : ℕ) (r : Recovery) (docket : Docket) → job_at run.state.jobs id ≡ Some (unended.Recovery r docket) → TellsHooks w ts rows run.state id r docket
  unfolding comes_by
  hooks rows id r docket at = record {
    through = found;
    own = λ h has. scenarios-comes w.scenario found.xs run.state comes_to id r docket h at has;
    done = λ lines is. (finish-comes w.scenario found.xs run.state comes_to rows id r docket lines is).hooks;
    failed = λ c lines is by. failure-comes w.scenario by.xs run.state (comes_by by) rows id r docket c lines is;
    still = λ h has early. still-comes w.scenario found.xs run.state comes_to rows id r docket h at has early;
  }

-- the turns of rounds are turns over the servers
module _ (count nodes : ℕ) where
  while_turns : (round : List Turn) → All (IsTurnOf count nodes) round → (n : ℕ) (s : State) (job : ℕ) → All (IsTurnOf count nodes) (rounds_while round n s job)
  while_turns round all zero s job = All-nil (IsTurnOf count nodes)
  while_turns round all (suc n) s job = go (is_open s.jobs job) (while_turns round all n (after_turns s round) job)
    where
      go : (b : Bool) → All (IsTurnOf count nodes) (rounds_while round n (after_turns s round) job) → All (IsTurnOf count nodes) (cond b (round ++ rounds_while round n (after_turns s round) job) [])
      go true later = All-append (IsTurnOf count nodes) round (rounds_while round n (after_turns s round) job) all later
      go false later = All-nil (IsTurnOf count nodes)

  rounds_turns : (s : State) (job : ℕ) → length s.book.names ≡ count → All (IsTurnOf count nodes) (rounds_of s job)
  unfolding rounds_of
  rounds_turns s job counts =
      while_turns (round_of s job)
      (λ k d less. (
        turns-round count (by_name s.book.names) job (subst (λ (n : ℕ). All (λ (server : ServerNo). server.0 < n) (by_name s.book.names)) counts (by_name-within s.book.names)) k d less,
        named-round nodes (by_name s.book.names) job k d less,
      ))
      (most_turns s.jobs job) s job

  closing_turns : (run : Recorded) → length run.state.book.names ≡ count → All (IsTurnOf count nodes) (closing run)
  closing_turns run counts = go (own_job run)
    where
      go : (o : Option ℕ) → All (IsTurnOf count nodes) (closing_by o run.state)
      go None = All-nil (IsTurnOf count nodes)
      go (Some job) = rounds_turns run.state job counts

-- each stage's turns are turns over the servers, by a run over them
abbrev AreOver : ℕ → ℕ → Stage → Type 0
AreOver count nodes x = (run : Recorded) → length run.state.book.names ≡ count → nodes_of run.state ≡ nodes → All (IsTurnOf count nodes) (x run)

abbrev AllOver : ℕ → ℕ → List Stage → Type 0
AllOver count nodes [] = Unit {0}
AllOver count nodes (x ∷ xs) = AreOver count nodes x × AllOver count nodes xs

module _ (count nodes : ℕ) (some : 1 ≤ nodes) where
  one_of : (o : Option Turn) → IfSome o (IsTurnOf count nodes) → All (IsTurnOf count nodes) (option_to_list o)
  one_of None is = All-nil (IsTurnOf count nodes)
  one_of (Some t) is = All-cons (IsTurnOf count nodes) t [] is (All-nil (IsTurnOf count nodes))

  claim_is : (s : State) → IfSome (claim_ahead s) (IsTurnOf count nodes)
  claim_is s = by (is_alone s) (active_in s)
    where
      by : (b : Bool) (o : Option ℕ) → IfSome (cond b None (claim_without o)) (IsTurnOf count nodes)
      by true o = tt
      by false (Some node) = tt
      by false None = (tt, (omega arith, some))

  own_is : (c : CommandTurn) (s : State) → IsCommand count c → nodes_of s ≡ nodes → IfSome (own_turn c s) (IsTurnOf count nodes)
  own_is c s is here = by (is_alone s) (taker s) (taker_is s (subst (λ (n : ℕ). 1 ≤ n) (sym here) some))
    where
      by : (b : Bool) (o : Option ℕ) → IfSome o (IsNumberOf (nodes_of s)) → IfSome (cond b (Some (turn.Act (act.Command c))) (command_as c o)) (IsTurnOf count nodes)
      by true o of = (is, tt)
      by false (Some node) of = (is, subst (λ (n : ℕ). IsNumberOf n node) here of)
      by false None of = tt

  stages_over : (a : Asked) → IsAsked count a → AllOver count nodes (stages a)
  stages_over (asked.Turn c) is = (
    λ run names here. one_of (claim_ahead run.state) (claim_is run.state),
    (λ run names here. one_of (own_turn c run.state) (own_is c run.state is here), (λ run names here. closing_turns count nodes run names, tt)),
  )
  stages_over asked.Nothing is = absurd is
  stages_over _ is = tt

-- what holds after any turns over the servers holds after those so far
module _ (words : List (List ℕ)) (bytes : List ℕ) (w : Work) (run : Recorded) (is : IsTask words bytes w) (P : List Turn → Type 0)
    (each : (ts : List Turn) → IsScenario w.scenario → All (IsTurnOf (length w.scenario.opening.servers) w.scenario.nodes) ts → Comes w ts w.new run → P ts) where
  scenario : IsScenario w.scenario
  scenario = scenario_in_sound bytes w.scenario is.read

  abbrev Over : Turn → Type 0
  Over = IsTurnOf (length w.scenario.opening.servers) w.scenario.nodes

  in_turns : (at : IsOnTurns (course_of w) run) → P (take at.k w.scenario.turns)
  in_turns at = each (take at.k w.scenario.turns) scenario (All-take Over at.k w.scenario.turns (scenario_turns w.scenario scenario)) at.comes

  -- turns after others
  on_from : (ts us : List Turn) (rows kept : Option (List Row)) (mid now : Recorded) → Comes w ts rows mid → Ran recorder rows mid us kept now → Comes w (ts ++ us) kept now
  on_from ts us rows kept mid now came ran =
      record { begun = came.begun; opens = came.opens; ran = Ran-append recorder (kept_at_start true w.old w.scenario) rows kept (without_turns came.begun) mid now ts us came.ran ran }

  in_stages : (xs : List Stage) → AllOver (length w.scenario.opening.servers) w.scenario.nodes xs → (ts us : List Turn) (rows : Option (List Row)) (mid : Recorded) → All Over ts → Comes w ts rows mid → SomeTaken w.new run xs rows mid us → All Over us
  in_stages [] over ts us rows mid all came end = subst (All Over) (sym end.none) (All-nil Over)
  in_stages (x ∷ xs) over ts us rows mid all came (inl some) =
      subst (All Over) (sym some.are) (All-take Over some.k (x mid) (over.0 mid (ready w ts rows mid scenario all came).names (nodes_stay w ts rows mid scenario all came)))
  in_stages (x ∷ xs) over ts us rows mid all came (inr some) =
      let here = over.0 mid (ready w ts rows mid scenario all came).names (nodes_stay w ts rows mid scenario all came) in
      subst (All Over) (sym some.are)
      (All-append Over (x mid) some.rest here
      (in_stages xs over.1 (ts ++ x mid) some.rest some.at_rows some.at (All-append Over ts (x mid) all here) (on_from ts (x mid) rows some.at_rows mid some.at came some.taken) some.on))

  in_own : (at : IsOnOwn (course_of w) run) → P (w.scenario.turns ++ at.ts)
  in_own at =
      let count = length w.scenario.opening.servers in
      let asks : IsAsked count w.task.asked = asked_in_task is.places (names_of w.scenario) w.scenario w.task (words, is.taken) is.asks refl is.task in
      let over = stages_over count w.scenario.nodes scenario.some_node w.task.asked asks in
      let own = scenario_turns w.scenario scenario in
      let more = in_stages (stages w.task.asked) over w.scenario.turns at.ts at.rows at.mid own at.came at.own in
      each (w.scenario.turns ++ at.ts) scenario (All-append Over w.scenario.turns at.ts own more)
      (on_from w.scenario.turns at.ts at.rows w.new at.mid run at.came (some_ran w.new run (stages w.task.asked) at.rows at.mid at.ts at.own))

  so_far : (ts : List Turn) → AreSoFar w run ts → P ts
  so_far ts (inl x) = subst P (sym x.are) (in_turns x.at)
  so_far ts (inr x) = subst P (sym x.are) (in_own x.at)

-- if it has no promise for the turns
module _ (words : List (List ℕ)) (bytes : List ℕ) (w : Work) (run : Recorded) (is : IsTask words bytes w) (Q : Type 0)
    (each : (ts : List Turn) → IsScenario w.scenario → All (IsTurnOf (length w.scenario.opening.servers) w.scenario.nodes) ts → Comes w ts w.new run → Q) where
  on_each : IsOn (course_of w) run → Q
  on_each (inl at) = in_turns words bytes w run is (λ ts. Q) each at
  on_each (inr at) = in_own words bytes w run is (λ ts. Q) each at

-- after all turns it is in a state of a run of the scenario
pub whole_comes : (words : List (List ℕ)) (bytes : List ℕ) (w : Work) (run : Recorded) → IsTask words bytes w → IsWhole (course_of w) run → (xs : List (List Row × Turn)) × ComesTo w.scenario xs run.state
whole_comes words bytes w run is whole =
    on_each words bytes w run is ((xs : List (List Row × Turn)) × ComesTo w.scenario xs run.state)
    (λ ts scenario all comes. ((found w ts w.new run scenario all comes).xs, comes_to w ts w.new run scenario all comes))
    (inr (record {
      mid = whole.mid;
      rows = whole.rows;
      came = whole.came;
      ts = whole.ts;
      own = all_some w.new run (stages w.task.asked) whole.rows whole.mid whole.ts whole.own;
    }))

pub safe_run : (words : List (List ℕ)) (bytes : List ℕ) → IsSafeRun words bytes
safe_run words bytes = λ w run is on. on_each words bytes w run is (IsSafeState run.state) (λ ts scenario all comes. holds w ts w.new run scenario all comes) on

pub begin_apart : (words : List (List ℕ)) (bytes : List ℕ) → BeginApart words bytes
begin_apart words bytes = λ w run rows t is on.
    on_each words bytes w run is (BeginsApart w rows run.state t) (λ ts scenario all comes. begins w ts w.new run scenario all comes refl rows t) on

pub finish_well : (words : List (List ℕ)) (bytes : List ℕ) → FinishWell words bytes
finish_well words bytes = λ w run ts rows id r docket lines is on done.
    so_far words bytes w run is (λ us. Finishes w us rows run.state id r docket lines) (λ us scenario all comes. finishes w us w.new run scenario all comes rows id r docket lines done) ts on

pub tell_truly : (words : List (List ℕ)) (bytes : List ℕ) → TellTruly words bytes
tell_truly words bytes = λ w run ts id r docket is on at.
    so_far words bytes w run is (λ us. TellsTruly w us run.state id r docket) (λ us scenario all comes. loses w us w.new run scenario all comes id r docket at) ts on

pub tell_hooks : (words : List (List ℕ)) (bytes : List ℕ) → TellHooks words bytes
tell_hooks words bytes = λ w run ts rows id r docket is on at.
    so_far words bytes w run is (λ us. TellsHooks w us rows run.state id r docket) (λ us scenario all comes. hooks w us w.new run scenario all comes rows id r docket at) ts on

pub obeys_at : (rows : List Row) (s : State) (c : CommandTurn) → Obeys rows s c
obeys_at rows s c = record {
  answer = answers_by_table s c;
  lowest = lowest-refuses s c.command;
  refused = refused_changes_nothing rows s c;
  begun = λ job begins.
      let x = begun_there s c job begins in
      record {
        begun = x.0;
        is_begun = x.1;
        number = begun_number s c job begins;
        joins = begun_joins s c x.0 x.1 rows;
        leases = begun_leased s c x.0 x.1 rows;
        audit = begun_logged s c x.0 x.1 rows;
        kept = begun_kept s c x.0 x.1 rows;
        waits = spends-last s c.command x.0 x.1;
      };
}

pub obeys : (words : List (List ℕ)) (bytes : List ℕ) → ObeysTable words bytes
obeys words bytes = λ w run rows c is on. obeys_at rows run.state c

pub active_alone : (words : List (List ℕ)) (bytes : List ℕ) → ActAlone words bytes
active_alone words bytes = λ w run is on. on_each words bytes w run is (IsActiveAlone w run.state) (λ ts scenario all comes. alone w ts w.new run scenario all comes refl) on

pub look_first : (words : List (List ℕ)) (bytes : List ℕ) → LookFirst words bytes
look_first words bytes = λ w run ts id r docket is on at.
    so_far words bytes w run is (λ us. LooksFirstIn w us run.state id r docket) (λ us scenario all comes. looks w us w.new run scenario all comes id r docket at) ts on

pub keep_time : (words : List (List ℕ)) (bytes : List ℕ) → KeepTime words bytes
keep_time words bytes = λ w run is on. on_each words bytes w run is (KeepsTime w run.state) (λ ts scenario all comes. keeps w ts w.new run scenario all comes) on

stores_readings : StoresReadings
stores_readings = record {
  polls = polls-read;
  stores = polls-store;
  discoveries = discoveries-read;
  jobs = jobs-store;
  never_sink = readings-never-sink;
  stay = instances-stay;
  openings = openings-give-numbers;
  restarts = restarts-count-on;
}

pub promised : (words : List (List ℕ)) (bytes : List ℕ) → Promises words bytes
promised words bytes = record {
  safe = safe_run words bytes;
  commands = obeys words bytes;
  begins = begin_apart words bytes;
  looks = look_first words bytes;
  finishes = finish_well words bytes;
  losses = tell_truly words bytes;
  hooks = tell_hooks words bytes;
  alone = active_alone words bytes;
  readings = stores_readings;
  keeps_time = keep_time words bytes;
}
