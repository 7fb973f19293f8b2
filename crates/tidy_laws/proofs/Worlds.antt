-- the servers of a state with `IsQuiet` are those of its scenario
use Rattle.std.proofs.Common.{◌≡◌, ◌∙◌, ℕ, ◌+◌, Bool, List, [], ◌∷◌, length, map, refl, sym, ap, subst, Option, Some, None, arith, suc, All, slice_get}
use Rattle.tidy_laws.proofs.Prelude.{Act, All-head, All-tail, AllAllowed, Allowed-step, ComesTo, Goes, Goes-comes, Goes-start, Goes-step, Grows}
use Rattle.tidy_laws.proofs.Prelude.{Grows-run, IsQuiet, IsTurn, IsWorldOf, Row, Scenario, Server, ServerInit, Settings, State, Turn, Unended}
use Rattle.tidy_laws.proofs.Prelude.{UntilsCanBePrinted, World, act_exchanges, act_in, done_exchanges, engine, exchanges_at, flown-allowed}
use Rattle.tidy_laws.proofs.Prelude.{flushes_of, gtid-run, job_exchanges, moment_at, next_count, opened_from, option_map, room_of, run, run_turns}
use Rattle.tidy_laws.proofs.Prelude.{same_Some, settings_of, start, step as turn_step, turn-allowed, turn_of, turns_of, world-turn}
use Rattle.tidy_laws.proofs.Prelude.Jobs.{job_at}
use Rattle.tidy_laws.proofs.Prelude.act
use Rattle.tidy_laws.proofs.Prelude.turn
use Rattle.tidy_laws.proofs.Prelude.unended
use Rattle.tidy_laws.proofs.Runs.{tidy-comes}

abbrev settings_in : List Server → List Settings
settings_in servers = map (λ x. x.settings) servers

-- servers that go on keep their settings
same-settings : (xs ys : List Server) → length ys ≡ length xs → ((n : ℕ) (s : Server) → slice_get xs n ≡ Some s → (t : Server) × (slice_get ys n ≡ Some t) × (t.settings ≡ s.settings)) → settings_in ys ≡ settings_in xs
same-settings [] [] long each = refl
same-settings [] (y ∷ ys) long each = absurd (omega arith)
same-settings (x ∷ xs) [] long each = absurd (omega arith)
same-settings (x ∷ xs) (y ∷ ys) long each =
    let first = each 0 x refl in
    let is : y ≡ first.0 = same_Some y first.0 first.1 in
    let head : y.settings ≡ x.settings = ap (λ (s : Server). s.settings) is ∙ first.2 in
    let rest = same-settings xs ys (omega arith) (λ n s h. each (suc n) s h) in
    ap (λ (s : Settings). s ∷ settings_in ys) head ∙ ap (λ (ss : List Settings). x.settings ∷ ss) rest

-- a turn's exchanges are allowed
job-allowed : (s : State) (o : Option Unended) → AllAllowed s.world (job_exchanges (option_map (turn_of s) o))
job-allowed s None = tt
job-allowed s (Some (unended.Plan j)) = turn-allowed s.world (next_count s.reads) (moment_at s) j
job-allowed s (Some (unended.Recovery r d)) = flown-allowed s.world s.book (next_count s.reads) (moment_at s) (unended.Recovery r d)

act-allowed : (s : State) (a : Act) → AllAllowed s.world (act_exchanges s a)
act-allowed s (act.Job job) = job-allowed s (job_at s.jobs job)
act-allowed s _ = tt

done-allowed : (s : State) (o : Option Act) → AllAllowed s.world (done_exchanges s o)
done-allowed s None = tt
done-allowed s (Some a) = act-allowed s a

turn-exchanges : (count : ℕ) (s : State) (t : Turn) → IsTurn count t → AllAllowed s.world (exchanges_at s t)
turn-exchanges count s (turn.Step x) is = (Allowed-step count s.world x is).0
turn-exchanges count s (turn.Act a) is = act-allowed s a
turn-exchanges count s (turn.As node a) is = done-allowed s (act_in s (turn.As node a))
turn-exchanges count s (turn.Claim node) is = done-allowed s (act_in s (turn.Claim node))
turn-exchanges count s _ is = tt

-- the servers' settings, and the mode
record IsOf (settings : List Settings) (gtid : Bool) (w : World) : Type 0 where
  all : settings_in w.servers ≡ settings
  mode : w.gtid ≡ gtid

of-step : (settings : List Settings) (gtid : Bool) (count : ℕ) (rows : List Row) (s : State) (t : Turn) → IsTurn count t → Goes count s → IsOf settings gtid s.world → IsOf settings gtid (turn_step rows s t).world
of-step settings gtid count rows s t is goes of =
    let es = exchanges_at s t in
    let allowed = turn-exchanges count s t is in
    let grows : Grows s.world (run s.world es) = Grows-run s.world es goes.held.flight.placed allowed in
    let after = Goes-step count rows s t is goes in
    let world : (turn_step rows s t).world ≡ run s.world es = world-turn rows s t in
    let long : length (run s.world es).servers ≡ length s.world.servers = sym (ap (λ (w : World). length w.servers) world) ∙ after.ready.servers ∙ sym goes.ready.servers in
    subst (IsOf settings gtid) (sym world) (record {
      all =
          same-settings s.world.servers (run s.world es).servers long
          (λ n x h. let g = grows n x h in (g.0, g.1, g.2.settings)) ∙ of.all;
      mode = gtid-run s.world es ∙ of.mode;
    })

of-run : (settings : List Settings) (gtid : Bool) (count : ℕ) (s : State) (xs : List (List Row × Turn)) → All (IsTurn count) (turns_of xs) → Goes count s → IsOf settings gtid s.world
    → IsOf settings gtid (run_turns engine s xs).world
of-run settings gtid count s [] all goes of = of
of-run settings gtid count s (x ∷ xs) all goes of =
    let here = All-head (IsTurn count) x.1 (turns_of xs) all in
    of-run settings gtid count (turn_step x.0 s x.1) xs (All-tail (IsTurn count) x.1 (turns_of xs) all) (Goes-step count x.0 s x.1 here goes) (of-step settings gtid count x.0 s x.1 here goes of)

opened-settings : (servers : List ServerInit) (room flushes k : ℕ) (is : List ServerInit) → settings_in (opened_from servers room flushes k is) ≡ map (λ i. i.settings) is
opened-settings servers room flushes k [] = refl
opened-settings servers room flushes k (i ∷ is) = ap (λ (ss : List Settings). i.settings ∷ ss) (opened-settings servers room flushes (k + 1) is)

of-comes : (s : Scenario) (xs : List (List Row × Turn)) (now : State) → ComesTo s xs now → IsOf (settings_of s) s.opening.gtid now.world
of-comes s xs now comes =
    subst (λ (x : State). IsOf (settings_of s) s.opening.gtid x.world) (sym comes.state)
    (of-run (settings_of s) s.opening.gtid (length s.opening.servers) (start s comes.wait comes.rows) xs comes.turns (Goes-start s comes.wait comes.rows comes.scenario)
    (record { all = opened-settings s.opening.servers (room_of s) (flushes_of s) 0 s.opening.servers; mode = refl }))

pub world-comes : (s : Scenario) (xs : List (List Row × Turn)) (now : State) → ComesTo s xs now → UntilsCanBePrinted s → IsQuiet now.world → IsWorldOf s now.world
world-comes s xs now comes untils quiet =
    let goes = Goes-comes s xs now comes in
    let of = of-comes s xs now comes in
    record { settings = of.all; gtid = of.mode; safe = (goes.sound quiet).flight.safe; tidy = tidy-comes s xs now comes untils; quiet = quiet }
