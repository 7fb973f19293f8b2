-- Until all hooks have run before a recovery that are to, none of its turns has changed a server.
use Rattle.std.proofs.Common.{◌≡◌, ◌∙◌, ℕ, ◌+◌, true, List, [], ◌∷◌, ◌++◌, length, refl, sym, ap, subst, take, Option, Some, None, ◌⊎◌, inl, inr, arith, ◌==◌, All, Contains, slice_get}
use Rattle.recovery_runs.proofs.Prelude.{Act, All-contains_itself, All-find, All-nil, All-weaker, Began, Docket, HookState, IsEarly, IsOfDocket}
use Rattle.recovery_runs.proofs.Prelude.{IsReady, IsStill, IsTurn, Ready, Recovery, Row, SameAim, State, StaysStill, TendedState, Turn, Unended}
use Rattle.recovery_runs.proofs.Prelude.{act_in, after_act, after_done, all-turned, command_outcome, early-turn, engine, flown-number, hooked}
use Rattle.recovery_runs.proofs.Prelude.{hooked-has, is_going, job_at, job_exchanges, jobs_begun, jobs_done, jobs_in_act, jobs_of, jobs_turned}
use Rattle.recovery_runs.proofs.Prelude.{known_of, moment_at, next_count, none-some, number_of, of-docket, option_map, plan_of, promoted_in, run}
use Rattle.recovery_runs.proofs.Prelude.{run_turns, same-aim, scan_outcome, slice_get-snoc_cases, slice_get_within, step, taken, taken-aim, turn_of}
use Rattle.recovery_runs.proofs.Prelude.{updated}
use Rattle.recovery_runs.proofs.Prelude.act
use Rattle.recovery_runs.proofs.Prelude.turn
use Rattle.recovery_runs.proofs.Prelude.unended
use Rattle.recovery_runs.proofs.HookTellings.{early-still}
use Rattle.recovery_runs.proofs.Joining.{joined, outcome-joins}
use Rattle.recovery_runs.proofs.Origins.{began-here, goes-on, longer, take-all, take-longer, Step}

length-push : (xs : List Step) (x : Step) → length (xs ++ x ∷ []) ≡ length xs + 1
length-push [] x = refl
length-push (y ∷ ys) x = let rest = length-push ys x in omega (arith, rest)

job-same : (m n : ℕ) → Some (act.Job m) ≡ Some (act.Job n) → m ≡ n
job-same m n same = cc

-- ---- along the turns

module _ (from : State) where
  -- one more turn
  module _ (xs : List Step) (s : State) (x : Step) (here : s ≡ run_turns engine from xs) (place id : ℕ) where
    at-last : IsStill id s x → IsStill id (run_turns engine from (take (length xs) (xs ++ x ∷ []))) x
    at-last last = subst (λ (zs : List Step). IsStill id (run_turns engine from zs) x) (sym (take-all xs (x ∷ []))) (subst (λ (z : State). IsStill id z x) here last)

    still-on : StaysStill place id from xs → IsStill id s x → StaysStill place id from (xs ++ x ∷ [])
    still-on still last k y after at = go (slice_get-snoc_cases xs x y k at)
      where
        go : (slice_get xs k ≡ Some y) ⊎ ((k ≡ length xs) × (y ≡ x)) → IsStill id (run_turns engine from (take k (xs ++ x ∷ []))) y
        go (inl was) = subst (λ (zs : List Step). IsStill id (run_turns engine from zs) y) (sym (take-longer xs (x ∷ []) k y was)) (still k y after was)
        go (inr (end, same)) =
            subst (λ (n : ℕ). IsStill id (run_turns engine from (take n (xs ++ x ∷ []))) y) (sym end)
            (subst (λ (z : Step). IsStill id (run_turns engine from (take (length xs) (xs ++ x ∷ []))) z) (sym same) (at-last last))

  -- a recovery that isn't through with the hooks before it
  abbrev pub HasStill : List Step → Unended → Type 0
  HasStill xs (unended.Plan j) = Unit {0}
  HasStill xs (unended.Recovery r docket) = (b : Began from xs r docket) × ((h : HookState) → docket.hooks ≡ Some h → IsEarly h → StaysStill b.place r.core.id from xs)

  module _ (count : ℕ) (xs : List Step) (s : State) (rows : List Row) (here : s ≡ run_turns engine from xs) (ready : Ready count s) (tended : TendedState s) (all : All (HasStill xs) s.jobs) where
    -- in another's turn, or in none
    stays : (t : Turn) (u : Unended) → (act_in s t ≡ Some (act.Job (number_of u)) → ⊥) → HasStill xs u → HasStill (xs ++ (rows, t) ∷ []) u
    unfolding longer
    stays t (unended.Plan j) apart h = tt
    stays t (unended.Recovery r docket) apart h = (
      longer from xs ((rows, t) ∷ []) (unended.Recovery r docket) h.0,
      λ k at early. still-on xs s (rows, t) here h.0.place r.core.id (h.1 k at early) (λ is. absurd (apart is)),
    )

    all-stay : (t : Turn) → ((n : ℕ) → act_in s t ≡ Some (act.Job n) → ⊥) → All (HasStill (xs ++ (rows, t) ∷ [])) s.jobs
    all-stay t none = All-weaker (HasStill xs) (HasStill (xs ++ (rows, t) ∷ [])) (λ u h. stays t u (none (number_of u)) h) s.jobs all

    -- as it begins
    begins : (t : Turn) → IsTurn count t → (u : Unended) → Contains (jobs_begun s t) u → HasStill (xs ++ (rows, t) ∷ []) u
    unfolding began-here
    begins t is (unended.Plan j) among = tt
    begins t is (unended.Recovery r docket) among = (
      began-here from count xs s (rows, t) here ready is r docket among,
      λ h at early k y after got job.
          let within = slice_get_within (xs ++ (rows, t) ∷ []) k y got in
          let long = length-push xs (rows, t) in
          absurd (omega (arith, after, within, long)),
    )

    -- its own turn
    module _ (t : Turn) (id : ℕ) (does : act_in s t ≡ Some (act.Job id)) (moves : (step rows s t).world ≡ (after_act rows s (act.Job id)).world) where
      abbrev after : List Step
      after = xs ++ (rows, t) ∷ []

      other : (u : Unended) → (number_of u ≡ id → ⊥) → HasStill xs u → HasStill after u
      other u apart h = stays t u (λ same. apart (sym (job-same id (number_of u) (sym does ∙ same)))) h

      module _ (r : Recovery) (docket : Docket) (found : job_at s.jobs id ≡ Some (unended.Recovery r docket)) (h : HasStill xs (unended.Recovery r docket))
          (fits : IsReady count (unended.Recovery r docket)) (going : is_going (turn_of s (unended.Recovery r docket)).step ≡ true) where
        abbrev read : ℕ
        read = next_count s.reads

        abbrev following : Recovery
        following = (hooked s.world s.book read (moment_at s) r docket).taken.recovery

        abbrev behind : Docket
        behind = (hooked s.world s.book read (moment_at s) r docket).docket

        number : following.core.id ≡ r.core.id
        number = flown-number count s.world s.book read (moment_at s) (unended.Recovery r docket) fits going

        aim : SameAim r following
        aim =
            let t = taken s.world s.book read (moment_at s) r in
            hooked-has (λ x. SameAim r x.recovery) docket (promoted_in s.book t) r t (λ told g. taken-aim s.world s.book read (moment_at s) r) (λ told. same-aim r)

        same : IsOfDocket docket behind
        same =
            let t = taken s.world s.book read (moment_at s) r in
            of-docket docket (promoted_in s.book t) r t

        still-then : (k : HookState) → behind.hooks ≡ Some k → IsEarly k → (o : Option HookState) → docket.hooks ≡ o → StaysStill h.0.place following.core.id from after
        still-then k at early None none =
            absurd (none-some (k.hooks, k.told) (sym (ap plan_of none) ∙ (sym same.hooks ∙ ap plan_of at)))
        still-then k at early (Some g) has =
            let was = early-turn s.world s.book read (moment_at s) r docket g k has at early in
            subst (λ (n : ℕ). StaysStill h.0.place n from after) (sym number)
            (still-on xs s (rows, t) here h.0.place r.core.id (h.1 g has was) (λ is. moves ∙ early-still s id r docket tended rows g found has was))

        following-still : HasStill after (unended.Recovery following behind)
        unfolding goes-on longer
        following-still = (
          goes-on from after r following docket behind number aim same (longer from xs ((rows, t) ∷ []) (unended.Recovery r docket) h.0),
          λ k at early. still-then k at early docket.hooks refl,
        )

      next : (u : Unended) → job_at s.jobs id ≡ Some u → HasStill xs u → IsReady count u → is_going (turn_of s u).step ≡ true → HasStill after (turn_of s u).next
      next (unended.Plan j) found h fits going = tt
      next (unended.Recovery r docket) found h fits going = following-still r docket found h fits going

      gone : job_at s.jobs id ≡ None → (u : Unended) → HasStill xs u → HasStill after u
      unfolding longer
      gone none (unended.Plan j) h = tt
      gone none (unended.Recovery r docket) h = (
        longer from xs ((rows, t) ∷ []) (unended.Recovery r docket) h.0,
        λ k at early.
            still-on xs s (rows, t) here h.0.place r.core.id (h.1 k at early) (λ is. moves ∙ ap (λ (o : Option Unended). run s.world (job_exchanges (option_map (turn_of s) o))) none),
      )

      turned : (o : Option Unended) → job_at s.jobs id ≡ o → All (HasStill after) (jobs_turned s.jobs id (option_map (turn_of s) o))
      turned None none = All-weaker (HasStill xs) (HasStill after) (gone none) s.jobs all
      turned (Some u) found =
          all-turned (HasStill xs) (HasStill after) id (λ k apart h. other k apart h) s.jobs (turn_of s u)
          (next u found (All-find (HasStill xs) (λ (k : Unended). number_of k == id) s.jobs u all found) (All-find (IsReady count) (λ (k : Unended). number_of k == id) s.jobs u ready.jobs found)) all

    -- what orchestrator does in a turn, whoever takes it
    module _ (t : Turn) (is : IsTurn count t) where
      abbrev later : List Step
      later = xs ++ (rows, t) ∷ []

      off : (a : Act) → act_in s t ≡ Some a → ((n : ℕ) → Some a ≡ Some (act.Job n) → ⊥) → All (HasStill later) s.jobs
      off a does other = all-stay t (λ n same. other n (sym does ∙ same))

      begun : (a : Act) → act_in s t ≡ Some a → jobs_begun s t ≡ jobs_in_act s a → All (HasStill later) (jobs_in_act s a)
      begun a does same =
          All-weaker (Contains (jobs_in_act s a)) (HasStill later) (λ u among. begins t is u (subst (λ (us : List Unended). Contains us u) (sym same) among)) (jobs_in_act s a) (All-contains_itself (jobs_in_act s a))

      act-still : (a : Act) → act_in s t ≡ Some a → jobs_begun s t ≡ jobs_in_act s a → (step rows s t).world ≡ (after_act rows s a).world → All (HasStill later) (after_act rows s a).jobs
      act-still (act.PollRead p n) does same moves = off (act.PollRead p n) does (λ n same. cc)
      act-still (act.PollStore p) does same moves = off (act.PollStore p) does (λ n same. cc)
      act-still (act.Command c) does same moves =
          joined (HasStill later) s.jobs (jobs_of s (command_outcome s c)) (updated (known_of s) (command_outcome s c).book).jobs (outcome-joins s (command_outcome s c)) (off (act.Command c) does (λ n same. cc)) (begun (act.Command c) does same)
      act-still (act.Job id) does same moves = turned t id does moves (job_at s.jobs id) refl
      act-still act.Scan does same moves =
          joined (HasStill later) s.jobs (jobs_of s (scan_outcome s)) (updated (known_of s) (scan_outcome s).book).jobs (outcome-joins s (scan_outcome s)) (off act.Scan does (λ n same. cc)) (begun act.Scan does same)
      act-still act.Restart does same moves = All-nil (HasStill later)

      done-still : (o : Option Act) → act_in s t ≡ o → jobs_begun s t ≡ jobs_done s o → (step rows s t).world ≡ (after_done rows s o).world → All (HasStill later) (after_done rows s o).jobs
      done-still None does alike moves = all-stay t (λ n job. none-some (act.Job n) (sym does ∙ job))
      done-still (Some a) does alike moves = act-still a does alike moves

    pub still-step : (t : Turn) → IsTurn count t → All (HasStill (xs ++ (rows, t) ∷ [])) (step rows s t).jobs
    still-step (turn.Act a) is = act-still (turn.Act a) is a refl refl refl
    still-step (turn.As node a) is = done-still (turn.As node a) is (act_in s (turn.As node a)) refl refl refl
    still-step (turn.Claim node) is = done-still (turn.Claim node) is (act_in s (turn.Claim node)) refl refl refl
    still-step t is = all-stay t (λ n same. cc)
