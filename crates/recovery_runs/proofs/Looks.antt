-- Through runs: the first turn of a recovery is its look at the failed server.
use Rattle.std.proofs.Common.{All, Bool, List, None, Option, Some, [], ap, append_assoc, arith, cond, false, get_or, inl, inr, length, refl, subst, sym, take, true, ℕ, ◌++◌, ◌+◌, ◌<◌, ◌==◌, ◌∙◌, ◌∷◌, ◌≡◌, ◌⊎◌, Contains, slice_get}
use Rattle.recovery_runs.proofs.Prelude.{Act, All-cons, All-contains, All-contains_itself, All-find, All-head, All-nil, All-tail, All-weaker}
use Rattle.recovery_runs.proofs.Prelude.{AreHooksOf, Befell, Began, BeginsOnce, BookState, Cause, ComesTo, Docket, FailsTruly, Failure}
use Rattle.recovery_runs.proofs.Prelude.{FirstFoundAway, HasHooks, HookState, IsEndedByHook, IsFailing, IsFresh, IsOfDead, IsOfDocket, IsReady}
use Rattle.recovery_runs.proofs.Prelude.{IsTended, IsTendedBeside, IsTurn, KeepsAlways, LooksBefore, Moment, NoneWas, Purpose, Ready, Recovery, Row}
use Rattle.recovery_runs.proofs.Prelude.{SameAim, Scenario, ServerNo, Stage, State, Status, Taken, TendedState, Turn, Unended, World, act_in}
use Rattle.recovery_runs.proofs.Prelude.{after_act, after_done, all-turned, always, append-nil, begun_hooks, borne, command_outcome, decided}
use Rattle.recovery_runs.proofs.Prelude.{decided-walks, decided_by, decisions-keep, deed_of, ended_by, engine, entered, eqb-false, false≢true}
use Rattle.recovery_runs.proofs.Prelude.{fate_of, flown-number, follows_no_more, found-number, front_hook, ground_of, hooked, hooked-has, is_going}
use Rattle.recovery_runs.proofs.Prelude.{job_at, jobs_begun, jobs_done, jobs_in_act, jobs_of, jobs_turned, kept-whole, known_of, label_at, leaver}
use Rattle.recovery_runs.proofs.Prelude.{moment_at, moved, next_count, none-some, number_of, of-docket, option_map, plan_of, promoted_in, reply_of}
use Rattle.recovery_runs.proofs.Prelude.{run_turns, same-aim, same_Some, scan_outcome, seen_in, slice_get-snoc_cases, slice_get_within, status}
use Rattle.recovery_runs.proofs.Prelude.{taken, taken-aim, told_of, step as turn_step, turn_of, turns_of, updated}
use Rattle.recovery_runs.proofs.Prelude.act
use Rattle.recovery_runs.proofs.Prelude.answered
use Rattle.recovery_runs.proofs.Prelude.by
use Rattle.recovery_runs.proofs.Prelude.cause
use Rattle.recovery_runs.proofs.Prelude.failing
use Rattle.recovery_runs.proofs.Prelude.job_step
use Rattle.recovery_runs.proofs.Prelude.purpose
use Rattle.recovery_runs.proofs.Prelude.stage
use Rattle.recovery_runs.proofs.Prelude.turn
use Rattle.recovery_runs.proofs.Prelude.unended
use Rattle.recovery_runs.proofs.Begun.{begun-once}
use Rattle.recovery_runs.proofs.Failing.{fail-comes}
use Rattle.recovery_runs.proofs.Joining.{joined, outcome-joins}
use Rattle.recovery_runs.proofs.Looking.{all-passed, answers-hook, check-away, check-reached, looks-first, meets-master, own-fails, own-recovery}
use Rattle.recovery_runs.proofs.Looking.{then-checked}
use Rattle.recovery_runs.proofs.Origins.{Step, began-here, get-last, get-longer, goes-on, longer, take-all, take-longer}
use Rattle.recovery_runs.proofs.Tending.{Tends, begun, opened, tends-comes, tends-step}

length-push : (xs : List Step) (x : Step) → length (xs ++ x ∷ []) ≡ length xs + 1
length-push [] x = refl
length-push (y ∷ ys) x = let rest = length-push ys x in omega (arith, rest)

job-same : (m n : ℕ) → Some (act.Job m) ≡ Some (act.Job n) → m ≡ n
job-same m n same = cc

-- without a job of a number each has another one
all-apart : (jobs : List Unended) (id : ℕ) → job_at jobs id ≡ None → All (λ u. number_of u ≡ id → ⊥) jobs
all-apart [] id none = All-nil (λ (u : Unended). number_of u ≡ id → ⊥)
all-apart (u ∷ us) id none = go (number_of u == id) refl none (λ e. all-apart us id e)
  where
    go : (b : Bool) → (number_of u == id) ≡ b → cond b (Some u) (job_at us id) ≡ None → (job_at us id ≡ None → All (λ (k : Unended). number_of k ≡ id → ⊥) us)
        → All (λ (k : Unended). number_of k ≡ id → ⊥) (u ∷ us)
    go true is e rest = absurd (none-some u (sym e))
    go false other e rest = All-cons (λ (k : Unended). number_of k ≡ id → ⊥) u us (eqb-false (number_of u) id other) (rest e)

-- ---- a recovery's stage after its look

abbrev IsOff : Recovery → Type 0
IsOff r = r.stage ≡ stage.Check → ⊥

moved-check : (s : Stage) → moved s ≡ stage.Check → s ≡ stage.Check
moved-check stage.Check e = refl
moved-check s e = cc

module _ (w : World) (b : BookState) (read : ℕ) (now : Moment) where
  decides-off : (r : Recovery) (d : by.Decision) → IsOff r → IsOff (decided_by (ground_of w b now) r d)
  decides-off r (by.Sticks t ts) off = off
  decides-off r (by.Chooses p ts) off = off
  decides-off r (by.ChoosesNobody ts) off = off
  decides-off r (by.Leaves d ds ts) off = off
  decides-off r (by.HandedOver ts) off = off
  decides-off r (by.Passes ts) off = off
  decides-off r (by.Sorts ts) off = off
  decides-off r by.Remains off = off
  decides-off r d off = λ e. cc

  enters-off : (r : Recovery) → IsOff r → IsOff (entered r (moved r.stage))
  enters-off r off = go (leaver (moved r.stage))
    where
      go : (o : Option ServerNo) → IsOff (record (follows_no_more r o) { stage = moved r.stage })
      go None = λ e. off (moved-check r.stage e)
      go (Some n) = λ e. off (moved-check r.stage e)

  completes-off : (r : Recovery) (x : by.Ending) → IsOff (ended_by r x)
  completes-off r by.Rests = λ e. cc
  completes-off r x = λ e. cc

  bears-off : (r : Recovery) (x : by.Bearing) → IsOff (borne r (fate_of x))
  bears-off r by.Drops = λ e. cc
  bears-off r x = λ e. cc

  keeps-off : KeepsAlways w b read now (λ v r. IsOff r)
  keeps-off = record {
    decides = λ r d may off. decides-off r d off;
    does = λ r o rest ob es j did off. off;
    enters = λ v r off. enters-off r off;
    completes = λ v r x none may off. completes-off r x;
    bears = λ r o rest c ob x stops is may off. bears-off r x;
  }

  taken-off : (r : Recovery) → IsOff r → IsOff (taken w b read now r).recovery
  taken-off r off =
      kept-whole w b read now IsOff (λ v x. IsOff x) (λ v x. IsOff x) (always w b read now (λ v x. IsOff x) keeps-off)
      (record { fails = λ x c ob why is. is; finishes = λ x o rest lines is e still. still }) r off

  decided-off : (r : Recovery) → IsOff r → IsOff (decided (ground_of w b now) r)
  decided-off r off = decisions-keep w b now IsOff (λ x d may is. decides-off x d is) (decided-walks w b now r) off

  -- no such recovery fails because its server is reached
  never-reachable : (r d : Recovery) (c : Cause) (n : ServerNo) → FailsTruly w b read now r d c → IsOff d → c ≡ cause.Reachable n → ⊥
  never-reachable r d c n (failing.Nobody none nobody) off e = cc
  never-reachable r d c n (failing.Reached x at shows) off e = off at
  never-reachable r d c n (failing.Sourced x y at shows has) off e = cc
  never-reachable r d c n (failing.Fatal stops fatal can) off e = subst (Befell w d.core (deed_of stops.op)) e stops.befell

-- ---- along the turns

module _ (from : State) where
  -- what its turns so far have found
  pub record HasLookedSo (xs : List Step) (r : Recovery) (docket : Docket) : Type 0 where
    pub began : Began from xs r docket
    pub as_begun : NoneWas began.place r.core.id from xs → IsFresh r × ((h : HookState) → docket.hooks ≡ Some h → h.checked ≡ false)
    pub fresh : (h : HookState) → docket.hooks ≡ Some h → h.checked ≡ false → NoneWas began.place r.core.id from xs
    pub looked : (h : HookState) → docket.hooks ≡ Some h → h.checked ≡ true → FirstFoundAway began.place r.core.id r.failed from xs × IsOff r

  abbrev pub HasLooked : List Step → Unended → Type 0
  HasLooked xs (unended.Plan j) = Unit {0}
  HasLooked xs (unended.Recovery r docket) = HasLookedSo xs r docket

  -- one more turn
  module _ (xs : List Step) (s : State) (x : Step) (here : s ≡ run_turns engine from xs) (place id : ℕ) where
    abbrev more : List Step
    more = xs ++ x ∷ []

    shorter : NoneWas place id from more → NoneWas place id from xs
    shorter none k y behind got does =
        none k y behind (get-longer xs (x ∷ []) k y got) (subst (λ (zs : List Step). act_in (run_turns engine from zs) y.1 ≡ Some (act.Job id)) (sym (take-longer xs (x ∷ []) k y got)) does)

    -- the last one is in the state that was reached
    last-does : (k : ℕ) (y : Step) → k ≡ length xs → y ≡ x → act_in (run_turns engine from (take k more)) y.1 ≡ Some (act.Job id) → act_in s x.1 ≡ Some (act.Job id)
    last-does k y end same does =
        subst (λ (z : State). act_in z x.1 ≡ Some (act.Job id)) (sym here)
        (subst (λ (zs : List Step). act_in (run_turns engine from zs) x.1 ≡ Some (act.Job id)) (take-all xs (x ∷ []))
        (subst (λ (n : ℕ). act_in (run_turns engine from (take n more)) x.1 ≡ Some (act.Job id)) end
        (subst (λ (z : Step). act_in (run_turns engine from (take k more)) z.1 ≡ Some (act.Job id)) same does)))

    none-on : (act_in s x.1 ≡ Some (act.Job id) → ⊥) → NoneWas place id from xs → NoneWas place id from more
    none-on other none k y behind got does = go (slice_get-snoc_cases xs x y k got)
      where
        go : (slice_get xs k ≡ Some y) ⊎ ((k ≡ length xs) × (y ≡ x)) → ⊥
        go (inl was) = none k y behind was (subst (λ (zs : List Step). act_in (run_turns engine from zs) y.1 ≡ Some (act.Job id)) (take-longer xs (x ∷ []) k y was) does)
        go (inr (end, same)) = other (last-does k y end same does)

    found-on : (f : ServerNo) → FirstFoundAway place id f from xs → FirstFoundAway place id f from more
    found-on f a =
        let same = take-longer xs (x ∷ []) a.at a.turn a.taken in
        record {
          at = a.at;
          turn = a.turn;
          behind = a.behind;
          taken = get-longer xs (x ∷ []) a.at a.turn a.taken;
          does = subst (λ (zs : List Step). act_in (run_turns engine from zs) a.turn.1 ≡ Some (act.Job id)) (sym same) a.does;
          first = subst (NoneWas place id from) (sym same) a.first;
          away = subst (λ (zs : List Step). seen_in (status (run_turns engine from zs).world f.0) ≡ None) (sym same) a.away;
        }

    -- it is the first one, and finds the server away
    found-here : (f : ServerNo) → place < length xs → act_in s x.1 ≡ Some (act.Job id) → NoneWas place id from xs → seen_in (status s.world f.0) ≡ None → FirstFoundAway place id f from more
    found-here f behind does none away =
        let same = take-all xs (x ∷ []) in
        record {
          at = length xs;
          turn = x;
          behind = behind;
          taken = get-last xs x;
          does = subst (λ (zs : List Step). act_in (run_turns engine from zs) x.1 ≡ Some (act.Job id)) (sym same) (subst (λ (z : State). act_in z x.1 ≡ Some (act.Job id)) here does);
          first = subst (NoneWas place id from) (sym same) none;
          away = subst (λ (zs : List Step). seen_in (status (run_turns engine from zs).world f.0) ≡ None) (sym same) (subst (λ (z : State). seen_in (status z.world f.0) ≡ None) here away);
        }

    -- after it that isn't so any more that none was
    some-was : place < length xs → act_in s x.1 ≡ Some (act.Job id) → NoneWas place id from more → ⊥
    some-was behind does none =
        none (length xs) x behind (get-last xs x)
        (subst (λ (zs : List Step). act_in (run_turns engine from zs) x.1 ≡ Some (act.Job id)) (sym (take-all xs (x ∷ []))) (subst (λ (z : State). act_in z x.1 ≡ Some (act.Job id)) here does))

  module _ (count : ℕ) (xs : List Step) (s : State) (rows : List Row) (here : s ≡ run_turns engine from xs) (ready : Ready count s) (tended : TendedState s) (all : All (HasLooked xs) s.jobs) where
    -- in another's turn, or in none
    stays : (t : Turn) (u : Unended) → (act_in s t ≡ Some (act.Job (number_of u)) → ⊥) → HasLooked xs u → HasLooked (xs ++ (rows, t) ∷ []) u
    unfolding longer
    stays t (unended.Plan j) apart h = tt
    stays t (unended.Recovery r docket) apart h = record {
      began = longer from xs ((rows, t) ∷ []) (unended.Recovery r docket) h.began;
      as_begun = λ none. h.as_begun (shorter xs s (rows, t) here h.began.place r.core.id none);
      fresh = λ k at never. none-on xs s (rows, t) here h.began.place r.core.id apart (h.fresh k at never);
      looked = λ k at is. (found-on xs s (rows, t) here h.began.place r.core.id r.failed (h.looked k at is).0, (h.looked k at is).1);
    }

    all-stay : (t : Turn) → ((n : ℕ) → act_in s t ≡ Some (act.Job n) → ⊥) → All (HasLooked (xs ++ (rows, t) ∷ [])) s.jobs
    all-stay t none = All-weaker (HasLooked xs) (HasLooked (xs ++ (rows, t) ∷ [])) (λ u h. stays t u (none (number_of u)) h) s.jobs all

    -- as it begins
    hooks-fresh : (r : Recovery) (docket : Docket) (u : Purpose) → HasHooks s u r.failed docket.hooks → (h : HookState) → docket.hooks ≡ Some h → h.checked ≡ false
    hooks-fresh r docket purpose.Regroup none h has = absurd (none-some h (sym none ∙ has))
    hooks-fresh r docket purpose.Master are h has = of-dead are
      where
        of-dead : AreHooksOf s r.failed docket.hooks → h.checked ≡ false
        of-dead are =
            let told = told_of s.configuration are.name (label_at s.book r.failed) are.code in
            ap (λ (x : HookState). x.checked) (sym (same_Some (begun_hooks s.configuration.hooks told) h (sym are.hooks ∙ has)))
    hooks-fresh r docket (purpose.Intermediate n) are h has = of-dead are
      where
        of-dead : AreHooksOf s r.failed docket.hooks → h.checked ≡ false
        of-dead are =
            let told = told_of s.configuration are.name (label_at s.book r.failed) are.code in
            ap (λ (x : HookState). x.checked) (sym (same_Some (begun_hooks s.configuration.hooks told) h (sym are.hooks ∙ has)))
    hooks-fresh r docket (purpose.Takeover d) none h has = absurd (none-some h (sym none ∙ has))

    begins : (t : Turn) → IsTurn count t → (u : Unended) → Contains (jobs_begun s t) u → HasLooked (xs ++ (rows, t) ∷ []) u
    unfolding began-here
    begins t is (unended.Plan j) among = tt
    begins t is (unended.Recovery r docket) among =
        let once = All-contains (BeginsOnce s) (jobs_begun s t) (unended.Recovery r docket) (begun-once count s t ready is) among in
        let new = hooks-fresh r docket r.purpose once.hooks in
        record {
          began = began-here from count xs s (rows, t) here ready is r docket among;
          as_begun = λ none. (once.fresh, new);
          fresh = λ h at never k y after got does.
              let within = slice_get_within (xs ++ (rows, t) ∷ []) k y got in
              let long = length-push xs (rows, t) in
              absurd (omega (arith, after, within, long));
          looked = λ h at is. absurd (false≢true (sym (new h at) ∙ is));
        }

    -- its own turn
    module _ (t : Turn) (id : ℕ) (does : act_in s t ≡ Some (act.Job id)) where
      abbrev after : List Step
      after = xs ++ (rows, t) ∷ []

      other : (u : Unended) → (number_of u ≡ id → ⊥) → HasLooked xs u → HasLooked after u
      other u apart h = stays t u (λ same. apart (sym (job-same id (number_of u) (sym does ∙ same)))) h

      module _ (r : Recovery) (docket : Docket) (found : job_at s.jobs id ≡ Some (unended.Recovery r docket)) (is_id : r.core.id ≡ id) (h : HasLookedSo xs r docket)
          (fits : IsReady count (unended.Recovery r docket)) (going : is_going (turn_of s (unended.Recovery r docket)).step ≡ true) where
        abbrev at_read : ℕ
        at_read = next_count s.reads

        abbrev own : Taken
        own = taken s.world s.book at_read (moment_at s) r

        abbrev following : Recovery
        following = (hooked s.world s.book at_read (moment_at s) r docket).taken.recovery

        abbrev behind : Docket
        behind = (hooked s.world s.book at_read (moment_at s) r docket).docket

        number : following.core.id ≡ r.core.id
        number = flown-number count s.world s.book at_read (moment_at s) (unended.Recovery r docket) fits going

        aim : SameAim r following
        aim = hooked-has (λ x. SameAim r x.recovery) docket (promoted_in s.book own) r own (λ told g. taken-aim s.world s.book at_read (moment_at s) r) (λ told. same-aim r)

        same : IsOfDocket docket behind
        same = of-docket docket (promoted_in s.book own) r own

        within : h.began.place < length xs
        within = slice_get_within xs h.began.place h.began.turn h.began.taken

        mine : act_in s t ≡ Some (act.Job r.core.id)
        mine = does ∙ ap (λ (n : ℕ). Some (act.Job n)) (sym is_id)

        tends : (k : HookState) → docket.hooks ≡ Some k → IsTended r k
        tends k has = All-find IsTendedBeside (λ (u : Unended). number_of u == id) s.jobs (unended.Recovery r docket) tended.jobs found k has

        -- what it leaves off its look
        off : (k : HookState) → docket.hooks ≡ Some k → k.checked ≡ true → IsOff following
        off k has is =
            hooked-has (λ x. IsOff x.recovery) docket (promoted_in s.book own) r own (λ told g. taken-off s.world s.book at_read (moment_at s) r (h.looked k has is).1) (λ told. (h.looked k has is).1)

        -- its first turn
        module _ (k : HookState) (has : docket.hooks ≡ Some k) (never : k.checked ≡ false) where
          goes-own : own.step ≡ job_step.Going
          goes-own = go (seen_in (status s.world r.failed.0)) refl
            where
              go : (o : Option Status) → seen_in (status s.world r.failed.0) ≡ o → own.step ≡ job_step.Going
              go None away = ap (λ (x : Taken). x.step) (check-away s.world s.book at_read (moment_at s) r ((tends k has).first never) away)
              go (Some x) shows =
                  let fails = own-fails docket k (promoted_in s.book own) r own has never (cause.Reachable r.failed) [] (check-reached s.world s.book at_read (moment_at s) r ((tends k has).first never) x shows) in
                  absurd (false≢true (sym (ap is_going fails) ∙ going))

          away-now : seen_in (status s.world r.failed.0) ≡ None
          away-now = go (seen_in (status s.world r.failed.0)) refl
            where
              go : (o : Option Status) → seen_in (status s.world r.failed.0) ≡ o → seen_in (status s.world r.failed.0) ≡ None
              go None away = away
              go (Some x) shows =
                  let fails = check-reached s.world s.book at_read (moment_at s) r ((tends k has).first never) x shows in
                  absurd (false≢true (sym (ap is_going fails) ∙ ap is_going goes-own))

          off-first : IsOff following
          off-first =
              subst IsOff (sym (own-recovery docket k (promoted_in s.book own) r own has never))
              (subst (λ (x : Taken). IsOff x.recovery) (sym (check-away s.world s.book at_read (moment_at s) r ((tends k has).first never) away-now)) (λ e. cc))

        looks-now : (k : HookState) → docket.hooks ≡ Some k → FirstFoundAway h.began.place r.core.id r.failed from after × IsOff following
        looks-now k has = go k.checked refl
          where
            go : (b : Bool) → k.checked ≡ b → FirstFoundAway h.began.place r.core.id r.failed from after × IsOff following
            go true is = (found-on xs s (rows, t) here h.began.place r.core.id r.failed (h.looked k has is).0, off k has is)
            go false never = (found-here xs s (rows, t) here h.began.place r.core.id r.failed within mine (h.fresh k has never) (away-now k has never), off-first k has never)

        looks-then : (o : Option HookState) → docket.hooks ≡ o → (k : HookState) → behind.hooks ≡ Some k → FirstFoundAway h.began.place following.core.id following.failed from after × IsOff following
        looks-then None none k at = absurd (none-some (k.hooks, k.told) (sym (ap plan_of none) ∙ (sym same.hooks ∙ ap plan_of at)))
        looks-then (Some g) has k at =
            let found_so = looks-now g has in
            (subst (λ (n : ℕ). FirstFoundAway h.began.place n following.failed from after) (sym number) (subst (λ (f : ServerNo). FirstFoundAway h.began.place r.core.id f from after) (sym aim.failed) found_so.0), found_so.1)

        checked-then : (o : Option HookState) → docket.hooks ≡ o → (k : HookState) → behind.hooks ≡ Some k → k.checked ≡ true
        checked-then None none k at = absurd (none-some (k.hooks, k.told) (sym (ap plan_of none) ∙ (sym same.hooks ∙ ap plan_of at)))
        checked-then (Some g) has k at = then-checked docket g (promoted_in s.book own) r own has k at

        following-looked : HasLooked after (unended.Recovery following behind)
        unfolding goes-on longer
        following-looked = record {
          began = goes-on from after r following docket behind number aim same (longer from xs ((rows, t) ∷ []) (unended.Recovery r docket) h.began);
          as_begun = λ none. absurd (some-was xs s (rows, t) here h.began.place following.core.id within (mine ∙ ap (λ (n : ℕ). Some (act.Job n)) (sym number)) none);
          fresh = λ k at never. absurd (false≢true (sym never ∙ checked-then docket.hooks refl k at));
          looked = λ k at is. looks-then docket.hooks refl k at;
        }

      next : (u : Unended) → job_at s.jobs id ≡ Some u → HasLooked xs u → IsReady count u → is_going (turn_of s u).step ≡ true → HasLooked after (turn_of s u).next
      next (unended.Plan j) found h fits going = tt
      next (unended.Recovery r docket) found h fits going = following-looked r docket found (found-number s.jobs id (unended.Recovery r docket) found) h fits going

      turned : (o : Option Unended) → job_at s.jobs id ≡ o → All (HasLooked after) (jobs_turned s.jobs id (option_map (turn_of s) o))
      turned None none = λ k d in_list. other (get_or s.jobs k d) (all-apart s.jobs id none k d in_list) (all k d in_list)
      turned (Some u) found =
          all-turned (HasLooked xs) (HasLooked after) id (λ k apart h. other k apart h) s.jobs (turn_of s u)
          (next u found (All-find (HasLooked xs) (λ (k : Unended). number_of k == id) s.jobs u all found) (All-find (IsReady count) (λ (k : Unended). number_of k == id) s.jobs u ready.jobs found)) all

    -- what orchestrator does in a turn, whoever takes it
    module _ (t : Turn) (is : IsTurn count t) where
      abbrev later : List Step
      later = xs ++ (rows, t) ∷ []

      off-act : (a : Act) → act_in s t ≡ Some a → ((n : ℕ) → Some a ≡ Some (act.Job n) → ⊥) → All (HasLooked later) s.jobs
      off-act a does other = all-stay t (λ n same. other n (sym does ∙ same))

      begun-act : (a : Act) → act_in s t ≡ Some a → jobs_begun s t ≡ jobs_in_act s a → All (HasLooked later) (jobs_in_act s a)
      begun-act a does same =
          All-weaker (Contains (jobs_in_act s a)) (HasLooked later) (λ u among. begins t is u (subst (λ (us : List Unended). Contains us u) (sym same) among)) (jobs_in_act s a) (All-contains_itself (jobs_in_act s a))

      act-looked : (a : Act) → act_in s t ≡ Some a → jobs_begun s t ≡ jobs_in_act s a → All (HasLooked later) (after_act rows s a).jobs
      act-looked (act.PollRead p n) does same = off-act (act.PollRead p n) does (λ n same. cc)
      act-looked (act.PollStore p) does same = off-act (act.PollStore p) does (λ n same. cc)
      act-looked (act.Command c) does same =
          joined (HasLooked later) s.jobs (jobs_of s (command_outcome s c)) (updated (known_of s) (command_outcome s c).book).jobs (outcome-joins s (command_outcome s c)) (off-act (act.Command c) does (λ n same. cc)) (begun-act (act.Command c) does same)
      act-looked (act.Job id) does same = turned t id does (job_at s.jobs id) refl
      act-looked act.Scan does same =
          joined (HasLooked later) s.jobs (jobs_of s (scan_outcome s)) (updated (known_of s) (scan_outcome s).book).jobs (outcome-joins s (scan_outcome s)) (off-act act.Scan does (λ n same. cc)) (begun-act act.Scan does same)
      act-looked act.Restart does same = All-nil (HasLooked later)

      done-looked : (o : Option Act) → act_in s t ≡ o → jobs_begun s t ≡ jobs_done s o → All (HasLooked later) (after_done rows s o).jobs
      done-looked None does alike = all-stay t (λ n job. none-some (act.Job n) (sym does ∙ job))
      done-looked (Some a) does alike = act-looked a does alike

    pub looked-step : (t : Turn) → IsTurn count t → All (HasLooked (xs ++ (rows, t) ∷ [])) (turn_step rows s t).jobs
    looked-step (turn.Act a) is = act-looked (turn.Act a) is a refl refl
    looked-step (turn.As node a) is = done-looked (turn.As node a) is (act_in s (turn.As node a)) refl refl
    looked-step (turn.Claim node) is = done-looked (turn.Claim node) is (act_in s (turn.Claim node)) refl refl
    looked-step t is = all-stay t (λ n same. cc)

-- ---- in each state of each run

module _ (count : ℕ) (from : State) where
  looked-run : (xs ys : List Step) (s : State) → All (IsTurn count) (turns_of ys) → Tends count from xs s → All (HasLooked from xs) s.jobs → All (HasLooked from (xs ++ ys)) (run_turns engine s ys).jobs
  looked-run xs [] s all t h = subst (λ (zs : List Step). All (HasLooked from zs) s.jobs) (sym (append-nil xs)) h
  looked-run xs (y ∷ ys) s all t h =
      let is = All-head (IsTurn count) y.1 (turns_of ys) all in
      subst (λ (zs : List Step). All (HasLooked from zs) (run_turns engine (turn_step y.0 s y.1) ys).jobs) (append_assoc xs (y ∷ []) ys)
      (looked-run (xs ++ y ∷ []) ys (turn_step y.0 s y.1) (All-tail (IsTurn count) y.1 (turns_of ys) all) (tends-step count from xs s y is t)
      (looked-step from count xs s y.0 t.here t.goes.ready t.cares.tended h y.1 is))

module _ (s : Scenario) (xs : List Step) (now : State) (comes : ComesTo s xs now) where
  looked-comes : All (HasLooked (begun s xs now comes) xs) now.jobs
  looked-comes =
      subst (λ (z : State). All (HasLooked (begun s xs now comes) xs) z.jobs) (sym comes.state)
      (looked-run (length s.opening.servers) (begun s xs now comes) [] xs (begun s xs now comes) comes.turns (opened s xs now comes) (All-nil (HasLooked (begun s xs now comes) [])))

  module _ (id : ℕ) (r : Recovery) (docket : Docket) (at : job_at now.jobs id ≡ Some (unended.Recovery r docket)) where
    so : HasLookedSo (begun s xs now comes) xs r docket
    so = All-find (HasLooked (begun s xs now comes) xs) (λ (k : Unended). number_of k == id) now.jobs (unended.Recovery r docket) looked-comes at

    is_id : r.core.id ≡ id
    is_id = found-number now.jobs id (unended.Recovery r docket) at

    tended-so : (h : HookState) → docket.hooks ≡ Some h → IsTended r h
    tended-so h has = All-find IsTendedBeside (λ (u : Unended). number_of u == id) now.jobs (unended.Recovery r docket) (tends-comes s xs now comes).cares.tended.jobs at h has

    abbrev ByNumber : ℕ → Type 0
    ByNumber n = NoneWas so.began.place n (begun s xs now comes) xs

    own-none : ByNumber id → ByNumber r.core.id
    own-none = subst ByNumber (sym is_id)

    -- a dead master's and a dead intermediate master's have hooks, a takeover none
    dead-hooks : (u : Purpose) → IsOfDead u → HasHooks (run_turns engine (begun s xs now comes) (take so.began.place xs)) u r.failed so.began.begins.had.hooks → (h : HookState) × (docket.hooks ≡ Some h)
    dead-hooks u dead has = go docket.hooks refl
      where
        some : (v : Purpose) → IsOfDead v → HasHooks (run_turns engine (begun s xs now comes) (take so.began.place xs)) v r.failed so.began.begins.had.hooks → (h : HookState) × (so.began.begins.had.hooks ≡ Some h)
        some purpose.Master dead are = (_, are.hooks)
        some (purpose.Intermediate n) dead are = (_, are.hooks)
        some purpose.Regroup dead none = absurd dead
        some (purpose.Takeover d) dead none = absurd dead

        go : (o : Option HookState) → docket.hooks ≡ o → (h : HookState) × (docket.hooks ≡ Some h)
        go (Some h) is = (h, is)
        go None is =
            let had = some u dead has in
            absurd (none-some (had.0.hooks, had.0.told) (sym (ap plan_of is) ∙ (so.began.begins.same.hooks ∙ ap plan_of had.1)))

    takeover-none : (d : ServerNo) → r.purpose ≡ purpose.Takeover d → docket.hooks ≡ None
    takeover-none d is = go docket.hooks refl
      where
        none : so.began.begins.had.hooks ≡ None
        none = subst (λ (u : Purpose). HasHooks (run_turns engine (begun s xs now comes) (take so.began.place xs)) u r.failed so.began.begins.had.hooks) is so.began.begins.hooks

        go : (o : Option HookState) → docket.hooks ≡ o → docket.hooks ≡ None
        go None at = at
        go (Some h) at = absurd (none-some (h.hooks, h.told) (sym (ap plan_of none) ∙ (sym so.began.begins.same.hooks ∙ ap plan_of at)))

    -- a turn that finds its failed server is its first one
    once-reached : (h : HookState) (f : Failure) (n : ServerNo) → docket.hooks ≡ Some h → reply_of now (turn.Act (act.Job id)) ≡ answered.Failed f → f.cause ≡ cause.Reachable n → ByNumber id
    once-reached h f n has fails e = go h.checked refl
      where
        by-cause : h.checked ≡ true → ((front_hook docket.hooks ≡ None) × IsFailing now.world now.book (next_count now.reads) (record { 0 = now.moment }) r f.cause) ⊎ IsEndedByHook docket f.cause → ⊥
        by-cause is (inr stopped) = let told = stopped.told in cc
        by-cause is (inl (none, why)) =
            never-reachable now.world now.book (next_count now.reads) (record { 0 = now.moment }) r (decided (ground_of now.world now.book (record { 0 = now.moment })) r) f.cause n why
            (decided-off now.world now.book (next_count now.reads) (record { 0 = now.moment }) r (so.looked h has is).1) e

        go : (b : Bool) → h.checked ≡ b → ByNumber id
        go false never = subst ByNumber is_id (so.fresh h has never)
        go true is = absurd (by-cause is (fail-comes s xs now comes id r docket f at fails))

    pub looks-before : LooksBefore (begun s xs now comes) xs now id r docket
    looks-before = record {
      began = so.began;
      first = λ dead none.
          let hooks = dead-hooks r.purpose dead so.began.begins.hooks in
          looks-first now id r docket at hooks.0 hooks.1 ((so.as_begun (own-none none)).1 hooks.0 hooks.1) (tended-so hooks.0 hooks.1);
      fresh = λ h has none. (so.as_begun (own-none none)).1 h has;
      looked = λ h has never. subst ByNumber is_id (so.fresh h has never);
      found = λ h has is. subst (λ (n : ℕ). FirstFoundAway so.began.place n r.failed (begun s xs now comes) xs) is_id (so.looked h has is).0;
      once = once-reached;
      hook = λ h k has due. answers-hook now id r docket at h k has due;
      passed = λ h lines has is. all-passed now id r docket at h has (tended-so h has) lines is.done;
      takeover = λ d is none. meets-master now id r docket at d is (so.as_begun (own-none none)).0 (takeover-none d is);
    }
