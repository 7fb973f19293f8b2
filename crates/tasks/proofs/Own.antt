-- A single command's claim and its own turn.
use Rattle.std.proofs.Common.{◌≡◌, ◌∙◌, ℕ, ◌++◌, List, [], ◌∷◌, Bool, true, false, refl, sym, ap, subst, Option, Some, None, cond, inr, option_map}
use Rattle.tasks.proofs.Prelude.{Answers, ClosesEach, CommandTurn, Ends, EndsEach, GivesUpEach, GivesUpOn, LeadsTo, Point, Ran, Recorded, Reply, Row}
use Rattle.tasks.proofs.Prelude.{Stage, State, Stops, StopsEach, Turn, TurnFault, WasCutOff, active_in, append-nil, begun_by, claim_ahead}
use Rattle.tasks.proofs.Prelude.{claim_without, closing, closing_by, command_as, engine, is_alone, is_commands, is_of, last_reply, option_and_then}
use Rattle.tasks.proofs.Prelude.{option_or, option_to_list, own_stages, own_turn, recorder, reply_of, run_turns, taker, taker_by, turns_of, unwrap_or}
use Rattle.tasks.proofs.Prelude.{without_turns}
use Rattle.tasks.proofs.Prelude.act
use Rattle.tasks.proofs.Prelude.answered
use Rattle.tasks.proofs.Prelude.fault
use Rattle.tasks.proofs.Prelude.turn
use Rattle.tasks.proofs.Closings.{last-told}
use Rattle.tasks.proofs.Courses.{Recording, gave_up_on, recorded, recorded_at}
use Rattle.tasks.proofs.Stages.{all_behind, all_some, one_stops, one_taken, some_first, stops_behind, stops_first}

-- ---- a stage of one turn, or none

abbrev pub stage_of : (State → Option Turn) → Stage
stage_of f = λ run. option_to_list (f run.state)

-- it was taken
pub stage_took : (f : State → Option Turn) (from to : Point) (mid : Recorded) → mid.state ≡ from.state → Ran engine from.kept from.state (option_to_list (f from.state)) to.kept to.state → Recording from.kept mid (stage_of f mid) to.kept to.state
stage_took f from to mid at ran =
    recorded_at from.kept to.kept mid from.state to.state (stage_of f mid) at (subst (λ (s : State). Ran engine from.kept from.state (option_to_list (f s)) to.kept to.state) (sym at) ran)

-- it gave up
pub stage_stops : (f : State → Option Turn) (from : Point) (kept : Option (List Row)) (now : State) (mid : Recorded) (why : TurnFault) → mid.state ≡ from.state → WasCutOff engine from.kept from.state (option_to_list (f from.state)) kept now why
    → GivesUpOn from.kept mid (stage_of f mid) kept why
stage_stops f from kept now mid why at cut =
    let here = subst (λ (s : State). WasCutOff engine from.kept from.state (option_to_list (f s)) kept now why) (sym at) cut in
    subst (λ (us : List Turn). GivesUpOn from.kept mid us kept why) (append-nil (stage_of f mid)) (gave_up_on from.kept kept mid from.state now (stage_of f mid) [] why at here)

-- ---- its reply

-- the journal of one turn
one_journal : (kept : Option (List Row)) (mid run : Recorded) (t : Turn) → LeadsTo recorder kept mid (t ∷ []) run → run.journal ≡ mid.journal ++ (t, reply_of mid.state t) ∷ []
one_journal None mid run t leads = ap (λ (r : Recorded). r.journal) leads.2 ∙ by leads.0 leads.1
  where
    by : (xs : List (List Row × Turn)) → turns_of xs ≡ t ∷ [] → (run_turns recorder mid xs).journal ≡ mid.journal ++ (t, reply_of mid.state t) ∷ []
    by [] is = absurd cc
    by (x ∷ []) is = let same : x.1 ≡ t = cc in ap (λ (u : Turn). mid.journal ++ (u, reply_of mid.state u) ∷ []) same
    by (x ∷ y ∷ ys) is = absurd cc
one_journal (Some rows) mid run t leads = ap (λ (r : Recorded). r.journal) leads

-- and of none
no_journal : (kept : Option (List Row)) (mid run : Recorded) → LeadsTo recorder kept mid [] run → run ≡ mid
no_journal None mid run leads = leads.2 ∙ by leads.0 leads.1
  where
    by : (xs : List (List Row × Turn)) → turns_of xs ≡ [] → run_turns recorder mid xs ≡ mid
    by [] is = refl
    by (x ∷ xs) is = absurd cc
no_journal (Some rows) mid run leads = leads

-- a command's turn or a claim, for a run that has just this
module _ (kept : Option (List Row)) (mid run : Recorded) where
  pub told_one : (t : Turn) → is_commands t ≡ true → LeadsTo recorder kept mid (t ∷ []) run → last_reply run.journal ≡ Some (reply_of mid.state t)
  told_one t tells leads =
      ap last_reply (one_journal kept mid run t leads)
      ∙ last-told mid.journal ((t, reply_of mid.state t) ∷ []) (reply_of mid.state t) (ap (λ (b : Bool). cond b (Some (reply_of mid.state t)) None) tells)

  pub told_none : LeadsTo recorder kept mid [] run → run ≡ mid
  told_none leads = no_journal kept mid run leads

-- ---- both stages

is_telling : Option Turn → Bool
is_telling None = true
is_telling (Some t) = is_commands t

tells_claim : (s : State) → is_telling (claim_ahead s) ≡ true
unfolding is_telling
tells_claim s = by (is_alone s) (active_in s)
  where
    by : (b : Bool) (o : Option ℕ) → is_telling (cond b None (claim_without o)) ≡ true
    by true o = refl
    by false (Some node) = refl
    by false None = refl

tells_own : (c : CommandTurn) (s : State) → is_telling (own_turn c s) ≡ true
unfolding is_telling
tells_own c s = by (is_alone s) (taker s)
  where
    by : (b : Bool) (o : Option ℕ) → is_telling (cond b (Some (turn.Act (act.Command c))) (command_as c o)) ≡ true
    by true o = refl
    by false (Some node) = refl
    by false None = refl

-- a command that needs no claim has its turn
has_turn : (c : CommandTurn) (s : State) → claim_ahead s ≡ None → own_turn c s ≡ None → ⊥
has_turn c s = by (is_alone s) (active_in s)
  where
    by : (b : Bool) (o : Option ℕ) → cond b None (claim_without o) ≡ None → cond b (Some (turn.Act (act.Command c))) (command_as c (taker_by o (is_of 1 s.claims.kept))) ≡ None → ⊥
    by true o none own = cc
    by false (Some node) none own = cc
    by false None none own = cc

module _ (c : CommandTurn) (from at to : Point) (claimed told : Option Reply)
    (ran : Ran engine from.kept from.state (option_to_list (claim_ahead from.state)) at.kept at.state) (claimed_is : claimed ≡ option_map (reply_of from.state) (claim_ahead from.state))
    (ran_own : Ran engine at.kept at.state (option_to_list (own_turn c at.state)) to.kept to.state) (told_is : told ≡ option_map (reply_of at.state) (own_turn c at.state)) where
  abbrev reply : Reply
  reply = unwrap_or (option_or told claimed) answered.Lapsed

  module _ (mid : Recorded) (here : mid.state ≡ from.state) where
    one : Recording from.kept mid (stage_of claim_ahead mid) at.kept at.state
    one = stage_took claim_ahead from at mid here ran

    two : Recording at.kept one.run (stage_of (own_turn c) one.run) to.kept to.state
    two = stage_took (own_turn c) at to one.run one.state ran_own

    -- the claim was taken by another
    by_claim : (u : Option Turn) → claim_ahead from.state ≡ u → own_turn c at.state ≡ None → last_reply one.run.journal ≡ Some (unwrap_or claimed answered.Lapsed)
    unfolding is_telling
    by_claim (Some u) is none =
        let same : claim_ahead mid.state ≡ Some u = ap claim_ahead here ∙ is in
        let leads : LeadsTo recorder from.kept mid (u ∷ []) one.run = subst (λ (o : Option Turn). LeadsTo recorder from.kept mid (option_to_list o) one.run) same one.ran.state in
        told_one from.kept mid one.run u (ap is_telling (sym is) ∙ tells_claim from.state) leads
        ∙ (ap (λ (s : State). Some (reply_of s u)) here
        ∙ ap (λ (o : Option Reply). Some (unwrap_or o answered.Lapsed)) (sym (claimed_is ∙ ap (λ (o : Option Turn). option_map (reply_of from.state) o) is)))
    by_claim None is none =
        let same : claim_ahead mid.state ≡ None = ap claim_ahead here ∙ is in
        let leads : LeadsTo recorder from.kept mid [] one.run = subst (λ (o : Option Turn). LeadsTo recorder from.kept mid (option_to_list o) one.run) same one.ran.state in
        let stays : at.state ≡ from.state = sym one.state ∙ (ap (λ (r : Recorded). r.state) (told_none from.kept mid one.run leads) ∙ here) in
        absurd (has_turn c from.state is (ap (own_turn c) (sym stays) ∙ none))

    by_own : (u : Option Turn) → own_turn c at.state ≡ u → last_reply two.run.journal ≡ Some reply
    unfolding is_telling
    by_own (Some u) is =
        let same : own_turn c one.run.state ≡ Some u = ap (own_turn c) one.state ∙ is in
        let leads : LeadsTo recorder at.kept one.run (u ∷ []) two.run = subst (λ (o : Option Turn). LeadsTo recorder at.kept one.run (option_to_list o) two.run) same two.ran.state in
        told_one at.kept one.run two.run u (ap is_telling (sym is) ∙ tells_own c at.state) leads
        ∙ (ap (λ (s : State). Some (reply_of s u)) one.state
        ∙ ap (λ (o : Option Reply). Some (unwrap_or (option_or o claimed) answered.Lapsed)) (sym (told_is ∙ ap (λ (o : Option Turn). option_map (reply_of at.state) o) is)))
    by_own None is =
        let same : own_turn c one.run.state ≡ None = ap (own_turn c) one.state ∙ is in
        let leads : LeadsTo recorder at.kept one.run [] two.run = subst (λ (o : Option Turn). LeadsTo recorder at.kept one.run (option_to_list o) two.run) same two.ran.state in
        ap (λ (r : Recorded). last_reply r.journal) (told_none at.kept one.run two.run leads)
        ∙ (by_claim (claim_ahead from.state) refl is
        ∙ ap (λ (o : Option Reply). Some (unwrap_or (option_or o claimed) answered.Lapsed)) (sym (told_is ∙ ap (λ (o : Option Turn). option_map (reply_of at.state) o) is)))

    own_ends : Ends (own_stages c) from.kept mid to reply
    own_ends = record {
      ts = (stage_of claim_ahead mid ++ []) ++ (stage_of (own_turn c) one.run ++ []);
      run = two.run;
      taken =
          all_behind to.kept two.run (stage_of (own_turn c) ∷ []) at.kept one.run (stage_of (own_turn c) one.run ++ []) (stage_of claim_ahead ∷ []) from.kept mid (stage_of claim_ahead mid ++ [])
          (one_taken (stage_of claim_ahead) from.kept at.kept mid one.run one.ran) (one_taken (stage_of (own_turn c)) at.kept to.kept one.run two.run two.ran);
      state = two.state;
      last = by_own (own_turn c at.state) refl;
    }

  pub own_ends_each : EndsEach (own_stages c) from to reply
  own_ends_each mid here = own_ends mid here

-- the claim gave up
pub claim_stops : (c : CommandTurn) (from : Point) (kept : Option (List Row)) (now : State) (why : TurnFault) → WasCutOff engine from.kept from.state (option_to_list (claim_ahead from.state)) kept now why → StopsEach (own_stages c) from kept why
claim_stops c from kept now why cut = λ mid here.
    one_stops (stage_of claim_ahead) (stage_of (own_turn c) ∷ []) from.kept kept mid why (stage_stops claim_ahead from kept now mid why here cut)

-- the command's own turn did
pub own_stops : (c : CommandTurn) (from at : Point) (kept : Option (List Row)) (now : State) (why : TurnFault) → Ran engine from.kept from.state (option_to_list (claim_ahead from.state)) at.kept at.state → WasCutOff engine at.kept at.state (option_to_list (own_turn c at.state)) kept now why
    → StopsEach (own_stages c) from kept why
own_stops c from at kept now why ran cut = λ mid here.
    let one = stage_took claim_ahead from at mid here ran in
    stops_behind (stage_of claim_ahead ∷ []) (stage_of (own_turn c) ∷ []) from.kept at.kept kept mid one.run (stage_of claim_ahead mid ++ []) why (one_taken (stage_of claim_ahead) from.kept at.kept mid one.run one.ran)
    (one_stops (stage_of (own_turn c)) [] at.kept kept one.run why (stage_stops (own_turn c) at kept now one.run why one.state cut))

-- memory ran out between them
pub own_wanting : (c : CommandTurn) (from at : Point) → Ran engine from.kept from.state (option_to_list (claim_ahead from.state)) at.kept at.state → StopsEach (own_stages c) from at.kept fault.Memory
own_wanting c from at ran = λ mid here.
    let one = stage_took claim_ahead from at mid here ran in
    let all = one_taken (stage_of claim_ahead) from.kept at.kept mid one.run one.ran in
    (one.run, stage_of claim_ahead mid ++ [], some_first at.kept one.run (stage_of (own_turn c) ∷ []) (stage_of claim_ahead ∷ []) from.kept mid (stage_of claim_ahead mid ++ []) (all_some at.kept one.run (stage_of claim_ahead ∷ []) from.kept mid (stage_of claim_ahead mid ++ []) all))

-- whatever the turns are called
pub ends_by : (c : CommandTurn) (from at to : Point) (claim own : Option Turn) (claimed told : Option Reply) (r : Reply) → claim ≡ claim_ahead from.state → own ≡ own_turn c at.state → Ran engine from.kept from.state (option_to_list claim) at.kept at.state
    → claimed ≡ option_map (reply_of from.state) claim → Ran engine at.kept at.state (option_to_list own) to.kept to.state → told ≡ option_map (reply_of at.state) own → r ≡ unwrap_or (option_or told claimed) answered.Lapsed → EndsEach (own_stages c) from to r
ends_by c from at to claim own claimed told r claim_is own_is ran claimed_is ran_own told_is is =
    subst (EndsEach (own_stages c) from to) (sym is)
    (own_ends_each c from at to claimed told (subst (λ (o : Option Turn). Ran engine from.kept from.state (option_to_list o) at.kept at.state) claim_is ran)
    (claimed_is ∙ ap (λ (o : Option Turn). option_map (reply_of from.state) o) claim_is) (subst (λ (o : Option Turn). Ran engine at.kept at.state (option_to_list o) to.kept to.state) own_is ran_own)
    (told_is ∙ ap (λ (o : Option Turn). option_map (reply_of at.state) o) own_is))

pub claim_stops_by : (c : CommandTurn) (from : Point) (kept : Option (List Row)) (now : State) (why : TurnFault) (claim : Option Turn) → claim ≡ claim_ahead from.state → WasCutOff engine from.kept from.state (option_to_list claim) kept now why → StopsEach (own_stages c) from kept why
claim_stops_by c from kept now why claim is cut = claim_stops c from kept now why (subst (λ (o : Option Turn). WasCutOff engine from.kept from.state (option_to_list o) kept now why) is cut)

pub own_stops_by : (c : CommandTurn) (from at : Point) (kept : Option (List Row)) (now : State) (why : TurnFault) (claim own : Option Turn) → claim ≡ claim_ahead from.state → own ≡ own_turn c at.state → Ran engine from.kept from.state (option_to_list claim) at.kept at.state
    → WasCutOff engine at.kept at.state (option_to_list own) kept now why → StopsEach (own_stages c) from kept why
own_stops_by c from at kept now why claim own claim_is own_is ran cut =
    own_stops c from at kept now why (subst (λ (o : Option Turn). Ran engine from.kept from.state (option_to_list o) at.kept at.state) claim_is ran)
    (subst (λ (o : Option Turn). WasCutOff engine at.kept at.state (option_to_list o) kept now why) own_is cut)

pub own_wanting_by : (c : CommandTurn) (from at : Point) (claim : Option Turn) → claim ≡ claim_ahead from.state → Ran engine from.kept from.state (option_to_list claim) at.kept at.state → StopsEach (own_stages c) from at.kept fault.Memory
own_wanting_by c from at claim is ran = own_wanting c from at (subst (λ (o : Option Turn). Ran engine from.kept from.state (option_to_list o) at.kept at.state) is ran)

-- ---- the rounds after them

module _ (c : CommandTurn) (from at : Point) (ts : List Turn) (ran : Ran engine from.kept from.state ts at.kept at.state) where
  mid : Recording from.kept (without_turns from.state) ts at.kept at.state
  mid = recorded from.kept at.kept from.state at.state ts ran

  follows : (run : Recorded) (reply : Reply) → last_reply run.journal ≡ Some reply → closing run ≡ closing_by (begun_by reply) run.state
  follows run reply last = ap (λ (o : Option Reply). closing_by (option_and_then begun_by o) run.state) last

  pub rounds_answer : (own to : Point) (reply told : Reply) → EndsEach (own_stages c) at own reply → ClosesEach own reply to told → Answers from ts c to told
  rounds_answer own to reply told ends closes =
      let e = ends mid.run mid.state in
      let d = closes e.run e.state e.last in
      record {
        rows = at.kept;
        mid = mid.run;
        ran = mid.ran;
        ends = record {
          ts = e.ts ++ (closing e.run ++ []);
          run = d.run;
          taken =
              all_behind to.kept d.run (closing ∷ []) own.kept e.run (closing e.run ++ []) (own_stages c) at.kept mid.run e.ts e.taken
              (one_taken closing own.kept to.kept e.run d.run (subst (λ us. Ran recorder own.kept e.run us to.kept d.run) (sym (follows e.run reply e.last)) d.ran));
          state = d.state;
          last = d.last;
        };
      }

  pub own_gave_up : (kept : Option (List Row)) (why : TurnFault) → StopsEach (own_stages c) at kept why → Stops from ts c kept why
  own_gave_up kept why stops = inr (record { rows = at.kept; mid = mid.run; ran = mid.ran; stops = stops_first (own_stages c) (closing ∷ []) at.kept kept mid.run why (stops mid.run mid.state) })

  pub rounds_gave_up : (own : Point) (reply : Reply) (kept : Option (List Row)) (why : TurnFault) → EndsEach (own_stages c) at own reply → GivesUpEach own reply kept why → Stops from ts c kept why
  rounds_gave_up own reply kept why ends gives =
      let e = ends mid.run mid.state in
      inr (record {
        rows = at.kept;
        mid = mid.run;
        ran = mid.ran;
        stops =
            stops_behind (own_stages c) (closing ∷ []) at.kept own.kept kept mid.run e.run e.ts why e.taken
            (one_stops closing [] own.kept kept e.run why (subst (λ us. GivesUpOn own.kept e.run us kept why) (sym (follows e.run reply e.last)) (gives e.run e.state)));
      })
