-- Runs with their journals, turn by turn, and the lines of their replies.
use Rattle.std.proofs.Common.{◌≡◌, ◌∙◌, ℕ, ◌+◌, ◌<◌, ◌≤◌, cond, List, [], ◌∷◌, ◌++◌, length, take, get_or, true, false, refl, sym, ap, subst, arith, append_assoc, Option, Some, None, Bool, ◌||◌, slice_get}
use Rattle.tasks.proofs.Prelude.{Adds, Calls, Carries, Follows, GaveUp, GivesUp, GivesUpOn, Held, HostPort, IsFresh, IsOnTheWay, Leads, Point}
use Rattle.tasks.proofs.Prelude.{Progress, Ran, Ran-more, Ran-nil, Recorded, Reply, Row, State, StepsTo, StepsTo-recorded, StopsBefore, StopsBehind}
use Rattle.tasks.proofs.Prelude.{Taken, TakesFront, Tallies, Tally, Turn, TurnFault, Verdict, WasCutOff, any_refused, append-nil, between}
use Rattle.tasks.proofs.Prelude.{count_by-le-length, engine, get_or-append, get_or_from_slice_get, held_run, held_step, is_failure, is_refusal}
use Rattle.tasks.proofs.Prelude.{is_refused, kept_by, length-append, length-take-le, line_text, lines_text, list_any-append, point, record_turn}
use Rattle.tasks.proofs.Prelude.{recorder, replies_text, reply_of, run_turns, slice_get-get_or, sum_by_push, take-append-le, take_more, tally_of}
use Rattle.tasks.proofs.Prelude.{verdict_of, with_reply, without_turns}
use Rattle.tasks.proofs.Prelude.fault
use Rattle.tasks.proofs.Prelude.verdict
use Rattle.tasks.proofs.Sends.{front_of_longer, front_taken, takes_nothing}

-- ---- the lines of a journal

pub lines-append : (names : List HostPort) (number : ℕ) (xs ys : List (Turn × Reply)) → lines_text names number (xs ++ ys) ≡ lines_text names number xs ++ lines_text names (number + length xs) ys
lines-append names number [] ys =
    let here : number ≡ number + 0 = omega arith in
    ap (λ n. lines_text names n ys) here
lines-append names number (x ∷ xs) ys =
    let first = line_text names number x.0 x.1 in
    let rest : lines_text names (number + 1) (xs ++ ys) ≡ lines_text names (number + 1) xs ++ lines_text names (number + 1 + length xs) ys = lines-append names (number + 1) xs ys in
    let here : number + 1 + length xs ≡ number + length (x ∷ xs) = omega arith in
    ap (λ (bytes : List ℕ). first ++ bytes) (rest ∙ ap (λ n. lines_text names (number + 1) xs ++ lines_text names n ys) here)
    ∙ sym (append_assoc first (lines_text names (number + 1) xs) (lines_text names (number + length (x ∷ xs)) ys))

-- one more line
line_joins : (names : List HostPort) (journal : List (Turn × Reply)) (number : ℕ) (t : Turn) (r : Reply) → number ≡ 1 + length journal → lines_text names 1 (journal ++ (t, r) ∷ []) ≡ lines_text names 1 journal ++ line_text names number t r
line_joins names journal number t r is =
    lines-append names 1 journal ((t, r) ∷ [])
    ∙ ap (λ (bytes : List ℕ). lines_text names 1 journal ++ bytes) (append-nil (line_text names (1 + length journal) t r) ∙ ap (λ (n : ℕ). line_text names n t r) (sym is))

-- whether one more reply is refused
refused_joins : (run : Recorded) (state : State) (t : Turn) (r : Reply) → any_refused (record { state = state; journal = run.journal ++ (t, r) ∷ [] }) ≡ (any_refused run || is_refused r)
unfolding any_refused
refused_joins run state t r = list_any-append (λ e. is_refused e.1) run.journal ((t, r) ∷ []) ∙ ap (λ (b : Bool). any_refused run || b) (last (is_refused r))
  where
    last : (b : Bool) → (b || false) ≡ b
    last true = refl
    last false = refl

-- ---- the same turns with a journal

-- from a run with its journal on, the run with what joins it
pub record Recording (kept : Option (List Row)) (mid : Recorded) (ts : List Turn) (kept' : Option (List Row)) (now : State) : Type 0 where
  pub run : Recorded
  pub ran : Ran recorder kept mid ts kept' run
  pub state : run.state ≡ now

pub run_state : (r : Recorded) (xs : List (List Row × Turn)) → (run_turns recorder r xs).state ≡ run_turns engine r.state xs
run_state r [] = refl
run_state r (x ∷ xs) = run_state (record_turn x.0 r x.1) xs

bare : Held Recorded → Held State
bare h = record { rows = h.rows; state = h.state.state }

held_bare : (h : Held Recorded) (ts : List Turn) → bare (held_run recorder h ts) ≡ held_run engine (bare h) ts
unfolding bare
held_bare h [] = refl
held_bare h (t ∷ ts) = held_bare (held_step recorder h t) ts

recorded_on : (kept kept' : Option (List Row)) (mid : Recorded) (now : State) (ts : List Turn) → Ran engine kept mid.state ts kept' now → Recording kept mid ts kept' now
unfolding bare
recorded_on None kept' mid now ts ran = record {
  run = run_turns recorder mid ran.state.0;
  ran = record { state = (ran.state.0, ran.state.1, refl); rows = ran.rows };
  state = run_state mid ran.state.0 ∙ sym ran.state.2;
}
recorded_on (Some rows) kept' mid now ts ran =
    let h : Held Recorded = record { rows = rows; state = mid } in
    let same : bare (held_run recorder h ts) ≡ held_run engine (bare h) ts = held_bare h ts in
    record {
      run = (held_run recorder h ts).state;
      ran = record { state = refl; rows = ran.rows ∙ sym (ap (λ (x : Held State). Some x.rows) same) };
      state = ap (λ (x : Held State). x.state) same ∙ sym ran.state;
    }

pub recorded_at : (kept kept' : Option (List Row)) (mid : Recorded) (s now : State) (ts : List Turn) → mid.state ≡ s → Ran engine kept s ts kept' now → Recording kept mid ts kept' now
recorded_at kept kept' mid s now ts at ran = recorded_on kept kept' mid now ts (subst (λ (v : State). Ran engine kept v ts kept' now) (sym at) ran)

pub recorded : (kept kept' : Option (List Row)) (s now : State) (ts : List Turn) → Ran engine kept s ts kept' now → Recording kept (without_turns s) ts kept' now
recorded kept kept' s now ts ran = recorded_on kept kept' (without_turns s) now ts ran

-- ---- turn by turn

-- one more turn joins the run with its reply
module _ (from mid to : Point) (ts : List Turn) (run : Recorded) (t : Turn) (r : Reply) (leads : Leads from mid.kept ts run) (at : run.state ≡ mid.state) (steps : StepsTo engine mid.kept mid.state t to.state) (keeps : to.kept ≡ kept_by engine true mid.kept mid.state t) (replied : r ≡ reply_of mid.state t) where
  abbrev pub next : Recorded
  next = record { state = to.state; journal = run.journal ++ (t, r) ∷ [] }

  pub next_leads : Leads from to.kept (ts ++ t ∷ []) next
  next_leads =
      let here : StepsTo engine mid.kept run.state t to.state = subst (λ (v : State). StepsTo engine mid.kept v t to.state) (sym at) steps in
      let joins : run.journal ++ (t, r) ∷ [] ≡ run.journal ++ (t, reply_of run.state t) ∷ [] = ap (λ (x : Reply). run.journal ++ (t, x) ∷ []) (replied ∙ ap (λ (v : State). reply_of v t) (sym at)) in
      Ran-more recorder from.kept mid.kept to.kept (without_turns from.state) run next ts t leads (StepsTo-recorded mid.kept run.state to.state run.journal (run.journal ++ (t, r) ∷ []) t here joins)
      (keeps ∙ ap (λ (v : State). kept_by engine true mid.kept v t) (sym at))

-- nothing was taken yet
pub Follows-nil : (names : List HostPort) (at : Point) (ts : List Turn) (o : Taken) (p : Progress) → IsFresh p → Follows names at (take 0 ts) at (between o o) p
unfolding any_refused
Follows-nil names at ts o p fresh = record {
  run = without_turns at.state;
  ran = Ran-nil recorder at.kept (without_turns at.state);
  state = refl;
  text = carries p.pieces.failed fresh.unfailed;
  refused = fresh.unrefused;
  count = refl;
}
  where
    carries : (failed : Bool) → failed ≡ false → IsOnTheWay (between o o) p.pieces.held.items [] failed
    carries true is = absurd cc
    carries false is = record { front = []; took = takes_nothing o.bytes; is = sym fresh.held; later = omega arith }

module _ (names : List HostPort) (from mid to : Point) (ts : List Turn) (i : ℕ) (d : Turn) (start old new : Taken) (p p' : Progress) (r : Reply) (number : ℕ) (within : i < length ts) (numbered : number ≡ i + 1) (follows : Follows names from (take i ts) mid (between start old) p)
    (steps : StepsTo engine mid.kept mid.state (get_or ts i d) to.state) (keeps : to.kept ≡ kept_by engine true mid.kept mid.state (get_or ts i d)) (replied : r ≡ reply_of mid.state (get_or ts i d)) where
  abbrev t : Turn
  t = get_or ts i d

  counted : number ≡ 1 + length follows.run.journal
  counted = let few : length (take i ts) ≡ i = length-take-le i ts (omega (arith, within)) in omega (arith, numbered, few, follows.count)

  abbrev after : Recorded
  after = record { state = to.state; journal = follows.run.journal ++ (t, r) ∷ [] }

  leads : Leads from to.kept (take (i + 1) ts) after
  leads = subst (λ us. Leads from to.kept us after) (sym (take_more ts i d within)) (next_leads from mid to (take i ts) follows.run t r follows.ran follows.state steps keeps replied)

  text_is : replies_text names after ≡ replies_text names follows.run ++ line_text names number t r
  text_is = line_joins names follows.run.journal number t r counted

  -- the line of one more turn joins the report
  pub Follows-next : Adds names number t r p p' old new → Follows names from (take (i + 1) ts) to (between start new) p'
  Follows-next adds = record {
    run = after;
    ran = leads;
    state = refl;
    text = subst (Carries (between start new) p'.pieces) (sym text_is) (adds.text start (replies_text names follows.run) follows.text);
    refused = adds.is_refused ∙ (ap (λ (b : Bool). b || is_refused r) follows.refused ∙ sym (refused_joins follows.run to.state t r));
    count =
        let few : length (take (i + 1) ts) ≡ i + 1 = length-take-le (i + 1) ts (omega (arith, within)) in
        omega (arith, few, counted, numbered, length-append follows.run.journal ((t, r) ∷ []));
  }

  -- memory ran out after the turn, for its line
  pub line_wanting : Carries (between start new) p'.pieces (replies_text names follows.run) → StopsBehind names from ts to (between start new)
  line_wanting carries = record {
    k = i + 1;
    within = omega (arith, within);
    run = after;
    ran = leads;
    front = subst (λ (v : List ℕ). TakesFront (between start new) v) (sym text_is)
        (front_of_longer start.bytes new.bytes (replies_text names follows.run) (line_text names number t r) (front_taken (between start new) p'.pieces.held.items (replies_text names follows.run) p'.pieces.failed carries));
  }

-- a turn gave up, and nothing of it was done
pub gave_up : (names : List HostPort) (from mid to : Point) (ts : List Turn) (i : ℕ) (d : Turn) (start old : Taken) (p : Progress) (why : TurnFault) → i < length ts → Follows names from (take i ts) mid (between start old) p → to ≡ mid
    → (why ≡ fault.Keeper → Calls engine mid.state (get_or ts i d)) → GaveUp names from ts to (between start old) p why
gave_up names from mid to ts i d start old p fault.Keeper within follows same calls = subst (λ (at : Point). StopsBefore names from ts at (between start old) p) (sym same) (record {
  k = i;
  within = within;
  follows = follows;
  calls = λ t at.
      subst (λ (v : State). Calls engine v t) (sym follows.state) (subst (Calls engine mid.state) (get_or_from_slice_get ts i t d at) (calls refl));
})
gave_up names from mid to ts i d start old p fault.Memory within follows same calls = subst (λ (at : Point). StopsBehind names from ts at (between start old)) (sym same) (record {
  k = i;
  within = omega (arith, within);
  run = follows.run;
  ran = follows.ran;
  front = front_taken (between start old) p.pieces.held.items (replies_text names follows.run) p.pieces.failed follows.text;
})

-- ---- a run's summary

abbrev tally : ℕ → ℕ → ℕ → Tally
tally turns refused failed = record { turns = turns; refused = refused; failed = failed }

same_tally : (a a' b b' c c' : ℕ) → a ≡ a' → b ≡ b' → c ≡ c' → tally a b c ≡ tally a' b' c'
same_tally a a' b b' c c' ha hb hc = cc

by_verdict : (turns refused failed : ℕ) (v : Verdict) → tally (turns + 1) (refused + cond (is_refusal v) 1 0) (failed + cond (is_failure v) 1 0) ≡ with_reply (tally turns refused failed) v
by_verdict turns refused failed verdict.Neither = same_tally (turns + 1) (turns + 1) (refused + 0) refused (failed + 0) failed refl (omega arith) (omega arith)
by_verdict turns refused failed verdict.Refused = same_tally (turns + 1) (turns + 1) (refused + 1) (refused + 1) (failed + 0) failed refl refl (omega arith)
by_verdict turns refused failed verdict.Failed = same_tally (turns + 1) (turns + 1) (refused + 0) refused (failed + 1) (failed + 1) refl (omega arith) refl
by_verdict turns refused failed verdict.Taken = same_tally (turns + 1) (turns + 1) (refused + 0) refused (failed + 0) failed refl (omega arith) (omega arith)

-- one more reply is counted
tally_joins : (journal : List (Turn × Reply)) (t : Turn) (r : Reply) → tally_of (journal ++ (t, r) ∷ []) ≡ with_reply (tally_of journal) (verdict_of r)
tally_joins journal t r =
    let old = tally_of journal in
    let one : length (journal ++ (t, r) ∷ []) ≡ length journal + 1 = omega (arith, length-append journal ((t, r) ∷ [])) in
    same_tally _ (old.turns + 1) _ (old.refused + cond (is_refusal (verdict_of r)) 1 0) _ (old.failed + cond (is_failure (verdict_of r)) 1 0) one
    (sum_by_push (λ (e : Turn × Reply). cond (is_refusal (verdict_of e.1)) 1 0) journal (t, r)) (sum_by_push (λ (e : Turn × Reply). cond (is_failure (verdict_of e.1)) 1 0) journal (t, r))
    ∙ by_verdict old.turns old.refused old.failed (verdict_of r)

-- no turn was taken yet
pub Tallies-nil : (at : Point) (ts : List Turn) → Tallies at (take 0 ts) at (tally 0 0 0)
Tallies-nil at ts = record { run = without_turns at.state; ran = Ran-nil recorder at.kept (without_turns at.state); state = refl; is = refl; count = refl }

-- as many as turns, and no more refusals or failures
pub record IsCounted (n : ℕ) (t : Tally) : Type 0 where
  pub turns : t.turns ≡ n
  pub refused : t.refused ≤ t.turns
  pub failed : t.failed ≤ t.turns

pub Tallies-counted : (from to : Point) (ts : List Turn) (t : Tally) → Tallies from ts to t → IsCounted (length ts) t
Tallies-counted from to ts t tallies = subst (IsCounted (length ts)) (sym tallies.is) (record {
  turns = tallies.count;
  refused = count_by-le-length (λ (e : Turn × Reply). is_refusal (verdict_of e.1)) tallies.run.journal;
  failed = count_by-le-length (λ (e : Turn × Reply). is_failure (verdict_of e.1)) tallies.run.journal;
})

module _ (from mid to : Point) (ts : List Turn) (i : ℕ) (d : Turn) (old new : Tally) (r : Reply) (within : i < length ts) (tallies : Tallies from (take i ts) mid old) (steps : StepsTo engine mid.kept mid.state (get_or ts i d) to.state) (keeps : to.kept ≡ kept_by engine true mid.kept mid.state (get_or ts i d))
    (replied : r ≡ reply_of mid.state (get_or ts i d)) where
  abbrev now : Turn
  now = get_or ts i d

  -- one more turn is taken
  pub Tallies-next : new ≡ with_reply old (verdict_of r) → Tallies from (take (i + 1) ts) to new
  Tallies-next is =
      let joined : Recorded = record { state = to.state; journal = tallies.run.journal ++ (now, r) ∷ [] } in
      record {
        run = joined;
        ran = subst (λ us. Leads from to.kept us joined) (sym (take_more ts i d within)) (next_leads from mid to (take i ts) tallies.run now r tallies.ran tallies.state steps keeps replied);
        state = refl;
        is = is ∙ (ap (λ (x : Tally). with_reply x (verdict_of r)) tallies.is ∙ sym (tally_joins tallies.run.journal now r));
        count =
            let few : length (take i ts) ≡ i = length-take-le i ts (omega (arith, within)) in
            let more : length (take (i + 1) ts) ≡ i + 1 = length-take-le (i + 1) ts (omega (arith, within)) in
            omega (arith, few, more, tallies.count, length-append tallies.run.journal ((now, r) ∷ []));
      }

-- a turn gave up, and nothing of it was done
pub tally_gave_up : (from mid to : Point) (ts : List Turn) (i : ℕ) (d : Turn) (t : Tally) (why : TurnFault) → i < length ts → Tallies from (take i ts) mid t → to ≡ mid → (why ≡ fault.Keeper → Calls engine mid.state (get_or ts i d)) → GivesUp from ts to.kept why
tally_gave_up from mid to ts i d t fault.Keeper within tallies same calls = subst (λ (at : Point). GivesUp from ts at.kept fault.Keeper) (sym same) (
  tallies.run,
  record {
    k = i;
    within = within;
    comes = tallies.ran;
    calls = λ u at.
        subst (λ (v : State). Calls engine v u) (sym tallies.state) (subst (Calls engine mid.state) (get_or_from_slice_get ts i u d at) (calls refl));
  },
)
tally_gave_up from mid to ts i d t fault.Memory within tallies same calls = subst (λ (at : Point). GivesUp from ts at.kept fault.Memory) (sym same) (record { k = i; within = omega (arith, within); run = tallies.run; ran = tallies.ran })

-- ---- a single command's turns

-- from a run on, the first of these turns gave up
pub gave_up_on : (rows kept : Option (List Row)) (mid : Recorded) (s now : State) (ts us : List Turn) (why : TurnFault) → mid.state ≡ s → WasCutOff engine rows s ts kept now why → GivesUpOn rows mid (ts ++ us) kept why
gave_up_on rows kept mid s now ts us why same cut = at why cut.calls
  where
    run : Recording rows mid (take cut.k ts) kept now
    run = recorded_at rows kept mid s now (take cut.k ts) same cut.ran

    front : take cut.k (ts ++ us) ≡ take cut.k ts
    front = take-append-le cut.k ts us (omega (arith, cut.within))

    leads : Ran recorder rows mid (take cut.k (ts ++ us)) kept run.run
    leads = subst (λ vs. Ran recorder rows mid vs kept run.run) (sym front) run.ran

    within : cut.k < length (ts ++ us)
    within = omega (arith, cut.within, length-append ts us)

    here : (t : Turn) → slice_get (ts ++ us) cut.k ≡ Some t → slice_get ts cut.k ≡ Some t
    here t at = slice_get-get_or ts cut.k t cut.within ∙ ap Some (sym (get_or-append ts us t cut.k cut.within) ∙ get_or_from_slice_get (ts ++ us) cut.k t t at)

    at : (e : TurnFault) → (e ≡ fault.Keeper → (t : Turn) → slice_get ts cut.k ≡ Some t → Calls engine now t) → GivesUpOn rows mid (ts ++ us) kept e
    at fault.Keeper calls = (run.run, record { k = cut.k; within = within; comes = leads; calls = λ t is. subst (λ (v : State). Calls engine v t) (sym run.state) (calls refl t (here t is)) })
    at fault.Memory calls = record { k = cut.k; within = omega (arith, within); run = run.run; ran = leads }

-- the scenario's turns gave up
pub first_gave_up : (from : Point) (kept : Option (List Row)) (now : State) (ts us : List Turn) (why : TurnFault) → WasCutOff engine from.kept from.state ts kept now why → GivesUp from (ts ++ us) kept why
first_gave_up from kept now ts us why cut = gave_up_on from.kept kept (without_turns from.state) from.state now ts us why refl cut

pub same_point : (k k' : Option (List Row)) (s s' : State) → k ≡ k' → s ≡ s' → point k s ≡ point k' s'
same_point k k' s s' kept state = cc
