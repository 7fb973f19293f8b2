-- The rounds after a single command's own turn, with their journal.
use Rattle.std.proofs.Common.{◌≡◌, ◌∙◌, ℕ, zero, suc, ◌<◌, ◌≤◌, Bool, true, false, cond, List, [], ◌∷◌, ◌++◌, refl, sym, ap, subst, arith, append_assoc, Option, Some, None, All}
use Rattle.tasks.proofs.Prelude.{All-append, All-cons, All-head, All-nil, All-tail, AsksNever, AsksNothing, ClosesEach, FinishedBy, GivesUpEach}
use Rattle.tasks.proofs.Prelude.{GivesUpOn, Held, IsFinish, LeadsTo, Point, Ran, Recorded, Reply, Row, ServerNo, State, Turn, TurnFault, WasCutShort}
use Rattle.tasks.proofs.Prelude.{after_rounds, after_turns, append-nil, asks-round, begun_by, by_name, closing_by, engine, false≢true, flat_map}
use Rattle.tasks.proofs.Prelude.{fold-append, held_run, held_step, is_commands, is_open, last_reply, most_turns, or_reply, polls, record_turn}
use Rattle.tasks.proofs.Prelude.{recorder, replicates, reply_of, round_of, round_over, rounds_of, rounds_while, run_turns, step as turn_step}
use Rattle.tasks.proofs.Prelude.{step-any, times, turns_of, unwrap_or}
use Rattle.tasks.proofs.Prelude.Rounds.{told_in}
use Rattle.tasks.proofs.Prelude.act
use Rattle.tasks.proofs.Prelude.turn
use Rattle.tasks.proofs.Prelude.turns_step as step
use Rattle.tasks.proofs.Courses.{gave_up_on, recorded_at}

-- ---- so many rounds

module _ (round : List Turn) (job : ℕ) where
  -- after so many rounds the job is open
  abbrev Open : State → ℕ → Type 0
  Open s i = is_open (after_turns s (times i round)).jobs job ≡ true

  next : (s : State) (i : ℕ) → Open s (suc i) → Open (after_turns s round) i
  next s i h = ap (λ (u : State). is_open u.jobs job) (sym (fold-append (turn_step []) s round (times i round))) ∙ h

  -- so many rounds come first
  pub while_begins : (s : State) (n k : ℕ) → ((i : ℕ) → i < k → Open s i) → k ≤ n → (rest : List Turn) × (rounds_while round n s job ≡ times k round ++ rest)
  while_begins s n zero goes_on within = (rounds_while round n s job, refl)
  while_begins s zero (suc k) goes_on within = absurd (omega (arith, within))
  while_begins s (suc n) (suc k) goes_on within =
      let rest = while_begins (after_turns s round) n k (λ i less. next s i (goes_on (suc i) (omega (arith, less)))) (omega (arith, within)) in
      (rest.0, opened (is_open s.jobs job) (goes_on 0 (omega arith)) (rounds_while round n (after_turns s round) job) rest.0 rest.1)
    where
      opened : (b : Bool) → b ≡ true → (us rest : List Turn) → us ≡ times k round ++ rest → cond b (round ++ us) [] ≡ times (suc k) round ++ rest
      opened true h us rest is = ap (λ (x : List Turn). round ++ x) is ∙ sym (append_assoc round (times k round) rest)
      opened false h us rest is = absurd (false≢true h)

  -- and no more, if the job isn't open then
  pub while_is : (s : State) (n k : ℕ) → ((i : ℕ) → i < k → Open s i) → is_open (after_turns s (times k round)).jobs job ≡ false → k ≤ n → rounds_while round n s job ≡ times k round
  while_is s zero zero goes_on ended within = refl
  while_is s (suc n) zero goes_on ended within = ap (λ b. cond b (round ++ rounds_while round n (after_turns s round) job) []) ended
  while_is s zero (suc k) goes_on ended within = absurd (omega (arith, within))
  while_is s (suc n) (suc k) goes_on ended within =
      let rest = while_is (after_turns s round) n k (λ i less. next s i (goes_on (suc i) (omega (arith, less)))) (ap (λ (u : State). is_open u.jobs job) (sym (fold-append (turn_step []) s round (times k round))) ∙ ended) (omega (arith, within)) in
      ap (λ b. cond b (round ++ rounds_while round n (after_turns s round) job) []) (goes_on 0 (omega arith)) ∙ ap (λ (x : List Turn). round ++ x) rest

pub rounds_are : (s : State) (job k : ℕ) → IsFinish s job k → rounds_of s job ≡ times k (round_of s job)
unfolding rounds_of
rounds_are s job k finish = while_is (round_of s job) job s (most_turns s.jobs job) k finish.goes_on finish.ended finish.within

pub rounds_begin : (s : State) (job k : ℕ) → ((i : ℕ) → i < k → is_open (after_rounds s job i).jobs job ≡ true) → k ≤ most_turns s.jobs job → (rest : List Turn) × (rounds_of s job ≡ times k (round_of s job) ++ rest)
unfolding rounds_of
rounds_begin s job k goes_on within = while_begins (round_of s job) job s (most_turns s.jobs job) k goes_on within

-- ---- the last reply of a journal

pub last-told : (xs ys : List (Turn × Reply)) (r : Reply) → last_reply ys ≡ Some r → last_reply (xs ++ ys) ≡ Some r
last-told [] ys r h = h
last-told (x ∷ xs) ys r h = ap (λ (o : Option Reply). or_reply o x) (last-told xs ys r h)

-- ---- the journal of turns that ask for no rows

abbrev replies_along : State → List Turn → List (Turn × Reply)
replies_along s [] = []
replies_along s (t ∷ ts) = (t, reply_of s t) ∷ replies_along (turn_step [] s t) ts

along-append : (s : State) (ts us : List Turn) → replies_along s (ts ++ us) ≡ replies_along s ts ++ replies_along (after_turns s ts) us
along-append s [] us = refl
along-append s (t ∷ ts) us = ap (λ (js : List (Turn × Reply)). (t, reply_of s t) ∷ js) (along-append (turn_step [] s t) ts us)

run_along : (r : Recorded) (xs : List (List Row × Turn)) → AsksNothing (turns_of xs) → (run_turns recorder r xs).journal ≡ r.journal ++ replies_along r.state (turns_of xs)
run_along r [] none = sym (append-nil r.journal)
run_along r (x ∷ xs) none =
    let entry : Turn × Reply = (x.1, reply_of r.state x.1) in
    run_along (record_turn x.0 r x.1) xs (All-tail AsksNever x.1 (turns_of xs) none)
    ∙ ap (λ (s : State). (r.journal ++ entry ∷ []) ++ replies_along s (turns_of xs)) (step-any x.0 r.state x.1 (All-head AsksNever x.1 (turns_of xs) none r.state))
    ∙ append_assoc r.journal (entry ∷ []) (replies_along (turn_step [] r.state x.1) (turns_of xs))

held_along : (h : Held Recorded) (ts : List Turn) → AsksNothing ts → (held_run recorder h ts).state.journal ≡ h.state.journal ++ replies_along h.state.state ts
held_along h [] none = sym (append-nil h.state.journal)
held_along h (t ∷ ts) none =
    let entry : Turn × Reply = (t, reply_of h.state.state t) in
    held_along (held_step recorder h t) ts (All-tail AsksNever t ts none)
    ∙ ap (λ (s : State). (h.state.journal ++ entry ∷ []) ++ replies_along s ts) (step-any h.rows h.state.state t (All-head AsksNever t ts none h.state.state))
    ∙ append_assoc h.state.journal (entry ∷ []) (replies_along (turn_step [] h.state.state t) ts)

journal_along : (kept : Option (List Row)) (mid run : Recorded) (ts : List Turn) → AsksNothing ts → LeadsTo recorder kept mid ts run → run.journal ≡ mid.journal ++ replies_along mid.state ts
journal_along None mid run ts none leads =
    ap (λ (r : Recorded). r.journal) leads.2 ∙ run_along mid leads.0 (subst AsksNothing (sym leads.1) none) ∙ ap (λ us. mid.journal ++ replies_along mid.state us) leads.1
journal_along (Some rows) mid run ts none leads = ap (λ (r : Recorded). r.journal) leads ∙ held_along (record { rows = rows; state = mid }) ts none

-- ---- the last reply of a job's rounds

quiet : (s : State) (ts : List Turn) → All (λ t. is_commands t ≡ false) ts → last_reply (replies_along s ts) ≡ None
quiet s [] all = refl
quiet s (t ∷ ts) all =
    ap (λ (o : Option Reply). or_reply o (t, reply_of s t)) (quiet (turn_step [] s t) ts (All-tail (λ u. is_commands u ≡ false) t ts all))
    ∙ ap (λ b. cond b (Some (reply_of s t)) None) (All-head (λ t. is_commands t ≡ false) t ts all)

quiet-replicates : (servers : List ServerNo) → All (λ t. is_commands t ≡ false) (flat_map replicates servers)
quiet-replicates [] = All-nil (λ t. is_commands t ≡ false)
quiet-replicates (n ∷ ns) = All-cons (λ t. is_commands t ≡ false) (turn.Step (step.Fetch n)) (turn.Step (step.Apply n) ∷ flat_map replicates ns) refl (All-cons (λ t. is_commands t ≡ false) (turn.Step (step.Apply n)) (flat_map replicates ns) refl (quiet-replicates ns))

quiet-polls : (servers : List ServerNo) → All (λ t. is_commands t ≡ false) (flat_map polls servers)
quiet-polls [] = All-nil (λ t. is_commands t ≡ false)
quiet-polls (n ∷ ns) = All-cons (λ t. is_commands t ≡ false) (turn.Act (act.PollRead 0 n)) (turn.Act (act.PollStore 0) ∷ flat_map polls ns) refl (All-cons (λ t. is_commands t ≡ false) (turn.Act (act.PollStore 0)) (flat_map polls ns) refl (quiet-polls ns))

module _ (servers : List ServerNo) (job : ℕ) where
  abbrev round : List Turn
  round = round_over servers job

  abbrev others : List Turn
  others = flat_map replicates servers ++ flat_map polls servers

  round-told : (s : State) → last_reply (replies_along s round) ≡ Some (reply_of s (turn.Act (act.Job job)))
  round-told s =
      ap (λ (o : Option Reply). or_reply o (turn.Act (act.Job job), reply_of s (turn.Act (act.Job job))))
      (quiet (turn_step [] s (turn.Act (act.Job job))) others (All-append (λ t. is_commands t ≡ false) (flat_map replicates servers) (flat_map polls servers) (quiet-replicates servers) (quiet-polls servers)))

  -- what the job answers in the last of some rounds
  rounds-told : (k : ℕ) (s : State) → last_reply (replies_along s (times (suc k) round)) ≡ Some (reply_of (after_turns s (times k round)) (turn.Act (act.Job job)))
  rounds-told zero s = ap (λ us. last_reply (replies_along s us)) (append-nil round) ∙ round-told s
  rounds-told (suc k) s =
      ap last_reply (along-append s round (times (suc k) round))
      ∙ last-told (replies_along s round) (replies_along (after_turns s round) (times (suc k) round)) _ (rounds-told k (after_turns s round))
      ∙ ap (λ (u : State). Some (reply_of u (turn.Act (act.Job job)))) (sym (fold-append (turn_step []) s round (times k round)))

asks-times : (k : ℕ) (ts : List Turn) → AsksNothing ts → AsksNothing (times k ts)
asks-times zero ts none = All-nil AsksNever
asks-times (suc k) ts none = All-append AsksNever ts (times k ts) none (asks-times k ts none)

-- ---- what is left of a single command

module _ (from : Point) (reply : Reply) (job : ℕ) (begun : begun_by reply ≡ Some job) where
  rounds_behind : (mid : Recorded) → mid.state ≡ from.state → closing_by (begun_by reply) mid.state ≡ rounds_of from.state job
  rounds_behind mid at = ap (λ (o : Option ℕ). closing_by o mid.state) begun ∙ ap (λ (s : State). rounds_of s job) at

  last_of : (mid run : Recorded) (kept : Option (List Row)) (k : ℕ) → mid.state ≡ from.state → last_reply mid.journal ≡ Some reply → LeadsTo recorder kept mid (times k (round_of from.state job)) run
      → last_reply run.journal ≡ Some (unwrap_or (told_in from.state job k) reply)
  last_of mid run kept k at last leads =
      let servers = by_name from.state.book.names in
      let joined = journal_along kept mid run (times k (round_over servers job)) (asks-times k (round_over servers job) (asks-round servers job)) leads in
      ap last_reply joined ∙ at_end k
    where
      at_end : (k : ℕ) → last_reply (mid.journal ++ replies_along mid.state (times k (round_of from.state job))) ≡ Some (unwrap_or (told_in from.state job k) reply)
      at_end zero = ap last_reply (append-nil mid.journal) ∙ last
      at_end (suc j) =
          last-told mid.journal (replies_along mid.state (times (suc j) (round_of from.state job))) _ (rounds-told (by_name from.state.book.names) job j mid.state)
          ∙ ap (λ (s : State). Some (reply_of (after_turns s (times j (round_of from.state job))) (turn.Act (act.Job job)))) at

  -- the rounds of the job led to its end
  pub rounds_left : (to : Point) (told : Option Reply) → FinishedBy from.kept from.state job to.kept to.state told → ClosesEach from reply to (unwrap_or told reply)
  rounds_left to told by = λ mid at last.
      let fin = by.finished in
      let rec = recorded_at from.kept to.kept mid from.state to.state (times fin.k (round_of from.state job)) at fin.ran in
      record {
        run = rec.run;
        ran = subst (λ us. Ran recorder from.kept mid us to.kept rec.run) (sym (rounds_behind mid at ∙ rounds_are from.state job fin.k fin.rounds)) rec.ran;
        state = rec.state;
        last = last_of mid rec.run from.kept fin.k at last rec.ran.state ∙ ap (λ (o : Option Reply). Some (unwrap_or o reply)) (sym by.answer);
      }

  -- or were cut short
  pub rounds_cut : (kept : Option (List Row)) (now : State) (why : TurnFault) → WasCutShort engine (λ s. s) from.kept from.state job kept now why → GivesUpEach from reply kept why
  rounds_cut kept now why short = λ mid at.
      let rest = rounds_begin from.state job short.k short.goes_on short.within in
      subst (λ us. GivesUpOn from.kept mid us kept why) (sym (rounds_behind mid at ∙ rest.1))
      (gave_up_on from.kept kept mid from.state now (times short.k (round_of from.state job)) rest.0 why at short.cut)
