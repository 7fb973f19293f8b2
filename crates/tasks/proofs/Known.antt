-- Tasks whose row store has known rows.
use Rattle.std.proofs.Common.{◌≡◌, ◌∙◌, ℕ, ◌+◌, ◌≤◌, true, List, [], ◌∷◌, ◌++◌, length, map, None, take, drop, refl, sym, ap, subst, append_assoc, arith, Option, Some, inl, inr}
use Rattle.tasks.proofs.Prelude.{AllTaken, Asked, Begins, Comes, Held, HostPort, IsFixed, IsOn, IsWhole, LeadsTo, Ran, Recorded, Reply, Row, Scenario}
use Rattle.tasks.proofs.Prelude.{SomeTaken, Stage, StartsBy, State, Task, Turn, WasCut, Work, all_turns, append-nil, asked_answer, changed, course_of}
use Rattle.tasks.proofs.Prelude.{cut_answer, cut_text, fold-append, held_from, held_run, held_step, kept_at_start, length-map, lines_text, map-append}
use Rattle.tasks.proofs.Prelude.{names_of, opened, record_turn, recorder, replies_text, reply_of, run_turns, stages, start, start_changes, tables_of}
use Rattle.tasks.proofs.Prelude.{take-append-add, take-append-drop, take-append-le, tally_of, task_answer, turns_from, turns_of, without_turns}
use Rattle.tasks.proofs.Prelude.asked
use Rattle.tasks.proofs.Courses.{lines-append}
use Rattle.tasks.proofs.Stages.{all_some, cut_some, some_ran}

-- ---- known rows fix the run

abbrev from_start : Work → List Row → State → List Turn → Held Recorded
from_start w rows begun ts = held_run recorder (record { rows = changed rows (start_changes w.scenario rows); state = without_turns begun }) ts

pub known_rows_fix : (w : Work) (rows : List Row) (ts : List Turn) (kept : Option (List Row)) (run : Recorded) → w.old ≡ Some rows → Comes w ts kept run → IsFixed w rows ts kept run
known_rows_fix w rows ts kept run known comes =
    let begun : comes.begun ≡ start w.scenario w.task.waits rows = subst (λ (o : Option (List Row)). StartsBy o w.scenario w.task.waits comes.begun) known comes.opens in
    let ran : Ran recorder (Some (changed rows (start_changes w.scenario rows))) (without_turns comes.begun) ts kept run =
    subst (λ (o : Option (List Row)). Ran recorder (kept_at_start true o w.scenario) (without_turns comes.begun) ts kept run) known comes.ran in
    record {
      run_is = ran.state ∙ ap (λ (b : State). (from_start w rows b ts).state) begun;
      rows_are = ran.rows ∙ ap (λ (b : State). Some (from_start w rows b ts).rows) begun;
    }

-- ---- the replies before a turn begin the report

record Grows (before now : Recorded) : Type 0 where
  more : List (Turn × Reply)
  is : now.journal ≡ before.journal ++ more

grows : (h : Held Recorded) (ts : List Turn) → Grows h.state (held_run recorder h ts).state
grows h [] = record { more = []; is = sym (append-nil h.state.journal) }
grows h (t ∷ ts) =
    let rest = grows (held_step recorder h t) ts in
    record {
      more = (t, reply_of h.state.state t) ∷ rest.more;
      is = rest.is ∙ append_assoc h.state.journal ((t, reply_of h.state.state t) ∷ []) rest.more;
    }

-- a run after its first k turns
taken_on : (h : Held Recorded) (ts : List Turn) (k : ℕ) → held_run recorder h ts ≡ held_run recorder (held_run recorder h (take k ts)) (drop k ts)
taken_on h ts k = ap (λ us. held_run recorder h us) (sym (take-append-drop k ts)) ∙ fold-append (held_step recorder) h (take k ts) (drop k ts)

replies_begin : (names : List HostPort) (h : Held Recorded) (ts : List Turn) (k : ℕ) → Begins (replies_text names (held_run recorder h (take k ts)).state) (replies_text names (held_run recorder h ts).state)
replies_begin names h ts k =
    let mid = held_run recorder h (take k ts) in
    let on = grows mid (drop k ts) in
    record {
      rest = lines_text names (1 + length mid.state.journal) on.more;
      is = ap (λ (x : Held Recorded). replies_text names x.state) (taken_on h ts k) ∙ (ap (λ es. lines_text names 1 es) on.is ∙ lines-append names 1 mid.state.journal on.more);
    }

-- and so does what is left of any task
pub cut_begins : (c : Task) (s : Scenario) (rows : List Row) (k : ℕ) → Begins (cut_answer c s rows k) (task_answer c s rows).out
cut_begins c s rows k = at c.asked (all_turns c s rows)
  where
    at : (a : Asked) (ts : List Turn) → Begins (cut_text a (names_of s) (held_from c s rows (take k ts)).state) (asked_answer a c.extra (names_of s) s (held_from c s rows ts).state).out
    at asked.Run ts =
        let first = replies_begin (names_of s) (opened c s rows) ts k in
        let tables = tables_of (held_from c s rows ts).state.state in
        record { rest = first.rest ++ tables; is = ap (λ (v : List ℕ). v ++ tables) first.is ∙ append_assoc (cut_text asked.Run (names_of s) (held_from c s rows (take k ts)).state) first.rest tables }
    at asked.Nothing ts = record { rest = []; is = refl }
    at x ts = record { rest = (asked_answer x c.extra (names_of s) s (held_from c s rows ts).state).out; is = refl }

-- ---- the replies are those of the turns

along_turns : (r : Recorded) (xs : List (List Row × Turn)) → map (λ e. e.0) (run_turns recorder r xs).journal ≡ map (λ e. e.0) r.journal ++ turns_of xs
along_turns r [] = sym (append-nil (map (λ e. e.0) r.journal))
along_turns r (x ∷ xs) =
    along_turns (record_turn x.0 r x.1) xs
    ∙ (ap (λ (us : List Turn). us ++ turns_of xs) (map-append (λ e. e.0) r.journal ((x.1, reply_of r.state x.1) ∷ [])) ∙ append_assoc (map (λ e. e.0) r.journal) (x.1 ∷ []) (turns_of xs))

held_along_turns : (h : Held Recorded) (ts : List Turn) → map (λ e. e.0) (held_run recorder h ts).state.journal ≡ map (λ e. e.0) h.state.journal ++ ts
held_along_turns h [] = sym (append-nil (map (λ e. e.0) h.state.journal))
held_along_turns h (t ∷ ts) =
    held_along_turns (held_step recorder h t) ts
    ∙ (ap (λ (us : List Turn). us ++ ts) (map-append (λ e. e.0) h.state.journal ((t, reply_of h.state.state t) ∷ [])) ∙ append_assoc (map (λ e. e.0) h.state.journal) (t ∷ []) ts)

turns_along : (kept : Option (List Row)) (begun : State) (ts : List Turn) (run : Recorded) → LeadsTo recorder kept (without_turns begun) ts run → map (λ e. e.0) run.journal ≡ ts
turns_along None begun ts run leads = ap (λ (r : Recorded). map (λ e. e.0) r.journal) leads.2 ∙ (along_turns (without_turns begun) leads.0 ∙ leads.1)
turns_along (Some rows) begun ts run leads = ap (λ (r : Recorded). map (λ e. e.0) r.journal) leads ∙ held_along_turns (record { rows = rows; state = without_turns begun }) ts

pub replies_are_of_turns : (w : Work) (ts : List Turn) (kept : Option (List Row)) (run : Recorded) → Comes w ts kept run → map (λ e. e.0) run.journal ≡ ts
replies_are_of_turns w ts kept run comes = turns_along (kept_at_start true w.old w.scenario) comes.begun ts run comes.ran.state

pub summaries_count : (w : Work) (ts : List Turn) (kept : Option (List Row)) (run : Recorded) → Comes w ts kept run → (tally_of run.journal).turns ≡ length ts
summaries_count w ts kept run comes = sym (length-map run.journal (λ e. e.0)) ∙ ap length (replies_are_of_turns w ts kept run comes)

-- ---- all turns

-- a run on from a state that is known, by rows that are known
ran_on : (h : Held Recorded) (ts : List Turn) (rows kept : Option (List Row)) (mid run : Recorded) → mid ≡ h.state → rows ≡ Some h.rows → Ran recorder rows mid ts kept run
    → (run ≡ (held_run recorder h ts).state) × (kept ≡ Some (held_run recorder h ts).rows)
ran_on h ts rows kept mid run at known ran =
    let here : Ran recorder (Some h.rows) h.state ts kept run = subst (λ (r : Recorded). Ran recorder (Some h.rows) r ts kept run) at (subst (λ o. Ran recorder o mid ts kept run) known ran) in
    (here.state, here.rows)

-- all turns of stages after a state that is known
pub all_fix : (xs : List Stage) (h : Held Recorded) (rows kept : Option (List Row)) (mid run : Recorded) (ts : List Turn) → mid ≡ h.state → rows ≡ Some h.rows → AllTaken kept run xs rows mid ts → ts ≡ turns_from h xs
all_fix [] h rows kept mid run ts at known all = all.none
all_fix (x ∷ xs) h rows kept mid run ts at known all =
    let here = ran_on h (x mid) rows all.at_rows mid all.at at known all.taken in
    let next = held_run recorder h (x h.state) in
    let same : x mid ≡ x h.state = ap x at in
    all.are ∙ (ap (λ (us : List Turn). us ++ all.rest) same
    ∙ ap (λ (us : List Turn). x h.state ++ us)
    (all_fix xs next all.at_rows kept all.at run all.rest (here.0 ∙ ap (λ us. (held_run recorder h us).state) same) (here.1 ∙ ap (λ us. Some (held_run recorder h us).rows) same) all.on))

-- and some of them
pub some_fix : (xs : List Stage) (h : Held Recorded) (rows kept : Option (List Row)) (mid run : Recorded) (ts : List Turn) → mid ≡ h.state → rows ≡ Some h.rows → SomeTaken kept run xs rows mid ts → (k : ℕ) × (ts ≡ take k (turns_from h xs))
some_fix [] h rows kept mid run ts at known end = (0, end.none)
some_fix (x ∷ xs) h rows kept mid run ts at known (inl some) =
    let more = turns_from (held_run recorder h (x h.state)) xs in
    let within : some.k ≤ length (x h.state) = subst (λ (r : Recorded). some.k ≤ length (x r)) at some.within in
    (some.k, some.are ∙ (ap (λ (r : Recorded). take some.k (x r)) at ∙ sym (take-append-le some.k (x h.state) more within)))
some_fix (x ∷ xs) h rows kept mid run ts at known (inr some) =
    let here = ran_on h (x mid) rows some.at_rows mid some.at at known some.taken in
    let next = held_run recorder h (x h.state) in
    let same : x mid ≡ x h.state = ap x at in
    let rest = some_fix xs next some.at_rows kept some.at run some.rest (here.0 ∙ ap (λ us. (held_run recorder h us).state) same) (here.1 ∙ ap (λ us. Some (held_run recorder h us).rows) same) some.on in (
      length (x h.state) + rest.0,
      some.are ∙ (ap (λ (us : List Turn). us ++ some.rest) same ∙ (ap (λ (us : List Turn). x h.state ++ us) rest.1 ∙ sym (take-append-add (x h.state) (turns_from next xs) rest.0))),
    )

-- turns after the scenario's, by the rows of the row store
pub behind_turns : (w : Work) (rows : List Row) (ts : List Turn) (mid_rows kept : Option (List Row)) (mid run : Recorded) → w.old ≡ Some rows → Comes w w.scenario.turns mid_rows mid → Ran recorder mid_rows mid ts kept run
    → IsFixed w rows (w.scenario.turns ++ ts) kept run
behind_turns w rows ts mid_rows kept mid run known comes ran =
    let first = known_rows_fix w rows w.scenario.turns mid_rows mid known comes in
    let own = held_from w.task w.scenario rows w.scenario.turns in
    let last = ran_on own ts mid_rows kept mid run first.run_is first.rows_are ran in
    let both : held_from w.task w.scenario rows (w.scenario.turns ++ ts) ≡ held_run recorder own ts = fold-append (held_step recorder) (opened w.task w.scenario rows) w.scenario.turns ts in
    record {
      run_is = last.0 ∙ sym (ap (λ (h : Held Recorded). h.state) both);
      rows_are = last.1 ∙ sym (ap (λ (h : Held Recorded). Some h.rows) both);
    }

-- all turns lead to one run
pub whole_is : (w : Work) (rows : List Row) (run : Recorded) → w.old ≡ Some rows → IsWhole (course_of w) run → IsFixed w rows (all_turns w.task w.scenario rows) w.new run
whole_is w rows run known whole =
    let first = known_rows_fix w rows w.scenario.turns whole.rows whole.mid known whole.came in
    let xs = stages w.task.asked in
    let ran = some_ran w.new run xs whole.rows whole.mid whole.ts (all_some w.new run xs whole.rows whole.mid whole.ts whole.own) in
    let at = behind_turns w rows whole.ts whole.rows w.new whole.mid run known whole.came ran in
    let are = all_fix xs (held_from w.task w.scenario rows w.scenario.turns) whole.rows w.new whole.mid run whole.ts first.run_is first.rows_are whole.own in
    subst (λ (us : List Turn). IsFixed w rows (w.scenario.turns ++ us) w.new run) are at

-- some of them lead to what is left of the task
pub on_is : (w : Work) (rows : List Row) (run : Recorded) → w.old ≡ Some rows → IsOn (course_of w) run → (k : ℕ) × (cut_text w.task.asked (names_of w.scenario) run ≡ cut_answer w.task w.scenario rows k)
on_is w rows run known (inl at) =
    let is = known_rows_fix w rows (take at.k w.scenario.turns) w.new run known at.comes in
    let more = turns_from (held_from w.task w.scenario rows w.scenario.turns) (stages w.task.asked) in
    let front : take at.k (all_turns w.task w.scenario rows) ≡ take at.k w.scenario.turns = take-append-le at.k w.scenario.turns more at.within in
    (at.k, ap (cut_text w.task.asked (names_of w.scenario)) (is.run_is ∙ ap (λ ts. (held_from w.task w.scenario rows ts).state) (sym front)))
on_is w rows run known (inr at) =
    let first = known_rows_fix w rows w.scenario.turns at.rows at.mid known at.came in
    let xs = stages w.task.asked in
    let is = behind_turns w rows at.ts at.rows w.new at.mid run known at.came (some_ran w.new run xs at.rows at.mid at.ts at.own) in
    let own = held_from w.task w.scenario rows w.scenario.turns in
    let fix = some_fix xs own at.rows w.new at.mid run at.ts first.run_is first.rows_are at.own in
    let n = length w.scenario.turns + fix.0 in
    let same : w.scenario.turns ++ at.ts ≡ take n (all_turns w.task w.scenario rows) =
    ap (λ (us : List Turn). w.scenario.turns ++ us) fix.1 ∙ sym (take-append-add w.scenario.turns (turns_from own xs) fix.0) in
    (n, ap (cut_text w.task.asked (names_of w.scenario)) (is.run_is ∙ ap (λ ts. (held_from w.task w.scenario rows ts).state) same))

-- and so do those before one that was cut
pub cut_is : (w : Work) (rows : List Row) (run : Recorded) → w.old ≡ Some rows → WasCut (course_of w) run → (k : ℕ) × (cut_text w.task.asked (names_of w.scenario) run ≡ cut_answer w.task w.scenario rows k)
cut_is w rows run known (inl at) = on_is w rows run known (inl (record { k = at.k; within = let less = at.within in omega (arith, less); comes = at.comes }))
cut_is w rows run known (inr at) = on_is w rows run known (inr (record { mid = at.mid; rows = at.rows; came = at.came; ts = at.ts; own = cut_some w.new run (stages w.task.asked) at.rows at.mid at.ts at.own }))
