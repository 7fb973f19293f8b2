-- The ending of a task.
use Rattle.std.proofs.Common.{◌≡◌, ◌∙◌, ℕ, List, [], ◌++◌, length, take, true, refl, sym, ap, subst, arith, Option, inl, inr}
use Rattle.tasks.proofs.Prelude.{AllTaken, Answer, Answers, Asked, Comes, CommandTurn, Course, CutTaken, End, Ending, EndsCut, EndsWhole, Extra}
use Rattle.tasks.proofs.Prelude.{FailsIn, Follows, GaveUp, Gives, GivesUp, HostPort, IsCut, IsOn, IsWhole, Leads, Point, Progress, Ran, Recorded, Reply, Row}
use Rattle.tasks.proofs.Prelude.{Scenario, SomeTaken, Stands, StartsBy, State, Stops, StopsBefore, StopsIn, Taken, Takes, TakesFront, Tallies, Tally}
use Rattle.tasks.proofs.Prelude.{Task, Tells, Turn, TurnFault, UnknownInstance, WasCut, WasCutOff, Work, Writes, answer_of, append-nil, asked_answer}
use Rattle.tasks.proofs.Prelude.{between, course_from, cut_text, dump_of, engine, extra_answer, kept_at_start, names_of, own_answer, point, recorder}
use Rattle.tasks.proofs.Prelude.{replies_text, stages, summary_of, tables_of, take-length, without_tables, without_turns}
use Rattle.tasks.proofs.Prelude.answered
use Rattle.tasks.proofs.Prelude.asked
use Rattle.tasks.proofs.Prelude.ends
use Rattle.tasks.proofs.Prelude.fault
use Rattle.tasks.proofs.Courses.{Recording, first_gave_up}
use Rattle.tasks.proofs.Stages.{all_of_none, all_some}
use Rattle.tasks.proofs.Sends.{front_taken, nothing_is_front, takes_nothing}

-- ---- runs

module _ (c : Task) (names : List HostPort) (scenario : Scenario) (ts : List Turn) (from to : Point) (start mid new err : Taken) (p : Progress) (is_run : c.asked ≡ asked.Run) where
  abbrev course : Course
  course = course_from c names scenario ts from to.kept

  run_text : (run : Recorded) → answer_of c names scenario run ≡ asked_answer asked.Run c.extra names scenario run
  run_text run = ap (λ (a : Asked). asked_answer a c.extra names scenario run) is_run

  left_text : (run : Recorded) → cut_text c.asked names run ≡ replies_text names run
  left_text run = ap (λ (a : Asked). cut_text a names run) is_run

  whole_text : (run : Recorded) → run.state ≡ to.state → replies_text names run ++ tables_of to.state ≡ (answer_of c names scenario run).out
  whole_text run state = ap (λ (s : State). replies_text names run ++ tables_of s) (sym state) ∙ ap (λ (a : Answer). a.out) (sym (run_text run))

  whole_of : (run : Recorded) → Leads from to.kept ts run → IsWhole course run
  whole_of run leads = record {
    mid = run;
    rows = to.kept;
    came = leads;
    ts = [];
    own = all_of_none c.asked to.kept run (ap stages is_run);
  }

  err_text : (run : Recorded) → Takes (between err err) (answer_of c names scenario run).err
  err_text run = subst (λ (v : List ℕ). Takes (between err err) v) (ap (λ (a : Answer). a.err) (sym (run_text run))) (takes_nothing err.bytes)

  -- after all turns
  pub whole_stands : (ending : Ending) → Follows names from ts to (between start mid) p → EndsWhole to.state p mid new ending → Stands course (between start new) (between err err) ending
  whole_stands (ends.Written refused) follows told = record {
    run = follows.run;
    whole = whole_of follows.run follows.ran;
    on_out = subst (λ (v : List ℕ). Takes (between start new) v) (whole_text follows.run follows.state) (told.0 start (replies_text names follows.run) follows.text);
    on_err = err_text follows.run;
    is_refused = told.1 ∙ (follows.refused ∙ ap (λ (a : Answer). a.is_refused) (sym (run_text follows.run)));
  }
  whole_stands ends.Unwritten follows told = inr (inl (record {
    run = follows.run;
    whole = whole_of follows.run follows.ran;
    on_err = err_text follows.run;
    on_out = subst (λ (v : List ℕ). FailsIn (between start new) v) (whole_text follows.run follows.state) (told start (replies_text names follows.run) follows.text);
  }))
  whole_stands ends.Keeper follows told = absurd told
  whole_stands ends.Memory follows told = record {
    run = follows.run;
    on = inl (record { k = length ts; within = omega arith; comes = subst (λ us. Leads from to.kept us follows.run) (sym (take-length ts)) follows.ran });
    on_err = takes_nothing err.bytes;
    on_out = subst (λ (v : List ℕ). TakesFront (between start new) v) (sym (left_text follows.run))
        (subst (λ (o : Taken). TakesFront (between start o) (replies_text names follows.run)) (sym told)
        (front_taken (between start mid) p.pieces.held.items (replies_text names follows.run) p.pieces.failed follows.text));
  }

  cut_at : (stops : StopsBefore names from ts to (between start mid) p) → WasCut course stops.follows.run
  cut_at stops = inl (record { k = stops.k; within = stops.within; comes = stops.follows.ran; calls = stops.calls })

  rest_text : (run : Recorded) → replies_text names run ++ [] ≡ cut_text c.asked names run
  rest_text run = append-nil (replies_text names run) ∙ sym (left_text run)

  -- cut by a row store's fault
  pub cut_stands : (ending : Ending) → StopsBefore names from ts to (between start mid) p → EndsCut p mid new ending → Stands course (between start new) (between err err) ending
  cut_stands (ends.Written refused) stops told = absurd told
  cut_stands ends.Unwritten stops told = inr (inr (record {
    run = stops.follows.run;
    cut = cut_at stops;
    on_err = takes_nothing err.bytes;
    on_out = subst (λ (v : List ℕ). FailsIn (between start new) v) (rest_text stops.follows.run) (told start (replies_text names stops.follows.run) stops.follows.text);
  }))
  cut_stands ends.Keeper stops told = record {
    run = stops.follows.run;
    cut = cut_at stops;
    on_err = takes_nothing err.bytes;
    on_out = subst (λ (v : List ℕ). Takes (between start new) v) (rest_text stops.follows.run) (told start (replies_text names stops.follows.run) stops.follows.text);
  }
  cut_stands ends.Memory stops told = absurd told

-- why a run's turns weren't all taken
pub gave_keeper : (names : List HostPort) (from to : Point) (ts : List Turn) (e : End) (p : Progress) (why : TurnFault) → why ≡ fault.Keeper → GaveUp names from ts to e p why → StopsBefore names from ts to e p
gave_keeper names from to ts e p why is gave = subst (GaveUp names from ts to e p) is gave

-- ---- single commands

-- an answer was written
pub writes_stand : (c : Course) (run : Recorded) (a : Answer) (out err : End) (ending : Ending) → IsWhole c run → answer_of c.task c.names c.scenario run ≡ a → Writes a out err ending → Stands c out err ending
writes_stand c run a out err (ends.Written refused) whole is wrote = record {
  run = run;
  whole = whole;
  on_out = subst (λ (b : Answer). Takes out b.out) (sym is) wrote.0.on_out;
  on_err = subst (λ (b : Answer). Takes err b.err) (sym is) wrote.0.on_err;
  is_refused = wrote.1 ∙ ap (λ (b : Answer). b.is_refused) (sym is);
}
writes_stand c run a out err ends.Unwritten whole is (inl first) =
    inl (record { run = run; whole = whole; on_err = subst (λ (b : Answer). FailsIn err b.err) (sym is) first.0; on_out = first.1 })
writes_stand c run a out err ends.Unwritten whole is (inr second) =
    inr (inl (record { run = run; whole = whole; on_err = subst (λ (b : Answer). Takes err b.err) (sym is) second.0; on_out = subst (λ (b : Answer). FailsIn out b.out) (sym is) second.1 }))
writes_stand c run a out err ends.Keeper whole is wrote = absurd wrote
writes_stand c run a out err ends.Memory whole is wrote = record {
  run = run;
  on = inr (record {
    mid = whole.mid;
    rows = whole.rows;
    came = whole.came;
    ts = whole.ts;
    own = all_some c.kept run (stages c.task.asked) whole.rows whole.mid whole.ts whole.own;
  });
  on_err = wrote.1;
  on_out = nothing_is_front out.old.bytes out.new.bytes (cut_text c.task.asked c.names run) wrote.0;
}

-- nothing is left of it if its turns gave up
quiet_cut : (a : Asked) (names : List HostPort) (run : Recorded) → (a ≡ asked.Run → ⊥) → cut_text a names run ≡ []
quiet_cut asked.Run names run other = absurd (other refl)
quiet_cut _ names run other = refl

pub cut_quietly : (c : Task) (names : List HostPort) (scenario : Scenario) (ts : List Turn) (from : Point) (kept : Option (List Row)) (out err : Taken) (run : Recorded) → (c.asked ≡ asked.Run → ⊥) → WasCut (course_from c names scenario ts from kept) run
    → Stands (course_from c names scenario ts from kept) (between out out) (between err err) ends.Keeper
cut_quietly c names scenario ts from kept out err run other cut = record {
  run = run;
  cut = cut;
  on_err = takes_nothing err.bytes;
  on_out = subst (λ (v : List ℕ). Takes (between out out) v) (sym (quiet_cut c.asked names run other)) (takes_nothing out.bytes);
}

pub wanting_quietly : (c : Task) (names : List HostPort) (scenario : Scenario) (ts : List Turn) (from : Point) (kept : Option (List Row)) (out err : Taken) (run : Recorded) → IsOn (course_from c names scenario ts from kept) run
    → Stands (course_from c names scenario ts from kept) (between out out) (between err err) ends.Memory
wanting_quietly c names scenario ts from kept out err run on = record {
  run = run;
  on = on;
  on_err = takes_nothing err.bytes;
  on_out = nothing_is_front out.bytes out.bytes (cut_text c.asked names run) (takes_nothing out.bytes);
}

pub keeper_stands : (c : Task) (names : List HostPort) (scenario : Scenario) (ts : List Turn) (from : Point) (kept : Option (List Row)) (out err : Taken) (why : TurnFault) → (c.asked ≡ asked.Run → ⊥) → why ≡ fault.Keeper → GivesUp from ts kept why
    → Stands (course_from c names scenario ts from kept) (between out out) (between err err) ends.Keeper
keeper_stands c names scenario ts from kept out err why other is gives =
    let at : (run : Recorded) × IsCut (Leads from kept) ts run = subst (GivesUp from ts kept) is gives in
    cut_quietly c names scenario ts from kept out err at.0 other (inl at.1)

pub memory_stands : (c : Task) (names : List HostPort) (scenario : Scenario) (ts : List Turn) (from : Point) (kept : Option (List Row)) (out err : Taken) (why : TurnFault) → why ≡ fault.Memory → GivesUp from ts kept why
    → Stands (course_from c names scenario ts from kept) (between out out) (between err err) ends.Memory
memory_stands c names scenario ts from kept out err why is gives =
    let at : Gives from.kept (without_turns from.state) ts kept = subst (GivesUp from ts kept) is gives in
    wanting_quietly c names scenario ts from kept out err at.run (inl (record { k = at.k; within = at.within; comes = at.ran }))

-- ---- a run's summary

module _ (c : Task) (names : List HostPort) (scenario : Scenario) (ts : List Turn) (from : Point) (is : c.asked ≡ asked.Summary) where
  not_the_lines : c.asked ≡ asked.Run → ⊥
  not_the_lines run = apart (sym is ∙ run)
    where
      apart : asked.Summary ≡ asked.Run → ⊥
      apart e = cc

  pub summary_stands : (to : Point) (tally : Tally) (out err : End) (ending : Ending) → Tallies from ts to tally → Writes (summary_of tally to.state) out err ending → Stands (course_from c names scenario ts from to.kept) out err ending
  summary_stands to tally out err ending tallies wrote =
      writes_stand (course_from c names scenario ts from to.kept) tallies.run (summary_of tally to.state) out err ending
      (record {
        mid = tallies.run;
        rows = to.kept;
        came = tallies.ran;
        ts = [];
        own = all_of_none c.asked to.kept tallies.run (ap stages is);
      })
      (ap (λ (a : Asked). asked_answer a c.extra names scenario tallies.run) is
      ∙ (ap (λ (t : Tally). summary_of t tallies.run.state) (sym tallies.is) ∙ ap (λ (s : State). summary_of tally s) tallies.state))
      wrote

  pub summary_keeper : (kept : Option (List Row)) (out err : Taken) (why : TurnFault) → why ≡ fault.Keeper → GivesUp from ts kept why → Stands (course_from c names scenario ts from kept) (between out out) (between err err) ends.Keeper
  summary_keeper kept out err why failed gives = keeper_stands c names scenario ts from kept out err why not_the_lines failed gives

  pub summary_memory : (kept : Option (List Row)) (out err : Taken) (why : TurnFault) → why ≡ fault.Memory → GivesUp from ts kept why → Stands (course_from c names scenario ts from kept) (between out out) (between err err) ends.Memory
  summary_memory kept out err why failed gives = memory_stands c names scenario ts from kept out err why failed gives

-- ---- a single command with a turn of its own

module _ (c : Task) (names : List HostPort) (scenario : Scenario) (ts : List Turn) (from : Point) (t : CommandTurn) (is : c.asked ≡ asked.Turn t) where
  not_a_run : c.asked ≡ asked.Run → ⊥
  not_a_run run = apart (sym is ∙ run)
    where
      apart : asked.Turn t ≡ asked.Run → ⊥
      apart e = cc

  -- what is answered by its last reply
  pub own_stands : (to : Point) (x : Extra) (reply : Reply) (out err : End) (ending : Ending) → c.extra ≡ x → Answers from ts t to reply → Writes (extra_answer x names scenario to.state reply) out err ending
      → Stands (course_from c names scenario ts from to.kept) out err ending
  own_stands to x reply out err ending besides answers wrote =
      let ends = answers.ends in
      writes_stand (course_from c names scenario ts from to.kept) ends.run (extra_answer x names scenario to.state reply) out err ending
      (record {
        mid = answers.mid;
        rows = answers.rows;
        came = answers.ran;
        ts = ends.ts;
        own = subst (λ (a : Asked). AllTaken to.kept ends.run (stages a) answers.rows answers.mid ends.ts) (sym is) ends.taken;
      })
      (ap (λ (a : Asked). asked_answer a c.extra names scenario ends.run) is
      ∙ (ap (λ (r : Option Reply). own_answer c.extra names scenario ends.run.state r) ends.last
      ∙ (ap (λ (y : Extra). extra_answer y names scenario ends.run.state reply) besides ∙ ap (λ (s : State). extra_answer x names scenario s reply) ends.state)))
      wrote

  pub own_keeper : (kept : Option (List Row)) (out err : Taken) (why : TurnFault) → why ≡ fault.Keeper → Stops from ts t kept why → Stands (course_from c names scenario ts from kept) (between out out) (between err err) ends.Keeper
  own_keeper kept out err why failed (inl gives) = keeper_stands c names scenario ts from kept out err why not_a_run failed gives
  own_keeper kept out err why failed (inr stops) =
      let at : (run : Recorded) × (us : List Turn) × CutTaken kept run (stages (asked.Turn t)) stops.rows stops.mid us = subst (StopsIn (stages (asked.Turn t)) stops.rows stops.mid kept) failed stops.stops in
      cut_quietly c names scenario ts from kept out err at.0 not_a_run (inr (record {
        mid = stops.mid;
        rows = stops.rows;
        came = stops.ran;
        ts = at.1;
        own = subst (λ (a : Asked). CutTaken kept at.0 (stages a) stops.rows stops.mid at.1) (sym is) at.2;
      }))

  pub own_memory : (kept : Option (List Row)) (out err : Taken) (why : TurnFault) → why ≡ fault.Memory → Stops from ts t kept why → Stands (course_from c names scenario ts from kept) (between out out) (between err err) ends.Memory
  own_memory kept out err why failed (inl gives) = memory_stands c names scenario ts from kept out err why failed gives
  own_memory kept out err why failed (inr stops) =
      let at : (run : Recorded) × (us : List Turn) × SomeTaken kept run (stages (asked.Turn t)) stops.rows stops.mid us = subst (StopsIn (stages (asked.Turn t)) stops.rows stops.mid kept) failed stops.stops in
      wanting_quietly c names scenario ts from kept out err at.0 (inr (record {
        mid = stops.mid;
        rows = stops.rows;
        came = stops.ran;
        ts = at.1;
        own = subst (λ (a : Asked). SomeTaken kept at.0 (stages a) stops.rows stops.mid at.1) (sym is) at.2;
      }))

-- and to one that uses an instance that no server is
pub unknown_stands : (c : Task) (names : List HostPort) (scenario : Scenario) (ts : List Turn) (from : Point) (kept : Option (List Row)) (now : State) (x y : Extra) (out err : End) (ending : Ending) → c.asked ≡ asked.Unknown → c.extra ≡ x → Recording from.kept (without_turns from.state) ts kept now
    → y ≡ without_tables x → Writes (extra_answer y names scenario now (answered.Refused UnknownInstance)) out err ending → Stands (course_from c names scenario ts from kept) out err ending
unknown_stands c names scenario ts from kept now x y out err ending is besides recording left wrote =
    writes_stand (course_from c names scenario ts from kept) recording.run (extra_answer (without_tables x) names scenario now (answered.Refused UnknownInstance)) out err ending
    (record {
      mid = recording.run;
      rows = kept;
      came = recording.ran;
      ts = [];
      own = all_of_none c.asked kept recording.run (ap stages is);
    })
    (ap (λ (a : Asked). asked_answer a c.extra names scenario recording.run) is
    ∙ (ap (λ (y : Extra). extra_answer (without_tables y) names scenario recording.run.state (answered.Refused UnknownInstance)) besides
    ∙ ap (λ (s : State). extra_answer (without_tables x) names scenario s (answered.Refused UnknownInstance)) recording.state))
    (subst (λ (z : Extra). Writes (extra_answer z names scenario now (answered.Refused UnknownInstance)) out err ending) left wrote)

-- ---- from the opening on

-- turns that come so come from further back, too
module _ (c : Course) (came : List Turn → Option (List Row) → Recorded → Type 0) (on : (ts : List Turn) (kept : Option (List Row)) (run : Recorded) → c.came ts kept run → came ts kept run) where
  abbrev further : Course
  further = record c { came = came }

  whole_on : (run : Recorded) → IsWhole c run → IsWhole further run
  whole_on run whole = record { mid = whole.mid; rows = whole.rows; came = on c.turns whole.rows whole.mid whole.came; ts = whole.ts; own = whole.own }

  is_on : (run : Recorded) → IsOn c run → IsOn further run
  is_on run (inl at) = inl (record { k = at.k; within = at.within; comes = on (take at.k c.turns) c.kept run at.comes })
  is_on run (inr at) = inr (record { mid = at.mid; rows = at.rows; came = on c.turns at.rows at.mid at.came; ts = at.ts; own = at.own })

  cut_on : (run : Recorded) → WasCut c run → WasCut further run
  cut_on run (inl at) = inl (record { k = at.k; within = at.within; comes = on (take at.k c.turns) c.kept run at.comes; calls = at.calls })
  cut_on run (inr at) = inr (record { mid = at.mid; rows = at.rows; came = on c.turns at.rows at.mid at.came; ts = at.ts; own = at.own })

  stands_on : (out err : End) (ending : Ending) → Stands c out err ending → Stands further out err ending
  stands_on out err (ends.Written refused) s = record { run = s.run; whole = whole_on s.run s.whole; on_out = s.on_out; on_err = s.on_err; is_refused = s.is_refused }
  stands_on out err ends.Unwritten (inl s) = inl (record { run = s.run; whole = whole_on s.run s.whole; on_err = s.on_err; on_out = s.on_out })
  stands_on out err ends.Unwritten (inr (inl s)) = inr (inl (record { run = s.run; whole = whole_on s.run s.whole; on_err = s.on_err; on_out = s.on_out }))
  stands_on out err ends.Unwritten (inr (inr s)) = inr (inr (record { run = s.run; cut = cut_on s.run s.cut; on_err = s.on_err; on_out = s.on_out }))
  stands_on out err ends.Keeper s = record { run = s.run; cut = cut_on s.run s.cut; on_err = s.on_err; on_out = s.on_out }
  stands_on out err ends.Memory s = record { run = s.run; on = is_on s.run s.on; on_err = s.on_err; on_out = s.on_out }

pub begun_stands : (w : Work) (names : List HostPort) (ts : List Turn) (begun : State) (mid : Option (List Row)) (out err : End) (ending : Ending) → StartsBy w.old w.scenario w.task.waits begun → mid ≡ kept_at_start true w.old w.scenario → names ≡ names_of w.scenario → ts ≡ w.scenario.turns
    → Stands (course_from w.task names w.scenario ts (point mid begun) w.new) out err ending → Tells w out err ending
begun_stands w names ts begun mid out err ending opens kept named all stands =
    inr (subst (λ us. Stands (record { task = w.task; names = names_of w.scenario; scenario = w.scenario; turns = us; came = Comes w; kept = w.new }) out err ending) all
    (subst (λ ns. Stands (record { task = w.task; names = ns; scenario = w.scenario; turns = ts; came = Comes w; kept = w.new }) out err ending) named
    (stands_on (course_from w.task names w.scenario ts (point mid begun) w.new) (Comes w)
    (λ us rows run leads. record { begun = begun; opens = opens; ran = subst (λ k. Ran recorder k (without_turns begun) us rows run) kept leads })
    out err ending stands)))

-- a command whose instance no server is, if the scenario's turns gave up
not_run : (a : Asked) → a ≡ asked.Unknown → a ≡ asked.Run → ⊥
not_run a is run = absurd cc

pub whole_gave_up : (from : Point) (kept : Option (List Row)) (now : State) (ts : List Turn) (why : TurnFault) → WasCutOff engine from.kept from.state ts kept now why → GivesUp from ts kept why
whole_gave_up from kept now ts why cut = subst (λ us. GivesUp from us kept why) (append-nil ts) (first_gave_up from kept now ts [] why cut)

pub unknown_keeper : (c : Task) (names : List HostPort) (scenario : Scenario) (ts : List Turn) (from : Point) (kept : Option (List Row)) (now : State) (out err : Taken) (why : TurnFault) → c.asked ≡ asked.Unknown → why ≡ fault.Keeper → WasCutOff engine from.kept from.state ts kept now why
    → Stands (course_from c names scenario ts from kept) (between out out) (between err err) ends.Keeper
unknown_keeper c names scenario ts from kept now out err why is failed cut = keeper_stands c names scenario ts from kept out err why (not_run c.asked is) failed (whole_gave_up from kept now ts why cut)

pub unknown_memory : (c : Task) (names : List HostPort) (scenario : Scenario) (ts : List Turn) (from : Point) (kept : Option (List Row)) (now : State) (out err : Taken) (why : TurnFault) → why ≡ fault.Memory → WasCutOff engine from.kept from.state ts kept now why
    → Stands (course_from c names scenario ts from kept) (between out out) (between err err) ends.Memory
unknown_memory c names scenario ts from kept now out err why failed cut = memory_stands c names scenario ts from kept out err why failed (whole_gave_up from kept now ts why cut)

-- ---- the servers as they are then

module _ (c : Task) (names : List HostPort) (scenario : Scenario) (ts : List Turn) (from : Point) (is : c.asked ≡ asked.Dump) where
  not_told : c.asked ≡ asked.Run → ⊥
  not_told run = apart (sym is ∙ run)
    where
      apart : asked.Dump ≡ asked.Run → ⊥
      apart e = cc

  pub dump_stands : (kept : Option (List Row)) (now : State) (out err : End) (ending : Ending) → Recording from.kept (without_turns from.state) ts kept now → Writes (dump_of names scenario now) out err ending → Stands (course_from c names scenario ts from kept) out err ending
  dump_stands kept now out err ending recording wrote =
      writes_stand (course_from c names scenario ts from kept) recording.run (dump_of names scenario now) out err ending
      (record {
        mid = recording.run;
        rows = kept;
        came = recording.ran;
        ts = [];
        own = all_of_none c.asked kept recording.run (ap stages is);
      })
      (ap (λ (a : Asked). asked_answer a c.extra names scenario recording.run) is ∙ ap (dump_of names scenario) recording.state)
      wrote

  pub dump_keeper : (kept : Option (List Row)) (now : State) (out err : Taken) (why : TurnFault) → why ≡ fault.Keeper → WasCutOff engine from.kept from.state ts kept now why → Stands (course_from c names scenario ts from kept) (between out out) (between err err) ends.Keeper
  dump_keeper kept now out err why failed cut = keeper_stands c names scenario ts from kept out err why not_told failed (whole_gave_up from kept now ts why cut)

  pub dump_memory : (kept : Option (List Row)) (now : State) (out err : Taken) (why : TurnFault) → why ≡ fault.Memory → WasCutOff engine from.kept from.state ts kept now why → Stands (course_from c names scenario ts from kept) (between out out) (between err err) ends.Memory
  dump_memory kept now out err why failed cut = memory_stands c names scenario ts from kept out err why failed (whole_gave_up from kept now ts why cut)
