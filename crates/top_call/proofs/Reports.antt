-- How calls whose row store has known rows end: against their report.
use Rattle.std.proofs.Common.{◌≡◌, ◌∙◌, ℕ, ◌≤◌, Bool, true, false, List, [], ◌++◌, length, take, Option, Some, None, Ok, Err, refl, sym, ap, subst, arith, ◌⊎◌, inl, inr, IfSome, codes, Result}
use Rattle.top_call.proofs.Prelude.{Answer, AskARead, Asks, AskToDraw, Call, Closes, Drawing, End, Ends, EndsAs, EndsBy, Fault, IsReported, IsToWrite}
use Rattle.top_call.proofs.Prelude.{IsWhole, KeepsRows, OfRead, Places, Recorded, Report, Row, Scenario, Taken, Takes, TakesBehind, TakesFront}
use Rattle.top_call.proofs.Prelude.{TakesLine, Task, Tells, Usage, WasCut, Way, Work, WritesErr, WritesOut, answer_of, between, call, course_of}
use Rattle.top_call.proofs.Prelude.{cut_answer, cut_begins, cut_is, cut_text, drawing_of, drawn_report, drawn_text, front_more, front_of_longer}
use Rattle.top_call.proofs.Prelude.{names_of, nothing_is_front, on_is, places_of, read_report, report, rose_later, scenario_in, status_of}
use Rattle.top_call.proofs.Prelude.{taken_report, takes_more, task_answer, task_of, task_report, whole_is, whole_is_front, words_report}
use Rattle.top_call.proofs.Prelude.{written_status}
use Rattle.top_call.proofs.Prelude.ends
use Rattle.top_call.proofs.Prelude.usage
use Rattle.top_call.proofs.Prelude.way
use Rattle.top_call.proofs.Ends.{asks_of, of_done, of_five, of_four, of_one, of_six, of_three, of_two}

-- ---- if the bytes and the rows are known

pub both : (left : Option (List ℕ)) (kept : Option (List Row)) (E : List ℕ → Type 0) (P : List ℕ → List Row → Type 0) → ((bytes : List ℕ) (rows : List Row) → kept ≡ Some rows → E bytes → P bytes rows) → OfRead left E → IfSome left (λ bytes. IfSome kept (P bytes))
both None kept E P f h = tt
both (Some bytes) None E P f h = tt
both (Some bytes) (Some rows) E P f h = f bytes rows refl h

-- ---- lines after texts

line_behind : (first mid last : Taken) (text line : List ℕ) → Takes (between first mid) text → first.faults ≤ mid.faults → TakesLine (between mid last) line → TakesLine (between first last) (text ++ line)
line_behind first mid last text line took later (inl whole) = inl (takes_more first.bytes mid.bytes last.bytes text line took whole)
line_behind first mid last text line took later (inr failed) =
    inr (record { failed = rose_later first.faults mid.faults last.faults later failed.failed; front = front_more first.bytes mid.bytes last.bytes text line took failed.front })

-- ---- a report's status is never that of a stop

record IsPlain (n : ℕ) : Type 0 where
  not_three : 3 ≡ n → ⊥
  not_four : 4 ≡ n → ⊥
  not_five : 5 ≡ n → ⊥
  not_six : 6 ≡ n → ⊥

told_plain : (refused : Bool) → IsPlain (written_status refused)
told_plain true = record { not_three = λ e. absurd (omega (arith, e)); not_four = λ e. absurd (omega (arith, e)); not_five = λ e. absurd (omega (arith, e)); not_six = λ e. absurd (omega (arith, e)) }
told_plain false = record { not_three = λ e. absurd (omega (arith, e)); not_four = λ e. absurd (omega (arith, e)); not_five = λ e. absurd (omega (arith, e)); not_six = λ e. absurd (omega (arith, e)) }

read_plain : (p : Places) (rows : List Row) (read : Result Scenario Fault) → IsPlain (read_report p rows read).status
read_plain p rows (Ok s) = told_plain (task_answer (task_of p (names_of s)) s rows).is_refused
read_plain p rows (Err fault) = record { not_three = λ e. absurd (omega (arith, e)); not_four = λ e. absurd (omega (arith, e)); not_five = λ e. absurd (omega (arith, e)); not_six = λ e. absurd (omega (arith, e)) }

words_plain : (bytes : List ℕ) (rows : List Row) (words : Result Places Usage) → IsPlain (words_report bytes rows words).status
words_plain bytes rows (Ok p) = taken_plain (drawing_of p)
  where
    taken_plain : (o : Option Drawing) → IsPlain (taken_report p bytes rows o).status
    taken_plain None = read_plain p rows (scenario_in bytes)
    taken_plain (Some d) = told_plain false
words_plain bytes rows (Err u) = record { not_three = λ e. absurd (omega (arith, e)); not_four = λ e. absurd (omega (arith, e)); not_five = λ e. absurd (omega (arith, e)); not_six = λ e. absurd (omega (arith, e)) }

-- a task's report is to be written, and the source is read for it
told_run : (refused : Bool) → (written_status refused ≡ 0) ⊎ (written_status refused ≡ 7)
told_run true = inr refl
told_run false = inl refl

read_reads : (p : Places) (rows : List Row) (read : Result Scenario Fault) → (read_report p rows read).reads ≡ true
read_reads p rows (Ok s) = refl
read_reads p rows (Err fault) = refl

pub unlike : (b : Bool) → b ≡ true → b ≡ false → ⊥
unlike true e f = cc
unlike false e f = cc

refused_of : (refused answered : Bool) → refused ≡ answered → written_status refused ≡ written_status answered
refused_of refused answered is = ap written_status is

-- ---- calls

module _ (c : Call) (rows : List Row) (known : c.kept ≡ Some rows) where
  abbrev r : Report
  r = report c.words c.bytes rows

  plain : IsPlain r.status
  plain = words_plain c.bytes rows (places_of c.words)

  -- the report of what is read
  of_taken : (ask : AskARead c.words) → r ≡ read_report ask.0 rows (scenario_in c.bytes)
  of_taken ask = ap (words_report c.bytes rows) ask.1 ∙ ap (taken_report ask.0 c.bytes rows) ask.2

  -- the report of the task that it asks
  of_task : (w : Work) → Asks c w → r ≡ task_report w.task w.scenario rows
  of_task w asks =
      of_taken (asks_of c w asks) ∙ (ap (read_report asks.is.places rows) asks.is.read ∙ ap (λ (t : Task). task_report t w.scenario rows) (sym asks.is.task))

  -- that of a scenario that is drawn
  of_drawn : (d : Drawing) → AskToDraw c.words d → r ≡ drawn_report d rows
  of_drawn d ask = ap (words_report c.bytes rows) ask.1 ∙ ap (taken_report ask.0 c.bytes rows) ask.2

  to_write : (w : Work) → Asks c w → IsToWrite r
  to_write w asks = subst IsToWrite (sym (of_task w asks)) (told_run (task_answer w.task w.scenario rows).is_refused)

  drawn_to_write : (d : Drawing) → AskToDraw c.words d → IsToWrite r
  drawn_to_write d ask = inl (ap (λ (x : Report). x.status) (of_drawn d ask))

  reads_for : AskARead c.words → r.reads ≡ true
  reads_for ask = ap (λ (x : Report). x.reads) (of_taken ask) ∙ read_reads ask.0 rows (scenario_in c.bytes)

  of_bad : places_of c.words ≡ Err usage.BadWords → r ≡ words_report c.bytes rows (Err usage.BadWords)
  of_bad bad = ap (words_report c.bytes rows) bad

  of_fault : (ask : AskARead c.words) (f : Fault) → scenario_in c.bytes ≡ Err f → r ≡ read_report ask.0 rows (Err f)
  of_fault ask f faulty = of_taken ask ∙ ap (read_report ask.0 rows) faulty

  -- ---- texts of the task

  answer_is : (w : Work) (run : Recorded) → Asks c w → IsWhole (course_of w) run → answer_of w.task (names_of w.scenario) w.scenario run ≡ task_answer w.task w.scenario rows
  answer_is w run asks whole = ap (answer_of w.task (names_of w.scenario) w.scenario) (whole_is w rows run (asks.old ∙ known) whole).run_is

  out_is : (w : Work) (run : Recorded) → Asks c w → IsWhole (course_of w) run → (answer_of w.task (names_of w.scenario) w.scenario run).out ≡ r.out
  out_is w run asks whole = ap (λ (a : Answer). a.out) (answer_is w run asks whole) ∙ ap (λ (x : Report). x.out) (sym (of_task w asks))

  err_is : (w : Work) (run : Recorded) → Asks c w → IsWhole (course_of w) run → (answer_of w.task (names_of w.scenario) w.scenario run).err ≡ r.err
  err_is w run asks whole = ap (λ (a : Answer). a.err) (answer_is w run asks whole) ∙ ap (λ (x : Report). x.err) (sym (of_task w asks))

  -- what is left of a run that was cut begins the report
  front_of : (w : Work) (run : Recorded) → Asks c w → (k : ℕ) × (cut_text w.task.asked (names_of w.scenario) run ≡ cut_answer w.task w.scenario rows k) → TakesFront c.out (cut_text w.task.asked (names_of w.scenario) run) → TakesFront c.out r.out
  front_of w run asks is took =
      let left = cut_answer w.task w.scenario rows is.0 in
      let begins = cut_begins w.task w.scenario rows is.0 in
      let first : TakesFront c.out left = subst (TakesFront c.out) is.1 took in
      let longer : TakesFront c.out (left ++ begins.rest) = front_of_longer c.out.old.bytes c.out.new.bytes left begins.rest first in
      subst (TakesFront c.out) (sym begins.is ∙ ap (λ (x : Report). x.out) (sym (of_task w asks))) longer

  cut_front : (w : Work) (run : Recorded) → Asks c w → WasCut (course_of w) run → TakesFront c.out (cut_text w.task.asked (names_of w.scenario) run) → TakesFront c.out r.out
  cut_front w run asks cut took = front_of w run asks (cut_is w rows run (asks.old ∙ known) cut) took

  empty_front : Takes c.out [] → TakesFront c.out r.out
  empty_front took = nothing_is_front c.out.old.bytes c.out.new.bytes r.out took

  -- ---- out

  -- of a drawn scenario's text
  drawn_out : (P : List ℕ → Type 0) (d : Drawing) → AskToDraw c.words d → P (drawn_text d) → P r.out
  drawn_out P d ask took = subst P (ap (λ (x : Report). x.out) (sym (of_drawn d ask))) took

  sink_front : Ends c way.Sink → TakesFront c.out r.out
  sink_front (inr draws) = drawn_out (TakesFront c.out) draws.drawing draws.asks draws.out.front
  sink_front (inl closes) = at closes.tells
    where
      at : Tells closes.work c.out (between c.err.old closes.mid) ends.Unwritten → TakesFront c.out r.out
      at (inl never) = absurd never
      at (inr (inl fails)) = empty_front fails.on_out
      at (inr (inr (inl fails))) = subst (TakesFront c.out) (out_is closes.work fails.run closes.asks fails.whole) fails.on_out.front
      at (inr (inr (inr fails))) = cut_front closes.work fails.run closes.asks fails.cut fails.on_out.front

  keeper_front : Closes c ends.Keeper (codes "keeper fault\n") → TakesFront c.out r.out
  keeper_front closes = at closes.tells
    where
      at : Tells closes.work c.out (between c.err.old closes.mid) ends.Keeper → TakesFront c.out r.out
      at (inl idle) = empty_front idle.on_out
      at (inr fails) = cut_front closes.work fails.run closes.asks fails.cut (whole_is_front c.out.old.bytes c.out.new.bytes (cut_text closes.work.task.asked (names_of closes.work.scenario) fails.run) fails.on_out)

  memory_front : Ends c way.Memory → TakesFront c.out r.out
  memory_front (inl idle) = empty_front idle.out
  memory_front (inr (inr draws)) = drawn_out (TakesFront c.out) draws.drawing draws.asks draws.out
  memory_front (inr (inl closes)) = at closes.tells
    where
      at : Tells closes.work c.out (between c.err.old closes.mid) ends.Memory → TakesFront c.out r.out
      at (inl idle) = empty_front idle.on_out
      at (inr fails) = front_of closes.work fails.run closes.asks (on_is closes.work rows fails.run (closes.asks.old ∙ known) fails.on) fails.on_out

  whole_out : (w : Way) → Ends c w → status_of w ≡ r.status → Takes c.out r.out
  whole_out (way.Reported refused) reports same = subst (Takes c.out) (out_is reports.work reports.written.run reports.asks reports.written.whole) reports.written.on_out
  whole_out way.Drawn draws same = drawn_out (Takes c.out) draws.drawing draws.asks draws.out
  whole_out way.Usage ended same = subst (Takes c.out) (ap (λ (x : Report). x.out) (sym (of_bad ended.0))) ended.1.out
  whole_out way.Fault ended same = subst (Takes c.out) (ap (λ (x : Report). x.out) (sym (of_fault ended.0 ended.1.0 ended.1.1))) ended.1.2.out
  whole_out way.Source ended same = absurd (plain.not_three same)
  whole_out way.Sink ended same = absurd (plain.not_four same)
  whole_out way.Keeper ended same = absurd (plain.not_five same)
  whole_out way.Memory ended same = absurd (plain.not_six same)

  pub on_out : (w : Way) → Ends c w → WritesOut r (status_of w) c.out
  on_out w ended = record {
    whole = whole_out w ended;
    nothing = λ three. nothing_at (subst (Ends c) (of_three w three) ended);
    front = front_at;
  }
    where
      nothing_at : Ends c way.Source → Takes c.out []
      nothing_at at = at.1.out

      front_at : (status_of w ≡ 4) ⊎ (status_of w ≡ 5) ⊎ (status_of w ≡ 6) → TakesFront c.out r.out
      front_at (inl four) = sink_front (subst (Ends c) (of_four w four) ended)
      front_at (inr (inl five)) = keeper_front (subst (Ends c) (of_five w five) ended)
      front_at (inr (inr six)) = memory_front (subst (Ends c) (of_six w six) ended)

  -- ---- err

  behind : (n : ℕ) (mid : Taken) (line : List ℕ) → n ≤ length r.err → Takes (between c.err.old mid) (take n r.err) → c.err.old.faults ≤ mid.faults → TakesLine (between mid c.err.new) line → TakesBehind r line c.err
  behind n mid line few took later lined = (n, few, line_behind c.err.old mid c.err.new (take n r.err) line took later lined)

  -- nothing of the report is before it
  alone : (line : List ℕ) → TakesLine c.err line → TakesBehind r line c.err
  alone line took = (0, omega arith, took)

  sink_line : Ends c way.Sink → TakesBehind r (codes "write fault\n") c.err
  sink_line (inr draws) = alone (codes "write fault\n") draws.err
  sink_line (inl closes) = at closes.tells
    where
      from : TakesFront (between c.err.old closes.mid) r.err → TakesBehind r (codes "write fault\n") c.err
      from front = behind front.0 closes.mid (codes "write fault\n") front.1 front.2 closes.later closes.err

      at : Tells closes.work c.out (between c.err.old closes.mid) ends.Unwritten → TakesBehind r (codes "write fault\n") c.err
      at (inl never) = absurd never
      at (inr (inl fails)) = from (subst (TakesFront (between c.err.old closes.mid)) (err_is closes.work fails.run closes.asks fails.whole) fails.on_err.front)
      at (inr (inr (inl fails))) =
          from (whole_is_front c.err.old.bytes closes.mid.bytes r.err (subst (Takes (between c.err.old closes.mid)) (err_is closes.work fails.run closes.asks fails.whole) fails.on_err))
      at (inr (inr (inr fails))) = from (nothing_is_front c.err.old.bytes closes.mid.bytes r.err fails.on_err)

  keeper_line : Closes c ends.Keeper (codes "keeper fault\n") → TakesLine c.err (codes "keeper fault\n")
  keeper_line closes = line_behind c.err.old closes.mid c.err.new [] (codes "keeper fault\n") (at closes.tells) closes.later closes.err
    where
      at : Tells closes.work c.out (between c.err.old closes.mid) ends.Keeper → Takes (between c.err.old closes.mid) []
      at (inl idle) = idle.on_err
      at (inr fails) = fails.on_err

  memory_line : Ends c way.Memory → TakesLine c.err (codes "out of memory\n")
  memory_line (inl idle) = idle.err
  memory_line (inr (inr draws)) = draws.err
  memory_line (inr (inl closes)) = line_behind c.err.old closes.mid c.err.new [] (codes "out of memory\n") (at closes.tells) closes.later closes.err
    where
      at : Tells closes.work c.out (between c.err.old closes.mid) ends.Memory → Takes (between c.err.old closes.mid) []
      at (inl idle) = idle.on_err
      at (inr fails) = fails.on_err

  reported_err : (w : Way) → IsReported w ⊎ (w ≡ way.Drawn) → Ends c w → Takes c.err r.err
  reported_err (way.Reported refused) (inl is) reports = subst (Takes c.err) (err_is reports.work reports.written.run reports.asks reports.written.whole) reports.written.on_err
  reported_err way.Drawn (inl is) ended = absurd is
  reported_err way.Usage (inl is) ended = absurd is
  reported_err way.Fault (inl is) ended = absurd is
  reported_err way.Source (inl is) ended = absurd is
  reported_err way.Sink (inl is) ended = absurd is
  reported_err way.Keeper (inl is) ended = absurd is
  reported_err way.Memory (inl is) ended = absurd is
  reported_err w (inr is) ended =
      let at : Ends c way.Drawn = subst (Ends c) is ended in
      subst (Takes c.err) (ap (λ (x : Report). x.err) (sym (of_drawn at.drawing at.asks))) at.err

  pub on_err : (w : Way) → Ends c w → WritesErr r (status_of w) c.err
  on_err w ended = record {
    whole = λ done. reported_err w (of_done w done) ended;
    refused = refused_at;
    source = λ three. source_at (subst (Ends c) (of_three w three) ended);
    sink = λ four. sink_line (subst (Ends c) (of_four w four) ended);
    keeper = λ five. keeper_line (subst (Ends c) (of_five w five) ended);
    memory = λ six. memory_line (subst (Ends c) (of_six w six) ended);
  }
    where
      usage_at : Ends c way.Usage → TakesLine c.err r.err
      usage_at at = subst (TakesLine c.err) (ap (λ (x : Report). x.err) (sym (of_bad at.0))) at.1.err

      fault_at : Ends c way.Fault → TakesLine c.err r.err
      fault_at at = subst (TakesLine c.err) (ap (λ (x : Report). x.err) (sym (of_fault at.0 at.1.0 at.1.1))) at.1.2.err

      source_at : Ends c way.Source → TakesLine c.err (codes "read fault\n")
      source_at at = at.1.err

      refused_at : (status_of w ≡ 1) ⊎ (status_of w ≡ 2) → TakesLine c.err r.err
      refused_at (inl one) = usage_at (subst (Ends c) (of_one w one) ended)
      refused_at (inr two) = fault_at (subst (Ends c) (of_two w two) ended)

  -- ---- the status and the rows

  pub ends_as : (w : Way) → Ends c w → EndsAs r (status_of w)
  ends_as (way.Reported refused) reports =
      inl (refused_of refused (task_answer reports.work.task reports.work.scenario rows).is_refused (reports.written.is_refused ∙ ap (λ (a : Answer). a.is_refused) (answer_is reports.work reports.written.run reports.asks reports.written.whole))
      ∙ ap (λ (x : Report). x.status) (sym (of_task reports.work reports.asks)))
  ends_as way.Drawn draws = inl (ap (λ (x : Report). x.status) (sym (of_drawn draws.drawing draws.asks)))
  ends_as way.Usage ended = inl (ap (λ (x : Report). x.status) (sym (of_bad ended.0)))
  ends_as way.Fault ended = inl (ap (λ (x : Report). x.status) (sym (of_fault ended.0 ended.1.0 ended.1.1)))
  ends_as way.Source ended = inr (inl (refl, reads_for ended.0))
  ends_as way.Sink (inl closes) = inr (inr (inl (refl, to_write closes.work closes.asks)))
  ends_as way.Sink (inr draws) = inr (inr (inl (refl, drawn_to_write draws.drawing draws.asks)))
  ends_as way.Keeper closes = inr (inr (inr (inl (refl, reads_for (asks_of c closes.work closes.asks), to_write closes.work closes.asks))))
  ends_as way.Memory ended = inr (inr (inr (inr refl)))

  whole_rows : (w : Way) → Ends c w → status_of w ≡ r.status → c.kept_now ≡ Some r.rows
  whole_rows (way.Reported refused) reports same =
      sym reports.asks.new ∙ ((whole_is reports.work rows reports.written.run (reports.asks.old ∙ known) reports.written.whole).rows_are ∙ ap (λ (x : Report). Some x.rows) (sym (of_task reports.work reports.asks)))
  whole_rows way.Drawn draws same = draws.kept ∙ (known ∙ ap (λ (x : Report). Some x.rows) (sym (of_drawn draws.drawing draws.asks)))
  whole_rows way.Usage ended same = ended.1.kept ∙ (known ∙ ap (λ (x : Report). Some x.rows) (sym (of_bad ended.0)))
  whole_rows way.Fault ended same = ended.1.2.kept ∙ (known ∙ ap (λ (x : Report). Some x.rows) (sym (of_fault ended.0 ended.1.0 ended.1.1)))
  whole_rows way.Source ended same = absurd (plain.not_three same)
  whole_rows way.Sink ended same = absurd (plain.not_four same)
  whole_rows way.Keeper ended same = absurd (plain.not_five same)
  whole_rows way.Memory ended same = absurd (plain.not_six same)

  -- a task's source is read
  never_idle : (w : Work) → Asks c w → r.reads ≡ false → ⊥
  never_idle w asks unread = unlike r.reads (reads_for (asks_of c w asks)) unread

  unread_rows : (w : Way) → Ends c w → r.reads ≡ false → c.kept_now ≡ Some rows
  unread_rows (way.Reported refused) reports unread = absurd (never_idle reports.work reports.asks unread)
  unread_rows way.Drawn draws unread = draws.kept ∙ known
  unread_rows way.Usage ended unread = ended.1.kept ∙ known
  unread_rows way.Fault ended unread = ended.1.2.kept ∙ known
  unread_rows way.Source ended unread = ended.1.kept ∙ known
  unread_rows way.Sink (inl closes) unread = absurd (never_idle closes.work closes.asks unread)
  unread_rows way.Sink (inr draws) unread = draws.kept ∙ known
  unread_rows way.Keeper closes unread = absurd (never_idle closes.work closes.asks unread)
  unread_rows way.Memory (inl idle) unread = idle.kept ∙ known
  unread_rows way.Memory (inr (inl closes)) unread = absurd (never_idle closes.work closes.asks unread)
  unread_rows way.Memory (inr (inr draws)) unread = draws.kept ∙ known

  pub keeps : (w : Way) → Ends c w → KeepsRows r (status_of w) rows c.kept_now
  keeps w ended = record {
    whole = whole_rows w ended;
    idle = idle_rows;
  }
    where
      idle_at : Ends c way.Source → c.kept_now ≡ Some rows
      idle_at at = at.1.kept ∙ known

      idle_rows : (status_of w ≡ 3) ⊎ (r.reads ≡ false) → c.kept_now ≡ Some rows
      idle_rows (inl three) = idle_at (subst (Ends c) (of_three w three) ended)
      idle_rows (inr unread) = unread_rows w ended unread

-- ---- by the number of the status

pub status_by : (c : Call) (rows : List Row) (status : ℕ) → c.kept ≡ Some rows → EndsBy c status → EndsAs (report c.words c.bytes rows) status
status_by c rows status known by = subst (EndsAs (report c.words c.bytes rows)) (sym by.1) (ends_as c rows known by.0 by.2)

pub status_told : (left : Option (List ℕ)) (kept kept_now : Option (List Row)) (words : List (List ℕ)) (out err : End) (status : ℕ) → OfRead left (λ bytes. EndsBy (call words bytes kept kept_now out err) status) → IfSome left (λ bytes. IfSome kept (λ rows. EndsAs (report words bytes rows) status))
status_told left kept kept_now words out err status ended =
    both left kept (λ bytes. EndsBy (call words bytes kept kept_now out err) status) (λ bytes rows. EndsAs (report words bytes rows) status) (λ bytes rows known by. status_by (call words bytes kept kept_now out err) rows status known by) ended

pub out_by : (c : Call) (rows : List Row) (status : ℕ) → c.kept ≡ Some rows → EndsBy c status → WritesOut (report c.words c.bytes rows) status c.out
out_by c rows status known by = subst (λ (n : ℕ). WritesOut (report c.words c.bytes rows) n c.out) (sym by.1) (on_out c rows known by.0 by.2)

pub err_by : (c : Call) (rows : List Row) (status : ℕ) → c.kept ≡ Some rows → EndsBy c status → WritesErr (report c.words c.bytes rows) status c.err
err_by c rows status known by = subst (λ (n : ℕ). WritesErr (report c.words c.bytes rows) n c.err) (sym by.1) (on_err c rows known by.0 by.2)

pub kept_by_report : (c : Call) (rows : List Row) (status : ℕ) → c.kept ≡ Some rows → EndsBy c status → KeepsRows (report c.words c.bytes rows) status rows c.kept_now
kept_by_report c rows status known by = subst (λ (n : ℕ). KeepsRows (report c.words c.bytes rows) n rows c.kept_now) (sym by.1) (keeps c rows known by.0 by.2)
