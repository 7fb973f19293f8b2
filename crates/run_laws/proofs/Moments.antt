-- Time passes by ticks alone, no recovery is of a later moment, and the numbers of jobs rise.
use Rattle.std.proofs.Common.{All, Bool, IfSome, List, None, Option, Some, [], ap, arith, false, inl, inr, length, map, max, refl, subst, sym, true, ℕ, ◌+◌, ◌==◌, ◌∷◌, ◌≡◌, ◌≢◌, ◌≤◌, fold, if◌then◌else◌}
use Rattle.run_laws.proofs.Prelude.{Act, All-cons, All-head, All-map, All-nil, All-push, All-tail, All-weaker, AuditState, BeginApartInTurn}
use Rattle.run_laws.proofs.Prelude.{BeginInTurn, Begins as RecoveryBegins, ComesTo, Ending, IsAct, IsPast, IsTurn, JobsRise, LastJobNeverSinks}
use Rattle.run_laws.proofs.Prelude.{Moment, NothingIsToCome, PassesTime, Recovery, Row, Scenario, State, Turn, acked_so, acknowledged}
use Rattle.run_laws.proofs.Prelude.{acknowledged_for, act-fits, act_asks, act_in, after_act, after_done, after_restart, asks, audit_after, begun}
use Rattle.run_laws.proofs.Prelude.{closed, command_outcome, done_asks, end_or, ended_so, engine, entries_of, interrupted, interrupted_at, is_of}
use Rattle.run_laws.proofs.Prelude.{is_unended, job-number, known_of, later, latest_recovery, loaded_audit, loaded_by, period_of, recoveries_begun}
use Rattle.run_laws.proofs.Prelude.{recoveries_in, recoveries_scanned, reloaded_audit, reloaded_moment, row_raised, run_turns, start, start_moment}
use Rattle.run_laws.proofs.Prelude.{start_rows, step, turns_of, updated}
use Rattle.run_laws.proofs.Prelude.act
use Rattle.run_laws.proofs.Prelude.ending
use Rattle.run_laws.proofs.Prelude.kept_row
use Rattle.run_laws.proofs.Prelude.turn
use Rattle.run_laws.proofs.Beginnings.{began-then, turn-apart, turn-can}
use Rattle.run_laws.proofs.Closings.{ended-map, ended_as, ended_in, ended_with, turned-ends}
use Rattle.run_laws.proofs.Counting.{IsReckoned, reckoned-start, reckoned-step}
use Rattle.run_laws.proofs.JobEntries.{paired-comes}
use Rattle.run_laws.proofs.Lines.{scanned-counts}
use Rattle.run_laws.proofs.Logged.{Becomes, command-becomes}
use Rattle.run_laws.proofs.Making.{command-holds}
use Rattle.run_laws.proofs.NodeClaims.{act-later, done-later, raised, tick-later}

-- ---- time

act-still : (rows : List Row) (s : State) (a : Act) → act_asks a ≡ false → (after_act rows s a).moment ≡ s.moment
act-still rows s act.Restart plain = cc
act-still rows s _ plain = refl

done-still : (rows : List Row) (s : State) (o : Option Act) → done_asks o ≡ false → (after_done rows s o).moment ≡ s.moment
done-still rows s None plain = refl
done-still rows s (Some a) plain = act-still rows s a plain

turn-still : (rows : List Row) (s : State) (t : Turn) → asks s t ≡ false → ((seconds : ℕ) → t ≢ turn.Tick seconds) → (step rows s t).moment ≡ s.moment
turn-still rows s (turn.Tick seconds) plain apart = absurd (apart seconds refl)
turn-still rows s (turn.Act a) plain apart = act-still rows s a plain
turn-still rows s (turn.As node a) plain apart = done-still rows s (act_in s (turn.As node a)) plain
turn-still rows s (turn.Claim node) plain apart = done-still rows s (act_in s (turn.Claim node)) plain
turn-still rows s _ plain apart = refl

turn-later : (rows : List Row) (s : State) (t : Turn) → asks s t ≡ true → s.moment ≤ (step rows s t).moment
turn-later rows s (turn.Act a) asking = act-later rows s a
turn-later rows s (turn.As node a) asking = done-later rows s (act_in s (turn.As node a))
turn-later rows s (turn.Claim node) asking = done-later rows s (act_in s (turn.Claim node))
turn-later rows s _ asking = absurd cc

pub passes-time : (s : State) (t : Turn) → PassesTime s t
passes-time s t = record {
  tick = λ rows seconds is. ap (λ (u : Turn). (step rows s u).moment) is;
  still = λ rows plain apart. turn-still rows s t plain apart;
  restart = λ rows asking. turn-later rows s t asking;
}

-- ---- recoveries of the past

past-later : (now later : ℕ) → now ≤ later → (r : Recovery) → IsPast now r → IsPast later r
past-later now later more r is = record { begun = let h = is.begun in omega (arith, h, more); ended = go r.ended is.ended }
  where
    go : (o : Option Moment) → IfSome o (λ e. e.0 ≤ now) → IfSome o (λ e. e.0 ≤ later)
    go None h = tt
    go (Some e) h = omega (arith, h, more)

module _ (now : ℕ) where
  abbrev Past : Recovery → Type 0
  Past r = IsPast now r

  past-ended : (at : Moment) (e : Ending) (r : Recovery) → at.0 ≤ now → Past r → Past (ended_so at e r)
  past-ended at e r most is = record { begun = is.begun; ended = most }

  past-acked : (r : Recovery) → Past r → Past (acked_so r)
  past-acked r is = record { begun = is.begun; ended = is.ended }

  past-mapped : (f : Recovery → Recovery) → ((r : Recovery) → Past r → Past (f r)) → (xs : List Recovery) → All Past xs → All Past (map f xs)
  past-mapped f stays xs all = All-map Past f xs (All-weaker Past (λ r. Past (f r)) stays xs all)

  past-interrupted : (a : AuditState) (at : Moment) → at.0 ≤ now → All Past a.recoveries → All Past (closed a at).recoveries
  past-interrupted a at most all = past-mapped (interrupted at) (λ r is. one r (is_unended r) is) a.recoveries all
    where
      one : (r : Recovery) (b : Bool) → Past r → Past (if b then ended_so at ending.Interrupted r else r)
      one r true is = past-ended at ending.Interrupted r most is
      one r false is = is

  past-acknowledged : (a : AuditState) (cluster : List ℕ) → All Past a.recoveries → All Past (acknowledged a cluster).recoveries
  past-acknowledged a cluster all = past-mapped (acknowledged_for cluster) (λ r is. one r (is_of cluster r) is) a.recoveries all
    where
      one : (r : Recovery) (b : Bool) → Past r → Past (if b then record r { acked = true } else r)
      one r true is = past-acked r is
      one r false is = is

  past-end : (a : AuditState) (at : Moment) (id : ℕ) (e : Ending) (acked : Bool) → at.0 ≤ now → All Past a.recoveries → All Past (ended_with a at id e acked).recoveries
  past-end a at id e acked most all = subst (λ (x : AuditState). All Past x.recoveries) (sym (ended-map at id e a acked)) (past-mapped (ended_in at id e acked) (λ r is. one r (r.id == id) is) a.recoveries all)
    where
      so : (r : Recovery) (b : Bool) → Past r → Past (if b then acked_so (ended_so at e r) else ended_so at e r)
      so r true is = past-acked (ended_so at e r) (past-ended at e r most is)
      so r false is = past-ended at e r most is

      one : (r : Recovery) (b : Bool) → Past r → Past (if b then ended_as at e acked r else r)
      one r true is = so r acked is
      one r false is = is

  -- what begins has no end
  past-begun : (x : RecoveryBegins) → x.entry.begun ≡ record { 0 = now } → x.entry.ended ≡ None → Past x.entry
  past-begun x at open_ = record {
    begun = let same : x.entry.begun.0 ≡ now = ap (λ (m : Moment). m.0) at in omega (arith, same);
    ended = subst (λ (o : Option Moment). IfSome o (λ e. e.0 ≤ now)) (sym open_) tt;
  }

  past-after : (n : ℕ) (leases : List (Option ℕ)) (a : AuditState) (last : ℕ) (xs : List RecoveryBegins) → BeginInTurn n leases a last xs → All (λ x. x.entry.begun ≡ record { 0 = now }) xs → All Past a.recoveries
      → All Past (audit_after a xs).recoveries
  past-after n leases a last [] each at all = all
  past-after n leases a last (x ∷ xs) each at all =
      past-after n _ (begun a x.entry) x.job.core.id xs each.1 (All-tail (λ (y : RecoveryBegins). y.entry.begun ≡ record { 0 = now }) x xs at)
      (All-push Past a.recoveries x.entry all (past-begun x (All-head (λ (y : RecoveryBegins). y.entry.begun ≡ record { 0 = now }) x xs at) each.0.ended))

-- ---- rows that are loaded

raised-more : (now : ℕ) (o : Option Moment) → now ≤ end_or now o
raised-more now None = omega arith
raised-more now (Some e) = omega arith

row-more : (now : ℕ) (r : Row) → now ≤ row_raised now r
row-more now (kept_row.Instance i) = omega arith
row-more now (kept_row.Downtime d) = omega arith
row-more now (kept_row.Recovery k) = let more = raised-more (max now k.begun.0) k.ended in omega (arith, more)
row-more now _ = omega arith

rows-more : (now : ℕ) (rows : List Row) → now ≤ fold row_raised now rows
rows-more now [] = omega arith
rows-more now (r ∷ rows) = let here = row-more now r in let rest = rows-more (row_raised now r) rows in omega (arith, here, rest)

-- as a moment is raised to an end, the end is by it
ended-by : (now most : ℕ) (o : Option Moment) → end_or now o ≤ most → IfSome o (λ e. e.0 ≤ most)
ended-by now most None h = tt
ended-by now most (Some e) h = omega (arith, h)

module _ (period : List ℕ → ℕ) (most : ℕ) where
  rows-past : (now : ℕ) (rows : List Row) → fold row_raised now rows ≤ most → All (IsPast most) (recoveries_in period rows)
  rows-past now [] h = All-nil (IsPast most)
  rows-past now (kept_row.Instance i ∷ rows) h = rows-past now rows h
  rows-past now (kept_row.Downtime d ∷ rows) h = rows-past (max now d.begun.0) rows h
  rows-past now (kept_row.Candidate c ∷ rows) h = rows-past now rows h
  rows-past now (kept_row.Switch e ∷ rows) h = rows-past now rows h
  rows-past now (kept_row.Active node end ∷ rows) h = rows-past now rows h
  rows-past now (kept_row.Recovery k ∷ rows) h =
      let rest = rows-more (end_or (max now k.begun.0) k.ended) rows in
      let first = raised-more (max now k.begun.0) k.ended in
      All-cons (IsPast most) (loaded_by period k) (recoveries_in period rows)
      (record { begun = omega (arith, h, rest, first); ended = ended-by (max now k.begun.0) most k.ended (omega (arith, h, rest)) })
      (rows-past (end_or (max now k.begun.0) k.ended) rows h)

recoveries-past : (most now : ℕ) (rs : List Recovery) → latest_recovery now rs ≤ most → All (IsPast most) rs
recoveries-past most now [] h = All-nil (IsPast most)
recoveries-past most now (r ∷ rs) h =
    let rest = raised (end_or (max now r.begun.0) r.ended) rs in
    let first = raised-more (max now r.begun.0) r.ended in
    All-cons (IsPast most) r rs
    (record { begun = omega (arith, h, rest, first); ended = ended-by (max now r.begun.0) most r.ended (omega (arith, h, rest)) })
    (recoveries-past most (end_or (max now r.begun.0) r.ended) rs h)

-- ---- each turn

past-start : (s : Scenario) (wait : ℕ) (rows : List Row) → NothingIsToCome (start s wait rows)
past-start s wait rows =
    let most = (start_moment s rows).0 in
    past-interrupted most (loaded_audit s rows) (start_moment s rows) (omega arith) (rows-past (period_of s) most s.moment.0 (start_rows s rows) (omega arith))

past-restart : (rows : List Row) (s : State) → NothingIsToCome (after_restart rows s)
past-restart rows s =
    let most = reloaded_moment rows s in
    past-interrupted most (reloaded_audit rows s) (interrupted_at rows s) (omega arith) (recoveries-past most s.moment (reloaded_audit rows s).recoveries (omega arith))

past-becomes : (s : State) (xs : List RecoveryBegins) (a : AuditState) → NothingIsToCome s → BeginInTurn (length s.book.names) s.book.leases s.audit s.last_job xs
    → BeginApartInTurn (record { 0 = s.moment }) s.audit (entries_of xs) → Becomes s.audit xs a → All (IsPast s.moment) a.recoveries
past-becomes s xs a is each apart (inl (cluster, same, none)) = subst (λ (x : AuditState). All (IsPast s.moment) x.recoveries) (sym same) (past-acknowledged s.moment s.audit cluster is)
past-becomes s xs a is each apart (inr same) =
    subst (λ (x : AuditState). All (IsPast s.moment) x.recoveries) (sym same)
    (past-after s.moment (length s.book.names) s.book.leases s.audit s.last_job xs each (began-then (record { 0 = s.moment }) s.audit xs apart) is)

past-act : (count : ℕ) (rows : List Row) (s : State) (a : Act) → IsReckoned count s → IsAct count a → NothingIsToCome s → NothingIsToCome (after_act rows s a)
past-act count rows s (act.PollRead p n) ready fits is = is
past-act count rows s (act.PollStore p) ready fits is = is
past-act count rows s (act.Command c) ready fits is =
    past-becomes s (recoveries_begun s (turn.Act (act.Command c))) (updated (known_of s) (command_outcome s c).book).audit is (turn-can count s (turn.Act (act.Command c)) ready.ready fits)
    (turn-apart s (turn.Act (act.Command c))) (command-becomes s c)
past-act count rows s (act.Job job) ready fits is =
    turned-ends count s job (λ a cs. All (IsPast s.moment) a.recoveries) is (λ id e acked closes there. past-end s.moment s.audit (record { 0 = s.moment }) id e acked (omega arith) is)
past-act count rows s act.Scan ready fits is =
    past-becomes s (recoveries_scanned s) (audit_after s.audit (recoveries_scanned s)) is (turn-can count s (turn.Act act.Scan) ready.ready fits) (turn-apart s (turn.Act act.Scan)) (inr refl)
past-act count rows s act.Restart ready fits is = past-restart rows s

past-done : (count : ℕ) (rows : List Row) (s : State) (o : Option Act) → IsReckoned count s → IfSome o (IsAct count) → NothingIsToCome s → NothingIsToCome (after_done rows s o)
past-done count rows s None ready fits is = is
past-done count rows s (Some a) ready fits is = past-act count rows s a ready fits is

past-step : (count : ℕ) (rows : List Row) (s : State) (t : Turn) → IsReckoned count s → IsTurn count t → NothingIsToCome s → NothingIsToCome (step rows s t)
past-step count rows s (turn.Tick seconds) ready fits is =
    All-weaker (IsPast s.moment) (IsPast (later s.moment seconds)) (past-later s.moment (later s.moment seconds) (tick-later s.moment seconds ready.moment)) s.audit.recoveries is
past-step count rows s (turn.Act a) ready fits is = past-act count rows s a ready fits is
past-step count rows s (turn.As node a) ready fits is = past-done count rows s (act_in s (turn.As node a)) ready (act-fits count s (turn.As node a) fits) is
past-step count rows s (turn.Claim node) ready fits is = past-done count rows s (act_in s (turn.Claim node)) ready (act-fits count s (turn.Claim node) fits) is
past-step count rows s _ ready fits is = is

past-run : (count : ℕ) (s : State) (xs : List (List Row × Turn)) → All (IsTurn count) (turns_of xs) → IsReckoned count s → NothingIsToCome s → NothingIsToCome (run_turns engine s xs)
past-run count s [] all ready is = is
past-run count s (x ∷ xs) all ready is =
    let fits = All-head (IsTurn count) x.1 (turns_of xs) all in
    past-run count (step x.0 s x.1) xs (All-tail (IsTurn count) x.1 (turns_of xs) all) (reckoned-step count x.0 s x.1 ready fits) (past-step count x.0 s x.1 ready fits is)

pub past-comes : (s : Scenario) (xs : List (List Row × Turn)) (now : State) → ComesTo s xs now → NothingIsToCome now
past-comes s xs now comes =
    subst NothingIsToCome (sym comes.state)
    (past-run (length s.opening.servers) (start s comes.wait comes.rows) xs comes.turns (reckoned-start s comes.wait comes.rows comes.scenario) (past-start s comes.wait comes.rows))

-- ---- the numbers of jobs

pub jobs-rise : (s : Scenario) (xs : List (List Row × Turn)) (now : State) → ComesTo s xs now → JobsRise now
jobs-rise s xs now comes = (paired-comes s xs now comes).rising

act-last : (rows : List Row) (s : State) (a : Act) → s.last_job ≤ (after_act rows s a).last_job
act-last rows s (act.Command c) = command-holds s c (λ reads u. s.last_job ≤ (updated (known_of s) u).last_job) (record {
  stays = omega arith;
  discovery = λ i. omega arith;
  removal = λ i. omega arith;
  decides = λ d. omega arith;
  begins = λ p. let number = job-number s.world s.book c.command p (s.last_job + 1) s.configuration.wait s.configuration.every in omega (arith, number);
  recovers = λ i. omega arith;
  takes = λ i d. omega arith;
})
act-last rows s act.Scan = let more = scanned-counts s in omega (arith, more)
act-last rows s _ = omega arith

done-last : (rows : List Row) (s : State) (o : Option Act) → s.last_job ≤ (after_done rows s o).last_job
done-last rows s None = omega arith
done-last rows s (Some a) = act-last rows s a

pub last-never-sinks : LastJobNeverSinks
last-never-sinks rows s (turn.Act a) = act-last rows s a
last-never-sinks rows s (turn.As node a) = done-last rows s (act_in s (turn.As node a))
last-never-sinks rows s (turn.Claim node) = done-last rows s (act_in s (turn.Claim node))
last-never-sinks rows s _ = omega arith
