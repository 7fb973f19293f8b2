-- In every state of a run the audit's recoveries don't overlap, and each of them counts at a restart.
use Rattle.std.proofs.Common.{◌≡◌, ◌∙◌, ℕ, ◌<◌, ◌≤◌, Bool, true, false, leb, List, [], ◌∷◌, get_or, length, map, refl, sym, ap, subst, inl, inr, Option, arith, Some, None, All, ◌==◌, ◌&&◌, nat_lt, if◌then◌else◌, IfSome}
use Rattle.run_laws.proofs.Prelude.{Act, All-head, All-map, All-push, All-tail, All-weaker, AuditState, BeginApartInTurn, BeginInTurn, Begins}
use Rattle.run_laws.proofs.Prelude.{CanBegin, ComesTo, Ending, IsAct, IsApart, IsScenario, IsTurn, Moment, Ready, Recovery, Row, Scenario, ServerNo}
use Rattle.run_laws.proofs.Prelude.{State, Turn, acked_so, acknowledged, acknowledged-apart, acknowledged_for, act-fits, act_in, after_act}
use Rattle.run_laws.proofs.Prelude.{after_done, apart-after, are_known, as_row, audit_after, begun, both_true, closed, closed-apart, closed_by-next}
use Rattle.run_laws.proofs.Prelude.{closing_of, command_outcome, counts, ended_so, ending_servers, engine, entries_of, greatest, greatest_id}
use Rattle.run_laws.proofs.Prelude.{interrupted, interrupted_at, is_end_in_range, is_in_range, is_of, is_unended, known_of, last_given, later, le-leb}
use Rattle.run_laws.proofs.Prelude.{leb-true, loaded_audit, longest_block, moment-within, one_known, opened-is, period_by, period_of}
use Rattle.run_laws.proofs.Prelude.{recoveries_begun, recoveries_scanned, reloaded-most, reloaded_audit, reloaded_moment, run_turns, short-in, start}
use Rattle.run_laws.proofs.Prelude.{start_moment, start_rows, step, turned_at, turns_of, updated}
use Rattle.run_laws.proofs.Prelude.act
use Rattle.run_laws.proofs.Prelude.ending
use Rattle.run_laws.proofs.Prelude.kept_row as row
use Rattle.run_laws.proofs.Prelude.turn
use Rattle.run_laws.proofs.Readiness.{Ready-start, Ready-step}
use Rattle.run_laws.proofs.Ready.{settings-count}
use Rattle.run_laws.proofs.Beginnings.{began-then, next-after, turn-apart, turn-can}
use Rattle.run_laws.proofs.Closings.{end-apart, ended-map, ended_as, ended_in, ended_with, turned-ends}
use Rattle.run_laws.proofs.Loads.{audit-of, counted-counts}
use Rattle.run_laws.proofs.Logged.{Becomes, command-becomes}
use Rattle.run_laws.proofs.Periods.{short-by}

-- ---- recoveries that count, whatever their ids

-- their servers are there, and their moments in their range
pub record IsKnown (count : ℕ) (r : Recovery) : Type 0 where
  pub servers : are_known count (r.failed.0 ∷ ending_servers r.outcome) ≡ true
  pub begins : r.begun.0 ≤ greatest
  pub ends : is_end_in_range r.ended ≡ true

module _ (count : ℕ) where
  -- of a row that counts
  known-of : (last : ℕ) (r : Recovery) → counts count last (row.Recovery (as_row r)) ≡ true → IsKnown count r
  known-of last r is =
      let parts = both_true (are_known count (r.failed.0 ∷ ending_servers r.outcome)) (is_in_range last (row.Recovery (as_row r))) is in
      let moments = (both_true (leb 1 r.id && leb r.id last) (leb r.begun.0 greatest && (is_end_in_range r.ended && leb r.block longest_block)) parts.1).1 in
      let both = both_true (leb r.begun.0 greatest) (is_end_in_range r.ended && leb r.block longest_block) moments in
      let ends = both_true (is_end_in_range r.ended) (leb r.block longest_block) both.1 in
      record { servers = parts.0; begins = leb-true r.begun.0 greatest both.0; ends = ends.0 }

  -- and back
  known-counts : (last : ℕ) (r : Recovery) → IsKnown count r → 1 ≤ r.id → r.id ≤ last → r.block ≤ longest_block → counts count last (row.Recovery (as_row r)) ≡ true
  known-counts last r is low high short = λ i.
      is.servers i && ((le-leb 1 r.id low i && le-leb r.id last high i) && (le-leb r.begun.0 greatest is.begins i && (is.ends i && le-leb r.block longest_block short i)))

  -- with an end by servers that are there, at a moment in its range
  known-ended : (now : Moment) (e : Ending) (r : Recovery) → now.0 ≤ greatest → are_known count (ending_servers e) ≡ true → IsKnown count r → IsKnown count (ended_so now e r)
  known-ended now e r most there is = record {
    servers = λ i. (both_true (nat_lt r.failed.0 count) (are_known count (ending_servers r.outcome)) is.servers).0 i && there i;
    begins = is.begins;
    ends = le-leb now.0 greatest most;
  }

  known-acked : (r : Recovery) → IsKnown count r → IsKnown count (acked_so r)
  known-acked r is = record { servers = is.servers; begins = is.begins; ends = is.ends }

  known-mapped : (f : Recovery → Recovery) → ((r : Recovery) → IsKnown count r → IsKnown count (f r)) → (xs : List Recovery) → All (IsKnown count) xs → All (IsKnown count) (map f xs)
  known-mapped f stays xs all = All-map (IsKnown count) f xs (All-weaker (IsKnown count) (λ r. IsKnown count (f r)) stays xs all)

  known-interrupted : (a : AuditState) (now : Moment) → now.0 ≤ greatest → All (IsKnown count) a.recoveries → All (IsKnown count) (closed a now).recoveries
  known-interrupted a now most all = known-mapped (interrupted now) (λ r is. one r (is_unended r) is) a.recoveries all
    where
      one : (r : Recovery) (b : Bool) → IsKnown count r → IsKnown count (if b then ended_so now ending.Interrupted r else r)
      one r true is = known-ended now ending.Interrupted r most refl is
      one r false is = is

  known-acknowledged : (a : AuditState) (cluster : List ℕ) → All (IsKnown count) a.recoveries → All (IsKnown count) (acknowledged a cluster).recoveries
  known-acknowledged a cluster all = known-mapped (acknowledged_for cluster) (λ r is. one r (is_of cluster r) is) a.recoveries all
    where
      one : (r : Recovery) (b : Bool) → IsKnown count r → IsKnown count (if b then record r { acked = true } else r)
      one r true is = known-acked r is
      one r false is = is

  known-end : (a : AuditState) (now : Moment) (id : ℕ) (e : Ending) (acked : Bool) → now.0 ≤ greatest → are_known count (ending_servers e) ≡ true → All (IsKnown count) a.recoveries
      → All (IsKnown count) (ended_with a now id e acked).recoveries
  known-end a now id e acked most there all =
      subst (λ (x : AuditState). All (IsKnown count) x.recoveries) (sym (ended-map now id e a acked)) (known-mapped (ended_in now id e acked) (λ r is. one r (r.id == id) is) a.recoveries all)
    where
      so : (r : Recovery) (b : Bool) → IsKnown count r → IsKnown count (if b then acked_so (ended_so now e r) else ended_so now e r)
      so r true is = known-acked (ended_so now e r) (known-ended now e r most there is)
      so r false is = known-ended now e r most there is

      one : (r : Recovery) (b : Bool) → IsKnown count r → IsKnown count (if b then ended_as now e acked r else r)
      one r true is = so r acked is
      one r false is = is

  -- one that begins is of a server of its list, and has no end
  known-entry : (n : ℕ) (leases : List (Option ℕ)) (a : AuditState) (last : ℕ) (now : Moment) (x : Begins) → n ≡ count → now.0 ≤ greatest → CanBegin n leases a last x → x.entry.begun ≡ now → IsKnown count x.entry
  known-entry n leases a last now x same most can at = record {
    servers = subst (λ (k : ℕ). are_known k (x.entry.failed.0 ∷ ending_servers x.entry.outcome) ≡ true) same
        (subst (λ (e : Ending). are_known n (x.entry.failed.0 ∷ ending_servers e) ≡ true) (sym can.outcome) (one_known n x.entry.failed.0 there));
    begins = subst (λ (m : Moment). m.0 ≤ greatest) (sym at) most;
    ends = ap is_end_in_range can.ended;
  }
    where
      first : x.job.failed.0 < n
      first = All-head (λ (k : ServerNo). k.0 < n) x.job.failed x.job.replicas (subst (λ (ks : List ServerNo). All (λ (k : ServerNo). k.0 < n) ks) can.list can.within)

      there : x.entry.failed.0 < n
      there = subst (λ (k : ServerNo). k.0 < n) (sym can.failed) first

  known-after : (n : ℕ) (leases : List (Option ℕ)) (a : AuditState) (last : ℕ) (now : Moment) (xs : List Begins) → n ≡ count → now.0 ≤ greatest → BeginInTurn n leases a last xs → All (λ x. x.entry.begun ≡ now) xs
      → All (IsKnown count) a.recoveries → All (IsKnown count) (audit_after a xs).recoveries
  known-after n leases a last now [] same most each at all = all
  known-after n leases a last now (x ∷ xs) same most each at all =
      known-after n _ (begun a x.entry) x.job.core.id now xs same most each.1 (All-tail (λ (y : Begins). y.entry.begun ≡ now) x xs at)
      (All-push (IsKnown count) a.recoveries x.entry all (known-entry n leases a last now x same most each.0 (All-head (λ (y : Begins). y.entry.begun ≡ now) x xs at)))

-- ---- the moment

later-most : (now seconds : ℕ) → later now seconds ≤ greatest
later-most now seconds = omega arith

-- a restart raises it within its range
moment-reloaded : (rows : List Row) (s : State) → s.moment ≤ greatest → reloaded_moment rows s ≤ greatest
moment-reloaded rows s most = reloaded-most (period_by s.configuration) (length s.book.settings) (last_given s) s.moment rows most

act-moment : (rows : List Row) (s : State) (a : Act) → s.moment ≤ greatest → (after_act rows s a).moment ≤ greatest
act-moment rows s act.Restart most = moment-reloaded rows s most
act-moment rows s _ most = most

done-moment : (rows : List Row) (s : State) (o : Option Act) → s.moment ≤ greatest → (after_done rows s o).moment ≤ greatest
done-moment rows s None most = most
done-moment rows s (Some a) most = act-moment rows s a most

-- the moment never passes the end of its range
pub moment-stays : (rows : List Row) (s : State) (t : Turn) → s.moment ≤ greatest → (step rows s t).moment ≤ greatest
moment-stays rows s (turn.Tick seconds) most = later-most s.moment seconds
moment-stays rows s (turn.Act a) most = act-moment rows s a most
moment-stays rows s (turn.As node a) most = done-moment rows s (act_in s (turn.As node a)) most
moment-stays rows s (turn.Claim node) most = done-moment rows s (act_in s (turn.Claim node)) most
moment-stays rows s _ most = most

-- ---- each turn

-- what holds of each state of a run
pub record IsReckoned (count : ℕ) (s : State) : Type 0 where
  pub ready : Ready count s
  pub moment : s.moment ≤ greatest
  pub apart : IsApart s.audit
  pub known : All (IsKnown count) s.audit.recoveries

-- of the audit
record IsLogged (count : ℕ) (a : AuditState) : Type 0 where
  apart : IsApart a
  known : All (IsKnown count) a.recoveries

logged-becomes : (count : ℕ) (s : State) (xs : List Begins) (a : AuditState) → IsReckoned count s → BeginInTurn (length s.book.names) s.book.leases s.audit s.last_job xs
    → BeginApartInTurn (record { 0 = s.moment }) s.audit (entries_of xs) → Becomes s.audit xs a → IsLogged count a
logged-becomes count s xs a is each apart (inl (cluster, same, none)) =
    subst (IsLogged count) (sym same) (record { apart = acknowledged-apart s.audit cluster is.apart; known = known-acknowledged count s.audit cluster is.known })
logged-becomes count s xs a is each apart (inr same) =
    let now : Moment = record { 0 = s.moment } in
    subst (IsLogged count) (sym same) (record {
      apart = apart-after (length s.book.names) s.book.leases s.audit s.last_job xs each is.apart;
      known = known-after count (length s.book.names) s.book.leases s.audit s.last_job now xs is.ready.names is.moment each (began-then now s.audit xs apart) is.known;
    })

logged-restart : (count : ℕ) (rows : List Row) (s : State) → IsReckoned count s → IsLogged count (closed (reloaded_audit rows s) (interrupted_at rows s))
logged-restart count rows s is =
    let first = is.apart.audit.first in
    let settings : length s.book.settings ≡ count = settings-count s.book is.ready.book ∙ is.ready.names in
    let period = period_by s.configuration in
    let short = short-by s.configuration is.ready.periods in
    record {
      apart = closed-apart (reloaded_audit rows s) (interrupted_at rows s) (audit-of (length s.book.settings) (last_given s) period short s.audit.next rows first (omega (arith, first)));
      known = known-interrupted count (reloaded_audit rows s) (interrupted_at rows s) (moment-reloaded rows s is.moment)
          (All-weaker (λ (r : Recovery). counts (length s.book.settings) (last_given s) (row.Recovery (as_row r)) ≡ true) (IsKnown count)
          (λ r here. known-of count (last_given s) r (subst (λ (n : ℕ). counts n (last_given s) (row.Recovery (as_row r)) ≡ true) settings here))
          (reloaded_audit rows s).recoveries (counted-counts (length s.book.settings) (last_given s) period short rows));
    }

logged-act : (count : ℕ) (rows : List Row) (s : State) (a : Act) → IsReckoned count s → IsAct count a → IsLogged count (after_act rows s a).audit
logged-act count rows s (act.PollRead p n) is fits = record { apart = is.apart; known = is.known }
logged-act count rows s (act.PollStore p) is fits = record { apart = is.apart; known = is.known }
logged-act count rows s (act.Command c) is fits =
    logged-becomes count s (recoveries_begun s (turn.Act (act.Command c))) (updated (known_of s) (command_outcome s c).book).audit is (turn-can count s (turn.Act (act.Command c)) is.ready fits)
    (turn-apart s (turn.Act (act.Command c))) (command-becomes s c)
logged-act count rows s (act.Job job) is fits =
    let now : Moment = record { 0 = s.moment } in
    turned-ends count s job (λ a cs. IsLogged count a) (record { apart = is.apart; known = is.known })
    (λ id e acked closes there. record { apart = end-apart now id e s.audit acked closes is.apart; known = known-end count s.audit now id e acked is.moment (there is.ready) is.known })
logged-act count rows s act.Scan is fits =
    logged-becomes count s (recoveries_scanned s) (audit_after s.audit (recoveries_scanned s)) is (turn-can count s (turn.Act act.Scan) is.ready fits) (turn-apart s (turn.Act act.Scan)) (inr refl)
logged-act count rows s act.Restart is fits = logged-restart count rows s is

logged-done : (count : ℕ) (rows : List Row) (s : State) (o : Option Act) → IsReckoned count s → IfSome o (IsAct count) → IsLogged count (after_done rows s o).audit
logged-done count rows s None is fits = record { apart = is.apart; known = is.known }
logged-done count rows s (Some a) is fits = logged-act count rows s a is fits

logged-step : (count : ℕ) (rows : List Row) (s : State) (t : Turn) → IsReckoned count s → IsTurn count t → IsLogged count (step rows s t).audit
logged-step count rows s (turn.Act a) is fits = logged-act count rows s a is fits
logged-step count rows s (turn.As node a) is fits = logged-done count rows s (act_in s (turn.As node a)) is (act-fits count s (turn.As node a) fits)
logged-step count rows s (turn.Claim node) is fits = logged-done count rows s (act_in s (turn.Claim node)) is (act-fits count s (turn.Claim node) fits)
logged-step count rows s _ is fits = record { apart = is.apart; known = is.known }

pub reckoned-step : (count : ℕ) (rows : List Row) (s : State) (t : Turn) → IsReckoned count s → IsTurn count t → IsReckoned count (step rows s t)
reckoned-step count rows s t is fits =
    let logged = logged-step count rows s t is fits in
    record { ready = Ready-step count rows s t is.ready fits; moment = moment-stays rows s t is.moment; apart = logged.apart; known = logged.known }

reckoned-run : (count : ℕ) (s : State) (xs : List (List Row × Turn)) → All (IsTurn count) (turns_of xs) → IsReckoned count s → IsReckoned count (run_turns engine s xs)
reckoned-run count s [] all is = is
reckoned-run count s (x ∷ xs) all is =
    reckoned-run count (step x.0 s x.1) xs (All-tail (IsTurn count) x.1 (turns_of xs) all) (reckoned-step count x.0 s x.1 is (All-head (IsTurn count) x.1 (turns_of xs) all))

pub reckoned-start : (s : Scenario) (wait : ℕ) (rows : List Row) → IsScenario s → IsReckoned (length s.opening.servers) (start s wait rows)
reckoned-start s wait rows is =
    let n = length s.opening.servers in
    let most = moment-within s rows (start_rows s rows) (start_moment s rows).0 is refl refl in
    record {
      ready = Ready-start s wait rows is;
      moment = most;
      apart = closed-apart (loaded_audit s rows) (start_moment s rows) (opened-is s rows is);
      known = known-interrupted n (loaded_audit s rows) (start_moment s rows) most
          (All-weaker (λ (r : Recovery). counts n greatest_id (row.Recovery (as_row r)) ≡ true) (IsKnown n) (known-of n greatest_id) (loaded_audit s rows).recoveries
          (counted-counts n greatest_id (period_of s) (λ cluster. short-in s.blocks s.block cluster is.blocks is.block) rows));
    }

pub reckoned-comes : (s : Scenario) (xs : List (List Row × Turn)) (now : State) → ComesTo s xs now → IsReckoned (length s.opening.servers) now
reckoned-comes s xs now comes =
    subst (IsReckoned (length s.opening.servers)) (sym comes.state)
    (reckoned-run (length s.opening.servers) (start s comes.wait comes.rows) xs comes.turns (reckoned-start s comes.wait comes.rows comes.scenario))

pub apart-comes : (s : Scenario) (xs : List (List Row × Turn)) (now : State) → ComesTo s xs now → IsApart now.audit
apart-comes s xs now comes = (reckoned-comes s xs now comes).apart

-- each recovery of the audit counts at a restart
pub counting-recoveries : (count : ℕ) (s : State) → IsReckoned count s → All (λ r. counts count (last_given s) (row.Recovery (as_row r)) ≡ true) s.audit.recoveries
counting-recoveries count s is k d within =
    let r = get_or s.audit.recoveries k d in
    let low = is.apart.audit.above k d within in
    let high = is.apart.audit.below k d within in
    known-counts count (last_given s) r (is.known k d within) low (omega (arith, high)) (is.apart.audit.short k d within)

pub counts-comes : (s : Scenario) (xs : List (List Row × Turn)) (now : State) → ComesTo s xs now → All (λ r. counts (length s.opening.servers) (last_given now) (row.Recovery (as_row r)) ≡ true) now.audit.recoveries
counts-comes s xs now comes = counting-recoveries (length s.opening.servers) now (reckoned-comes s xs now comes)

-- ---- ids go on

next-becomes : (s : State) (xs : List Begins) (a : AuditState) → BeginApartInTurn (record { 0 = s.moment }) s.audit (entries_of xs) → Becomes s.audit xs a → s.audit.next ≤ a.next
next-becomes s xs a apart (inl (cluster, same, none)) = let next : a.next ≡ s.audit.next = ap (λ (x : AuditState). x.next) same in omega (arith, next)
next-becomes s xs a apart (inr same) =
    let next : a.next ≡ (audit_after s.audit xs).next = ap (λ (x : AuditState). x.next) same in
    let more = next-after (record { 0 = s.moment }) s.audit xs apart in
    omega (arith, next, more)

act-goes-on : (rows : List Row) (s : State) (a : Act) → s.audit.next ≤ (after_act rows s a).audit.next
act-goes-on rows s (act.Command c) =
    next-becomes s (recoveries_begun s (turn.Act (act.Command c))) (updated (known_of s) (command_outcome s c).book).audit (turn-apart s (turn.Act (act.Command c))) (command-becomes s c)
act-goes-on rows s (act.Job job) = let same = closed_by-next s.audit (record { 0 = s.moment }) (closing_of (turned_at s job)) in omega (arith, same)
act-goes-on rows s act.Scan = next-after (record { 0 = s.moment }) s.audit (recoveries_scanned s) (turn-apart s (turn.Act act.Scan))
act-goes-on rows s _ = omega arith

done-goes-on : (rows : List Row) (s : State) (o : Option Act) → s.audit.next ≤ (after_done rows s o).audit.next
done-goes-on rows s None = omega arith
done-goes-on rows s (Some a) = act-goes-on rows s a

pub next-goes-on : (rows : List Row) (s : State) (t : Turn) → s.audit.next ≤ (step rows s t).audit.next
next-goes-on rows s (turn.Act a) = act-goes-on rows s a
next-goes-on rows s (turn.As node a) = done-goes-on rows s (act_in s (turn.As node a))
next-goes-on rows s (turn.Claim node) = done-goes-on rows s (act_in s (turn.Claim node))
next-goes-on rows s _ = omega arith
