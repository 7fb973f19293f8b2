-- Turns keep what holds of states.
use Rattle.std.proofs.Common.{◌≡◌, ℕ, ◌+◌, ◌<◌, ◌≤◌, ◌^◌, Bool, true, false, List, [], ◌∷◌, ◌++◌, length, Option, None, Some, refl, sym, ap, subst, ◌∙◌, arith, append-nil, All, min, IfSome, ◌&&◌, nat_lt, slice_set, fold, map, Ok, Err, if◌then◌else◌}
use Rattle.orch_core.proofs.Prelude.{All-nil, All-replicate, All-set, AllAllowed, AllJoinWell, AuditState, BookState, Change, HasSameServers}
use Rattle.orch_core.proofs.Prelude.{HaveEntries, Instance, IsAudit, IsSlot, IsState, IsStep, IsUnended, Moment, Observation, Rise, Row, Server}
use Rattle.orch_core.proofs.Prelude.{ServerNo, Settings, State, Status, StatusFault, Step, StepsTo, Turn, Unended, World, after_put, after_restart}
use Rattle.orch_core.proofs.Prelude.{after_row, are_known, audit-loaded, book_made, changed, closed, counted, empty_book, empty_slots, engine}
use Rattle.orch_core.proofs.Prelude.{exchange_of, instance_at, interrupted_at, kept_by, kept_if, kept_with, last_given, later, length-map}
use Rattle.orch_core.proofs.Prelude.{length-replicate, length-set, loaded, observed_servers, period_by, pollers, reading_by, reloaded_audit}
use Rattle.orch_core.proofs.Prelude.{reloaded_book, reloaded_moment, renewed, renewed_book, restart_changes, row_fits, run, same-put, seen_in}
use Rattle.orch_core.proofs.Prelude.{seen_purged, seen_servers, seen_set, server_at, source_at, source_servers, status, status_in, status_of}
use Rattle.orch_core.proofs.Prelude.{step as turn_step, stored, stored_over}
use Rattle.orch_core.proofs.Prelude.act
use Rattle.orch_core.proofs.Prelude.seeing
use Rattle.orch_core.proofs.Prelude.turn
use Rattle.orch_core.proofs.Prelude.turns_step as step
use Rattle.orch_core.proofs.Recoveries.{HasBegun, closed-begun, closed-is, counted-begun, reloaded-most}
use Rattle.orch_core.proofs.Periods.{period-short}
use Rattle.orch_core.proofs.Sources.{KnowsSources, source-at, sources-run}

-- a step's exchange is allowed, and is no attachment
pub Allowed-step : (count : ℕ) (w : World) (x : Step) → IsStep count x → AllAllowed w (exchange_of x ∷ []) × AllJoinWell w (exchange_of x ∷ [])
Allowed-step count w (step.Write n size) is = ((is.1, tt), (tt, tt))
Allowed-step count w _ is = ((tt, tt), (tt, tt))

min-most : (a most : ℕ) → min a most ≤ most
min-most a most = omega arith

lt_true : (m n : ℕ) → m < n → nat_lt m n ≡ true
lt_true m n h = grind arith

-- the servers that are named are known
pub one_known : (count n : ℕ) → n < count → are_known count (n ∷ []) ≡ true
one_known count n h = rw (lt_true n count h) refl

pub both_known : (count n : ℕ) (ns : List ℕ) → n < count → are_known count ns ≡ true → are_known count (n ∷ ns) ≡ true
both_known count n ns h rest = rw (lt_true n count h, rest) refl

seen_if : (w : World) (b : Bool) (x : Status) (fault : StatusFault) → are_known (length w.servers) (source_servers x.source) ≡ true
    → are_known (length w.servers) (seen_servers (seen_in (if b then Ok x else Err fault))) ≡ true
seen_if w true x fault known = known
seen_if w false x fault known = refl

seen_known : (w : World) (n : ℕ) (o : Option Server) → KnowsSources w.servers → server_at w n ≡ o → are_known (length w.servers) (seen_servers (seen_in (status_in w o))) ≡ true
seen_known w n None all at = refl
seen_known w n (Some s) all at = seen_if w (s.up && s.desk) (status_of s (source_at w s) (seen_set w s) (seen_purged w s)) seeing.Unreachable (source-at w.servers n s all at)

pub reading_known : (w : World) (n : ServerNo) (read now : ℕ) → KnowsSources w.servers → n.0 < length w.servers → are_known (length w.servers) (observed_servers (reading_by w n read now)) ≡ true
reading_known w n read now all within =
    both_known (length w.servers) n.0 (seen_servers (seen_in (status w n.0))) within (seen_known w n.0 (server_at w n.0) all refl)

-- no change of a book changes its names or its settings, and a loaded one has those of its settings

pub same-self : (b : BookState) → HasSameServers b b
same-self b = record { settings = refl; names = refl }

pub same-then : (a b c : BookState) → HasSameServers a b → HasSameServers b c → HasSameServers a c
same-then a b c first second = record { settings = second.settings ∙ first.settings; names = second.names ∙ first.names }

same-row : (b : BookState) (r : Row) → HasSameServers b (after_row b r)
same-row b r = go (row_fits (length b.names) r)
  where
    go : (fits : Bool) → HasSameServers b (if fits then after_put b r else b)
    go true = same-put b r
    go false = same-self b

same-rows : (b : BookState) (rows : List Row) → HasSameServers b (fold after_row b rows)
same-rows b [] = same-self b
same-rows b (r ∷ rows) = same-then b (after_row b r) (fold after_row (after_row b r) rows) (same-row b r) (same-rows (after_row b r) rows)

pub same-made : (settings : List Settings) (rows : List Row) → HasSameServers (empty_book settings) (book_made settings rows)
same-made settings rows = same-rows (empty_book settings) rows

pub names-loaded : (settings : List Settings) (last : ℕ) (rows : List Row) → (loaded settings last rows).names ≡ map (λ x. x.name) settings
names-loaded settings last rows = (same-made settings (counted (length settings) last rows)).names

pub same-over : (b : BookState) (o : Observation) (kept : Option Instance) → HasSameServers b (stored_over b o kept)
same-over b o None = same-self b
same-over b o (Some kept) = go (nat_lt o.read kept.read)
  where
    go : (old : Bool) → HasSameServers b (if old then b else renewed_book b o (Some (renewed kept o)))
    go true = same-self b
    go false = record { settings = refl; names = refl }

pub same-stored : (b : BookState) (slot : Option Observation) → HasSameServers b (stored b slot)
same-stored b None = same-self b
same-stored b (Some o) = same-over b o (instance_at b o.no)

-- each turn keeps what holds of states

pub IsState-step : (s : State) (x : Step) (w : World) → IsState s → IsStep (length s.world.servers) x → w ≡ run s.world (exchange_of x ∷ []) → length w.servers ≡ length s.world.servers → IsState (record s { world = w })
IsState-step s x w is step world servers = record {
  names = is.names ∙ sym servers;
  settings = is.settings ∙ sym servers;
  slots = is.slots;
  observed = subst (λ count. All (IsSlot count) s.slots) (sym servers) is.observed;
  sources = subst (λ (v : World). KnowsSources v.servers) (sym world) (sources-run s.world (exchange_of x ∷ []) (Allowed-step (length s.world.servers) s.world x step).0 is.sources);
  jobs = subst (λ count. All (IsUnended count) s.jobs) (sym servers) is.jobs;
  rising = is.rising;
  audit = is.audit;
  entries = is.entries;
  next = is.next;
  begun = is.begun;
  moment = is.moment;
  block = is.block;
  blocks = is.blocks;
}

-- a moment later is still at most 2^63
pub IsState-tick : (s : State) (seconds moment : ℕ) → IsState s → moment ≡ later s.moment seconds → IsState (record s { moment = moment })
IsState-tick s seconds moment is passed = record {
  names = is.names;
  settings = is.settings;
  slots = is.slots;
  observed = is.observed;
  sources = is.sources;
  jobs = is.jobs;
  rising = is.rising;
  audit = is.audit;
  entries = is.entries;
  next = is.next;
  begun = is.begun;
  moment = subst (λ (n : ℕ). n ≤ 2 ^ 63) (sym passed) (min-most (s.moment + seconds) (2 ^ 63));
  block = is.block;
  blocks = is.blocks;
}

pub IsState-read : (s : State) (p : ℕ) (n : ServerNo) (o : Observation) (reads : ℕ) (read now : ℕ) → IsState s → n.0 < length s.world.servers
    → o ≡ reading_by s.world n read now → IsState (record s { slots = slice_set s.slots p (Some o); reads = reads })
IsState-read s p n o reads read now is within reading = record {
  names = is.names;
  settings = is.settings;
  slots = length-set s.slots p (Some o) ∙ is.slots;
  observed = All-set (IsSlot (length s.world.servers)) s.slots p (Some o) (ap (λ (x : Observation). are_known (length s.world.servers) (observed_servers x)) reading ∙ reading_known s.world n read now is.sources within) is.observed;
  sources = is.sources;
  jobs = is.jobs;
  rising = is.rising;
  audit = is.audit;
  entries = is.entries;
  next = is.next;
  begun = is.begun;
  moment = is.moment;
  block = is.block;
  blocks = is.blocks;
}

pub IsState-store : (s : State) (p : ℕ) (b : BookState) (slot left : Option Observation) → IsState s → b ≡ stored s.book slot → left ≡ None
    → IsState (record s { book = b; slots = slice_set s.slots p left })
IsState-store s p b slot left is stores empty = record {
  names = ap (λ (x : BookState). length x.names) stores ∙ (ap length (same-stored s.book slot).names ∙ is.names);
  settings = ap (λ (x : BookState). length x.settings) stores ∙ (ap length (same-stored s.book slot).settings ∙ is.settings);
  slots = length-set s.slots p left ∙ is.slots;
  observed = All-set (IsSlot (length s.world.servers)) s.slots p left (subst (IsSlot (length s.world.servers)) (sym empty) tt) is.observed;
  sources = is.sources;
  jobs = is.jobs;
  rising = is.rising;
  audit = is.audit;
  entries = is.entries;
  next = is.next;
  begun = is.begun;
  moment = is.moment;
  block = is.block;
  blocks = is.blocks;
}

-- ---- a restart

-- the recoveries that count make an audit
pub reloaded-is : (rows : List Row) (s : State) → IsState s → length s.book.settings ≤ 2 ^ 32 → IsAudit (reloaded_audit rows s)
reloaded-is rows s is few =
    let first = is.audit.first in
    audit-loaded (period_by s.configuration) (period-short s is) (length s.book.settings) s.audit.next (last_given s) rows few first (omega (arith, is.next)) (omega (arith, first))

-- what a restart makes of a state, by the rows that the row store gave
pub record IsRestarted (rows : List Row) (s : State) (b : BookState) (a : AuditState) (moment : Moment) (slots : List (Option Observation)) (jobs : List Unended) : Type 0 where
  pub book : b ≡ reloaded_book rows s
  pub audit : a ≡ closed (reloaded_audit rows s) moment
  pub moment_is : moment ≡ interrupted_at rows s
  pub empty : slots ≡ empty_slots
  pub dropped : jobs ≡ []

module _ (rows : List Row) (s : State) (b : BookState) (a : AuditState) (moment : Moment) (slots : List (Option Observation)) (jobs : List Unended) (re : IsRestarted rows s b a moment slots jobs) where
  abbrev restarted : State
  restarted = record s { moment = moment.0; book = b; audit = a; slots = slots; jobs = jobs }

  audit_is : a ≡ closed (reloaded_audit rows s) (interrupted_at rows s)
  audit_is = re.audit ∙ ap (closed (reloaded_audit rows s)) re.moment_is

  pub IsState-restart : IsState s → length s.book.settings ≤ 2 ^ 32 → IsState restarted
  IsState-restart is few = record {
    names = ap (λ (x : BookState). length x.names) re.book ∙ (ap length (names-loaded s.book.settings (last_given s) rows) ∙ (length-map s.book.settings (λ x. x.name) ∙ is.settings));
    settings = ap (λ (x : BookState). length x.settings) re.book ∙ (ap length (same-made s.book.settings (counted (length s.book.settings) (last_given s) rows)).settings ∙ is.settings);
    slots = ap length re.empty ∙ length-replicate {A = Option Observation} pollers None;
    observed = subst (All (IsSlot (length s.world.servers))) (sym re.empty) (All-replicate (IsSlot (length s.world.servers)) pollers None tt);
    sources = is.sources;
    jobs = subst (All (IsUnended (length s.world.servers))) (sym re.dropped) (All-nil (IsUnended (length s.world.servers)));
    rising = let low : 0 ≤ s.last_job = omega arith in subst (λ (xs : List Unended). Rise 0 xs s.last_job) (sym re.dropped) low;
    entries = subst (HaveEntries a 0) (sym re.dropped) tt;
    block = is.block;
    blocks = is.blocks;
    audit = subst IsAudit (sym re.audit) (closed-is (reloaded_audit rows s) moment (reloaded-is rows s is few));
    next = subst (λ (x : AuditState). x.next < 2 ^ 64) (sym re.audit) is.next;
    begun = subst (λ (x : AuditState). HasBegun x.recoveries) (sym re.audit) (closed-begun (reloaded_audit rows s) moment (counted-begun (period_by s.configuration) (length s.book.settings) (last_given s) rows));
    moment = subst (λ (m : Moment). m.0 ≤ 2 ^ 63) (sym re.moment_is) (reloaded-most (period_by s.configuration) (length s.book.settings) (last_given s) s.moment rows is.moment);
  }

  pub step-restart : restarted ≡ after_restart rows s
  step-restart =
      ap (λ (x : BookState). record restarted { book = x }) re.book
      ∙ ap (λ (x : AuditState). record restarted { book = reloaded_book rows s; audit = x }) audit_is
      ∙ ap (λ (m : Moment). record s { moment = m.0; book = reloaded_book rows s; audit = closed (reloaded_audit rows s) (interrupted_at rows s); slots = slots; jobs = jobs }) re.moment_is
      ∙ ap (λ (x : List (Option Observation)). record s { moment = reloaded_moment rows s; book = reloaded_book rows s; audit = closed (reloaded_audit rows s) (interrupted_at rows s); slots = x; jobs = jobs }) re.empty
      ∙ ap (λ (x : List Unended). record s { moment = reloaded_moment rows s; book = reloaded_book rows s; audit = closed (reloaded_audit rows s) (interrupted_at rows s); slots = empty_slots; jobs = x }) re.dropped

-- a turn by the rows that the row store gave
pub StepsTo-given : (kept : Option (List Row)) (given : List Row) (s now : State) (t : Turn) → IfSome kept (λ rows. given ≡ rows) → now ≡ turn_step given s t → StepsTo engine kept s t now
StepsTo-given None given s now t told is = (given, is)
StepsTo-given (Some rows) given s now t told is = subst (λ (x : List Row). now ≡ turn_step x s t) told is

pub with_given : (more : List Change) (kept : Option (List Row)) (given : List Row) (s : State) → IfSome kept (λ rows. given ≡ rows) → kept_if true kept (restart_changes given s ++ more) ≡ kept_with more true kept s
with_given more None given s told = refl
with_given more (Some rows) given s told = ap (λ (x : List Row). Some (changed rows (restart_changes x s ++ more))) told

-- with no more changes it is a restart alone
pub with_none : (more : List Change) (made : Bool) (kept : Option (List Row)) (s : State) → more ≡ [] → kept_with more made kept s ≡ kept_by engine made kept s (turn.Act act.Restart)
with_none more true None s none = refl
with_none more true (Some rows) s none = ap (λ (xs : List Change). Some (changed rows (restart_changes rows s ++ xs))) none ∙ ap (λ (xs : List Change). Some (changed rows xs)) (append-nil (restart_changes rows s))
with_none more false kept s none = refl

-- a turn that asks the row store for nothing
