-- The exchanges of a job's turn are allowed, and what holds of states holds after it.
use Rattle.orch_core.proofs.Prelude.{All-cons, All-filter, All-head, All-tail, AllAllowed, AuditState, BookState, Closing, Flown, HasSameServers}
use Rattle.orch_core.proofs.Prelude.{HaveEntries, IsAudit, IsOpenAt, IsSlot, IsState, IsUnended, Moment, Observation, Rise, Rise-with, Rise-without}
use Rattle.orch_core.proofs.Prelude.{State, Unended, UnendedLook, World, are_known, book_turned, changes_by, changes_of, closed_by, closing_changes}
use Rattle.orch_core.proofs.Prelude.{closing_of, entry_id, flown, flown-allowed, flown-number, flown-sees, flown-unended, foretold}
use Rattle.orch_core.proofs.Prelude.{foretold-observation, foretold-step, found-here, found-number, head_known as known-head, is_going, job_at}
use Rattle.orch_core.proofs.Prelude.{job_exchanges, job_observation, job_reply, jobs_turned, next_count, number_of, observation_of, observed_servers}
use Rattle.orch_core.proofs.Prelude.{option_map, reads_with, ready-of, run, seen_servers, servers-run, slice_get-get_or, step as turn_step, step_of}
use Rattle.orch_core.proofs.Prelude.{step_reply, stored, turn_by, turn_of, turned_at, with_job, without_job, without_leases}
use Rattle.orch_core.proofs.Prelude.act
use Rattle.orch_core.proofs.Prelude.jobstep as step
use Rattle.orch_core.proofs.Prelude.turn
use Rattle.std.proofs.Common.{◌≡◌, ◌∙◌, ℕ, ◌<◌, ◌^◌, Bool, true, false, List, [], ◌∷◌, ◌++◌, length, get_or, refl, sym, ap, subst, Option, Some, None, All, IfSome, not, ◌==◌, slice_get, if◌then◌else◌}
use Rattle.orch_core.proofs.Closed.{closed_by-begun, closed_by-is, closed_by-next, closing-going, closing-open, entries-turned, flown-entry}
use Rattle.orch_core.proofs.Recoveries.{HasBegun}
use Rattle.orch_core.proofs.Sources.{KnowsSources, sources-run}
use Rattle.orch_core.proofs.States.{reading_known, same-stored, same-self}

-- ---- a turn's exchanges are allowed

pub Allowed-job : (s : State) (id : ℕ) → AllAllowed s.world (job_exchanges (turned_at s id))
Allowed-job s id = by (job_at s.jobs id)
  where
    by : (o : Option Unended) → AllAllowed s.world (job_exchanges (option_map (turn_of s) o))
    by None = tt
    by (Some j) = flown-allowed s.world s.book (next_count s.reads) (record { 0 = s.moment }) j

-- ---- the jobs after it

module _ (P : Unended → Type 0) where
  All-with : (jobs : List Unended) (id : ℕ) (j : Unended) → P j → All P jobs → All P (with_job jobs id j)
  All-with [] id j here all = all
  All-with (k ∷ ks) id j here all = go (number_of k == id) (All-with ks id j here (All-tail P k ks all))
    where
      go : (b : Bool) → All P (with_job ks id j) → All P ((if b then j else k) ∷ with_job ks id j)
      go true rest = All-cons P j (with_job ks id j) here rest
      go false rest = All-cons P k (with_job ks id j) (All-head P k ks all) rest

  All-without : (jobs : List Unended) (id : ℕ) → All P jobs → All P (without_job jobs id)
  All-without jobs id all = All-filter (λ k. not (number_of k == id)) P jobs all

-- a job that is found is one of the jobs
pub All-found : (P : Unended → Type 0) (jobs : List Unended) (id : ℕ) (j : Unended) → All P jobs → job_at jobs id ≡ Some j → P j
All-found P [] id j all h = cc
All-found P (k ∷ ks) id j all h = go (number_of k == id) h (All-found P ks id j (All-tail P k ks all))
  where
    go : (b : Bool) → (if b then Some k else job_at ks id) ≡ Some j → (job_at ks id ≡ Some j → P j) → P j
    go true h rest = let same : k ≡ j = cc in subst P same (All-head P k ks all)
    go false h rest = rest h

-- what a job's turn leaves of the jobs
record JobsAfter (count : ℕ) (jobs : List Unended) (last : ℕ) : Type 0 where
  range : All (IsUnended count) jobs
  rising : Rise 0 jobs last

jobs-turned : (count : ℕ) (jobs : List Unended) (last id : ℕ) (t : Flown) → All (IsUnended count) jobs → Rise 0 jobs last → (is_going t.step ≡ true → (number_of t.next ≡ id) × IsUnended count t.next) → JobsAfter count (jobs_turned jobs id (Some t)) last
jobs-turned count jobs last id t all rise stays = go (is_going t.step) refl
  where
    go : (g : Bool) → is_going t.step ≡ g → JobsAfter count (if g then with_job jobs id t.next else without_job jobs id) last
    go true e = let on = stays e in record { range = All-with (IsUnended count) jobs id t.next on.1 all; rising = Rise-with 0 jobs last id t.next on.0 rise }
    go false e = record { range = All-without (IsUnended count) jobs id all; rising = Rise-without 0 jobs last id rise }

same-turned : (b : BookState) (id : ℕ) (t : Option Flown) → HasSameServers b (book_turned b id t)
same-turned b id None = same-self b
same-turned b id (Some t) = go (is_going t.step)
  where
    same : HasSameServers b (stored b t.observation)
    same = same-stored b t.observation

    go : (g : Bool) → HasSameServers b (if g then stored b t.observation else without_leases (stored b t.observation) id)
    go true = same
    go false = record { settings = same.settings; names = same.names }

module _ (s : State) (id : ℕ) (is : IsState s) where
  jobs-after : JobsAfter (length s.world.servers) (jobs_turned s.jobs id (turned_at s id)) s.last_job
  jobs-after = go (job_at s.jobs id) refl
    where
      go : (o : Option Unended) → job_at s.jobs id ≡ o → JobsAfter (length s.world.servers) (jobs_turned s.jobs id (option_map (turn_of s) o)) s.last_job
      go None e = record { range = is.jobs; rising = is.rising }
      go (Some j) e =
          let one = All-found (IsUnended (length s.world.servers)) s.jobs id j is.jobs e in
          jobs-turned (length s.world.servers) s.jobs s.last_job id (turn_of s j) is.jobs is.rising
          (λ g. (
            flown-number (length s.world.servers) s.world s.book (next_count s.reads) (record { 0 = s.moment }) j (ready-of (length s.world.servers) j one) g ∙ found-number s.jobs id j e,
            flown-unended (length s.world.servers) s.world s.book (next_count s.reads) (record { 0 = s.moment }) j one g,
          ))

  entries-after : HaveEntries (closed_by s.audit (record { 0 = s.moment }) (closing_of (turned_at s id))) 0 (jobs_turned s.jobs id (turned_at s id))
  entries-after = go (job_at s.jobs id) refl
    where
      go : (o : Option Unended) → job_at s.jobs id ≡ o
          → HaveEntries (closed_by s.audit (record { 0 = s.moment }) (closing_of (option_map (turn_of s) o))) 0 (jobs_turned s.jobs id (option_map (turn_of s) o))
      go None e = is.entries
      go (Some j) e =
          entries-turned s.audit (record { 0 = s.moment }) s.jobs s.last_job id j (turn_of s j) is.rising e
          (flown-entry s.world s.book (next_count s.reads) (record { 0 = s.moment }) j) is.entries

  pub IsState-job : (w : World) (b : BookState) (a : AuditState) (jobs : List Unended) (reads : ℕ) → w ≡ run s.world (job_exchanges (turned_at s id)) → b ≡ book_turned s.book id (turned_at s id)
      → a ≡ closed_by s.audit (record { 0 = s.moment }) (closing_of (turned_at s id)) → jobs ≡ jobs_turned s.jobs id (turned_at s id)
      → IsState (record s { world = w; book = b; audit = a; reads = reads; jobs = jobs })
  IsState-job w b a jobs reads world book closes joins =
      let servers : length w.servers ≡ length s.world.servers = ap (λ (x : World). length x.servers) world ∙ servers-run s.world (job_exchanges (turned_at s id)) in
      let now : Moment = record { 0 = s.moment } in
      let ends = closing_of (turned_at s id) in
      record {
        names = ap (λ (x : BookState). length x.names) book ∙ ap length (same-turned s.book id (turned_at s id)).names ∙ is.names ∙ sym servers;
        settings = ap (λ (x : BookState). length x.settings) book ∙ ap length (same-turned s.book id (turned_at s id)).settings ∙ is.settings ∙ sym servers;
        slots = is.slots;
        observed = subst (λ count. All (IsSlot count) s.slots) (sym servers) is.observed;
        sources = subst (λ (v : World). KnowsSources v.servers) (sym world) (sources-run s.world (job_exchanges (turned_at s id)) (Allowed-job s id) is.sources);
        jobs = subst (All (IsUnended (length w.servers))) (sym joins) (subst (λ count. All (IsUnended count) (jobs_turned s.jobs id (turned_at s id))) (sym servers) jobs-after.range);
        rising = subst (λ (xs : List Unended). Rise 0 xs s.last_job) (sym joins) jobs-after.rising;
        audit = subst IsAudit (sym closes) (closed_by-is s.audit now ends is.audit);
        entries = subst (λ (x : AuditState). HaveEntries x 0 jobs) (sym closes)
            (subst (HaveEntries (closed_by s.audit now ends) 0) (sym joins) entries-after);
        next = subst (λ (n : ℕ). n < 2 ^ 64) (sym (ap (λ (x : AuditState). x.next) closes ∙ closed_by-next s.audit now ends)) is.next;
        begun = subst (λ (x : AuditState). HasBegun x.recoveries) (sym closes) (closed_by-begun s.audit now ends is.begun);
        moment = is.moment;
        block = is.block;
        blocks = is.blocks;
      }

-- ---- what a turn observes is of the servers

pub observed-known : (s : State) (u : Unended) → KnowsSources s.world.servers → IsUnended (length s.world.servers) u
    → IfSome (turn_of s u).observation (λ o. are_known (length s.world.servers) (observed_servers o) ≡ true)
observed-known s u sources is = go (turn_of s u).observation refl
  where
    go : (x : Option Observation) → (turn_of s u).observation ≡ x → IfSome x (λ o. are_known (length s.world.servers) (observed_servers o) ≡ true)
    go None e = tt
    go (Some o) e =
        let n = flown-sees s.world s.book (next_count s.reads) (record { 0 = s.moment }) u o (ready-of (length s.world.servers) u is) e in
        ap (λ (x : Observation). are_known (length s.world.servers) (observed_servers x)) n.1 ∙ reading_known s.world n.0 (next_count s.reads) s.moment sources n.2

-- the job at the place of a number is one of the jobs
pub found-one : (s : State) (id at : ℕ) (j : Unended) → IsState s → at < length s.jobs → job_at s.jobs id ≡ slice_get s.jobs at → j ≡ get_or s.jobs at j → IsUnended (length s.world.servers) j
found-one s id at j is within found item =
    All-found (IsUnended (length s.world.servers)) s.jobs id j is.jobs (found ∙ slice_get-get_or s.jobs at j within ∙ ap (λ (x : Unended). Some x) (sym item))

-- ---- what was looked up

-- a look at the job of this number, which is at this place
pub record Looked (s : State) (id at : ℕ) (j : Unended) (look : UnendedLook) : Type 0 where
  pub within : at < length s.jobs
  pub found : job_at s.jobs id ≡ slice_get s.jobs at
  pub item : j ≡ get_or s.jobs at j
  pub tells : foretold j look ≡ turn_of s j

-- as it was looked up with this read number
pub looked-as : (s now : State) → s ≡ now → (id at : ℕ) (j : Unended) (look : UnendedLook) (read : ℕ) → at < length now.jobs → job_at now.jobs id ≡ slice_get now.jobs at → j ≡ get_or s.jobs at j
    → read ≡ next_count s.reads → foretold j look ≡ flown s.world s.book read (record { 0 = s.moment }) j → Looked s id at j look
looked-as s now same id at j look read within found item count tells = record {
  within = subst (λ (x : State). at < length x.jobs) (sym same) within;
  found = subst (λ (x : State). job_at x.jobs id ≡ slice_get x.jobs at) (sym same) found;
  item = item;
  tells = tells ∙ ap (λ (n : ℕ). flown s.world s.book n (record { 0 = s.moment }) j) count;
}

module _ (s : State) (id at : ℕ) (j : Unended) (look : UnendedLook) (is : IsState s) (looked : Looked s id at j look) where
  pub here : job_at s.jobs id ≡ Some j
  here = found-here s.jobs s.last_job id at j look is.rising looked.within looked.found looked.item

  pub one : IsUnended (length s.world.servers) j
  one = All-found (IsUnended (length s.world.servers)) s.jobs id j is.jobs here

  pub turned-is : turned_at s id ≡ Some (foretold j look)
  turned-is = ap (option_map (turn_of s)) here ∙ ap (λ (t : Flown). Some t) (sym looked.tells)

  pub turn_by-is : turn_by s.jobs id look ≡ turned_at s id
  turn_by-is = ap (option_map (λ (x : Unended). foretold x look)) here ∙ sym turned-is

  pub observation-is : job_observation (turned_at s id) ≡ observation_of look
  observation-is = ap job_observation turned-is ∙ foretold-observation j look

  pub reply-is : job_reply (turned_at s id) ≡ step_reply (step_of look)
  reply-is = ap job_reply turned-is ∙ ap step_reply (foretold-step j look)

  pub observed-here : IfSome (observation_of look) (λ o. are_known (length s.world.servers) (observed_servers o) ≡ true)
  observed-here =
      subst (λ (o : Option Observation). IfSome o (λ o. are_known (length s.world.servers) (observed_servers o) ≡ true)) (sym (sym (foretold-observation j look) ∙ ap (λ (t : Flown). t.observation) looked.tells))
      (observed-known s j is.sources one)

  -- what ends with it
  abbrev pub ends : Option Closing
  ends = closing_of (Some (foretold j look))

  abbrev pub now_is : Moment
  now_is = record { 0 = s.moment }

  ends-is : closing_of (turned_at s id) ≡ ends
  ends-is = ap closing_of turned-is

  pub ends-open : IfSome ends (λ c. IsOpenAt s.audit c.id)
  ends-open =
      closing-open s.audit s.jobs id j (foretold j look) here
      (ap (λ (t : Flown). entry_id t.next) looked.tells ∙ flown-entry s.world s.book (next_count s.reads) now_is j) is.entries

  pub changes-here : changes_by s.book (observation_of look) ++ closing_changes s.audit now_is ends ≡ changes_of [] s (turn.Act (act.Job id))
  changes-here =
      ap (λ (o : Option Observation). changes_by s.book o ++ closing_changes s.audit now_is ends) (sym observation-is)
      ∙ ap (λ (c : Option Closing). changes_by s.book (job_observation (turned_at s id)) ++ closing_changes s.audit now_is c) (sym ends-is)

  -- if the job goes on and observes nothing, nothing is kept
  pub none-kept : observation_of look ≡ None → step_of look ≡ step.Going → changes_by s.book (observation_of look) ++ closing_changes s.audit now_is ends ≡ []
  none-kept none going =
      ap (λ (o : Option Observation). changes_by s.book o ++ closing_changes s.audit now_is ends) none
      ∙ ap (closing_changes s.audit now_is) (closing-going (foretold j look).next (foretold j look).step (ap is_going (foretold-step j look ∙ going)))

  pub step-here : (w : World) (b : BookState) (a : AuditState) (jobs : List Unended) (reads : ℕ) → w ≡ run s.world (job_exchanges (turn_by s.jobs id look)) → b ≡ book_turned s.book id (turn_by s.jobs id look)
      → a ≡ closed_by s.audit now_is ends → jobs ≡ jobs_turned s.jobs id (turn_by s.jobs id look) → reads ≡ reads_with s.reads (job_observation (turn_by s.jobs id look))
      → record s { world = w; book = b; audit = a; reads = reads; jobs = jobs } ≡ turn_step [] s (turn.Act (act.Job id))
  step-here w b a jobs reads world book closes joins counts =
      let w_is : w ≡ run s.world (job_exchanges (turned_at s id)) = world ∙ ap (λ t. run s.world (job_exchanges t)) turn_by-is in
      let b_is : b ≡ book_turned s.book id (turned_at s id) = book ∙ ap (book_turned s.book id) turn_by-is in
      let a_is : a ≡ closed_by s.audit now_is (closing_of (turned_at s id)) = closes ∙ ap (closed_by s.audit now_is) (sym ends-is) in
      let js_are : jobs ≡ jobs_turned s.jobs id (turned_at s id) = joins ∙ ap (jobs_turned s.jobs id) turn_by-is in
      let reads_are : reads ≡ reads_with s.reads (job_observation (turned_at s id)) = counts ∙ ap (λ t. reads_with s.reads (job_observation t)) turn_by-is in
      λ i. record s { world = w_is i; book = b_is i; audit = a_is i; reads = reads_are i; jobs = js_are i }

  pub IsState-taken : (w : World) (b : BookState) (a : AuditState) (jobs : List Unended) (reads : ℕ) → w ≡ run s.world (job_exchanges (turn_by s.jobs id look)) → b ≡ book_turned s.book id (turn_by s.jobs id look)
      → a ≡ closed_by s.audit now_is ends → jobs ≡ jobs_turned s.jobs id (turn_by s.jobs id look) → IsState (record s { world = w; book = b; audit = a; reads = reads; jobs = jobs })
  IsState-taken w b a jobs reads world book closes joins =
      IsState-job s id is w b a jobs reads (world ∙ ap (λ t. run s.world (job_exchanges t)) turn_by-is) (book ∙ ap (book_turned s.book id) turn_by-is)
      (closes ∙ ap (closed_by s.audit now_is) (sym ends-is)) (joins ∙ ap (jobs_turned s.jobs id) turn_by-is)

  pub observed-book : IfSome (observation_of look) (λ o. are_known (length s.book.names) (observed_servers o) ≡ true)
  observed-book = subst (λ (n : ℕ). IfSome (observation_of look) (λ o. are_known n (observed_servers o) ≡ true)) (sym is.names) observed-here

  pub observed-place : IfSome (observation_of look) (λ o. o.no.0 < length s.book.names)
  observed-place = go (observation_of look) observed-book
    where
      go : (x : Option Observation) → IfSome x (λ o. are_known (length s.book.names) (observed_servers o) ≡ true) → IfSome x (λ o. o.no.0 < length s.book.names)
      go None known = tt
      go (Some o) known = known-head (length s.book.names) o.no.0 (seen_servers o.seen) known
