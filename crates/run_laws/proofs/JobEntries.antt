-- Each recovery of the audit that isn't ended has its unended job.
use Rattle.std.proofs.Common.{◌≡◌, ◌∙◌, ℕ, ◌+◌, ◌<◌, ◌≤◌, Bool, true, false, cond, List, [], ◌∷◌, ◌++◌, append_assoc, map, length, refl, sym, ap, subst, Option, Some, None, arith, ◌==◌, ◌||◌, All, AllPairs, IfSome, filter, fold, is_none, not, if◌then◌else◌}
use Rattle.run_laws.proofs.Prelude.{Act, All-find, All-head, All-tail, AuditState, BeginInTurn, Begins as RecoveryBegins, Comes, ComesTo, CommandTurn}
use Rattle.run_laws.proofs.Prelude.{Docket, Effect, Ending, EntriesHaveJobs, Hooked, IsAct, IsAudit, IsCommand, IsReady, IsTurn, JobStep, Moment}
use Rattle.run_laws.proofs.Prelude.{Outcome, Ready, Recovery, Rise, Rise-push, Rise-with, Rise-within, Rise-without, Row, Scenario, State, Turn}
use Rattle.run_laws.proofs.Prelude.{Unended, acknowledged, acknowledged_for, act-fits, act_in, after_act, after_done, after_job, append-nil, asked}
use Rattle.run_laws.proofs.Prelude.{audit_after, begun, cause_name, closed, closed_by, closing_at, closing_for, closing_of, command-comes}
use Rattle.run_laws.proofs.Prelude.{command_outcome, decided_of, done_with, ended_so, ending-closed, engine, entries_in, entry_id, eq-eqb, eqb-true}
use Rattle.run_laws.proofs.Prelude.{flown-entry, flown-number, found-number, hooked, interrupted, interrupted_at, is_acknowledged, is_going, is_of}
use Rattle.run_laws.proofs.Prelude.{is_open, is_unended, job-entry, job-number, job_at, job_by, jobs_turned, joined-rising, known_of, loaded_audit}
use Rattle.run_laws.proofs.Prelude.{ne_eqb, next_count, number_of, open_ids, option_map, option_to_list, pairs_head, pairs_tail, recoveries_scanned}
use Rattle.run_laws.proofs.Prelude.{recovery_job, reloaded_audit, run_turns, same_Some, start, start_moment, step as turn_step, turn_of, turns_of}
use Rattle.run_laws.proofs.Prelude.{updated, with-past, with_job, with_told, without-past, without_job}
use Rattle.run_laws.proofs.Prelude.Decisions.{audit_after as audit_decided}
use Rattle.run_laws.proofs.Prelude.RecoveryPlans.{Recovery as RecoveryJob}
use Rattle.run_laws.proofs.Prelude.act
use Rattle.run_laws.proofs.Prelude.effect
use Rattle.run_laws.proofs.Prelude.ending
use Rattle.run_laws.proofs.Prelude.jobstep as step
use Rattle.run_laws.proofs.Prelude.turn
use Rattle.run_laws.proofs.Prelude.unended
use Rattle.run_laws.proofs.Prelude.comes
use Rattle.run_laws.proofs.Beginnings.{turn-can}
use Rattle.run_laws.proofs.Closings.{ended-map, ended_as, ended_in, ended_with}
use Rattle.run_laws.proofs.Counting.{IsReckoned, reckoned-start, reckoned-step}
use Rattle.run_laws.proofs.ReadyOutcomes.{asked-begins}

-- ---- lists of ids

-- above the first one, and each above those before it
abbrev Rising : ℕ → List ℕ → Type 0
Rising low [] = Unit {0}
Rising low (x ∷ xs) = (low < x) × Rising x xs

-- all except this one
abbrev others : ℕ → List ℕ → List ℕ
others e xs = filter (λ n. not (n == e)) xs

none-goes : (e low : ℕ) (xs : List ℕ) → e ≤ low → Rising low xs → others e xs ≡ xs
none-goes e low [] le h = refl
none-goes e low (x ∷ xs) le h =
    let above = h.0 in
    let differs : (x == e) ≡ false = ne_eqb x e (λ same. absurd (omega (arith, above, le, same))) in
    ap (λ (b : Bool). cond (not b) (x ∷ others e xs) (others e xs)) differs ∙ ap (λ (ys : List ℕ). x ∷ ys) (none-goes e x xs (omega (arith, above, le)) h.1)

-- the ids of the unended ones of a list
abbrev ids : List Recovery → List ℕ
ids rs = map (λ r. r.id) (filter is_unended rs)

rising-ids : (low : ℕ) (rs : List Recovery) → All (λ r. low < r.id) rs → AllPairs (λ x y. x.id < y.id) rs → Rising low (ids rs)
rising-ids low [] above rising = tt
rising-ids low (r ∷ rs) above rising =
    go (is_unended r) (rising-ids low rs (All-tail (λ (x : Recovery). low < x.id) r rs above) (pairs_tail (λ (x y : Recovery). x.id < y.id) r rs rising))
    (rising-ids r.id rs (pairs_head (λ (x y : Recovery). x.id < y.id) r rs rising) (pairs_tail (λ (x y : Recovery). x.id < y.id) r rs rising))
  where
    go : (b : Bool) → Rising low (ids rs) → Rising r.id (ids rs) → Rising low (map (λ x. x.id) (cond b (r ∷ filter is_unended rs) (filter is_unended rs)))
    go true lower rest = (All-head (λ (x : Recovery). low < x.id) r rs above, rest)
    go false lower rest = lower

rising-open : (a : AuditState) → IsAudit a → Rising 0 (open_ids a)
rising-open a is = rising-ids 0 a.recoveries (λ k d within. let above = is.above k d within in omega (arith, above)) is.rising

-- ---- the audit changes

-- a change that keeps ids and what is ended
module _ (f : Recovery → Recovery) (id : (r : Recovery) → (f r).id ≡ r.id) (unended : (r : Recovery) → is_unended (f r) ≡ is_unended r) where
  ids-mapped : (rs : List Recovery) → ids (map f rs) ≡ ids rs
  ids-mapped [] = refl
  ids-mapped (r ∷ rs) = ap (λ (b : Bool). map (λ (x : Recovery). x.id) (cond b (f r ∷ filter is_unended (map f rs)) (filter is_unended (map f rs)))) (unended r) ∙ go (is_unended r) (ids-mapped rs)
    where
      go : (b : Bool) → ids (map f rs) ≡ ids rs → map (λ (x : Recovery). x.id) (cond b (f r ∷ filter is_unended (map f rs)) (filter is_unended (map f rs))) ≡ map (λ (x : Recovery). x.id) (cond b (r ∷ filter is_unended rs) (filter is_unended rs))
      go true rest = λ i. id r i ∷ rest i
      go false rest = rest

open-acknowledged : (a : AuditState) (cluster : List ℕ) → open_ids (acknowledged a cluster) ≡ open_ids a
open-acknowledged a cluster = ids-mapped (acknowledged_for cluster) (λ r. id r (is_of cluster r)) (λ r. same r (is_of cluster r)) a.recoveries
  where
    id : (r : Recovery) (b : Bool) → (cond b (record r { acked = true }) r).id ≡ r.id
    id r true = refl
    id r false = refl

    same : (r : Recovery) (b : Bool) → is_unended (cond b (record r { acked = true }) r) ≡ is_unended r
    same r true = refl
    same r false = refl

-- an entry ends
module _ (now : Moment) (e : ℕ) (o : Ending) (closes : is_open o ≡ false) (acked : Bool) where
  as-ended : (b : Bool) (r : Recovery) → is_unended (ended_as now o b r) ≡ false
  as-ended true r = closes
  as-ended false r = closes

  ids-ended : (rs : List Recovery) → ids (map (ended_in now e o acked) rs) ≡ others e (ids rs)
  ids-ended [] = refl
  ids-ended (r ∷ rs) = by (r.id == e) refl (ids-ended rs)
    where
      at : List Recovery
      at = filter is_unended (map (ended_in now e o acked) rs)

      stays : (u : Bool) → (r.id == e) ≡ false → map (λ (x : Recovery). x.id) at ≡ others e (ids rs)
          → map (λ (x : Recovery). x.id) (cond u (r ∷ at) at) ≡ others e (map (λ (x : Recovery). x.id) (cond u (r ∷ filter is_unended rs) (filter is_unended rs)))
      stays true off rest = ap (λ (xs : List ℕ). r.id ∷ xs) rest ∙ sym (ap (λ (b : Bool). cond (not b) (r.id ∷ others e (ids rs)) (others e (ids rs))) off)
      stays false off rest = rest

      goes : (u : Bool) → (r.id == e) ≡ true → map (λ (x : Recovery). x.id) at ≡ others e (ids rs)
          → map (λ (x : Recovery). x.id) at ≡ others e (map (λ (x : Recovery). x.id) (cond u (r ∷ filter is_unended rs) (filter is_unended rs)))
      goes true on rest = rest ∙ sym (ap (λ (b : Bool). cond (not b) (r.id ∷ others e (ids rs)) (others e (ids rs))) on)
      goes false on rest = rest

      by : (b : Bool) → (r.id == e) ≡ b → map (λ (x : Recovery). x.id) at ≡ others e (ids rs)
          → map (λ (x : Recovery). x.id) (cond (is_unended (cond b (ended_as now o acked r) r)) (cond b (ended_as now o acked r) r ∷ at) at) ≡ others e (ids (r ∷ rs))
      by true on rest =
          ap (λ (u : Bool). map (λ (x : Recovery). x.id) (cond u (ended_as now o acked r ∷ at) at)) (as-ended acked r) ∙ goes (is_unended r) on rest
      by false off rest = stays (is_unended r) off rest

  open-ended : (a : AuditState) → open_ids (ended_with a now e o acked) ≡ others e (open_ids a)
  open-ended a = ap open_ids (ended-map now e o a acked) ∙ ids-ended a.recoveries

-- a restart ends all
none-open : (at : Moment) (rs : List Recovery) → ids (map (interrupted at) rs) ≡ []
none-open at [] = refl
none-open at (r ∷ rs) = go (is_unended r) refl (none-open at rs)
  where
    rest : List Recovery
    rest = filter is_unended (map (interrupted at) rs)

    go : (b : Bool) → is_unended r ≡ b → ids (map (interrupted at) rs) ≡ []
        → map (λ (x : Recovery). x.id) (cond (is_unended (cond b (ended_so at ending.Interrupted r) r)) (cond b (ended_so at ending.Interrupted r) r ∷ rest) rest) ≡ []
    go true here none = none
    go false here none = ap (λ (u : Bool). map (λ (x : Recovery). x.id) (cond u (r ∷ rest) rest)) here ∙ none

ids-append : (xs ys : List Recovery) → ids (xs ++ ys) ≡ ids xs ++ ids ys
ids-append [] ys = refl
ids-append (x ∷ xs) ys = go (is_unended x) (ids-append xs ys)
  where
    go : (b : Bool) → ids (xs ++ ys) ≡ ids xs ++ ids ys → map (λ (r : Recovery). r.id) (cond b (x ∷ filter is_unended (xs ++ ys)) (filter is_unended (xs ++ ys)))
        ≡ map (λ (r : Recovery). r.id) (cond b (x ∷ filter is_unended xs) (filter is_unended xs)) ++ ids ys
    go true rest = ap (λ (zs : List ℕ). x.id ∷ zs) rest
    go false rest = rest

-- one begins
open-begun : (a : AuditState) (r : Recovery) → is_unended r ≡ true → open_ids (begun a r) ≡ open_ids a ++ r.id ∷ []
open-begun a r is = ids-append a.recoveries (r ∷ []) ∙ ap (λ (b : Bool). open_ids a ++ map (λ (x : Recovery). x.id) (cond b (r ∷ []) [])) is

-- ---- the jobs change

entries-append : (xs ys : List Unended) → entries_in (xs ++ ys) ≡ entries_in xs ++ entries_in ys
entries-append [] ys = refl
entries-append (x ∷ xs) ys = ap (λ (zs : List ℕ). option_to_list (entry_id x) ++ zs) (entries-append xs ys) ∙ sym (append_assoc (option_to_list (entry_id x)) (entries_in xs) (entries_in ys))

-- a job in place of another with the same entry
entries-with : (low : ℕ) (jobs : List Unended) (high id : ℕ) (j k : Unended) → Rise low jobs high → entry_id k ≡ entry_id j → job_at jobs id ≡ Some j → entries_in (with_job jobs id k) ≡ entries_in jobs
entries-with low [] high id j k rise same found = refl
entries-with low (x ∷ xs) high id j k rise same found = go (number_of x == id) refl found (entries-with (number_of x) xs high id j k rise.1 same)
  where
    go : (b : Bool) → (number_of x == id) ≡ b → cond b (Some x) (job_at xs id) ≡ Some j → (job_at xs id ≡ Some j → entries_in (with_job xs id k) ≡ entries_in xs)
        → entries_in ((if b then k else x) ∷ with_job xs id k) ≡ entries_in (x ∷ xs)
    go true e found rest =
        let entry : entry_id k ≡ entry_id x = same ∙ ap entry_id (sym (same_Some x j found)) in
        let past : with_job xs id k ≡ xs = with-past (number_of x) xs high id k (let here = eqb-true (number_of x) id e in omega (arith, here)) rise.1 in
        ap (λ (o : Option ℕ). option_to_list o ++ entries_in (with_job xs id k)) entry ∙ ap (λ (ys : List Unended). option_to_list (entry_id x) ++ entries_in ys) past
    go false e found rest = ap (λ (ys : List ℕ). option_to_list (entry_id x) ++ ys) (rest found)

-- the entry of a job that is found is above the first id
found-above : (low : ℕ) (jobs : List Unended) (id : ℕ) (j : Unended) (e : ℕ) → job_at jobs id ≡ Some j → entry_id j ≡ Some e → Rising low (entries_in jobs) → low < e
found-above low [] id j e found entry h = cc
found-above low (x ∷ xs) id j e found entry h = go (number_of x == id) found (λ from there. found-above from xs id j e there entry)
  where
    later : (o : Option ℕ) → Rising low (option_to_list o ++ entries_in xs) → ((from : ℕ) → Rising from (entries_in xs) → from < e) → low < e
    later None h rest = rest low h
    later (Some i) h rest = let first = h.0 in let above = rest i h.1 in omega (arith, first, above)

    go : (b : Bool) → cond b (Some x) (job_at xs id) ≡ Some j → ((from : ℕ) → job_at xs id ≡ Some j → Rising from (entries_in xs) → from < e) → low < e
    go true found rest =
        let here : Rising low (e ∷ entries_in xs) = subst (λ (o : Option ℕ). Rising low (option_to_list o ++ entries_in xs)) (ap entry_id (same_Some x j found) ∙ entry) h in here.0
    go false found rest = later (entry_id x) h (λ from. rest from found)

-- without a job that has an entry
entries-without : (low from : ℕ) (jobs : List Unended) (high id : ℕ) (j : Unended) (e : ℕ) → Rise low jobs high → Rising from (entries_in jobs) → job_at jobs id ≡ Some j → entry_id j ≡ Some e
    → entries_in (without_job jobs id) ≡ others e (entries_in jobs)
entries-without low from [] high id j e rise rising found entry = cc
entries-without low from (x ∷ xs) high id j e rise rising found entry =
    go (number_of x == id) refl found (λ first there h. entries-without (number_of x) first xs high id j e rise.1 h there entry)
  where
    -- the job's own entry goes
    here : (o : Option ℕ) → o ≡ Some e → Rising from (option_to_list o ++ entries_in xs) → entries_in xs ≡ others e (option_to_list o ++ entries_in xs)
    here None is h = cc
    here (Some i) is h =
        let same : i ≡ e = same_Some i e is in
        sym (none-goes e i (entries_in xs) (omega (arith, same)) h.1)
        ∙ sym (ap (λ (b : Bool). cond (not b) (i ∷ others e (entries_in xs)) (others e (entries_in xs))) (eq-eqb i e same))

    later : job_at xs id ≡ Some j → (o : Option ℕ) → Rising from (option_to_list o ++ entries_in xs)
        → ((first : ℕ) → Rising first (entries_in xs) → entries_in (without_job xs id) ≡ others e (entries_in xs))
        → option_to_list o ++ entries_in (without_job xs id) ≡ others e (option_to_list o ++ entries_in xs)
    later there None h rest = rest from h
    later there (Some i) h rest =
        let above = found-above i xs id j e there entry h.1 in
        let differs : (i == e) ≡ false = ne_eqb i e (λ same. absurd (omega (arith, above, same))) in
        ap (λ (ys : List ℕ). i ∷ ys) (rest i h.1)
        ∙ sym (ap (λ (b : Bool). cond (not b) (i ∷ others e (entries_in xs)) (others e (entries_in xs))) differs)

    go : (b : Bool) → (number_of x == id) ≡ b → cond b (Some x) (job_at xs id) ≡ Some j
        → ((first : ℕ) → job_at xs id ≡ Some j → Rising first (entries_in xs) → entries_in (without_job xs id) ≡ others e (entries_in xs))
        → entries_in (cond (not b) (x ∷ without_job xs id) (without_job xs id)) ≡ others e (entries_in (x ∷ xs))
    go true is found rest =
        let past : without_job xs id ≡ xs = without-past (number_of x) xs high id (let same = eqb-true (number_of x) id is in omega (arith, same)) rise.1 in
        ap entries_in past ∙ here (entry_id x) (ap entry_id (same_Some x j found) ∙ entry) rising
    go false is found rest = later found (entry_id x) rising (λ first. rest first found)

-- without one that has none
entries-past : (low : ℕ) (jobs : List Unended) (high id : ℕ) (j : Unended) → Rise low jobs high → job_at jobs id ≡ Some j → entry_id j ≡ None → entries_in (without_job jobs id) ≡ entries_in jobs
entries-past low [] high id j rise found entry = refl
entries-past low (x ∷ xs) high id j rise found entry = go (number_of x == id) refl found (λ there. entries-past (number_of x) xs high id j rise.1 there entry)
  where
    go : (b : Bool) → (number_of x == id) ≡ b → cond b (Some x) (job_at xs id) ≡ Some j → (job_at xs id ≡ Some j → entries_in (without_job xs id) ≡ entries_in xs) → entries_in (cond (not b) (x ∷ without_job xs id) (without_job xs id)) ≡ entries_in (x ∷ xs)
    go true is found rest =
        let past : without_job xs id ≡ xs = without-past (number_of x) xs high id (let same = eqb-true (number_of x) id is in omega (arith, same)) rise.1 in
        ap entries_in past ∙ sym (ap (λ (o : Option ℕ). option_to_list o ++ entries_in xs) (ap entry_id (same_Some x j found) ∙ entry))
    go false is found rest = ap (λ (ys : List ℕ). option_to_list (entry_id x) ++ ys) (rest found)

-- ---- in a state

-- they are paired, and the jobs' numbers rise above this one
pub record ArePaired (low : ℕ) (a : AuditState) (jobs : List Unended) (last : ℕ) : Type 0 where
  pub ids : open_ids a ≡ entries_in jobs
  pub rising : Rise low jobs last

abbrev pub IsPaired : ℕ → State → Type 0
IsPaired low s = ArePaired low s.audit s.jobs s.last_job

-- ---- what begins

abbrev Can : State → List RecoveryBegins → Type 0
Can s xs = BeginInTurn (length s.book.names) s.book.leases s.audit s.last_job xs

-- recoveries that begin in turn, each with its entry and its job
ids-joined : (count : ℕ) (leases : List (Option ℕ)) (a : AuditState) (last : ℕ) (xs : List RecoveryBegins) (jobs : List Unended) → BeginInTurn count leases a last xs → open_ids a ≡ entries_in jobs
    → open_ids (audit_after a xs) ≡ entries_in (jobs ++ map recovery_job xs)
ids-joined count leases a last [] jobs each same = same ∙ ap entries_in (sym (append-nil jobs))
ids-joined count leases a last (x ∷ xs) jobs each same =
    let unended : is_unended x.entry ≡ true = ap (λ o. is_none o || is_open x.entry.outcome) each.0.ended in
    ids-joined count _ (begun a x.entry) x.job.core.id xs (jobs ++ recovery_job x ∷ []) each.1
    (open-begun a x.entry unended ∙ ap (λ (ys : List ℕ). ys ++ x.entry.id ∷ []) same ∙ sym (entries-append jobs (recovery_job x ∷ [])))
    ∙ ap entries_in (append_assoc jobs (recovery_job x ∷ []) (map recovery_job xs))

module _ (low : ℕ) (s : State) (is : IsPaired low s) where
  -- a job without an entry
  begins-one : (job : Unended) → number_of job ≡ s.last_job + 1 → entry_id job ≡ None → ArePaired low s.audit (s.jobs ++ job ∷ []) (number_of job)
  begins-one job number entry = record {
    ids = is.ids ∙ sym (entries-append s.jobs (job ∷ []) ∙ ap (λ (o : Option ℕ). entries_in s.jobs ++ (option_to_list o ++ [])) entry ∙ append-nil (entries_in s.jobs));
    rising = Rise-push low s.jobs s.last_job job (omega (arith, number)) is.rising;
  }

  -- recoveries
  begins-all : (xs : List RecoveryBegins) → Can s xs → ArePaired low (audit_after s.audit xs) (s.jobs ++ map recovery_job xs) (fold (λ l x. x.job.core.id) s.last_job xs)
  begins-all xs can = record {
    ids = ids-joined (length s.book.names) s.book.leases s.audit s.last_job xs s.jobs can is.ids;
    rising = joined-rising (length s.book.names) low s.book.leases s.audit s.last_job xs s.jobs can is.rising;
  }

-- a command
module _ (low count : ℕ) (s : State) (ready : Ready count s) (is : IsPaired low s) (c : CommandTurn) (fits : IsCommand count c) where
  by-effect : (e : Effect) → ArePaired low (audit_decided s.audit e) s.jobs s.last_job
  by-effect (effect.Acks cluster) = record { ids = open-acknowledged s.audit cluster ∙ is.ids; rising = is.rising }
  by-effect _ = is

  by-outcome : (o : Outcome) → Comes s c o → ArePaired low (updated (known_of s) o.book).audit (updated (known_of s) o.book).jobs (updated (known_of s) o.book).last_job
  by-outcome o (comes.Decided d at may) = by-effect (decided_of s.book s.audit (record { 0 = s.moment }) c.keys c.command.i d).effect
  by-outcome o (comes.Begun p at free) =
      begins-one low s is (job_by s.world s.book c.command p (s.last_job + 1) s.configuration.wait s.configuration.every)
      (job-number s.world s.book c.command p (s.last_job + 1) s.configuration.wait s.configuration.every) (job-entry s.world s.book c.command p (s.last_job + 1) s.configuration.wait s.configuration.every)
  by-outcome o (comes.Recovered x asked) = begins-all low s is (with_told s.configuration s.book x ∷ []) (asked-begins count s ready c fits x asked, tt)
  by-outcome o _ = is

-- ---- a job's turn

module _ (low count : ℕ) (s : State) (id : ℕ) (ready : IsReckoned count s) (is : IsPaired low s) where
  abbrev now : Moment
  now = record { 0 = s.moment }

  -- a job that has an entry is dropped, and its entry ends
  drops : (j : Unended) (e : ℕ) (o : Ending) (acked : Bool) → is_open o ≡ false → job_at s.jobs id ≡ Some j → entry_id j ≡ Some e
      → ArePaired low (ended_with s.audit now e o acked) (without_job s.jobs id) s.last_job
  drops j e o acked closes found entry =
      let rising : Rising 0 (entries_in s.jobs) = subst (Rising 0) is.ids (rising-open s.audit ready.apart.audit) in
      record {
        ids = open-ended now e o closes acked s.audit ∙ ap (others e) is.ids ∙ sym (entries-without low 0 s.jobs s.last_job id j e is.rising rising found entry);
        rising = Rise-without low s.jobs s.last_job id is.rising;
      }

  -- one without is
  passes : (j : Unended) → job_at s.jobs id ≡ Some j → entry_id j ≡ None → ArePaired low s.audit (without_job s.jobs id) s.last_job
  passes j found entry = record {
    ids = is.ids ∙ sym (entries-past low s.jobs s.last_job id j is.rising found entry);
    rising = Rise-without low s.jobs s.last_job id is.rising;
  }

  -- one takes its place
  goes : (j k : Unended) → job_at s.jobs id ≡ Some j → entry_id k ≡ entry_id j → number_of k ≡ number_of j → ArePaired low s.audit (with_job s.jobs id k) s.last_job
  goes j k found entry number = record {
    ids = is.ids ∙ sym (entries-with low s.jobs s.last_job id j k is.rising entry found);
    rising = Rise-with low s.jobs s.last_job id k (number ∙ found-number s.jobs id j found) is.rising;
  }

  -- a job without an entry
  by-plain : (j k : Unended) (x : JobStep) → job_at s.jobs id ≡ Some j → entry_id j ≡ None → entry_id k ≡ None → (is_going x ≡ true → number_of k ≡ number_of j)
      → ArePaired low s.audit (if is_going x then with_job s.jobs id k else without_job s.jobs id) s.last_job
  by-plain j k step.Going found entry none number = goes j k found (none ∙ sym entry) (number refl)
  by-plain j k (step.Done lines) found entry none number = passes j found entry
  by-plain j k (step.Failed c lines) found entry none number = passes j found entry

  -- a recovery with one
  by-entry : (r next : RecoveryJob) (d after : Docket) (e : ℕ) (x : JobStep) → job_at s.jobs id ≡ Some (unended.Recovery r d) → d.entry ≡ Some e → after.entry ≡ Some e
      → (is_going x ≡ true → number_of (unended.Recovery next after) ≡ r.core.id)
      → ArePaired low (closed_by s.audit now (closing_at next x e)) (if is_going x then with_job s.jobs id (unended.Recovery next after) else without_job s.jobs id) s.last_job
  by-entry r next d after e step.Going found entry kept number = goes (unended.Recovery r d) (unended.Recovery next after) found (kept ∙ sym entry) (number refl)
  by-entry r next d after e (step.Done lines) found entry kept number =
      drops (unended.Recovery r d) e (done_with next.outcome.promoted) (is_acknowledged next (step.Done lines))
      (ending-closed next (step.Done lines) (done_with next.outcome.promoted) refl) found entry
  by-entry r next d after e (step.Failed c lines) found entry kept number =
      drops (unended.Recovery r d) e (ending.Failed (cause_name c)) false (ending-closed next (step.Failed c lines) (ending.Failed (cause_name c)) refl) found entry

  -- by the entry of its `Docket`
  abbrev Pairs : Hooked → Option ℕ → Type 0
  Pairs h o =
      ArePaired low (closed_by s.audit now (closing_for h.taken.recovery h.taken.step o))
      (if is_going h.taken.step then with_job s.jobs id (unended.Recovery h.taken.recovery h.docket) else without_job s.jobs id) s.last_job

  by-flown : (j : Unended) → job_at s.jobs id ≡ Some j → IsReady count j
      → ArePaired low (closed_by s.audit now (closing_of (Some (turn_of s j)))) (jobs_turned s.jobs id (Some (turn_of s j))) s.last_job
  by-flown (unended.Plan j) found able =
      by-plain (unended.Plan j) (turn_of s (unended.Plan j)).next (turn_of s (unended.Plan j)).step found refl refl
      (flown-number count s.world s.book (next_count s.reads) now (unended.Plan j) able)
  by-flown (unended.Recovery r d) found able =
      by (hooked s.world s.book (next_count s.reads) now r d) d.entry refl (flown-entry s.world s.book (next_count s.reads) now (unended.Recovery r d))
      (flown-number count s.world s.book (next_count s.reads) now (unended.Recovery r d) able)
    where
      by : (h : Hooked) (o : Option ℕ) → d.entry ≡ o → h.docket.entry ≡ d.entry → (is_going h.taken.step ≡ true → number_of (unended.Recovery h.taken.recovery h.docket) ≡ r.core.id) → Pairs h h.docket.entry
      by h None entry kept number =
          subst (Pairs h) (sym (kept ∙ entry)) (by-plain (unended.Recovery r d) (unended.Recovery h.taken.recovery h.docket) h.taken.step found entry (kept ∙ entry) number)
      by h (Some e) entry kept number =
          subst (Pairs h) (sym (kept ∙ entry)) (by-entry r h.taken.recovery d h.docket e h.taken.step found entry (kept ∙ entry) number)

  paired-job : IsPaired low (after_job s id)
  paired-job = go (job_at s.jobs id) refl
    where
      go : (o : Option Unended) → job_at s.jobs id ≡ o → ArePaired low (closed_by s.audit now (closing_of (option_map (turn_of s) o))) (jobs_turned s.jobs id (option_map (turn_of s) o)) s.last_job
      go None at = is
      go (Some j) at = by-flown j at (All-find (IsReady count) (λ (k : Unended). number_of k == id) s.jobs j ready.ready.jobs at)

-- ---- each turn

pub paired-none : (low : ℕ) (a : AuditState) (at : Moment) (last : ℕ) → low ≤ last → ArePaired low (closed a at) [] last
paired-none low a at last within = record { ids = none-open at a.recoveries; rising = within }

paired-act : (low count : ℕ) (rows : List Row) (s : State) (a : Act) → IsReckoned count s → IsAct count a → IsPaired low s → IsPaired low (after_act rows s a)
paired-act low count rows s (act.PollRead p n) ready fits is = record { ids = is.ids; rising = is.rising }
paired-act low count rows s (act.PollStore p) ready fits is = record { ids = is.ids; rising = is.rising }
paired-act low count rows s (act.Command c) ready fits is =
    by-outcome low count s ready.ready is c fits (command_outcome s c) (command-comes s c)
paired-act low count rows s (act.Job job) ready fits is = paired-job low count s job ready is
paired-act low count rows s act.Scan ready fits is = begins-all low s is (recoveries_scanned s) (turn-can count s (turn.Act act.Scan) ready.ready fits)
paired-act low count rows s act.Restart ready fits is = paired-none low (reloaded_audit rows s) (interrupted_at rows s) s.last_job (Rise-within low s.jobs s.last_job is.rising)

paired-done : (low count : ℕ) (rows : List Row) (s : State) (o : Option Act) → IsReckoned count s → IfSome o (IsAct count) → IsPaired low s → IsPaired low (after_done rows s o)
paired-done low count rows s None ready fits is = is
paired-done low count rows s (Some a) ready fits is = paired-act low count rows s a ready fits is

paired-step : (low count : ℕ) (rows : List Row) (s : State) (t : Turn) → IsReckoned count s → IsTurn count t → IsPaired low s → IsPaired low (turn_step rows s t)
paired-step low count rows s (turn.Act a) ready fits is = paired-act low count rows s a ready fits is
paired-step low count rows s (turn.As node a) ready fits is =
    let now = paired-done low count rows s (act_in s (turn.As node a)) ready (act-fits count s (turn.As node a) fits) is in
    record { ids = now.ids; rising = now.rising }
paired-step low count rows s (turn.Claim node) ready fits is =
    let now = paired-done low count rows s (act_in s (turn.Claim node)) ready (act-fits count s (turn.Claim node) fits) is in
    record { ids = now.ids; rising = now.rising }
paired-step low count rows s _ ready fits is = record { ids = is.ids; rising = is.rising }

pub paired-run : (low count : ℕ) (s : State) (xs : List (List Row × Turn)) → All (IsTurn count) (turns_of xs) → IsReckoned count s → IsPaired low s → IsPaired low (run_turns engine s xs)
paired-run low count s [] all ready is = is
paired-run low count s (x ∷ xs) all ready is =
    let fits = All-head (IsTurn count) x.1 (turns_of xs) all in
    paired-run low count (turn_step x.0 s x.1) xs (All-tail (IsTurn count) x.1 (turns_of xs) all) (reckoned-step count x.0 s x.1 ready fits) (paired-step low count x.0 s x.1 ready fits is)

pub paired-comes : (s : Scenario) (xs : List (List Row × Turn)) (last : State) → ComesTo s xs last → IsPaired 0 last
paired-comes s xs last comes =
    subst (IsPaired 0) (sym comes.state)
    (paired-run 0 (length s.opening.servers) (start s comes.wait comes.rows) xs comes.turns (reckoned-start s comes.wait comes.rows comes.scenario)
    (paired-none 0 (loaded_audit s comes.rows) (start_moment s comes.rows) 0 (omega arith)))

pub jobs-comes : (s : Scenario) (xs : List (List Row × Turn)) (last : State) → ComesTo s xs last → EntriesHaveJobs last
jobs-comes s xs last comes = (paired-comes s xs last comes).ids
