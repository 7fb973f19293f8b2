-- Kept rows follow the book of a run.
use Rattle.std.proofs.Common.{◌≡◌, ◌∙◌, ℕ, ◌+◌, ◌<◌, ◌≤◌, ◌^◌, Bool, true, false, List, [], ◌∷◌, ◌++◌, length, map, refl, sym, ap, subst, Option, Some, None, zero, suc, arith, All, IfSome, nat_lt, slice_index_or, slice_set, if◌then◌else◌}
use Rattle.run_laws.proofs.Prelude.{Act, All-append, All-at, All-cons, All-map, All-nil, All-weaker, AreShort, AuditState, Begins as RecoveryBegins}
use Rattle.run_laws.proofs.Prelude.{BookState, Change, Comes, CommandTurn, Effect, Ending, Follow, Follow-addition, Follow-change, Follow-given}
use Rattle.run_laws.proofs.Prelude.{Follow-loaded, Follow-opened, Follow-recoveries, Follow-rings, Instance, IsAct, IsAudit, IsBook, IsCommand}
use Rattle.run_laws.proofs.Prelude.{IsEffectFor, IsReady, IsRising, IsScenario, IsSlot, IsState, IsTurn, IsUnended, Moment, Observation, Outcome}
use Rattle.run_laws.proofs.Prelude.{PutsRecovery, Ready, Recovery, Row, Scenario, ServerNo, State, Status as Seen, Takes, Turn, Unended, acking}
use Rattle.run_laws.proofs.Prelude.{acking-small, act-fits, act_changes, act_in, added_over, after_act, after_done, after_put, all-missing}
use Rattle.run_laws.proofs.Prelude.{all-opening, all-registering, are_known, asked, audit-loaded, blocks_given}
use Rattle.run_laws.proofs.Prelude.{book_decided, book_turned, bridge_in, changed, changed_by, changes_by, changes_of, claim_changes, closing}
use Rattle.run_laws.proofs.Prelude.{closing-small, closing_changes, closing_of, command-comes, command_outcome, decided_of, discovered_over}
use Rattle.run_laws.proofs.Prelude.{discovery_change, done_changes, entries_of, entries_put, first_seen, fits, fold-append, given_back, greatest_id}
use Rattle.run_laws.proofs.Prelude.{instance_at, instance_is, interrupted_at, is_going, job_at, job_by, job_observation, known_of, last_given}
use Rattle.run_laws.proofs.Prelude.{last_id-within, leases_after, leases_by, leases_set, length-map, length-ringed, loaded_audit, loaded_book}
use Rattle.run_laws.proofs.Prelude.{loading, moment_at, names-loaded, next_count, number_of, observed, observed_servers, one_known, opened-is}
use Rattle.run_laws.proofs.Prelude.{option_map, option_to_list, period_by, period_of, put_recovery, puts-loaded, reading, ready-of as job-ready}
use Rattle.run_laws.proofs.Prelude.{recoveries_begun, recovery_at, release_changes, reloaded_audit, reloaded_book, reloaded_rows, removal, renewal}
use Rattle.run_laws.proofs.Prelude.{renewed, renewed_book, restart_changes, ringed, rows_of, same_instance, seen_servers, servers-start, settings_of}
use Rattle.run_laws.proofs.Prelude.{slot_at, sources-start, start, start_changes, start_moment, start_rows, start_world, step, store_change, stored}
use Rattle.run_laws.proofs.Prelude.{stored_over, taken, turn_of, turned_at, updated, with_told, without_leases}
use Rattle.run_laws.proofs.Prelude.act
use Rattle.run_laws.proofs.Prelude.change
use Rattle.run_laws.proofs.Prelude.effect
use Rattle.run_laws.proofs.Prelude.kept_row as row
use Rattle.run_laws.proofs.Prelude.turn
use Rattle.run_laws.proofs.Prelude.comes
use Rattle.run_laws.proofs.Readiness.{job-sees}
use Rattle.run_laws.proofs.BegunInTurn.{length-after, length-taken}
use Rattle.run_laws.proofs.ReadyOutcomes.{decided-fits, given-in, reads-known}
use Rattle.run_laws.proofs.Periods.{short-by}
use Rattle.run_laws.proofs.Ready.{observed-known, put-kept}
use Rattle.run_laws.proofs.Beginnings.{small-ids}
use Rattle.run_laws.proofs.Closings.{end-puts, end-small, end_changes, ended_as, turned-ends}
use Rattle.run_laws.proofs.Counting.{next-goes-on}
use Rattle.run_laws.proofs.ClaimRows.{Follow-claims, claim-changes-are, release-changes-are}

-- at the opening

module _ (s : Scenario) (wait : ℕ) (rows : List Row) (is : IsScenario s) where
  settings-few : length (settings_of s) ≡ length s.opening.servers
  settings-few = length-map s.opening.servers (λ i. i.settings)

  servers-same : length (start_world s).servers ≡ length s.opening.servers
  servers-same = servers-start s

  names-same : length (loaded_book s rows).names ≡ length s.opening.servers
  names-same = ap length (names-loaded (settings_of s) greatest_id rows) ∙ length-map (settings_of s) (λ x. x.name) ∙ settings-few

  -- the ids of recoveries that are interrupted are in their type's range
  small-ends : All (λ r. r.id < 2 ^ 64) (closing (loaded_audit s rows) (start_moment s rows))
  small-ends = let most = last_id-within rows in closing-small (loaded_audit s rows) (start_moment s rows) (opened-is s rows is) (omega (arith, most))

  takes-start : All (Takes (length (loaded_book s rows).names)) (start_changes s rows)
  takes-start =
      let count = length (loaded_book s rows).names in
      let P : Change → Type 0 = Takes count in
      let given = blocks_given (period_of s) (start_rows s rows) in
      let ended = closing (loaded_audit s rows) (start_moment s rows) in
      let most = is.checked.listed.few in
      all-opening P (start_world s) (start_moment s rows) (loaded_book s rows) s.known s.rules (loading (period_of s) (start_rows s rows) (loaded_audit s rows) (start_moment s rows))
      (all-missing P count (λ i h. (h, tt, tt)) (start_world s) (start_moment s rows) (loaded_book s rows) (sources-start s is) (servers-same ∙ sym names-same) s.known)
      (all-registering P count (λ c h. (h, tt, tt)) (start_moment s rows) (loaded_book s rows) s.rules (is.rules ∙ sym names-same))
      (All-append P given (map put_recovery ended)
      (All-weaker PutsRecovery P (λ c puts. subst P (sym puts.2) (refl, tt, puts.1)) given (puts-loaded (period_of s) (length s.opening.servers) greatest_id rows (omega (arith, most)) (omega arith)))
      (All-map P put_recovery ended (All-weaker (λ (r : Recovery). r.id < 2 ^ 64) (λ r. P (put_recovery r)) (λ r h. (refl, tt, h)) ended small-ends)))

  pub Follow-start : IsRising rows → Follow (changed rows (start_changes s rows)) (start s wait rows).book
  Follow-start rising =
      let few = is.checked.listed.few in
      let same = settings-few in
      Follow-opened rows (loaded_book s rows) (start_changes s rows) (Follow-loaded (settings_of s) greatest_id rows (omega (arith, same, few)) rising) takes-start

-- at each turn

set-same : {A : Type 0} (xs : List (Option A)) (n : ℕ) (x : A) → slice_index_or xs n None ≡ Some x → slice_set xs n (Some x) ≡ xs
set-same [] n x h = refl
set-same (y ∷ xs) zero x h = ap (λ z. z ∷ xs) (sym h)
set-same (y ∷ xs) (suc n) x h = ap (λ zs. y ∷ zs) (set-same xs n x h)

module _ (rows : List Row) (b : BookState) (o : Observation) (follow : Follow rows b) (known : are_known (length b.names) (observed_servers o) ≡ true) where
  Follow-renewal : (kept : Instance) → instance_at b o.no ≡ Some kept → Follow (changed rows (option_to_list (renewal kept (renewed kept o)))) (after_put b (row.Instance (renewed kept o)))
  Follow-renewal kept at = go (same_instance kept (renewed kept o)) refl
    where
      now : Instance
      now = renewed kept o

      go : (same : Bool) → same_instance kept (renewed kept o) ≡ same
          → Follow (changed rows (option_to_list (if same then None else Some (change.Put (row.Instance (renewed kept o)))))) (after_put b (row.Instance (renewed kept o)))
      go true same =
          let is : kept ≡ renewed kept o = instance_is kept (renewed kept o) same in
          let still : after_put b (row.Instance (renewed kept o)) ≡ b =
          ap (λ xs. record b { instances = xs }) (ap (λ (i : Instance). slice_set b.instances o.no.0 (Some i)) (sym is) ∙ set-same b.instances o.no.0 kept at) in
          subst (Follow rows) (sym still) follow
      go false same = Follow-change rows b (change.Put (row.Instance (renewed kept o))) follow (put-kept b o follow.book known kept at) tt

  Follow-over : (x : Option Instance) → instance_at b o.no ≡ x → Follow (changed rows (option_to_list (store_change x o))) (stored_over b o x)
  Follow-over None at = follow
  Follow-over (Some kept) at = go (nat_lt o.read kept.read)
    where
      go : (old : Bool) → Follow (changed rows (option_to_list (if old then None else renewal kept (renewed kept o)))) (if old then b else renewed_book b o (Some (renewed kept o)))
      go true = follow
      go false =
          Follow-rings (changed rows (option_to_list (renewal kept (renewed kept o)))) (after_put b (row.Instance (renewed kept o))) (ringed b.rings o.no (bridge_in o.no o.seen))
          (length-ringed b.rings o.no (bridge_in o.no o.seen) ∙ follow.book.rings) (Follow-renewal kept at)

  -- a discovery
  Follow-first : (seen : Seen) → o.seen ≡ Some seen → Follow (changed rows (change.Put (row.Instance (first_seen o seen)) ∷ [])) (added_over b o o.seen)
  Follow-first seen at =
      let fit : fits (length b.names) (change.Put (row.Instance (first_seen o seen))) ≡ true = subst (λ (x : Option Seen). are_known (length b.names) (o.no.0 ∷ seen_servers x) ≡ true) at known in
      subst (λ (x : Option Seen). Follow (changed rows (change.Put (row.Instance (first_seen o seen)) ∷ [])) (added_over b o x)) (sym at) (Follow-addition rows b (first_seen o seen) follow fit)

  Follow-discovery : (seen : Seen) → o.seen ≡ Some seen → (x : Option Instance) → instance_at b o.no ≡ x → Follow (changed rows (option_to_list (discovery_change x o seen))) (discovered_over b o x)
  Follow-discovery seen at None lacks = Follow-first seen at
  Follow-discovery seen at (Some kept) there = Follow-over (Some kept) there

Follow-stored : (rows : List Row) (b : BookState) (slot : Option Observation) → Follow rows b → IfSome slot (λ o. are_known (length b.names) (observed_servers o) ≡ true) → Follow (changed rows (changes_by b slot)) (stored b slot)
Follow-stored rows b None follow known = follow
Follow-stored rows b (Some o) follow known = Follow-over rows b o follow known (instance_at b o.no) refl

-- what a job observed is stored, whichever server it read
Follow-observed : (rows : List Row) (count : ℕ) (s : State) (read : ℕ) (now : Moment) (o : Option Observation) → Ready count s → Follow rows s.book
    → ((x : Observation) → o ≡ Some x → (n : ServerNo) × (x ≡ observed s.world read now n)) → Follow (changed rows (changes_by s.book o)) (stored s.book o)
Follow-observed rows count s read now None ready follow is = follow
Follow-observed rows count s read now (Some x) ready follow is =
    let same = (is x refl).1 in
    subst (λ (y : Observation). Follow (changed rows (changes_by s.book (Some y))) (stored s.book (Some y))) (sym same) (go (is x refl).0 (instance_at s.book (is x refl).0) refl)
  where
    go : (n : ServerNo) (k : Option Instance) → instance_at s.book n ≡ k → Follow (changed rows (option_to_list (store_change k (observed s.world read now n)))) (stored_over s.book (observed s.world read now n) k)
    go n None at = follow
    go n (Some kept) at = Follow-over rows s.book (observed s.world read now n) follow (observed-known count s ready n read now kept at) (Some kept) at

-- leases are in no row
Follow-leases : (rows : List Row) (b : BookState) (leases : List (Option ℕ)) → length leases ≡ length b.leases → Follow rows b → Follow rows (record b { leases = leases })
Follow-leases rows b leases same follow = record { rising = follow.rising; book = leases_set b leases follow.book same; each = follow.each }

-- an entry that ends is in no row of the book
Follow-ending : (rows : List Row) (b : BookState) (a : AuditState) (now : Moment) (id : ℕ) (e : Ending) (acked : Bool) → IsAudit a → a.next ≤ 2 ^ 64 → Follow rows b → Follow (changed rows (end_changes a now id e acked)) b
Follow-ending rows b a now id e acked is small follow =
    subst (λ (cs : List Change). Follow (changed rows cs) b) (sym (end-puts now id e a acked))
    (Follow-recoveries rows b (option_to_list (option_map (ended_as now e acked) (recovery_at a id))) (end-small now id e a acked is small) follow)

-- and neither are those that begin
pub entries-puts : (xs : List RecoveryBegins) → entries_put xs ≡ map put_recovery (entries_of xs)
entries-puts [] = refl
entries-puts (x ∷ xs) = ap (λ (cs : List Change). put_recovery x.entry ∷ cs) (entries-puts xs)

Follow-begins : (rows : List Row) (b : BookState) (xs : List RecoveryBegins) → All (λ r. r.id < 2 ^ 64) (entries_of xs) → Follow rows b
    → Follow (changed rows (entries_put xs)) (record b { leases = leases_after b.leases xs })
Follow-begins rows b xs small follow =
    Follow-leases (changed rows (entries_put xs)) b (leases_after b.leases xs) (length-after b.leases xs)
    (subst (λ (cs : List Change). Follow (changed rows cs) b) (sym (entries-puts xs)) (Follow-recoveries rows b (entries_of xs) small follow))

-- a job's turn
module _ (rows : List Row) (count : ℕ) (s : State) (id : ℕ) (ready : Ready count s) (follow : Follow rows s.book) where
  Follow-by : (o : Option Observation) (going : Bool) → Follow (changed rows (changes_by s.book o)) (stored s.book o)
      → Follow (changed rows (changes_by s.book o)) (if going then stored s.book o else without_leases (stored s.book o) id)
  Follow-by o true after = after
  Follow-by o false after = Follow-leases (changed rows (changes_by s.book o)) (stored s.book o) (given_back (stored s.book o).leases id) (length-map (stored s.book o).leases _) after

  Follow-seen : (o : Option Unended) → job_at s.jobs id ≡ o → Follow (changed rows (changes_by s.book (job_observation (option_map (turn_of s) o)))) (book_turned s.book id (option_map (turn_of s) o))
  Follow-seen None at = follow
  Follow-seen (Some u) at =
      Follow-by (turn_of s u).observation (is_going (turn_of s u).step)
      (Follow-observed rows count s (next_count s.reads) (moment_at s) (turn_of s u).observation ready follow (job-sees count s id u ready at))

  Follow-job : IsAudit s.audit → s.audit.next ≤ 2 ^ 64
      → Follow (changed rows (changes_by s.book (job_observation (turned_at s id)) ++ closing_changes s.audit (moment_at s) (closing_of (turned_at s id)))) (book_turned s.book id (turned_at s id))
  Follow-job is small =
      let cs = changes_by s.book (job_observation (turned_at s id)) in
      subst (λ (xs : List Row). Follow xs (book_turned s.book id (turned_at s id))) (sym (fold-append changed_by rows cs (closing_changes s.audit (moment_at s) (closing_of (turned_at s id)))))
      (turned-ends count s id (λ a ds. Follow (changed (changed rows cs) ds) (book_turned s.book id (turned_at s id))) (Follow-seen (job_at s.jobs id) refl)
      (λ entry e acked closes there. Follow-ending (changed rows cs) (book_turned s.book id (turned_at s id)) s.audit (moment_at s) entry e acked is small (Follow-seen (job_at s.jobs id) refl)))

-- what a command makes of the book, and the changes of the kept rows
Follow-command : (rows : List Row) (count : ℕ) (s : State) (c : CommandTurn) → Ready count s → IsAudit s.audit → s.audit.next ≤ 2 ^ 64 → (updated (known_of s) (command_outcome s c).book).audit.next ≤ 2 ^ 64 → IsCommand count c
    → Follow rows s.book → Follow (changed rows (command_outcome s c).rows) (updated (known_of s) (command_outcome s c).book).book
Follow-command rows count s c ready audit small most command follow = by (command_outcome s c) (command-comes s c) most
  where
    effect-follows : (e : Effect) → IsEffectFor (length s.book.names) e → Follow (changed rows (rows_of s.audit e)) (book_decided s.book e)
    effect-follows effect.Stays fits = follow
    effect-follows (effect.Change x) fits = Follow-change rows s.book x follow fits.0 fits.1
    effect-follows (effect.Acks cluster) fits = Follow-recoveries rows s.book (acking s.audit cluster) (acking-small s.audit cluster audit small) follow

    by : (o : Outcome) → Comes s c o → (updated (known_of s) o.book).audit.next ≤ 2 ^ 64 → Follow (changed rows o.rows) (updated (known_of s) o.book).book
    by o (comes.Discovered i seen at there) most =
        Follow-discovery rows s.book (reading s i) follow (reads-known count s ready i (given-in count s ready c command i at)) seen there (instance_at s.book i) refl
    by o (comes.Forgotten i at) most =
        let within = given-in count s ready c command i at in
        let few = follow.book.small in
        Follow-change rows s.book (removal i) follow (one_known (length s.book.names) i.0 within) (omega (arith, within, few))
    by o (comes.Decided d at may) most = effect-follows (decided_of s.book s.audit (moment_at s) c.keys c.command.i d).effect (decided-fits count s ready c command d)
    by o (comes.Begun p at free) most =
        let list = leases_by s.world s.book c.command p in
        let number = number_of (job_by s.world s.book c.command p (s.last_job + 1) s.configuration.wait s.configuration.every) in
        Follow-leases rows s.book (taken s.book.leases list number) (length-taken list s.book.leases number) follow
    by o (comes.Recovered x asked) most =
        let less : x.entry.id + 1 ≤ 2 ^ 64 = most in
        let y = with_told s.configuration s.book x in
        Follow-begins rows s.book (y ∷ []) (All-cons (λ (r : Recovery). r.id < 2 ^ 64) x.entry [] (omega (arith, less)) (All-nil (λ (r : Recovery). r.id < 2 ^ 64))) follow
    by o _ most = follow

Follow-restart : (rows : List Row) (s : State) → AreShort s.configuration → IsAudit s.audit → s.audit.next ≤ 2 ^ 64 → Follow rows s.book → Follow (changed rows (restart_changes rows s)) (reloaded_book rows s)
Follow-restart rows s periods audit small follow =
    let count = ap length follow.book.named ∙ length-map s.book.settings (λ x. x.name) in
    let few = follow.book.small in
    let first = audit.first in
    let period = period_by s.configuration in
    let given = blocks_given period (reloaded_rows rows s) in
    let ended = closing (reloaded_audit rows s) (interrupted_at rows s) in
    let is = audit-loaded period (short-by s.configuration periods) (length s.book.settings) s.audit.next (last_given s) rows (omega (arith, count, few)) first small (omega (arith, first)) in
    subst (λ (xs : List Row). Follow xs (reloaded_book rows s)) (sym (fold-append changed_by rows given (map put_recovery ended)))
    (Follow-recoveries (changed rows given) (reloaded_book rows s) ended (closing-small (reloaded_audit rows s) (interrupted_at rows s) is small)
    (Follow-given period rows rows (reloaded_book rows s) (length s.book.settings) (last_given s) (omega (arith, count, few)) (omega (arith, first, small))
    (Follow-loaded s.book.settings (last_given s) rows (omega (arith, count, few)) follow.rising)))

Follow-act : (count : ℕ) (rows : List Row) (s : State) (a : Act) → Ready count s → IsAudit s.audit → (after_act rows s a).audit.next ≤ 2 ^ 64 → IsAct count a → Follow rows s.book
    → Follow (changed rows (act_changes rows s a)) (after_act rows s a).book
Follow-act count rows s (act.PollRead p n) is audit most within follow = follow
Follow-act count rows s (act.PollStore p) is audit most within follow =
    let known : IsSlot count (slot_at s p) = All-at (IsSlot count) s.slots p None tt is.observed in
    Follow-stored rows s.book (slot_at s p) follow (subst (λ n. IfSome (slot_at s p) (λ o. are_known n (observed_servers o) ≡ true)) (sym is.names) known)
Follow-act count rows s (act.Command c) is audit most within follow =
    Follow-command rows count s c is audit (let on = next-goes-on rows s (turn.Act (act.Command c)) in omega (arith, on, most)) most within follow
Follow-act count rows s (act.Job job) is audit most within follow = Follow-job rows count s job is follow audit (let on = next-goes-on rows s (turn.Act (act.Job job)) in omega (arith, on, most))
Follow-act count rows s act.Scan is audit most within follow = Follow-begins rows s.book (recoveries_begun s (turn.Act act.Scan)) (small-ids s (turn.Act act.Scan) most) follow
Follow-act count rows s act.Restart is audit most within follow = Follow-restart rows s is.periods audit most follow

Follow-done : (count : ℕ) (rows : List Row) (s : State) (o : Option Act) → Ready count s → IsAudit s.audit → (after_done rows s o).audit.next ≤ 2 ^ 64 → IfSome o (IsAct count) → Follow rows s.book
    → Follow (changed rows (done_changes rows s o)) (after_done rows s o).book
Follow-done count rows s None is audit most within follow = follow
Follow-done count rows s (Some a) is audit most within follow = Follow-act count rows s a is audit most within follow

pub Follow-turn : (count : ℕ) (rows : List Row) (s : State) (t : Turn) → Ready count s → IsAudit s.audit → (step rows s t).audit.next ≤ 2 ^ 64 → IsTurn count t → Follow rows s.book
    → Follow (changed rows (changes_of rows s t)) (step rows s t).book
Follow-turn count rows s (turn.Step x) is audit most within follow = follow
Follow-turn count rows s (turn.Tick seconds) is audit most within follow = follow
Follow-turn count rows s (turn.Act a) is audit most within follow = Follow-act count rows s a is audit most within follow
Follow-turn count rows s (turn.As node a) is audit most within follow = Follow-done count rows s (act_in s (turn.As node a)) is audit most (act-fits count s (turn.As node a) within) follow
Follow-turn count rows s (turn.Claim node) is audit most within follow =
    let done = done_changes rows s (act_in s (turn.Claim node)) in
    let after = (after_done rows s (act_in s (turn.Claim node))).book in
    subst (λ (xs : List Row). Follow xs after) (sym (fold-append changed_by rows done (claim_changes s node)))
    (Follow-claims (changed rows done) after (claim_changes s node) (claim-changes-are s node) (Follow-done count rows s (act_in s (turn.Claim node)) is audit most (act-fits count s (turn.Claim node) within) follow))
Follow-turn count rows s (turn.Release node) is audit most within follow = Follow-claims rows s.book (release_changes s node) (release-changes-are s node) follow

-- what states are, with a book
pub ready-of : (s : State) → IsState s → IsBook s.book → Ready (length s.world.servers) s
ready-of s is book = record {
  servers = refl;
  book = book;
  names = is.names;
  slots = is.slots;
  observed = is.observed;
  sources = is.sources;
  jobs = All-weaker (IsUnended (length s.world.servers)) (IsReady (length s.world.servers)) (λ u range. job-ready (length s.world.servers) u range) s.jobs is.jobs;
  periods = record { block = is.block; blocks = is.blocks };
}

pub Follow-step : (rows : List Row) (s : State) (t : Turn) → IsState s → IsTurn (length s.world.servers) t → (step rows s t).audit.next ≤ 2 ^ 64 → Follow rows s.book → Follow (changed rows (changes_of rows s t)) (step rows s t).book
Follow-step rows s t is turn most follow = Follow-turn (length s.world.servers) rows s t (ready-of s is follow.book) is.audit most turn follow
