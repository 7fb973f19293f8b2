-- Kept rows follow the audit of a run.
use Rattle.std.proofs.Common.{◌≡◌, ◌∙◌, ℕ, ◌+◌, ◌<◌, ◌≤◌, ◌^◌, Bool, true, false, List, [], ◌∷◌, ◌++◌, length, refl, sym, ap, subst, Option, Some, None, arith, All, IfSome, fold, nat_lt, if◌then◌else◌}
use Rattle.run_laws.proofs.Prelude.{Act, All-at, All-cons, All-head, All-nil, All-tail, AuditState, BeginApartInTurn, Begins as RecoveryBegins}
use Rattle.run_laws.proofs.Prelude.{BookState, Change, Comes, CommandTurn, Effect, Follow, FollowAudit, FollowAudit-acknowledged, FollowAudit-book}
use Rattle.run_laws.proofs.Prelude.{FollowAudit-closed, FollowAudit-loaded, FollowAudit-opened, Held, Instance, IsAct, IsAudited, IsBook, IsCommand}
use Rattle.run_laws.proofs.Prelude.{IsEffectFor, IsInRange, IsRising, IsScenario, IsSlot, IsState, IsTurn, Moment, Observation, Outcome, Ready, Row}
use Rattle.run_laws.proofs.Prelude.{Scenario, ServerNo, State, Status as Seen, Turn, Unended, act-fits, act_changes, act_in, after_act, after_done}
use Rattle.run_laws.proofs.Prelude.{all-missing, all-registering, are_known, asked, asked-next, asked-short, audit_after, audit_of}
use Rattle.run_laws.proofs.Prelude.{begun as begun_with, blocks_given, changed, changed_by, changes_by, changes_of, claim_changes, closed, closed_by}
use Rattle.run_laws.proofs.Prelude.{closing_changes, closing_of, command-comes, command_outcome, counted, decided_of, discovery_change, done_changes}
use Rattle.run_laws.proofs.Prelude.{engine, entries_of, entries_put, first_seen, fits, fold-append, held_run, held_step, instance_at, interrupted_at}
use Rattle.run_laws.proofs.Prelude.{interrupting, job_at, job_observation, known_of, last_given, left-alone, loaded_audit, loaded_book, longest_block}
use Rattle.run_laws.proofs.Prelude.{missing_from, moment_at, next_count, observed, observed_servers, one_known, option_map, option_to_list, period_by}
use Rattle.run_laws.proofs.Prelude.{period_of, put_recovery, reading, recoveries_begun, recovery_at, registering_from, release_changes}
use Rattle.run_laws.proofs.Prelude.{reloaded_audit, reloaded_rows, removal, renewed, restart_changes, row_after, row_at, row_in, row_in-changed}
use Rattle.run_laws.proofs.Prelude.{rows_of, same_instance, seen_servers, servers-start, short-in, slot_at, sort_key, sources-start, start}
use Rattle.run_laws.proofs.Prelude.{start_changes, start_moment, start_rows, start_world, step, store_change, turn_of, turned_at, updated}
use Rattle.run_laws.proofs.Prelude.Decisions.{audit_after as audit_decided}
use Rattle.run_laws.proofs.Prelude.act
use Rattle.run_laws.proofs.Prelude.change
use Rattle.run_laws.proofs.Prelude.effect
use Rattle.run_laws.proofs.Prelude.kept_row as row
use Rattle.run_laws.proofs.Prelude.key
use Rattle.run_laws.proofs.Prelude.table
use Rattle.run_laws.proofs.Prelude.turn
use Rattle.run_laws.proofs.Prelude.comes
use Rattle.run_laws.proofs.Readiness.{job-sees, Ready-start, Ready-step}
use Rattle.run_laws.proofs.Ready.{observed-known, put-kept, settings-count}
use Rattle.run_laws.proofs.Periods.{short-by}
use Rattle.run_laws.proofs.Beginnings.{next-after, turn-apart, turn-short}
use Rattle.run_laws.proofs.Closings.{follow-end, turned-ends}
use Rattle.run_laws.proofs.Counting.{next-goes-on}
use Rattle.run_laws.proofs.Entering.{follow-entry}
use Rattle.run_laws.proofs.Follows.{Follow-start, Follow-turn, ready-of}
use Rattle.run_laws.proofs.ClaimRows.{FollowAudit-claims, claim-changes-are, release-changes-are}
use Rattle.run_laws.proofs.ReadyOutcomes.{decided-fits, given-in, reads-known, short-periods}

-- ---- changes of the book's rows

-- the book takes the change, and its key is in its type's range
abbrev pub IsBooked : ℕ → Change → Type 0
IsBooked count c = (fits count c ≡ true) × IsInRange c

pub booked-follow : (count : ℕ) (rows : List Row) (a : AuditState) (cs : List Change) → count ≤ 2 ^ 32 → All (IsBooked count) cs → FollowAudit count rows a → FollowAudit count (changed rows cs) a
booked-follow count rows a [] few all follow = follow
booked-follow count rows a (c ∷ cs) few all follow =
    let here = All-head (IsBooked count) c cs all in
    booked-follow count (changed_by rows c) a cs few (All-tail (IsBooked count) c cs all) (FollowAudit-book count rows a c few follow here.0 here.1)

pub one-booked : (count : ℕ) (c : Change) → IsBooked count c → All (IsBooked count) (c ∷ [])
one-booked count c is = All-cons (IsBooked count) c [] is (All-nil (IsBooked count))

-- a reading of servers that the book knows
module _ (b : BookState) (o : Observation) (is : IsBook b) (known : are_known (length b.names) (observed_servers o) ≡ true) where
  stored-booked : (x : Option Instance) → instance_at b o.no ≡ x → All (IsBooked (length b.names)) (option_to_list (store_change x o))
  stored-booked None at = All-nil (IsBooked (length b.names))
  stored-booked (Some kept) at = go (nat_lt o.read kept.read) (same_instance kept (renewed kept o))
    where
      go : (old same : Bool) → All (IsBooked (length b.names)) (option_to_list (if old then None else (if same then None else Some (change.Put (row.Instance (renewed kept o))))))
      go true same = All-nil (IsBooked (length b.names))
      go false true = All-nil (IsBooked (length b.names))
      go false false = one-booked (length b.names) (change.Put (row.Instance (renewed kept o))) (put-kept b o is known kept at, tt)

  pub discovery-booked : (seen : Seen) → o.seen ≡ Some seen → (x : Option Instance) → instance_at b o.no ≡ x → All (IsBooked (length b.names)) (option_to_list (discovery_change x o seen))
  discovery-booked seen at None lacks =
      one-booked (length b.names) (change.Put (row.Instance (first_seen o seen))) (subst (λ (x : Option Seen). are_known (length b.names) (o.no.0 ∷ seen_servers x) ≡ true) at known, tt)
  discovery-booked seen at (Some kept) there = stored-booked (Some kept) there

-- a command's reading of a server
pub found-booked : (count : ℕ) (s : State) (c : CommandTurn) → Ready count s → IsCommand count c → (i : ServerNo) (seen : Seen) → c.command.i ≡ Some i → (reading s i).seen ≡ Some seen
    → All (IsBooked (length s.book.names)) (option_to_list (discovery_change (instance_at s.book i) (reading s i) seen))
found-booked count s c ready command i seen at there =
    discovery-booked s.book (reading s i) ready.book (reads-known count s ready i (given-in count s ready c command i at)) seen there (instance_at s.book i) refl

pub slot-booked : (b : BookState) (slot : Option Observation) → IsBook b → IfSome slot (λ o. are_known (length b.names) (observed_servers o) ≡ true) → All (IsBooked (length b.names)) (changes_by b slot)
slot-booked b None is known = All-nil (IsBooked (length b.names))
slot-booked b (Some o) is known = stored-booked b o is known (instance_at b o.no) refl

-- what a job observed, whichever server it read
observed-booked : (count : ℕ) (s : State) (read : ℕ) (now : Moment) (o : Option Observation) → Ready count s → ((x : Observation) → o ≡ Some x → (n : ServerNo) × (x ≡ observed s.world read now n))
    → All (IsBooked (length s.book.names)) (changes_by s.book o)
observed-booked count s read now None ready is = All-nil (IsBooked (length s.book.names))
observed-booked count s read now (Some x) ready is =
    let same = (is x refl).1 in
    subst (λ (y : Observation). All (IsBooked (length s.book.names)) (changes_by s.book (Some y))) (sym same) (go (is x refl).0 (instance_at s.book (is x refl).0) refl)
  where
    go : (n : ServerNo) (k : Option Instance) → instance_at s.book n ≡ k → All (IsBooked (length s.book.names)) (option_to_list (store_change k (observed s.world read now n)))
    go n None at = All-nil (IsBooked (length s.book.names))
    go n (Some kept) at = stored-booked s.book (observed s.world read now n) ready.book (observed-known count s ready n read now kept at) (Some kept) at

pub job-booked : (count : ℕ) (s : State) (id : ℕ) (o : Option Unended) → job_at s.jobs id ≡ o → Ready count s → All (IsBooked (length s.book.names)) (changes_by s.book (job_observation (option_map (turn_of s) o)))
job-booked count s id None at ready = All-nil (IsBooked (length s.book.names))
job-booked count s id (Some u) at ready = observed-booked count s (next_count s.reads) (moment_at s) (turn_of s u).observation ready (job-sees count s id u ready at)

-- ---- recoveries that begin

follow-begins : (count : ℕ) (now : Moment) (rows : List Row) (a : AuditState) (xs : List RecoveryBegins) → BeginApartInTurn now a (entries_of xs) → All (λ x. x.entry.block ≤ longest_block) xs
    → (audit_after a xs).next ≤ 2 ^ 64 → FollowAudit count rows a → FollowAudit count (changed rows (entries_put xs)) (audit_after a xs)
follow-begins count now rows a [] each short most follow = follow
follow-begins count now rows a (x ∷ xs) each short most follow =
    let on = next-after now (begun_with a x.entry) xs each.1 in
    follow-begins count now (changed_by rows (put_recovery x.entry)) (begun_with a x.entry) xs each.1 (All-tail (λ (y : RecoveryBegins). y.entry.block ≤ longest_block) x xs short) most
    (follow-entry count rows a x.entry each.0.number (All-head (λ (y : RecoveryBegins). y.entry.block ≤ longest_block) x xs short) follow (omega (arith, on, most)))

-- ---- a command

pub removal-booked : (b : BookState) → IsBook b → (i : ServerNo) → i.0 < length b.names → All (IsBooked (length b.names)) (removal i ∷ [])
removal-booked b is i within = let small = is.small in one-booked (length b.names) (removal i) (one_known (length b.names) i.0 within, omega (arith, within, small))

follow-command : (rows : List Row) (count : ℕ) (s : State) (c : CommandTurn) → Ready count s → (updated (known_of s) (command_outcome s c).book).audit.next ≤ 2 ^ 64 → IsCommand count c → FollowAudit count rows s.audit
    → FollowAudit count (changed rows (command_outcome s c).rows) (updated (known_of s) (command_outcome s c).book).audit
follow-command rows count s c ready most command follow = by (command_outcome s c) (command-comes s c) most
  where
    all : (cs : List Change) → All (IsBooked (length s.book.names)) cs → FollowAudit count (changed rows cs) s.audit
    all cs booked =
        let few : count < 2 ^ 32 = subst (λ (n : ℕ). n < 2 ^ 32) ready.names ready.book.small in
        booked-follow count rows s.audit cs (omega (arith, few)) (subst (λ (n : ℕ). All (IsBooked n) cs) ready.names booked) follow

    effect-follows : (e : Effect) → IsEffectFor (length s.book.names) e → FollowAudit count (changed rows (rows_of s.audit e)) (audit_decided s.audit e)
    effect-follows effect.Stays fits = follow
    effect-follows (effect.Change x) fits = all (x ∷ []) (one-booked (length s.book.names) x fits)
    effect-follows (effect.Acks cluster) fits = FollowAudit-acknowledged count rows s.audit cluster follow

    by : (o : Outcome) → Comes s c o → (updated (known_of s) o.book).audit.next ≤ 2 ^ 64 → FollowAudit count (changed rows o.rows) (updated (known_of s) o.book).audit
    by o (comes.Discovered i seen at there) most = all (option_to_list (discovery_change (instance_at s.book i) (reading s i) seen)) (found-booked count s c ready command i seen at there)
    by o (comes.Forgotten i at) most = all (removal i ∷ []) (removal-booked s.book ready.book i (given-in count s ready c command i at))
    by o (comes.Decided d at may) most = effect-follows (decided_of s.book s.audit (moment_at s) c.keys c.command.i d).effect (decided-fits count s ready c command d)
    by o (comes.Recovered x asked) most = follow-entry count rows s.audit x.entry (asked-next s c.command x asked) (asked-short s c.command (short-periods count s ready) x asked) follow most
    by o _ most = follow

-- ---- every turn

settings-are : (count : ℕ) (s : State) → Ready count s → length s.book.settings ≡ count
settings-are count s ready = settings-count s.book ready.book ∙ ready.names

follow-restart : (count : ℕ) (rows : List Row) (s : State) → Ready count s → IsRising rows → FollowAudit count rows s.audit → FollowAudit count (changed rows (restart_changes rows s)) (closed (reloaded_audit rows s) (interrupted_at rows s))
follow-restart count rows s ready rising follow =
    let few = ready.book.small in
    let names = ready.names in
    let period = period_by s.configuration in
    let given = blocks_given period (reloaded_rows rows s) in
    let loads = FollowAudit-loaded period count s.audit.next rows (short-by s.configuration ready.periods) (omega (arith, few, names)) follow.audit.first follow.small rising in
    subst (λ (xs : List Row). FollowAudit count xs (closed (reloaded_audit rows s) (interrupted_at rows s))) (sym (fold-append changed_by rows given (interrupting (reloaded_audit rows s) (interrupted_at rows s))))
    (FollowAudit-closed count (changed rows given) (reloaded_audit rows s) (interrupted_at rows s)
    (subst (λ (n : ℕ). FollowAudit count (changed rows (blocks_given period (counted n (last_given s) rows))) (audit_of period s.audit.next (counted n (last_given s) rows))) (sym (settings-are count s ready)) loads))

-- a job's turn: what it observed, and the entry that ends
follow-job : (count : ℕ) (rows : List Row) (s : State) (id : ℕ) → Ready count s → FollowAudit count rows s.audit
    → FollowAudit count (changed rows (changes_by s.book (job_observation (turned_at s id)) ++ closing_changes s.audit (moment_at s) (closing_of (turned_at s id)))) (closed_by s.audit (moment_at s) (closing_of (turned_at s id)))
follow-job count rows s id is follow =
    let small = is.book.small in
    let names = is.names in
    let cs = changes_by s.book (job_observation (turned_at s id)) in
    let booked = booked-follow count rows s.audit cs (omega (arith, small, names)) (subst (λ (n : ℕ). All (IsBooked n) cs) is.names (job-booked count s id (job_at s.jobs id) refl is)) follow in
    subst (λ (xs : List Row). FollowAudit count xs (closed_by s.audit (moment_at s) (closing_of (turned_at s id)))) (sym (fold-append changed_by rows cs (closing_changes s.audit (moment_at s) (closing_of (turned_at s id)))))
    (turned-ends count s id (λ a ds. FollowAudit count (changed (changed rows cs) ds) a) booked (λ entry e acked closes there. follow-end (moment_at s) entry e count (changed rows cs) s.audit acked booked))

follow-act : (count : ℕ) (rows : List Row) (s : State) (a : Act) → Ready count s → IsAct count a → IsRising rows → (after_act rows s a).audit.next ≤ 2 ^ 64 → FollowAudit count rows s.audit
    → FollowAudit count (changed rows (act_changes rows s a)) (after_act rows s a).audit
follow-act count rows s (act.PollRead p n) is within rising most follow = follow
follow-act count rows s (act.PollStore p) is within rising most follow =
    let known : IsSlot count (slot_at s p) = All-at (IsSlot count) s.slots p None tt is.observed in
    let small = is.book.small in
    let names = is.names in
    booked-follow count rows s.audit (changes_by s.book (slot_at s p)) (omega (arith, small, names))
    (subst (λ (n : ℕ). All (IsBooked n) (changes_by s.book (slot_at s p))) is.names
    (slot-booked s.book (slot_at s p) is.book (subst (λ n. IfSome (slot_at s p) (λ o. are_known n (observed_servers o) ≡ true)) (sym is.names) known))) follow
follow-act count rows s (act.Command c) is command rising most follow = follow-command rows count s c is most command follow
follow-act count rows s (act.Job job) is within rising most follow = follow-job count rows s job is follow
follow-act count rows s act.Scan is within rising most follow =
    follow-begins count (moment_at s) rows s.audit (recoveries_begun s (turn.Act act.Scan)) (turn-apart s (turn.Act act.Scan)) (turn-short count s (turn.Act act.Scan) is) most follow
follow-act count rows s act.Restart is within rising most follow = follow-restart count rows s is rising follow

follow-done : (count : ℕ) (rows : List Row) (s : State) (o : Option Act) → Ready count s → IfSome o (IsAct count) → IsRising rows → (after_done rows s o).audit.next ≤ 2 ^ 64 → FollowAudit count rows s.audit
    → FollowAudit count (changed rows (done_changes rows s o)) (after_done rows s o).audit
follow-done count rows s None is within rising most follow = follow
follow-done count rows s (Some a) is within rising most follow = follow-act count rows s a is within rising most follow

pub follow-turn : (count : ℕ) (rows : List Row) (s : State) (t : Turn) → Ready count s → IsTurn count t → IsRising rows → (step rows s t).audit.next ≤ 2 ^ 64 → FollowAudit count rows s.audit
    → FollowAudit count (changed rows (changes_of rows s t)) (step rows s t).audit
follow-turn count rows s (turn.Step x) is within rising most follow = follow
follow-turn count rows s (turn.Tick seconds) is within rising most follow = follow
follow-turn count rows s (turn.Act a) is within rising most follow = follow-act count rows s a is within rising most follow
follow-turn count rows s (turn.As node a) is within rising most follow = follow-done count rows s (act_in s (turn.As node a)) is (act-fits count s (turn.As node a) within) rising most follow
follow-turn count rows s (turn.Claim node) is within rising most follow =
    let done = done_changes rows s (act_in s (turn.Claim node)) in
    let after = (after_done rows s (act_in s (turn.Claim node))).audit in
    subst (λ (xs : List Row). FollowAudit count xs after) (sym (fold-append changed_by rows done (claim_changes s node)))
    (FollowAudit-claims count (changed rows done) after (claim_changes s node) (claim-changes-are s node) (follow-done count rows s (act_in s (turn.Claim node)) is (act-fits count s (turn.Claim node) within) rising most follow))
follow-turn count rows s (turn.Release node) is within rising most follow = FollowAudit-claims count rows s.audit (release_changes s node) (release-changes-are s node) follow

pub FollowAudit-step : (rows : List Row) (s : State) (t : Turn) → IsState s → IsTurn (length s.world.servers) t → (step rows s t).audit.next ≤ 2 ^ 64 → Follow rows s.book → FollowAudit (length s.world.servers) rows s.audit
    → FollowAudit (length s.world.servers) (changed rows (changes_of rows s t)) (step rows s t).audit
FollowAudit-step rows s t is turn most book follow = follow-turn (length s.world.servers) rows s t (ready-of s is book.book) turn book.rising most follow

-- ---- an opening

-- changes of the book leave what is kept under the ids of recoveries
rows-stay : (count id : ℕ) → count ≤ 2 ^ 32 → id < 2 ^ 64 → (cs : List Change) → All (IsBooked count) cs → (x : Option Row) → fold (row_after (sort_key table.Recovery (key.Id id))) x cs ≡ x
rows-stay count id few small [] all x = refl
rows-stay count id few small (c ∷ cs) all x =
    let here = All-head (IsBooked count) c cs all in
    ap (λ (y : Option Row). fold (row_after (sort_key table.Recovery (key.Id id))) y cs) (left-alone count id few small c here.0 here.1 x)
    ∙ rows-stay count id few small cs (All-tail (IsBooked count) c cs all) x

-- so it makes no difference that they come first
follow-behind : (count : ℕ) (rows : List Row) (a : AuditState) (before cs : List Change) → count ≤ 2 ^ 32 → All (IsBooked count) before → FollowAudit count (changed rows cs) a → FollowAudit count (changed rows (before ++ cs)) a
follow-behind count rows a before cs few all follow = record {
  audit = follow.audit;
  small = follow.small;
  each = λ id small. subst (λ (k : Option Row). IsAudited count a.next k (recovery_at a id)) (same id small) (follow.each id small);
}
  where
    same : (id : ℕ) → id < 2 ^ 64 → row_at (changed rows cs) table.Recovery (key.Id id) ≡ row_at (changed rows (before ++ cs)) table.Recovery (key.Id id)
    same id small =
        let p = sort_key table.Recovery (key.Id id) in
        row_in-changed rows cs p
        ∙ sym (row_in-changed rows (before ++ cs) p
        ∙ (fold-append (row_after p) (row_in rows p) before cs
        ∙ ap (λ (x : Option Row). fold (row_after p) x cs) (rows-stay count id few small before all (row_in rows p))))

module _ (s : Scenario) (wait : ℕ) (rows : List Row) (is : IsScenario s) where
  pub FollowAudit-start : IsRising rows → FollowAudit (length s.opening.servers) (changed rows (start_changes s rows)) (start s wait rows).audit
  FollowAudit-start rising =
      let n = length s.opening.servers in
      let w = start_world s in
      let at = start_moment s rows in
      let b = loaded_book s rows in
      let a = loaded_audit s rows in
      let least = is.checked.listed.few in
      let few : n ≤ 2 ^ 32 = omega (arith, least) in
      let instances = missing_from w at b 0 s.known in
      let candidates = registering_from at b 0 s.rules in
      let given = blocks_given (period_of s) (start_rows s rows) in
      let ended = interrupting a at in
      let P : Change → Type 0 = IsBooked n in
      let loads = FollowAudit-opened (period_of s) n rows (λ cluster. short-in s.blocks s.block cluster is.blocks is.block) few rising in
      let ends : FollowAudit n (changed rows (given ++ ended)) (closed a at) =
      subst (λ (xs : List Row). FollowAudit n xs (closed a at)) (sym (fold-append changed_by rows given ended)) (FollowAudit-closed n (changed rows given) a at loads) in
      follow-behind n rows (closed a at) instances (candidates ++ (given ++ ended)) few (all-missing P n (λ i h. (h, tt)) w at b (sources-start s is) (servers-start s) s.known)
      (follow-behind n rows (closed a at) candidates (given ++ ended) few (all-registering P n (λ c h. (h, tt)) at b s.rules is.rules) ends)

-- ---- over a whole run

-- both the book and the audit are followed
pub record FollowsBoth (count : ℕ) (h : Held State) : Type 0 where
  pub ready : Ready count h.state
  pub book : Follow h.rows h.state.book
  pub audit : FollowAudit count h.rows h.state.audit

-- the next id of each state is at most that of the last one
pub next-run : (h : Held State) (ts : List Turn) → h.state.audit.next ≤ (held_run engine h ts).state.audit.next
next-run h [] = omega arith
next-run h (t ∷ ts) =
    let here = next-goes-on h.rows h.state t in
    let rest = next-run (held_step engine h t) ts in
    omega (arith, here, rest)

pub both-run : (count : ℕ) (h : Held State) (ts : List Turn) → All (IsTurn count) ts → (held_run engine h ts).state.audit.next ≤ 2 ^ 64 → FollowsBoth count h → FollowsBoth count (held_run engine h ts)
both-run count h [] all most both = both
both-run count h (t ∷ ts) all most both =
    let here = All-head (IsTurn count) t ts all in
    let rest = next-run (held_step engine h t) ts in
    let small : (step h.rows h.state t).audit.next ≤ 2 ^ 64 = omega (arith, rest, most) in
    both-run count (held_step engine h t) ts (All-tail (IsTurn count) t ts all) most (record {
      ready = Ready-step count h.rows h.state t both.ready here;
      book = Follow-turn count h.rows h.state t both.ready both.audit.audit small here both.book;
      audit = follow-turn count h.rows h.state t both.ready here both.book.rising small both.audit;
    })

-- with which the run begins
abbrev pub held-start : Scenario → ℕ → List Row → Held State
held-start s wait rows = record { rows = changed rows (start_changes s rows); state = start s wait rows }

module _ (s : Scenario) (wait : ℕ) (rows : List Row) (ts : List Turn) (is : IsScenario s) (rising : IsRising rows) (all : All (IsTurn (length s.opening.servers)) ts) where
  abbrev whole : Held State
  whole = held_run engine (held-start s wait rows) ts

  pub both-whole : whole.state.audit.next ≤ 2 ^ 64 → FollowsBoth (length s.opening.servers) whole
  both-whole most =
      both-run (length s.opening.servers) (held-start s wait rows) ts all most
      (record { ready = Ready-start s wait rows is; book = Follow-start s wait rows is rising; audit = FollowAudit-start s wait rows is rising })

  pub Follow-whole : whole.state.audit.next ≤ 2 ^ 64 → Follow whole.rows whole.state.book
  Follow-whole most = (both-whole most).book

  pub FollowAudit-whole : whole.state.audit.next ≤ 2 ^ 64 → FollowAudit (length s.opening.servers) whole.rows whole.state.audit
  FollowAudit-whole most = (both-whole most).audit
