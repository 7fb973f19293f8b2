-- What commands change fits the book, and keeps what holds of states.
use Rattle.std.proofs.Common.{◌≡◌, ◌∙◌, ℕ, ◌+◌, ◌<◌, ◌≤◌, ◌^◌, Bool, true, false, List, [], map, length, refl, sym, ap, subst, Option, Some, None, arith, All, IfSome, ◌&&◌, is_some, nat_lt, if◌then◌else◌}
use Rattle.orch_core.proofs.Prelude.{All-append, All-cons, All-map, All-nil, All-push, All-weaker, AuditState, BeginInTime, Begins as RecoveryBegins}
use Rattle.orch_core.proofs.Prelude.{BookState, CanSettle, CommandTurn, Decided, Decision, Effect, HasSameServers, HaveEntries, Instance, IsAudit}
use Rattle.orch_core.proofs.Prelude.{IsBook, IsCommand, IsEffect, IsInRange, IsNext, IsState, IsUnended as JobRange, IsUpdate, Keys, Knowledge}
use Rattle.orch_core.proofs.Prelude.{LeavesIds, Moment, Observation, Outcome, Rise, Rise-push, Row, ServerNo, State, Status as Seen, Update, about}
use Rattle.orch_core.proofs.Prelude.{acked, added_over, are_known, asked, attempt_of, book_after as book_decided, both_true, candidate_of}
use Rattle.orch_core.proofs.Prelude.{command_outcome, decided_of, discovered_over, downtime_at, downtime_begun, downtime_ended, downtime_of}
use Rattle.orch_core.proofs.Prelude.{downtime_removal, effect_by, fits, has_needed, has_row, instance_at, is_within, job-number, job_by, known_of}
use Rattle.orch_core.proofs.Prelude.{label_at, next_count, next_reading, numbers_of, observed_servers, period_by, put_change, recovery_job, row_fits}
use Rattle.orch_core.proofs.Prelude.{same-change, scan-in-turn, scan-moments, scan_outcome, scanned, terms_of, told-in-turn, updated, with_known}
use Rattle.orch_core.proofs.Prelude.{with_told}
use Rattle.orch_core.proofs.Prelude.Outcomes.{begun}
use Rattle.orch_core.proofs.Prelude.Decisions.{registered}
use Rattle.orch_core.proofs.Prelude.change
use Rattle.orch_core.proofs.Prelude.decision
use Rattle.orch_core.proofs.Prelude.effect
use Rattle.orch_core.proofs.Prelude.key
use Rattle.orch_core.proofs.Prelude.row
use Rattle.orch_core.proofs.Prelude.table
use Rattle.orch_core.proofs.Prelude.update
use Rattle.orch_core.proofs.Recoveries.{HasBegun, acked-begun, acked-is}
use Rattle.orch_core.proofs.Entries.{entries-acknowledged, entries-push}
use Rattle.orch_core.proofs.Joining.{joined-audit, joined-begun, joined-entries, joined-next, joined-range, joined-rising}
use Rattle.orch_core.proofs.Periods.{hand-short, period-short}
use Rattle.orch_core.proofs.Beginnings.{begun-unended, job-entry, may-take}
use Rattle.orch_core.proofs.States.{reading_known, one_known, same-over, same-self}
use Rattle.orch_core.proofs.Comes as comes
use Rattle.orch_core.proofs.Comes.{Comes, asked-can, asked-now, command-comes, given-there}

below : (m n : ℕ) → nat_lt m n ≡ true → m < n
below m n h = grind arith

pub given-within : (count : ℕ) (c : CommandTurn) → IsCommand count c → is_within count c.command.i ≡ true
given-within count c command =
    let both = both_true (has_needed c && is_within count c.command.i) (is_within count c.command.d) command.fits in
    (both_true (has_needed c) (is_within count c.command.i) both.0).1

pub destination-within : (count : ℕ) (c : CommandTurn) → IsCommand count c → is_within count c.command.d ≡ true
destination-within count c command = (both_true (has_needed c && is_within count c.command.i) (is_within count c.command.d) command.fits).1

pub given-duration : (count : ℕ) (c : CommandTurn) → IsCommand count c → IfSome c.keys.duration (λ n. n ≤ 31536000)
given-duration count c command = go c.keys.duration command.duration
  where
    go : (d : Option ℕ) → IfSome d (λ n. (1 ≤ n) × (n ≤ 31536000)) → IfSome d (λ n. n ≤ 31536000)
    go None h = tt
    go (Some n) h = h.1

-- the book takes the change of an effect, whose numbers are in their ranges
abbrev pub IsEffectFor : ℕ → Effect → Type 0
IsEffectFor count effect.Stays = Unit {0}
IsEffectFor count (effect.Change c) = (fits count c ≡ true) × IsInRange c
IsEffectFor count (effect.Acks cluster) = Unit {0}

taken-effect : (b : BookState) (e : Effect) → IsEffectFor (length b.names) e → IsEffect b e
taken-effect b effect.Stays is = tt
taken-effect b (effect.Change c) is = is.0
taken-effect b (effect.Acks cluster) is = tt

module _ (b : BookState) (count : ℕ) (small : count < 2 ^ 32) where
  put-effect : (r : Row) → row_fits count r ≡ true → IsEffectFor count (effect_by (put_change b r))
  put-effect r fit = go (has_row b r)
    where
      go : (had : Bool) → IsEffectFor count (effect_by (if had then None else Some (change.Put r)))
      go true = tt
      go false = (fit, tt)

  removal-effect : (i : ServerNo) → i.0 < count → IsEffectFor count (effect_by (downtime_removal b i))
  removal-effect i within = go (is_some (downtime_at b i (record { 0 = 0 })))
    where
      go : (kept : Bool) → IsEffectFor count (effect_by (if kept then Some (change.Remove table.Downtime (key.Server i)) else None))
      go true = (one_known count i.0 within, omega (arith, within, small))
      go false = tt

  about-effect : (f : ServerNo → Decided) → ((i : ServerNo) → i.0 < count → IsEffectFor count (f i).effect) → (i : Option ServerNo) → is_within count i ≡ true → IsEffectFor count (about f i).effect
  about-effect f each None within = tt
  about-effect f each (Some i) within = each i (below i.0 count within)

  -- what an operator decides is of the book
  pub decided-effect : (a : AuditState) (now : Moment) (k : Keys) (i : Option ServerNo) (d : Decision) → is_within count i ≡ true → IsEffectFor count (decided_of b a now k i d).effect
  decided-effect a now k i decision.BeginDowntime within = about-effect (λ n. downtime_begun b (downtime_of now k n)) (λ n h. put-effect (row.Downtime (downtime_of now k n)) (one_known count n.0 h)) i within
  decided-effect a now k i decision.EndDowntime within = about-effect (downtime_ended b) removal-effect i within
  decided-effect a now k i decision.RegisterCandidate within = about-effect (λ n. registered b (candidate_of now k n)) (λ n h. put-effect (row.Candidate (candidate_of now k n)) (one_known count n.0 h)) i within
  decided-effect a now k i decision.DisableRecoveries within = put-effect (row.Switch false) refl
  decided-effect a now k i decision.EnableRecoveries within = put-effect (row.Switch true) refl
  decided-effect a now k i decision.AckRecoveries within = about-effect (acked b a) (λ n h. tt) i within

-- what a command makes of the book changes neither names nor settings

same-discovery : (b : BookState) (o : Observation) (kept : Option Instance) → HasSameServers b (discovered_over b o kept)
same-discovery b o None = go o.seen
  where
    go : (seen : Option Seen) → HasSameServers b (added_over b o seen)
    go None = same-self b
    go (Some seen) = record { settings = refl; names = refl }
same-discovery b o (Some kept) = same-over b o (Some kept)

same-decided : (b : BookState) (e : Effect) → HasSameServers b (book_decided b e)
same-decided b effect.Stays = same-self b
same-decided b (effect.Change c) = same-change b c
same-decided b (effect.Acks cluster) = same-self b

pub same-updated : (k : Knowledge) (u : Update) → HasSameServers k.book (updated k u).book
same-updated k (update.Change c) = same-change k.book c
same-updated k (update.Discovery o) = same-discovery k.book o (instance_at k.book o.no)
same-updated k (update.Decides e) = same-decided k.book e
same-updated k _ = record { settings = refl; names = refl }

-- ---- a state can take what a command or a scan comes to

pub command-settles : (s : State) (c : CommandTurn) → IsState s → IsBook s.book → s.configuration.wait < 2 ^ 32 → IsCommand (length s.world.servers) c → CanSettle s (command_outcome s c)
command-settles s c is book wait command = by (command_outcome s c) (command-comes s c)
  where
    over : IsCommand (length s.book.names) c
    over = subst (λ (n : ℕ). IsCommand n c) (sym is.names) command

    i_there : is_within (length s.book.names) c.command.i ≡ true
    i_there = given-within (length s.book.names) c over

    d_there : is_within (length s.book.names) c.command.d ≡ true
    d_there = destination-within (length s.book.names) c over

    reads : (i : ServerNo) → i.0 < length s.book.names → are_known (length s.book.names) (observed_servers (next_reading s.world (numbers_of s) i)) ≡ true
    reads i within =
        let here : i.0 < length s.world.servers = subst (λ (n : ℕ). i.0 < n) is.names within in
        subst (λ (n : ℕ). are_known n (observed_servers (next_reading s.world (numbers_of s) i)) ≡ true) (sym is.names) (reading_known s.world i (next_count s.reads) s.moment is.sources here)

    by : (o : Outcome) → Comes s c o → CanSettle s o
    by o (comes.Discovered i seen at there) = record { update = reads i (given-there (length s.book.names) c.command.i i at i_there); next = λ few. tt; time = tt }
    by o (comes.Forgotten i at) = record { update = one_known (length s.book.names) i.0 (given-there (length s.book.names) c.command.i i at i_there); next = λ few. tt; time = tt }
    by o (comes.Decided d at may) =
        let e = (decided_of s.book s.audit (record { 0 = s.moment }) c.keys c.command.i d).effect in
        record { update = taken-effect s.book e (decided-effect s.book (length s.book.names) book.small s.audit (record { 0 = s.moment }) c.keys c.command.i d i_there); next = λ few. tt; time = tt }
    by o (comes.Begun p at free) =
        let number = job-number s.world s.book c.command p (s.last_job + 1) s.configuration.wait s.configuration.every in
        record {
          update = may-take s.world s.book (record { 0 = s.moment }) s.configuration.every c.command p book i_there d_there free;
          next = λ few. record {
            number = number;
            range = subst (λ (n : ℕ). JobRange n (job_by s.world s.book c.command p (s.last_job + 1) s.configuration.wait s.configuration.every)) is.names
                (begun-unended s.world s.book (record { 0 = s.moment }) s.configuration.every c.command p book i_there d_there (s.last_job + 1) s.configuration.wait (subst (λ (n : ℕ). n < 2 ^ 64) number few) wait);
            entry = job-entry s.world s.book c.command p (s.last_job + 1) s.configuration.wait s.configuration.every;
          };
          time = tt;
        }
    by o (comes.Recovered x asked) =
        let most = is.moment in
        record {
          update = (asked-can s c.command book (λ i. hand-short s is i) i_there d_there x asked, tt);
          next = λ few. tt;
          time = All-cons (λ (y : RecoveryBegins). y.entry.begun.0 ≤ 2 ^ 63) (with_told s.configuration s.book x) [] (subst (λ (m : Moment). m.0 ≤ 2 ^ 63) (sym (asked-now s c.command x asked)) most)
              (All-nil (λ (y : RecoveryBegins). y.entry.begun.0 ≤ 2 ^ 63));
        }
    by o _ = record { update = tt; next = λ few. tt; time = tt }

-- what a scan begins
abbrev begun_in : State → List RecoveryBegins
begun_in s = (scanned s.world s.book s.audit (attempt_of s.configuration.master s.configuration.intermediate (period_by s.configuration) s.book (terms_of s.book (numbers_of s))) s.configuration.wait s.last_job).begun

pub scan-settles : (s : State) → IsState s → IsBook s.book → CanSettle s (scan_outcome s)
scan-settles s is book =
    let n = numbers_of s in
    let attempt = attempt_of s.configuration.master s.configuration.intermediate (period_by s.configuration) s.book (terms_of s.book n) in
    record {
      update =
          told-in-turn s.configuration s.book (length s.book.names) s.book.leases s.audit s.last_job (begun_in s)
          (scan-in-turn s.world s.book attempt s.configuration.wait s.audit s.last_job book (λ i. period-short s is (label_at s.book i)));
      next = λ few. tt;
      time = All-map (λ (x : RecoveryBegins). x.entry.begun.0 ≤ 2 ^ 63) (with_told s.configuration s.book) (begun_in s) (All-weaker (λ (x : RecoveryBegins). x.entry.begun ≡ n.moment) (λ x. x.entry.begun.0 ≤ 2 ^ 63) (λ x e. subst (λ (m : Moment). m.0 ≤ 2 ^ 63) (sym e) is.moment)
          (begun_in s) (scan-moments s.world s.book attempt s.configuration.wait s.audit s.last_job n.moment (λ i. refl)));
    }

-- ---- what is left keeps what holds of states

module _ (count : ℕ) (k : Knowledge) where
  jobs-updated : (u : Update) → IsUpdate k u → IsNext count k.last_job u → length k.book.names ≡ count → (updated k u).last_job < 2 ^ 64 → All (JobRange count) k.jobs → All (JobRange count) (updated k u).jobs
  jobs-updated (update.Begins x) is next names few all = All-push (JobRange count) k.jobs x.job all next.range
  jobs-updated (update.Recovers xs) is next names few all =
      All-append (JobRange count) k.jobs (map recovery_job xs) all (subst (λ (n : ℕ). All (JobRange n) (map recovery_job xs)) names (joined-range (length k.book.names) k.book.leases k.audit k.last_job xs is few))
  jobs-updated _ is next names few all = all

  rising-updated : (u : Update) → IsUpdate k u → IsNext count k.last_job u → Rise 0 k.jobs k.last_job → Rise 0 (updated k u).jobs (updated k u).last_job
  rising-updated (update.Begins x) is next rise = let number = next.number in Rise-push 0 k.jobs k.last_job x.job (omega (arith, number)) rise
  rising-updated (update.Recovers xs) is next rise = joined-rising (length k.book.names) 0 k.book.leases k.audit k.last_job xs k.jobs is rise
  rising-updated _ is next rise = rise

  -- an audit stays one
  audit-updated : (u : Update) → IsUpdate k u → IsAudit k.audit → IsAudit (updated k u).audit
  audit-updated (update.Decides (effect.Acks cluster)) is audit = acked-is k.audit cluster audit
  audit-updated (update.Recovers xs) is audit = joined-audit (length k.book.names) k.book.leases k.audit k.last_job xs is audit
  audit-updated _ is audit = audit

  -- and has the jobs' entries
  entries-updated : (u : Update) → IsUpdate k u → IsNext count k.last_job u → IsAudit k.audit → HaveEntries k.audit 0 k.jobs → HaveEntries (updated k u).audit 0 (updated k u).jobs
  entries-updated (update.Decides (effect.Acks cluster)) is next audit entries = entries-acknowledged k.audit cluster k.jobs entries
  entries-updated (update.Begins x) is next audit entries = entries-push k.audit 0 k.jobs x.job next.entry entries
  entries-updated (update.Recovers xs) is next audit entries = joined-entries (length k.book.names) k.book.leases k.audit k.last_job xs k.jobs is audit entries
  entries-updated _ is next audit entries = entries

-- the next id stays in its type's range
pub next-updated : (k : Knowledge) (u : Update) → LeavesIds u → k.audit.next < 2 ^ 64 → (updated k u).audit.next < 2 ^ 64
next-updated k (update.Decides effect.Stays) ids fits = fits
next-updated k (update.Recovers xs) ids fits = joined-next k.audit xs ids fits
next-updated k _ ids fits = fits

-- recoveries began in time
begun-updated : (k : Knowledge) (u : Update) → BeginInTime u → HasBegun k.audit.recoveries → HasBegun (updated k u).audit.recoveries
begun-updated k (update.Decides (effect.Acks cluster)) time all = acked-begun k.audit cluster all
begun-updated k (update.Recovers xs) time all = joined-begun k.audit xs time all
begun-updated k _ time all = all

-- what a command or a scan leaves, if the number of the last job fits its type
pub IsState-settled : (s : State) (o : Outcome) (now : Knowledge) → IsState s → CanSettle s o → LeavesIds o.book → now.last_job < 2 ^ 64 → now ≡ updated (known_of s) o.book
    → IsState (with_known (record s { reads = o.reads }) now)
IsState-settled s o now is can ids fits settles =
    let k = known_of s in
    let u = o.book in
    let few : (updated k u).last_job < 2 ^ 64 = subst (λ (x : Knowledge). x.last_job < 2 ^ 64) settles fits in
    let next = can.next few in
    subst (λ (x : Knowledge). IsState (with_known (record s { reads = o.reads }) x)) (sym settles)
    (record {
      names = ap length (same-updated k u).names ∙ is.names;
      settings = ap length (same-updated k u).settings ∙ is.settings;
      slots = is.slots;
      observed = is.observed;
      sources = is.sources;
      jobs = jobs-updated (length s.world.servers) k u can.update next is.names few is.jobs;
      rising = rising-updated (length s.world.servers) k u can.update next is.rising;
      audit = audit-updated (length s.world.servers) k u can.update is.audit;
      entries = entries-updated (length s.world.servers) k u can.update next is.audit is.entries;
      next = next-updated k u ids is.next;
      begun = begun-updated k u can.time is.begun;
      moment = is.moment;
      block = is.block;
      blocks = is.blocks;
    })
