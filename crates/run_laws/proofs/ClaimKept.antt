-- Through runs the row at the claim's key is the kept claim's.
use Rattle.std.proofs.Common.{◌≡◌, ◌∙◌, ℕ, ◌+◌, ◌<◌, ◌≤◌, ◌^◌, inl, inr, Bool, true, false, List, [], ◌∷◌, ◌++◌, length, map, Option, Some, None, refl, sym, ap, subst, arith, zero, suc, All, AllPairs, IfSome, ◌==◌, filter, fold, if◌then◌else◌}
use Rattle.run_laws.proofs.Prelude.{Act, All-append, All-at, All-cons, All-filter, All-head, All-map, All-nil, All-tail, All-weaker, AreShort}
use Rattle.run_laws.proofs.Prelude.{AuditState, Begins as RecoveryBegins, Change, ClaimAnswer, ClaimState, Comes, CommandTurn, Effect, Ending, Held}
use Rattle.run_laws.proofs.Prelude.{IsAct, IsAudit, IsBook, IsClaimRow, IsCommand, IsEffectFor, IsInRange, IsKeyInRange, IsRising, IsScenario, IsSlot}
use Rattle.run_laws.proofs.Prelude.{IsTurn, Key, Moment, Outcome, PutsRecovery, Ready, Recovery, Row, RunClaimsAreFollowed, Scenario, State, Table}
use Rattle.run_laws.proofs.Prelude.{Turn, acking, acking-small, act-fits, act_changes, act_in, after_act, after_done, all-missing, all-registering}
use Rattle.run_laws.proofs.Prelude.{are_known, as_row, asked, audit-loaded, blocks_given, both_true, changed, changes_by, changes_of, claim_by_row}
use Rattle.run_laws.proofs.Prelude.{claim_changes, claim_changes_by, claim_key, claim_or, claim_row, closing, closing-small, closing_changes}
use Rattle.run_laws.proofs.Prelude.{closing_of, command-comes, command_outcome, counts, decided_of, discovery_change, done_changes, engine}
use Rattle.run_laws.proofs.Prelude.{entries_of, entries_put, eq-eqb, false≢true, fits, fold-append, greatest_id, head_known, held_run, held_step}
use Rattle.run_laws.proofs.Prelude.{instance_at, interrupted_at, is_eq, is_kept_so, is_of_book, job_at, job_observation, key-number as key-within}
use Rattle.run_laws.proofs.Prelude.{key_servers, known_of, last_given, last_id-within, length-map, loaded_audit, loaded_book, map_of-risen}
use Rattle.run_laws.proofs.Prelude.{missing_from, moment_at, observed_servers, opened-is, option_map, option_to_list, pairs_head, pairs_tail}
use Rattle.run_laws.proofs.Prelude.{period_by, period_of, put_recovery, puts-loaded, reading, recoveries_begun, recovery_at, registering_from}
use Rattle.run_laws.proofs.Prelude.{release_changes, release_changes_by, reloaded_audit, reloaded_rows, removal, restart_changes, row_after, row_fits}
use Rattle.run_laws.proofs.Prelude.{row_in, row_in-changed, rows_of, servers-start, slot_at, sort_key, sort_key_of, source_servers, sources-start}
use Rattle.run_laws.proofs.Prelude.{start, start_changes, start_claim, start_moment, start_rows, start_world, step, turned_at, updated, with_told}
use Rattle.run_laws.proofs.Prelude.claims.{is_of}
use Rattle.run_laws.proofs.Prelude.act
use Rattle.run_laws.proofs.Prelude.change
use Rattle.run_laws.proofs.Prelude.claim
use Rattle.run_laws.proofs.Prelude.claims
use Rattle.run_laws.proofs.Prelude.effect
use Rattle.run_laws.proofs.Prelude.kept_row as row
use Rattle.run_laws.proofs.Prelude.key
use Rattle.run_laws.proofs.Prelude.table
use Rattle.run_laws.proofs.Prelude.turn
use Rattle.run_laws.proofs.Prelude.comes
use Rattle.run_laws.proofs.Periods.{short-by}
use Rattle.run_laws.proofs.Beginnings.{small-ids}
use Rattle.run_laws.proofs.Closings.{end-puts, end-small, end_changes, ended_as, turned-ends}
use Rattle.run_laws.proofs.Counting.{next-goes-on}
use Rattle.run_laws.proofs.Follows.{entries-puts}
use Rattle.run_laws.proofs.Audits.{FollowsBoth, IsBooked, both-run, both-whole, held-start, job-booked, next-run, one-booked, slot-booked}
use Rattle.run_laws.proofs.Audits.{found-booked, removal-booked}
use Rattle.run_laws.proofs.NodeClaims.{act-claims}
use Rattle.run_laws.proofs.ReadyOutcomes.{decided-fits, given-in}

-- ---- changes of other rows

off-below : (k : ℕ) → k < claim_key → (k == claim_key) ≡ false
off-below k h = grind arith

-- the row at the claim's key stays
abbrev pub IsAside : Change → Type 0
IsAside c = (x : Option Row) → row_after claim_key x c ≡ x

aside-put : (r : Row) → sort_key_of r < claim_key → IsAside (change.Put r)
aside-put r less = λ x. ap (λ (b : Bool). if b then Some r else x) (off-below (sort_key_of r) less)

aside-remove : (t : Table) (k : Key) → sort_key t k < claim_key → IsAside (change.Remove t k)
aside-remove t k less = λ x. ap (λ (b : Bool). if b then None else x) (off-below (sort_key t k) less)

-- a change of the book
booked-row : (count : ℕ) → count ≤ 2 ^ 32 → (r : Row) → row_fits count r ≡ true → sort_key_of r < claim_key
booked-row count few (row.Instance i) h = let less = head_known count i.no.0 (source_servers i.seen.source) h in omega (arith, less, few)
booked-row count few (row.Downtime d) h = let less = head_known count d.no.0 [] h in omega (arith, less, few)
booked-row count few (row.Candidate c) h = let less = head_known count c.no.0 [] h in omega (arith, less, few)
booked-row count few (row.Recovery r) h = absurd (false≢true h)
booked-row count few (row.Switch e) h = omega arith
booked-row count few (row.Active node end) h = absurd (false≢true h)

booked-key : (t : Table) (k : Key) → is_of_book t ≡ true → IsKeyInRange k → sort_key t k < claim_key
booked-key table.Recovery k h range = absurd (false≢true h)
booked-key table.Active k h range = absurd (false≢true h)
booked-key _ k h range = let n = key-within k range in omega (arith, n)

pub booked-aside : (count : ℕ) → count ≤ 2 ^ 32 → (c : Change) → fits count c ≡ true → IsInRange c → IsAside c
booked-aside count few (change.Put r) fit range = aside-put r (booked-row count few r fit)
booked-aside count few (change.Remove t k) fit range = aside-remove t k (booked-key t k (both_true (is_of_book t) (are_known count (key_servers k)) fit).0 range)

-- a recovery that is put
pub puts-aside : (c : Change) → PutsRecovery c → IsAside c
puts-aside c puts = let small = puts.1 in subst IsAside (sym puts.2) (aside-put (row.Recovery puts.0) (omega (arith, small)))

-- after all of them
pub all-aside : (cs : List Change) → All IsAside cs → (x : Option Row) → fold (row_after claim_key) x cs ≡ x
all-aside [] all x = refl
all-aside (c ∷ cs) all x = ap (λ (y : Option Row). fold (row_after claim_key) y cs) (All-head IsAside c cs all x) ∙ all-aside cs (All-tail IsAside c cs all) x

pub aside-stays : (rows : List Row) (cs : List Change) → All IsAside cs → row_in (changed rows cs) claim_key ≡ row_in rows claim_key
aside-stays rows cs all = row_in-changed rows cs claim_key ∙ all-aside cs all (row_in rows claim_key)

-- ---- changes by claims

at-key : (node : ℕ) (until : Moment) (x : Option Row) → row_after claim_key x (change.Put (row.Active node until)) ≡ Some (row.Active node until)
at-key node until x = ap (λ (b : Bool). if b then Some (row.Active node until) else x) (eq-eqb claim_key claim_key refl)

gone : (x : Option Row) → row_after claim_key x (change.Remove table.Active key.Active) ≡ None
gone x = ap (λ (b : Bool). if b then None else x) (eq-eqb claim_key claim_key refl)

abbrev ending : ℕ → Moment
ending n = record { 0 = n }

same-claim : (kept : Option (ℕ × Moment)) (node : ℕ) (until : Moment) → is_kept_so kept node until ≡ true → kept ≡ Some (node, until)
same-claim None node until h = absurd (false≢true h)
same-claim (Some k) node until h =
    let both = both_true (k.0 == node) (k.1.0 == until.0) h in
    let first : k.0 ≡ node = is_eq k.0 node both.0 in
    let second : k.1.0 ≡ until.0 = is_eq k.1.0 until.0 both.1 in
    ap (λ (n : ℕ). Some (n, k.1)) first ∙ ap (λ (n : ℕ). Some (node, ending n)) second

-- of the row there, by what nodes do
module _ (count : ℕ) (x : Option Row) (s : ClaimState) (is : IsClaimRow count x s.kept) where
  held-row : (node : ℕ) (until : Moment) → IsClaimRow count (fold (row_after claim_key) x (claim_changes_by s.kept node (claim.Held until))) (Some (node, until))
  held-row node until = go (is_kept_so s.kept node until) refl
    where
      go : (b : Bool) → is_kept_so s.kept node until ≡ b → IsClaimRow count (fold (row_after claim_key) x (if b then [] else change.Put (row.Active node until) ∷ [])) (Some (node, until))
      go true same = subst (IsClaimRow count x) (same-claim s.kept node until same) is
      go false other = inl (at-key node until x)

  answered-row : (node : ℕ) (a : ClaimAnswer) → IsClaimRow count (fold (row_after claim_key) x (claim_changes_by s.kept node a)) (claims.after_answer s node a).kept
  answered-row node (claim.Taken other until) = is
  answered-row node (claim.Held until) = held-row node until

  claimed-row : (node now : ℕ) → IsClaimRow count (fold (row_after claim_key) x (claim_changes_by s.kept node (claims.claim_answer s node now))) (claims.after_claim s node now).kept
  claimed-row node now = answered-row node (claims.claim_answer s node now)

  released-row : (node : ℕ) → IsClaimRow count (fold (row_after claim_key) x (release_changes_by s.kept node)) (claims.after_release s node).kept
  released-row node = go (is_of node s.kept)
    where
      go : (b : Bool) → IsClaimRow count (fold (row_after claim_key) x (if b then change.Remove table.Active key.Active ∷ [] else [])) (if b then record (claims.with_remembered s node None) { kept = None } else s).kept
      go true = inl (gone x)
      go false = is

kept-still : (s : ClaimState) (node : ℕ) → (claims.with_remembered s node None).kept ≡ s.kept
kept-still s zero = refl
kept-still s (suc place) = refl

acted-kept : (s : ClaimState) (node now : ℕ) → (claims.after_act s node now).kept ≡ s.kept
acted-kept s node now = go (claims.may_act s node now)
  where
    go : (b : Bool) → (if b then s else claims.with_remembered s node None).kept ≡ s.kept
    go true = refl
    go false = kept-still s node

-- ---- a turn, whose acts change other rows

module _ (count : ℕ) (rows : List Row) (s : State) (is : IsClaimRow count (row_in rows claim_key) s.claims.kept) where
  stayed : (cs : List Change) (now : Option (ℕ × Moment)) → All IsAside cs → now ≡ s.claims.kept → IsClaimRow count (row_in (changed rows cs) claim_key) now
  stayed cs now aside same = subst (λ (k : Option (ℕ × Moment)). IsClaimRow count (row_in (changed rows cs) claim_key) k) (sym same) (subst (λ (x : Option Row). IsClaimRow count x s.claims.kept) (sym (aside-stays rows cs aside)) is)

  -- and after these the claim's own
  behind : (cs ds : List Change) → All IsAside cs → row_in (changed rows (cs ++ ds)) claim_key ≡ fold (row_after claim_key) (row_in rows claim_key) ds
  behind cs ds aside =
      row_in-changed rows (cs ++ ds) claim_key
      ∙ (fold-append (row_after claim_key) (row_in rows claim_key) cs ds ∙ ap (λ (x : Option Row). fold (row_after claim_key) x ds) (all-aside cs aside (row_in rows claim_key)))

  pub claim-row-turn : (t : Turn) → All IsAside (done_changes rows s (act_in s t)) → IsClaimRow count (row_in (changed rows (changes_of rows s t)) claim_key) (step rows s t).claims.kept
  claim-row-turn (turn.Step x) aside = is
  claim-row-turn (turn.Tick seconds) aside = is
  claim-row-turn (turn.Act a) aside = stayed (changes_of rows s (turn.Act a)) (step rows s (turn.Act a)).claims.kept aside (ap (λ (c : ClaimState). c.kept) (act-claims rows s a))
  claim-row-turn (turn.As node a) aside = stayed (changes_of rows s (turn.As node a)) (step rows s (turn.As node a)).claims.kept aside (acted-kept s.claims node s.moment)
  claim-row-turn (turn.Claim node) aside =
      subst (λ (x : Option Row). IsClaimRow count x (step rows s (turn.Claim node)).claims.kept) (sym (behind (done_changes rows s (act_in s (turn.Claim node))) (claim_changes s node) aside))
      (claimed-row count (row_in rows claim_key) s.claims is node s.moment)
  claim-row-turn (turn.Release node) aside =
      subst (λ (x : Option Row). IsClaimRow count x (step rows s (turn.Release node)).claims.kept) (sym (row_in-changed rows (release_changes s node) claim_key))
      (released-row count (row_in rows claim_key) s.claims is node)

-- ---- what acts change

recovery-puts : (rs : List Recovery) → All (λ r. r.id < 2 ^ 64) rs → All IsAside (map put_recovery rs)
recovery-puts rs small =
    All-map IsAside put_recovery rs (All-weaker (λ (r : Recovery). r.id < 2 ^ 64) (λ r. IsAside (put_recovery r)) (λ r less. aside-put (row.Recovery (as_row r)) (omega (arith, less))) rs small)

booked-all : (count : ℕ) → count ≤ 2 ^ 32 → (cs : List Change) → All (IsBooked count) cs → All IsAside cs
booked-all count few cs all = All-weaker (IsBooked count) IsAside (λ c h. booked-aside count few c h.0 h.1) cs all

ended-aside : (a : AuditState) (now : Moment) (id : ℕ) (e : Ending) (acked : Bool) → IsAudit a → a.next ≤ 2 ^ 64 → All IsAside (end_changes a now id e acked)
ended-aside a now id e acked is small =
    subst (All IsAside) (sym (end-puts now id e a acked)) (recovery-puts (option_to_list (option_map (ended_as now e acked) (recovery_at a id))) (end-small now id e a acked is small))

begun-aside : (xs : List RecoveryBegins) → All (λ r. r.id < 2 ^ 64) (entries_of xs) → All IsAside (entries_put xs)
begun-aside xs small = subst (All IsAside) (sym (entries-puts xs)) (recovery-puts (entries_of xs) small)

command-aside : (count : ℕ) (s : State) (c : CommandTurn) → Ready count s → IsAudit s.audit → s.audit.next ≤ 2 ^ 64 → (updated (known_of s) (command_outcome s c).book).audit.next ≤ 2 ^ 64 → IsCommand count c → All IsAside (command_outcome s c).rows
command-aside count s c ready audit small most command = by (command_outcome s c) (command-comes s c) most
  where
    booked : (cs : List Change) → All (IsBooked (length s.book.names)) cs → All IsAside cs
    booked cs all = let few = ready.book.small in booked-all (length s.book.names) (omega (arith, few)) cs all

    effect-aside : (e : Effect) → IsEffectFor (length s.book.names) e → All IsAside (rows_of s.audit e)
    effect-aside effect.Stays fits = All-nil IsAside
    effect-aside (effect.Change x) fits = booked (x ∷ []) (one-booked (length s.book.names) x fits)
    effect-aside (effect.Acks cluster) fits = recovery-puts (acking s.audit cluster) (acking-small s.audit cluster audit small)

    by : (o : Outcome) → Comes s c o → (updated (known_of s) o.book).audit.next ≤ 2 ^ 64 → All IsAside o.rows
    by o (comes.Discovered i seen at there) most = booked (option_to_list (discovery_change (instance_at s.book i) (reading s i) seen)) (found-booked count s c ready command i seen at there)
    by o (comes.Forgotten i at) most = booked (removal i ∷ []) (removal-booked s.book ready.book i (given-in count s ready c command i at))
    by o (comes.Decided d at may) most = effect-aside (decided_of s.book s.audit (moment_at s) c.keys c.command.i d).effect (decided-fits count s ready c command d)
    by o (comes.Recovered x asked) most =
        let less : x.entry.id + 1 ≤ 2 ^ 64 = most in
        begun-aside (with_told s.configuration s.book x ∷ []) (All-cons (λ (r : Recovery). r.id < 2 ^ 64) x.entry [] (omega (arith, less)) (All-nil (λ (r : Recovery). r.id < 2 ^ 64)))
    by o _ most = All-nil IsAside

job-aside : (count : ℕ) (s : State) (id : ℕ) → Ready count s → IsAudit s.audit → s.audit.next ≤ 2 ^ 64
    → All IsAside (changes_by s.book (job_observation (turned_at s id)) ++ closing_changes s.audit (moment_at s) (closing_of (turned_at s id)))
job-aside count s id ready audit small =
    let few = ready.book.small in
    All-append IsAside (changes_by s.book (job_observation (turned_at s id))) (closing_changes s.audit (moment_at s) (closing_of (turned_at s id)))
    (booked-all (length s.book.names) (omega (arith, few)) (changes_by s.book (job_observation (turned_at s id))) (job-booked count s id (job_at s.jobs id) refl ready))
    (turned-ends count s id (λ a ds. All IsAside ds) (All-nil IsAside) (λ entry e acked closes there. ended-aside s.audit (moment_at s) entry e acked audit small))

restart-aside : (rows : List Row) (s : State) → IsBook s.book → AreShort s.configuration → IsAudit s.audit → s.audit.next ≤ 2 ^ 64 → All IsAside (restart_changes rows s)
restart-aside rows s book periods audit small =
    let count = ap length book.named ∙ length-map s.book.settings (λ x. x.name) in
    let few = book.small in
    let first = audit.first in
    let period = period_by s.configuration in
    let ended = closing (reloaded_audit rows s) (interrupted_at rows s) in
    let is = audit-loaded period (short-by s.configuration periods) (length s.book.settings) s.audit.next (last_given s) rows (omega (arith, count, few)) first small (omega (arith, first)) in
    All-append IsAside (blocks_given period (reloaded_rows rows s)) (map put_recovery ended)
    (All-weaker PutsRecovery IsAside puts-aside (blocks_given period (reloaded_rows rows s)) (puts-loaded period (length s.book.settings) (last_given s) rows (omega (arith, count, few)) (omega (arith, first, small))))
    (recovery-puts ended (closing-small (reloaded_audit rows s) (interrupted_at rows s) is small))

act-aside : (count : ℕ) (rows : List Row) (s : State) (a : Act) → Ready count s → IsAudit s.audit → (after_act rows s a).audit.next ≤ 2 ^ 64 → IsAct count a → All IsAside (act_changes rows s a)
act-aside count rows s (act.PollRead p n) is audit most within = All-nil IsAside
act-aside count rows s (act.PollStore p) is audit most within =
    let few = is.book.small in
    let known : IsSlot count (slot_at s p) = All-at (IsSlot count) s.slots p None tt is.observed in
    booked-all (length s.book.names) (omega (arith, few)) (changes_by s.book (slot_at s p)) (slot-booked s.book (slot_at s p) is.book (subst (λ n. IfSome (slot_at s p) (λ o. are_known n (observed_servers o) ≡ true)) (sym is.names) known))
act-aside count rows s (act.Command c) is audit most within = command-aside count s c is audit (let on = next-goes-on rows s (turn.Act (act.Command c)) in omega (arith, on, most)) most within
act-aside count rows s (act.Job job) is audit most within = job-aside count s job is audit (let on = next-goes-on rows s (turn.Act (act.Job job)) in omega (arith, on, most))
act-aside count rows s act.Scan is audit most within = begun-aside (recoveries_begun s (turn.Act act.Scan)) (small-ids s (turn.Act act.Scan) most)
act-aside count rows s act.Restart is audit most within = restart-aside rows s is.book is.periods audit most

done-aside : (count : ℕ) (rows : List Row) (s : State) (o : Option Act) → Ready count s → IsAudit s.audit → (after_done rows s o).audit.next ≤ 2 ^ 64 → IfSome o (IsAct count) → All IsAside (done_changes rows s o)
done-aside count rows s None is audit most within = All-nil IsAside
done-aside count rows s (Some a) is audit most within = act-aside count rows s a is audit most within

turn-aside : (count : ℕ) (rows : List Row) (s : State) (t : Turn) → Ready count s → IsAudit s.audit → (step rows s t).audit.next ≤ 2 ^ 64 → IsTurn count t → All IsAside (done_changes rows s (act_in s t))
turn-aside count rows s (turn.Act a) is audit most within = act-aside count rows s a is audit most within
turn-aside count rows s (turn.As node a) is audit most within = done-aside count rows s (act_in s (turn.As node a)) is audit most (act-fits count s (turn.As node a) within)
turn-aside count rows s (turn.Claim node) is audit most within = done-aside count rows s (act_in s (turn.Claim node)) is audit most (act-fits count s (turn.Claim node) within)
turn-aside count rows s _ is audit most within = All-nil IsAside

-- ---- an opening

-- of rows that rise one at most is a claim's
no-claim : (xs : List Row) (kept : Option (ℕ × Moment)) → All (λ r. claim_key < sort_key_of r) xs → fold claim_or kept xs ≡ kept
no-claim [] kept all = refl
no-claim (x ∷ xs) kept all = ap (λ (k : Option (ℕ × Moment)). fold claim_or k xs) (other x (All-head (λ r. claim_key < sort_key_of r) x xs all)) ∙ no-claim xs kept (All-tail (λ r. claim_key < sort_key_of r) x xs all)
  where
    other : (r : Row) → claim_key < sort_key_of r → claim_or kept r ≡ kept
    other (row.Active node until) more = absurd (omega (arith, more))
    other _ more = refl

by-counting : (P : Row → Bool) (xs : List Row) → AllPairs (λ a b. sort_key_of a < sort_key_of b) xs → fold claim_or None (filter P xs) ≡ claim_by_row P (row_in xs claim_key)
by-counting P [] apart = refl
by-counting P (x ∷ xs) apart = go (sort_key_of x == claim_key) refl (by-counting P xs (pairs_tail (λ (a b : Row). sort_key_of a < sort_key_of b) x xs apart))
  where
    later : All (λ r. sort_key_of x < sort_key_of r) xs
    later = pairs_head (λ (a b : Row). sort_key_of a < sort_key_of b) x xs apart

    other : (r : Row) → (sort_key_of r == claim_key) ≡ false → claim_or None r ≡ None
    other (row.Active node until) off = absurd (false≢true (sym off ∙ eq-eqb claim_key claim_key refl))
    other _ off = refl

    one : (b : Bool) → P x ≡ b → sort_key_of x ≡ claim_key → fold claim_or None (if b then x ∷ filter P xs else filter P xs) ≡ (if b then claim_or None x else None)
    one true fits at = no-claim (filter P xs) (claim_or None x) (All-filter P (λ r. claim_key < sort_key_of r) xs (subst (λ (k : ℕ). All (λ r. k < sort_key_of r) xs) at later))
    one false fits at = no-claim (filter P xs) None (All-filter P (λ r. claim_key < sort_key_of r) xs (subst (λ (k : ℕ). All (λ r. k < sort_key_of r) xs) at later))

    rest : (b : Bool) → (sort_key_of x == claim_key) ≡ false → fold claim_or None (if b then x ∷ filter P xs else filter P xs) ≡ fold claim_or None (filter P xs)
    rest true off = ap (λ (k : Option (ℕ × Moment)). fold claim_or k (filter P xs)) (other x off)
    rest false off = refl

    go : (e : Bool) → (sort_key_of x == claim_key) ≡ e → fold claim_or None (filter P xs) ≡ claim_by_row P (row_in xs claim_key)
        → fold claim_or None (filter P (x ∷ xs)) ≡ claim_by_row P (if e then Some x else row_in xs claim_key)
    go true at more = one (P x) refl (is_eq (sort_key_of x) claim_key at)
    go false off more = rest (P x) off ∙ more

module _ (s : Scenario) (wait : ℕ) (rows : List Row) (is : IsScenario s) where
  abbrev n : ℕ
  n = length s.opening.servers

  few : n ≤ 2 ^ 32
  few = let least = is.checked.listed.few in omega (arith, least)

  start-aside : All IsAside (start_changes s rows)
  start-aside =
      let w = start_world s in
      let at = start_moment s rows in
      let b = loaded_book s rows in
      let a = loaded_audit s rows in
      let instances = missing_from w at b 0 s.known in
      let candidates = registering_from at b 0 s.rules in
      let given = blocks_given (period_of s) (start_rows s rows) in
      let ended = closing a at in
      let most = last_id-within rows in
      All-append IsAside instances (candidates ++ (given ++ map put_recovery ended)) (all-missing IsAside n (λ i h. aside-put (row.Instance i) (booked-row n few (row.Instance i) h)) w at b (sources-start s is) (servers-start s) s.known)
      (All-append IsAside candidates (given ++ map put_recovery ended) (all-registering IsAside n (λ c h. aside-put (row.Candidate c) (booked-row n few (row.Candidate c) h)) at b s.rules is.rules)
      (All-append IsAside given (map put_recovery ended) (All-weaker PutsRecovery IsAside puts-aside given (puts-loaded (period_of s) n greatest_id rows few (omega arith)))
      (recovery-puts ended (closing-small a at (opened-is s rows is) (omega (arith, most))))))

  given-row : (x : Option Row) (kept : Option (ℕ × Moment)) → kept ≡ claim_by_row (counts n greatest_id) x → IsClaimRow n x kept
  given-row None kept same = inl (sym (ap claim_row same))
  given-row (Some r) kept same = go (counts n greatest_id r) refl
    where
      row-of : (r : Row) → kept ≡ claim_or None r → (claim_or None r ≡ None → claim_by_row (counts n greatest_id) (Some r) ≡ None) → IsClaimRow n (Some r) kept
      row-of (row.Active node until) gives-so none = inl (sym (ap claim_row gives-so))
      row-of (row.Instance i) gives-so none = inr (gives-so, none refl)
      row-of (row.Downtime d) gives-so none = inr (gives-so, none refl)
      row-of (row.Candidate c) gives-so none = inr (gives-so, none refl)
      row-of (row.Recovery k) gives-so none = inr (gives-so, none refl)
      row-of (row.Switch e) gives-so none = inr (gives-so, none refl)

      go : (b : Bool) → counts n greatest_id r ≡ b → IsClaimRow n (Some r) kept
      go true fits = let gives-so = same ∙ ap (λ (b : Bool). if b then claim_or None r else None) fits in row-of r gives-so (λ none. ap (λ (b : Bool). if b then claim_or None r else None) fits ∙ none)
      go false off = let gives = ap (λ (b : Bool). if b then claim_or None r else None) off in inr (same ∙ gives, gives)

  start-row : IsRising rows → IsClaimRow n (row_in (changed rows (start_changes s rows)) claim_key) (start s wait rows).claims.kept
  start-row rising =
      let same : start_claim s rows ≡ claim_by_row (counts n greatest_id) (row_in rows claim_key) =
      ap (λ (xs : List Row). fold claim_or None (filter (counts n greatest_id) xs)) (map_of-risen rows rising) ∙ by-counting (counts n greatest_id) rows rising.apart in
      subst (λ (x : Option Row). IsClaimRow n x (start_claim s rows)) (sym (aside-stays rows (start_changes s rows) start-aside)) (given-row (row_in rows claim_key) (start_claim s rows) same)

-- ---- over a whole run

kept-run : (count : ℕ) (h : Held State) (ts : List Turn) → All (IsTurn count) ts → (held_run engine h ts).state.audit.next ≤ 2 ^ 64 → FollowsBoth count h → IsClaimRow count (row_in h.rows claim_key) h.state.claims.kept
    → IsClaimRow count (row_in (held_run engine h ts).rows claim_key) (held_run engine h ts).state.claims.kept
kept-run count h [] all most both is = is
kept-run count h (t ∷ ts) all most both is =
    let here = All-head (IsTurn count) t ts all in
    let rest = next-run (held_step engine h t) ts in
    let small : (step h.rows h.state t).audit.next ≤ 2 ^ 64 = omega (arith, rest, most) in
    let one : All (IsTurn count) (t ∷ []) = All-cons (IsTurn count) t [] here (All-nil (IsTurn count)) in
    kept-run count (held_step engine h t) ts (All-tail (IsTurn count) t ts all) most (both-run count h (t ∷ []) one small both)
    (claim-row-turn count h.rows h.state is t (turn-aside count h.rows h.state t both.ready both.audit.audit small here))

pub claim-row-whole : RunClaimsAreFollowed
claim-row-whole s wait rows ts is rising all most =
    let count = length s.opening.servers in
    let h = held-start s wait rows in
    let on = next-run h ts in
    kept-run count h ts all most (both-whole s wait rows [] is rising (All-nil (IsTurn count)) (omega (arith, on, most))) (start-row s wait rows is rising)
