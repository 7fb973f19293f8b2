-- What a scan begins, one after another.
use Rattle.std.proofs.Common.{◌≡◌, ℕ, ◌+◌, ◌≤◌, ◌∙◌, false, cond, List, [], ◌∷◌, ◌++◌, length, append_assoc, refl, sym, ap, subst, Option, Some, None, arith, All, filter}
use Rattle.recovery_core.proofs.Prelude.{Action, All-cons, All-head, All-nil, All-tail, Attempt, AuditState, BeginInTurn, Begins, BookState, Entry}
use Rattle.recovery_core.proofs.Prelude.{IsApart, IsBook, IsEntryIn, Moment, Nothing, Refusal, ServerNo, Staged, World, action_of, actionable_in}
use Rattle.recovery_core.proofs.Prelude.{after_try, analysis, append-nil, audit_after, begun, begun-apart, from_start, is_asked, label_at}
use Rattle.recovery_core.proofs.Prelude.{leases_after, longest_block, recovery_begins, scan_step, scanned, scanned_over, staged_refusal}
use Rattle.recovery_core.proofs.Prelude.{unless_refused}
use Rattle.recovery_core.proofs.Beginning.{recovery-begins}
use Rattle.recovery_core.proofs.Entries.{actionable-entries}
use Rattle.recovery_core.proofs.Steps.{length-taken}

-- what begins if this refuses it
abbrev begun_by : Option Refusal → Begins → List Begins
begun_by None x = x ∷ []
begun_by (Some r) x = []

module _ (w : World) (b : BookState) (by : ServerNo → Attempt) (wait : ℕ) where
  -- what refuses an entry, and what begins if nothing does
  abbrev refusal_at : Staged → Entry → Option Refusal
  refusal_at s e = staged_refusal w b (by e.no) s e.no

  abbrev begins_at : Staged → Entry → Begins
  begins_at s e = recovery_begins (record b { leases = s.leases }) s.audit (by e.no).now (by e.no).block wait (s.last + 1) e.no

  abbrev after_by : Staged → Entry → Option Refusal → Staged
  after_by s e o = after_try s e (unless_refused o (begins_at s e))

  abbrev over : Staged → List Entry → Staged
  over s es = scanned_over w b by wait s es

  abbrev pub begun_over : Staged → List Entry → List Begins
  begun_over s [] = []
  begun_over s (e ∷ es) = begun_by (refusal_at s e) (begins_at s e) ++ begun_over (scan_step w b by wait s e) es

  appended-by : (s : Staged) (e : Entry) (o : Option Refusal) → (after_by s e o).begun ≡ s.begun ++ begun_by o (begins_at s e)
  appended-by s e None = refl
  appended-by s e (Some r) = sym (append-nil s.begun)

  appended : (s : Staged) (es : List Entry) → (over s es).begun ≡ s.begun ++ begun_over s es
  appended s [] = sym (append-nil s.begun)
  appended s (e ∷ es) =
      appended (scan_step w b by wait s e) es
      ∙ ap (λ xs. xs ++ begun_over (scan_step w b by wait s e) es) (appended-by s e (refusal_at s e))
      ∙ append_assoc s.begun (begun_by (refusal_at s e) (begins_at s e)) (begun_over (scan_step w b by wait s e) es)

  leases-over : (s : Staged) (es : List Entry) → (over s es).leases ≡ leases_after s.leases (begun_over s es)
  leases-over s [] = refl
  leases-over s (e ∷ es) = go (refusal_at s e) (λ t. leases-over t es)
    where
      go : (o : Option Refusal) → ((t : Staged) → (over t es).leases ≡ leases_after t.leases (begun_over t es))
          → (over (after_by s e o) es).leases ≡ leases_after s.leases (begun_by o (begins_at s e) ++ begun_over (after_by s e o) es)
      go None rest = rest (after_by s e None)
      go (Some r) rest = rest (after_by s e (Some r))

  audit-over : (s : Staged) (es : List Entry) → (over s es).audit ≡ audit_after s.audit (begun_over s es)
  audit-over s [] = refl
  audit-over s (e ∷ es) = go (refusal_at s e) (λ t. audit-over t es)
    where
      go : (o : Option Refusal) → ((t : Staged) → (over t es).audit ≡ audit_after t.audit (begun_over t es))
          → (over (after_by s e o) es).audit ≡ audit_after s.audit (begun_by o (begins_at s e) ++ begun_over (after_by s e o) es)
      go None rest = rest (after_by s e None)
      go (Some r) rest = rest (after_by s e (Some r))

  last-over : (s : Staged) (es : List Entry) → (over s es).last ≡ s.last + length (begun_over s es)
  last-over s [] = omega arith
  last-over s (e ∷ es) = go (refusal_at s e) (λ t. last-over t es)
    where
      go : (o : Option Refusal) → ((t : Staged) → (over t es).last ≡ t.last + length (begun_over t es))
          → (over (after_by s e o) es).last ≡ s.last + length (begun_by o (begins_at s e) ++ begun_over (after_by s e o) es)
      go None rest = let h = rest (after_by s e None) in omega (arith, h)
      go (Some r) rest = rest (after_by s e (Some r))

  next-over : (s : Staged) (es : List Entry) → s.audit.next ≤ (over s es).audit.next
  next-over s [] = omega arith
  next-over s (e ∷ es) = go (refusal_at s e) (λ t. next-over t es)
    where
      go : (o : Option Refusal) → ((t : Staged) → t.audit.next ≤ (over t es).audit.next) → s.audit.next ≤ (over (after_by s e o) es).audit.next
      go None rest = let h = rest (after_by s e None) in omega (arith, h)
      go (Some r) rest = rest (after_by s e (Some r))

  module _ (now : Moment) (same : (n : ServerNo) → (by n).now ≡ now) where
    abbrev BeganThen : Begins → Type 0
    BeganThen x = x.entry.begun ≡ now

    moments-over : (s : Staged) (es : List Entry) → All BeganThen (begun_over s es)
    moments-over s [] = All-nil BeganThen
    moments-over s (e ∷ es) = go (refusal_at s e) (λ t. moments-over t es)
      where
        go : (o : Option Refusal) → ((t : Staged) → All BeganThen (begun_over t es)) → All BeganThen (begun_by o (begins_at s e) ++ begun_over (after_by s e o) es)
        go None rest = All-cons BeganThen (begins_at s e) (begun_over (after_by s e None) es) (same e.no) (rest (after_by s e None))
        go (Some r) rest = rest (after_by s e (Some r))

  module _ (period : List ℕ → ℕ) (same : (n : ServerNo) → (by n).block ≡ period (label_at b n)) where
    abbrev BlocksSo : Begins → Type 0
    BlocksSo x = x.entry.block ≡ period x.entry.cluster

    blocks-over : (s : Staged) (es : List Entry) → All BlocksSo (begun_over s es)
    blocks-over s [] = All-nil BlocksSo
    blocks-over s (e ∷ es) = go (refusal_at s e) (λ t. blocks-over t es)
      where
        go : (o : Option Refusal) → ((t : Staged) → All BlocksSo (begun_over t es)) → All BlocksSo (begun_by o (begins_at s e) ++ begun_over (after_by s e o) es)
        go None rest = All-cons BlocksSo (begins_at s e) (begun_over (after_by s e None) es) (same e.no) (rest (after_by s e None))
        go (Some r) rest = rest (after_by s e (Some r))

  module _ (is : IsBook b) (short : (n : ServerNo) → (by n).block ≤ longest_block) where
    abbrev InTurn : Staged → List Begins → Type 0
    InTurn s xs = BeginInTurn (length b.names) s.leases s.audit s.last xs

    there : (s : Staged) → length s.leases ≡ length b.names → IsBook (record b { leases = s.leases })
    there s fits = record {
      small = is.small;
      named = is.named;
      instances = is.instances;
      downtimes = is.downtimes;
      candidates = is.candidates;
      rings = is.rings;
      leases = fits;
      instance_numbers = is.instance_numbers;
      downtime_numbers = is.downtime_numbers;
      candidate_numbers = is.candidate_numbers;
      sources = is.sources;
    }

    in-turn : (s : Staged) (es : List Entry) → length s.leases ≡ length b.names → All (IsEntryIn b) es → InTurn s (begun_over s es)
    in-turn s [] fits all = tt
    in-turn s (e ∷ es) fits all = go (refusal_at s e) refl (λ t len. in-turn t es len (All-tail (IsEntryIn b) e es all))
      where
        go : (o : Option Refusal) → refusal_at s e ≡ o → ((t : Staged) → length t.leases ≡ length b.names → InTurn t (begun_over t es))
            → InTurn s (begun_by o (begins_at s e) ++ begun_over (after_by s e o) es)
        go None free rest = (
          recovery-begins w (record b { leases = s.leases }) s.audit (by e.no) wait s.last (there s fits) (short e.no) e.no (begins_at s e)
              (All-head (IsEntryIn b) e es all).within (ap (λ o. unless_refused o (begins_at s e)) free),
          rest (after_by s e None) (length-taken s.leases (begins_at s e).list (s.last + 1) ∙ fits),
        )
        go (Some r) why rest = rest (after_by s e (Some r)) fits

  -- ---- from the start

  module _ (audit : AuditState) (last : ℕ) where
    abbrev start : Staged
    start = from_start b audit last

    all-begun : (scanned w b audit by wait last).begun ≡ begun_over start (actionable_in b)
    all-begun = appended start (actionable_in b)

    pub scan-leases : (scanned w b audit by wait last).leases ≡ leases_after b.leases (scanned w b audit by wait last).begun
    scan-leases = leases-over start (actionable_in b) ∙ ap (leases_after b.leases) (sym all-begun)

    pub scan-audit : (scanned w b audit by wait last).audit ≡ audit_after audit (scanned w b audit by wait last).begun
    scan-audit = audit-over start (actionable_in b) ∙ ap (audit_after audit) (sym all-begun)

    pub scan-last : (scanned w b audit by wait last).last ≡ last + length (scanned w b audit by wait last).begun
    scan-last = last-over start (actionable_in b) ∙ ap (λ (xs : List Begins). last + length xs) (sym all-begun)

    pub scan-next : audit.next ≤ (scanned w b audit by wait last).audit.next
    scan-next = next-over start (actionable_in b)

    pub scan-moments : (now : Moment) → ((n : ServerNo) → (by n).now ≡ now) → All (λ x. x.entry.begun ≡ now) (scanned w b audit by wait last).begun
    scan-moments now same = subst (All (λ (x : Begins). x.entry.begun ≡ now)) (sym all-begun) (moments-over now same start (actionable_in b))

    pub scan-blocks : (period : List ℕ → ℕ) → ((n : ServerNo) → (by n).block ≡ period (label_at b n))
        → All (λ x. x.entry.block ≡ period x.entry.cluster) (scanned w b audit by wait last).begun
    scan-blocks period same = subst (All (λ (x : Begins). x.entry.block ≡ period x.entry.cluster)) (sym all-begun) (blocks-over period same start (actionable_in b))

    pub scan-in-turn : IsBook b → ((n : ServerNo) → (by n).block ≤ longest_block) → BeginInTurn (length b.names) b.leases audit last (scanned w b audit by wait last).begun
    scan-in-turn is short = subst (BeginInTurn (length b.names) b.leases audit last) (sym all-begun) (in-turn is short start (actionable_in b) is.leases (actionable-entries b))

    -- a scan of a book whose analysis asks for no recovery
    pub scan-idle : All (λ e. action_of e.code ≡ Nothing) (analysis b) → scanned w b audit by wait last ≡ from_start b audit last
    scan-idle none = ap (over start) (none-asked (analysis b) none)
      where
        unasked : (a : Action) → a ≡ Nothing → is_asked a ≡ false
        unasked a h = ap is_asked h

        none-asked : (xs : List Entry) → All (λ (e : Entry). action_of e.code ≡ Nothing) xs → filter (λ (e : Entry). is_asked (action_of e.code)) xs ≡ []
        none-asked [] all = refl
        none-asked (x ∷ xs) all =
            ap (λ c. cond c (x ∷ filter (λ (e : Entry). is_asked (action_of e.code)) xs) (filter (λ (e : Entry). is_asked (action_of e.code)) xs))
            (unasked (action_of x.code) (All-head (λ (e : Entry). action_of e.code ≡ Nothing) x xs all))
            ∙ none-asked xs (All-tail (λ (e : Entry). action_of e.code ≡ Nothing) x xs all)

-- ---- the recoveries of an audit still don't overlap

pub apart-after : (count : ℕ) (leases : List (Option ℕ)) (audit : AuditState) (last : ℕ) (xs : List Begins) → BeginInTurn count leases audit last xs → IsApart audit
    → IsApart (audit_after audit xs)
apart-after count leases audit last [] each apart = apart
apart-after count leases audit last (x ∷ xs) each apart =
    apart-after count _ (begun audit x.entry) x.job.core.id xs each.1 (begun-apart audit x.entry each.0.may apart)

pub scan-apart : (w : World) (b : BookState) (audit : AuditState) (by : ServerNo → Attempt) (wait last : ℕ) → IsBook b → ((n : ServerNo) → (by n).block ≤ longest_block) → IsApart audit
    → IsApart (scanned w b audit by wait last).audit
scan-apart w b audit by wait last is short apart =
    subst IsApart (sym (scan-audit w b by wait audit last))
    (apart-after (length b.names) b.leases audit last (scanned w b audit by wait last).begun (scan-in-turn w b by wait audit last is short) apart)
