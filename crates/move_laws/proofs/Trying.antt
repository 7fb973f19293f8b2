-- The tries of a scan, each on what those before it left.
use Rattle.std.proofs.Common.{◌≡◌, ◌∙◌, ℕ, ◌+◌, List, [], ◌∷◌, ◌++◌, append_assoc, refl, sym, ap, subst, inl, inr, Option, Some, None}
use Rattle.move_laws.proofs.Prelude.{AreTries, Attempt, AuditState, BookState, Entry, IsAnswer, IsRefusedTry, Left, Line, Refusal, Scan, ServerNo, Staged}
use Rattle.move_laws.proofs.Prelude.{World, actionable_in, after_try, append-nil, checks_at, from_start, recovery_begins, scan_step, scanned, scanned_over}
use Rattle.move_laws.proofs.Prelude.{staged_refusal, unless_refused}
use Rattle.recovery_core.specs.Tries.{Begins}
use Rattle.move_laws.proofs.Prelude.line
use Rattle.move_laws.proofs.Rising.{recovery-lowest}

-- one more entry, which is refused
one-refused : (s : Scan) (at : Left) (e : Entry) (es : List Entry) (xs : List Begins) (l : Line) (ls : List Line) → IsRefusedTry s at e l → AreTries s at es xs ls → AreTries s at (e ∷ es) xs (l ∷ ls)
one-refused s at e es [] l ls refused rest = (refused, rest)
one-refused s at e es (x ∷ xs) l ls refused rest = inr (refused, rest)

module _ (w : World) (b : BookState) (by : ServerNo → Attempt) (wait : ℕ) where
  abbrev scan : Scan
  scan = record { world = w; book = b; by = by }

  abbrev left : Staged → Left
  left s = record { leases = s.leases; audit = s.audit; last = s.last }

  abbrev begins_at : Staged → Entry → Begins
  begins_at s e = recovery_begins (record b { leases = s.leases }) s.audit (by e.no).now (by e.no).block wait (s.last + 1) e.no

  abbrev after_by : Staged → Entry → Option Refusal → Staged
  after_by s e o = after_try s e (unless_refused o (begins_at s e))

  abbrev refusal_at : Staged → Entry → Option Refusal
  refusal_at s e = staged_refusal w b (by e.no) s e.no

  -- the line of a try, and what it begins
  abbrev line_by : ℕ → Entry → Option Refusal → Line
  line_by last e None = line.Begun e.no e.code (last + 1)
  line_by last e (Some why) = line.Refused e.no e.code why

  abbrev begun_unless : Option Refusal → Begins → List Begins
  begun_unless None x = x ∷ []
  begun_unless (Some why) x = []

  abbrev lines_over : Staged → List Entry → List Line
  lines_over s [] = []
  lines_over s (e ∷ es) = line_by s.last e (refusal_at s e) ∷ lines_over (scan_step w b by wait s e) es

  abbrev begun_over : Staged → List Entry → List Begins
  begun_over s [] = []
  begun_over s (e ∷ es) = begun_unless (refusal_at s e) (begins_at s e) ++ begun_over (scan_step w b by wait s e) es

  line-joined : (s : Staged) (e : Entry) (o : Option Refusal) → (after_by s e o).lines ≡ s.lines ++ line_by s.last e o ∷ []
  line-joined s e None = refl
  line-joined s e (Some why) = refl

  begun-joined : (s : Staged) (e : Entry) (o : Option Refusal) → (after_by s e o).begun ≡ s.begun ++ begun_unless o (begins_at s e)
  begun-joined s e None = refl
  begun-joined s e (Some why) = sym (append-nil s.begun)

  all-lines : (s : Staged) (es : List Entry) → (scanned_over w b by wait s es).lines ≡ s.lines ++ lines_over s es
  all-lines s [] = sym (append-nil s.lines)
  all-lines s (e ∷ es) =
      all-lines (scan_step w b by wait s e) es
      ∙ ap (λ (ls : List Line). ls ++ lines_over (scan_step w b by wait s e) es) (line-joined s e (refusal_at s e))
      ∙ append_assoc s.lines (line_by s.last e (refusal_at s e) ∷ []) (lines_over (scan_step w b by wait s e) es)

  all-begun : (s : Staged) (es : List Entry) → (scanned_over w b by wait s es).begun ≡ s.begun ++ begun_over s es
  all-begun s [] = sym (append-nil s.begun)
  all-begun s (e ∷ es) =
      all-begun (scan_step w b by wait s e) es
      ∙ ap (λ (xs : List Begins). xs ++ begun_over (scan_step w b by wait s e) es) (begun-joined s e (refusal_at s e))
      ∙ append_assoc s.begun (begun_unless (refusal_at s e) (begins_at s e)) (begun_over (scan_step w b by wait s e) es)

  tries-of : (s : Staged) (es : List Entry) → AreTries scan (left s) es (begun_over s es) (lines_over s es)
  tries-of s [] = tt
  tries-of s (e ∷ es) = go (refusal_at s e) (recovery-lowest w (record b { leases = s.leases }) s.audit (by e.no) e.no) (λ t. tries-of t es)
    where
      go : (o : Option Refusal) → IsAnswer (checks_at scan (left s) e) o → ((t : Staged) → AreTries scan (left t) es (begun_over t es) (lines_over t es))
          → AreTries scan (left s) (e ∷ es) (begun_unless o (begins_at s e) ++ begun_over (after_by s e o) es) (line_by s.last e o ∷ lines_over (after_by s e o) es)
      go None answer rest = inl (record { passed = answer; failed = refl; number = refl; told = refl }, rest (after_by s e None))
      go (Some why) answer rest =
          one-refused scan (left s) e es (begun_over (after_by s e (Some why)) es) (line.Refused e.no e.code why) (lines_over (after_by s e (Some why)) es)
          (record { why = why; lowest = answer; told = refl }) (rest (after_by s e (Some why)))

  pub tries : (audit : AuditState) (last : ℕ)
      → AreTries scan (record { leases = b.leases; audit = audit; last = last }) (actionable_in b) (scanned w b audit by wait last).begun (scanned w b audit by wait last).lines
  tries audit last =
      let start = from_start b audit last in
      subst (λ (xs : List Begins). AreTries scan (left start) (actionable_in b) xs (scanned w b audit by wait last).lines) (sym (all-begun start (actionable_in b)))
      (subst (λ (ls : List Line). AreTries scan (left start) (actionable_in b) (begun_over start (actionable_in b)) ls) (sym (all-lines start (actionable_in b))) (tries-of start (actionable_in b)))
