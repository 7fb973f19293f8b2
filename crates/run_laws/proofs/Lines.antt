-- The lines of a scan: one for each entry that asks for a recovery.
use Rattle.std.proofs.Common.{◌≡◌, ℕ, ◌+◌, List, [], ◌∷◌, length, refl, ap, inl, inr, arith, fold}
use Rattle.run_laws.proofs.Prelude.{AreLinesOf, AreTries, Begins, Entry, Left, Line, Scan, ScansTryByTable, State, actionable_in, after_begun}
use Rattle.run_laws.proofs.Prelude.{attempt_in, recoveries_scanned, scan_in, tries}
use Rattle.run_laws.proofs.Told.{told-lines, told-tries}

-- so the numbers of those that begin go on one by one
counted : (last : ℕ) (es : List Entry) (xs : List Begins) (ls : List Line) → AreLinesOf last es xs ls → fold (λ k x. x.job.core.id) last xs ≡ last + length xs
counted last [] [] [] are = omega arith
counted last [] [] (l ∷ ls) are = absurd are
counted last [] (x ∷ xs) [] are = absurd are
counted last [] (x ∷ xs) (l ∷ ls) are = absurd are
counted last (e ∷ es) [] [] are = absurd are
counted last (e ∷ es) (x ∷ xs) [] are = absurd are
counted last (e ∷ es) [] (l ∷ ls) (refused, rest) = counted last es [] ls rest
counted last (e ∷ es) (x ∷ xs) (l ∷ ls) (inl (begun, rest)) =
    let more = counted (last + 1) es xs ls rest in
    let from = ap (λ (n : ℕ). fold (λ (k : ℕ) (y : Begins). y.job.core.id) n xs) begun.number in
    omega (arith, from, more)
counted last (e ∷ es) (x ∷ xs) (l ∷ ls) (inr (refused, rest)) = counted last es (x ∷ xs) ls rest

-- the lines of tries
told-of : (s : Scan) (at : Left) (es : List Entry) (xs : List Begins) (ls : List Line) → AreTries s at es xs ls → AreLinesOf at.last es xs ls
told-of s at [] [] [] are = tt
told-of s at [] [] (l ∷ ls) are = absurd are
told-of s at [] (x ∷ xs) [] are = absurd are
told-of s at [] (x ∷ xs) (l ∷ ls) are = absurd are
told-of s at (e ∷ es) [] [] are = absurd are
told-of s at (e ∷ es) (x ∷ xs) [] are = absurd are
told-of s at (e ∷ es) [] (l ∷ ls) (refused, rest) = ((refused.why, refused.told), told-of s at es [] ls rest)
told-of s at (e ∷ es) (x ∷ xs) (l ∷ ls) (inl (begun, rest)) =
    inl (record { failed = begun.failed; number = begun.number; told = begun.told }, told-of s (after_begun at x) es xs ls rest)
told-of s at (e ∷ es) (x ∷ xs) (l ∷ ls) (inr (refused, rest)) = inr ((refused.why, refused.told), told-of s at es (x ∷ xs) ls rest)

module _ (s : State) where
  abbrev scan : Scan
  scan = record { world = s.world; book = s.book; by = attempt_in s }

  abbrev start : Left
  start = record { leases = s.book.leases; audit = s.audit; last = s.last_job }

  tried : AreTries scan start (actionable_in s.book) (scan_in s).begun (scan_in s).lines
  tried = tries s.world s.book (attempt_in s) s.configuration.wait s.audit s.last_job

-- of a state
pub scan-told : (s : State) → AreLinesOf s.last_job (actionable_in s.book) (recoveries_scanned s) (scan_in s).lines
scan-told s =
    told-lines s.configuration s.book s.last_job (actionable_in s.book) (scan_in s).begun (scan_in s).lines
    (told-of (scan s) (start s) (actionable_in s.book) (scan_in s).begun (scan_in s).lines (tried s))

pub scanned-counts : (s : State) → fold (λ k x. x.job.core.id) s.last_job (recoveries_scanned s) ≡ s.last_job + length (recoveries_scanned s)
scanned-counts s = counted s.last_job (actionable_in s.book) (recoveries_scanned s) (scan_in s).lines (scan-told s)

pub scan-tries : ScansTryByTable
scan-tries s = (
  (scan_in s).lines,
  refl,
  told-tries s.configuration s.book (scan s) (start s) (actionable_in s.book) (scan_in s).begun (scan_in s).lines (tried s),
)
