-- What holds of each change of an opening.
use Rattle.std.proofs.Common.{ℕ, ◌+◌, ◌<◌, Bool, true, false, List, [], ◌∷◌, ◌++◌, length, Option, Some, None, arith, All, IfSome, is_none, if◌then◌else◌}
use Rattle.opening_book.proofs.Prelude.{All-append, All-cons, All-map, All-nil, AuditState, BookState, Change, Moment, Recovery, Row, Rule, World}
use Rattle.opening_book.proofs.Prelude.{block_given, blocks_given, changes_from, closing, cons_option, interrupting, loaded_by, loading}
use Rattle.opening_book.proofs.Prelude.{missing_from, opening_changes, put_recovery, registering_from}
use Rattle.opening_book.proofs.Prelude.row

module _ (P : Change → Type 0) where
  all-option : (o : Option Change) (cs : List Change) → IfSome o P → All P cs → All P (cons_option o cs)
  all-option None cs here rest = rest
  all-option (Some c) cs here rest = All-cons P c cs here rest

  pub all-from : {A : Type 0} (f : ℕ → A → Option Change) (n : ℕ) (xs : List A) → ((k : ℕ) (x : A) → k < n + length xs → IfSome (f k x) P) → All P (changes_from f n xs)
  all-from f n [] each = All-nil P
  all-from f n (x ∷ xs) each = all-option (f n x) (changes_from f (n + 1) xs) (each n x (omega arith)) (all-from f (n + 1) xs (λ k y h. each k y (omega (arith, h))))

-- what holds of each part holds of all
pub all-opening : (P : Change → Type 0) (w : World) (at : Moment) (b : BookState) (known : List Bool) (rules : List (Option Rule)) (recoveries : List Change) → All P (missing_from w at b 0 known) → All P (registering_from at b 0 rules)
    → All P recoveries → All P (opening_changes w at b known rules recoveries)
all-opening P w at b known rules recoveries instances candidates kept =
    All-append P (missing_from w at b 0 known) (registering_from at b 0 rules ++ recoveries) instances (All-append P (registering_from at b 0 rules) recoveries candidates kept)

-- of what a load keeps of recoveries
pub all-loading : (P : Change → Type 0) (period : List ℕ → ℕ) (rows : List Row) (a : AuditState) (at : Moment) → ((r : Recovery) → P (put_recovery r)) → All P (loading period rows a at)
all-loading P period rows a at each = All-append P (blocks_given period rows) (interrupting a at) (given rows) (All-map P put_recovery (closing a at) (λ k d h. each _))
  where
    one : (r : Row) → IfSome (block_given period r) P
    one (row.Recovery k) = go (is_none k.block)
      where
        go : (none : Bool) → IfSome (if none then Some (put_recovery (loaded_by period k)) else None) P
        go true = each (loaded_by period k)
        go false = tt
    one _ = tt

    given : (rows : List Row) → All P (blocks_given period rows)
    given [] = All-nil P
    given (r ∷ rows) = all-option P (block_given period r) (blocks_given period rows) (one r) (given rows)
