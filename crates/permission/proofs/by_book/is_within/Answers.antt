use Rattle.std.proofs.Common.{◌≡◌, ℕ, true}
use Rattle.permission.proofs.Prelude.{decided, holds, holds-within, within-holds}
use Rattle.permission.proofs.Prelude.Turns.{is_within}
use Rattle.permission.proofs.by_book.is_within.Goals as goal

pub returns : goal.returns
returns c =
    decided c.is_subset.result (is_within c.args.set.now c.args.other.now) ((u n : ℕ) → holds c.args.set.now u n ≡ true → holds c.args.other.now u n ≡ true)
    c.is_subset.ensures.0 c.is_subset.ensures.1 (within-holds c.args.set.now c.args.other.now) (holds-within c.args.set.now c.args.other.now)
