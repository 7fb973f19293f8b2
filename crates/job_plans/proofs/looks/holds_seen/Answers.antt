use Rattle.std.proofs.Common.{◌≡◌, ℕ, true, ap, ◌∙◌, sym, option_copied}
use Rattle.job_plans.proofs.Prelude.{decided, holds, holds-within, holds_seen, is_within, within-holds}
use Rattle.job_plans.proofs.looks.holds_seen.Goals as goal

pub returns-in-Some : goal.returns-in-Some
returns-in-Some c =
    decided c.is_subset.result (is_within c.in-Some.of.now.set c.args.seen.now.set) ((u n : ℕ) → holds c.in-Some.of.now.set u n ≡ true → holds c.args.seen.now.set u n ≡ true)
    c.is_subset.ensures.0 c.is_subset.ensures.1
    (within-holds c.in-Some.of.now.set c.args.seen.now.set) (holds-within c.in-Some.of.now.set c.args.seen.now.set)
    ∙ ap (λ o. holds_seen (option_copied o) c.args.seen.now) (sym c.in-Some.is)
