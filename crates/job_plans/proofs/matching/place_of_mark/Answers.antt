use Rattle.std.proofs.Common.{◌≡◌, ℕ, ◌+◌, ◌-◌, ◌≤◌, Bool, arith, refl, sym, ◌∙◌, Some}
use Rattle.job_plans.proofs.Prelude.{Server, is_same_there, kept_from, last-none, logged_by, server_at}
use Rattle.job_plans.proofs.Entries.{last-before, last-here, test-gone, test-kept, txn-of}
use Rattle.job_plans.proofs.matching.place_of_mark.Goals.{After-is_same_txn}
use Rattle.job_plans.proofs.matching.place_of_mark.Goals as goal

-- what is tested of an entry
passes : (c : After-is_same_txn) (s : Server) → server_at c.args.world.now c.args.no.0 ≡ Some s → is_same_there c.args.mark (logged_by s (c.loop-k.k - 1)) ≡ c.is_same_txn.result
passes c s at =
    let from : c.kept_from-from.result ≡ kept_from s = c.kept_from-from.ensures s at in
    let kept : kept_from s ≤ c.loop-k.k - 1 = omega (arith, from, c.loop-k-test.true) in
    test-kept s (is_same_there c.args.mark) (c.loop-k.k - 1) c.transaction.result kept (txn-of c.args.world.now c.args.no.0 (c.loop-k.k - 1) s c.transaction.result at c.transaction.ensures)
    ∙ sym c.is_same_txn.ensures

pub returns-then-is_same_txn : goal.returns-then-is_same_txn
returns-then-is_same_txn c = λ s at.
    let p : ℕ → Bool = λ k. is_same_there c.args.mark (logged_by s k) in
    let known = passes (goal.at.returns-then-is_same_txn c).After-is_same_txn s at in
    let one : c.loop-k.k ≡ c.loop-k.k - 1 + 1 = omega (arith, c.loop-k-test.true) in
    sym (c.loop-k.invariant s at ∙ last-here p c.loop-k.k (c.loop-k.k - 1) one (known ∙ c.if-is_same_txn.true))

pub loop-k-preserved : goal.loop-k-preserved
loop-k-preserved c = λ s at.
    let p : ℕ → Bool = λ k. is_same_there c.args.mark (logged_by s k) in
    let known = passes (goal.at.loop-k-preserved c).After-is_same_txn s at in
    let one : c.loop-k.k ≡ c.loop-k.k - 1 + 1 = omega (arith, c.loop-k-test.true) in
    c.loop-k.invariant s at ∙ last-before p c.loop-k.k (c.loop-k.k - 1) one (known ∙ c.if-is_same_txn.false)

pub returns : goal.returns
returns c = λ s at.
    let p : ℕ → Bool = λ k. is_same_there c.args.mark (logged_by s k) in
    let from : c.kept_from-from.result ≡ kept_from s = c.kept_from-from.ensures s at in
    sym (c.loop-k.invariant s at ∙ last-none p c.loop-k.k (λ k lt. test-gone s (is_same_there c.args.mark) k (omega (arith, lt, from, c.loop-k-test.false)) refl))
