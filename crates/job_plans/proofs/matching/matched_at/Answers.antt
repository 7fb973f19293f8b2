use Rattle.std.proofs.Common.{◌≡◌, ℕ, ◌+◌, ◌-◌, ◌≤◌, Bool, true, false, arith, ap, length, sym, ◌∙◌}
use Rattle.job_plans.proofs.Prelude.{alike, kept_from, logged_by, matched_at}
use Rattle.job_plans.proofs.Entries.{alike-at, alike-short, count-of, first-after, first-here, txn-of}
use Rattle.job_plans.proofs.matching.matched_at.Goals.{then-more-at-via-then-more-at, then-more-at-via-else-more-at+then-not-shows_same}
use Rattle.job_plans.proofs.matching.matched_at.Goals as goal

pub returns-then-more-at : goal.returns-then-more-at
returns-then-more-at c = λ x y at_x at_y.
    let w = c.args.world.now in
    let k = c.loop-k.k in
    let p : ℕ → Bool = λ n. alike c.args.every (logged_by x n) (logged_by y ((n + c.args.j) - c.args.i)) in
    let known = c.loop-k.invariant in
    let many : length x.history.txns ≡ c.executed-count.result = count-of w c.args.r.0 c.executed-count.result x at_x c.executed-count.ensures in
    let more : length y.history.txns ≡ c.executed-more.result = count-of w c.args.d.0 c.executed-more.result y at_y c.executed-more.ensures in
    let mark = c.requires.mark x at_x in
    let same = c.requires.same y at_y in
    let from : kept_from x ≤ k = omega (arith, mark.0, known.behind) in
    let to : kept_from y ≤ (k + c.args.j) - c.args.i = omega (arith, same.0, known.behind) in
    let unlike : p k ≡ false = elim c.then-more-at.branch [
      | then-more-at-via-then-more-at v ↦ alike-short c.args.every x y k ((k + c.args.j) - c.args.i) to (omega (arith, more, known.place, v.if-more-at.true))
      | then-more-at-via-else-more-at+then-not-shows_same v ↦
          alike-at c.args.every x y k ((k + c.args.j) - c.args.i) v.transaction.result v.transaction-else-more-at.result from to
          (txn-of w c.args.r.0 k x v.transaction.result at_x v.transaction.ensures)
          (txn-of w c.args.d.0 ((k + c.args.j) - c.args.i) y v.transaction-else-more-at.result at_y (rw (sym known.place) v.transaction-else-more-at.ensures))
          ∙ sym v.shows_same.ensures ∙ v.if-not-shows_same.true
    ] in
    let left : length x.history.txns - k ≡ (length x.history.txns - (k + 1)) + 1 = omega (arith, many, c.loop-k-test.true) in
    sym (ap (matched_at x y c.args.i c.args.j) (known.left x y at_x at_y ∙ first-here p k (length x.history.txns - k) (length x.history.txns - (k + 1)) left unlike))

pub loop-k-preserved : goal.loop-k-preserved
loop-k-preserved c =
    let w = c.args.world.now in
    let k = c.loop-k.k in
    let known = c.loop-k.invariant in
    record {
      behind = omega (arith, known.behind);
      place = omega (arith, known.place, known.behind);
      within = omega (arith, c.if-more-at.false);
      left = λ x y at_x at_y.
          let p : ℕ → Bool = λ n. alike c.args.every (logged_by x n) (logged_by y ((n + c.args.j) - c.args.i)) in
          let many : length x.history.txns ≡ c.executed-count.result = count-of w c.args.r.0 c.executed-count.result x at_x c.executed-count.ensures in
          let mark = c.requires.mark x at_x in
          let same = c.requires.same y at_y in
          let from : kept_from x ≤ k = omega (arith, mark.0, known.behind) in
          let to : kept_from y ≤ (k + c.args.j) - c.args.i = omega (arith, same.0, known.behind) in
          let like : p k ≡ true =
          alike-at c.args.every x y k ((k + c.args.j) - c.args.i) c.transaction.result c.transaction-else-more-at.result from to
          (txn-of w c.args.r.0 k x c.transaction.result at_x c.transaction.ensures)
          (txn-of w c.args.d.0 ((k + c.args.j) - c.args.i) y c.transaction-else-more-at.result at_y (rw (sym known.place) c.transaction-else-more-at.ensures))
          ∙ sym c.shows_same.ensures ∙ c.if-not-shows_same.false in
          let left : length x.history.txns - k ≡ (length x.history.txns - (k + 1)) + 1 = omega (arith, many, c.loop-k-test.true) in
          known.left x y at_x at_y ∙ first-after p k (length x.history.txns - k) (length x.history.txns - (k + 1)) left like;
    }
