use Rattle.std.proofs.Common.{ℕ, ◌<◌, ◌≤◌, sym, ◌∙◌, subst, arith}
use Rattle.kept_rows.proofs.Prelude.{at, at_read, ltb-false, ltb-true, sort_key_of}
use Rattle.kept_rows.proofs.SortKeys.{first_at, rises_below, rises_above}
use Rattle.kept_rows.proofs.memory.first_from.Goals as goal

pub halves-preserved-then-is_before : goal.halves-preserved-then-is_before
halves-preserved-then-is_before c =
    let middle : ℕ = c.next_look-middle.result in
    let row = c.index-rows-middle.result in
    let less : at c.sort_key.result < at c.args.sort_key = ltb-true _ _ (sym c.is_before.ensures ∙ c.if-is_before.true) in
    let own : sort_key_of row < at c.args.sort_key = subst (λ p. at p < at c.args.sort_key) c.sort_key.ensures less in
    record {
      rises = omega arith;
      within = c.halves.invariant.within;
      below = rises_below c.args.rows.now (at c.args.sort_key) middle c.requires (omega arith) (at_read c.args.rows.now (λ x. sort_key_of x < at c.args.sort_key) middle row (omega arith) c.index-rows-middle.is own);
      above = c.halves.invariant.above;
    }

pub halves-preserved : goal.halves-preserved
halves-preserved c =
    let middle : ℕ = c.next_look-middle.result in
    let row = c.index-rows-middle.result in
    let less : at c.args.sort_key ≤ at c.sort_key.result = ltb-false _ _ (sym c.is_before.ensures ∙ c.if-is_before.false) in
    let own : at c.args.sort_key ≤ sort_key_of row = subst (λ p. at c.args.sort_key ≤ at p) c.sort_key.ensures less in
    record {
      rises = omega arith;
      within = omega arith;
      below = c.halves.invariant.below;
      above = rises_above c.args.rows.now (at c.args.sort_key) middle c.requires (omega arith) (at_read c.args.rows.now (λ x. at c.args.sort_key ≤ sort_key_of x) middle row (omega arith) c.index-rows-middle.is own);
    }

pub returns-then-stands_at : goal.returns-then-stands_at
returns-then-stands_at c =
    first_at c.args.rows.now (at c.args.sort_key) c.guess-guess.result c.requires c.if-stands_at.ensures.there c.if-stands_at.ensures.at
