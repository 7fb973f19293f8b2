use Rattle.std.proofs.Common.{rules, nat_lt}
use Rattle.kept_rows.proofs.Prelude.{answers_always, sort_key_of}
use Rattle.kept_rows.proofs.Rising.{adjacent_rise}
use Rattle.kept_rows.proofs.memory.is_rising.Goals as goal

pub returns : goal.returns
returns c =
    let each = c.is_sorted_by.ensures.cases (λ x y. nat_lt (sort_key_of x) (sort_key_of y)) (answers_always _ _ _ (λ f a r f' called. search rules)) in
    adjacent_rise c.args.rows.now c.is_sorted_by.result each
