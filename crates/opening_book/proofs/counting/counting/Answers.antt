use Rattle.std.proofs.Common.{◌≡◌, ◌∙◌, true, ap, rules, sym}
use Rattle.opening_book.proofs.Prelude.{counts, filter_same, list_all}
use Rattle.opening_book.proofs.Whole.{filter_whole}
use Rattle.opening_book.proofs.counting.counting.Goals as goal

pub returns-then-do_all_count : goal.returns-then-do_all_count
returns-then-do_all_count c =
    let counting = counts c.args.servers c.args.last in
    let all : list_all counting c.args.rows.items ≡ true = ap (list_all counting) (sym c.deref.ensures.value) ∙ (sym c.do_all_count.ensures ∙ c.if-do_all_count.true) in
    sym (filter_whole counting c.args.rows.items all)

pub returns : goal.returns
returns c = filter_same _ _ _ (λ x b f' k. search rules) _ _ c.retain.ensures.filtered
