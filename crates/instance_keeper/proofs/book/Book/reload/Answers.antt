use Rattle.std.proofs.Common.{◌∙◌, ap, sym, zero, fold}
use Rattle.instance_keeper.proofs.Prelude.{BookState, after_row, first_set}
use Rattle.instance_keeper.proofs.Reloads.{all_set, none_set}
use Rattle.instance_keeper.proofs.book.Book.reload.Goals as goal

pub returns-clause-made : goal.returns-clause-made
returns-clause-made c =
    let now = c.empty_between.new.self in
    let count = c.servers-count.ensures.count ∙ (sym c.servers-count.ensures.holds.instances ∙ sym c.empty_between.ensures.places) in
    let empty = ap (first_set zero) c.clear_rest.ensures.after ∙ none_set c.args.self.now c.clear_rest.ensures.whole in
    sym (all_set c.servers-count.result now count)
    ∙ (c.empty_between.ensures.after
    ∙ (c.set_all-next.ensures.after
    ∙ ap (λ (b : BookState). fold after_row b c.args.rows.items) empty))
