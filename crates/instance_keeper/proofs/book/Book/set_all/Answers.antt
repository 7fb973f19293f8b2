use Rattle.std.proofs.Common.{◌≡◌, ◌∙◌, ◌<◌, get_or, length, fold, ap, sym, take, arith}
use Rattle.instance_keeper.proofs.Prelude.{BookState, after_row, first_set, fold_more}
use Rattle.instance_keeper.proofs.Reloads.{used_next}
use Rattle.instance_keeper.proofs.book.Book.set_all.Goals as goal

pub loop-row-preserved : goal.loop-row-preserved
loop-row-preserved c =
    let first = c.deref_mut-row-items.result.now in
    let items = c.loop-row.row-items in
    let k = c.loop-row.row-index in
    let row = c.row-item.result in
    let start = first_set 0 c.args.self.now in
    let count : length items ≡ length first = omega (arith, c.loop-row.auto.row-items) in
    let within : k < length items = omega (arith, c.loop-row-test.true, count) in
    let used = used_next items first k c.set_next-next.new.row row c.loop-row.invariant.rest count within in
    record {
      made = c.set_next-next.ensures.after
          ∙ (ap (λ (b : BookState). after_row b (get_or items k row)) c.loop-row.invariant.made
          ∙ (ap (after_row (fold after_row start (take k first))) used.0
          ∙ sym (fold_more after_row start first k row (omega (arith, within, count)))));
      rest = used.1;
      within = c.set_next-next.ensures.within;
      settings = c.set_next-next.ensures.settings ∙ c.loop-row.invariant.settings;
      names = c.set_next-next.ensures.names ∙ c.loop-row.invariant.names;
    }
