use Rattle.std.proofs.Common.{arith}
use Rattle.kept_rows.proofs.Prelude.{common_steps}
use Rattle.kept_rows.proofs.SortKeys.{puts_there, puts_new, rising_as_put}
use Rattle.kept_rows.proofs.memory.put_row.Goals as goal

pub returns-then-is_there-clause-items : goal.returns-then-is_there-clause-items
returns-then-is_there-clause-items c = puts_there c.args.rows.now.items c.deref.result.now c.deref-2.result.now c.sort_key-sort_key.result c.first_from-index.result c.deref.ensures.value c.deref-2.ensures.value c.requires.rising c.first_from-index.ensures c.args.row c.sort_key-sort_key.ensures c.if-is_there.ensures.there c.if-is_there.ensures.yes

pub returns-then-is_there-clause-rising : goal.returns-then-is_there-clause-rising
returns-then-is_there-clause-rising c = rising_as_put c.args.rows.now.items _ c.args.row (puts_there c.args.rows.now.items c.deref.result.now c.deref-2.result.now c.sort_key-sort_key.result c.first_from-index.result c.deref.ensures.value c.deref-2.ensures.value c.requires.rising c.first_from-index.ensures c.args.row c.sort_key-sort_key.ensures c.if-is_there.ensures.there c.if-is_there.ensures.yes) c.requires.rising

pub returns-else-is_there-clause-items : goal.returns-else-is_there-clause-items
returns-else-is_there-clause-items c =
    let e = puts_new c.args.rows.now.items c.deref.result.now c.deref-2.result.now c.sort_key-sort_key.result c.first_from-index.result c.deref.ensures.value c.deref-2.ensures.value c.requires.rising c.first_from-index.ensures c.args.row c.sort_key-sort_key.ensures c.if-is_there.ensures.no in
    grind (arith, common_steps, e)

pub returns-else-is_there-clause-rising : goal.returns-else-is_there-clause-rising
returns-else-is_there-clause-rising c =
    rising_as_put c.args.rows.now.items _ c.args.row (returns-else-is_there-clause-items c) c.requires.rising
