use Rattle.std.proofs.Common.{◌∙◌}
use Rattle.kept_rows.proofs.SortKeys.{removes_there, removes_none, rising_as_removed}
use Rattle.kept_rows.proofs.memory.remove_row.Goals as goal

pub returns-then-is_there-clause-items : goal.returns-then-is_there-clause-items
returns-then-is_there-clause-items c =
    let e = removes_there c.args.rows.now.items c.deref.result.now c.deref-2.result.now c.args.sort_key c.first_from-index.result c.deref.ensures.value c.deref-2.ensures.value c.requires.rising c.first_from-index.ensures c.if-is_there.ensures.there c.if-is_there.ensures.yes in
    c.remove.ensures.items ∙ e

pub returns-then-is_there-clause-rising : goal.returns-then-is_there-clause-rising
returns-then-is_there-clause-rising c = rising_as_removed c.args.rows.now.items _ c.args.sort_key.table c.args.sort_key.key (returns-then-is_there-clause-items c) c.requires.rising

pub returns-else-is_there-clause-items : goal.returns-else-is_there-clause-items
returns-else-is_there-clause-items c = removes_none c.args.rows.now.items c.deref.result.now c.deref-2.result.now c.args.sort_key c.first_from-index.result c.deref.ensures.value c.deref-2.ensures.value c.requires.rising c.first_from-index.ensures c.if-is_there.ensures.no
