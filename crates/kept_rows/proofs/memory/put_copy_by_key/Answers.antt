use Rattle.std.proofs.Common.{◌∙◌, ap, slice_set}
use Rattle.kept_rows.proofs.Prelude.{Row}
use Rattle.kept_rows.proofs.SortKeys.{puts_there, rising_as_put}
use Rattle.kept_rows.proofs.memory.put_copy_by_key.Goals as goal

pub returns-in_ok-set_to-clause-ok : goal.returns-in_ok-set_to-clause-ok
returns-in_ok-set_to-clause-ok c =
    ap (λ (r : Row). slice_set c.args.rows.now.items c.first_from-index.result r) c.in_ok-set_to.ensures.ok
    ∙ puts_there c.args.rows.now.items c.deref.result.now c.deref-2.result.now c.sort_key-sort_key.result c.first_from-index.result c.deref.ensures.value c.deref-2.ensures.value c.requires.rising c.first_from-index.ensures c.args.row.now c.sort_key-sort_key.ensures c.if-is_there.ensures.there c.if-is_there.ensures.yes

pub returns-in_ok-set_to-clause-rising : goal.returns-in_ok-set_to-clause-rising
returns-in_ok-set_to-clause-rising c = rising_as_put c.args.rows.now.items _ c.args.row.now (returns-in_ok-set_to-clause-ok c) c.requires.rising
