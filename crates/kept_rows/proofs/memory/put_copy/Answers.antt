use Rattle.kept_rows.proofs.SortKeys.{puts_instance, rising_as_put}
use Rattle.kept_rows.proofs.memory.put_copy.Goals as goal

pub returns-then-is_instance_at-clause-ok : goal.returns-then-is_instance_at-clause-ok
returns-then-is_instance_at-clause-ok c =
    puts_instance c.args.rows.now.items c.deref.result.now c.in-Instance.instance c.in-Instance.instance.no.0 c.args.row.now c.set_to.new.self c.deref.ensures.value c.requires.rising c.in-Instance.is c.in_ok-set_to.ensures.ok c.if-is_instance_at.ensures.there c.if-is_instance_at.ensures.at

pub returns-then-is_instance_at-clause-rising : goal.returns-then-is_instance_at-clause-rising
returns-then-is_instance_at-clause-rising c = rising_as_put c.args.rows.now.items _ c.args.row.now (returns-then-is_instance_at-clause-ok c) c.requires.rising
