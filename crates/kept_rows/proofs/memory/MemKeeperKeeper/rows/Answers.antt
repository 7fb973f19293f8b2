use Rattle.std.proofs.Common.{rules}
use Rattle.kept_rows.proofs.Rising.{given_back}
use Rattle.kept_rows.proofs.memory.MemKeeperKeeper.rows.Goals as goal

pub returns-clause-told : goal.returns-clause-told
returns-clause-told c = given_back c.args.self.now.rows c.in_ok-copy_rows.field-0.items (search rules) (search rules)
