use Rattle.std.proofs.Common.{rules}
use Rattle.recovery_parts.proofs.Servers.{rest-there, rest-allowed}
use Rattle.recovery_parts.proofs.doing.+make.Goals as goal

pub make-requires : goal.make-requires
make-requires t c =
    search (
      rules,
      rest-there c.args.world.now c.make_one.new.world c.args.changes.now _ c.make_one.ensures c.requires.servers,
      rest-allowed c.args.world.now c.make_one.new.world c.args.changes.now _ c.make_one.ensures c.requires.allowed,
    )
