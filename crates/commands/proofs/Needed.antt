-- What is needed is used.
use Rattle.std.proofs.Common.{◌≡◌, true, refl}
use Rattle.commands.specs.declared.name.CommandName.{CommandName}
use Rattle.commands.specs.declared.name.CommandName.TheVariants as name
use Rattle.commands.specs.Names.{covers, needs_of, uses_of}

pub needed-used : (n : CommandName) → covers (uses_of n) (needs_of n) ≡ true
needed-used name.MoveUp = refl
needed-used _ = refl
