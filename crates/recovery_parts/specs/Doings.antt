-- What a turn does to servers.
use Rattle.std.specs.Prelude.{Bool, true, false, List, [], ◌∷◌, map}
use Rattle.recovery_plans.specs.ServerModel.Run.{Exchange, Request, Attach, AttachAuto}
use Rattle.recovery_parts.specs.declared.doing.Change.{Change}
use Rattle.recovery_parts.specs.declared.doing.Change.TheVariants as change
use Rattle.recovery_parts.specs.declared.doing.Doing.{Doing}
use Rattle.recovery_parts.specs.declared.doing.Doing.TheVariants as doing

abbrev pub exchange_of : Change → Exchange
exchange_of (change.Ask n a) = Request n.0 a
exchange_of (change.Attach n expect to at) = Attach n.0 expect to at

-- the exchanges that are made
abbrev pub exchanges_of : Doing → List Exchange
exchanges_of (doing.BySet n observed to) = AttachAuto n.0 observed to ∷ []
exchanges_of (doing.Each changes) = map exchange_of changes.items

-- it may want memory
abbrev pub takes_memory : Doing → Bool
takes_memory (doing.BySet n observed to) = true
takes_memory (doing.Each changes) = false
