-- What holds of the runs of a scenario whose coordinates can be printed.
use Rattle.std.specs.Prelude.{All, IfSome}
use Rattle.tidy_laws.specs.Prelude.{IsWritten, Scenario}

-- how far the appliers of its servers are to go can be printed
abbrev pub UntilsCanBePrinted : Scenario → Type 0
UntilsCanBePrinted s = All (λ i. IfSome i.until IsWritten) s.opening.servers
