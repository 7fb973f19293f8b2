-- Why a command line gives nothing.
use Rattle.std.specs.Prelude.{Option, Some, None, Result, Ok, Err}
use Rattle.command_line.specs.declared.usage.Usage.{Usage}
use Rattle.command_line.specs.declared.usage.Usage.TheVariants.{BadWords, Memory}

-- the fault that a command line has, and nothing if memory runs out
abbrev pub usage_fault : Usage → Option Usage
usage_fault BadWords = Some BadWords
usage_fault Memory = None

-- what isn't there makes the command line `BadWords`
abbrev pub or_bad : {A : Type 0} → Option A → Result A Usage
or_bad None = Err BadWords
or_bad (Some x) = Ok x
