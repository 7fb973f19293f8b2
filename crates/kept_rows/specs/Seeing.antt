-- What a status shows, as the book has it.
use Rattle.std.specs.Prelude.{Option, Some, None, Result, Ok, Err}
use Rattle.server_words.specs.declared.status.Status.{Status as Seen}
use Rattle.server_words.specs.declared.status.StatusFault.{StatusFault}

-- what an answered status shows, and nothing of a server that wasn't reached
abbrev pub seen_in : Result Seen StatusFault → Option Seen
seen_in (Ok s) = Some s
seen_in (Err fault) = None
