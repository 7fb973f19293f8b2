-- Which server an operation may change, and which an exchange is with.
use Rattle.std.specs.Prelude.{ℕ, Option, Some, None}
use Rattle.operations.specs.Prelude.{Apply, Attach, AttachAuto, Befall, Exchange, Fetch, Purge, Request, Rotate, ServerNo, Write}
use Rattle.operations.specs.Deeds as deed
use Rattle.operations.specs.Deeds.{Deed}

-- the server that an operation may change
abbrev pub change_of : Deed → Option ServerNo
change_of (deed.Look n from) = None
change_of (deed.Request n a) = Some n
change_of (deed.Until n to) = Some n
change_of (deed.Await n to) = None
change_of (deed.AwaitSet n m) = None
change_of (deed.Settle n) = None
change_of (deed.Cross c a b) = Some a
change_of (deed.Same n) = Some n
change_of (deed.Auto n m) = Some n
change_of (deed.Match n m every) = None
change_of (deed.CrossMatch n m) = Some n
change_of (deed.Finish lines) = None

-- the server that an exchange is with
abbrev pub server_of : Exchange → ℕ
server_of (Write n size) = n
server_of (Fetch n) = n
server_of (Apply n) = n
server_of (Request n a) = n
server_of (Befall n e) = n
server_of (Rotate n) = n
server_of (Purge n file) = n
server_of (Attach n expect to at) = n
server_of (AttachAuto n observed to) = n
