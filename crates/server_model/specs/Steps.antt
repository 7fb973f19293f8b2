-- What a step of its receiver or its applier makes of a replica.
use Rattle.std.specs.Prelude.{false, None}
use Rattle.server_model.specs.Prelude.next
use Rattle.server_model.specs.declared.decisions.FetchStep.{FetchStep}
use Rattle.server_model.specs.declared.decisions.FetchStep.TheVariants as receiving
use Rattle.server_model.specs.declared.decisions.ApplyStep.{ApplyStep}
use Rattle.server_model.specs.declared.decisions.ApplyStep.TheVariants as applying
use Rattle.server_model.specs.declared.server.Server.{Server}
use Rattle.server_model.specs.Exchanges.{took}

abbrev pub receiver_did : FetchStep → Server → Server
receiver_did receiving.Halt r = r
receiver_did receiving.Unlinked r = r
receiver_did (receiving.Refuse first) r = record r { receiver = false }
receiver_did (receiving.Take (next.Entry index to)) r = record r { read = to }
receiver_did (receiving.Take (next.Rotate to)) r = record r { read = to }
receiver_did (receiving.Take next.End) r = r

abbrev pub applier_did : ApplyStep → Server → Server
applier_did applying.Halt r = r
applier_did applying.Idle r = r
applier_did applying.NoRoom r = r
applier_did applying.ForgetUntil r = record r { applier = false; until = None }
applier_did (applying.Pass to) r = record r { exec = to }
applier_did (applying.Skip to) r = record r { exec = to }
applier_did (applying.Execute t to) r = record (took r t) { exec = to }
