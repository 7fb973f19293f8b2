use Rattle.move_laws.proofs.Prelude.{gtid_command}
use Rattle.move_laws.proofs.BegunGtid.{permitted-begin}
use Rattle.move_laws.proofs.begins_gtid.permitted_gtid_commands_begin.Goals as goal

pub returns : goal.returns
returns c = λ w b jobs given. permitted-begin w b jobs (gtid_command given.name) given
