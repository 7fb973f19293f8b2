use Rattle.move_laws.proofs.Prelude.{coords_command}
use Rattle.move_laws.proofs.Begun.{permitted-begin}
use Rattle.move_laws.proofs.begins.permitted_commands_begin.Goals as goal

pub returns : goal.returns
returns c = λ w b jobs given. permitted-begin w b jobs (coords_command given.name) given
