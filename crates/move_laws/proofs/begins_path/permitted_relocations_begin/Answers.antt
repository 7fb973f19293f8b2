use Rattle.move_laws.proofs.Prelude.{regroup_command}
use Rattle.move_laws.proofs.BegunPath.{permitted-begin}
use Rattle.move_laws.proofs.begins_path.permitted_relocations_begin.Goals as goal

pub returns : goal.returns
returns c = λ w b now jobs given. permitted-begin w b now jobs (regroup_command given.name) given
