use Rattle.move_laws.proofs.Prelude.{coords_command, gtid_command, pseudo_command, regroup_command}
use Rattle.move_laws.proofs.Rising.{coords-lowest, gtid-lowest, match-lowest, path-lowest, recovery-lowest, takeover-lowest}
use Rattle.move_laws.proofs.lowest_answered.the_lowest_number_is_answered.Goals as goal

pub returns : goal.returns
returns c = record {
  coords = λ w b given. coords-lowest w b (coords_command given.name) given;
  gtids = λ w b given. gtid-lowest w b (gtid_command given.name) given;
  paths = λ w b now given. path-lowest w b now (regroup_command given.name) given;
  matches = λ w b now every given. match-lowest w b now every (pseudo_command given.name) given;
  recovery = recovery-lowest;
  takeover = takeover-lowest;
}
