use Rattle.move_laws.proofs.Prelude.{pseudo_command}
use Rattle.move_laws.proofs.BegunMatch.{permitted-begin}
use Rattle.move_laws.proofs.begins_match.permitted_matches_begin.Goals as goal

pub returns : goal.returns
returns c = λ w b jobs now every given. permitted-begin w b jobs now every (pseudo_command given.name) given
