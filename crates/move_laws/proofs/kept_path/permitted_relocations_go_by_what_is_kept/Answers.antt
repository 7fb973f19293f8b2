use Rattle.move_laws.proofs.ByKeptPath.{paths-begin}
use Rattle.move_laws.proofs.kept_path.permitted_relocations_go_by_what_is_kept.Goals as goal

pub returns : goal.returns
returns c = paths-begin
