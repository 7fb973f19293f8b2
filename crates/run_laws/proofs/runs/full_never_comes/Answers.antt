use Rattle.run_laws.proofs.RunLaws.{not_full, files_left, own_within}
use Rattle.run_laws.proofs.runs.full_never_comes.Goals as goal

pub returns : goal.returns
returns c = record {
  histories = not_full;
  files = files_left;
  own = own_within;
}
