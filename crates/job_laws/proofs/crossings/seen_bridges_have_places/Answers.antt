use Rattle.job_laws.proofs.Spanning.{seen-spans}
use Rattle.job_laws.proofs.crossings.seen_bridges_have_places.Goals as goal

pub returns : goal.returns
returns c = seen-spans
