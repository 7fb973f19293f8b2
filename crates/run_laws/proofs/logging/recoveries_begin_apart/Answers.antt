use Rattle.run_laws.proofs.Aims.{turn-aimed}
use Rattle.run_laws.proofs.Fates.{restart-comes, turn-fates}
use Rattle.run_laws.proofs.Parts.{apart-in-turn, periods-in-turn}
use Rattle.run_laws.proofs.logging.recoveries_begin_apart.Goals as goal

pub returns : goal.returns
returns c = record {
  apart = λ s xs now comes t. apart-in-turn s xs now t comes;
  periods = λ s xs now comes t. periods-in-turn s xs now t comes;
  aims = turn-aimed;
  all = turn-fates;
  restart = λ s xs now comes rows. restart-comes s xs now rows comes;
}
