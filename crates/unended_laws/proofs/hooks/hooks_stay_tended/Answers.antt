use Rattle.unended_laws.proofs.Prelude.{promoted_in, taken}
use Rattle.unended_laws.proofs.Staying.{begun-tended, early-turn, of-docket, tended-turn}
use Rattle.unended_laws.proofs.hooks.hooks_stay_tended.Goals as goal

pub returns : goal.returns
returns c = record {
  begun = begun-tended;
  turn = λ w b read now r d s k has is going at. tended-turn w b read now r d s k has is going at;
  early = λ w b read now r d s k has at early. early-turn w b read now r d s k has at early;
  docket = λ w b read now r d. let t = taken w b read now r in of-docket d (promoted_in b t) r t;
}
