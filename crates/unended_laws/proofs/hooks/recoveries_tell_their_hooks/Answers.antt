use Rattle.unended_laws.proofs.Telling.{done-docket, failed-docket, none-docket, reached-docket}
use Rattle.unended_laws.proofs.hooks.recoveries_tell_their_hooks.Goals as goal

pub returns : goal.returns
returns c = record {
  done = λ w b read now r d s lines has is e. done-docket w b read now r d s has is lines e;
  failed = λ w b read now r d s k lines has is looked e. failed-docket w b read now r d s has is looked k lines e;
  reached = λ w b read now r d s k lines has is fresh e. reached-docket w b read now r d s has is fresh k lines e;
  none = λ w b read now r d k lines has e. none-docket w b read now r d k lines has e;
}
