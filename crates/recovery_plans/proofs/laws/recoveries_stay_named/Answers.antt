use Rattle.std.proofs.Common.{◌<◌}
use Rattle.recovery_plans.proofs.Prelude.{taken}
use Rattle.recovery_plans.proofs.Begun.{begun-of}
use Rattle.recovery_plans.proofs.Naming.{taken-of, renumbered}
use Rattle.recovery_plans.proofs.laws.recoveries_stay_named.Goals as goal

pub returns : goal.returns
returns c = record {
  begun = λ count u by id wait f ns order all there h. begun-of (λ n. n < count) (λ n. n < count) u by id wait f ns order all there h;
  turn = λ count w b read now r has g.
      renumbered (λ n. n < count) (λ n. n < count) r.core.id (taken w b read now r).recovery ((taken-of (λ n. n < count) (λ n. n < count) r.core.id (λ n h. h) w b read now r has).servers g);
  number = λ count w b read now r has g. ((taken-of (λ n. n < count) (λ n. n < count) r.core.id (λ n h. h) w b read now r has).servers g).number;
}
