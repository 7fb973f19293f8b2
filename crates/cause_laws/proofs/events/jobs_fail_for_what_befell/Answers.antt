use Rattle.std.proofs.Common.{ap, ◌∙◌}
use Rattle.cause_laws.proofs.Prelude.{by_ops, deed_of, settled, turned}
use Rattle.cause_laws.proofs.Stopping.{befallen-stops}
use Rattle.cause_laws.proofs.Turning.{failed-befell, stopped-befell, turn-taken}
use Rattle.cause_laws.proofs.events.jobs_fail_for_what_befell.Goals as goal

pub returns : goal.returns
returns c = record {
  only = λ w read now j op rest why lines is e. failed-befell w j rest (deed_of op) (turned w read now j) why lines (turn-taken w read now j op rest is) e;
  fails = λ w read now j op rest why is h.
      let stops = befallen-stops w read now j rest (deed_of op) why h in
      ap (λ ops. (settled j (by_ops w read now j ops)).step) is ∙ ap (λ a. (settled j a).step) stops.1;
  stopped = stopped-befell;
  stops = befallen-stops;
}
