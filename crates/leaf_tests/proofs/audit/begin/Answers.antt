use Rattle.std.proofs.Common.{Ok, sym, ◌∙◌, ap, arith}
use Rattle.audit_log.specs.Audits.{may_begin}
use Rattle.leaf_tests.proofs.audit.begin.Goals as goal

pub begin-requires-clause-may : goal.begin-requires-clause-may
begin-requires-clause-may c =
    let r = c.in_ok-recovery-in-Some-Ok.ensures in
    let block = r.3 in
    record {
      answered =
          (λ i. may_begin c.reserve.new.self.audit (r.1 i) (r.2 i))
          ∙ sym c.in-Some-Ok.ensures ∙ c.in-Some-Ok.field-0-is ∙ ap Ok (sym r.0);
      short = omega (arith, block);
    }
