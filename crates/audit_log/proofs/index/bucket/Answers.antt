use Rattle.std.proofs.Common.{◌%◌, ◌∙◌, ap, length, arith, fold}
use Rattle.audit_log.proofs.Prelude.{bucket_of, mixed, take_all}
use Rattle.audit_log.proofs.index.bucket.Goals as goal

pub returns : goal.returns
unfolding bucket_of
returns c =
    ap (λ n. n % 4096)
    (c.label.invariant.number
    ∙ ap (fold mixed 0) (take_all c.label.byte-index c.args.label.now (omega (arith, c.label-test.false, ap length c.as_bytes-byte-items.ensures.value))))
