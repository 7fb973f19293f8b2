use Rattle.std.proofs.Common.{None, ◌∷◌, [], ◌∙◌, sym, ap, length, length-append, subst, arith}
use Rattle.instance_keeper.proofs.Prelude.{CountsUp}
use Rattle.instance_keeper.proofs.Counts.{put_next, push_counts, values_push}
use Rattle.instance_keeper.proofs.book.empty_instances.Goals as goal

pub loop-no-preserved : goal.loop-no-preserved
loop-no-preserved c =
    let es = c.loop-no.instances.entries in
    let no = c.loop-no.no in
    let put = c.in_ok-insert.ensures.entries ∙ put_next es 0 no None c.loop-no.invariant.keys (omega arith) in
    record {
      keys = subst (CountsUp 0) (sym put) (push_counts es 0 no None c.loop-no.invariant.keys (omega arith));
      len = ap length put ∙ omega (arith, length-append es ((no, None) ∷ []));
      values = values_push es _ no put c.loop-no.invariant.values;
    }
