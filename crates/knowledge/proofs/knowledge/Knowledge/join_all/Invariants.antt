use Rattle.std.proofs.Common.{◌≡◌, length, vec_len, vec_capacity}
use Rattle.std.specs.Vec.Iter.{into_iter_items, into_iter_len}
use Rattle.knowledge.specs.KnowingBy.{known}
use Rattle.knowledge.proofs.Remaining.{Remains}
use Rattle.knowledge.proofs.knowledge.Knowledge.join_all.Given as goal

abbrev pub invariant-loop-begun : goal.invariant-loop-begun
invariant-loop-begun l = record {
  goes : (goal.iterator-loop-begun).can_next l.begun-iterator;
  finite : (goal.iterator-loop-begun).is_finite l.begun-iterator;
  count : into_iter_len l.begun-iterator ≡ length (into_iter_items l.begun-iterator);
  left : Remains l.fn.recoveries (known l.fn.self) (into_iter_items l.begun-iterator) (known l.self) l.self.audit.spare (vec_len l.self.jobs) (vec_capacity l.self.jobs);
}
