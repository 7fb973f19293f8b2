use Rattle.std.proofs.Common.{rules}
use Rattle.std.proofs.lemmas.List.Sorted.{answers_always}
use Rattle.asking_commands.proofs.LabelOrder.{less, less_weak, sorted_labels}
use Rattle.asking_commands.proofs.labels.sorted_labels.Goals as goal

pub returns : goal.returns
returns c =
    sorted_labels c.in_ok-labels.labels.items c.sort_by.new.self.items _ c.in_ok-labels.ensures c.in_ok-sort_by.ensures.permutation
    (c.in_ok-sort_by.ensures.sorted less less_weak (answers_always _ _ _ (λ f a r g called. search rules)))
