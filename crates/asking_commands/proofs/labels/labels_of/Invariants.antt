use Rattle.std.proofs.Common.{◌≡◌, ℕ, List, Bor, map, take, filter}
use Rattle.book_views.specs.Sources.{is_instance, label_at}
use Rattle.asking_commands.proofs.labels.labels_of.Given as goal

abbrev pub invariant-loop-no : goal.invariant-loop-no
invariant-loop-no l = map (λ (label : Bor (List ℕ)). label.now) l.labels.items ≡ map (label_at l.book) (filter (is_instance l.book) (take l.no-index l.order))
