use Rattle.std.proofs.Common.{◌≡◌, ◌+◌, ◌++◌, ◌∷◌, [], ℕ, Vec, Global, List, Bor, map, drop, ap, sym, ◌∙◌, not}
use Rattle.commands.specs.declared.line.Line.{Line}
use Rattle.commands.specs.declared.line.Line.TheVariants as line
use Rattle.asking_commands.specs.Labels.{clusters_of, each_once, is_again}
use Rattle.asking_commands.proofs.Nodes.{rest_of, seen, last-more, again-more, all-once}
use Rattle.asking_commands.proofs.labels.clusters.Goals as goal
use Rattle.asking_commands.proofs.labels.clusters.Goals.{then-is_last+in_ok-copy+in_ok-push, else-is_last}

pub loop-k-preserved : goal.loop-k-preserved
loop-k-preserved c =
    let same : c.deref.result.now ≡ c.deref-label-items.result.now = c.deref.ensures.value ∙ sym c.deref-label-items.ensures.value in
    let told =
    c.is_last.ensures
    ∙ ap (λ (xs : List (Bor (List ℕ))). not (is_again c.label-item.result.now (map seen xs))) (rest_of c.deref.result.now (c.loop-k.k + 1))
    ∙ ap (λ (xs : List (Bor (List ℕ))). not (is_again c.label-item.result.now (map seen (drop (c.loop-k.k + 1) xs)))) same in
    elim c.if-is_last.branch [
      | then-is_last+in_ok-copy+in_ok-push w ↦
          (ap (λ (xs : List Line). xs ++ map line.Cluster (each_once (map seen (drop (c.loop-k.k + 1) c.deref-label-items.result.now))))
          (ap (λ (v : Vec Line Global). v.items) w.lines-is ∙ w.in_ok-push.ensures.items ∙ ap (λ (l : List ℕ). c.loop-k.lines.items ++ line.Cluster l ∷ []) w.in_ok-copy.ensures)
          ∙ last-more c.loop-k.lines.items c.deref-label-items.result.now c.loop-k.k c.label-item.result c.label-item.is c.loop-k-test.true (sym told ∙ w.if-is_last.true)
          ∙ c.loop-k.invariant)
      | else-is_last w ↦
          (ap (λ (v : Vec Line Global). v.items ++ map line.Cluster (each_once (map seen (drop (c.loop-k.k + 1) c.deref-label-items.result.now)))) w.lines-is
          ∙ again-more c.loop-k.lines.items c.deref-label-items.result.now c.loop-k.k c.label-item.result c.label-item.is c.loop-k-test.true (sym told ∙ w.if-is_last.false)
          ∙ c.loop-k.invariant)
    ]

pub returns : goal.returns
unfolding clusters_of
returns c =
    c.new.ensures
    ∙ all-once c.loop-k.lines.items c.deref-label-items.result.now c.loop-k.k c.loop-k-test.false c.loop-k.invariant
    ∙ ap (λ (xs : List (Bor (List ℕ))). map line.Cluster (each_once (map seen xs))) c.deref-label-items.ensures.value
    ∙ ap (λ (xs : List (List ℕ)). map line.Cluster (each_once xs)) c.in_ok-labels.ensures
