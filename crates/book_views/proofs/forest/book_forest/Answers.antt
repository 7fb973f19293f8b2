use Rattle.std.proofs.Common.{◌≡◌, ℕ, List, Option, length, ap, sym, ◌∙◌, subst, arith}
use Rattle.book_views.proofs.Prelude.{IfOk-weaker, IsClosed, IsForestOf, book_forest, forest-computed, source_nodes}
use Rattle.book_views.proofs.Nodes.{nodes-closed, length-nodes}
use Rattle.book_views.proofs.forest.book_forest.Goals as goal

pub make-requires-clause-few : goal.make-requires-clause-few
make-requires-clause-few c = omega (arith, ap length (c.deref.ensures.value ∙ c.in_ok-nodes.ensures), length-nodes c.args.book.now, c.servers.ensures.holds.small)

pub make-requires-clause-closed : goal.make-requires-clause-closed
make-requires-clause-closed c = subst IsClosed (sym (c.deref.ensures.value ∙ c.in_ok-nodes.ensures)) (nodes-closed c.args.book.now c.servers.ensures.holds)

pub returns-clause-edges : goal.returns-clause-edges
returns-clause-edges c =
    IfOk-weaker c.make.result (λ (f : List (Option ℕ)). IsForestOf c.deref.result.now f) (λ f. IsForestOf (source_nodes c.args.book.now) f)
    (λ f of. subst (λ (xs : List (Option ℕ)). IsForestOf xs f) (c.deref.ensures.value ∙ c.in_ok-nodes.ensures) of) c.make.ensures

pub returns-clause-forest : goal.returns-clause-forest
unfolding book_forest
returns-clause-forest c =
    IfOk-weaker c.make.result (λ (f : List (Option ℕ)). IsForestOf (source_nodes c.args.book.now) f) (λ f. f ≡ book_forest c.args.book.now)
    (λ f of. forest-computed (source_nodes c.args.book.now) f (nodes-closed c.args.book.now c.servers.ensures.holds) of) (returns-clause-edges c)

pub returns-clause-nodes : goal.returns-clause-nodes
returns-clause-nodes c =
    IfOk-weaker c.make.result (λ (f : List (Option ℕ)). IsForestOf (source_nodes c.args.book.now) f) (λ f. length f ≡ length c.args.book.now.names)
    (λ f of. of.nodes ∙ length-nodes c.args.book.now) (returns-clause-edges c)
