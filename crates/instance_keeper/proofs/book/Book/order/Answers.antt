use Rattle.std.proofs.Common.{◌≡◌, ◌<◌, All, length, ap, sym, ◌∙◌, subst, rules}
use Rattle.instance_keeper.proofs.Prelude.{IsOrder, IsOrder-by_name, ServerNo, by_name, by_name-within, length-by_name}
use Rattle.instance_keeper.proofs.book.Book.order.Goals as goal

pub returns-clause-count : goal.returns-clause-count
returns-clause-count c =
    let is : c.order.result.now ≡ by_name c.args.self.now.names = search rules in
    ap length is ∙ length-by_name c.args.self.now.names

pub returns-clause-once : goal.returns-clause-once
returns-clause-once c =
    let is : c.order.result.now ≡ by_name c.args.self.now.names = search rules in
    subst IsOrder (sym is) (IsOrder-by_name c.args.self.now.names)

pub returns-clause-within : goal.returns-clause-within
returns-clause-within c =
    let is : c.order.result.now ≡ by_name c.args.self.now.names = search rules in
    subst (All (λ (s : ServerNo). s.0 < length c.args.self.now.names)) (sym is) (by_name-within c.args.self.now.names)
