use Rattle.std.proofs.Common.{rules, ◌≡◌, ℕ, Vec, Global, Bor, map, length, ap, sym, ◌∙◌, subst, All, ◌<◌}
use Rattle.name_order.proofs.Prelude.{HostPort, IfOk-weaker, IsOrder, ServerNo, answers_always, by_name}
use Rattle.name_order.proofs.ByName.{length-by_name, IsOrder-by_name}
use Rattle.name_order.proofs.Arranged.{by_name-within, less, less_weak, sorted_is_by_name}
use Rattle.name_order.proofs.order.in_name_order.Goals as goal

abbrev number : ℕ × Bor HostPort → ServerNo
number s = record { 0 = s.0 }

pub returns-clause-order : goal.returns-clause-order
returns-clause-order c =
    let all : map number c.sort_by.new.self.items ≡ by_name c.args.names.now = sorted_is_by_name c.args.names.now c.in_ok-servers.servers.items c.sort_by.new.self.items c.in_ok-servers.ensures c.in_ok-sort_by.ensures.permutation (c.in_ok-sort_by.ensures.sorted less less_weak (answers_always _ _ _ (λ f a r f' called. search rules))) in
    IfOk-weaker c.numbers_of.result (λ (order : Vec ServerNo Global). order.items ≡ map number c.deref.result.now) (λ order. order.items ≡ by_name c.args.names.now)
    (λ order is. is ∙ ap (map number) c.deref.ensures.value ∙ all) c.numbers_of.ensures

pub returns-clause-count : goal.returns-clause-count
returns-clause-count c =
    IfOk-weaker c.numbers_of.result (λ (order : Vec ServerNo Global). order.items ≡ by_name c.args.names.now) (λ order. length order.items ≡ length c.args.names.now)
    (λ order is. ap length is ∙ length-by_name c.args.names.now) (returns-clause-order c)

pub returns-clause-once : goal.returns-clause-once
returns-clause-once c =
    IfOk-weaker c.numbers_of.result (λ (order : Vec ServerNo Global). order.items ≡ by_name c.args.names.now) (λ order. IsOrder order.items)
    (λ order is. subst IsOrder (sym is) (IsOrder-by_name c.args.names.now)) (returns-clause-order c)

pub returns-clause-within : goal.returns-clause-within
returns-clause-within c =
    IfOk-weaker c.numbers_of.result (λ (order : Vec ServerNo Global). order.items ≡ by_name c.args.names.now) (λ order. All (λ server. server.0 < length c.args.names.now) order.items)
    (λ order is. subst (All (λ server. server.0 < length c.args.names.now)) (sym is) (by_name-within c.args.names.now)) (returns-clause-order c)
