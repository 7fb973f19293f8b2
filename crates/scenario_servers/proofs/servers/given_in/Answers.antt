use Rattle.std.proofs.Common.{◌≡◌, ◌∙◌, ◌∷◌, [], List, length, refl, sym, ap, rules, arith}
use Rattle.std.proofs.lemmas.Result.{err_from_is_err_and}
use Rattle.scenario_servers.proofs.Prelude.{fault_of, into_iter_items, length_push, server_in}
use Rattle.scenario_servers.proofs.Dropped.{all_on, fails_on, next_on}
use Rattle.scenario_servers.proofs.servers.given_in.Goals as goal

nothing-left : {X : Type 0} (xs : List X) → length xs ≡ 0 → xs ≡ []
nothing-left [] h = refl
nothing-left (x ∷ xs) h = absurd (omega (arith, h))

pub server_at-requires : goal.server_at-requires
server_at-requires c =
    let at = c.servers in
    let short = ap length c.in-Some.ensures.steps.0 in
    let few = at.invariant.few in
    let len = c.len-number.ensures in
    omega (arith, short, few, len, at.given.ok)

pub returns-in_err-server_at : goal.returns-in_err-server_at
returns-in_err-server_at c =
    let at = c.servers in
    let steps : into_iter_items at.value-iterator ≡ c.in-Some.value ∷ into_iter_items c.next.new.self = c.in-Some.ensures.steps.0 in
    let here : c.len-number.result ≡ length at.given.items = let h = c.len-number.ensures in omega (arith, h, at.given.ok) in
    let fails = err_from_is_err_and c.from_residual-in_err-server_at.result c.from_residual-in_err-server_at.ensures.1 in
    rw (fails.1, fails.2)
    (fails_on (server_in c.args.gtid c.args.names.now c.args.uuids.now) c.args.items.items (into_iter_items at.value-iterator) (into_iter_items c.next.new.self) c.in-Some.value at.given.items c.len-number.result
    (fault_of c.in_err-server_at.field-0.0) steps here c.in_err-server_at.ensures at.invariant.read)

pub servers-preserved : goal.servers-preserved
servers-preserved c =
    let at = c.servers in
    let steps : into_iter_items at.value-iterator ≡ c.in-Some.value ∷ into_iter_items c.next.new.self = c.in-Some.ensures.steps.0 in
    let len = at.invariant.count in
    let few = at.invariant.few in
    let gone = c.in-Some.ensures.steps.1 in
    let short = ap length steps in
    let here : c.len-number.result ≡ length at.given.items = let h = c.len-number.ensures in omega (arith, h, at.given.ok) in
    let longer = ap length c.in_ok-push.ensures.items ∙ length_push at.given.items c.in_ok-server_at.field-0 in
    record {
      goes = search rules;
      finite = search rules;
      count = omega (arith, len, gone, short);
      few = omega (arith, few, short, longer);
      read = rw c.in_ok-push.ensures.items (next_on (server_in c.args.gtid c.args.names.now c.args.uuids.now) c.args.items.items (into_iter_items at.value-iterator) (into_iter_items c.next.new.self) c.in-Some.value at.given.items
          c.len-number.result c.in_ok-server_at.field-0 steps here c.in_ok-server_at.ensures at.invariant.read);
    }

pub returns : goal.returns
returns c =
    let at = c.servers in
    let none : into_iter_items at.value-iterator ≡ [] = nothing-left (into_iter_items at.value-iterator) (sym at.invariant.count ∙ c.in-None.ensures.steps.0) in
    all_on (server_in c.args.gtid c.args.names.now c.args.uuids.now) c.args.items.items (into_iter_items at.value-iterator) at.given.items none at.invariant.read
