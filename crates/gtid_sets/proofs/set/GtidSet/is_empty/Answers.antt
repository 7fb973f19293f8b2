use Rattle.std.proofs.Common.{◌≡◌, List, [], false, refl, sym, subst, arith, ◌↔◌, IsTrue}
use Rattle.gtid_sets.proofs.Prelude.{Interval, common_steps, holds}
use Rattle.gtid_sets.proofs.Search.{none_held}
use Rattle.gtid_sets.proofs.set.GtidSet.is_empty.Goals as goal

pub returns-clause-none : goal.returns-clause-none
returns-clause-none c =
    let list : IsTrue c.is_empty.result ↔ (c.args.self.now ≡ []) = grind (arith, common_steps) in
    (λ yes u n. subst (λ (xs : List Interval). holds xs u n ≡ false) (sym (list.0 yes)) refl, λ none. list.1 (none_held c.args.self.now c.list.ensures.set none))
