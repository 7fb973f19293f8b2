use Rattle.std.proofs.Common.{◌∙◌, subst, sym, All}
use Rattle.plan_lines.proofs.Within.{IsThere, expected-there}
use Rattle.plan_lines.proofs.branches.add_gathered.Goals as goal

pub add_choice-requires : goal.add_choice-requires
add_choice-requires c =
    subst (All (IsThere c.args.by.now.book.now)) (sym (c.deref.ensures.value ∙ c.in_ok-list.ensures)) (expected-there c.args.by.now.book.now c.args.replicas.now c.requires)
