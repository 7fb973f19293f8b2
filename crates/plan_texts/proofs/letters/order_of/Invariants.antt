use Rattle.std.proofs.Common.{◌≡◌, take}
use Rattle.plan_texts.specs.Letters.{order_of}
use Rattle.plan_texts.proofs.letters.order_of.Given as goal

abbrev pub invariant-loop-line : goal.invariant-loop-line
invariant-loop-line l = l.order.items ≡ order_of (take l.line-index l.lines)
