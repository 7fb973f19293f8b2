use Rattle.std.proofs.Common.{◌≡◌, take}
use Rattle.plan_texts.specs.Statements.{latest_source}
use Rattle.plan_texts.proofs.told.latest_source.Given as goal

abbrev pub invariant-loop-line : goal.invariant-loop-line
invariant-loop-line l = l.found ≡ latest_source (take l.line-index l.before) l.no
