-- Lines of operations.
use Rattle.std.specs.Prelude.{List, [], ◌∷◌, map}
use Rattle.plan_lines.specs.Prelude.{Line, Op, ServerNo}
use Rattle.plan_lines.specs.Prelude.expect
use Rattle.plan_lines.specs.Prelude.line

-- an operation that expects nothing else
abbrev pub as_told : Op → Line
as_told o = line.Does o expect.AsTold

abbrev pub all_as_told : List Op → List Line
all_as_told ops = map as_told ops

-- operations of which the last reads a server that must be below this one
abbrev pub judged : ServerNo → List Op → List Line
judged f [] = []
judged f (o ∷ []) = line.Does o (expect.Below f) ∷ []
judged f (o ∷ p ∷ ps) = as_told o ∷ judged f (p ∷ ps)
