-- The plan of a takeover: that of one in which nobody is lost on the way, of the pieces of the table of stages.
use Rattle.std.specs.Prelude.{true, false, List, [], ◌∷◌, ◌++◌, None}
use Rattle.plan_lines.specs.Prelude.{Line, ServerNo, flat_map, gather, trail}
use Rattle.plan_lines.specs.Prelude.cross
use Rattle.plan_lines.specs.Prelude.expect
use Rattle.plan_lines.specs.Prelude.line
use Rattle.plan_lines.specs.Prelude.op
use Rattle.plan_lines.specs.Pieces.{all_as_told, judged}

-- m, which has no source, takes no more writes, and its replica d comes to the end of its log
abbrev pub shut : ServerNo → ServerNo → List Line
shut m d = line.Does (op.Status m None) expect.Root ∷ all_as_told (op.ReadOnly m true ∷ gather m d)

-- another replica n comes to the position at which d stopped, and goes below d
abbrev pub lines_below : ServerNo → ServerNo → ServerNo → List Line
lines_below m d n = judged m (op.Status n None ∷ []) ++ (judged m (trail n d) ++ all_as_told (op.Cross cross.Down n d ∷ op.Start n ∷ []))

-- d loses its source, which goes below it, and takes writes
abbrev pub yielded : ServerNo → ServerNo → List Line
yielded m d = all_as_told (op.Reset d ∷ op.Cross cross.About m d ∷ op.ReadOnly d false ∷ op.Status m None ∷ op.Status d None ∷ [])

-- d takes the place of m, whose other replicas are these
abbrev pub takeover_lines : ServerNo → ServerNo → List ServerNo → List Line
takeover_lines m d others = shut m d ++ (flat_map (λ n. lines_below m d n) others ++ yielded m d)
