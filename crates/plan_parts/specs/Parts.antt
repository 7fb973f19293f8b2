-- Parts of plans beside those of one replica: for several replicas one after another, for GTIDs, and for logs that
-- match.
use Rattle.std.specs.Prelude.{ℕ, List, [], ◌∷◌, map, Some, None}
use Rattle.std.specs.List.{flat_map}
use Rattle.operations.specs.OrchBase.declared.server.ServerNo.{ServerNo}
use Rattle.operations.specs.Commands.declared.line.Line.{Line}
use Rattle.operations.specs.Commands.declared.line.Line.TheVariants.{Follows}
use Rattle.operations.specs.declared.op.Op.{Op}
use Rattle.operations.specs.declared.op.Op.TheVariants.{Auto, CrossMatch, Match, Start, Status, Stop}
use Rattle.operations.specs.Plans.{auto, under, up}

-- replicas of i, which is below x, go to x
abbrev pub ups : List ServerNo → ServerNo → ServerNo → List Op
ups replicas i x = flat_map (λ r. up r i x) replicas

-- siblings of d, all below s, go below d
abbrev pub unders : List ServerNo → ServerNo → ServerNo → List Op
unders siblings d s = flat_map (λ r. under r d s) siblings

-- replicas go below d, by what was executed
abbrev pub autos : List ServerNo → ServerNo → List Op
autos replicas d = flat_map (λ r. auto r d) replicas

-- the lines of moves to one source, in order
abbrev pub following : List ServerNo → ServerNo → List Line
following replicas source = map (λ r. Follows r source) replicas

-- i finds its place under its source x by what was executed, from now on
abbrev pub again_auto : ServerNo → ServerNo → List Op
again_auto i x = Stop i ∷ Status i (Some x) ∷ Status x None ∷ Auto i x ∷ Start i ∷ Status i None ∷ []

-- r goes below d, if its log matches that of d by marks of this distance
abbrev pub matching : ServerNo → ServerNo → ℕ → List Op
matching r d every = Stop r ∷ Status r None ∷ Match r d every ∷ CrossMatch r d ∷ Start r ∷ Status r None ∷ []

-- replicas go below d, if their logs match
abbrev pub matchings : List ServerNo → ServerNo → ℕ → List Op
matchings replicas d every = flat_map (λ r. matching r d every) replicas
