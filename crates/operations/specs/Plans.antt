-- Plans: the operations of a command.
use Rattle.std.specs.Prelude.{List, [], ◌∷◌, ◌++◌, Some, None}
use Rattle.operations.specs.Prelude.{Line, ServerNo}
use Rattle.operations.specs.declared.op.Aim.TheVariants.{EndOf, ExecOf}
use Rattle.operations.specs.declared.op.Crossing.TheVariants.{Up, Down, About}
use Rattle.operations.specs.declared.op.Op.{Op}
use Rattle.operations.specs.declared.op.Op.TheVariants.{Status, Stop, Start, Until, Await, AwaitSet, Cross, Same, Auto, Finish}

-- i, which is below x, goes to x's source g
abbrev pub up : ServerNo → ServerNo → ServerNo → List Op
up i x g =
    Stop i ∷ Stop x ∷ Status x (Some g) ∷ Status i (Some x) ∷ Until i (EndOf x) ∷ Await i (EndOf x) ∷ Stop i ∷ Cross Up i x ∷ Start i ∷ Start x ∷ Status i None ∷ []

-- i goes below its sibling d: both are below s, and are levelled first
abbrev pub under : ServerNo → ServerNo → ServerNo → List Op
under i d s =
    Stop i ∷ Stop d ∷ Status i (Some s) ∷ Status d (Some s) ∷ Until i (ExecOf d) ∷ Await i (ExecOf d) ∷ Until d (ExecOf i) ∷ Await d (ExecOf i)
    ∷ Stop i ∷ Stop d ∷ Status d (Some s) ∷ Cross Down i d ∷ Start d ∷ Start i ∷ Status i None ∷ []

-- i goes on under its source x, by coordinates
abbrev pub again : ServerNo → ServerNo → List Op
again i x = Stop i ∷ Status i (Some x) ∷ Same i ∷ Start i ∷ Status i None ∷ []

-- r goes below d, by what was executed
abbrev pub auto : ServerNo → ServerNo → List Op
auto r d = Stop r ∷ Status r None ∷ AwaitSet d r ∷ Status d None ∷ Auto r d ∷ Start r ∷ Status r None ∷ []

-- i, which is below x, and x change places under x's source g
abbrev pub swap : ServerNo → ServerNo → ServerNo → List Op
swap i x g =
    Stop i ∷ Stop x ∷ Status x (Some g) ∷ Status i (Some x) ∷ Until i (EndOf x) ∷ Await i (EndOf x) ∷ Stop i ∷ Status i (Some x) ∷ Cross Up i x ∷ Cross About x i
    ∷ Start i ∷ Start x ∷ Status i None ∷ Status x None ∷ []

-- one thing is asked of i, which is read then
abbrev pub asking : Op → ServerNo → List Op
asking op i = op ∷ Status i None ∷ []

abbrev pub finished : List Op → List Line → List Op
finished ops lines = ops ++ Finish lines ∷ []
