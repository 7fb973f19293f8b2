-- What is written of a single command.
use Rattle.std.specs.Prelude.{◌≡◌, ◌⊎◌, []}
use Rattle.tasks.specs.declared.ending.Ending.{Ending}
use Rattle.tasks.specs.declared.ending.Ending.TheVariants as ends
use Rattle.tasks.specs.declared.single.Report.{Report}
use Rattle.tasks.specs.Report.{Answer}
use Rattle.tasks.specs.Sinks.{End, FailsIn, Takes}

abbrev pub view : Report → Answer
view r = record { out = r.out.items; err = r.err.items; is_refused = r.is_refused }

-- both took their parts
pub record WritesBoth (a : Answer) (out err : End) : Type 0 where
  pub on_err : Takes err a.err
  pub on_out : Takes out a.out

-- err failed, or out did after it
abbrev pub WritesSome : Answer → End → End → Type 0
WritesSome a out err = (FailsIn err a.err × Takes out []) ⊎ (Takes err a.err × FailsIn out a.out)

-- what of an answer was written
abbrev pub Writes : Answer → End → End → Ending → Type 0
Writes a out err (ends.Written refused) = WritesBoth a out err × (refused ≡ a.is_refused)
Writes a out err ends.Unwritten = WritesSome a out err
Writes a out err ends.Keeper = ⊥
Writes a out err ends.Memory = Takes out [] × Takes err []
