-- What operations are.
use Rattle.std.specs.Prelude.{ℕ, List, Option}
use Rattle.operations.specs.Prelude.{Ask, Line, ServerNo}
use Rattle.operations.specs.Prelude.asking
use Rattle.operations.specs.Prelude.threads
use Rattle.operations.specs.declared.op.Aim.{Aim}
use Rattle.operations.specs.declared.op.Crossing.{Crossing}
use Rattle.operations.specs.declared.op.Op.{Op}
use Rattle.operations.specs.declared.op.Op.TheVariants as op

-- an operation: those that ask one thing of one server are of one kind
pub data Deed : Type 0 where
  Look : (n : ServerNo) (from : Option ServerNo) → Deed
  Request : (n : ServerNo) (a : Ask) → Deed
  Until : (n : ServerNo) (aim : Aim) → Deed
  Await : (n : ServerNo) (aim : Aim) → Deed
  AwaitSet : (n m : ServerNo) → Deed
  Settle : (n : ServerNo) → Deed
  Cross : (c : Crossing) (a b : ServerNo) → Deed
  Same : (n : ServerNo) → Deed
  Auto : (n m : ServerNo) → Deed
  Match : (n m : ServerNo) (every : ℕ) → Deed
  CrossMatch : (n m : ServerNo) → Deed
  Finish : (lines : List Line) → Deed

abbrev pub deed_of : Op → Deed
deed_of (op.Status n from) = Look n from
deed_of (op.Stop n) = Request n (asking.Stop threads.Both)
deed_of (op.StopReceiver n) = Request n (asking.Stop threads.Receiver)
deed_of (op.Start n) = Request n asking.Start
deed_of (op.Reset n) = Request n asking.Reset
deed_of (op.Detach n) = Request n asking.Detach
deed_of (op.Reattach n) = Request n asking.Reattach
deed_of (op.ReadOnly n on) = Request n (asking.SetReadOnly on)
deed_of (op.Until n aim) = Until n aim
deed_of (op.Await n aim) = Await n aim
deed_of (op.AwaitSet n m) = AwaitSet n m
deed_of (op.Settle n) = Settle n
deed_of (op.Cross c a b) = Cross c a b
deed_of (op.Same n) = Same n
deed_of (op.Auto n m) = Auto n m
deed_of (op.Match n m every) = Match n m every
deed_of (op.CrossMatch n m) = CrossMatch n m
deed_of (op.Finish lines) = Finish lines
