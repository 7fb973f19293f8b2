-- To which sources plans lead the servers of their lines.
use Rattle.std.specs.Prelude.{Bool, if◌then◌else◌, ◌≡◌, ℕ, ◌==◌, List, [], ◌∷◌, ◌++◌, Option, Some, None, All, Contains}
use Rattle.run_laws.specs.Prelude.{BookState, Command, Deed, Line, Op, ServerNo, World, deed_of, path_of, source_of}
use Rattle.run_laws.specs.Prelude.asking
use Rattle.run_laws.specs.Prelude.coords_plans
use Rattle.run_laws.specs.Prelude.cross
use Rattle.run_laws.specs.Prelude.deed
use Rattle.run_laws.specs.Prelude.gtid_plans
use Rattle.run_laws.specs.Prelude.line
use Rattle.run_laws.specs.Prelude.match_plans
use Rattle.run_laws.specs.Prelude.path_plans

-- the source below which each server was last read, if that reading asks for its source
abbrev pub Below : Type 0
Below = ℕ → Option ServerNo

abbrev pub read_below : Below → ServerNo → Option ServerNo → Below
read_below below k from = λ n. if k.0 == n then from else below n

abbrev pub below_after : Below → Deed → Below
below_after below (deed.Look k from) = read_below below k from
below_after below (deed.Request k a) = below
below_after below (deed.Until k to) = below
below_after below (deed.Await k to) = read_below below k None
below_after below (deed.AwaitSet k m) = read_below below k None
below_after below (deed.Settle k) = read_below below k None
below_after below (deed.Cross c a b) = below
below_after below (deed.Same k) = below
below_after below (deed.Auto k m) = below
below_after below (deed.Match k m every) = below
below_after below (deed.CrossMatch k m) = below
below_after below (deed.Finish lines) = below

-- The source to which an operation takes a server. One that goes up goes to the source below which the other was read.
-- One that goes on in its place goes to the source below which it was read itself. A reset and a detachment take its
-- source away, and none is known of one that is attached again.
abbrev pub led_by : ℕ → Below → Option ServerNo → Deed → Option ServerNo
led_by n below at (deed.Cross cross.Up a b) = if a.0 == n then below b.0 else at
led_by n below at (deed.Cross cross.Down a b) = if a.0 == n then Some b else at
led_by n below at (deed.Cross cross.About a b) = if a.0 == n then Some b else at
led_by n below at (deed.Cross cross.Back a b) = if a.0 == n then Some b else at
led_by n below at (deed.Same k) = if k.0 == n then below k.0 else at
led_by n below at (deed.Auto k m) = if k.0 == n then Some m else at
led_by n below at (deed.CrossMatch k m) = if k.0 == n then Some m else at
led_by n below at (deed.Request k asking.Reset) = if k.0 == n then None else at
led_by n below at (deed.Request k asking.Start) = at
led_by n below at (deed.Request k (asking.Stop which)) = at
led_by n below at (deed.Request k (asking.StartUntil to)) = at
led_by n below at (deed.Request k asking.Detach) = if k.0 == n then None else at
led_by n below at (deed.Request k asking.Reattach) = if k.0 == n then None else at
led_by n below at (deed.Request k (asking.SetReadOnly on)) = at
led_by n below at (deed.Look k from) = at
led_by n below at (deed.Until k to) = at
led_by n below at (deed.Await k to) = at
led_by n below at (deed.AwaitSet k m) = at
led_by n below at (deed.Settle k) = at
led_by n below at (deed.Match k m every) = at
led_by n below at (deed.Finish lines) = at

-- and operations, one after another
abbrev pub led_by_all : ℕ → Below → Option ServerNo → List Op → Option ServerNo
led_by_all n below at [] = at
led_by_all n below at (x ∷ xs) = led_by_all n (below_after below (deed_of x)) (led_by n below at (deed_of x)) xs

-- the lines that operations end with
abbrev pub lines_by : Deed → List Line
lines_by (deed.Finish lines) = lines
lines_by (deed.Look k from) = []
lines_by (deed.Request k a) = []
lines_by (deed.Until k to) = []
lines_by (deed.Await k to) = []
lines_by (deed.AwaitSet k m) = []
lines_by (deed.Settle k) = []
lines_by (deed.Cross c a b) = []
lines_by (deed.Same k) = []
lines_by (deed.Auto k m) = []
lines_by (deed.Match k m every) = []
lines_by (deed.CrossMatch k m) = []

abbrev pub lines_of_ops : List Op → List Line
lines_of_ops [] = []
lines_of_ops (x ∷ xs) = lines_by (deed_of x) ++ lines_of_ops xs

-- each server that a line has below another is led there
abbrev pub LeadsAsTold : List Op → Type 0
LeadsAsTold ops = (r s : ServerNo) → Contains (lines_of_ops ops) (line.Follows r s) → led_by_all r.0 (λ n. None) None ops ≡ Some s

-- no instance is its own source
abbrev pub HasNoOwnSource : BookState → Type 0
HasNoOwnSource b = (n x : ServerNo) → source_of b n ≡ Some x → x.0 ≡ n.0 → ⊥

-- a server has a path to a destination, and doesn't pass itself
pub record HasPath (b : BookState) (d n : ServerNo) : Type 0 where
  pub passed : List ServerNo
  pub under : Option ServerNo
  pub is : path_of b n d ≡ Some (record { passed = passed; under = under })
  pub apart : All (λ x. x.0 ≡ n.0 → ⊥) passed

-- Each command's plan leads them so, in a book that has no instance as its own source. A plan by paths does so if each
-- server that it moves has one.
pub record PlansLeadAsTold : Type 0 where
  pub coords : (w : World) (b : BookState) (c : Command) → HasNoOwnSource b → LeadsAsTold (coords_plans.plan_of w b c)
  pub gtids : (b : BookState) (c : Command) → LeadsAsTold (gtid_plans.plan_of b c)
  pub matches : (b : BookState) (every : ℕ) (c : Command) → LeadsAsTold (match_plans.plan_of b every c)
  pub relocates : (gtid : Bool) (b : BookState) (movers : List ServerNo) (d : ServerNo) → All (HasPath b d) movers → LeadsAsTold (path_plans.relocated gtid b movers (Some d))
