-- What the conditions of a plan's choice decide.
use Rattle.std.specs.Prelude.{◌≡◌, Bool, true, false, List, Contains, Some}
use Rattle.plan_laws.specs.Prelude.{Equal, Ground, Line, Means, Purpose, ServerNo, Stopped, chosen_of, expected, follower_of, is_before}
use Rattle.plan_laws.specs.Prelude.{recovery_lines, server_order, stopped_in}
use Rattle.plan_laws.specs.Prelude.line
use Rattle.plan_laws.specs.Followed.{gathers}

-- what is noted of two servers is as a choice asks: the first has executed more than the second, or no less
abbrev pub IsMet : Bool → Stopped → Stopped → Type 0
IsMet true p s = is_before s.exec p.exec ≡ true
IsMet false p s = is_before p.exec s.exec ≡ false

-- What is noted of drained servers. Each of them is one that was expected, and no two have one name. This is noted of
-- the chosen one, and it meets each line of its choice.
pub record AreMet (g : Ground) (lines : List Line) (expects ds : List Stopped) (p : Stopped) : Type 0 where
  pub noted : stopped_in ds (Some p.no) ≡ Some p
  pub expected : (s : Stopped) → Contains ds s → (t : Stopped) × Contains expects t × (t.no ≡ s.no)
  pub named : (s t : Stopped) → Contains ds s → Contains ds t → server_order g.book.names s.no t.no ≡ Equal → s.no ≡ t.no
  pub met : (s : Stopped) (less : Bool) → Contains ds s → Contains lines (line.Chosen p.no s.no less) → IsMet less p s

-- two grounds have the same names, and for each server the same rule, logging and data centre
pub record AreAlike (g h : Ground) (f : ServerNo) : Type 0 where
  pub names : h.book.names ≡ g.book.names
  pub servers : (n : ServerNo) → follower_of h f n ≡ follower_of g f n

-- if what is noted meets the lines of a plan's choice, the server that is chosen then is the plan's
abbrev pub ConditionsDecideTheChoice : Type 0
ConditionsDecideTheChoice = (g h : Ground) (u : Purpose) (by : Means) (f : ServerNo) (ns : List ServerNo) (e p : Stopped) (ds : List Stopped) → gathers u ≡ true
    → chosen_of g f (expected g.book ns) ≡ Some e → e.no ≡ p.no
    → AreAlike g h f → AreMet g (recovery_lines g u by f ns) (expected g.book ns) ds p
    → chosen_of h f ds ≡ Some p
