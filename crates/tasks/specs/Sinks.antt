-- What sinks take.
use Rattle.std.specs.Prelude.{◌≡◌, ℕ, ◌≤◌, ◌⊎◌, ◌++◌, List, Bool, true, false, Option}
use Rattle.tasks.specs.Prelude.{Appends, AppendsFront, Rose}
use Rattle.tasks.specs.declared.pieces.Pieces.{Pieces}

-- what a sink has taken, if that is known, and its count of faults
pub record Taken : Type 0 where
  pub bytes : Option (List ℕ)
  pub faults : ℕ

abbrev pub taken : Option (List ℕ) → ℕ → Taken
taken bytes faults = record { bytes = bytes; faults = faults }

-- a sink before and after
pub record End : Type 0 where
  pub old : Taken
  pub new : Taken

abbrev pub between : Taken → Taken → End
between old new = record { old = old; new = new }

-- a sink across a call, by what it has taken and its count of faults
abbrev pub across : Option (List ℕ) → ℕ → Option (List ℕ) → ℕ → End
across bytes faults bytes_then faults_then = between (taken bytes faults) (taken bytes_then faults_then)

-- it took this text
abbrev pub Takes : End → List ℕ → Type 0
Takes e text = Appends e.old.bytes e.new.bytes text

-- it took a prefix of this text
abbrev pub TakesFront : End → List ℕ → Type 0
TakesFront e text = AppendsFront e.old.bytes e.new.bytes text

-- its count of faults rose
abbrev pub Fails : End → Type 0
Fails e = Rose e.old.faults e.new.faults

-- it failed, and took a prefix of this text
pub record FailsIn (e : End) (text : List ℕ) : Type 0 where
  pub failed : Fails e
  pub front : TakesFront e text

-- it took this text, or it failed, and took a prefix of it
abbrev pub TakesLine : End → List ℕ → Type 0
TakesLine e text = Takes e text ⊎ FailsIn e text

-- a prefix of this text was taken, and the rest is waiting
pub record IsHanded (e : End) (held text : List ℕ) : Type 0 where
  pub front : List ℕ
  pub took : Takes e front
  pub is : text ≡ front ++ held
  pub later : e.old.faults ≤ e.new.faults

-- this text is on its way in pieces
abbrev pub IsOnTheWay : End → List ℕ → List ℕ → Bool → Type 0
IsOnTheWay e held text false = IsHanded e held text
IsOnTheWay e held text true = FailsIn e text

abbrev pub Carries : End → Pieces → List ℕ → Type 0
Carries e p text = IsOnTheWay e p.held.items text p.failed

-- ---- steps of a text on its way, between two moments of the sink: whatever it was, and from wherever it was on its
-- way

-- this joins the text
abbrev pub Joins : List ℕ → Pieces → Pieces → Taken → Taken → Type 0
Joins more p p' old new = (from : Taken) (text : List ℕ) → Carries (between from old) p text → Carries (between from new) p' (text ++ more)

-- the text stays
abbrev pub Stays : Pieces → Pieces → Taken → Taken → Type 0
Stays p p' old new = (from : Taken) (text : List ℕ) → Carries (between from old) p text → Carries (between from new) p' text

-- the sink took the rest of the text, and this
abbrev pub TakesRest : List ℕ → Pieces → Taken → Taken → Type 0
TakesRest more p old new = (from : Taken) (text : List ℕ) → Carries (between from old) p text → Takes (between from new) (text ++ more)

-- it failed, there or before
abbrev pub FailsInRest : List ℕ → Pieces → Taken → Taken → Type 0
FailsInRest more p old new = (from : Taken) (text : List ℕ) → Carries (between from old) p text → FailsIn (between from new) (text ++ more)
