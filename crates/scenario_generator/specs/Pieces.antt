-- A text on its way to a sink in pieces: what the sink took, and what is waiting.
use Rattle.std.specs.Prelude.{◌≡◌, ◌≤◌, ℕ, ◌++◌, List, Option, Result, Err}
use Rattle.std.specs.Io.KnownBytes.{Appends}
use Rattle.orch_base.specs.Causes.{Rose}
use Rattle.orch_base.specs.Ends.{AppendsFront}
use Rattle.scenario_generator.specs.declared.fault.NotWritten.{NotWritten}
use Rattle.scenario_generator.specs.declared.fault.NotWritten.TheVariants.{Sink}

-- from `before` on, a sink took a prefix of the text, and the rest is waiting
pub record IsHanded (before now : Option (List ℕ)) (held text : List ℕ) : Type 0 where
  pub front : List ℕ
  pub took : Appends before now front
  pub is : text ≡ front ++ held

-- ---- steps of a text on its way, between two moments of the sink: whatever it was, and from wherever it was on its
-- way

-- the text stays
abbrev pub Stays : Option (List ℕ) → List ℕ → Option (List ℕ) → List ℕ → Type 0
Stays old held new held' = (before : Option (List ℕ)) (text : List ℕ) → IsHanded before old held text → IsHanded before new held' text

-- the sink took no more than a prefix of it
abbrev pub StaysFront : Option (List ℕ) → List ℕ → Option (List ℕ) → Type 0
StaysFront old held new = (before : Option (List ℕ)) (text : List ℕ) → IsHanded before old held text → AppendsFront before new text

-- this joins the text
abbrev pub Joins : List ℕ → Option (List ℕ) → List ℕ → Option (List ℕ) → List ℕ → Type 0
Joins more old held new held' = (before : Option (List ℕ)) (text : List ℕ) → IsHanded before old held text → IsHanded before new held' (text ++ more)

-- this was to join the text, of which the sink took no more than a prefix
abbrev pub JoinsFront : List ℕ → Option (List ℕ) → List ℕ → Option (List ℕ) → Type 0
JoinsFront more old held new = (before : Option (List ℕ)) (text : List ℕ) → IsHanded before old held text → AppendsFront before new (text ++ more)

-- the count never falls, and Sink comes only if it rose
pub record HasWriteCause {A : Type 0} (before now : ℕ) (result : Result A NotWritten) : Type 0 where
  pub later : before ≤ now
  pub failed : result ≡ Err Sink → Rose before now
