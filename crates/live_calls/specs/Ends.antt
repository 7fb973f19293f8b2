-- How a call ends that asks for a live run.
use Rattle.std.specs.Prelude.{◌≡◌, ℕ, ◌⊎◌, true, false, List, [], codes, IfSome, Option, Result, Ok, Err}
use Rattle.live_calls.specs.Prelude.{Call, End, Ends, Entry, FailsIn, Fault, FaultsBy, Idles, IsLive, IsParse, OfRead, Places, Row, Scenario, Takes, TakesFront}
use Rattle.live_calls.specs.Prelude.{TakesLine, Usage, Way, call, fault_text, is_live, places_of, scenario_in, status_of}
use Rattle.live_calls.specs.Prelude.way
use Rattle.live_calls.specs.Reads.{live_scenario}
use Rattle.live_calls.specs.Reports.{LiveReport, live_report}

-- the command line isn't accepted, or it doesn't name `live`
abbrev pub IsPlain : List (List ℕ) → Type 0
IsPlain words = (p : Places) → places_of words ≡ Ok p → is_live p ≡ false

-- the command line is accepted, and names it
pub record AskLive (words : List (List ℕ)) : Type 0 where
  pub places : Places
  pub taken : places_of words ≡ Ok places
  pub live : is_live places ≡ true

-- The call's scenario was run in threads, and this holds for the report of what came of it. The report is of a journal
-- that is a run of the scenario's opening. The journal has each of its commands once and in order, all its other turns
-- in order, and no job that isn't ended.
pub record Lives (c : Call) (P : LiveReport → Type 0) : Type 0 where
  pub asks : AskLive c.words
  pub scenario : Scenario
  pub read : live_scenario c.bytes ≡ Ok scenario
  pub entries : List Entry
  pub is : IsLive scenario asks.places.wait entries
  pub holds : P (live_report scenario asks.places.wait c.kept entries)

-- What such a call has done by each way to end. The last rows are kept by one call before anything is written.
abbrev pub LiveEnds : Call → Way → Type 0
LiveEnds c (way.Reported refused) = Lives c (λ r. (c.kept_now ≡ r.kept) × Takes c.out r.out × Takes c.err [] × (refused ≡ r.is_refused))
LiveEnds c way.Drawn = ⊥
LiveEnds c way.Usage = ⊥
LiveEnds c way.Fault = (f : Fault) × (live_scenario c.bytes ≡ Err f) × Idles c (fault_text f)
LiveEnds c way.Source = Idles c (codes "read fault\n")
LiveEnds c way.Sink = Lives c (λ r. (c.kept_now ≡ r.kept) × FailsIn c.out r.out × TakesLine c.err (codes "write fault\n"))
LiveEnds c way.Keeper = Lives c (λ r. Idles c (codes "keeper fault\n"))
LiveEnds c way.Memory =
    Idles c (codes "out of memory\n") ⊎ Lives c (λ r. ((c.kept_now ≡ c.kept) ⊎ (c.kept_now ≡ r.kept)) × TakesFront c.out r.out × TakesLine c.err (codes "out of memory\n"))

-- so ends a call of any arguments that read so and name `live`, over the bytes that were read
abbrev pub LiveEndsOf : Result Places Usage → Option (List ℕ) → Option (List Row) → Option (List Row) → End → End → Way → Type 0
LiveEndsOf parsed left kept kept_now out err w = (words : List (List ℕ)) → IsParse words parsed → AskLive words → OfRead left (λ bytes. LiveEnds (call words bytes kept kept_now out err) w)

-- and so of any that read so and don't
abbrev pub PlainEndsOf : Result Places Usage → Option (List ℕ) → Option (List Row) → Option (List Row) → End → End → Way → Type 0
PlainEndsOf parsed left kept kept_now out err w = (words : List (List ℕ)) → IsParse words parsed → IsPlain words → OfRead left (λ bytes. Ends (call words bytes kept kept_now out err) w)

-- over any bytes that are this scenario
abbrev pub LiveEndsOver : Places → Scenario → Option (List Row) → Option (List Row) → End → End → Way → Type 0
LiveEndsOver p s kept kept_now out err w = (words : List (List ℕ)) (bytes : List ℕ) → places_of words ≡ Ok p → live_scenario bytes ≡ Ok s → LiveEnds (call words bytes kept kept_now out err) w

-- a call with this status ends by one of these ways
abbrev pub LiveEndsBy : Call → ℕ → Type 0
LiveEndsBy c status = (w : Way) × (status ≡ status_of w) × LiveEnds c w

-- 2 exactly if the bytes that the source had, if they are known, have a fault for a live run, unless the source failed
-- or memory ran out
abbrev pub LiveFaultsOf : Option (List ℕ) → ℕ → Type 0
LiveFaultsOf left status = IfSome left (λ bytes. FaultsBy (live_scenario bytes) status)

-- if the command line names `live` the bytes aren't a scenario of several orchestrators
abbrev pub RunsAlone : List (List ℕ) → List ℕ → Type 0
RunsAlone words bytes = AskLive words → (s : Scenario) → scenario_in bytes ≡ Ok s → s.nodes ≡ 1
